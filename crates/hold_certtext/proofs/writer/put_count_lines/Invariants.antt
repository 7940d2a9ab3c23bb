use Rattle.std.proofs.Common.{◌≡◌, ◌++◌, drop, map, take, All}
use Rattle.hold_certtext.specs.CertificateText.{count_line}
use Rattle.hold_certtext.specs.Lines.{text_of}
use Rattle.hold_certtext.specs.CertificateText.{IsCountInRange}
use Rattle.hold_certtext.proofs.writer.put_count_lines.Given as goal

abbrev pub invariant-loop-counted : goal.invariant-loop-counted
invariant-loop-counted l = record {
  text : l.out.items ++ text_of (map count_line (drop l.counted-index l.counts)) ≡ l.fn.out.items ++ text_of (map count_line l.counts);
  range : All IsCountInRange (take l.counted-index l.counts);
}
