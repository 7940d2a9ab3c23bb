use Rattle.std.proofs.Common.{◌≡◌, ◌++◌, drop, map, take, All}
use Rattle.hold_certtext.specs.CertificateText.{path_line}
use Rattle.hold_certtext.specs.Lines.{text_of}
use Rattle.hold_certtext.specs.CertificateText.{IsPathInRange}
use Rattle.hold_certtext.proofs.writer.put_path_lines.Given as goal

abbrev pub invariant-loop-path : goal.invariant-loop-path
invariant-loop-path l = record {
  text : l.out.items ++ text_of (map path_line (drop l.path-index l.paths)) ≡ l.fn.out.items ++ text_of (map path_line l.paths);
  range : All IsPathInRange (take l.path-index l.paths);
}
