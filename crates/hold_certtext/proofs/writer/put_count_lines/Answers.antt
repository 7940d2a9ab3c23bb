use Rattle.std.proofs.Common.{arith}
use Rattle.std.proofs.lemmas.Grind.{common_steps}
use Rattle.std.proofs.lemmas.List.Elements.{All-more}
use Rattle.hold_certtext.specs.CertificateText.{IsCountInRange}
use Rattle.hold_certtext.proofs.PutLemmas.{All-taken}
use Rattle.hold_certtext.proofs.writer.put_count_lines.Goals as goal

pub loop-counted-preserved : goal.loop-counted-preserved
loop-counted-preserved c = record {
  text = grind (arith, common_steps);
  range = All-more IsCountInRange c.args.counts.now c.loop-counted.counted-index _ (omega arith) c.loop-counted.invariant.range (c.in_ok-put_u32.ensures.range, c.in_ok-put_u8.ensures.range);
}

pub returns-clause-range : goal.returns-clause-range
returns-clause-range c = All-taken IsCountInRange c.args.counts.now c.loop-counted.counted-index (omega arith) c.loop-counted.invariant.range
