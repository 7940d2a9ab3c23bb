use Rattle.std.proofs.Common.{arith, subst}
use Rattle.std.proofs.lemmas.Grind.{common_steps}
use Rattle.std.proofs.lemmas.List.Elements.{All-more}
use Rattle.hold_certtext.specs.CertificateText.{IsPathInRange}
use Rattle.hold_certtext.proofs.PutLemmas.{All-taken}
use Rattle.hold_certtext.proofs.writer.put_path_lines.Goals as goal

pub loop-path-preserved : goal.loop-path-preserved
loop-path-preserved c = record {
  text = grind (arith, common_steps);
  range = All-more IsPathInRange c.args.paths.now c.loop-path.path-index c.path-item.result (omega arith) c.loop-path.invariant.range (subst IsPathInRange c.path-item.is c.in_ok-put_path_line.ensures.range);
}

pub returns-clause-range : goal.returns-clause-range
returns-clause-range c = All-taken IsPathInRange c.args.paths.now c.loop-path.path-index (omega arith) c.loop-path.invariant.range
