use Rattle.std.proofs.Common.{◌↔◌, sym, ◌∙◌, subst}
use Rattle.std.specs.Prelude.{IsTrue}
use Rattle.hold_graph.specs.Boxes.{IsBox}
use Rattle.hold_proof.specs.Closing.{Closes}
use Rattle.hold_proof.specs.inner.Judging.{forced}
use Rattle.hold_proof.proofs.PassLemmas.{here_of}
use Rattle.hold_proof.proofs.WorkLemmas.{same-box}
use Rattle.hold_proof.proofs.judging.is_closed.Goals as goal

pub returns-then-not-is_fit-clause-closes : goal.returns-then-not-is_fit-clause-closes
returns-then-not-is_fit-clause-closes c = λ sites are. (λ is. absurd cc, λ closes. sym c.if-not-is_fit.true ∙ (c.is_fit.ensures sites are).1 closes.fit)

pub closes_over-requires-clause-within : goal.closes_over-requires-clause-within
closes_over-requires-clause-within c = λ sites are.
    subst (IsBox c.args.asked.now.problem.now sites) (sym (same-box (here_of c.args.walk.now) c.as_slice-2.result.now c.as_slice-3.result.now c.as_slice-2.ensures.value c.as_slice-3.ensures.value))
    (c.requires.within sites are)

pub closes_over-requires-clause-fit : goal.closes_over-requires-clause-fit
closes_over-requires-clause-fit c = λ sites are. (c.is_fit.ensures sites are).0 c.if-not-is_fit.false

pub returns-clause-closes : goal.returns-clause-closes
returns-clause-closes c = λ sites are.
    subst (λ box. IsTrue c.closes_over.result ↔ Closes c.args.asked.now.problem.now sites c.args.asked.now.paths.now (forced c.args.asked.now.below box) c.args.leaf.now)
    (same-box (here_of c.args.walk.now) c.as_slice-2.result.now c.as_slice-3.result.now c.as_slice-2.ensures.value c.as_slice-3.ensures.value) (c.closes_over.ensures.closes sites are)
