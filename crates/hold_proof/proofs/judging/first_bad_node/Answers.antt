use Rattle.std.proofs.Common.{ℕ, List, length, refl, sym, ap, ◌∙◌, subst, arith}
use Rattle.hold_base.proofs.Lists.{drop-here}
use Rattle.hold_proof.specs.Flaws.{IsFirstFlaw}
use Rattle.hold_proof.specs.inner.Judging.{forced}
use Rattle.hold_proof.specs.inner.Walk.{boxes_of}
use Rattle.hold_proof.proofs.FlawLemmas.{first_node-flaw}
use Rattle.hold_proof.proofs.JudgeLemmas.{judged-all, judged-unfit}
use Rattle.hold_proof.proofs.PassLemmas.{here_of, others_of, judged-begun, judged-left, judged-box, judged-here, judged-next, box-long, walk-same}
use Rattle.hold_proof.proofs.WorkLemmas.{box-few}
use Rattle.hold_proof.proofs.judging.first_bad_node.Goals as goal

pub walk_from-requires-clause-few : goal.walk_from-requires-clause-few
walk_from-requires-clause-few c =
    let few = box-few c.args.asked.now.problem.now c.sites-sites.result.now c.args.within.now c.requires.valid c.parts-parts.ensures.numbers c.sites-sites.ensures
    (c.requires.within c.sites-sites.result.now c.sites-sites.ensures) in
    let low = ap (λ (l : List ℕ). length l) c.as_slice-low.ensures in
    omega (arith, few, low)

pub walk_from-requires-clause-each : goal.walk_from-requires-clause-each
walk_from-requires-clause-each c =
    ap (λ (l : List ℕ). length l) c.as_slice-low.ensures
    ∙ box-long c.args.asked.now.problem.now c.sites-sites.result.now c.args.within.now (c.requires.within c.sites-sites.result.now c.sites-sites.ensures)
    ∙ sym (ap (λ (l : List ℕ). length l) c.as_slice-high.ensures)

pub loop-number-init : goal.loop-number-init
loop-number-init c = record {
  walk = walk-same c.as_slice-costs.result.now c.args.asked.now.problem.now.costs (length c.as_slice-low.result.now) (length c.args.within.now.low) c.in_ok-walk.walk c.as_slice-costs.ensures
      (ap (λ (l : List ℕ). length l) c.as_slice-low.ensures) c.in_ok-walk.ensures.walk;
  room = c.in_ok-scratch.ensures;
  judged = λ sites are. judged-begun c.args.asked.now.problem.now sites c.args.asked.now.paths.now c.args.asked.now.below c.args.within.now c.args.tree.now c.nodes-node-items.result.now c.as_slice-low.result.now
      c.as_slice-high.result.now (boxes_of c.in_ok-walk.walk) c.nodes-node-items.ensures (c.requires.within sites are) c.as_slice-low.ensures c.as_slice-high.ensures c.in_ok-walk.ensures.boxes;
}

pub passes-requires-clause-room : goal.passes-requires-clause-room
passes-requires-clause-room c = c.loop-number.invariant.room

pub passes-requires-clause-walk : goal.passes-requires-clause-walk
passes-requires-clause-walk c =
    walk-same c.args.asked.now.problem.now.costs c.args.asked.now.problem.now.costs (length c.args.within.now.low) (length c.loop-number.walk.low.items) c.loop-number.walk refl
    (sym c.loop-number.invariant.walk.low_each) c.loop-number.invariant.walk

pub passes-requires-clause-left : goal.passes-requires-clause-left
passes-requires-clause-left c =
    judged-left c.args.asked.now.problem.now c.sites-sites.result.now c.args.asked.now.paths.now c.args.asked.now.below c.args.within.now c.args.tree.now c.nodes-node-items.result.now c.loop-number.number
    c.node-item.result c.loop-number.walk
    (drop-here c.nodes-node-items.result.now c.loop-number.number c.node-item.result (omega arith) c.node-item.is)
    (c.loop-number.invariant.judged c.sites-sites.result.now c.sites-sites.ensures)

pub passes-requires-clause-within : goal.passes-requires-clause-within
passes-requires-clause-within c = λ sites are.
    judged-box c.args.asked.now.problem.now sites c.args.asked.now.paths.now c.args.asked.now.below c.args.within.now c.args.tree.now c.nodes-node-items.result.now c.loop-number.number
    c.node-item.result c.loop-number.walk
    (drop-here c.nodes-node-items.result.now c.loop-number.number c.node-item.result (omega arith) c.node-item.is)
    (c.loop-number.invariant.judged sites are)

pub returns-then-not-branch-clause-some : goal.returns-then-not-branch-clause-some
returns-then-not-branch-clause-some c = λ sites are.
    let here = drop-here c.nodes-node-items.result.now c.loop-number.number c.node-item.result (omega arith) c.node-item.is in
    let judged = judged-here c.args.asked.now.problem.now sites c.args.asked.now.paths.now c.args.asked.now.below c.args.within.now c.args.tree.now c.nodes-node-items.result.now c.loop-number.number
    c.node-item.result c.loop-number.walk here (c.loop-number.invariant.judged sites are) in
    let first = judged-unfit c.args.asked.now.problem.now sites c.args.asked.now.paths.now c.args.asked.now.below c.args.within.now c.args.tree.now c.nodes-node-items.result.now c.loop-number.number
    c.node-item.result (here_of c.loop-number.walk) (others_of c.loop-number.walk) here judged (λ fine. let is = (c.in_ok-passes.ensures.fine sites are).1 fine in let not = c.if-not-branch.true in cc) in
    subst (IsFirstFlaw c.args.asked.now.problem.now sites c.args.asked.now.paths.now (forced c.args.asked.now.below c.args.within.now) c.args.tree.now) (sym c.flaw_at.ensures)
    (first_node-flaw c.args.asked.now.problem.now sites c.args.asked.now.paths.now (forced c.args.asked.now.below c.args.within.now) (forced c.args.asked.now.below (here_of c.loop-number.walk)) c.args.tree.now
    c.loop-number.number c.node-item.result c.requires.paths first)

pub loop-number-preserved : goal.loop-number-preserved
loop-number-preserved c = record {
  walk = walk-same c.args.asked.now.problem.now.costs c.args.asked.now.problem.now.costs (length c.loop-number.walk.low.items) (length c.args.within.now.low) c.passes.new.walk refl
      c.loop-number.invariant.walk.low_each (c.in_ok-passes.ensures.walk c.if-not-branch.false);
  room = λ sites are. c.passes.ensures.room ∙ c.loop-number.invariant.room sites are;
  judged = λ sites are. judged-next c.args.asked.now.problem.now sites c.args.asked.now.paths.now c.args.asked.now.below c.args.within.now c.args.tree.now c.nodes-node-items.result.now c.loop-number.number
      c.node-item.result c.loop-number.walk (boxes_of c.passes.new.walk)
      (drop-here c.nodes-node-items.result.now c.loop-number.number c.node-item.result (omega arith) c.node-item.is)
      (c.loop-number.invariant.judged sites are)
      ((c.in_ok-passes.ensures.fine sites are).0 c.if-not-branch.false)
      (c.in_ok-passes.ensures.boxes c.if-not-branch.false);
}

pub returns-clause-none : goal.returns-clause-none
returns-clause-none c = λ sites are. record {
  paths_checked = c.requires.paths;
  proves = judged-all c.args.asked.now.problem.now sites c.args.asked.now.paths.now c.args.asked.now.below c.args.within.now c.args.tree.now c.nodes-node-items.result.now c.loop-number.number
      (boxes_of c.loop-number.walk) (omega arith) (c.loop-number.invariant.judged sites are);
}
