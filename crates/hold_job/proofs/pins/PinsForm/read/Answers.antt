use Rattle.std.proofs.Common.{[], ◌++◌, ◌∙◌, ap, subst}
use Rattle.toml.specs.View.{array_view}
use Rattle.hold_base.specs.Answers.{Answers}
use Rattle.hold_job.specs.Outcome.{◌>>=◌, of_kind}
use Rattle.hold_job.specs.Lists.{in_turn}
use Rattle.hold_job.specs.Names.{new_name}
use Rattle.hold_job.proofs.NameSetLemmas.{among_behind, in_turn_same, new_name_same}
use Rattle.hold_job.proofs.pins.PinsForm.read.Goals as goal

pub returns : goal.returns
returns c =
    let taken = c.args.self.now.taken.now in
    let same = in_turn_same (λ so_far. new_name (c.in_ok-taken.taken ++ so_far)) (λ so_far. new_name (taken ++ so_far))
    (λ so_far. new_name_same _ _ (among_behind _ _ so_far c.in_ok-taken.ensures)) [] (array_view c.in-Some.items.now) in
    subst (Answers c.new_names.result) (same ∙ ap (λ o. of_kind o >>= in_turn (λ so_far. new_name (taken ++ so_far)) []) c.in-Some.ensures) c.new_names.ensures
