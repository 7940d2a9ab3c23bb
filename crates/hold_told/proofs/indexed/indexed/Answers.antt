use Rattle.std.proofs.Common.{◌≡◌, ℕ, ◌∙◌, arith}
use Rattle.std.specs.Prelude.{Some, None}
use Rattle.std.proofs.lemmas.Option.{slice_get_within}
use Rattle.hold_told.proofs.IndexLemmas.{index-there, no_index}
use Rattle.hold_told.proofs.indexed.indexed.Goals as goal

pub returns-in_default-clause-none : goal.returns-in_default-clause-none
returns-in_default-clause-none c = λ e name n small is. no_index c.args.text.now name n c.in_default.ensures is

pub split_at-requires : goal.split_at-requires
split_at-requires c = let within = slice_get_within c.args.text.now c.in-Some.bracket 91 c.in-Some.ensures.is in omega arith

pub returns-in-None-clause-none : goal.returns-in-None-clause-none
returns-in-None-clause-none c = λ e name n small is.
    let there = index-there c.args.text.now name n c.in-Some.bracket small c.in-Some.ensures is in
    never (c.in-None.ensures.each n small (c.split_at.ensures.back ∙ there))
  where
    never : {n : ℕ} → None ≡ Some n → ⊥
    never e = cc
