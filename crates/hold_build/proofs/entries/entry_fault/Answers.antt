use Rattle.std.proofs.Common.{ℕ, List, [], ◌∷◌, ◌++◌, ap, ◌∙◌, to_z, w64}
use Rattle.std.specs.Prelude.{codes}
use Rattle.std.specs.Fmt.{signed_decimal}
use Rattle.std.proofs.lemmas.Int.{to_z_pos}
use Rattle.hold_build.specs.declared.fault.BuildFault.TheVariants.{Unknown}
use Rattle.hold_build.proofs.entries.entry_fault.Goals as goal

pub returns : goal.returns
returns c = ap Unknown (c.in_ok-from_bytes.ensures ∙ c.deref.ensures.value ∙ c.in_ok-put_number.ensures.ok
    ∙ ap (λ (l : List ℕ). l ++ signed_decimal (to_z w64 c.args.place)) (c.in_ok-push.ensures.items ∙ ap (λ (l : List ℕ). l ++ 46 ∷ []) c.in_ok-path.ensures.items)
    ∙ ap (λ z. c.args.key.now ++ codes "." ++ signed_decimal z) (to_z_pos w64 c.args.place c.requires))
