-- Where an attribute ends, by where its next byte stands.
use Rattle.std.proofs.Common.{◌≡◌, ℕ, ◌+◌, List, ◌∷◌, Option, Some, refl, arith}
use Rattle.std.specs.Prelude.{◌&&◌, ◌==◌, if◌then◌else◌}
use Rattle.hold_vlex.specs.Bytes.{right_parenthesis}
use Rattle.hold_text.specs.Blanks.{star, heads}
use Rattle.hold_vlex.specs.Front.{attribute_end, string_end, after_backslash}
use Rattle.hold_vlex.specs.inner.Past.{within_after, is_plain}
use Rattle.hold_vlex.specs.declared.past.Within.{Within}
use Rattle.hold_vlex.specs.declared.past.Within.TheVariants.{Plain, Quoted, Slashed}

-- the end of the attribute of which bs are left, where their first byte stands within so
abbrev pub end_from : Within → ℕ → List ℕ → Option ℕ
end_from Plain n bs = attribute_end n bs
end_from Quoted n bs = string_end n bs
end_from Slashed n bs = after_backslash n bs

-- by the byte that stands there: the end, or where the next byte stands
pub end_from_next : (w : Within) (n b : ℕ) (bs : List ℕ) → end_from w n (b ∷ bs) ≡ (if is_plain w && (b == star && heads right_parenthesis bs) then Some (n + 2) else end_from (within_after w b) (n + 1) bs)
end_from_next Plain n b bs = grind arith
end_from_next Quoted n b bs = grind arith
end_from_next Slashed n b bs = refl
