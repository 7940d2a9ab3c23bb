-- What backslashes do in an atom: each makes the byte behind it plain, whatever that is, a backslash too.
--
-- plain_behind taken bytes: the bytes without the backslashes that made others plain, where one before them has made the
--     first plain or not. plain bytes: the same of a whole atom, so `a\\\/` is `a\/`.
-- last_bare_behind sign taken bytes: the place of the last of the bytes that is this sign and that no backslash made
--     plain; None where there is none. last_bare sign bytes: the same of a whole atom.
use Rattle.std.specs.Prelude.{ℕ, suc, Bool, true, false, ◌==◌, if◌then◌else◌, List, [], ◌∷◌, Option, None, Some, option_map}
use Rattle.std.specs.Option.{option_or}
use Rattle.hold_text.specs.Blanks.{backslash}

abbrev pub plain_behind : Bool → List ℕ → List ℕ
plain_behind taken [] = []
plain_behind true (b ∷ bs) = b ∷ plain_behind false bs
plain_behind false (b ∷ bs) = if b == backslash then plain_behind true bs else b ∷ plain_behind false bs

abbrev pub plain : List ℕ → List ℕ
plain bytes = plain_behind false bytes

abbrev pub last_bare_behind : ℕ → Bool → List ℕ → Option ℕ
last_bare_behind sign taken [] = None
last_bare_behind sign true (b ∷ bs) = option_map suc (last_bare_behind sign false bs)
last_bare_behind sign false (b ∷ bs) =
    if b == backslash then option_map suc (last_bare_behind sign true bs)
    else option_or (option_map suc (last_bare_behind sign false bs)) (if b == sign then Some 0 else None)

abbrev pub last_bare : ℕ → List ℕ → Option ℕ
last_bare sign bytes = last_bare_behind sign false bytes
