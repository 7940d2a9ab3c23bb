-- Factors: a list of a number for each variable.
--
-- form_value factors counts: the sum of each factor times the count of its variable.
-- A term is a variable and what is added to its factor.
-- terms_value terms counts: the sum of each term's number times the count of its variable.
-- raised factors var by: the factors with so much added to that of the variable.
-- added terms factors: the factors with each term's number added to that of its variable.
-- cleared vars factors: the factors with 0 for each of these variables.
-- norm factors: the sum of the magnitudes of the factors. So it bounds each of them.

use Rattle.std.specs.Prelude.{ℕ, ◌+◌, List, [], ◌∷◌, slice_index, slice_index_or, slice_set, ℤ, pos, ◌+ℤ◌, ◌*ℤ◌, unsigned_abs}

abbrev pub form_value : List ℤ → List ℕ → ℤ
form_value [] counts = pos 0
form_value (factor ∷ factors) [] = pos 0
form_value (factor ∷ factors) (count ∷ counts) = (factor *ℤ pos count) +ℤ form_value factors counts

abbrev pub terms_value : List (ℕ × ℤ) → List ℕ → ℤ
terms_value [] counts = pos 0
terms_value (term ∷ terms) counts = (term.1 *ℤ pos (slice_index counts term.0)) +ℤ terms_value terms counts

abbrev pub raised : List ℤ → ℕ → ℤ → List ℤ
raised factors var by = slice_set factors var (slice_index_or factors var (pos 0) +ℤ by)

abbrev pub added : List (ℕ × ℤ) → List ℤ → List ℤ
added [] factors = factors
added (term ∷ terms) factors = added terms (raised factors term.0 term.1)

abbrev pub cleared : List ℕ → List ℤ → List ℤ
cleared [] factors = factors
cleared (var ∷ vars) factors = cleared vars (slice_set factors var (pos 0))

abbrev pub norm : List ℤ → ℕ
norm [] = 0
norm (factor ∷ factors) = unsigned_abs factor + norm factors
