-- What a step of the work on a leaf does to the factors.
--
-- IsRaised terms most old new: the terms are added, and the norm has grown by no more than so much.
-- IsSettled costs scale lows highs vars old new sum: these variables are cleared, and the sum is what their gaps came to; the norm
--   has fallen by as much as the sum's magnitude asks for.
-- norm_limit: the greatest norm of factors, 2^120.
-- sum_limit: that of the sum of a path without buffers, 3 * 10^10 less.
-- free_limit: the greatest magnitude of an excess without buffers, 2^54.
-- vars_limit: the most variables of a problem, 2^20 pins and 8 kinds.
-- site_unit: how much one time of a path adds to the norm at a site at most: 8 kinds, 10^10 fs each. path_unit: 2^20 times as much.
use Rattle.std.specs.Prelude.{◌≡◌, ℕ, ◌+◌, ◌*◌, ◌≤◌, List, ℤ, ◌+ℤ◌, unsigned_abs}
use Rattle.hold_proof.specs.inner.Forms.{added, cleared, norm}
use Rattle.hold_proof.specs.inner.Gaps.{gaps}

abbrev pub norm_limit : ℕ
norm_limit = 1329227995784915872903807060280344576

abbrev pub sum_limit : ℕ
sum_limit = 18014368509481984

abbrev pub free_limit : ℕ
free_limit = 18014398509481984

abbrev pub vars_limit : ℕ
vars_limit = 8388608

abbrev pub site_unit : ℕ
site_unit = 80000000000

abbrev pub path_unit : ℕ
path_unit = 83886080000000000

pub record IsRaised (terms : List (ℕ × ℤ)) (most : ℕ) (old new : List ℤ) : Type 0 where
  pub factors : new ≡ added terms old
  pub norm : norm new ≤ norm old + most

pub record IsSettled (costs : List ℕ) (scale : ℕ) (lows highs : List ℕ) (vars : List ℕ) (old new : List ℤ) (sum : ℤ) : Type 0 where
  pub factors : new ≡ cleared vars old
  pub gaps : sum +ℤ gaps costs scale 0 new lows highs ≡ gaps costs scale 0 old lows highs
  pub norm : unsigned_abs sum + 16 * norm new ≤ 16 * norm old
