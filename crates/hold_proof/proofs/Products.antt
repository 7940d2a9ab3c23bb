-- Products of signed numbers over sums and differences, and in a row. For `omega` a product is an atom, so these are handed to it.
use Rattle.std.proofs.Common.{◌≡◌, ℕ, zero, suc, sym, ap, ◌∙◌, arith}
use Rattle.std.specs.Prelude.{ℤ, pos, negsuc, neg_ℤ, ◌+ℤ◌, ◌-ℤ◌, ◌*ℤ◌, ◌≤ℤ◌}
use Rattle.std.proofs.lemmas.Int.{ints}
use Rattle.std.proofs.Math.IntN.{suc_ℤ, pred_ℤ, suc_ℤ-*ℤ, pred_ℤ-*ℤ, +ℤ-suc_ℤ, +ℤ-pred_ℤ, *ℤ_comm, zero-*ℤ}

-- a multiple of what is at least 0 is at least 0
pub times-least : (times : ℕ) (value : ℤ) → pos 0 ≤ℤ value → pos 0 ≤ℤ (pos times *ℤ value)
times-least times (pos n) h = omega (arith, ints)
times-least times (negsuc n) h = absurd (omega (arith, ints))

-- one more, and one less, in the first factor
one-more : (a b k : ℤ) → (a +ℤ b) *ℤ k ≡ (a *ℤ k) +ℤ (b *ℤ k) → (a +ℤ suc_ℤ b) *ℤ k ≡ (a *ℤ k) +ℤ (suc_ℤ b *ℤ k)
one-more a b k so_far =
    let next = ap (λ z. z *ℤ k) (+ℤ-suc_ℤ a b) ∙ suc_ℤ-*ℤ (a +ℤ b) k in
    let last = suc_ℤ-*ℤ b k in
    omega (arith, ints, next, last, so_far)

one-less : (a b k : ℤ) → (a +ℤ b) *ℤ k ≡ (a *ℤ k) +ℤ (b *ℤ k) → (a +ℤ pred_ℤ b) *ℤ k ≡ (a *ℤ k) +ℤ (pred_ℤ b *ℤ k)
one-less a b k so_far =
    let next = ap (λ z. z *ℤ k) (+ℤ-pred_ℤ a b) ∙ pred_ℤ-*ℤ (a +ℤ b) k in
    let last = pred_ℤ-*ℤ b k in
    omega (arith, ints, next, last, so_far)

none-more : (a k : ℤ) → (a +ℤ pos 0) *ℤ k ≡ (a *ℤ k) +ℤ (pos 0 *ℤ k)
none-more a k =
    let same : a +ℤ pos 0 ≡ a = omega (arith, ints) in
    let next = ap (λ z. z *ℤ k) same in
    let none = zero-*ℤ k in
    omega (arith, ints, next, none)

-- a product of a sum
pub times-add_left : (a b k : ℤ) → (a +ℤ b) *ℤ k ≡ (a *ℤ k) +ℤ (b *ℤ k)
times-add_left a (pos zero) k = none-more a k
times-add_left a (pos (suc n)) k = one-more a (pos n) k (times-add_left a (pos n) k)
times-add_left a (negsuc zero) k = one-less a (pos 0) k (none-more a k)
times-add_left a (negsuc (suc n)) k = one-less a (negsuc n) k (times-add_left a (negsuc n) k)

pub times-add_right : (k a b : ℤ) → k *ℤ (a +ℤ b) ≡ (k *ℤ a) +ℤ (k *ℤ b)
times-add_right k a b =
    let whole = *ℤ_comm k (a +ℤ b) ∙ times-add_left a b k in
    let first = *ℤ_comm k a in
    let second = *ℤ_comm k b in
    omega (arith, ints, whole, first, second)

pub times-neg_left : (a k : ℤ) → neg_ℤ a *ℤ k ≡ neg_ℤ (a *ℤ k)
times-neg_left a k =
    let sum = times-add_left a (neg_ℤ a) k in
    let none : a +ℤ neg_ℤ a ≡ pos 0 = omega (arith, ints) in
    let gone = ap (λ z. z *ℤ k) none ∙ zero-*ℤ k in
    omega (arith, ints, sum, gone)

-- a product of a difference
pub times-sub_left : (a b k : ℤ) → (a -ℤ b) *ℤ k ≡ (a *ℤ k) -ℤ (b *ℤ k)
times-sub_left a b k =
    let sum = times-add_left a (neg_ℤ b) k in
    let less = times-neg_left b k in
    omega (arith, ints, sum, less)

pub times-sub_right : (k a b : ℤ) → k *ℤ (a -ℤ b) ≡ (k *ℤ a) -ℤ (k *ℤ b)
times-sub_right k a b =
    let whole = *ℤ_comm k (a -ℤ b) ∙ times-sub_left a b k in
    let first = *ℤ_comm k a in
    let second = *ℤ_comm k b in
    omega (arith, ints, whole, first, second)

row-more : (a b c : ℤ) → (a *ℤ b) *ℤ c ≡ a *ℤ (b *ℤ c) → (suc_ℤ a *ℤ b) *ℤ c ≡ suc_ℤ a *ℤ (b *ℤ c)
row-more a b c so_far =
    ap (λ z. z *ℤ c) (suc_ℤ-*ℤ a b) ∙ times-add_left (a *ℤ b) b c ∙ ap (λ z. z +ℤ (b *ℤ c)) so_far ∙ sym (suc_ℤ-*ℤ a (b *ℤ c))

row-less : (a b c : ℤ) → (a *ℤ b) *ℤ c ≡ a *ℤ (b *ℤ c) → (pred_ℤ a *ℤ b) *ℤ c ≡ pred_ℤ a *ℤ (b *ℤ c)
row-less a b c so_far =
    ap (λ z. z *ℤ c) (pred_ℤ-*ℤ a b) ∙ times-sub_left (a *ℤ b) b c ∙ ap (λ z. z -ℤ (b *ℤ c)) so_far ∙ sym (pred_ℤ-*ℤ a (b *ℤ c))

row-none : (b c : ℤ) → (pos 0 *ℤ b) *ℤ c ≡ pos 0 *ℤ (b *ℤ c)
row-none b c = ap (λ z. z *ℤ c) (zero-*ℤ b) ∙ zero-*ℤ c ∙ sym (zero-*ℤ (b *ℤ c))

-- three factors in a row
pub times-times : (a b c : ℤ) → (a *ℤ b) *ℤ c ≡ a *ℤ (b *ℤ c)
times-times (pos zero) b c = row-none b c
times-times (pos (suc n)) b c = row-more (pos n) b c (times-times (pos n) b c)
times-times (negsuc zero) b c = row-less (pos 0) b c (row-none b c)
times-times (negsuc (suc n)) b c = row-less (negsuc n) b c (times-times (negsuc n) b c)
