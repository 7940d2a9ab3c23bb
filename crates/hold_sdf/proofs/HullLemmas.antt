-- The hull of times that are read one by one.
use Rattle.std.proofs.Common.{◌≡◌, ℕ, List, [], ◌∷◌, ◌++◌, Option, Some, None, refl, sym, ap, ◌∙◌}
use Rattle.std.proofs.lemmas.List.Sums.{fold-append}
use Rattle.std.specs.Prelude.{Result, Ok, Err}
use Rattle.hold_base.specs.declared.time.Interval.{Interval}
use Rattle.hold_base.specs.Interval.{hull}
use Rattle.hold_sdflex.specs.Items.{Word, Group, Item, items_in, first_item, first_group, atom_of, group_of, behind}
use Rattle.std.specs.Option.{option_to_list}
use Rattle.hold_sdf.specs.declared.fault.SdfFault.{SdfFault}
use Rattle.hold_sdf.specs.Times.{time_of}
use Rattle.hold_sdf.specs.Entries.{and_then, with_time, times}
use Rattle.hold_sdf.specs.Shapes.{atoms, delay_numbers, numbers_by, numbers_of}
use Rattle.hold_sdf.specs.inner.Hulls.{time_or, number_at, widened, hulled}

widened-append : (s : Option Interval) (xs ys : List Interval) → widened s (xs ++ ys) ≡ widened (widened s xs) ys
widened-append None [] ys = refl
widened-append None (x ∷ xs) ys = ap Some (fold-append hull x xs ys)
widened-append (Some s) xs ys = ap Some (fold-append hull s xs ys)

abbrev Times : Type 0
Times = Result (List Interval) SdfFault

abbrev both : Times → Times → Times
both a b = and_then a (λ xs. and_then b (λ ys. Ok (xs ++ ys)))

with_time-both : (t : Option Interval) (at : ℕ) (a b : Times) → with_time t at (both a b) ≡ both (with_time t at a) b
with_time-both None at a b = refl
with_time-both (Some t) at (Err e) b = refl
with_time-both (Some t) at (Ok xs) (Err e) = refl
with_time-both (Some t) at (Ok xs) (Ok ys) = refl

both-nil : (b : Times) → both (Ok []) b ≡ b
both-nil (Err e) = refl
both-nil (Ok ys) = refl

times-append : (power : ℕ) (xs ys : List Word) → times power (xs ++ ys) ≡ both (times power xs) (times power ys)
times-append power [] ys = sym (both-nil (times power ys))
times-append power (x ∷ xs) ys = ap (with_time (time_of power x.bytes) x.at) (times-append power xs ys) ∙ with_time-both (time_of power x.bytes) x.at (times power xs) (times power ys)

abbrev hull_found : Option Interval → Times → Result (Option Interval) SdfFault
hull_found s a = and_then a (λ found. Ok (widened s found))

hull_found-both : (s : Option Interval) (a b : Times) → hull_found s (both a b) ≡ and_then (hull_found s a) (λ t. hull_found t b)
hull_found-both s (Err e) b = refl
hull_found-both s (Ok xs) (Err e) = refl
hull_found-both s (Ok xs) (Ok ys) = ap Ok (widened-append s xs ys)

pub hulled-append : (power : ℕ) (s : Option Interval) (xs ys : List Word) → hulled power s (xs ++ ys) ≡ and_then (hulled power s xs) (λ t. hulled power t ys)
hulled-append power s xs ys = ap (hull_found s) (times-append power xs ys) ∙ hull_found-both s (times power xs) (times power ys)

-- more numbers behind those that are read
pub hulled_ok : (power : ℕ) (s t : Option Interval) (xs ys : List Word) → hulled power s xs ≡ Ok t → hulled power s (xs ++ ys) ≡ hulled power t ys
hulled_ok power s t xs ys is = hulled-append power s xs ys ∙ ap (λ a. and_then a (λ t. hulled power t ys)) is

pub hulled_err : (power : ℕ) (s : Option Interval) (fault : SdfFault) (xs ys : List Word) → hulled power s xs ≡ Err fault → hulled power s (xs ++ ys) ≡ Err fault
hulled_err power s fault xs ys is = hulled-append power s xs ys ∙ ap (λ a. and_then a (λ t. hulled power t ys)) is

pub hulled_none : (power : ℕ) (s : Option Interval) → hulled power s [] ≡ Ok s
hulled_none power None = refl
hulled_none power (Some s) = refl

-- one number
pub number_ok : (power : ℕ) (s : Option Interval) (w : Word) (time span : Interval) → number_at power w ≡ Ok time → Some span ≡ widened s (time ∷ []) → hulled power s (w ∷ []) ≡ Ok (Some span)
number_ok power s w time span is wide = by_time (time_of power w.bytes) is
  where
    by_time : (o : Option Interval) → time_or o w.at ≡ Ok time → hull_found s (with_time o w.at (Ok [])) ≡ Ok (Some span)
    by_time None e = cc
    by_time (Some t) e = let same : t ≡ time = cc in ap (λ x. Ok (widened s (x ∷ []))) same ∙ ap Ok (sym wide)

pub number_err : (power : ℕ) (s : Option Interval) (w : Word) (fault : SdfFault) → number_at power w ≡ Err fault → hulled power s (w ∷ []) ≡ Err fault
number_err power s w fault is = by_time (time_of power w.bytes) is
  where
    by_time : (o : Option Interval) → time_or o w.at ≡ Err fault → hull_found s (with_time o w.at (Ok [])) ≡ Err fault
    by_time None e = cc
    by_time (Some t) e = cc

-- one item more
pub atoms-more : (items : List Item) (item : Item) → Some item ≡ first_item items → atoms items ≡ option_to_list (atom_of item) ++ atoms (behind items)
atoms-more [] item is = cc
atoms-more (x ∷ rest) item is = let same : x ≡ item = cc in ap (λ y. option_to_list (atom_of y) ++ atoms rest) same

pub atoms-end : (items : List Item) → None ≡ first_item items → atoms items ≡ []
atoms-end [] is = refl
atoms-end (x ∷ rest) is = cc

pub numbers_of-more : (items : List Item) (g : Group) → Some g ≡ first_group items → numbers_of items ≡ delay_numbers (items_in g.inner) ++ numbers_of (behind items)
numbers_of-more [] g is = cc
numbers_of-more (x ∷ rest) g is = by_group (group_of x) is
  where
    by_group : (o : Option Group) → Some g ≡ o → numbers_by o (numbers_of rest) ≡ delay_numbers (items_in g.inner) ++ numbers_of rest
    by_group None e = cc
    by_group (Some h) e = let same : h ≡ g = cc in ap (λ k. delay_numbers (items_in k.inner) ++ numbers_of rest) same

pub numbers_of-end : (items : List Item) → None ≡ first_group items → numbers_of items ≡ []
numbers_of-end [] is = refl
numbers_of-end (x ∷ rest) is = ap (λ o. numbers_by o (numbers_of rest)) (sym is)

pub ruleset number_steps = (number_ok, number_err)

pub ruleset value_steps = (atoms-more, atoms-end, hulled_ok, hulled_err, hulled_none)

pub ruleset delay_steps = (numbers_of-more, numbers_of-end, hulled_ok, hulled_err, hulled_none)
