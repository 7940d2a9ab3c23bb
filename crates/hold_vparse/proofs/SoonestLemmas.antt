-- The soonest of identifiers, found from the left.
use Rattle.std.proofs.Common.{◌≡◌, ℕ, List, [], ◌∷◌, ◌++◌, Bool, true, false, cond, refl, sym, ap, ◌∙◌, arith}
use Rattle.std.specs.Prelude.{Option, Some, None, nat_lt}
use Rattle.std.specs.Option.{option_map}
use Rattle.std.proofs.lemmas.Bool.{ltb-true, ltb-false, lt-ltb, le-ltb}
use Rattle.hold_vsyntax.specs.declared.tree.Ident.{Ident}
use Rattle.hold_vparse.specs.Soonest.{soonest}
use Rattle.hold_vparse.specs.inner.Found.{merged}

first-assoc : (i j k : Ident) → cond (nat_lt (cond (nat_lt k.at j.at) k j).at i.at) (cond (nat_lt k.at j.at) k j) i ≡ cond (nat_lt k.at (cond (nat_lt j.at i.at) j i).at) k (cond (nat_lt j.at i.at) j i)
first-assoc i j k = go (nat_lt k.at j.at) (nat_lt j.at i.at) refl refl
  where
    go : (kj ji : Bool) → nat_lt k.at j.at ≡ kj → nat_lt j.at i.at ≡ ji → cond (nat_lt (cond kj k j).at i.at) (cond kj k j) i ≡ cond (nat_lt k.at (cond ji j i).at) k (cond ji j i)
    go true true a b =
        let c : nat_lt k.at i.at ≡ true = lt-ltb k.at i.at (omega (arith, ltb-true k.at j.at a, ltb-true j.at i.at b)) in
        ap (λ (t : Bool). cond t k i) c ∙ sym (ap (λ (t : Bool). cond t k j) a)
    go true false a b = refl
    go false true a b = ap (λ (t : Bool). cond t j i) b ∙ sym (ap (λ (t : Bool). cond t k j) a)
    go false false a b =
        let c : nat_lt k.at i.at ≡ false = le-ltb k.at i.at (omega (arith, ltb-false k.at j.at a, ltb-false j.at i.at b)) in
        ap (λ (t : Bool). cond t j i) b ∙ sym (ap (λ (t : Bool). cond t k i) c)

pub merged-assoc : (a b c : Option Ident) → merged (merged a b) c ≡ merged a (merged b c)
merged-assoc None b c = refl
merged-assoc (Some i) None c = refl
merged-assoc (Some i) (Some j) None = refl
merged-assoc (Some i) (Some j) (Some k) = ap Some (sym (first-assoc i j k))

pub soonest-append : (xs ys : List Ident) → soonest (xs ++ ys) ≡ merged (soonest xs) (soonest ys)
soonest-append [] ys = refl
soonest-append (x ∷ xs) ys = ap (λ (o : Option Ident). merged (Some x) o) (soonest-append xs ys) ∙ sym (merged-assoc (Some x) (soonest xs) (soonest ys))

-- one step: what one item gives goes to what was found
pub soonest-step : (found more whole : Option Ident) (here rest : List Ident) → more ≡ merged found (soonest here) → merged found (soonest (here ++ rest)) ≡ whole → merged more (soonest rest) ≡ whole
soonest-step found more whole here rest e so_far =
    ap (λ (o : Option Ident). merged o (soonest rest)) e ∙ merged-assoc found (soonest here) (soonest rest) ∙ ap (merged found) (sym (soonest-append here rest)) ∙ so_far

-- where none stands first, there is none
pub soonest_none : (is : List Ident) → soonest is ≡ None → is ≡ []
soonest_none [] h = refl
soonest_none (i ∷ is) h = cc

-- where no identifier was found whose name to tell, there is none
pub unnamed : (is : List Ident) (found : Option Ident) (name : Option (List ℕ)) → found ≡ soonest is → name ≡ option_map (λ (i : Ident). i.name) found → name ≡ None → is ≡ []
unnamed is None name at named none = soonest_none is (sym at)
unnamed is (Some i) name at named none = cc
