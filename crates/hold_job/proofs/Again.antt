-- What stands a second time, seen by one item after another.
use Rattle.std.proofs.Common.{◌≡◌, ℕ, ◌+◌, List, [], ◌∷◌, ◌++◌, Bool, true, false, cond, not, length, map, drop, get_or, ◌<◌, Some, refl, ap, sym, ◌∙◌}
use Rattle.std.specs.Prelude.{◌||◌}
use Rattle.std.specs.List.{list_any}
use Rattle.std.proofs.lemmas.List.{map-append, length-map, length-append}
use Rattle.std.proofs.lemmas.Bool.{not-true}
use Rattle.hold_base.proofs.Bools.{not-false}
use Rattle.hold_base.proofs.Lists.{drop-here}
use Rattle.hold_job.specs.declared.ends.Ends.{Ends}
use Rattle.hold_job.specs.declared.cell_times.TypeArc.{TypeArc}
use Rattle.hold_job.specs.Doubles.{again, same_ends}
use Rattle.hold_job.specs.inner.Ends.{ends_of, same_pair}

-- an item that is new
pub again_new : {A : Type 0} (same : A → A → Bool) (seen : List A) (x : A) (xs : List A) → list_any (same x) seen ≡ false → again same seen (x ∷ xs) ≡ again same (seen ++ x ∷ []) xs
again_new same seen x xs new = rw new refl

-- an item that isn't
pub again_old : {A : Type 0} (same : A → A → Bool) (seen : List A) (x : A) (xs : List A) → list_any (same x) seen ≡ true → again same seen (x ∷ xs) ≡ Some (length seen)
again_old same seen x xs old = rw old refl

any_ends : (arc : TypeArc) (arcs : List TypeArc) → list_any (same_ends arc) arcs ≡ list_any (same_pair (ends_of arc)) (map ends_of arcs)
any_ends arc [] = refl
any_ends arc (a ∷ arcs) = ap (λ b. same_ends arc a || b) (any_ends arc arcs)

-- arcs are told apart by their ends
pub again_ends : (seen arcs : List TypeArc) → again same_pair (map ends_of seen) (map ends_of arcs) ≡ again same_ends seen arcs
again_ends seen [] = refl
again_ends seen (a ∷ arcs) =
    ap (λ b. cond b (Some (length (map ends_of seen))) (again same_pair (map ends_of seen ++ ends_of a ∷ []) (map ends_of arcs))) (sym (any_ends a seen))
    ∙ ap (λ n. cond (list_any (same_ends a) seen) (Some n) (again same_pair (map ends_of seen ++ ends_of a ∷ []) (map ends_of arcs))) (length-map seen ends_of)
    ∙ ap (λ rest. cond (list_any (same_ends a) seen) (Some (length seen)) rest)
    (ap (λ s. again same_pair s (map ends_of arcs)) (sym (map-append ends_of seen (a ∷ []))) ∙ again_ends (seen ++ a ∷ []) arcs)

-- the next arc, whose ends stand a second time
pub ends_old : (arcs : List TypeArc) (place : ℕ) (arc : TypeArc) (seen : List Ends) (ends : Ends) (is_new : Bool) → place < length arcs → arc ≡ get_or arcs place arc
    → ends ≡ ends_of arc → is_new ≡ not (list_any (same_pair ends) seen) → is_new ≡ false → length seen ≡ place
    → again same_pair seen (map ends_of (drop place arcs)) ≡ again same_ends [] arcs → Some place ≡ again same_ends [] arcs
ends_old arcs place arc seen ends is_new within here are is not_new count rest =
    let at = drop-here arcs place arc within here in
    let old = ap (λ e. list_any (same_pair e) seen) (sym are) ∙ not-false (list_any (same_pair ends) seen) (sym is ∙ not_new) in
    ap Some (sym count) ∙ sym (again_old same_pair seen (ends_of arc) (map ends_of (drop (place + 1) arcs)) old)
    ∙ ap (λ l. again same_pair seen (map ends_of l)) (sym at) ∙ rest

-- what was seen once the ends of an arc were put to it
put_new : (there : Bool) (seen : List Ends) (ends : Ends) → there ≡ false → cond there seen (seen ++ ends ∷ []) ≡ seen ++ ends ∷ []
put_new true seen ends h = cc
put_new false seen ends h = refl

pub record IsSeenUpTo (arcs : List TypeArc) (place : ℕ) (seen : List Ends) : Type 0 where
  pub rest : again same_pair seen (map ends_of (drop place arcs)) ≡ again same_ends [] arcs
  pub count : length seen ≡ place

-- the next arc, whose ends are new
pub ends_new : (arcs : List TypeArc) (place : ℕ) (arc : TypeArc) (seen new : List Ends) (ends : Ends) (is_new : Bool) → place < length arcs → arc ≡ get_or arcs place arc
    → ends ≡ ends_of arc → is_new ≡ not (list_any (same_pair ends) seen) → is_new ≡ true → new ≡ cond (list_any (same_pair ends) seen) seen (seen ++ ends ∷ [])
    → length seen ≡ place → again same_pair seen (map ends_of (drop place arcs)) ≡ again same_ends [] arcs → IsSeenUpTo arcs (place + 1) new
ends_new arcs place arc seen new ends is_new within here are is fresh put count rest =
    let at = drop-here arcs place arc within here in
    let apart : list_any (same_pair ends) seen ≡ false = not-true (list_any (same_pair ends) seen) (sym is ∙ fresh) in
    let added : new ≡ seen ++ ends ∷ [] = put ∙ put_new (list_any (same_pair ends) seen) seen ends apart in
    let apart2 : list_any (same_pair (ends_of arc)) seen ≡ false = ap (λ e. list_any (same_pair e) seen) (sym are) ∙ apart in
    record {
      rest = ap (λ s. again same_pair s (map ends_of (drop (place + 1) arcs))) (added ∙ ap (λ e. seen ++ e ∷ []) are)
          ∙ sym (again_new same_pair seen (ends_of arc) (map ends_of (drop (place + 1) arcs)) apart2)
          ∙ ap (λ l. again same_pair seen (map ends_of l)) (sym at) ∙ rest;
      count = ap length added ∙ length-append seen (ends ∷ []) ∙ ap (λ n. n + 1) count;
    }
