use Rattle.std.proofs.Common.{◌≡◌, ℕ, List, ◌∷◌, [], ◌++◌, ◌+◌, ◌∙◌, ap, drop, subst, sym}
use Rattle.std.specs.Prelude.{if◌then◌else◌}
use Rattle.hold_base.proofs.Lists.{drop-here}
use Rattle.hold_build.proofs.NameLemmas.{IsNamedUpTo, named-next, named-none}
use Rattle.hold_values.specs.inner.Keys.{check_text, check_texts}
use Rattle.hold_values.proofs.defaults.check_places.Goals as goal

pub loop-place-init : goal.loop-place-init
loop-place-init c = subst (IsNamedUpTo (check_texts c.args.checks.now) (check_texts c.args.checks.now) 0) (sym c.new-places.ensures) (named-none (check_texts c.args.checks.now))

pub loop-place-preserved : goal.loop-place-preserved
loop-place-preserved c =
    let old = c.loop-place.places in
    let is_new = c.in_ok-_is_new._is_new in
    let name = c.as_slice.result.now in
    let key : name ≡ check_text c.index-checks-place.result.kind c.index-checks-place.result.pin =
    c.as_slice.ensures.value ∙ c.in_ok-make_check_key.ensures
    ∙ ap (λ (n : List ℕ). check_text n c.bytes-in-loop-place.result.now) c.bytes.ensures
    ∙ ap (λ (n : List ℕ). check_text c.index-checks-place.result.kind n) c.bytes-in-loop-place.ensures in
    let added : c.add.new.self ≡ (if is_new then old ++ (name, c.loop-place.place) ∷ [] else old) =
    subst (λ (n : ℕ). c.add.new.self ≡ (if is_new then old ++ (name, n) ∷ [] else old)) c.in_ok-number_of.ensures c.in_ok-_is_new.ensures.added in
    named-next (check_texts c.args.checks.now) (check_texts (drop c.loop-place.place c.args.checks.now)) (check_texts (drop (c.loop-place.place + 1) c.args.checks.now))
    name c.loop-place.place old c.add.new.self is_new
    (ap check_texts (drop-here c.args.checks.now c.loop-place.place c.index-checks-place.result c.loop-place-test.true c.index-checks-place.is)
    ∙ ap (λ (n : List ℕ). n ∷ check_texts (drop (c.loop-place.place + 1) c.args.checks.now)) (sym key))
    c.in_ok-_is_new.ensures.new added c.loop-place.invariant
