use Rattle.std.proofs.Common.{◌≡◌, ℕ, List, ◌∷◌, [], ◌++◌, ◌+◌, ◌∙◌, ap, drop, subst, sym}
use Rattle.std.specs.Prelude.{if◌then◌else◌}
use Rattle.hold_base.proofs.Lists.{drop-here}
use Rattle.hold_build.proofs.NameLemmas.{IsNamedUpTo, named-next, named-none}
use Rattle.hold_values.specs.inner.Keys.{clock_names}
use Rattle.hold_values.proofs.defaults.clock_places.Goals as goal

pub loop-place-init : goal.loop-place-init
loop-place-init c = subst (IsNamedUpTo (clock_names c.args.clocks.now) (clock_names c.args.clocks.now) 0) (sym c.new-places.ensures) (named-none (clock_names c.args.clocks.now))

pub loop-place-preserved : goal.loop-place-preserved
loop-place-preserved c =
    let old = c.loop-place.places in
    let is_new = c.in_ok-_is_new._is_new in
    let name = c.bytes.result.now in
    let added : c.add.new.self ≡ (if is_new then old ++ (name, c.loop-place.place) ∷ [] else old) =
    subst (λ (n : ℕ). c.add.new.self ≡ (if is_new then old ++ (name, n) ∷ [] else old)) c.in_ok-number_of.ensures c.in_ok-_is_new.ensures.added in
    named-next (clock_names c.args.clocks.now) (clock_names (drop c.loop-place.place c.args.clocks.now)) (clock_names (drop (c.loop-place.place + 1) c.args.clocks.now))
    name c.loop-place.place old c.add.new.self is_new
    (ap clock_names (drop-here c.args.clocks.now c.loop-place.place c.index-clocks-place.result c.loop-place-test.true c.index-clocks-place.is)
    ∙ ap (λ (n : List ℕ). n ∷ clock_names (drop (c.loop-place.place + 1) c.args.clocks.now)) (sym c.bytes.ensures))
    c.in_ok-_is_new.ensures.new added c.loop-place.invariant
