use Rattle.std.proofs.Common.{◌≡◌, ℕ, List, ◌∷◌, [], ◌++◌, ◌+◌, ◌∙◌, ap, drop, subst, sym}
use Rattle.std.specs.Prelude.{if◌then◌else◌}
use Rattle.hold_base.proofs.Lists.{drop-here}
use Rattle.hold_build.proofs.NameLemmas.{IsNamedUpTo, named-next, named-none}
use Rattle.hold_values.specs.inner.Keys.{arc_text, arc_texts}
use Rattle.hold_values.proofs.defaults.arc_places.Goals as goal

pub loop-place-init : goal.loop-place-init
loop-place-init c = subst (IsNamedUpTo (arc_texts c.args.arcs.now) (arc_texts c.args.arcs.now) 0) (sym c.new-places.ensures) (named-none (arc_texts c.args.arcs.now))

pub loop-place-preserved : goal.loop-place-preserved
loop-place-preserved c =
    let old = c.loop-place.places in
    let is_new = c.in_ok-_is_new._is_new in
    let name = c.as_slice.result.now in
    let key : name ≡ arc_text c.index-arcs-place.result.kind c.index-arcs-place.result.from c.index-arcs-place.result.to =
    c.as_slice.ensures.value ∙ c.in_ok-make_arc_key.ensures
    ∙ ap (λ (n : List ℕ). arc_text n c.bytes-in-loop-place.result.now c.bytes-in-loop-place-2.result.now) c.bytes.ensures
    ∙ ap (λ (n : List ℕ). arc_text c.index-arcs-place.result.kind n c.bytes-in-loop-place-2.result.now) c.bytes-in-loop-place.ensures
    ∙ ap (λ (n : List ℕ). arc_text c.index-arcs-place.result.kind c.index-arcs-place.result.from n) c.bytes-in-loop-place-2.ensures in
    let added : c.add.new.self ≡ (if is_new then old ++ (name, c.loop-place.place) ∷ [] else old) =
    subst (λ (n : ℕ). c.add.new.self ≡ (if is_new then old ++ (name, n) ∷ [] else old)) c.in_ok-number_of.ensures c.in_ok-_is_new.ensures.added in
    named-next (arc_texts c.args.arcs.now) (arc_texts (drop c.loop-place.place c.args.arcs.now)) (arc_texts (drop (c.loop-place.place + 1) c.args.arcs.now))
    name c.loop-place.place old c.add.new.self is_new
    (ap arc_texts (drop-here c.args.arcs.now c.loop-place.place c.index-arcs-place.result c.loop-place-test.true c.index-arcs-place.is)
    ∙ ap (λ (n : List ℕ). n ∷ arc_texts (drop (c.loop-place.place + 1) c.args.arcs.now)) (sym key))
    c.in_ok-_is_new.ensures.new added c.loop-place.invariant
