use Rattle.std.proofs.Common.{◌≡◌, ℕ, ◌<◌, ◌∷◌, [], ap, sym, ◌∙◌, get_or, length, subst}
use Rattle.std.specs.Prelude.{List, Option, reverse, false}
use Rattle.std.proofs.lemmas.List.{reverse-append}
use Rattle.std.proofs.lemmas.Option.{slice_get-get_or}
use Rattle.hold_base.specs.declared.number.PinNo.{PinNo}
use Rattle.hold_graph.specs.declared.graph.Arc.{Arc}
use Rattle.hold_graph.proofs.Pass.{place_below}
use Rattle.hold_graph.proofs.Walks.{IsBack, back_more, came_place}
use Rattle.hold_graph.proofs.walk.path_to.Goals as goal

pub loop-by-preserved : goal.loop-by-preserved
loop-by-preserved c =
    let none : Arc = record { from = record { 0 = 0 }; to = record { 0 = 0 }; wire = false } in
    let arcs : List Arc = c.args.line.now.arcs.now in
    let arc : Arc = get_or arcs c.in-Some.place none in
    let below : c.in-Some.place < length arcs =
    place_below arcs c.args.line.now.into.now c.requires.line.places c.loop-by.pin.0 c.in-Some.place (c.loop-by.invariant.place c.in-Some.place c.in-Some.is) in
    let from : arc.from.0 < c.args.line.now.pins = c.requires.line.from c.in-Some.place none below in
    let pushed : c.loop-by.pin ∷ reverse c.loop-by.path.items ≡ reverse c.push.new.self.items =
    sym (ap (λ (xs : List PinNo). reverse xs) c.in_ok-push.ensures.items ∙ reverse-append c.loop-by.path.items (c.loop-by.pin ∷ [])) in
    record {
      there = from;
      place = λ k is. came_place _ _ _ _ k c.came_by-by.ensures is;
      back = λ side spans sum settled comes.
          let at : (by : Option ℕ) → Type 0 = λ by. IsBack side arcs spans c.args.starts.now c.args.line.now.into.now c.args.best.now c.loop-by.pin (reverse c.loop-by.path.items) by c.args.capture sum in
          let onto : (rest : List PinNo) → Type 0 = λ rest. IsBack side arcs spans c.args.starts.now c.args.line.now.into.now c.args.best.now arc.from rest c.came_by-by.result c.args.capture sum in
          subst onto pushed
          (back_more side c.args.line.now.pins arcs spans c.args.starts.now c.args.line.now.into.now c.args.best.now settled c.loop-by.pin (reverse c.loop-by.path.items) c.in-Some.place c.args.capture sum
          (subst at c.in-Some.is (c.loop-by.invariant.back side spans sum settled comes)) arc c.came_by-by.result from
          (slice_get-get_or arcs c.in-Some.place none below) c.came_by-by.ensures);
    }
