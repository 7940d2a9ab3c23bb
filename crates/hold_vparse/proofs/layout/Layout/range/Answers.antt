use Rattle.std.proofs.Common.{◌≡◌, ap, sym, ◌∙◌}
use Rattle.std.specs.Prelude.{None, Some}
use Rattle.hold_netlist.specs.Names.{wire_names}
use Rattle.hold_vparse.specs.inner.Index.{place_of}
use Rattle.hold_vparse.proofs.LayoutLemmas.{wire-lt, range-at}
use Rattle.hold_vparse.proofs.LineLemmas.{reach-none}
use Rattle.hold_vparse.proofs.layout.Layout.range.Goals as goal

pub bounds-self-place : goal.bounds-self-place
bounds-self-place c =
    let at : place_of c.args.name.now (wire_names c.args.self.now.wires.now) ≡ Some c.in-Some.place =
    ap (λ ws. place_of c.args.name.now (wire_names ws)) (sym c.args.self.now.same) ∙ sym c.place.ensures ∙ c.in-Some.is in
    wire-lt c.args.name.now c.args.self.now.wires.now c.in-Some.place at

pub returns-in-Some : goal.returns-in-Some
returns-in-Some c =
    let at : place_of c.args.name.now (wire_names c.args.self.now.wires.now) ≡ Some c.in-Some.place =
    ap (λ ws. place_of c.args.name.now (wire_names ws)) (sym c.args.self.now.same) ∙ sym c.place.ensures ∙ c.in-Some.is in
    range-at c.args.name.now c.args.self.now.wires.now c.in-Some.place at c.index-self-place.result c.index-self-place.is

pub returns-in-None : goal.returns-in-None
returns-in-None c =
    let at : place_of c.args.name.now (wire_names c.args.self.now.wires.now) ≡ None =
    ap (λ ws. place_of c.args.name.now (wire_names ws)) (sym c.args.self.now.same) ∙ sym c.place.ensures ∙ c.in-None.is in
    reach-none c.args.name.now c.args.self.now.wires.now at
