use Rattle.std.proofs.Common.{Bool, Some, None, ap, sym, ◌∙◌, cond}
use Rattle.hold_vparse.specs.inner.Flat.{seen_port, seen_wire, seen_found}
use Rattle.hold_vparse.specs.PortFaults.{later}
use Rattle.hold_vparse.proofs.UnlikeLemmas.{unlike_none, unlike_missing, unlike_found}
use Rattle.hold_vparse.proofs.port_faults.unlike_wire.Goals.{in_default-get-via-in-Some-get+else-not-have_same_bounds, in_default-get-via-in_default-get}
use Rattle.hold_vparse.proofs.port_faults.unlike_wire.Goals as goal

pub returns-in_default : goal.returns-in_default
returns-in_default c = unlike_none (seen_wire c.args.wire.now) c.args.lines.now (sym c.place.ensures ∙ c.in_default.is)

pub returns-in-Some-get : goal.returns-in-Some-get
returns-in-Some-get c =
    let line = c.in-Some-get.line.now in
    ap Some c.later_of.ensures ∙ ap (λ (b : Bool). cond b None (Some (later c.args.wire.now.name.now line.name.now))) (sym c.if-not-have_same_bounds.true)
    ∙ unlike_found (seen_wire c.args.wire.now) c.args.lines.now c.in-Some.place (sym c.place.ensures ∙ c.in-Some.is) c.args.ranges.now.wires c.args.ranges.now.ports c.args.number (seen_port line) c.have_same_bounds.result
    (sym c.get.ensures ∙ ap seen_found c.in-Some-get.is) c.requires.ports c.requires.wires c.have_same_bounds.ensures

pub returns-in_default-get : goal.returns-in_default-get
returns-in_default-get c = elim c.in_default-get.branch [
  | in_default-get-via-in-Some-get+else-not-have_same_bounds w ↦
      let line = w.in-Some-get.line.now in
      ap (λ (b : Bool). cond b None (Some (later c.args.wire.now.name.now line.name.now))) (sym w.if-not-have_same_bounds.false)
      ∙ unlike_found (seen_wire c.args.wire.now) c.args.lines.now c.in-Some.place (sym c.place.ensures ∙ c.in-Some.is) c.args.ranges.now.wires c.args.ranges.now.ports c.args.number (seen_port line) w.have_same_bounds.result
      (sym c.get.ensures ∙ ap seen_found w.in-Some-get.is) c.requires.ports c.requires.wires w.have_same_bounds.ensures
  | in_default-get-via-in_default-get w ↦
      unlike_missing (seen_wire c.args.wire.now) c.args.lines.now c.in-Some.place (sym c.place.ensures ∙ c.in-Some.is) (sym c.get.ensures ∙ ap seen_found w.in_default-get.is)
]
