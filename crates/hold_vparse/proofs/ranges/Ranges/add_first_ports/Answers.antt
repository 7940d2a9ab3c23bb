use Rattle.std.proofs.Common.{◌≡◌, ◌∙◌, ◌++◌, ap, take, sym, arith}
use Rattle.std.proofs.lemmas.List.{take-map}
use Rattle.hold_vparse.specs.inner.Index.{at_place}
use Rattle.hold_vparse.proofs.RangeLemmas.{nets_put}
use Rattle.hold_vparse.proofs.ranges.Ranges.add_first_ports.Goals as goal

pub returns : goal.returns
returns c =
    let s = c.self.inside in
    let here : c.extend_from_slice.new.self.items ≡ s.nets.items ++ take c.args.count s.ports.items = grind (arith, c.in_ok-extend_from_slice.ensures.items, c.deref.ensures.value) in
    nets_put s.table s.ports.items s.wires.items s.nets.items c.extend_from_slice.new.self.items (take c.args.count s.ports.items) c.args.self.now
    (take c.args.count c.args.self.now.ports) c.self.view_is here (sym (take-map (at_place s.table) c.args.count s.ports.items) ∙ ap (λ l. take c.args.count l.ports) c.self.view_is)
