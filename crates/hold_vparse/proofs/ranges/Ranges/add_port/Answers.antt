use Rattle.std.proofs.Common.{◌∷◌, [], ap}
use Rattle.hold_vparse.specs.inner.Ranges.{line_range}
use Rattle.hold_vparse.proofs.RangeLemmas.{place_range, nets_put}
use Rattle.hold_vparse.proofs.ranges.Ranges.add_port.Goals as goal

pub returns : goal.returns
returns c =
    let s = c.self.inside in
    nets_put s.table s.ports.items s.wires.items s.nets.items c.push.new.self.items (c.place_at.result ∷ []) c.args.self.now (line_range c.args.self.now.ports c.args.line ∷ []) c.self.view_is c.in_ok-push.ensures.items
    (ap (λ r. r ∷ []) (place_range s.table s.ports.items c.deref.result.now c.args.self.now.ports c.args.line c.place_at.result (ap (λ l. l.ports) c.self.view_is) c.deref.ensures.value c.place_at.ensures))
