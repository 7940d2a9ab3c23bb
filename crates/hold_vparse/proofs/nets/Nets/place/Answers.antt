use Rattle.std.proofs.Common.{ap, ◌∙◌}
use Rattle.hold_netlist.specs.Names.{wire_names}
use Rattle.hold_vparse.specs.inner.Index.{place_of}
use Rattle.hold_vparse.specs.Nets.{names}
use Rattle.hold_vparse.proofs.LineLemmas.{names-idents}
use Rattle.hold_vparse.proofs.nets.Nets.place.Goals as goal

pub returns : goal.returns
returns c = c.place.ensures ∙ ap (λ ids. place_of c.args.name.now (names ids)) c.self.invariant ∙ ap (place_of c.args.name.now) (names-idents c.self.inside.wires.items)
    ∙ ap (λ ws. place_of c.args.name.now (wire_names ws)) c.self.view_is
