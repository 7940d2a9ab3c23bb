use Rattle.std.proofs.Common.{◌∷◌, [], ap, ◌∙◌, drop, ◌+◌, map}
use Rattle.hold_vsyntax.specs.declared.tree.Ident.{Ident}
use Rattle.hold_vparse.specs.Lines.{as_declared, line_of}
use Rattle.hold_vparse.specs.inner.Ranges.{port_ranges}
use Rattle.std.proofs.Common.{refl}
use Rattle.hold_base.proofs.Lists.{drop-here}
use Rattle.hold_vparse.proofs.NetRangeLemmas.{nets_step, nets_end}
use Rattle.hold_vparse.proofs.net_ranges.add_plain_nets.Goals as goal

pub add_plain_net-requires : goal.add_plain_net-requires
add_plain_net-requires c = ap (λ r. r.ports) c.loop-name.invariant ∙ c.requires

pub loop-name-preserved : goal.loop-name-preserved
loop-name-preserved c =
    let f = λ (i : Ident). as_declared i (line_of i.name c.args.lines.now) in
    nets_step c.loop-name.ranges c.add_plain_net.new.ranges _ ((f c.name-item.result).range ∷ []) (port_ranges (map f (drop (c.loop-name.name-index + 1) c.args.names.now))) (port_ranges (map f (drop c.loop-name.name-index c.args.names.now)))
    c.in_ok-add_plain_net.ensures (ap (λ is. port_ranges (map f is)) (drop-here c.args.names.now c.loop-name.name-index c.name-item.result c.loop-name-test.true c.name-item.is)) c.loop-name.invariant

pub returns : goal.returns
returns c =
    nets_end (λ is. port_ranges (map (λ (i : Ident). as_declared i (line_of i.name c.args.lines.now)) is)) refl c.loop-name.ranges _ c.args.names.now c.loop-name.name-index c.loop-name-test.false c.loop-name.invariant
