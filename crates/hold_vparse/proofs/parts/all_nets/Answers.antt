use Rattle.std.proofs.Common.{◌≡◌, ◌∙◌}
use Rattle.hold_base.proofs.Results.{IfOk-weaken}
use Rattle.hold_vparse.specs.inner.Flat.{seen_ports, seen_wires, seen_mentions, net_wires}
use Rattle.hold_vparse.specs.Nets.{names, nets}
use Rattle.hold_vparse.proofs.PartLemmas.{nets-lists}
use Rattle.hold_vparse.proofs.parts.all_nets.Goals as goal

pub returns : goal.returns
returns c =
    let whole : net_wires c.in_ok-wires.wires.items ≡ nets c.args.tree.now =
    nets-lists c.args.tree.now (seen_ports c.args.ports.now) c.args.header.now (seen_wires c.args.lines.now) (names c.args.declared.now) (seen_mentions c.args.mentions.now) (net_wires c.in_ok-wires.wires.items)
    c.requires.ports c.requires.header c.requires.lines c.requires.declared c.requires.mentions c.in_ok-wires.ensures in
    IfOk-weaken c.of.result c.of.ensures (λ made same. same ∙ whole)
