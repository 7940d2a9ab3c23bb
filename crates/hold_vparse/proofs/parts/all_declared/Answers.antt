use Rattle.std.proofs.Common.{◌≡◌, ap, ◌∙◌}
use Rattle.hold_base.proofs.Results.{IfOk-weaken}
use Rattle.hold_vparse.specs.inner.Flat.{targets, seen_ports, seen_wires}
use Rattle.hold_vparse.specs.Nets.{names, declared_names}
use Rattle.hold_vparse.proofs.PartLemmas.{declared_names-lists}
use Rattle.hold_vparse.proofs.parts.all_declared.Goals as goal

pub returns : goal.returns
returns c =
    let whole : names (targets c.in_ok-idents.idents.items) ≡ declared_names c.args.tree.now =
    declared_names-lists c.args.tree.now (seen_ports c.lines.result.now) (seen_wires c.args.wires.now) (targets c.in_ok-idents.idents.items) (c.lines.ensures ∙ c.requires.ports) c.requires.wires c.in_ok-idents.ensures in
    IfOk-weaken c.of.result c.of.ensures (λ index same. ap names same ∙ whole)
