use Rattle.std.proofs.Common.{◌∙◌, ap, is_none}
use Rattle.std.specs.List.{filter}
use Rattle.hold_vsyntax.specs.declared.tree.Ident.{Ident}
use Rattle.hold_vparse.specs.inner.Flat.{seen_ports, seen_wires}
use Rattle.hold_vparse.specs.inner.Found.{found_ident}
use Rattle.hold_vparse.specs.Lines.{line_of}
use Rattle.hold_vparse.specs.Soonest.{soonest}
use Rattle.hold_vparse.proofs.FaultLemmas.{soonest-misdeclared}
use Rattle.hold_vparse.proofs.name_faults.misdeclared_ident.Goals as goal

pub returns : goal.returns
returns c =
    soonest-misdeclared c.args.parts.now.tree.now c.args.parts.now.listed.now c.args.parts.now.port_lines.now (seen_ports c.args.parts.now.body_lines.now) (seen_wires c.args.parts.now.wire_lines.now)
    (found_ident c.soonest_of-2.result) (found_ident c.undirected_ident-undirected.result) (found_ident c.soonest_of.result) (found_ident c.unlisted_ident-unlisted.result) (found_ident c.unlike_ident-unlike.result)
    c.args.parts.now.all_listed c.args.parts.now.all_port_lines c.args.parts.now.all_body_lines c.args.parts.now.all_wire_lines
    (c.undirected_ident-undirected.ensures ∙ ap (λ is. soonest (filter (λ (i : Ident). is_none (line_of i.name c.args.parts.now.port_lines.now)) is)) c.header_names_in.ensures)
    c.unlisted_ident-unlisted.ensures c.unlike_ident-unlike.ensures c.soonest_of.ensures c.soonest_of-2.ensures
