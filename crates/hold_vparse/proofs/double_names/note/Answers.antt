use Rattle.std.proofs.Common.{◌≡◌, List, ap, ◌∙◌, rules}
use Rattle.std.specs.Prelude.{◌||◌}
use Rattle.hold_netlist.specs.Names.{is_among}
use Rattle.hold_vsyntax.specs.declared.tree.Ident.{Ident}
use Rattle.hold_vparse.specs.declared.barred.Barred.{Barred}
use Rattle.hold_vparse.specs.inner.Barred.{is_barred}
use Rattle.hold_vparse.specs.DoubleNames.{clash}
use Rattle.hold_vparse.specs.inner.Flat.{seen_mention}
use Rattle.hold_vparse.specs.inner.Roles.{seen_role}
use Rattle.hold_vparse.specs.Nets.{names}
use Rattle.hold_vparse.proofs.BarredLemmas.{bars_more, barred_in-same}
use Rattle.hold_vparse.proofs.double_names.note.Goals as goal

pub returns : goal.returns
returns c = λ before bars.
    bars_more c.args.parts.now.tree.now c.args.seen.now c.put.new.self before (seen_mention c.args.mention.now) c.after-more.result c.has-listed.result c.has-net.result bars
    (c.has-listed.ensures ∙ ap (λ (is : List Ident). is_among c.args.mention.now.name.now.name (names is)) c.args.parts.now.all_listed)
    (c.has-net.ensures ∙ ap (is_among c.args.mention.now.name.now.name) c.args.parts.now.all_declared)
    (λ later. c.after-more.ensures later ∙ ap (λ (b : Barred). is_barred b later || clash c.has-listed.result c.has-net.result (seen_role c.args.mention.now.role) later) c.find-barred.ensures)
    c.in_ok-put.ensures

pub returns-then-is_same : goal.returns-then-is_same
returns-then-is_same c = λ before bars.
    let same : c.after-more.result ≡ c.find-barred.result = search (rules, c.if-is_same.ensures, c.if-is_same.true, c.is_same.ensures) in
    bars_more c.args.parts.now.tree.now c.args.seen.now c.args.seen.now before (seen_mention c.args.mention.now) c.after-more.result c.has-listed.result c.has-net.result bars
    (c.has-listed.ensures ∙ ap (λ (is : List Ident). is_among c.args.mention.now.name.now.name (names is)) c.args.parts.now.all_listed)
    (c.has-net.ensures ∙ ap (is_among c.args.mention.now.name.now.name) c.args.parts.now.all_declared)
    (λ later. c.after-more.ensures later ∙ ap (λ (b : Barred). is_barred b later || clash c.has-listed.result c.has-net.result (seen_role c.args.mention.now.role) later) c.find-barred.ensures)
    (λ other. barred_in-same c.args.seen.now c.args.mention.now.name.now.name other c.after-more.result (same ∙ c.find-barred.ensures))
