use Rattle.std.proofs.Common.{◌++◌, ◌∷◌, [], ap, sym, ◌∙◌, drop, ◌+◌, map}
use Rattle.std.specs.Prelude.{None}
use Rattle.std.proofs.lemmas.List.{drop_more, map-append}
use Rattle.hold_base.proofs.Bools.{cond-true, cond-false}
use Rattle.hold_netlist.specs.inner.NameTable.{names_of}
use Rattle.hold_vsyntax.specs.declared.tree.Ident.{Ident}
use Rattle.hold_vparse.specs.inner.Flat.{seen_mention, seen_mentions, net_wire, net_wires}
use Rattle.hold_vparse.specs.Nets.{names, wire, first_uses}
use Rattle.hold_vparse.specs.inner.Uses.{used}
use Rattle.hold_vparse.proofs.UseLemmas.{implicit_step}
use Rattle.hold_vparse.proofs.wires.add_implicit_wires.Goals.{then-branch+in_ok-push, else-branch}
use Rattle.hold_vparse.proofs.wires.add_implicit_wires.Goals as goal

pub loop-mention-preserved : goal.loop-mention-preserved
loop-mention-preserved c =
    let here = drop_more c.args.mentions.now c.loop-mention.mention-index c.mention-item.result c.loop-mention-test.true ∙ ap (λ x. x ∷ drop (c.loop-mention.mention-index + 1) c.args.mentions.now) (sym c.mention-item.is) in
    implicit_step (names c.args.declared.now) (names_of c.loop-mention.seen) (names_of c.is_first_use.new.seen) (net_wires c.loop-mention.list.items) (net_wires c.if-branch.list.items) _
    (seen_mention c.mention-item.result) (seen_mentions (drop (c.loop-mention.mention-index + 1) c.args.mentions.now)) c.in_ok-is_first_use.field-0
    c.in_ok-is_first_use.ensures.new c.in_ok-is_first_use.ensures.seen
    (elim c.if-branch.branch [
      | then-branch+in_ok-push w ↦
          cond-true c.in_ok-is_first_use.field-0 (net_wires c.if-branch.list.items) (net_wires c.loop-mention.list.items ++ wire c.mention-item.result.name.now.name None ∷ []) (net_wires c.loop-mention.list.items) w.if-branch.true
          (ap (λ v. net_wires v.items) w.list-is ∙ ap net_wires w.in_ok-push.ensures.items ∙ map-append net_wire c.loop-mention.list.items _)
      | else-branch w ↦
          cond-false c.in_ok-is_first_use.field-0 (net_wires c.if-branch.list.items) (net_wires c.loop-mention.list.items ++ wire c.mention-item.result.name.now.name None ∷ []) (net_wires c.loop-mention.list.items) w.if-branch.false
          (ap (λ v. net_wires v.items) w.list-is)
    ])
    (ap (λ ms. net_wires c.loop-mention.list.items ++ map (λ (i : Ident). wire i.name None) (first_uses (names c.args.declared.now ++ names_of c.loop-mention.seen) (used (seen_mentions ms)))) (sym here) ∙ c.loop-mention.invariant)
