use Rattle.std.proofs.Common.{List, [], ap, sym, ◌∙◌}
use Rattle.std.specs.Prelude.{flat_map, Option}
use Rattle.hold_vsyntax.specs.declared.tree.Ident.{Ident}
use Rattle.hold_vsyntax.specs.declared.tree.Instance.{Instance}
use Rattle.hold_vparse.specs.DoubleNames.{mentions, doubles, repeated_in}
use Rattle.hold_vparse.specs.inner.Found.{merged, found_ident}
use Rattle.hold_vparse.specs.Lines.{instances}
use Rattle.hold_vparse.specs.Soonest.{soonest}
use Rattle.hold_vparse.proofs.SoonestLemmas.{soonest-append}
use Rattle.hold_vparse.proofs.double_names.doubled.Goals as goal

pub returns : goal.returns
returns c =
    c.soonest_of.ensures
    ∙ ap (λ (o : Option Ident). merged o (found_ident c.in_ok-pin.pin)) c.in_ok-name.ensures
    ∙ ap (merged (soonest (doubles c.args.parts.now.tree.now [] (mentions c.args.parts.now.tree.now))))
    (c.in_ok-pin.ensures ∙ ap (λ (l : List (Ident × Instance)). soonest (flat_map repeated_in l)) c.args.parts.now.all_instances)
    ∙ sym (soonest-append (doubles c.args.parts.now.tree.now [] (mentions c.args.parts.now.tree.now)) (flat_map repeated_in (instances c.args.parts.now.tree.now.items)))
