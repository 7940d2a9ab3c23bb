use Rattle.std.proofs.Common.{ℕ, ◌+◌, ap, ◌∙◌}
use Rattle.hold_vparse.proofs.IndexLemmas.{index_step}
use Rattle.hold_vparse.proofs.index.places_of.Goals as goal

pub loop-ident-preserved : goal.loop-ident-preserved
loop-ident-preserved c = record {
  index = index_step c.args.idents.now c.loop-ident.ident-index c.loop-ident.place c.ident-item.result _ c.loop-ident.table c.add.new.self c.in_ok-add.field-0
      c.loop-ident-test.true c.ident-item.is c.loop-ident.invariant.count c.bytes.ensures c.loop-ident.invariant.index c.in_ok-add.ensures.new c.in_ok-add.ensures.added;
  count = c.in-Some.ensures.1 ∙ ap (λ (n : ℕ). n + 1) c.loop-ident.invariant.count;
}
