use Rattle.std.proofs.Common.{ap, sym, ◌∙◌, arith}
use Rattle.std.specs.Prelude.{Some}
use Rattle.hold_vparse.proofs.LayoutLemmas.{net-within, small-reach}
use Rattle.hold_vparse.proofs.layout.Layout.bit.Goals as goal

pub place_within-requires-clause-small : goal.place_within-requires-clause-small
place_within-requires-clause-small c =
    small-reach c.args.name.now c.args.self.now.wires.now (Some c.in-Some-Some.range) c.args.self.now.small (sym c.range.ensures ∙ c.in-Some-Some.is ∙ ap Some c.in-Some-Some.field-0-is)

pub overflow_add-result : goal.overflow_add-result
overflow_add-result c =
    omega (
      arith,
      c.args.self.now.few,
      c.place_within.ensures.inside,
      net-within c.args.name.now c.args.self.now.wires.now c.args.self.now.bits c.first_bit-first.result (Some c.in-Some-Some.range)
          c.args.self.now.counted c.first_bit-first.ensures (sym c.range.ensures ∙ c.in-Some-Some.is ∙ ap Some c.in-Some-Some.field-0-is),
    )
