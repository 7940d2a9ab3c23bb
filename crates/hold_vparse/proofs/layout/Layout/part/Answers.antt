use Rattle.std.proofs.Common.{sym, ◌∙◌, arith}
use Rattle.hold_vparse.proofs.LayoutLemmas.{net-within, small-reach}
use Rattle.hold_vparse.proofs.layout.Layout.part.Goals as goal

pub selected_span-requires-clause-small : goal.selected_span-requires-clause-small
selected_span-requires-clause-small c =
    small-reach c.args.part.now.net.name c.args.self.now.wires.now c.in-Some.range c.args.self.now.small (sym c.range.ensures ∙ c.in-Some.is)

pub selected_span-requires-clause-few : goal.selected_span-requires-clause-few
selected_span-requires-clause-few c =
    omega (
      arith,
      c.args.self.now.few,
      net-within c.args.part.now.net.name c.args.self.now.wires.now c.args.self.now.bits c.first_bit-first.result c.in-Some.range
          c.args.self.now.counted c.first_bit-first.ensures (sym c.range.ensures ∙ c.in-Some.is),
    )

pub returns-in-Some-clause-within : goal.returns-in-Some-clause-within
returns-in-Some-clause-within c =
    omega (
      arith,
      c.selected_span.ensures.within,
      net-within c.args.part.now.net.name c.args.self.now.wires.now c.args.self.now.bits c.first_bit-first.result c.in-Some.range
          c.args.self.now.counted c.first_bit-first.ensures (sym c.range.ensures ∙ c.in-Some.is),
    )
