use Rattle.std.proofs.Common.{◌+◌, ◌-◌, List, ap, arith, ◌∙◌, length, map}
use Rattle.std.specs.List.{range_with_len}
use Rattle.hold_roles.specs.declared.drivers.Slot.{Slot}
use Rattle.hold_roles.specs.Drivers.{bit_drive}
use Rattle.hold_roles.specs.inner.Slots.{with_drives}
use Rattle.hold_roles.proofs.SlotLemmas.{bits-next, length-with_drive}
use Rattle.hold_roles.proofs.drivers.put_port_bits.Goals as goal

pub loop-n-preserved : goal.loop-n-preserved
loop-n-preserved c = record {
  rest = ap (λ (s : List Slot). with_drives s (map (bit_drive c.args.first) (range_with_len (c.args.from + (c.loop-n.n + 1)) (c.args.width - (c.loop-n.n + 1))))) c.put.ensures
      ∙ bits-next c.loop-n.slots c.args.first (c.args.from + c.loop-n.n) (c.args.from + (c.loop-n.n + 1)) (c.args.width - c.loop-n.n) (c.args.width - (c.loop-n.n + 1)) (omega arith) (omega arith)
      ∙ c.loop-n.invariant.rest;
  each = ap length c.put.ensures ∙ length-with_drive c.loop-n.slots _ ∙ c.loop-n.invariant.each;
}
