use Rattle.std.proofs.Common.{◌≡◌, length, replicate, ap, ◌∙◌, sym}
use Rattle.hold_netlist.specs.Bits.{bits_of}
use Rattle.hold_roles.specs.declared.drivers.Slot.TheVariants.{Free}
use Rattle.hold_roles.specs.Drivers.{drives}
use Rattle.hold_roles.specs.inner.Slots.{with_drives}
use Rattle.hold_roles.proofs.SlotLemmas.{netlist-holds, taken-whole, length-with_drives}
use Rattle.hold_roles.proofs.drivers.slots_of.Goals as goal

pub returns : goal.returns
returns c =
    let begun : c.in_ok-slots.slots.items ≡ replicate (bits_of c.args.netlist.now.wires) Free =
    c.in_ok-slots.ensures.items_if_clones_equal (λ y e. e) ∙ ap (λ n. replicate n Free) (c.bit_count-bits.ensures ∙ ap bits_of c.wires.ensures) in
    let filled : c.fill.new.slots ≡ with_drives c.in_ok-slots.slots.items (drives c.args.library.now c.args.netlist.now) =
    c.fill.ensures ∙ ap (λ l. with_drives l (drives c.args.library.now c.args.netlist.now)) c.deref_mut.ensures.value in
    let long : length c.fill.new.slots ≡ c.in_ok-slots.slots.len = ap length filled ∙ length-with_drives c.in_ok-slots.slots.items (drives c.args.library.now c.args.netlist.now) ∙ ap length (sym c.deref_mut.ensures.value) ∙ c.deref_mut.ensures.len in
    netlist-holds c.args.library.now c.args.netlist.now c.in_ok-slots.slots.items c.fill.new.slots _ c.know_valid.ensures.well_formed begun filled
    (taken-whole c.in_ok-slots.slots.len c.fill.new.slots c.in_ok-slots.slots.items long)
