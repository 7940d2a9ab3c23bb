use Rattle.std.proofs.Common.{◌≡◌, ◌++◌, ◌<◌, drop, map, take, All}
use Rattle.std.specs.Prelude.{decimal, flat_map}
use Rattle.hold_certtext.specs.Lines.{after_space}
use Rattle.hold_base.specs.declared.number.PinNo.{PinNo}
use Rattle.hold_certtext.proofs.put.put_pins.Given as goal

abbrev pub invariant-loop-pin : goal.invariant-loop-pin
invariant-loop-pin l = record {
  text : l.out.items ++ flat_map after_space (map (λ (pin : PinNo). decimal pin.0) (drop l.pin-index l.pins)) ≡ l.fn.out.items ++ flat_map after_space (map (λ (pin : PinNo). decimal pin.0) l.pins);
  range : All (λ (pin : PinNo). pin.0 < 4294967296) (take l.pin-index l.pins);
}
