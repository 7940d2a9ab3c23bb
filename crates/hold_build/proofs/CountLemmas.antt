-- How many pins and net bits a netlist has at most.
use Rattle.std.proofs.Common.{◌≡◌, ℕ, ◌+◌, ◌≤◌, length, false, arith}
use Rattle.std.proofs.lemmas.Bool.Decides.{nat_tests}
use Rattle.std.specs.Prelude.{nat_lt, Some, slice_get}
use Rattle.std.proofs.lemmas.Option.{slice_get_within}
use Rattle.hold_base.proofs.Bools.{cond-None}
use Rattle.hold_base.specs.Limits.{bits_limit, insts_limit, pins_limit}
use Rattle.hold_netlist.specs.Bits.{bits_of}
use Rattle.hold_netlist.specs.Design.{Design}
use Rattle.hold_netlist.specs.declared.inst.Inst.{Inst}
use Rattle.hold_netlist.specs.Pins.{connection_count, pin_count, pins_of}
use Rattle.hold_netlist.proofs.NumberingLemmas.{first_of-le, first_of-length, first_of-suc}
use Rattle.hold_netlist.specs.Valid.{IsValid}

pub pins_few : (d : Design) → IsValid d → pins_of d ≤ pins_limit
pins_few d valid =
    let few : nat_lt pins_limit (pins_of d) ≡ false =
    (cond-None (nat_lt pins_limit (pins_of d)) _ _ (cond-None (nat_lt insts_limit (length d.insts)) _ _ (cond-None (nat_lt bits_limit (bits_of d.wires)) _ _ valid.counts).1).1).0 in
    grind (arith, nat_tests)

pub connections-few : (d : Design) → IsValid d → connection_count d.insts ≤ pins_limit
connections-few d valid = omega (arith, pins_few d valid)

-- an instance has at most so many connections as there may be pins
pub inst-few : (d : Design) → IsValid d → (k : ℕ) (i : Inst) → slice_get d.insts k ≡ Some i → length i.pins ≤ pins_limit
inst-few d valid k i at =
    omega (
      arith,
      pins_few d valid,
      first_of-suc pin_count d.insts k i at,
      first_of-le pin_count d.insts (k + 1) (length d.insts) (let inside = slice_get_within d.insts k i at in omega arith),
      first_of-length pin_count d.insts,
    )
