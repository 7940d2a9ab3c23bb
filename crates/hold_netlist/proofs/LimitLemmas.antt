-- What a netlist has at most: instances by the limit, and ports by its wires.
use Rattle.std.proofs.Common.{◌≡◌, ◌≤◌, length, false, ap, arith}
use Rattle.std.proofs.lemmas.Bool.Decides.{nat_tests}
use Rattle.std.proofs.lemmas.Grind.{common_steps}
use Rattle.std.specs.Prelude.{nat_lt}
use Rattle.hold_base.proofs.Bools.{cond-None}
use Rattle.hold_base.specs.Limits.{bits_limit, insts_limit}
use Rattle.hold_netlist.specs.Bits.{bits_of}
use Rattle.hold_netlist.specs.Design.{Design}
use Rattle.hold_netlist.specs.Valid.{IsValid}

pub insts_few : {d : Design} → IsValid d → length d.insts ≤ insts_limit
insts_few {d} valid =
    let few : nat_lt insts_limit (length d.insts) ≡ false = (cond-None (nat_lt insts_limit (length d.insts)) _ _ (cond-None (nat_lt bits_limit (bits_of d.wires)) _ _ valid.counts).1).0 in
    grind (arith, nat_tests)

pub ports_few : {d : Design} → IsValid d → length d.ports ≤ length d.wires
ports_few valid = let same = ap length valid.well_formed.ports in grind (arith, common_steps)
