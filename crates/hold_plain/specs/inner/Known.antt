-- IsKnown timing d: each instance has a known cell, and its arrival where it is a register, and each clock entry names a register.
use Rattle.std.specs.Prelude.{All}
use Rattle.hold_netlist.specs.Design.{Design}
use Rattle.hold_plain.specs.declared.timing.Timing.{Timing}
use Rattle.hold_plain.specs.Served.{IsServedInst, IsRegister}

pub record IsKnown (timing : Timing) (d : Design) : Type 0 where
  pub insts : All (IsServedInst timing) d.insts
  pub clocks : All (λ clock. IsRegister timing d.insts clock.inst) timing.clocks
