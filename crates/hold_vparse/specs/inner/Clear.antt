-- IsClear m: no name of the module is declared twice, each port is declared as it may be, each bit is there and fits,
--   and no bound is large. So only a count can be past its limit.
use Rattle.std.specs.Prelude.{◌≡◌, false, []}
use Rattle.std.specs.List.{list_any}
use Rattle.hold_vsyntax.specs.declared.tree.Module.{Module}
use Rattle.hold_vparse.specs.Nets.{nets}
use Rattle.hold_vparse.specs.DoubleNames.{doubled}
use Rattle.hold_vparse.specs.PortFaults.{misdeclared}
use Rattle.hold_vparse.specs.BitFaults.{misfit}
use Rattle.hold_vparse.specs.NameFaults.{has_large_bound}

pub record IsClear (m : Module) : Type 0 where
  pub names : doubled m ≡ []
  pub ports : misdeclared m ≡ []
  pub bits : misfit m ≡ []
  pub bounds : list_any has_large_bound (nets m) ≡ false
