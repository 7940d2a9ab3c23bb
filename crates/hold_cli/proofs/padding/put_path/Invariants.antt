use Rattle.std.proofs.Common.{◌≡◌, ◌++◌, drop}
use Rattle.hold_cli.specs.PaddingLine.{path_text}
use Rattle.hold_cli.proofs.padding.put_path.Given as goal

abbrev pub invariant-loop-pin : goal.invariant-loop-pin
invariant-loop-pin l = l.out.items ++ path_text l.netlist (drop l.pin-index l.pins) ≡ l.fn.out.items ++ path_text l.netlist l.pins
