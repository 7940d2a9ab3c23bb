-- rank_of u: a number by which each arc of a served netlist runs upwards. rank_as role inst: the same of a pin of that role.
use Rattle.std.specs.Prelude.{ℕ, ◌+◌, ◌*◌, ◌^◌}
use Rattle.hold_plain.specs.declared.pin_use.PinUse.{PinUse}
use Rattle.hold_plain.specs.declared.pin_use.PinRole.{PinRole}
use Rattle.hold_plain.specs.declared.pin_use.PinRole.TheVariants.{Input, Output, Clock, Data, Launch, InPort, OutPort, Stray}

abbrev pub rank_as : PinRole → ℕ → ℕ
rank_as Input inst = 2 * inst + 1
rank_as Output inst = 2 * inst + 2
rank_as Clock inst = 2 ^ 20
rank_as Data inst = 2 ^ 20
rank_as OutPort inst = 2 ^ 20
rank_as Launch inst = 0
rank_as InPort inst = 0
rank_as Stray inst = 0

abbrev pub rank_of : PinUse → ℕ
rank_of u = rank_as u.role u.inst
