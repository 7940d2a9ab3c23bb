use Rattle.hold_roles.specs.Binding.{binding}
use Rattle.hold_roles.proofs.FaultLemmas.{answers-fault, answers-sound}
use Rattle.hold_roles.proofs.binding.bind.Goals as goal

pub returns-clause-bound : goal.returns-clause-bound
returns-clause-bound c = answers-sound c.args.library.now c.args.netlist c.bound.result (binding c.args.library.now c.args.netlist) c.bound.ensures.made c.bound.ensures.fault

pub returns-clause-refused : goal.returns-clause-refused
returns-clause-refused c = answers-fault c.args.library.now c.args.netlist c.bound.result c.bound.ensures.sound c.bound.ensures.fault
