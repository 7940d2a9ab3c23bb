use Rattle.hold_vparse.proofs.OneReading.{only_netlist, only_first_fault}
use Rattle.hold_vparse.proofs.reading.read.Goals as goal

pub returns-clause-only_read : goal.returns-clause-only_read
returns-clause-only_read c = λ d is. only_netlist c.args.text.now c.netlist_of_text.result d c.netlist_of_text.ensures.read c.netlist_of_text.ensures.refused is

pub returns-clause-only_refused : goal.returns-clause-only_refused
returns-clause-only_refused c = λ f is. only_first_fault c.args.text.now c.netlist_of_text.result f c.netlist_of_text.ensures.read c.netlist_of_text.ensures.refused is
