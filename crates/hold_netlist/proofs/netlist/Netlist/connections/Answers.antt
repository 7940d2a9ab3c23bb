use Rattle.std.proofs.Common.{ℕ, length, get_or, ap, ◌∙◌, arith}
use Rattle.hold_netlist.specs.Pins.{pin_count}
use Rattle.hold_netlist.specs.Design.{Design}
use Rattle.hold_netlist.specs.inner.Numbering.{firsts_from}
use Rattle.hold_netlist.proofs.NumberingLemmas.{length-table, table-last}
use Rattle.hold_netlist.proofs.netlist.Netlist.connections.Goals as goal

pub bounds-firsts-insts : goal.bounds-firsts-insts
bounds-firsts-insts c = omega (arith, length-table pin_count c.args.self.now.insts c.as_slice-firsts.result.now (c.as_slice-firsts.ensures.value ∙ c.self.invariant.1 ∙ ap (λ (d : Design). firsts_from 0 pin_count d.insts) c.self.view_is), ap length c.insts.ensures)

pub returns : goal.returns
returns c =
    ap (λ (m : ℕ). get_or c.as_slice-firsts.result.now m 0) (ap length c.insts.ensures) ∙ table-last pin_count c.args.self.now.insts c.as_slice-firsts.result.now (c.as_slice-firsts.ensures.value ∙ c.self.invariant.1 ∙ ap (λ (d : Design). firsts_from 0 pin_count d.insts) c.self.view_is)
