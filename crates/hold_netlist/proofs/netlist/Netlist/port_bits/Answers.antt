use Rattle.std.proofs.Common.{◌≤◌, ℕ, length, get_or, ap, ◌∙◌, arith}
use Rattle.hold_netlist.specs.Bits.{width_of}
use Rattle.hold_netlist.specs.Design.{Design}
use Rattle.hold_netlist.specs.inner.Numbering.{firsts_from}
use Rattle.hold_netlist.proofs.LimitLemmas.{ports_few}
use Rattle.hold_netlist.proofs.NumberingLemmas.{length-table, table-at}
use Rattle.hold_netlist.proofs.netlist.Netlist.port_bits.Goals as goal

pub bounds-firsts-ports : goal.bounds-firsts-ports
bounds-firsts-ports c = omega (arith, length-table width_of c.args.self.now.wires c.as_slice-firsts.result.now (c.as_slice-firsts.ensures.value ∙ c.self.invariant.2 ∙ ap (λ (d : Design). firsts_from 0 width_of d.wires) c.self.view_is), ap length c.ports.ensures, ap (λ (d : Design). length d.wires) c.self.view_is, ap (λ (d : Design). length d.ports) c.self.view_is, ports_few c.self.invariant.0)

pub returns : goal.returns
returns c =
    let few : length c.args.self.now.ports ≤ length c.args.self.now.wires = omega (arith, ap (λ (d : Design). length d.wires) c.self.view_is, ap (λ (d : Design). length d.ports) c.self.view_is, ports_few c.self.invariant.0) in
    ap (λ (m : ℕ). get_or c.as_slice-firsts.result.now m 0) (ap length c.ports.ensures) ∙ table-at width_of c.args.self.now.wires c.as_slice-firsts.result.now (c.as_slice-firsts.ensures.value ∙ c.self.invariant.2 ∙ ap (λ (d : Design). firsts_from 0 width_of d.wires) c.self.view_is) (length c.args.self.now.ports) few
