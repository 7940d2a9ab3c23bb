use Rattle.std.proofs.Common.{ap, ◌∙◌, arith}
use Rattle.hold_netlist.specs.Bits.{width_of}
use Rattle.hold_netlist.specs.Design.{Design}
use Rattle.hold_netlist.specs.inner.Numbering.{firsts_from}
use Rattle.hold_netlist.proofs.NumberingLemmas.{length-table, table-IsNonDecreasing, table-first, found, none_found}
use Rattle.hold_netlist.proofs.netlist.Netlist.net_bit.Goals as goal

pub numbered-requires-clause-rising : goal.numbered-requires-clause-rising
numbered-requires-clause-rising c =
    table-IsNonDecreasing width_of c.args.self.now.wires c.deref.result.now (c.deref.ensures.value ∙ c.self.invariant.2 ∙ ap (λ (d : Design). firsts_from 0 width_of d.wires) c.self.view_is)

pub numbered-requires-clause-some : goal.numbered-requires-clause-some
numbered-requires-clause-some c =
    omega (arith, length-table width_of c.args.self.now.wires c.deref.result.now (c.deref.ensures.value ∙ c.self.invariant.2 ∙ ap (λ (d : Design). firsts_from 0 width_of d.wires) c.self.view_is))

pub numbered-requires-clause-start : goal.numbered-requires-clause-start
numbered-requires-clause-start c =
    table-first width_of c.args.self.now.wires c.deref.result.now (c.deref.ensures.value ∙ c.self.invariant.2 ∙ ap (λ (d : Design). firsts_from 0 width_of d.wires) c.self.view_is)

pub returns-clause-found : goal.returns-clause-found
returns-clause-found c =
    found width_of c.args.self.now.wires c.deref.result.now (c.deref.ensures.value ∙ c.self.invariant.2 ∙ ap (λ (d : Design). firsts_from 0 width_of d.wires) c.self.view_is) c.args.net.0
    c.numbered.result c.numbered.ensures.found

pub returns-clause-none : goal.returns-clause-none
returns-clause-none c =
    none_found width_of c.args.self.now.wires c.deref.result.now (c.deref.ensures.value ∙ c.self.invariant.2 ∙ ap (λ (d : Design). firsts_from 0 width_of d.wires) c.self.view_is) c.args.net.0
    c.numbered.result c.numbered.ensures.found c.numbered.ensures.none
