use Rattle.std.proofs.Common.{◌≡◌, ◌+◌, List, [], ◌++◌, Bool, length, replicate, false, ap, sym, ◌∙◌, subst, arith}
use Rattle.std.proofs.lemmas.List.{length-replicate}
use Rattle.hold_netlist.specs.declared.inst.Inst.{Inst}
use Rattle.hold_netlist.specs.declared.wire.Wire.{Wire}
use Rattle.hold_netlist.specs.Names.{wire_names}
use Rattle.hold_insert.specs.NewNames.{inst_names, names_of}
use Rattle.hold_insert.specs.inner.Used.{AreUsed}
use Rattle.hold_insert.proofs.UsedLemmas.{fresh-from, names-few, names-many, none-used}
use Rattle.hold_insert.proofs.fresh.fresh_number.Goals as goal
use Rattle.hold_insert.proofs.fresh.fresh_number.Goals.{After-wires-2, After-deref}

flags : (c : After-wires-2) → c.in_ok-used.used.items ≡ replicate (length c.args.netlist.now.wires + length c.args.netlist.now.insts + 1) false
flags c =
    c.in_ok-used.ensures.items_if_clones_equal (λ y e. e)
    ∙ ap (λ (ws : List Wire). replicate (length ws + length c.insts.result.now + 1) false) c.wires.ensures
    ∙ ap (λ (is : List Inst). replicate (length c.args.netlist.now.wires + length is + 1) false) c.insts.ensures

long : (c : After-wires-2) → length c.in_ok-used.used.items ≡ length c.args.netlist.now.wires + length c.args.netlist.now.insts + 1
long c = ap (λ (l : List Bool). length l) (flags c) ∙ length-replicate (length c.args.netlist.now.wires + length c.args.netlist.now.insts + 1) false

-- the flags tell of all names
all_used : (c : After-deref) → AreUsed (names_of c.args.netlist.now) c.deref.result.now
all_used c =
    let first = c.mark_wires.ensures.used [] (none-used _ c.in_ok-used.used.items (flags (goal.at.first_unset-requires c).After-wires-2)) in
    let second = c.mark_insts.ensures.used (wire_names c.wires-2.result.now) first in
    subst (λ l. AreUsed (names_of c.args.netlist.now) l) (sym c.deref.ensures.value)
    (subst (λ (ws : List Wire). AreUsed (wire_names ws ++ inst_names c.args.netlist.now.insts) c.mark_insts.new.used.items) c.wires-2.ensures
    (subst (λ (is : List Inst). AreUsed (wire_names c.wires-2.result.now ++ inst_names is) c.mark_insts.new.used.items) c.insts-2.ensures second))

all_long : (c : After-deref) → length c.deref.result.now ≡ length c.args.netlist.now.wires + length c.args.netlist.now.insts + 1
all_long c =
    ap (λ (l : List Bool). length l) c.deref.ensures.value ∙ c.mark_insts.ensures.len ∙ c.mark_wires.ensures.len ∙ long (goal.at.first_unset-requires c).After-wires-2

pub mark_wires-requires : goal.mark_wires-requires
mark_wires-requires c = omega (arith, names-few c.args.netlist.now c.know_valid.ensures, long c)

pub mark_insts-requires : goal.mark_insts-requires
mark_insts-requires c = omega (arith, names-few c.args.netlist.now c.know_valid.ensures, c.mark_wires.ensures.len, long (goal.at.mark_insts-requires c).After-wires-2)

pub first_unset-requires : goal.first_unset-requires
first_unset-requires c =
    let used = all_used c in
    omega (arith, used.few, names-many c.args.netlist.now, all_long c)

pub overflow_cast-result : goal.overflow_cast-result
overflow_cast-result c =
    omega (arith, names-few c.args.netlist.now c.know_valid.ensures, all_long (goal.at.overflow_cast-result c).After-deref, c.first_unset.ensures.there)

pub returns : goal.returns
returns c =
    fresh-from c.args.netlist.now c.deref.result.now c.first_unset.result (all_used (goal.at.returns c).After-deref) c.first_unset.ensures.there c.first_unset.ensures.unset
    c.first_unset.ensures.before
