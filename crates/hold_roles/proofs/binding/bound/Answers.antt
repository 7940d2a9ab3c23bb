use Rattle.std.proofs.Common.{◌≡◌, None}
use Rattle.hold_base.specs.Answers.{unless}
use Rattle.hold_roles.specs.Faults.{first_bad_pin, plain_fault}
use Rattle.hold_roles.proofs.AnswerLemmas.{Answers-stop, passed_on}
use Rattle.hold_roles.proofs.BindLemmas.{bad_pin-passed, bound-roots, bound-sound, double-first, links-again, plain-passed, ring-first}
use Rattle.hold_roles.proofs.binding.bound.Goals as goal

pub returns-in_err-test_pins-clause-fault : goal.returns-in_err-test_pins-clause-fault
returns-in_err-test_pins-clause-fault c =
    passed_on c.from_residual-in_err-test_pins.result c.in_err-test_pins.field-0.0 _ _ c.from_residual-in_err-test_pins.ensures.1
    (Answers-stop c.in_err-test_pins.field-0.0 (unless (first_bad_pin c.args.library.now c.insts-2.result.now) tt) c.in_err-test_pins.ensures)
    (bad_pin-passed c.args.library.now c.args.netlist c.insts.result.now c.insts-2.result.now c.in_default.ensures c.insts.ensures c.in_ok-cells.ensures.known c.insts-2.ensures)

pub returns-in-Some-first_double-clause-fault : goal.returns-in-Some-first_double-clause-fault
returns-in-Some-first_double-clause-fault c =
    let plain : plain_fault c.args.library.now c.args.netlist ≡ None =
    plain-passed c.args.library.now c.args.netlist c.insts.result.now c.insts-2.result.now c.in_default.ensures c.insts.ensures c.in_ok-cells.ensures.known c.insts-2.ensures c.in_ok-test_pins.ensures in
    double-first c.args.library.now c.args.netlist c.in_ok-slots.slots.items c.in_ok-slots.ensures c.deref.result.now c.in-Some-first_double.net c.in_ok-name.name c.deref.ensures.value
    c.in-Some-first_double.ensures.some plain c.in_ok-name.ensures

pub marks_of-requires-clause-links : goal.marks_of-requires-clause-links
marks_of-requires-clause-links c =
    links-again c.args.library.now c.args.netlist c.in_ok-slots.slots.items c.in_ok-slots.ensures c.deref.result.now c.deref.ensures.value c.in_default-first_double.ensures.none
    c.deref-2.result.now c.know_valid.ensures.well_formed c.deref-2.ensures.value

pub returns-in-Some-first_ring-clause-fault : goal.returns-in-Some-first_ring-clause-fault
returns-in-Some-first_ring-clause-fault c =
    let plain : plain_fault c.args.library.now c.args.netlist ≡ None =
    plain-passed c.args.library.now c.args.netlist c.insts.result.now c.insts-2.result.now c.in_default.ensures c.insts.ensures c.in_ok-cells.ensures.known c.insts-2.ensures c.in_ok-test_pins.ensures in
    ring-first c.args.library.now c.args.netlist c.in_ok-slots.slots.items c.in_ok-slots.ensures c.deref.result.now c.deref.ensures.value c.in_default-first_double.ensures.none
    c.deref-2.result.now c.deref-2.ensures.value c.in_ok-marks.marks.items c.in_ok-marks.ensures.each c.in_ok-marks.ensures.marked c.in_ok-marks.ensures.done
    c.deref-3.result.now c.deref-3.ensures.value plain c.in-Some-first_ring.net c.in_ok-name-2.name c.in-Some-first_ring.ensures.some c.in_ok-name-2.ensures

pub new-requires-clause-sound : goal.new-requires-clause-sound
new-requires-clause-sound c =
    let plain : plain_fault c.args.library.now c.args.netlist ≡ None =
    plain-passed c.args.library.now c.args.netlist c.insts.result.now c.insts-2.result.now c.in_default.ensures c.insts.ensures c.in_ok-cells.ensures.known c.insts-2.ensures c.in_ok-test_pins.ensures in
    bound-sound c.args.library.now c.args.netlist c.in_ok-slots.slots.items c.in_ok-slots.ensures c.deref.result.now c.deref.ensures.value c.in_default-first_double.ensures.none
    c.deref-2.result.now c.deref-2.ensures.value c.in_ok-marks.marks.items c.in_ok-marks.ensures.each c.in_ok-marks.ensures.marked c.in_ok-marks.ensures.done
    c.deref-3.result.now c.deref-3.ensures.value plain c.in_default-first_ring.ensures.none c.in_ok-library.library c.in_ok-library.ensures

pub new-requires-clause-roots : goal.new-requires-clause-roots
new-requires-clause-roots c =
    let plain : plain_fault c.args.library.now c.args.netlist ≡ None =
    plain-passed c.args.library.now c.args.netlist c.insts.result.now c.insts-2.result.now c.in_default.ensures c.insts.ensures c.in_ok-cells.ensures.known c.insts-2.ensures c.in_ok-test_pins.ensures in
    bound-roots c.args.library.now c.args.netlist c.in_ok-slots.slots.items c.in_ok-slots.ensures c.deref.result.now c.deref.ensures.value c.in_default-first_double.ensures.none
    c.deref-2.result.now c.deref-2.ensures.value c.in_ok-marks.marks.items c.in_ok-marks.ensures.each c.in_ok-marks.ensures.marked c.in_ok-marks.ensures.done
    c.deref-3.result.now c.deref-3.ensures.value plain c.in_default-first_ring.ensures.none c.in_ok-library.library c.deref-4.result.now c.in_ok-roots.roots.items
    c.in_ok-library.ensures c.deref-4.ensures.value c.in_ok-roots.ensures
