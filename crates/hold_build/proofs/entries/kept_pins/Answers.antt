use Rattle.std.proofs.Common.{◌≡◌, ◌<◌, List, length, get_or, ap, arith, below_more, refl, subst, ◌∙◌}
use Rattle.std.specs.Prelude.{◌↔◌, Some, codes}
use Rattle.hold_base.specs.declared.number.PinNo.{PinNo}
use Rattle.hold_job.specs.declared.inst_times.Keep.{Keep}
use Rattle.hold_netlist.specs.Design.{Design}
use Rattle.hold_build.specs.Faults.{IsUnknownKeep, entry_path}
use Rattle.hold_build.specs.NetlistGraph.{IsKeptBy}
use Rattle.hold_build.specs.inner.Names.{AreNames}
use Rattle.hold_build.proofs.EntryLemmas.{keep-known, keep-unknown, keeps-past, kept-all, kept-next, kept-pin-within, no_pin-named, pin-named}
use Rattle.hold_build.proofs.entries.kept_pins.Goals as goal
use Rattle.hold_build.proofs.entries.kept_pins.Goals.{In-Some, In_ok-pin}

-- the entry of this turn
within : (c : In_ok-pin) → c.loop-place.place < length c.args.job.now.keeps
within c = omega (arith, ap (λ (l : List Keep). length l) c.as_slice-keep-items.ensures, c.loop-place-test.true)

here : (c : In_ok-pin) → c.keep-item.result ≡ get_or c.args.job.now.keeps c.loop-place.place c.keep-item.result
here c = c.keep-item.is ∙ ap (λ (l : List Keep). get_or l c.loop-place.place c.keep-item.result) c.as_slice-keep-items.ensures

-- and its pin
named : (c : In-Some) (p : PinNo) → IsKeptBy c.args.bound.now.netlist.insts c.keep-item.result p ↔ (Some c.in-Some.pin ≡ Some p)
named c = pin-named c.args.bound.now.netlist.insts c.netlist-netlist.result.now.insts c.keep-item.result c.in_ok-pin.field-0 c.in-Some.pin
    (ap (λ (d : Design). d.insts) c.netlist-netlist.ensures) c.in-Some.is c.in_ok-pin.ensures.pin

pub returns-in_default-clause-fault : goal.returns-in_default-clause-fault
returns-in_default-clause-fault c =
    let turn = (goal.at.returns-in_default-clause-fault c).In_ok-pin in
    record {
      path = entry_path (codes "keep") c.loop-place.place;
      is = c.in_ok-entry_fault.ensures;
      entry = c.loop-place.place;
      first = record {
        holds = keep-unknown c.args.bound.now c.args.job.now c.loop-place.place c.keep-item.result (within turn) (here turn)
            (no_pin-named c.args.bound.now.netlist.insts c.netlist-netlist.result.now.insts c.keep-item.result c.in_ok-pin.field-0 (ap (λ (d : Design). d.insts) c.netlist-netlist.ensures)
            c.in_default.not-Some c.in_ok-pin.ensures.pin);
        none_before = c.loop-place.invariant.known;
      };
      said = refl;
    }

pub mark-requires-clause-within : goal.mark-requires-clause-within
mark-requires-clause-within c =
    let below = kept-pin-within c.args.bound.now c.keep-item.result c.in-Some.pin (named (goal.at.mark-requires-clause-within c).In-Some) in
    omega (arith, below, c.loop-place.invariant.long)

pub loop-place-preserved : goal.loop-place-preserved
loop-place-preserved c =
    let turn = (goal.at.loop-place-preserved c).In_ok-pin in
    let pin = named (goal.at.loop-place-preserved c).In-Some in
    record {
      each = kept-next c.args.bound.now c.args.job.now c.loop-place.place c.keep-item.result (within turn) (here turn) c.in-Some.pin pin c.loop-place.pins.items c.mark.new.pins.items
          c.in_ok-mark.ensures.pins c.loop-place.invariant.each;
      known = below_more (λ k. IsUnknownKeep c.args.bound.now c.args.job.now k → ⊥) c.loop-place.place c.loop-place.invariant.known
          (keep-known c.args.bound.now c.args.job.now c.loop-place.place c.keep-item.result (within turn) (here turn) c.in-Some.pin pin);
      flags = c.in_ok-mark.ensures.flags;
      long = c.in_ok-mark.ensures.long ∙ c.loop-place.invariant.long;
      names = subst (λ (d : Design). AreNames d.insts c.kept_pin.new.self) c.netlist-netlist.ensures c.in_ok-pin.ensures.names;
    }

pub returns-clause-each : goal.returns-clause-each
returns-clause-each c = kept-all c.args.bound.now c.args.job.now c.loop-place.place c.loop-place.pins.items
    (omega (arith, ap (λ (l : List Keep). length l) c.as_slice-keep-items.ensures, c.loop-place-test.false)) c.loop-place.invariant.each

pub returns-clause-known : goal.returns-clause-known
returns-clause-known c = λ k h. c.loop-place.invariant.known k
    (keeps-past c.args.bound.now c.args.job.now c.loop-place.place k (omega (arith, ap (λ (l : List Keep). length l) c.as_slice-keep-items.ensures, c.loop-place-test.false)) h) h
