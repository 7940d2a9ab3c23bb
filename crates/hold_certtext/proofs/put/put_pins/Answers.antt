use Rattle.std.proofs.Common.{◌<◌, arith}
use Rattle.std.proofs.lemmas.Grind.{common_steps}
use Rattle.std.proofs.lemmas.List.Elements.{All-more}
use Rattle.hold_base.specs.declared.number.PinNo.{PinNo}
use Rattle.hold_certtext.proofs.PutLemmas.{All-taken}
use Rattle.hold_certtext.proofs.put.put_pins.Goals as goal

pub loop-pin-preserved : goal.loop-pin-preserved
loop-pin-preserved c = record {
  text = grind (arith, common_steps);
  range = All-more (λ (pin : PinNo). pin.0 < 4294967296) c.args.pins.now c.loop-pin.pin-index _ (omega arith) c.loop-pin.invariant.range (c.in_ok-put_u32.ensures.range);
}

pub returns-clause-range : goal.returns-clause-range
returns-clause-range c = All-taken (λ (pin : PinNo). pin.0 < 4294967296) c.args.pins.now c.loop-pin.pin-index (omega arith) c.loop-pin.invariant.range
