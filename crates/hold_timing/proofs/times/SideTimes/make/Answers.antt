use Rattle.hold_timing.proofs.times.SideTimes.make.Goals as goal

pub returns : goal.returns
returns c = λ sites are. record {
  each = c.settle.ensures.len;
  right = c.settle.ensures.right sites are;
  asked = c.in_ok-required.ensures.each;
}
