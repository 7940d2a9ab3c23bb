use Rattle.std.proofs.Common.{◌∙◌, ap}
use Rattle.hold_timing.specs.Arrivals.{Times}
use Rattle.hold_timing.proofs.times.SideTimes.refresh.Goals as goal

pub returns : goal.returns
returns c = λ sites are. record {
  each = c.settle.ensures.len;
  right = c.settle.ensures.right sites are;
  asked = ap (λ (t : Times). t.required) c.self.view_is ∙ c.requires.asked;
}
