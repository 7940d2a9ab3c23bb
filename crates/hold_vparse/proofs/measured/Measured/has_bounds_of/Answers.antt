use Rattle.std.proofs.Common.{◌∙◌}
use Rattle.hold_vparse.specs.inner.Measured.{measured_bounds}
use Rattle.hold_vparse.proofs.RangeLemmas.{same_bounds_by_classes}
use Rattle.hold_vparse.proofs.measured.Measured.has_bounds_of.Goals as goal

pub returns : goal.returns
returns c = λ numbers one here there.
    c.have_same_bounds.ensures ∙ same_bounds_by_classes numbers (measured_bounds c.args.self.now) (measured_bounds c.args.other.now) c.args.self.now.classes c.args.other.now.classes one here there
