use Rattle.hold_vparse.specs.inner.Measured.{measured_bounds}
use Rattle.hold_vparse.proofs.RangeLemmas.{same_width_by_classes}
use Rattle.hold_vparse.proofs.measured.Measured.has_width_of.Goals as goal

pub returns : goal.returns
returns c = λ numbers one here there.
    same_width_by_classes numbers (measured_bounds c.args.self.now) (measured_bounds c.args.other.now) c.args.self.now.classes c.args.other.now.classes one here there
