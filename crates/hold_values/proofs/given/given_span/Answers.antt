use Rattle.std.proofs.Common.{subst}
use Rattle.std.specs.Prelude.{Option}
use Rattle.hold_base.specs.declared.time.Interval.{Interval}
use Rattle.hold_sdf.specs.declared.entry.Entry.{Entry}
use Rattle.hold_told.specs.Else.{OrElse}
use Rattle.hold_told.specs.Entries.{Says, IsOfArc, span_of}
use Rattle.hold_told.specs.Values.{IsHullOf, HullIfAny}
use Rattle.hold_values.specs.Defaults.{IsDefaultSpan}
use Rattle.hold_values.specs.Given.{IfAny}
use Rattle.hold_values.proofs.GivenLemmas.{else-second, no-hull, ok-weaker}
use Rattle.hold_values.proofs.given.given_span.Goals as goal

pub returns-in-None : goal.returns-in-None
returns-in-None c entries told =
    let Said : Interval → Type 0 = Says (λ (e : Entry). IsOfArc c.args.bound.now e c.args.arc.now) span_of entries in
    let Default : Interval → Type 0 = IsDefaultSpan c.args.bound.now c.args.job.now c.args.corner.0 c.args.arc.now in
    let none = subst (λ (o : Option Interval). HullIfAny Said o) c.in-None.is told in
    ok-weaker (λ (o : Option Interval). IfAny Default o) (λ (o : Option Interval). IfAny (OrElse (IsHullOf Said) Default) o) c.default_span.result (λ o h. else-second (IsHullOf Said) Default o (no-hull Said none) h) c.default_span.ensures
