-- What a call answers that may stop for a fault or for want of memory. Want of memory is free: nothing is asked of it.
--
-- Answers result expected: the answer is what was expected, a value or a fault.
-- unless fault x: what is to be expected: that fault where there is one, else the value x.
-- IfFault result P: where the answer is a fault, P holds of it. Nothing is asked of a value.
-- IfStopFault stop P: the same of a reason to stop.
use Rattle.std.specs.Prelude.{◌≡◌, Option, Some, None, Result, Ok, Err}
use Rattle.hold_base.specs.declared.stop.Stop.{Stop}
use Rattle.hold_base.specs.declared.stop.Stop.TheVariants.{Memory, Fault}

abbrev pub Answers : {X F : Type 0} → Result X (Stop F) → Result X F → Type 0
Answers (Ok x) expected = expected ≡ Ok x
Answers (Err Memory) expected = Unit {0}
Answers (Err (Fault fault)) expected = expected ≡ Err fault

abbrev pub unless : {X F : Type 0} → Option F → X → Result X F
unless None x = Ok x
unless (Some fault) x = Err fault

abbrev pub IfStopFault : {F : Type 0} → Stop F → (F → Type 0) → Type 0
IfStopFault Memory P = Unit {0}
IfStopFault (Fault fault) P = P fault

abbrev pub IfFault : {X F : Type 0} → Result X (Stop F) → (F → Type 0) → Type 0
IfFault (Ok x) P = Unit {0}
IfFault (Err stop) P = IfStopFault stop P
