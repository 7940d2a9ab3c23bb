-- What a call does that adds entries to a list.
--
-- after front answer: these entries and then those of the answer; the answer's fault where it has one.
-- Adds result old new answer: the call added the entries of the answer, or stopped for its fault. Want of memory is free.
-- AnswersAs shown result expected: the call's value stands for the one that is expected, or it stopped for the expected fault.
-- AnswersSettings result left expected: the same of settings, with the items that are left behind the headers.
use Rattle.std.specs.Prelude.{◌≡◌, List, ◌++◌, Result, Ok, Err}
use Rattle.hold_base.specs.declared.stop.Stop.{Stop}
use Rattle.hold_base.specs.declared.stop.Stop.TheVariants.{Memory, Fault}
use Rattle.hold_sdflex.specs.Items.{Item}
use Rattle.hold_sdf.specs.declared.entry.Entry.{Entry}
use Rattle.hold_sdf.specs.declared.settings.Settings.{Settings as SettingsRead}
use Rattle.hold_sdf.specs.Settings.{Settings}
use Rattle.hold_sdf.specs.inner.Shown.{shown_settings}
use Rattle.hold_sdf.specs.declared.fault.SdfFault.{SdfFault}
use Rattle.hold_sdf.specs.Entries.{Answer, and_then}

abbrev pub after : List Entry → Answer → Answer
after front answer = and_then answer (λ rest. Ok (front ++ rest))

abbrev pub Adds : {X : Type 0} → Result X (Stop SdfFault) → List Entry → List Entry → Answer → Type 0
Adds (Ok x) old new answer = after old answer ≡ Ok new
Adds (Err Memory) old new answer = Unit {0}
Adds (Err (Fault fault)) old new answer = after old answer ≡ Err fault

abbrev pub AnswersAs : {X Y : Type 0} → (X → Y) → Result X (Stop SdfFault) → Result Y SdfFault → Type 0
AnswersAs shown (Ok x) expected = expected ≡ Ok (shown x)
AnswersAs shown (Err Memory) expected = Unit {0}
AnswersAs shown (Err (Fault fault)) expected = expected ≡ Err fault

abbrev pub AnswersSettings : Result SettingsRead (Stop SdfFault) → List Item → Result (Settings × List Item) SdfFault → Type 0
AnswersSettings (Ok s) left expected = expected ≡ Ok (shown_settings s, left)
AnswersSettings (Err Memory) left expected = Unit {0}
AnswersSettings (Err (Fault fault)) left expected = expected ≡ Err fault
