-- Gives result read rest: the result is what reading gives, and the rest the symbols behind it; a fault where
--   reading gives nothing. Want of memory may come in either case.
-- GivesRest result read rest: the same where nothing but the rest is read.
-- GivesOption result read rest: the same where nothing read is no fault, and then nothing is changed.
use Rattle.std.specs.Prelude.{◌≡◌, List, Option, Some, None, Result, Ok, Err}
use Rattle.hold_base.specs.declared.stop.Stop.{Stop}
use Rattle.hold_base.specs.declared.stop.Stop.TheVariants.{Memory, Fault}
use Rattle.hold_vsyntax.specs.declared.fault.BadPiece.{BadPiece}
use Rattle.hold_vsyntax.specs.Symbols.{Symbol}

abbrev pub Gives : {X : Type 0} → Result X (Stop BadPiece) → Option (X × List Symbol) → List Symbol → Type 0
Gives (Ok x) read rest = read ≡ Some (x, rest)
Gives (Err Memory) read rest = Unit {0}
Gives (Err (Fault bad)) read rest = read ≡ None

abbrev pub GivesRest : {X : Type 0} → Result X (Stop BadPiece) → Option (List Symbol) → List Symbol → Type 0
GivesRest (Ok x) read rest = read ≡ Some rest
GivesRest (Err Memory) read rest = Unit {0}
GivesRest (Err (Fault bad)) read rest = read ≡ None

abbrev pub GivesOption : {X : Type 0} → Option X → Option (X × List Symbol) → List Symbol → List Symbol → Type 0
GivesOption (Some x) read old rest = read ≡ Some (x, rest)
GivesOption None read old rest = (read ≡ None) × (rest ≡ old)
