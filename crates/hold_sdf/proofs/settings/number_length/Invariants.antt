use Rattle.std.proofs.Common.{◌≡◌, ◌+◌, drop}
use Rattle.hold_sdf.specs.Settings.{number_length}
use Rattle.hold_sdf.proofs.settings.number_length.Given as goal

abbrev pub invariant-loop-i : goal.invariant-loop-i
invariant-loop-i l = l.i + number_length (drop l.i l.text) ≡ number_length l.text
