use Rattle.std.proofs.Common.{◌≡◌, ◌<◌, length, drop, IfSome}
use Rattle.hold_sdflex.specs.Backslashes.{last_bare_behind, last_bare}
use Rattle.hold_sdflex.proofs.Backslashes.{latest}
use Rattle.hold_sdflex.proofs.backslash.last_bare.Given as goal

abbrev pub invariant-loop-place : goal.invariant-loop-place
invariant-loop-place l = record {
  counted : latest l.place (last_bare_behind l.sign l.taken (drop l.place l.bytes)) l.last ≡ last_bare l.sign l.bytes;
  within : IfSome l.last (λ place. place < length l.bytes);
}
