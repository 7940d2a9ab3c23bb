use Rattle.std.proofs.Common.{◌≡◌, drop}
use Rattle.std.specs.List.{list_all}
use Rattle.hold_base.specs.NameBytes.{is_printed}
use Rattle.hold_certtext.proofs.pad.prints.Given as goal

abbrev pub invariant-loop-byte : goal.invariant-loop-byte
invariant-loop-byte l = list_all is_printed (drop l.byte-index l.text) ≡ list_all is_printed l.text
