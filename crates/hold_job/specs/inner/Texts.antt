-- texts rows: the texts behind references to them. unknown_among keys names: the first of a table's keys that isn't one of these.
use Rattle.std.specs.Prelude.{ℕ, List, [], ◌∷◌, map, String, string_bytes, if◌then◌else◌, Option, Some, None}
use Rattle.std.specs.Borrow.{Bor}
use Rattle.std.specs.declared.alloc.Global.{Global}
use Rattle.hold_netlist.specs.Names.{is_among}

abbrev pub texts : List (Bor (List ℕ)) → List (List ℕ)
texts rows = map (λ row. row.now) rows

abbrev pub unknown_among : List (List ℕ) → List (String Global) → Option (List ℕ)
unknown_among keys [] = None
unknown_among keys (s ∷ ss) = if is_among (string_bytes s) keys then unknown_among keys ss else Some (string_bytes s)
