-- The keys of a table's map beside the members that it stands for.
use Rattle.std.proofs.Common.{◌≡◌, ℕ, List, [], ◌∷◌, string_bytes, cond, refl, ap}
use Rattle.std.specs.Prelude.{Some}
use Rattle.std.specs.Map.{keys_of as map_keys}
use Rattle.toml.specs.View.{members_view}
use Rattle.toml.proofs.Views.{Entry}
use Rattle.hold_netlist.specs.Names.{is_among}
use Rattle.hold_job.specs.Keys.{unknown}
use Rattle.hold_job.specs.inner.Texts.{unknown_among}

pub unknown_keys : (keys : List (List ℕ)) (es : List Entry) → unknown_among keys (map_keys es) ≡ unknown keys (members_view es)
unknown_keys keys [] = refl
unknown_keys keys (e ∷ es) = ap (λ rest. cond (is_among (string_bytes e.0) keys) rest (Some (string_bytes e.0))) (unknown_keys keys es)
