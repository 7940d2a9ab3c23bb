-- Texts in a job, and the names that they are.
--
-- text d: a text.
-- is_file_name t: 1 to 4,096 bytes. is_name t: the same, and each byte prints and is no space. is_corner_name t: 1 to 64 such bytes.
-- file_name, name: the forms of the name of a file, and of a type, an instance or a pin.
-- new_name taken: the form of such a name that isn't taken. corner_name taken: the same of a corner.
-- one_of names: the form of one of these names.
use Rattle.std.specs.Prelude.{ℕ, List, length, Bool, not, ◌&&◌, nat_le}
use Rattle.std.specs.List.{list_all}
use Rattle.toml.specs.Data.{as_str}
use Rattle.hold_base.specs.Limits.{name_limit, corner_name_limit}
use Rattle.hold_base.specs.NameBytes.{is_printed}
use Rattle.hold_netlist.specs.Names.{is_among}
use Rattle.hold_job.specs.Outcome.{◌>>=◌, of_kind, in_rule}
use Rattle.hold_job.specs.Keys.{Form}

abbrev pub text : Form (List ℕ)
text d = of_kind (as_str d)

abbrev pub is_file_name : List ℕ → Bool
is_file_name t = nat_le 1 (length t) && nat_le (length t) name_limit

abbrev pub is_name : List ℕ → Bool
is_name t = is_file_name t && list_all is_printed t

abbrev pub is_corner_name : List ℕ → Bool
is_corner_name t = (nat_le 1 (length t) && nat_le (length t) corner_name_limit) && list_all is_printed t

abbrev pub file_name : Form (List ℕ)
file_name d = text d >>= in_rule is_file_name

abbrev pub name : Form (List ℕ)
name d = text d >>= in_rule is_name

abbrev pub new_name : List (List ℕ) → Form (List ℕ)
new_name taken d = text d >>= in_rule (λ t. is_name t && not (is_among t taken))

abbrev pub corner_name : List (List ℕ) → Form (List ℕ)
corner_name taken d = text d >>= in_rule (λ t. is_corner_name t && not (is_among t taken))

abbrev pub one_of : List (List ℕ) → Form (List ℕ)
one_of names d = text d >>= in_rule (λ t. is_among t names)
