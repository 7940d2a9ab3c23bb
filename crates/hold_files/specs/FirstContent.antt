-- text_in q texts: the first text of that name, or None where no text has it.
-- is_listed_name q names: whether the name is among them.
-- first_content q texts outputs: the content of the file of that name before any call: its first text, else empty
--   where it is an output; None where it is neither.
use Rattle.std.specs.Prelude.{ℕ, Bool, true, false, List, [], ◌∷◌, Option, Some, None, Vec, if◌then◌else◌}
use Rattle.std.specs.Option.{option_or}
use Rattle.std.specs.Str.{bytes_eq}
use Rattle.std.specs.declared.alloc.Global.{Global}

-- the first text of that name
abbrev pub text_in : List ℕ → List (List ℕ × Vec ℕ Global) → Option (List ℕ)
text_in q [] = None
text_in q (t ∷ ts) = if bytes_eq t.0 q then Some t.1.items else text_in q ts

-- the name is among them
abbrev pub is_listed_name : List ℕ → List (List ℕ) → Bool
is_listed_name q [] = false
is_listed_name q (name ∷ names) = if bytes_eq name q then true else is_listed_name q names

-- the content at first: the first text of that name, or else empty where it is an output
abbrev pub first_content : List ℕ → List (List ℕ × Vec ℕ Global) → List (List ℕ) → Option (List ℕ)
first_content q texts outputs = option_or (text_in q texts) (if is_listed_name q outputs then Some [] else None)
