-- new_entry text room is_output: a file with that text, which may grow to that room, is an output or not, and has no
--   fault.
-- entry_in_texts q texts: the file of that name where each first text is a file and no output; None where no text
--   has the name.
-- as_output before room: an output of that room, with the text from before, or empty where there was none, and
--   without a fault.
-- entry_with_outputs q outputs room before: the file of that name once these names are outputs: as_output where the
--   name is one of them, else as before.
-- IsSet old new name entry: the new entries give that name this file, or none, and each other name what the old
--   ones give it.
-- IsTextAdded old new name text: that name got a file with the text, which is no output, if it had no file; each
--   other name has what it had, and so has that one if it had a file.
-- IsOutputAdded old new name room: that name has what as_output makes of its file, and each other name has what it
--   had.
use Rattle.std.specs.Prelude.{◌≡◌, ℕ, Bool, true, false, List, [], Option, Some, None, Vec, option_map, if◌then◌else◌}
use Rattle.std.specs.Option.{option_or, option_map_or}
use Rattle.std.specs.Str.{bytes_eq}
use Rattle.std.specs.declared.alloc.Global.{Global}
use Rattle.hold_files.specs.declared.memory.entry.Entry.{Entry}
use Rattle.hold_files.specs.Memory.{Entries, entry_of}
use Rattle.hold_files.specs.FirstContent.{text_in, is_listed_name}

abbrev pub new_entry : List ℕ → ℕ → Bool → Entry
new_entry text room is_output = record { buffer = record { text = text; room = room }; is_output = is_output; read_faults = 0; write_faults = 0 }

-- a file that is no output, for each first text
abbrev pub entry_in_texts : List ℕ → List (List ℕ × Vec ℕ Global) → Option Entry
entry_in_texts q texts = option_map (λ text. new_entry text 0 false) (text_in q texts)

-- a file made an output
abbrev pub as_output : Option Entry → ℕ → Entry
as_output before room = new_entry (option_map_or (λ e. e.buffer.text) before []) room true

-- a file, or an output where the name is one of these
abbrev pub entry_with_outputs : List ℕ → List (List ℕ) → ℕ → Option Entry → Option Entry
entry_with_outputs q outputs room before = if is_listed_name q outputs then Some (as_output before room) else before

-- that name has this file, or none, and all others are as before
abbrev pub IsSet : Entries → Entries → List ℕ → Option Entry → Type 0
IsSet old new name entry = (q : List ℕ) → entry_of new q ≡ (if bytes_eq name q then entry else entry_of old q)

-- one text was added, if there was none of that name
abbrev pub IsTextAdded : Entries → Entries → List ℕ → List ℕ → Type 0
IsTextAdded old new name text = (q : List ℕ) → entry_of new q ≡ option_or (entry_of old q) (if bytes_eq name q then Some (new_entry text 0 false) else None)

-- one name was made an output
abbrev pub IsOutputAdded : Entries → Entries → List ℕ → ℕ → Type 0
IsOutputAdded old new name room = (q : List ℕ) → entry_of new q ≡ (if bytes_eq name q then Some (as_output (entry_of old q) room) else entry_of old q)
