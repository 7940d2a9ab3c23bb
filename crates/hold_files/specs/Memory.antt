-- Entries: files in memory, by name.
-- entry_of entries name: the file of that name, or None where there is none.
-- told_in: what is told of files in memory, given their entries, the bytes said, the counts of failed reads and of
--   failed writes that all names without an entry share, and the count of failed sayings.
-- told_of: what MemoryFiles tells. A name without an entry tells no content.
-- HasEntry m name: there is a file of that name.
-- IsOutput m name: there is a file of that name, and it may be written.
-- IsRoomOf m room: every output, and what is said, may grow to that many bytes.
-- HasNoFault told: all counts of faults are 0.
-- IsFresh m listed: no call was made yet, and the listed ones are to fail.
-- ShareCounter m p q: one counter counts the faults of both names: they are the same, or neither has a file.
-- RisesAlone m name before now: the counts before and after a call for that name are the same for each name that
--   doesn't share its counter.
-- put_growth m name piece, say_growth m piece: how many bytes of the piece the next put or saying takes where it
--   doesn't fail; 0 where there is no file of that name.
-- IsNext old new calls: after one call: the numbers of the next calls are these, and the calls that fail, the
--   outputs and the rooms are as before.
-- ReadFails m name: the next read of that name fails: its number is listed, or there is no such file.
-- StartFails m name: the next start of that name fails: its number is listed, or the name is no output.
-- PutFails m name piece: the next put of that piece fails: its number is listed, the name is no output, or the piece
--   has bytes and none of them fits.
-- SayFails m piece: the next saying of that piece fails: its number is listed, or the piece has bytes and none fits.
use Rattle.std.specs.Prelude.{◌≡◌, ◌⊎◌, ℕ, List, Option, Some, None, IsTrue, IsSome, IsSomeAnd, Contains, unwrap_or, option_map}
use Rattle.std.specs.Option.{option_map_or}
use Rattle.std.specs.Ordering.{nat_cmp}
use Rattle.std.specs.Cmp.Lexicographic.{slice_cmp}
use Rattle.std.specs.BTreeMap.{BTreeMap, get}
use Rattle.hold_files.specs.declared.memory.MemoryFiles.{MemoryFiles}
use Rattle.hold_files.specs.declared.memory.Calls.{Calls}
use Rattle.hold_files.specs.declared.memory.Fails.{Fails}
use Rattle.hold_files.specs.declared.memory.entry.Entry.{Entry}
use Rattle.hold_files.specs.Told.{Told}
use Rattle.hold_files.specs.Shelf.{IsFull, growth}

-- files by name
abbrev pub Entries : Type 0
Entries = BTreeMap (List ℕ) Entry

-- the file of a name
abbrev pub entry_of : Entries → List ℕ → Option Entry
entry_of entries name = get (slice_cmp nat_cmp) entries name

-- what some entries and counts tell
abbrev pub told_in : Entries → List ℕ → ℕ → ℕ → ℕ → Told
told_in entries said other_reads other_writes says = record {
  content = λ name. option_map (λ e. e.buffer.text) (entry_of entries name);
  said = Some said;
  read_faults = λ name. unwrap_or (option_map (λ e. e.read_faults) (entry_of entries name)) other_reads;
  write_faults = λ name. unwrap_or (option_map (λ e. e.write_faults) (entry_of entries name)) other_writes;
  say_faults = says;
}

-- what files in memory tell
abbrev pub told_of : MemoryFiles → Told
told_of m = told_in m.entries m.said.text m.other_read_faults m.other_write_faults m.say_faults

-- there is such a file
abbrev pub HasEntry : MemoryFiles → List ℕ → Type 0
HasEntry m name = IsSome (entry_of m.entries name)

-- there is such a file, and it may be written
abbrev pub IsOutput : MemoryFiles → List ℕ → Type 0
IsOutput m name = IsSomeAnd (entry_of m.entries name) (λ e. IsTrue e.is_output)

-- each output and what is said may grow to that size
pub record IsRoomOf (m : MemoryFiles) (room : ℕ) : Type 0 where
  pub outputs : (q : List ℕ) → IsOutput m q → IsSomeAnd (entry_of m.entries q) (λ e. e.buffer.room ≡ room)
  pub said : m.said.room ≡ room

-- no count of faults has risen yet
pub record HasNoFault (told : Told) : Type 0 where
  pub reads : (q : List ℕ) → told.read_faults q ≡ 0
  pub writes : (q : List ℕ) → told.write_faults q ≡ 0
  pub says : told.say_faults ≡ 0

-- no call was made yet, and these are the ones that fail
pub record IsFresh (m : MemoryFiles) (listed : Fails) : Type 0 where
  pub fails : m.fails ≡ listed
  pub reads : m.calls.reads ≡ 0
  pub starts : m.calls.starts ≡ 0
  pub puts : m.calls.puts ≡ 0
  pub says : m.calls.says ≡ 0

-- both names are counted by one counter
abbrev pub ShareCounter : MemoryFiles → List ℕ → List ℕ → Type 0
ShareCounter m p q = (p ≡ q) ⊎ ((¬ HasEntry m p) × (¬ HasEntry m q))

-- each other counter is as before
abbrev pub RisesAlone : MemoryFiles → List ℕ → (List ℕ → ℕ) → (List ℕ → ℕ) → Type 0
RisesAlone m name before now = (q : List ℕ) → (¬ ShareCounter m name q) → now q ≡ before q

-- how many bytes a put takes
abbrev pub put_growth : MemoryFiles → List ℕ → List ℕ → ℕ
put_growth m name piece = option_map_or (λ e. growth e.buffer piece) (entry_of m.entries name) 0

-- how many bytes a saying takes
abbrev pub say_growth : MemoryFiles → List ℕ → ℕ
say_growth m piece = growth m.said piece

-- one call later
pub record IsNext (old new : MemoryFiles) (next : Calls) : Type 0 where
  pub calls : new.calls ≡ next
  pub fails : new.fails ≡ old.fails
  pub outputs : (q : List ℕ) → option_map (λ e. e.is_output) (entry_of new.entries q) ≡ option_map (λ e. e.is_output) (entry_of old.entries q)
  pub rooms : (q : List ℕ) → option_map (λ e. e.buffer.room) (entry_of new.entries q) ≡ option_map (λ e. e.buffer.room) (entry_of old.entries q)
  pub said : new.said.room ≡ old.said.room

-- the next read fails
abbrev pub ReadFails : MemoryFiles → List ℕ → Type 0
ReadFails m name = Contains m.fails.reads m.calls.reads ⊎ (entry_of m.entries name ≡ None)

-- the next start fails
abbrev pub StartFails : MemoryFiles → List ℕ → Type 0
StartFails m name = Contains m.fails.starts m.calls.starts ⊎ (¬ IsOutput m name)

-- the next put fails
abbrev pub PutFails : MemoryFiles → List ℕ → List ℕ → Type 0
PutFails m name piece = Contains m.fails.puts m.calls.puts ⊎ (¬ IsOutput m name)
    ⊎ IsSomeAnd (entry_of m.entries name) (λ e. IsFull e.buffer piece)

-- the next saying fails
abbrev pub SayFails : MemoryFiles → List ℕ → Type 0
SayFails m piece = Contains m.fails.says m.calls.says ⊎ IsFull m.said piece
