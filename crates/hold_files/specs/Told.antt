-- Told: what holds of some files at one moment.
--   content: the content of the file of a name, or None where it isn't told (an absent file tells none).
--   said: the bytes said so far, or None where they aren't told.
--   read_faults, write_faults: how often reads, or writes, of a name have failed; names may share a count.
--   say_faults: how often saying has failed.
-- Rose before now: a count went up, or stands at 2^64 - 1, where a counter of 64 bits ends.
-- Each of the following compares an old moment with a new one.
-- Keeps: where the old one tells the content of the name, the new one tells the same. Nothing is asked of
--   a name that wasn't told.
-- KeepsOrEmpties: as Keeps, but the content may have been made empty instead.
-- SameContents: Keeps, for every name. SameElsewhere: Keeps, for every name but this one.
-- KeepsSaid: where the old one tells the bytes said, the new one tells the same.
-- SameReadFaults, SameWriteFaults: for each name that count is the same.
-- GoesOn: no count falls, and what is told stays told.
-- OnlyReads: as GoesOn; told contents and the bytes said stay, and no count has changed but those of reads.
-- OnlyWrites: as GoesOn; told contents of other names and the bytes said stay, and no count has changed but
--   those of writes.
-- OnlySays: as GoesOn; told contents stay, and no count has changed but that of sayings.
use Rattle.std.specs.Prelude.{◌≡◌, ◌≢◌, ◌⊎◌, ◌<◌, ◌≤◌, ℕ, List, [], Option, Some, IsSome}

pub record Told : Type 0 where
  pub content : List ℕ → Option (List ℕ)
  pub said : Option (List ℕ)
  pub read_faults : List ℕ → ℕ
  pub write_faults : List ℕ → ℕ
  pub say_faults : ℕ

-- the count rose
abbrev pub Rose : ℕ → ℕ → Type 0
Rose before now = (before < now) ⊎ (now ≡ 18446744073709551615)

-- a told content stays
abbrev pub Keeps : Told → Told → List ℕ → Type 0
Keeps old new name = (text : List ℕ) → old.content name ≡ Some text → new.content name ≡ Some text

-- a told content stays or is made empty
abbrev pub KeepsOrEmpties : Told → Told → List ℕ → Type 0
KeepsOrEmpties old new name = (text : List ℕ) → old.content name ≡ Some text
    → (new.content name ≡ Some text) ⊎ (new.content name ≡ Some [])

-- every told content stays
abbrev pub SameContents : Told → Told → Type 0
SameContents old new = (q : List ℕ) → Keeps old new q

-- every told content of another name stays
abbrev pub SameElsewhere : Told → Told → List ℕ → Type 0
SameElsewhere old new name = (q : List ℕ) → q ≢ name → Keeps old new q

-- the bytes said stay, where they are told
abbrev pub KeepsSaid : Told → Told → Type 0
KeepsSaid old new = (said : List ℕ) → old.said ≡ Some said → new.said ≡ Some said

-- no read has failed in between
abbrev pub SameReadFaults : Told → Told → Type 0
SameReadFaults old new = (q : List ℕ) → new.read_faults q ≡ old.read_faults q

-- no write has failed in between
abbrev pub SameWriteFaults : Told → Told → Type 0
SameWriteFaults old new = (q : List ℕ) → new.write_faults q ≡ old.write_faults q

-- counts never fall, and what is told stays told
pub record GoesOn (old new : Told) : Type 0 where
  pub reads : (q : List ℕ) → old.read_faults q ≤ new.read_faults q
  pub writes : (q : List ℕ) → old.write_faults q ≤ new.write_faults q
  pub says : old.say_faults ≤ new.say_faults
  pub contents : (q : List ℕ) → IsSome (old.content q) → IsSome (new.content q)
  pub said : IsSome old.said → IsSome new.said

-- reads change no content and nothing said, and only reads have failed
pub record OnlyReads (old new : Told) : Type 0 where
  pub goes_on : GoesOn old new
  pub contents : SameContents old new
  pub said : KeepsSaid old new
  pub writes : SameWriteFaults old new
  pub says : new.say_faults ≡ old.say_faults

-- writes of one name change no other content and nothing said, and only writes have failed
pub record OnlyWrites (old new : Told) (name : List ℕ) : Type 0 where
  pub goes_on : GoesOn old new
  pub elsewhere : SameElsewhere old new name
  pub said : KeepsSaid old new
  pub reads : SameReadFaults old new
  pub says : new.say_faults ≡ old.say_faults

-- sayings change no content, and only sayings have failed
pub record OnlySays (old new : Told) : Type 0 where
  pub goes_on : GoesOn old new
  pub contents : SameContents old new
  pub reads : SameReadFaults old new
  pub writes : SameWriteFaults old new
