-- Ready: the texts that an answer writes: files by name and text, in the order of writing, and then a line that is said.
-- NotAmong name files: none of these files has this name.
-- AreWhole old new files: each of these files, where its content was told, now has its whole text.
-- OthersKeep old new files: every file of another name, where its content was told, stays as it was.
-- IsDone old new ready: every text was written, the line was said, and nothing else changed, each as far as it was told.
-- FailsInFile old new ready: one of the files failed, and its count of failed writes rose. Those before it are whole; it is as
--   before, empty or cut short; those after it and all others stay, and nothing was said.
-- FailsInLine old new ready: the files are whole, all others stay, the line was cut short, and the count of failed sayings rose.
--   Fails: one of the two.
-- SaysNothing old new: no file changed and nothing was said, as far as they were told.
use Rattle.std.specs.Prelude.{◌≡◌, ◌≢◌, ◌⊎◌, ℕ, List, [], ◌∷◌, ◌++◌, Some, IsSome}
use Rattle.hold_files.specs.Told.{Told, Rose, Keeps, KeepsSaid, SameContents}
use Rattle.hold_files.specs.Whole.{IsPartWritten, IsPartSaid}

pub record Ready : Type 0 where
  pub files : List (List ℕ × List ℕ)
  pub line : List ℕ

abbrev pub NotAmong : List ℕ → List (List ℕ × List ℕ) → Type 0
NotAmong name [] = Unit {0}
NotAmong name (file ∷ files) = (name ≢ file.0) × NotAmong name files

abbrev pub AreWhole : Told → Told → List (List ℕ × List ℕ) → Type 0
AreWhole old new [] = Unit {0}
AreWhole old new (file ∷ files) = (IsSome (old.content file.0) → new.content file.0 ≡ Some file.1) × AreWhole old new files

abbrev pub OthersKeep : Told → Told → List (List ℕ × List ℕ) → Type 0
OthersKeep old new files = (q : List ℕ) → NotAmong q files → Keeps old new q

pub record IsDone (old new : Told) (ready : Ready) : Type 0 where
  pub files : AreWhole old new ready.files
  pub others : OthersKeep old new ready.files
  pub said : (before : List ℕ) → old.said ≡ Some before → new.said ≡ Some (before ++ ready.line)

pub record FailsInFile (old new : Told) (ready : Ready) : Type 0 where
  pub done : List (List ℕ × List ℕ)
  pub file : List ℕ
  pub text : List ℕ
  pub rest : List (List ℕ × List ℕ)
  pub parts : ready.files ≡ done ++ (file, text) ∷ rest
  pub whole : AreWhole old new done
  pub part : IsPartWritten old new file text
  pub others : OthersKeep old new (done ++ (file, text) ∷ [])
  pub unsaid : KeepsSaid old new
  pub cause : Rose (old.write_faults file) (new.write_faults file)

pub record FailsInLine (old new : Told) (ready : Ready) : Type 0 where
  pub files : AreWhole old new ready.files
  pub others : OthersKeep old new ready.files
  pub part : IsPartSaid old new ready.line
  pub cause : Rose old.say_faults new.say_faults

abbrev pub Fails : Told → Told → Ready → Type 0
Fails old new ready = FailsInFile old new ready ⊎ FailsInLine old new ready

pub record SaysNothing (old new : Told) : Type 0 where
  pub contents : SameContents old new
  pub said : KeepsSaid old new
