-- IsCutShort start text now: what is told now is what stood at the start, and then the front of the text
--   without at least its last byte. Nothing of the text may be there. Never so for the empty text.
-- IsPartWritten old new name text: a write of the whole text to that name failed: where its content was
--   told, it is as before, empty, or the text cut short.
-- IsPartSaid old new text: the saying of a whole text failed: where the bytes said were told, the text cut
--   short was appended.
use Rattle.std.specs.Prelude.{◌≡◌, ◌⊎◌, ◌<◌, ◌++◌, ℕ, List, [], Option, Some, length}
use Rattle.hold_files.specs.Told.{Told}

-- the text without its end
pub record IsCutShort (start text : List ℕ) (now : Option (List ℕ)) : Type 0 where
  pub front : List ℕ
  pub rest : List ℕ
  pub parts : text ≡ front ++ rest
  pub short : 0 < length rest
  pub is : now ≡ Some (start ++ front)

-- as before, empty or cut short
abbrev pub IsPartWritten : Told → Told → List ℕ → List ℕ → Type 0
IsPartWritten old new name text = (before : List ℕ) → old.content name ≡ Some before
    → (new.content name ≡ Some before) ⊎ (new.content name ≡ Some []) ⊎ IsCutShort [] text (new.content name)

-- a line cut short
abbrev pub IsPartSaid : Told → Told → List ℕ → Type 0
IsPartSaid old new text = (before : List ℕ) → old.said ≡ Some before → IsCutShort before text new.said
