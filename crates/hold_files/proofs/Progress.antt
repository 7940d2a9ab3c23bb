-- How far a whole read, a whole write or a whole saying has come: the contracts of these calls with a place
-- in place of the end.
use Rattle.std.proofs.Common.{◌≡◌, ◌<◌, ◌≤◌, ◌+◌, ◌-◌, ℕ, List, ◌++◌, Some, IsSome, length, take, drop, sym, ◌∙◌, append_assoc, arith, length-drop}
use Rattle.std.proofs.lemmas.List.{take-append-drop, take_all}
use Rattle.hold_files.specs.Told.{Told, KeepsSaid, OnlyReads, OnlyWrites, OnlySays}
use Rattle.hold_files.specs.Whole.{IsPartSaid}
use Rattle.hold_files.proofs.Pieces.{more_within, more_taken, more_length, more_read, past_end}
use Rattle.hold_files.proofs.ToldLemmas.{OnlyReads-trans, OnlyWrites-trans, OnlySays-trans}

-- the front of the text is written, and nothing else
pub record IsWrittenTo (old new : Told) (name text : List ℕ) (place : ℕ) : Type 0 where
  pub within : place ≤ length text
  pub content : IsSome (old.content name) → new.content name ≡ Some (take place text)
  pub stays : OnlyWrites old new name

-- the front of the text is said, and nothing else
pub record IsSaidTo (old new : Told) (text : List ℕ) (place : ℕ) : Type 0 where
  pub within : place ≤ length text
  pub said : (before : List ℕ) → old.said ≡ Some before → new.said ≡ Some (before ++ take place text)
  pub stays : OnlySays old new

-- the front of the content is read, and nothing was changed
pub record IsReadTo (old new : Told) (name front : List ℕ) (limit : ℕ) : Type 0 where
  pub within : length front ≤ limit
  pub content : (text : List ℕ) → old.content name ≡ Some text → front ≡ take (length front) text
  pub stays : OnlyReads old new

-- one piece more is written
pub IsWrittenTo-more : (old now new : Told) (name text : List ℕ) (place n : ℕ) → IsWrittenTo old now name text place
    → n ≤ length (take (length text - place) (drop place text))
    → ((stood : List ℕ) → now.content name ≡ Some stood → new.content name ≡ Some (stood ++ take n (take (length text - place) (drop place text))))
    → OnlyWrites now new name → IsWrittenTo old new name text (place + n)
IsWrittenTo-more old now new name text place n so_far count appended stays = record {
  within = more_within text place n so_far.within count;
  content = λ some. rw (← more_taken text place n) (appended (take place text) (so_far.content some));
  stays = OnlyWrites-trans old now new name so_far.stays stays;
}

-- one piece more is said
pub IsSaidTo-more : (old now new : Told) (text : List ℕ) (place n : ℕ) → IsSaidTo old now text place
    → n ≤ length (take (length text - place) (drop place text))
    → ((said : List ℕ) → now.said ≡ Some said → new.said ≡ Some (said ++ take n (take (length text - place) (drop place text))))
    → OnlySays now new → IsSaidTo old new text (place + n)
IsSaidTo-more old now new text place n so_far count appended stays = record {
  within = more_within text place n so_far.within count;
  said = λ before is. rw (← more_taken text place n, ← append_assoc before (take place text) (take n (take (length text - place) (drop place text))))
      (appended (before ++ take place text) (so_far.said before is));
  stays = OnlySays-trans old now new so_far.stays stays;
}

-- a saying that stops before the end leaves the text cut short
pub IsSaidTo-cut : (old now new : Told) (text : List ℕ) (place : ℕ) → IsSaidTo old now text place → place < length text
    → KeepsSaid now new → IsPartSaid old new text
IsSaidTo-cut old now new text place so_far short keeps = λ before is. record {
  front = take place text;
  rest = drop place text;
  parts = sym (take-append-drop place text);
  short = omega (arith, length-drop place text);
  is = keeps (before ++ take place text) (so_far.said before is);
}

-- one piece more is read
pub IsReadTo-more : (old now new : Told) (name front piece : List ℕ) (limit n : ℕ) → IsReadTo old now name front limit
    → n ≤ length piece → n ≤ limit - length front
    → ((text : List ℕ) → now.content name ≡ Some text → take n piece ≡ take n (drop (length front) text))
    → OnlyReads now new → IsReadTo old new name (front ++ take n piece) limit
IsReadTo-more old now new name front piece limit n so_far count fits copied stays = record {
  within = omega (arith, so_far.within, more_length front piece n count);
  content = λ text is. more_read front piece text n count (so_far.content text is) (copied text (so_far.stays.contents name text is));
  stays = OnlyReads-trans old now new so_far.stays stays;
}

-- a read of nothing is at the end
pub IsReadTo-end : (old now : Told) (name front : List ℕ) (limit : ℕ) → IsReadTo old now name front limit
    → ((text : List ℕ) → now.content name ≡ Some text → length text ≤ length front)
    → (text : List ℕ) → old.content name ≡ Some text → front ≡ text
IsReadTo-end old now name front limit so_far at_end text is =
    so_far.content text is ∙ take_all (length front) text (at_end text (so_far.stays.contents name text is))

-- a piece that passes the limit shows a content that does
pub IsReadTo-past : (old now : Told) (name front piece : List ℕ) (limit n : ℕ) → IsReadTo old now name front limit
    → n ≤ length piece → limit - length front < n
    → ((text : List ℕ) → now.content name ≡ Some text → take n piece ≡ take n (drop (length front) text))
    → (text : List ℕ) → old.content name ≡ Some text → limit < length text
IsReadTo-past old now name front piece limit n so_far count past copied text is =
    past_end piece text (length front) limit n count past (copied text (so_far.stays.contents name text is))
