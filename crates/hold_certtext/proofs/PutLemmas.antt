-- What holds of all items that a loop has passed holds of all of them at its end.
use Rattle.std.proofs.Common.{ℕ, ◌≤◌, List, length, take, sym, All}
use Rattle.std.proofs.lemmas.List.{take_all}
use Rattle.std.proofs.lemmas.List.Elements.{All-same}

pub All-taken : {X : Type 0} (P : X → Type 0) (xs : List X) (n : ℕ) → length xs ≤ n → All P (take n xs) → All P xs
All-taken P xs n past h = All-same P xs (take n xs) (sym (take_all n xs past)) h
