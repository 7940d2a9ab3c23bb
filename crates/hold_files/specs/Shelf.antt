-- Reserved: a text and how long it may grow; a text that is longer already stays, and doesn't grow.
-- IsFull held piece: the piece has bytes and none of them fits.
-- growth held piece: how many bytes of the piece fit, 0 where none does.
-- risen count: the count after one fault more; it stays at 2^64 - 1.
-- bytes_at at into text: how many bytes a read gives: as many as there are from that place on, and at most as
--   the slice takes; 0 past the end.
use Rattle.std.specs.Prelude.{ℕ, ◌+◌, ◌-◌, ◌<◌, ◌≤◌, List, length, min}

pub record Reserved : Type 0 where
  pub text : List ℕ
  pub room : ℕ

-- no byte of the piece fits, and it has one
abbrev pub IsFull : Reserved → List ℕ → Type 0
IsFull held piece = (0 < length piece) × (held.room ≤ length held.text)

-- how much of the piece fits
abbrev pub growth : Reserved → List ℕ → ℕ
growth held piece = min (length piece) (held.room - length held.text)

-- one fault more
abbrev pub risen : ℕ → ℕ
risen count = min (count + 1) 18446744073709551615

-- how many bytes a read gives
abbrev pub bytes_at : ℕ → List ℕ → List ℕ → ℕ
bytes_at at into text = min (length into) (length text - at)
