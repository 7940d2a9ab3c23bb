-- What the words of a line are read as, part by part, if they can be.
--
-- word_in words: the first word, and the words behind it.
-- read_number word: the number below 2^64 whose decimal text the word is.
-- number_in most words: the first word as a number that is at most so much, and the words behind it.
-- cost_in, count_in, side_in, pins_in, path_in, split_in: the parts of a line behind its first word.
-- term_in bounds words: the number of a term and how often it is taken, within the bounds. after bounds term: the bounds of the next.
-- terms_in number letter bounds words: all terms of this letter, with numbers of this type, the weight with them, and the words
--   behind them.
-- leaf_in paths most words: a leaf that names paths below `paths` and has a scale of at most `most`.
-- is_name text: some bytes, which all print. name_in words: the first word as a name. pad_in number words: a line of a plan with this number.
use Rattle.std.specs.Prelude.{ℕ, ◌+◌, Bool, not, ◌&&◌, List, [], ◌∷◌, length, Option, None, Some, option_and_then, nat_lt, nat_le, codes, decimal, if◌then◌else◌}
use Rattle.std.specs.List.{list_all}
use Rattle.std.specs.Str.{bytes_eq}
use Rattle.std.specs.Str.Parse.{digits_value}
use Rattle.hold_base.specs.NameBytes.{is_printed}
use Rattle.hold_base.specs.declared.number.PathNo.{PathNo}
use Rattle.hold_base.specs.declared.number.PinNo.{PinNo}
use Rattle.hold_base.specs.declared.number.SiteNo.{SiteNo}
use Rattle.hold_base.specs.declared.number.VarNo.{VarNo}
use Rattle.hold_base.specs.declared.plan.PlanLine.{PlanLine}
use Rattle.hold_base.specs.declared.time.Side.{Side}
use Rattle.hold_base.specs.declared.time.Side.TheVariants.{Early, Late}
use Rattle.hold_graph.specs.declared.problem.Listed.{Listed}
use Rattle.hold_proof.specs.Closing.{weight_limit}
use Rattle.hold_proof.specs.declared.node.Leaf.{Leaf}
use Rattle.hold_proof.specs.declared.node.Node.{Node}
use Rattle.hold_proof.specs.declared.node.Node.TheVariants.{Split as SplitNode}
use Rattle.hold_certtext.specs.declared.terms.Bounds.{Bounds}
use Rattle.hold_certtext.specs.inner.Words.{is_nil}

infixl 10 ◌>>=◌
abbrev pub ◌>>=◌ : {A B : Type 0} → Option A → (A → Option B) → Option B
found >>= next = option_and_then next found

abbrev pub guard : {X : Type 0} → Bool → X → Option X
guard b x = if b then Some x else None

unfoldable pub read_number : List ℕ → Option ℕ
read_number word =
    guard (bytes_eq (decimal (digits_value 10 word)) word && nat_lt (digits_value 10 word) 18446744073709551616) (digits_value 10 word)

abbrev pub word_in : List (List ℕ) → Option (List ℕ × List (List ℕ))
word_in [] = None
word_in (word ∷ words) = Some (word, words)

abbrev pub number_in : ℕ → List (List ℕ) → Option (ℕ × List (List ℕ))
number_in most [] = None
number_in most (word ∷ words) = do
  n ← read_number word
  guard (nat_le n most) (n, words)

abbrev pub cost_in : List (List ℕ) → Option ℕ
cost_in words = do
  cost ← number_in 18446744073709551615 words
  guard (is_nil cost.1) cost.0

abbrev pub count_in : List (List ℕ) → Option (VarNo × ℕ)
count_in words = do
  var ← number_in 4294967295 words
  count ← number_in 255 var.1
  guard (nat_lt 0 count.0 && is_nil count.1) (record { 0 = var.0 }, count.0)

abbrev pub side_in : List (List ℕ) → Option (Side × List (List ℕ))
side_in [] = None
side_in (word ∷ words) =
    if bytes_eq word (codes "early") then Some (Early, words) else guard (bytes_eq word (codes "late")) (Late, words)

abbrev pub pins_in : List (List ℕ) → Option (List PinNo)
pins_in [] = Some []
pins_in (word ∷ words) = do
  pin ← number_in 4294967295 (word ∷ words)
  pins ← pins_in words
  Some (record { 0 = pin.0 } ∷ pins)

abbrev pub path_in : List (List ℕ) → Option Listed
path_in words = do
  side ← side_in words
  corner ← number_in 255 side.1
  pins ← pins_in corner.1
  guard (nat_le 2 (length pins)) (record { side = side.0; corner = record { 0 = corner.0 }; pins = pins })

abbrev pub split_in : List (List ℕ) → Option Node
split_in words = do
  var ← number_in 4294967295 words
  at ← number_in 254 var.1
  guard (is_nil at.1) (SplitNode (record { 0 = var.0 }) at.0)

abbrev pub is_within : Bounds → ℕ → ℕ → Bool
is_within bounds number times =
    nat_le bounds.least number && nat_lt number bounds.limit && nat_le 1 times && nat_le (bounds.weight + times) weight_limit

abbrev pub term_in : Bounds → List (List ℕ) → Option ((ℕ × ℕ) × List (List ℕ))
term_in bounds words = do
  number ← number_in 18446744073709551615 words
  times ← number_in 18446744073709551615 number.1
  guard (is_within bounds number.0 times.0) ((number.0, times.0), times.1)

abbrev pub after : Bounds → ℕ × ℕ → Bounds
after bounds term = record { least = term.0 + 1; limit = bounds.limit; weight = bounds.weight + term.1 }

-- the terms, the weight with them, and the words behind them
abbrev pub Terms : Type 0 → Type 0
Terms X = List (X × ℕ) × ℕ × List (List ℕ)

abbrev pub with_term : {X : Type 0} → X × ℕ → Terms X → Terms X
with_term term rest = (term ∷ rest.0, rest.1, rest.2)

abbrev pub no_terms : {X : Type 0} → Bounds → List (List ℕ) → Terms X
no_terms bounds words = ([], bounds.weight, words)

abbrev pub terms_in : {X : Type 0} → (ℕ → X) → List ℕ → Bounds → List (List ℕ) → Option (Terms X)
terms_in number letter bounds [] = Some (no_terms bounds [])
terms_in number letter bounds (first ∷ []) = if bytes_eq first letter then None else Some (no_terms bounds (first ∷ []))
terms_in number letter bounds (first ∷ a ∷ []) = if bytes_eq first letter then None else Some (no_terms bounds (first ∷ a ∷ []))
terms_in number letter bounds (first ∷ a ∷ b ∷ words) =
    if bytes_eq first letter then (do
      term ← term_in bounds (a ∷ b ∷ words)
      rest ← terms_in number letter (after bounds term.0) words
      Some (with_term (number term.0.0, term.0.1) rest))
    else Some (no_terms bounds (first ∷ a ∷ b ∷ words))

abbrev pub path_no : ℕ → PathNo
path_no number = record { 0 = number }

abbrev pub site_no : ℕ → SiteNo
site_no number = record { 0 = number }

abbrev pub leaf_in : ℕ → ℕ → List (List ℕ) → Option Leaf
leaf_in paths most words = do
  scale ← number_in most words
  of_paths ← terms_in path_no (codes "p") (record { least = 0; limit = paths; weight = scale.0 }) scale.1
  of_chains ← terms_in site_no (codes "s") (record { least = 0; limit = 4294967296; weight = of_paths.1 }) of_paths.2
  guard (is_nil of_chains.2) (record { scale = scale.0; paths = of_paths.0; chains = of_chains.0 })

abbrev pub is_name : List ℕ → Bool
is_name text = not (is_nil text) && list_all is_printed text

abbrev pub name_in : List (List ℕ) → Option (List ℕ × List (List ℕ))
name_in [] = None
name_in (word ∷ words) = guard (is_name word) (word, words)

abbrev pub pad_in : ℕ → List (List ℕ) → Option PlanLine
pad_in number words = do
  inst ← name_in words
  pin ← name_in inst.1
  kind ← name_in pin.1
  count ← number_in 255 kind.1
  guard (nat_lt 0 count.0 && is_nil count.1) (record { line = number; inst = inst.0; pin = pin.0; kind = kind.0; count = count.0 })
