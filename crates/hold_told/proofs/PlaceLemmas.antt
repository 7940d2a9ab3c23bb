-- The first place of a name among connections, one after another; what is read of a list and of a table of first numbers.
use Rattle.std.proofs.Common.{◌≡◌, ℕ, ◌+◌, ◌<◌, ◌≤◌, List, ◌∷◌, length, drop, get_or, arith, true, false, cond, ap, sym, ◌∙◌, bytes_eq}
use Rattle.std.specs.Prelude.{Some, slice_get, sum_by}
use Rattle.std.proofs.lemmas.List.{get_or_default}
use Rattle.std.proofs.lemmas.Option.{slice_get-get_or}
use Rattle.hold_netlist.specs.declared.inst.Pin.{Pin}
use Rattle.hold_netlist.specs.Names.{pin_names}
use Rattle.hold_netlist.specs.Numbering.{first_of}
use Rattle.hold_netlist.specs.inner.Numbering.{firsts_from}
use Rattle.hold_netlist.proofs.NumberingLemmas.{first_of-length, length-table, table-at}
use Rattle.hold_roles.specs.inner.NamePlaces.{first_at}

module _ (pins : List Pin) (place : ℕ) (name : List ℕ) (pin : Pin) (here : drop place pins ≡ pin ∷ drop (place + 1) pins) where
  split : first_at place name (pin_names (drop place pins)) ≡ cond (bytes_eq name pin.name) (Some place) (first_at (place + 1) name (pin_names (drop (place + 1) pins)))
  split = ap (λ (l : List Pin). first_at place name (pin_names l)) here

  pub place-here : bytes_eq name pin.name ≡ true → first_at place name (pin_names (drop place pins)) ≡ Some place
  place-here same = split ∙ ap (λ b. cond b (Some place) (first_at (place + 1) name (pin_names (drop (place + 1) pins)))) same

  pub place-next : bytes_eq name pin.name ≡ false → first_at place name (pin_names (drop place pins)) ≡ first_at (place + 1) name (pin_names (drop (place + 1) pins))
  place-next apart = split ∙ ap (λ b. cond b (Some place) (first_at (place + 1) name (pin_names (drop (place + 1) pins)))) apart

-- an item that is read stands there
pub item-read : {X : Type 0} (read all : List X) (k : ℕ) (x : X) → read ≡ all → k < length read → slice_get all k ≡ Some (get_or read k x)
item-read read all k x same lt = ap (λ (l : List _). slice_get l k) (sym same) ∙ slice_get-get_or read k x lt

pub item-is : {X : Type 0} (read all : List X) (k : ℕ) (x : X) → read ≡ all → k < length read → x ≡ get_or read k x → slice_get all k ≡ Some x
item-is {X = X} read all k x same lt is = item-read read all k x same lt ∙ ap (λ (y : X). Some y) (sym is)

-- a place within a list is one within what was read of it
pub read-within : {X : Type 0} (read all : List X) (k : ℕ) → read ≡ all → k < length all → k < length read
read-within {X = X} read all k same lt = omega (arith, lt, ap (λ (l : List X). length l) same)

-- the first number of a thing
pub first-read : {X : Type 0} (width : X → ℕ) (xs : List X) (firsts : List ℕ) (k first : ℕ) → firsts ≡ firsts_from 0 width xs → k ≤ length xs → first ≡ get_or firsts k first → first ≡ first_of width xs k
first-read width xs firsts k first table inside read =
    let long = length-table width xs firsts table in
    read ∙ get_or_default firsts k first 0 (omega arith) ∙ table-at width xs firsts table k inside

-- the number behind the last thing is how many numbers there are
pub last-read : {X : Type 0} (width : X → ℕ) (xs read : List X) (firsts : List ℕ) (last : ℕ) → firsts ≡ firsts_from 0 width xs → read ≡ xs → last ≡ get_or firsts (length read) last → last ≡ sum_by width xs
last-read {X = X} width xs read firsts last table same is =
    let long : length read ≡ length xs = ap (λ (l : List X). length l) same in
    first-read width xs firsts (length read) last table (omega (arith, long)) is ∙ ap (first_of width xs) long ∙ first_of-length width xs
