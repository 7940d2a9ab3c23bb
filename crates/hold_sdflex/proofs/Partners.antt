-- Each opening parenthesis and the closing one that its group ends with.
use Rattle.std.proofs.Common.{◌≡◌, ℕ, zero, suc, ◌+◌, ◌<◌, List, [], ◌∷◌, take, drop, refl, ap, ◌∙◌, arith}
use Rattle.std.specs.Prelude.{Option, None, Some, option_map, option_and_then, slice_get}
use Rattle.std.specs.Option.{option_map_or}
use Rattle.hold_sdflex.specs.declared.piece.Form.{Form}
use Rattle.hold_sdflex.specs.declared.piece.Form.TheVariants.{Open, Close, Colon, Text, Atom}
use Rattle.hold_sdflex.specs.declared.piece.Piece.{Piece}
use Rattle.hold_sdflex.specs.Front.{Mark, opens, closes, colon, string, atom}
use Rattle.hold_sdflex.specs.Pieces.{Marked}
use Rattle.hold_sdflex.specs.Nesting.{depth_after, inside, form_of, marks, paired, mark_in, depth_over}
use Rattle.hold_sdflex.specs.Groups.{form_at}
use Rattle.hold_sdflex.specs.inner.Waiting.{shown}
use Rattle.hold_base.proofs.Options.{option_map-Some}

-- a number above 0 comes from a depth that isn't none
depth_some : (f : ℕ → Option ℕ) (o : Option ℕ) (m : ℕ) → option_map_or (λ d. option_map suc (f d)) o (Some 0) ≡ Some (suc m) → (d : ℕ) × (o ≡ Some d) × (f d ≡ Some m)
depth_some f None m is = cc
depth_some f (Some d) m is = let found = option_map-Some suc (f d) (suc m) is in (d, refl, found.1 ∙ ap Some (suc_injective found.0 m found.2))
  where
    suc_injective : (a b : ℕ) → suc a ≡ suc b → a ≡ b
    suc_injective a b e = omega arith

-- 0 comes from a depth that is none
depth_none : (f : ℕ → Option ℕ) (o : Option ℕ) → option_map_or (λ d. option_map suc (f d)) o (Some 0) ≡ Some 0 → o ≡ None
depth_none f None is = refl
depth_none f (Some d) is = let found = option_map-Some suc (f d) 0 is in absurd (omega (arith, found.2))

-- what is inside, with the depth after the first piece worked out
abbrev inside_at : List Mark → Option ℕ → Option ℕ
inside_at ps depth = option_map_or (λ d. option_map suc (inside ps d)) depth (Some 0)

-- only a closing parenthesis at depth 0 has no depth after it
no_depth : (mark : Mark) (depth : ℕ) → depth_after mark depth ≡ None → (mark ≡ closes) × (depth ≡ 0)
no_depth opens depth is = cc
no_depth closes zero is = (refl, refl)
no_depth closes (suc depth) is = cc
no_depth colon depth is = cc
no_depth string depth is = cc
no_depth atom depth is = cc

-- a group that has more open groups in it ends later
deeper_plain : (ps : List Mark) (a b n k : ℕ) → ((n k : ℕ) → inside ps a ≡ Some n → inside ps b ≡ Some k → n < k) → option_map suc (inside ps a) ≡ Some n → option_map suc (inside ps b) ≡ Some k → n < k
deeper_plain ps a b n k rest first second =
    let one = option_map-Some suc (inside ps a) n first in
    let two = option_map-Some suc (inside ps b) k second in
    let less = rest one.0 two.0 one.1 two.1 in
    omega (arith, one.2, two.2, less)

deeper_mark : (mark : Mark) (ps : List Mark) (a b n k : ℕ) → a < b → ((a b n k : ℕ) → a < b → inside ps a ≡ Some n → inside ps b ≡ Some k → n < k) → inside_at ps (depth_after mark a) ≡ Some n → inside_at ps (depth_after mark b) ≡ Some k → n < k
deeper_mark closes ps a zero n k deeper rest first second = absurd (omega arith)
deeper_mark closes ps zero (suc b) n k deeper rest first second =
    let two = option_map-Some suc (inside ps b) k second in
    let is : 0 ≡ n = cc in
    omega (arith, two.2, is)
deeper_mark closes ps (suc a) (suc b) n k deeper rest first second = deeper_plain ps a b n k (λ n k. rest a b n k (omega arith)) first second
deeper_mark opens ps a b n k deeper rest first second = deeper_plain ps (suc a) (suc b) n k (λ n k. rest (suc a) (suc b) n k (omega arith)) first second
deeper_mark colon ps a b n k deeper rest first second = deeper_plain ps a b n k (λ n k. rest a b n k deeper) first second
deeper_mark string ps a b n k deeper rest first second = deeper_plain ps a b n k (λ n k. rest a b n k deeper) first second
deeper_mark atom ps a b n k deeper rest first second = deeper_plain ps a b n k (λ n k. rest a b n k deeper) first second

inside-deeper : (ps : List Mark) (a b n k : ℕ) → a < b → inside ps a ≡ Some n → inside ps b ≡ Some k → n < k
inside-deeper [] a b n k deeper first second = cc
inside-deeper (m ∷ ps) a b n k deeper first second = deeper_mark m ps a b n k deeper (inside-deeper ps) first second

-- a group that begins inside another ends inside it
pub inside-nested : (ms : List Mark) (depth m j n : ℕ) → inside ms depth ≡ Some m → j < m → slice_get ms j ≡ Some opens → inside (drop (suc j) ms) 0 ≡ Some n → suc j + n < m
inside-nested [] depth m j n outer earlier begins inner = cc
inside-nested (mark ∷ ms) depth zero j n outer earlier begins inner = absurd (omega arith)
inside-nested (mark ∷ ms) depth (suc m) zero n outer earlier begins inner =
    let is : mark ≡ opens = cc in
    let deeper : option_map suc (inside ms (suc depth)) ≡ Some (suc m) = rw is at outer in
    let found = option_map-Some suc (inside ms (suc depth)) (suc m) deeper in
    let less = inside-deeper ms 0 (suc depth) n found.0 (omega arith) inner found.1 in
    omega (arith, less, found.2)
inside-nested (mark ∷ ms) depth (suc m) (suc j) n outer earlier begins inner =
    let found = depth_some (inside ms) (depth_after mark depth) m outer in
    let rest = inside-nested ms found.0 m j n found.2 (omega arith) begins inner in
    omega (arith, rest)

-- what is inside leads back to where the closing parenthesis stands
pub inside-balanced : (ms : List Mark) (depth m : ℕ) → inside ms depth ≡ Some m → (depth_over (take m ms) depth ≡ Some 0) × (slice_get ms m ≡ Some closes)
inside-balanced [] depth m is = cc
inside-balanced (mark ∷ ms) depth zero is =
    let none = no_depth mark depth (depth_none (inside ms) (depth_after mark depth) is) in
    (ap Some none.1, ap Some none.0)
inside-balanced (mark ∷ ms) depth (suc m) is =
    let found = depth_some (inside ms) (depth_after mark depth) m is in
    let rest = inside-balanced ms found.0 m found.2 in
    (rw found.1 rest.0, rest.1)

-- the form of an opening parenthesis
open_formed : (place : ℕ) (o : Option ℕ) (form : Form) → option_map (λ n. Open (place + 1 + n)) o ≡ Some form → (n : ℕ) × (o ≡ Some n) × (form ≡ Open (place + 1 + n))
open_formed place None form is = cc
open_formed place (Some n) form is = (n, refl, cc)

-- a form keeps its mark
mark_kept : (mark : Mark) (form : Form) (place : ℕ) (after : List Mark) → form_of mark place after ≡ Some form → mark_in form ≡ mark
mark_kept opens form place after is = let found = open_formed place (inside after 0) form is in rw found.2 refl
mark_kept closes form place after is = let e : Close ≡ form = cc in rw (← e) refl
mark_kept colon form place after is = let e : Colon ≡ form = cc in rw (← e) refl
mark_kept string form place after is = let e : Text ≡ form = cc in rw (← e) refl
mark_kept atom form place after is = let e : Atom ≡ form = cc in rw (← e) refl

-- the parts of paired pieces
record ArePaired (p : Marked) (ps : List Marked) (qs : List Piece) (place : ℕ) (form : Form) (rest : List Piece) : Type 0 where
  pub first : form_of p.mark place (marks ps) ≡ Some form
  pub others : paired ps (place + 1) ≡ Some rest
  pub whole : record { form = form; from = p.from; to = p.to } ∷ rest ≡ qs

parts_of : (p : Marked) (ps : List Marked) (qs : List Piece) (place : ℕ) (f : Option Form) (o : Option (List Piece)) → form_of p.mark place (marks ps) ≡ f → paired ps (place + 1) ≡ o → option_and_then (λ form. option_map (λ rest. record { form = form; from = p.from; to = p.to } ∷ rest) o) f ≡ Some qs → (form : Form) × (rest : List Piece) × ArePaired p ps qs place form rest
parts_of p ps qs place None o first others is = cc
parts_of p ps qs place (Some form) None first others is = cc
parts_of p ps qs place (Some form) (Some rest) first others is = (form, rest, record { first = first; others = others; whole = cc })

paired_parts : (p : Marked) (ps : List Marked) (qs : List Piece) (place : ℕ) → paired (p ∷ ps) place ≡ Some qs → (form : Form) × (rest : List Piece) × ArePaired p ps qs place form rest
paired_parts p ps qs place is = parts_of p ps qs place (form_of p.mark place (marks ps)) (paired ps (place + 1)) refl refl is

-- paired pieces have the marks and the bytes that they had
pub paired_shown : (ps : List Marked) (qs : List Piece) (place : ℕ) → paired ps place ≡ Some qs → shown qs ≡ ps
paired_shown [] qs place is = let e : [] ≡ qs = cc in rw (← e) refl
paired_shown (p ∷ ps) qs place is =
    let parts = paired_parts p ps qs place is in
    let rest = paired_shown ps parts.1 (place + 1) parts.2.others in
    rw (← parts.2.whole, mark_kept p.mark parts.0 place (marks ps) parts.2.first, rest) refl

-- where the closing parenthesis of a group stands
opens_at : (mark : Mark) (place c : ℕ) (after : List Mark) → form_of mark place after ≡ Some (Open c) → (n : ℕ) × (inside after 0 ≡ Some n) × (c ≡ place + 1 + n)
opens_at opens place c after is =
    let found = open_formed place (inside after 0) (Open c) is in
    (found.0, found.1, place_of found.2)
  where
    place_of : {a b : ℕ} → Open a ≡ Open b → a ≡ b
    place_of e = cc
opens_at closes place c after is = cc
opens_at colon place c after is = cc
opens_at string place c after is = cc
opens_at atom place c after is = cc

pub closing_of : (ps : List Marked) (qs : List Piece) (place i c : ℕ) → paired ps place ≡ Some qs → form_at qs i ≡ Some (Open c) → (n : ℕ) × (inside (drop (suc i) (marks ps)) 0 ≡ Some n) × (c ≡ place + i + 1 + n)
closing_of [] qs place i c is begins = let e : [] ≡ qs = cc in cc (rw (← e) at begins)
closing_of (p ∷ ps) qs place zero c is begins =
    let parts = paired_parts p ps qs place is in
    let form : Some parts.0 ≡ Some (Open c) = rw (← parts.2.whole) at begins in
    let found = opens_at p.mark place c (marks ps) (parts.2.first ∙ form) in
    (found.0, found.1, omega (arith, found.2))
closing_of (p ∷ ps) qs place (suc i) c is begins =
    let parts = paired_parts p ps qs place is in
    let found = closing_of ps parts.1 (place + 1) i c parts.2.others (rw (← parts.2.whole) at begins) in
    (found.0, found.1, omega (arith, found.2))
