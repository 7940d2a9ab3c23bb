-- Tools to take apart what was read, and the laws of reading items that are separated by commas.
use Rattle.std.proofs.Common.{◌≡◌, ℕ, zero, suc, ◌<◌, ◌≤◌, List, [], ◌∷◌, ◌++◌, length, drop, refl, sym, ap, cond, Bool, true, false, ◌∙◌, arith, append_assoc, length-append, ◌⊎◌, inl, inr}
use Rattle.std.specs.Prelude.{Option, Some, None, ◌==◌, if◌then◌else◌}
use Rattle.std.proofs.lemmas.Bool.Decides.{nat_tests}
use Rattle.std.proofs.lemmas.List.{append-nil}
use Rattle.std.proofs.lemmas.Option.{some_pair_parts}
use Rattle.std.specs.Option.{option_and_then}
use Rattle.hold_base.proofs.Bools.{cond-cases, cond-same_first}
use Rattle.hold_base.proofs.Options.{option_and_then-Some, option_and_then-same}
use Rattle.hold_vsyntax.specs.declared.mark.Mark.{Mark}
use Rattle.hold_vsyntax.specs.declared.mark.Mark.TheVariants.{Module, EndModule, Input, Output, Wire, Assign, Comma, Semicolon, Colon, Dot, Equals, LeftParenthesis, RightParenthesis, LeftBracket, RightBracket}
use Rattle.hold_vsyntax.specs.Symbols.{Symbol, Marked, Named, Counted, Tied, Strange}
use Rattle.hold_vsyntax.specs.inner.Symbols.{mark_number}
use Rattle.hold_netlist.specs.declared.wire.Direction.{Direction}
use Rattle.hold_netlist.specs.declared.wire.Direction.TheVariants.{Input as InputPort, Output as OutputPort}
use Rattle.hold_vsyntax.specs.declared.tree.Ident.{Ident}
use Rattle.hold_vsyntax.specs.Grammar.{separated, several, name_symbols, direction_mark, wire_symbols}
use Rattle.hold_vsyntax.specs.declared.tree.Several.{Several}
use Rattle.hold_vsyntax.specs.inner.Reading.{with_front, begins, behind, after, Reads, more_up_to, more_of, several_at, ident_at, number_at, constant_at, direction_at}

-- marks are told apart by their numbers
mark_of : ℕ → Mark
mark_of n =
    if n == 0 then Module else (if n == 1 then EndModule else (if n == 2 then Input else (if n == 3 then Output
    else (if n == 4 then Wire else (if n == 5 then Assign else (if n == 6 then Comma else (if n == 7 then Semicolon
    else (if n == 8 then Colon else (if n == 9 then Dot else (if n == 10 then Equals else (if n == 11 then LeftParenthesis
    else (if n == 12 then RightParenthesis else (if n == 13 then LeftBracket else RightBracket)))))))))))))

mark_of-number : (m : Mark) → mark_of (mark_number m) ≡ m
unfolding mark_of
mark_of-number Module = refl
mark_of-number EndModule = refl
mark_of-number Input = refl
mark_of-number Output = refl
mark_of-number Wire = refl
mark_of-number Assign = refl
mark_of-number Comma = refl
mark_of-number Semicolon = refl
mark_of-number Colon = refl
mark_of-number Dot = refl
mark_of-number Equals = refl
mark_of-number LeftParenthesis = refl
mark_of-number RightParenthesis = refl
mark_of-number LeftBracket = refl
mark_of-number RightBracket = refl

same_mark : (a b : Mark) → (mark_number a == mark_number b) ≡ true → a ≡ b
same_mark a b h = sym (mark_of-number a) ∙ ap mark_of (same (mark_number a) (mark_number b) h) ∙ mark_of-number b
  where
    same : (m n : ℕ) → (m == n) ≡ true → m ≡ n
    same m n h = grind (arith, nat_tests)

-- what begins with a mark has it in front
pub begins_is : (m : Mark) (ss : List Symbol) → begins m ss ≡ true → ss ≡ Marked m ∷ drop 1 ss
begins_is m [] h = cc
begins_is m (Marked n ∷ ss) h = ap (λ k. Marked k ∷ ss) (sym (same_mark m n h))
begins_is m (Named i ∷ ss) h = cc
begins_is m (Counted n ∷ ss) h = cc
begins_is m (Tied b ∷ ss) h = cc
begins_is m (Strange ∷ ss) h = cc

-- what begins with a mark has a symbol
begins_length : (m : Mark) (ss : List Symbol) → begins m ss ≡ true → length ss ≡ suc (length (drop 1 ss))
begins_length m [] h = cc
begins_length m (s ∷ ss) h = refl

-- The parser of a part, and how the part is written, are each other's inverse. A part may be followed by anything
-- but a bracket, which could belong to it.
pub record Spells {X : Type 0} (write : X → List Symbol) (read : Reads X) : Type 0 where
  pub sound : (ss : List Symbol) (x : X) (rest : List Symbol) → read ss ≡ Some (x, rest) → ss ≡ write x ++ rest
  pub complete : (x : X) (rest : List Symbol) → begins LeftBracket rest ≡ false → read (write x ++ rest) ≡ Some (x, rest)

-- what is left is no longer
pub record Shrinks {X : Type 0} (read : Reads X) : Type 0 where
  pub shorter : (ss : List Symbol) (x : X) (rest : List Symbol) → read ss ≡ Some (x, rest) → length rest ≤ length ss

pub shrinks : {X : Type 0} (write : X → List Symbol) (read : Reads X) → Spells write read → Shrinks read
shrinks write read spells = record {
  shorter = λ ss x rest h. omega (arith, ap length (spells.sound ss x rest h), length-append (write x) rest);
}

-- where no comma is left, nothing more is read
pub more_stop : {X : Type 0} (read : Reads X) (ss : List Symbol) → begins Comma ss ≡ false → more_of read ss ≡ Some ([], ss)
unfolding more_of
more_stop read [] h = refl
more_stop read (s ∷ ss) h = rw h refl

-- enough is as good as more
enough : {X : Type 0} (read : Reads X) → Shrinks read → (n m : ℕ) (ss : List Symbol) → length ss ≤ n → length ss ≤ m
    → more_up_to read n ss ≡ more_up_to read m ss
enough read small zero zero ss h k = refl
enough read small zero (suc m) [] h k = refl
enough read small zero (suc m) (s ∷ ss) h k = absurd (omega arith)
enough read small (suc n) zero [] h k = refl
enough read small (suc n) zero (s ∷ ss) h k = absurd (omega arith)
enough read small (suc n) (suc m) ss h k =
    cond-same_first (begins Comma ss) _ _ (Some ([], ss)) (λ is. option_and_then-same _ _ (read (drop 1 ss)) (λ x e.
    ap (λ o. option_and_then (λ xs. Some (x.0 ∷ xs.0, xs.1)) o)
    (enough read small n m x.1
    (omega (arith, begins_length Comma ss is, small.shorter (drop 1 ss) x.0 x.1 e))
    (omega (arith, begins_length Comma ss is, small.shorter (drop 1 ss) x.0 x.1 e)))))

-- one more
pub more_go : {X : Type 0} (read : Reads X) → Shrinks read → (ss : List Symbol) (x : X) (rest : List Symbol)
    → begins Comma ss ≡ true → read (drop 1 ss) ≡ Some (x, rest) → more_of read ss ≡ with_front (x ∷ []) (more_of read rest)
unfolding more_of
more_go {X = X} read small [] x rest is h = cc
more_go {X = X} read small (s ∷ ss) x rest is h = rw (is, h) (rw (enough read small (length ss) (length rest) rest (small.shorter ss x rest h) (omega arith)) (by (more_up_to read (length rest) rest)))
  where
    by : (o : Option (List X × List Symbol)) → option_and_then (λ xs. Some (x ∷ xs.0, xs.1)) o ≡ with_front (x ∷ []) o
    by None = refl
    by (Some r) = refl

-- one that can't be read
pub more_stuck : {X : Type 0} (read : Reads X) (ss : List Symbol) → begins Comma ss ≡ true → read (drop 1 ss) ≡ None → more_of read ss ≡ None
unfolding more_of
more_stuck read [] is h = cc
more_stuck read (s ∷ ss) is h = rw (is, h) refl

-- the items read so far, and what is read on
fronts : {X : Type 0} (xs : List X) (x : X) (o : Option (List X × List Symbol)) → with_front xs (with_front (x ∷ []) o) ≡ with_front (xs ++ x ∷ []) o
fronts xs x None = refl
fronts xs x (Some r) = ap (λ ys. Some (ys, r.1)) (sym (append_assoc xs (x ∷ []) r.0))

-- a loop that reads one more item
pub more_preserved : {X : Type 0} (read : Reads X) → Shrinks read → (xs ys : List X) (x : X) (ss mid rest : List Symbol) (total : Option (List X × List Symbol))
    → with_front xs (more_of read ss) ≡ total → begins Comma ss ≡ true → mid ≡ behind Comma ss → read mid ≡ Some (x, rest) → ys ≡ xs ++ x ∷ []
    → with_front ys (more_of read rest) ≡ total
more_preserved read small xs ys x ss mid rest total so_far is there h pushed =
    let here : mid ≡ drop 1 ss = there ∙ ap (λ b. cond b (drop 1 ss) ss) is in
    let first : read (drop 1 ss) ≡ Some (x, rest) = ap read (sym here) ∙ h in
    ap (λ l. with_front l (more_of read rest)) pushed ∙ sym (fronts xs x (more_of read rest))
    ∙ ap (with_front xs) (sym (more_go read small ss x rest is first)) ∙ so_far

-- that reads no more
pub more_ended : {X : Type 0} (read : Reads X) (xs : List X) (ss rest : List Symbol) (total : Option (List X × List Symbol))
    → with_front xs (more_of read ss) ≡ total → begins Comma ss ≡ false → rest ≡ behind Comma ss → total ≡ Some (xs, rest)
more_ended read xs ss rest total so_far is there =
    let here : rest ≡ ss = there ∙ ap (λ b. cond b (drop 1 ss) ss) is in
    sym so_far ∙ ap (with_front xs) (more_stop read ss is) ∙ ap (λ ys. Some (ys, ss)) (append-nil xs) ∙ ap (λ r. Some (xs, r)) (sym here)

-- that can't read one
pub more_failed : {X : Type 0} (read : Reads X) (xs : List X) (ss mid : List Symbol) (total : Option (List X × List Symbol))
    → with_front xs (more_of read ss) ≡ total → begins Comma ss ≡ true → mid ≡ behind Comma ss → read mid ≡ None → total ≡ None
more_failed read xs ss mid total so_far is there h =
    let here : mid ≡ drop 1 ss = there ∙ ap (λ b. cond b (drop 1 ss) ss) is in
    let first : read (drop 1 ss) ≡ None = ap read (sym here) ∙ h in
    sym so_far ∙ ap (with_front xs) (more_stuck read ss is first)

-- what stands behind one item of a list
no_bracket : {X : Type 0} (write : X → List Symbol) (xs : List X) (rest : List Symbol) → begins LeftBracket rest ≡ false
    → begins LeftBracket (separated write xs ++ rest) ≡ false
no_bracket write [] rest h = h
no_bracket write (x ∷ xs) rest h = refl

-- a list that is written is read
pub more_complete : {X : Type 0} (write : X → List Symbol) (read : Reads X) → Spells write read → (xs : List X) (rest : List Symbol)
    → begins LeftBracket rest ≡ false → begins Comma rest ≡ false → more_of read (separated write xs ++ rest) ≡ Some (xs, rest)
more_complete write read spells [] rest h k = more_stop read rest k
more_complete write read spells (x ∷ xs) rest h k =
    let next : read ((write x ++ separated write xs) ++ rest) ≡ Some (x, separated write xs ++ rest) =
    ap read (append_assoc (write x) (separated write xs) rest) ∙ spells.complete x (separated write xs ++ rest) (no_bracket write xs rest h) in
    more_go read (shrinks write read spells) (separated write (x ∷ xs) ++ rest) x (separated write xs ++ rest) refl next
    ∙ ap (with_front (x ∷ [])) (more_complete write read spells xs rest h k)

-- a list that is read is written so
up_to_sound : {X : Type 0} (write : X → List Symbol) (read : Reads X) → Spells write read → (n : ℕ) (ss : List Symbol) (xs : List X) (rest : List Symbol)
    → more_up_to read n ss ≡ Some (xs, rest) → ss ≡ separated write xs ++ rest
up_to_sound write read spells zero ss xs rest h =
    let p = some_pair_parts [] xs ss rest h in
    p.1 ∙ ap (λ l. separated write l ++ rest) p.0
up_to_sound {X = X} write read spells (suc n) ss xs rest h = by (λ u m v e. up_to_sound write read spells n u m v e) (cond-cases (begins Comma ss) (option_and_then then_more (read (drop 1 ss))) (Some ([], ss)) (Some (xs, rest)) h)
  where
    joined : (x : X) (u : List Symbol) (m : List X) (v : List Symbol) → begins Comma ss ≡ true → drop 1 ss ≡ write x ++ u → u ≡ separated write m ++ v
        → ss ≡ separated write (x ∷ m) ++ v
    joined x u m v is first more =
        begins_is Comma ss is ∙ ap (λ l. Marked Comma ∷ l) (first ∙ ap (λ l. write x ++ l) more ∙ sym (append_assoc (write x) (separated write m) v))

    onto : X × List Symbol → List X × List Symbol → Option (List X × List Symbol)
    onto x m = Some (x.0 ∷ m.0, m.1)

    then_more : X × List Symbol → Option (List X × List Symbol)
    then_more x = option_and_then (onto x) (more_up_to read n x.1)

    by : ((u : List Symbol) (m : List X) (v : List Symbol) → more_up_to read n u ≡ Some (m, v) → u ≡ separated write m ++ v)
        → ((begins Comma ss ≡ true) × (option_and_then then_more (read (drop 1 ss)) ≡ Some (xs, rest)))
        ⊎ ((begins Comma ss ≡ false) × (◌≡◌ {A = Option (List X × List Symbol)} (Some ([], ss)) (Some (xs, rest)))) → ss ≡ separated write xs ++ rest
    by again (inl e) =
        let first = option_and_then-Some then_more (read (drop 1 ss)) (xs, rest) e.1 in
        let more = option_and_then-Some (onto first.0) (more_up_to read n first.0.1) (xs, rest) first.2 in
        let p = some_pair_parts (first.0.0 ∷ more.0.0) xs more.0.1 rest more.2 in
        joined first.0.0 first.0.1 more.0.0 more.0.1 e.0
        (spells.sound (drop 1 ss) first.0.0 first.0.1 first.1)
        (again first.0.1 more.0.0 more.0.1 more.1)
        ∙ ap (λ l. separated write l ++ more.0.1) p.0 ∙ ap (λ l. separated write xs ++ l) p.1
    by again (inr e) =
        let p = some_pair_parts [] xs ss rest e.1 in
        p.1 ∙ ap (λ l. separated write l ++ rest) p.0

pub more_sound : {X : Type 0} (write : X → List Symbol) (read : Reads X) → Spells write read → (ss : List Symbol) (xs : List X) (rest : List Symbol)
    → more_of read ss ≡ Some (xs, rest) → ss ≡ separated write xs ++ rest
unfolding more_of
more_sound write read spells ss xs rest h = up_to_sound write read spells (length ss) ss xs rest h

-- what is read in the end is written with what is left
pub ends : {X : Type 0} (write : X → List Symbol) (x y : X) (u v : List Symbol) → ◌≡◌ {A = Option (X × List Symbol)} (Some (x, u)) (Some (y, v)) → write x ++ u ≡ write y ++ v
ends write x y u v h =
    let p = some_pair_parts x y u v h in
    ap (λ z. write z ++ u) p.0 ∙ ap (λ w. write y ++ w) p.1

pub after_ok : (m : Mark) (ss rest : List Symbol) → after m ss ≡ Some rest → ss ≡ Marked m ∷ rest
after_ok m ss rest h = by (cond-cases (begins m ss) (Some (drop 1 ss)) None (Some rest) h)
  where
    by : ((begins m ss ≡ true) × (Some (drop 1 ss) ≡ Some rest)) ⊎ ((begins m ss ≡ false) × (None ≡ Some rest)) → ss ≡ Marked m ∷ rest
    by (inl e) = let is = begins_is m ss e.0 in let same : drop 1 ss ≡ rest = let some = e.1 in cc in is ∙ ap (λ l. Marked m ∷ l) same
    by (inr e) = let none = e.1 in cc

pub ident_ok : (ss : List Symbol) (i : Ident) (rest : List Symbol) → ident_at ss ≡ Some (i, rest) → ss ≡ Named i ∷ rest
ident_ok [] i rest h = cc
ident_ok (Named j ∷ ss) i rest h = ends (λ x. Named x ∷ []) j i ss rest h
ident_ok (Marked m ∷ ss) i rest h = cc
ident_ok (Counted n ∷ ss) i rest h = cc
ident_ok (Tied b ∷ ss) i rest h = cc
ident_ok (Strange ∷ ss) i rest h = cc

pub number_ok : (ss : List Symbol) (n : ℕ) (rest : List Symbol) → number_at ss ≡ Some (n, rest) → ss ≡ Counted n ∷ rest
number_ok [] n rest h = cc
number_ok (Counted m ∷ ss) n rest h = ends (λ x. Counted x ∷ []) m n ss rest h
number_ok (Named j ∷ ss) n rest h = cc
number_ok (Marked m ∷ ss) n rest h = cc
number_ok (Tied b ∷ ss) n rest h = cc
number_ok (Strange ∷ ss) n rest h = cc

pub constant_ok : (ss : List Symbol) (b : Bool) (rest : List Symbol) → constant_at ss ≡ Some (b, rest) → ss ≡ Tied b ∷ rest
constant_ok [] b rest h = cc
constant_ok (Tied c ∷ ss) b rest h = ends (λ x. Tied x ∷ []) c b ss rest h
constant_ok (Named j ∷ ss) b rest h = cc
constant_ok (Marked m ∷ ss) b rest h = cc
constant_ok (Counted n ∷ ss) b rest h = cc
constant_ok (Strange ∷ ss) b rest h = cc

pub direction_ok : (ss : List Symbol) (d : Direction) (rest : List Symbol) → direction_at ss ≡ Some (d, rest) → ss ≡ Marked (direction_mark d) ∷ rest
direction_ok ss d rest h = by (cond-cases (begins Input ss) (Some (InputPort, drop 1 ss)) (cond (begins Output ss) (Some (OutputPort, drop 1 ss)) None) (Some (d, rest)) h)
  where
    write : Direction → List Symbol
    write e = Marked (direction_mark e) ∷ []

    none : ◌≡◌ {A = Option (Direction × List Symbol)} None (Some (d, rest)) → ss ≡ Marked (direction_mark d) ∷ rest
    none e = cc

    or : ((begins Output ss ≡ true) × (◌≡◌ {A = Option (Direction × List Symbol)} (Some (OutputPort, drop 1 ss)) (Some (d, rest))))
        ⊎ ((begins Output ss ≡ false) × (◌≡◌ {A = Option (Direction × List Symbol)} None (Some (d, rest)))) → ss ≡ Marked (direction_mark d) ∷ rest
    or (inl e) = begins_is Output ss e.0 ∙ ends write OutputPort d (drop 1 ss) rest e.1
    or (inr e) = none e.1

    by : ((begins Input ss ≡ true) × (◌≡◌ {A = Option (Direction × List Symbol)} (Some (InputPort, drop 1 ss)) (Some (d, rest))))
        ⊎ ((begins Input ss ≡ false) × (◌≡◌ {A = Option (Direction × List Symbol)} (cond (begins Output ss) (Some (OutputPort, drop 1 ss)) None) (Some (d, rest)))) → ss ≡ Marked (direction_mark d) ∷ rest
    by (inl e) = begins_is Input ss e.0 ∙ ends write InputPort d (drop 1 ss) rest e.1
    by (inr e) = or (cond-cases (begins Output ss) (Some (OutputPort, drop 1 ss)) None (Some (d, rest)) e.1)

-- the word `wire`, written or not
pub wire_ok : (ss : List Symbol) → ss ≡ wire_symbols (begins Wire ss) ++ behind Wire ss
wire_ok ss = by (begins Wire ss) refl
  where
    by : (b : Bool) → begins Wire ss ≡ b → ss ≡ wire_symbols b ++ cond b (drop 1 ss) ss
    by true is = begins_is Wire ss is
    by false is = refl

pub ident_laws : Spells name_symbols ident_at
ident_laws = record { sound = ident_ok; complete = λ i rest h. refl }

pub several_sound : {X : Type 0} (write : X → List Symbol) (read : Reads X) → Spells write read → (ss : List Symbol) (s : Several X) (rest : List Symbol)
    → several_at read ss ≡ Some (s, rest) → ss ≡ several write s ++ rest
several_sound write read spells ss s rest h =
    let first = option_and_then-Some _ (read ss) (s, rest) h in
    let more = option_and_then-Some _ (more_of read first.0.1) (s, rest) first.2 in
    spells.sound ss first.0.0 first.0.1 first.1
    ∙ ap (λ l. write first.0.0 ++ l) (more_sound write read spells first.0.1 more.0.0 more.0.1 more.1)
    ∙ sym (append_assoc (write first.0.0) (separated write more.0.0) more.0.1)
    ∙ ends (several write) (record { first = first.0.0; rest = more.0.0 }) s more.0.1 rest more.2

pub several_complete : {X : Type 0} (write : X → List Symbol) (read : Reads X) → Spells write read → (s : Several X) (rest : List Symbol)
    → begins LeftBracket rest ≡ false → begins Comma rest ≡ false → several_at read (several write s ++ rest) ≡ Some (s, rest)
several_complete write read spells s rest h k =
    ap (several_at read) (append_assoc (write s.first) (separated write s.rest) rest)
    ∙ rw (spells.complete s.first (separated write s.rest ++ rest) (no_bracket write s.rest rest h), more_complete write read spells s.rest rest h k) refl

-- a loop that reads one more item has less before it
pub more_smaller : {X : Type 0} (read : Reads X) → Shrinks read → (x : X) (ss mid rest : List Symbol)
    → begins Comma ss ≡ true → mid ≡ behind Comma ss → read mid ≡ Some (x, rest) → length rest < length ss
more_smaller read small x ss mid rest is there h =
    let here : mid ≡ drop 1 ss = there ∙ ap (λ b. cond b (drop 1 ss) ss) is in
    omega (arith, begins_length Comma ss is, ap length here, small.shorter mid x rest h)

pub ident_shrinks : Shrinks ident_at
ident_shrinks = shrinks name_symbols ident_at ident_laws

-- nothing in front
pub with_front-nothing : {X : Type 0} (o : Option (List X × List Symbol)) → with_front [] o ≡ o
with_front-nothing None = refl
with_front-nothing (Some r) = refl

pub with_front_nothing : {X : Type 0} (read : Reads X) (ss : List Symbol) → with_front [] (more_of read ss) ≡ more_of read ss
with_front_nothing read ss = with_front-nothing (more_of read ss)

-- what was read behind one in front
pub front_ok : {X : Type 0} (x : X) (o : Option (List X × List Symbol)) (y : List X × List Symbol) → with_front (x ∷ []) o ≡ Some y
    → (m : List X × List Symbol) × (o ≡ Some m) × (◌≡◌ {A = Option (List X × List Symbol)} (Some (x ∷ m.0, m.1)) (Some y))
front_ok x None y h = cc
front_ok x (Some m) y h = (m, refl, h)
