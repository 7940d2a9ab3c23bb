-- Mentions that declare nothing again.
--
-- AreCovered known seen: the seen mentions' names are among the known ones.
-- mentioned xs: the names of mentions.
use Rattle.std.proofs.Common.{◌≡◌, ℕ, List, [], ◌∷◌, ◌++◌, map, Bool, true, false, refl, sym, ◌∙◌, subst, bytes_eq, append_assoc}
use Rattle.std.specs.Prelude.{None}
use Rattle.std.specs.List.{AllByRecursion, list_any}
use Rattle.std.proofs.lemmas.Bool.{and_left, and_right, or_from}
use Rattle.std.proofs.lemmas.List.{append-nil}
use Rattle.std.proofs.lemmas.List.Folds.{list_any-append}
use Rattle.hold_base.proofs.Bools.{cond-None, cond-nil}
use Rattle.hold_base.proofs.Bytes.{bytes_eq-self, bytes_eq-swap}
use Rattle.hold_base.proofs.Lists.{AllByRecursion-append, AllByRecursion-weaken}
use Rattle.hold_netlist.specs.Names.{is_among}
use Rattle.hold_netlist.specs.Doubles.{first_repeat}
use Rattle.hold_vsyntax.specs.declared.tree.Ident.{Ident}
use Rattle.hold_vsyntax.specs.declared.tree.Module.{Module}
use Rattle.hold_vparse.specs.Lines.{header_names}
use Rattle.hold_vparse.specs.Nets.{names, declared_names}
use Rattle.hold_vparse.specs.DoubleNames.{Role, ListsPort, DeclaresPort, GivesDirection, DeclaresWire, DeclaresInstance, UsesNet, Mention, mention, clash, declares_again, doubles}
use Rattle.hold_vparse.proofs.ClearMentions.{IsClear}
use Rattle.hold_vparse.proofs.NameLists.{among_apart, is_among_left, is_among_right}

abbrev pub AreCovered : List (List ℕ) → List Mention → Type 0
AreCovered known seen = AllByRecursion (λ (y : Mention). is_among y.name.name known ≡ true) seen

abbrev pub mentioned : List Mention → List (List ℕ)
mentioned xs = map (λ (x : Mention). x.name.name) xs

-- a new name is clear
pub clear_new : (m : Module) (known : List (List ℕ)) (seen : List Mention) (x : Mention) → AreCovered known seen → is_among x.name.name known ≡ false → IsClear m seen x
clear_new m known [] x covered new = refl
clear_new m known (y ∷ ys) x covered new =
    let other = bytes_eq-swap y.name.name x.name.name (among_apart y.name.name x.name.name known covered.0 new) in
    or_from (declares_again m x y) (list_any (declares_again m x) ys) (and_left (bytes_eq x.name.name y.name.name) _ other) (clear_new m known ys x covered.1 new)

clash-use : (listed : Bool) (earlier : Role) → clash listed true earlier UsesNet ≡ false
clash-use listed ListsPort = refl
clash-use listed DeclaresPort = refl
clash-use listed GivesDirection = refl
clash-use listed DeclaresWire = refl
clash-use listed DeclaresInstance = refl
clash-use listed UsesNet = refl

-- a use of a declared net is clear
clear_use : (m : Module) (seen : List Mention) (i : Ident) → is_among i.name (declared_names m) ≡ true → IsClear m seen (mention UsesNet i)
clear_use m [] i declared = refl
clear_use m (y ∷ ys) i declared =
    let listed = is_among i.name (names (header_names m.header)) in
    let fine : clash listed (is_among i.name (declared_names m)) y.role UsesNet ≡ false = rw declared (clash-use listed y.role) in
    or_from (declares_again m (mention UsesNet i) y) (list_any (declares_again m (mention UsesNet i)) ys) (and_right (bytes_eq i.name y.name.name) _ fine) (clear_use m ys i declared)

-- a port's direction beside the list of ports
clear_direction : (m : Module) (listed : List Ident) (i : Ident) → IsClear m (map (mention ListsPort) listed) (mention GivesDirection i)
clear_direction m [] i = refl
clear_direction m (j ∷ js) i = or_from (declares_again m (mention GivesDirection i) (mention ListsPort j)) (list_any (declares_again m (mention GivesDirection i)) (map (mention ListsPort) js)) (and_right (bytes_eq i.name j.name) _ refl) (clear_direction m js i)

covered_more : (known : List (List ℕ)) (seen : List Mention) (x : Mention) → AreCovered known seen → AreCovered (known ++ x.name.name ∷ []) (seen ++ x ∷ [])
covered_more known seen x h =
    AllByRecursion-append (λ (y : Mention). is_among y.name.name (known ++ x.name.name ∷ []) ≡ true) seen (x ∷ [])
    (AllByRecursion-weaken (λ (y : Mention). is_among y.name.name known ≡ true) (λ (y : Mention). is_among y.name.name (known ++ x.name.name ∷ []) ≡ true) (λ y among. is_among_left y.name.name known (x.name.name ∷ []) among) seen h)
    (is_among_right x.name.name known (x.name.name ∷ []) (rw (bytes_eq-self x.name.name) refl), tt)

-- of two lists of mentions, one after the other
pub doubles-append : (m : Module) (seen xs ys : List Mention) → doubles m seen xs ≡ [] → doubles m (seen ++ xs) ys ≡ [] → doubles m seen (xs ++ ys) ≡ []
doubles-append m seen [] ys h more = rw append-nil at more
doubles-append m seen (x ∷ xs) ys h more =
    let parts = cond-nil (list_any (declares_again m x) seen) x.name (doubles m (seen ++ x ∷ []) xs) h in
    let clear = parts.0 in
    let same : (seen ++ x ∷ []) ++ xs ≡ seen ++ (x ∷ xs) = append_assoc seen (x ∷ []) xs in
    rw clear (doubles-append m (seen ++ x ∷ []) xs ys parts.1 (subst (λ before. doubles m before ys ≡ []) (sym same) more))

-- mentions of new names
pub all_new : (m : Module) (known : List (List ℕ)) (seen xs : List Mention) → AreCovered known seen → first_repeat known (mentioned xs) ≡ None → doubles m seen xs ≡ []
all_new m known seen [] covered once = refl
all_new m known seen (x ∷ xs) covered once =
    let new = cond-None (is_among x.name.name known) x.name.name (first_repeat (known ++ x.name.name ∷ []) (mentioned xs)) once in
    let clear = clear_new m known seen x covered new.0 in
    rw clear (all_new m (known ++ x.name.name ∷ []) (seen ++ x ∷ []) xs (covered_more known seen x covered) new.1)

-- uses of declared nets
pub all_uses : (m : Module) (seen : List Mention) (is : List Ident) → AllByRecursion (λ (i : Ident). is_among i.name (declared_names m) ≡ true) is → doubles m seen (map (mention UsesNet) is) ≡ []
all_uses m seen [] h = refl
all_uses m seen (i ∷ is) h = let clear = clear_use m seen i h.0 in rw clear (all_uses m (seen ++ mention UsesNet i ∷ []) is h.1)

-- directions of different ports, behind the list of ports
pub all_directions : (m : Module) (listed : List Ident) (known : List (List ℕ)) (seen : List Mention) (is : List Ident) → AreCovered known seen → first_repeat known (names is) ≡ None
    → doubles m (map (mention ListsPort) listed ++ seen) (map (mention GivesDirection) is) ≡ []
all_directions m listed known seen [] covered once = refl
all_directions m listed known seen (i ∷ is) covered once =
    let x = mention GivesDirection i in
    let new = cond-None (is_among i.name known) i.name (first_repeat (known ++ i.name ∷ []) (names is)) once in
    let clear : IsClear m (map (mention ListsPort) listed ++ seen) x =
    list_any-append (declares_again m x) (map (mention ListsPort) listed) seen
    ∙ or_from (list_any (declares_again m x) (map (mention ListsPort) listed)) (list_any (declares_again m x) seen) (clear_direction m listed i) (clear_new m known seen x covered new.0) in
    let same : (map (mention ListsPort) listed ++ seen) ++ x ∷ [] ≡ map (mention ListsPort) listed ++ (seen ++ x ∷ []) = append_assoc (map (mention ListsPort) listed) seen (x ∷ []) in
    rw clear (subst (λ before. doubles m before (map (mention GivesDirection) is) ≡ []) (sym same)
    (all_directions m listed (known ++ i.name ∷ []) (seen ++ x ∷ []) is (covered_more known seen x covered) new.1))
