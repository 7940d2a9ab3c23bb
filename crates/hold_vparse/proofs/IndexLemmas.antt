-- Tables of first places: how they grow, and what they tell of a list.
use Rattle.std.proofs.Common.{◌≡◌, ℕ, suc, ◌+◌, List, [], ◌∷◌, ◌++◌, Bool, true, false, cond, refl, sym, ap, ◌∙◌, bytes_eq, is_some, is_none, length, take, get_or, ◌<◌, subst, arith}
use Rattle.std.specs.Prelude.{Option, None, Some, ◌||◌}
use Rattle.std.specs.Option.{option_map, option_or}
use Rattle.hold_netlist.specs.Names.{is_among}
use Rattle.hold_netlist.specs.NameTable.{number_of}
use Rattle.std.proofs.lemmas.Bool.{cases_Bool}
use Rattle.std.proofs.lemmas.List.{take_more, map-append, length-map, length-take-le}
use Rattle.hold_base.proofs.Bytes.{bytes_eq-same}
use Rattle.hold_base.proofs.Options.{option_or-some_left, option_or-none_right}
use Rattle.std.specs.Borrow.{Bor}
use Rattle.std.proofs.Common.{inl, inr}
use Rattle.hold_vsyntax.specs.declared.tree.Ident.{Ident}
use Rattle.hold_vparse.specs.inner.Flat.{targets}
use Rattle.hold_vparse.specs.Nets.{names}
use Rattle.hold_vparse.specs.inner.Index.{place_of, IsIndex}

map_or : (a b : Option ℕ) → option_map suc (option_or a b) ≡ option_or (option_map suc a) (option_map suc b)
map_or None b = refl
map_or (Some n) b = refl

map_cond : (b : Bool) (n : ℕ) → option_map suc (cond b (Some n) None) ≡ cond b (Some (suc n)) None
map_cond true n = refl
map_cond false n = refl

place_of-last : (name x : List ℕ) (xs : List (List ℕ)) → place_of name (xs ++ x ∷ []) ≡ option_or (place_of name xs) (cond (bytes_eq name x) (Some (length xs)) None)
place_of-last name x [] = refl
place_of-last name x (y ∷ ys) = by (bytes_eq name y) (place_of-last name x ys)
  where
    by : (b : Bool) → place_of name (ys ++ x ∷ []) ≡ option_or (place_of name ys) (cond (bytes_eq name x) (Some (length ys)) None)
        → cond b (Some 0) (option_map suc (place_of name (ys ++ x ∷ [])))
        ≡ option_or (cond b (Some 0) (option_map suc (place_of name ys))) (cond (bytes_eq name x) (Some (suc (length ys))) None)
    by true h = refl
    by false h = ap (option_map suc) h ∙ map_or (place_of name ys) (cond (bytes_eq name x) (Some (length ys)) None) ∙ ap (option_or (option_map suc (place_of name ys))) (map_cond (bytes_eq name x) (length ys))

number_of-last : (name x : List ℕ) (n : ℕ) (ps : List (List ℕ × ℕ)) → number_of name (ps ++ (x, n) ∷ []) ≡ option_or (number_of name ps) (cond (bytes_eq name x) (Some n) None)
number_of-last name x n [] = refl
number_of-last name x n (p ∷ ps) = by (bytes_eq name p.0) (number_of-last name x n ps)
  where
    by : (b : Bool) → number_of name (ps ++ (x, n) ∷ []) ≡ option_or (number_of name ps) (cond (bytes_eq name x) (Some n) None)
        → cond b (Some p.1) (number_of name (ps ++ (x, n) ∷ [])) ≡ option_or (cond b (Some p.1) (number_of name ps)) (cond (bytes_eq name x) (Some n) None)
    by true h = refl
    by false h = h

-- a name has a first place where it is among the names
pub is_some-place_of : (name : List ℕ) (listed : List (List ℕ)) → is_some (place_of name listed) ≡ is_among name listed
is_some-place_of name [] = refl
is_some-place_of name (x ∷ xs) = by (bytes_eq name x) (is_some-place_of name xs)
  where
    mapped : (o : Option ℕ) → is_some (option_map suc o) ≡ is_some o
    mapped None = refl
    mapped (Some n) = refl

    by : (b : Bool) → is_some (place_of name xs) ≡ is_among name xs → is_some (cond b (Some 0) (option_map suc (place_of name xs))) ≡ (b || is_among name xs)
    by true h = refl
    by false h = mapped (place_of name xs) ∙ h

-- a name that the table has already changes nothing
known : (pairs : List (List ℕ × ℕ)) (name x : List ℕ) (n : ℕ) → false ≡ is_none (number_of x pairs)
    → number_of name pairs ≡ option_or (number_of name pairs) (cond (bytes_eq name x) (Some n) None)
known pairs name x n h =
    elim (cases_Bool (bytes_eq name x)) [
      | inl same ↦ sym (option_or-some_left (number_of name pairs) _ (ap (λ (y : List ℕ). is_none (number_of y pairs)) (bytes_eq-same name x same) ∙ sym h))
      | inr other ↦ subst (λ (b : Bool). number_of name pairs ≡ option_or (number_of name pairs) (cond b (Some n) None)) (sym other) (sym (option_or-none_right (number_of name pairs)))
    ]

-- the table after one name more
pub index_more : (pairs more : List (List ℕ × ℕ)) (listed : List (List ℕ)) (x : List ℕ) (new : Bool) → IsIndex pairs listed → new ≡ is_none (number_of x pairs)
    → more ≡ cond new (pairs ++ (x, length listed) ∷ []) pairs → IsIndex more (listed ++ x ∷ [])
index_more pairs more listed x true h told put =
    record {
      places = λ name. ap (number_of name) put ∙ number_of-last name x (length listed) pairs
          ∙ ap (λ (o : Option ℕ). option_or o (cond (bytes_eq name x) (Some (length listed)) None)) (h.places name) ∙ sym (place_of-last name x listed);
    }
index_more pairs more listed x false h told put =
    record {
      places = λ name. ap (number_of name) put ∙ known pairs name x (length listed) told
          ∙ ap (λ (o : Option ℕ). option_or o (cond (bytes_eq name x) (Some (length listed)) None)) (h.places name) ∙ sym (place_of-last name x listed);
    }

names_more : (idents : List (Bor Ident)) (i : ℕ) (x : Bor Ident) → i < length idents → x ≡ get_or idents i x
    → names (targets (take (i + 1) idents)) ≡ names (targets (take i idents)) ++ x.now.name ∷ []
names_more idents i x within is =
    ap (λ (l : List (Bor Ident)). names (targets l)) (take_more idents i x within ∙ ap (λ (y : Bor Ident). take i idents ++ y ∷ []) (sym is))
    ∙ ap names (map-append (λ (r : Bor Ident). r.now) (take i idents) (x ∷ [])) ∙ map-append (λ (j : Ident). j.name) (targets (take i idents)) (x.now ∷ [])

length-names : (idents : List (Bor Ident)) (i : ℕ) → i < length idents → length (names (targets (take i idents))) ≡ i
length-names idents i h = length-map (targets (take i idents)) (λ (j : Ident). j.name) ∙ length-map (take i idents) (λ (r : Bor Ident). r.now) ∙ length-take-le i idents (omega arith)

-- the same in a pass over identifiers
pub index_step : (idents : List (Bor Ident)) (i n : ℕ) (x : Bor Ident) (name : List ℕ) (pairs more : List (List ℕ × ℕ)) (new : Bool)
    → i < length idents → x ≡ get_or idents i x → n ≡ i → name ≡ x.now.name → IsIndex pairs (names (targets (take i idents)))
    → new ≡ is_none (number_of name pairs) → more ≡ cond new (pairs ++ (name, n) ∷ []) pairs
    → IsIndex more (names (targets (take (i + 1) idents)))
index_step idents i n x name pairs more new within is at called h told put =
    let count : n ≡ length (names (targets (take i idents))) = at ∙ sym (length-names idents i within) in
    let whole : IsIndex more (names (targets (take i idents)) ++ name ∷ []) =
    index_more pairs more (names (targets (take i idents))) name new h told (put ∙ ap (λ (k : ℕ). cond new (pairs ++ (name, k) ∷ []) pairs) count) in
    subst (λ (l : List (List ℕ)). IsIndex more l) (ap (λ (y : List ℕ). names (targets (take i idents)) ++ y ∷ []) called ∙ sym (names_more idents i x within is)) whole
