-- The words of a part are read as the part, and what is read as a part is spelled so.
use Rattle.std.proofs.Common.{◌≡◌, ℕ, ◌+◌, ◌<◌, ◌≤◌, List, [], ◌∷◌, ◌++◌, Bool, true, false, cond, map, length, refl, sym, ap, subst, ◌∙◌, arith}
use Rattle.std.specs.Prelude.{◌^◌, ◌&&◌, Option, Some, nat_lt, nat_le, codes, decimal, flat_map}
use Rattle.std.specs.Str.{bytes_eq}
use Rattle.std.specs.List.{AllByRecursion}
use Rattle.std.proofs.lemmas.Bool.{and_parts}
use Rattle.std.proofs.lemmas.Bool.Decides.{nat_tests}
use Rattle.std.proofs.lemmas.Option.{none-some, same_Some}
use Rattle.hold_base.proofs.Bools.{and-true}
use Rattle.hold_base.proofs.Bytes.{bytes_eq-self, bytes_eq-same}
use Rattle.hold_base.proofs.Options.{option_and_then-Some}
use Rattle.hold_base.specs.declared.number.PinNo.{PinNo}
use Rattle.hold_base.specs.declared.number.VarNo.{VarNo}
use Rattle.hold_base.specs.declared.time.Side.{Side}
use Rattle.hold_base.specs.declared.time.Side.TheVariants.{Early, Late}
use Rattle.hold_graph.specs.declared.problem.Listed.{Listed}
use Rattle.hold_proof.specs.Closing.{weight_limit}
use Rattle.hold_proof.specs.declared.node.Node.{Node}
use Rattle.hold_proof.specs.declared.node.Node.TheVariants.{Split as SplitNode}
use Rattle.hold_certtext.specs.CertificateText.{side_word}
use Rattle.hold_certtext.specs.declared.terms.Bounds.{Bounds}
use Rattle.hold_certtext.specs.inner.Words.{is_nil, is_word, takes}
use Rattle.hold_certtext.specs.inner.Parsing.{◌>>=◌, guard, read_number, number_in, cost_in, count_in, side_in, pins_in, path_in, split_in, is_within, term_in, after, Terms, with_term, terms_in}
use Rattle.hold_certtext.proofs.GuardLemmas.{guard-Some, guard-true}
use Rattle.hold_certtext.proofs.NumberLemmas.{read_number-decimal, read_number-back}
use Rattle.hold_certtext.proofs.LoopLemmas.{number_in-words, terms_in-stop, terms_in-step}

abbrev pub Words : Type 0
Words = List (List ℕ)

pub number_in-decimal : (most n : ℕ) (words : Words) → n < 2 ^ 64 → n ≤ most → number_in most (decimal n ∷ words) ≡ Some (n, words)
number_in-decimal most n words small within =
    let test : nat_le n most ≡ true = grind (arith, nat_tests) in
    ap (λ (o : Option ℕ). o >>= (λ m. guard (nat_le m most) (m, words))) (read_number-decimal n small) ∙ guard-true (nat_le n most) (n, words) test

pub record Spells (most : ℕ) (words left : Words) (n : ℕ) : Type 0 where
  pub is : words ≡ decimal n ∷ left
  pub within : n ≤ most
  pub small : n < 2 ^ 64

pub number_in-back : (most : ℕ) (words left : Words) (n : ℕ) → number_in most words ≡ Some (n, left) → Spells most words left n
number_in-back most [] left n h = absurd cc
number_in-back most (word ∷ words) left n h =
    let found = option_and_then-Some (λ (m : ℕ). guard (nat_le m most) (m, words)) (read_number word) (n, left) h in
    let kept = guard-Some (nat_le found.0 most) (found.0, words) (n, left) found.2 in
    let same : found.0 ≡ n = ap (λ (x : ℕ × Words). x.0) kept.1 in
    let behind : words ≡ left = ap (λ (x : ℕ × Words). x.1) kept.1 in
    let back = read_number-back word found.0 found.1 in
    let test : nat_le found.0 most ≡ true = kept.0 in
    let below : found.0 ≤ most = grind (arith, nat_tests) in
    record {
      is = ap (λ w. w ∷ words) (sym back.0) ∙ ap (λ ws. decimal found.0 ∷ ws) behind ∙ ap (λ (m : ℕ). decimal m ∷ left) same;
      within = omega (arith, same, below);
      small = omega (arith, same, back.1);
    }

pub nil-is : (words : Words) → is_nil words ≡ true → words ≡ []
nil-is [] h = refl
nil-is (word ∷ words) h = absurd cc

-- the only word
pub is_word-back : (word : List ℕ) (words : Words) → is_word word words ≡ true → words ≡ word ∷ []
is_word-back word [] h = absurd cc
is_word-back word (first ∷ words) h =
    let parts = and_parts (bytes_eq first word) (is_nil words) h in
    ap (λ w. w ∷ words) (bytes_eq-same first word parts.0) ∙ ap (λ (ws : Words). word ∷ ws) (nil-is words parts.1)

-- a cost
pub cost_in-words : (cost : ℕ) → cost < 2 ^ 64 → cost_in (decimal cost ∷ []) ≡ Some cost
cost_in-words cost small =
    ap (λ (o : Option (ℕ × Words)). o >>= (λ c. guard (is_nil c.1) c.0)) (number_in-decimal 18446744073709551615 cost [] small (omega arith))

pub cost_in-back : (words : Words) (cost : ℕ) → cost_in words ≡ Some cost → (words ≡ decimal cost ∷ []) × (cost < 2 ^ 64)
cost_in-back words cost h =
    let last : (c : ℕ × Words) → Option ℕ = λ c. guard (is_nil c.1) c.0 in
    let found = option_and_then-Some last (number_in 18446744073709551615 words) cost h in
    let kept = guard-Some (is_nil found.0.1) found.0.0 cost found.2 in
    let number = number_in-back 18446744073709551615 words found.0.1 found.0.0 found.1 in
    (number.is ∙ ap (λ (ws : Words). decimal found.0.0 ∷ ws) (nil-is found.0.1 kept.0) ∙ ap (λ (m : ℕ). decimal m ∷ []) kept.1, let small = number.small in omega (arith, small, kept.1))

-- a counted variable
pub record FitsCount (counted : VarNo × ℕ) : Type 0 where
  pub var : counted.0.0 < 4294967296
  pub some : 1 ≤ counted.1
  pub most : counted.1 ≤ 255

pub count_in-words : (counted : VarNo × ℕ) → FitsCount counted → count_in (decimal counted.0.0 ∷ decimal counted.1 ∷ []) ≡ Some counted
count_in-words counted fits =
    let last : ℕ × Words → ℕ × Words → Option (VarNo × ℕ) = λ var count. guard (nat_lt 0 count.0 && is_nil count.1) (record { 0 = var.0 }, count.0) in
    let v = fits.var in let s = fits.some in let m = fits.most in
    let test : nat_lt 0 counted.1 ≡ true = grind (arith, nat_tests) in
    ap (λ (o : Option (ℕ × Words)). o >>= (λ var. number_in 255 var.1 >>= last var))
    (number_in-decimal 4294967295 counted.0.0 (decimal counted.1 ∷ []) (omega (arith, v)) (omega (arith, v)))
    ∙ ap (λ (o : Option (ℕ × Words)). o >>= last (counted.0.0, decimal counted.1 ∷ [])) (number_in-decimal 255 counted.1 [] (omega (arith, m)) m)
    ∙ guard-true (nat_lt 0 counted.1 && true) counted (and-true (nat_lt 0 counted.1) true test refl)

pub count_in-back : (words : Words) (counted : VarNo × ℕ) → count_in words ≡ Some counted → (words ≡ decimal counted.0.0 ∷ decimal counted.1 ∷ []) × FitsCount counted
count_in-back words counted h =
    let last : ℕ × Words → ℕ × Words → Option (VarNo × ℕ) = λ var count. guard (nat_lt 0 count.0 && is_nil count.1) (record { 0 = var.0 }, count.0) in
    let var = option_and_then-Some (λ (v : ℕ × Words). number_in 255 v.1 >>= last v) (number_in 4294967295 words) counted h in
    let count = option_and_then-Some (last var.0) (number_in 255 var.0.1) counted var.2 in
    let kept = guard-Some (nat_lt 0 count.0.0 && is_nil count.0.1) (record { 0 = var.0.0 }, count.0.0) counted count.2 in
    let tests = and_parts (nat_lt 0 count.0.0) (is_nil count.0.1) kept.0 in
    let first = number_in-back 4294967295 words var.0.1 var.0.0 var.1 in
    let second = number_in-back 255 var.0.1 count.0.1 count.0.0 count.1 in
    let same_var : var.0.0 ≡ counted.0.0 = ap (λ (c : VarNo × ℕ). c.0.0) kept.1 in
    let same_count : count.0.0 ≡ counted.1 = ap (λ (c : VarNo × ℕ). c.1) kept.1 in
    let positive : nat_lt 0 count.0.0 ≡ true = tests.0 in
    let some : 0 < count.0.0 = grind (arith, nat_tests) in (
      first.is ∙ ap (λ (ws : Words). decimal var.0.0 ∷ ws) (second.is ∙ ap (λ (ws : Words). decimal count.0.0 ∷ ws) (nil-is count.0.1 tests.1))
          ∙ ap (λ (m : ℕ). decimal m ∷ decimal count.0.0 ∷ []) same_var ∙ ap (λ (m : ℕ). decimal counted.0.0 ∷ decimal m ∷ []) same_count,
      record {
        var = let w = first.within in omega (arith, w, same_var);
        some = omega (arith, some, same_count);
        most = let w = second.within in omega (arith, w, same_count);
      },
    )

-- a split
pub split_in-words : (var : VarNo) (at : ℕ) → var.0 < 4294967296 → at ≤ 254 → split_in (decimal var.0 ∷ decimal at ∷ []) ≡ Some (SplitNode var at)
split_in-words var at below place =
    let last : ℕ × Words → ℕ × Words → Option Node = λ v a. guard (is_nil a.1) (SplitNode (record { 0 = v.0 }) a.0) in
    ap (λ (o : Option (ℕ × Words)). o >>= (λ v. number_in 254 v.1 >>= last v))
    (number_in-decimal 4294967295 var.0 (decimal at ∷ []) (omega arith) (omega arith))
    ∙ ap (λ (o : Option (ℕ × Words)). o >>= last (var.0, decimal at ∷ [])) (number_in-decimal 254 at [] (omega arith) place)

pub record IsSplit (words : Words) (node : Node) : Type 0 where
  pub var : VarNo
  pub at : ℕ
  pub is : node ≡ SplitNode var at
  pub words_are : words ≡ decimal var.0 ∷ decimal at ∷ []
  pub below : var.0 < 4294967296
  pub place : at ≤ 254

pub split_in-back : (words : Words) (node : Node) → split_in words ≡ Some node → IsSplit words node
split_in-back words node h =
    let last : ℕ × Words → ℕ × Words → Option Node = λ v a. guard (is_nil a.1) (SplitNode (record { 0 = v.0 }) a.0) in
    let var = option_and_then-Some (λ (v : ℕ × Words). number_in 254 v.1 >>= last v) (number_in 4294967295 words) node h in
    let at = option_and_then-Some (last var.0) (number_in 254 var.0.1) node var.2 in
    let kept = guard-Some (is_nil at.0.1) (SplitNode (record { 0 = var.0.0 }) at.0.0) node at.2 in
    let first = number_in-back 4294967295 words var.0.1 var.0.0 var.1 in
    let second = number_in-back 254 var.0.1 at.0.1 at.0.0 at.1 in
    record {
      var = record { 0 = var.0.0 };
      at = at.0.0;
      is = sym kept.1;
      words_are = first.is ∙ ap (λ (ws : Words). decimal var.0.0 ∷ ws) (second.is ∙ ap (λ (ws : Words). decimal at.0.0 ∷ ws) (nil-is at.0.1 kept.0));
      below = let w = first.within in omega (arith, w);
      place = second.within;
    }

-- a side
pub side_in-words : (side : Side) (words : Words) → side_in (side_word side ∷ words) ≡ Some (side, words)
side_in-words Early words = refl
side_in-words Late words = refl

pub side_in-back : (words left : Words) (side : Side) → side_in words ≡ Some (side, left) → words ≡ side_word side ∷ left
side_in-back [] left side h = absurd cc
side_in-back (word ∷ words) left side h = by (bytes_eq word (codes "early")) (bytes_eq word (codes "late")) refl refl h
  where
    by : (early late : Bool) → bytes_eq word (codes "early") ≡ early → bytes_eq word (codes "late") ≡ late
        → ◌≡◌ {A = Option (Side × Words)} (cond early (Some (Early, words)) (guard late (Late, words))) (Some (side, left)) → word ∷ words ≡ side_word side ∷ left
    by true late is other e =
        let same = same_Some (Early, words) (side, left) e in
        ap (λ w. w ∷ words) (bytes_eq-same word (codes "early") is) ∙ ap (λ (x : Side × Words). side_word x.0 ∷ x.1) same
    by false true is other e =
        let same = same_Some (Late, words) (side, left) e in
        ap (λ w. w ∷ words) (bytes_eq-same word (codes "late") other) ∙ ap (λ (x : Side × Words). side_word x.0 ∷ x.1) same
    by false false is other e = absurd (none-some (side, left) e)

-- pins
abbrev pub pin_words : List PinNo → Words
pin_words pins = map (λ (pin : PinNo). decimal pin.0) pins

abbrev pub ArePins : List PinNo → Type 0
ArePins pins = AllByRecursion (λ (pin : PinNo). pin.0 < 4294967296) pins

pub pins_in-words : (pins : List PinNo) → ArePins pins → pins_in (pin_words pins) ≡ Some pins
pins_in-words [] fits = refl
pins_in-words (pin ∷ pins) fits =
    let below = fits.0 in
    ap (λ (o : Option (ℕ × Words)). o >>= (λ p. pins_in (pin_words pins) >>= (λ ps. Some (record { 0 = p.0 } ∷ ps))))
    (number_in-decimal 4294967295 pin.0 (pin_words pins) (omega (arith, below)) (omega (arith, below)))
    ∙ ap (λ (o : Option (List PinNo)). o >>= (λ ps. Some (pin ∷ ps))) (pins_in-words pins fits.1)

pub pins_in-back : (words : Words) (pins : List PinNo) → pins_in words ≡ Some pins → (words ≡ pin_words pins) × ArePins pins
pins_in-back [] pins h = let same = same_Some [] pins h in subst (λ (ps : List PinNo). ([] ≡ pin_words ps) × ArePins ps) same (refl, tt)
pins_in-back (word ∷ words) pins h =
    let rest : ℕ × Words → List PinNo → Option (List PinNo) = λ p ps. Some (record { 0 = p.0 } ∷ ps) in
    let pin = option_and_then-Some (λ (p : ℕ × Words). pins_in words >>= rest p) (number_in 4294967295 (word ∷ words)) pins h in
    let more = option_and_then-Some (rest pin.0) (pins_in words) pins pin.2 in
    let same = same_Some (record { 0 = pin.0.0 } ∷ more.0) pins more.2 in
    let first = number_in-back 4294967295 (word ∷ words) pin.0.1 pin.0.0 pin.1 in
    let behind : pin.0.1 ≡ words = number_in-words 4294967295 word words pin.0.1 pin.0.0 pin.1 in
    let others = pins_in-back words more.0 more.1 in
    subst (λ (ps : List PinNo). (word ∷ words ≡ pin_words ps) × ArePins ps) same
    (first.is ∙ ap (λ (ws : Words). decimal pin.0.0 ∷ ws) (behind ∙ others.0), (let w = first.within in omega (arith, w), others.1))

-- a path
pub record FitsPath (path : Listed) : Type 0 where
  pub corner : path.corner.0 < 256
  pub pins : ArePins path.pins
  pub two : 2 ≤ length path.pins

pub path_in-words : (path : Listed) → FitsPath path → path_in (side_word path.side ∷ decimal path.corner.0 ∷ pin_words path.pins) ≡ Some path
path_in-words path fits =
    let last : Side × Words → ℕ × Words → List PinNo → Option Listed =
    λ side corner pins. guard (nat_le 2 (length pins)) (record { side = side.0; corner = record { 0 = corner.0 }; pins = pins }) in
    let behind : Words = decimal path.corner.0 ∷ pin_words path.pins in
    let below = fits.corner in let two = fits.two in
    let test : nat_le 2 (length path.pins) ≡ true = grind (arith, nat_tests) in
    ap (λ (o : Option (Side × Words)). o >>= (λ s. number_in 255 s.1 >>= (λ c. pins_in c.1 >>= last s c))) (side_in-words path.side behind)
    ∙ ap (λ (o : Option (ℕ × Words)). o >>= (λ c. pins_in c.1 >>= last (path.side, behind) c)) (number_in-decimal 255 path.corner.0 (pin_words path.pins) (omega (arith, below)) (omega (arith, below)))
    ∙ ap (λ (o : Option (List PinNo)). o >>= last (path.side, behind) (path.corner.0, pin_words path.pins)) (pins_in-words path.pins fits.pins)
    ∙ guard-true (nat_le 2 (length path.pins)) path test

pub path_in-back : (words : Words) (path : Listed) → path_in words ≡ Some path
    → (words ≡ side_word path.side ∷ decimal path.corner.0 ∷ pin_words path.pins) × FitsPath path
path_in-back words path h =
    let last : Side × Words → ℕ × Words → List PinNo → Option Listed =
    λ side corner pins. guard (nat_le 2 (length pins)) (record { side = side.0; corner = record { 0 = corner.0 }; pins = pins }) in
    let side = option_and_then-Some (λ (s : Side × Words). number_in 255 s.1 >>= (λ c. pins_in c.1 >>= last s c)) (side_in words) path h in
    let corner = option_and_then-Some (λ (c : ℕ × Words). pins_in c.1 >>= last side.0 c) (number_in 255 side.0.1) path side.2 in
    let pins = option_and_then-Some (last side.0 corner.0) (pins_in corner.0.1) path corner.2 in
    let made : Listed = record { side = side.0.0; corner = record { 0 = corner.0.0 }; pins = pins.0 } in
    let kept = guard-Some (nat_le 2 (length pins.0)) made path pins.2 in
    let second = number_in-back 255 side.0.1 corner.0.1 corner.0.0 corner.1 in
    let others = pins_in-back corner.0.1 pins.0 pins.1 in
    let test : nat_le 2 (length pins.0) ≡ true = kept.0 in
    let two : 2 ≤ length pins.0 = grind (arith, nat_tests) in
    subst (λ (p : Listed). (words ≡ side_word p.side ∷ decimal p.corner.0 ∷ pin_words p.pins) × FitsPath p) kept.1 (
      side_in-back words side.0.1 side.0.0 side.1 ∙ ap (λ (ws : Words). side_word side.0.0 ∷ ws) (second.is ∙ ap (λ (ws : Words). decimal corner.0.0 ∷ ws) others.0),
      record { corner = (let w = second.within in omega (arith, w)); pins = others.1; two = two },
    )

-- terms
abbrev pub term_words : {X : Type 0} → List ℕ → (X → ℕ) → X × ℕ → Words
term_words letter number term = letter ∷ decimal (number term.0) ∷ decimal term.1 ∷ []

-- these terms may stand within the bounds, and with them the weight is so much
abbrev pub AreTerms : {X : Type 0} → (X → ℕ) → Bounds → List (X × ℕ) → ℕ → Type 0
AreTerms number bounds [] weight = bounds.weight ≡ weight
AreTerms number bounds (term ∷ terms) weight =
    (is_within bounds (number term.0) term.1 ≡ true) × (number term.0 < 18446744073709551616) × AreTerms number (after bounds (number term.0, term.1)) terms weight

pub record Within (bounds : Bounds) (number times : ℕ) : Type 0 where
  pub least : bounds.least ≤ number
  pub limit : number < bounds.limit
  pub some : 1 ≤ times
  pub weight : bounds.weight + times ≤ weight_limit

pub within-parts : (bounds : Bounds) (number times : ℕ) → is_within bounds number times ≡ true → Within bounds number times
within-parts bounds number times h =
    let last = and_parts (nat_le bounds.least number && nat_lt number bounds.limit && nat_le 1 times) (nat_le (bounds.weight + times) weight_limit) h in
    let third = and_parts (nat_le bounds.least number && nat_lt number bounds.limit) (nat_le 1 times) last.0 in
    let first = and_parts (nat_le bounds.least number) (nat_lt number bounds.limit) third.0 in
    let a : nat_le bounds.least number ≡ true = first.0 in
    let b : nat_lt number bounds.limit ≡ true = first.1 in
    let c : nat_le 1 times ≡ true = third.1 in
    let d : nat_le (bounds.weight + times) weight_limit ≡ true = last.1 in
    record { least = grind (arith, nat_tests); limit = grind (arith, nat_tests); some = grind (arith, nat_tests); weight = grind (arith, nat_tests) }

pub within-test : (bounds : Bounds) (number times : ℕ) → Within bounds number times → is_within bounds number times ≡ true
within-test bounds number times h =
    let l = h.least in let m = h.limit in let s = h.some in let w = h.weight in
    let a : nat_le bounds.least number ≡ true = grind (arith, nat_tests) in
    let b : nat_lt number bounds.limit ≡ true = grind (arith, nat_tests) in
    let c : nat_le 1 times ≡ true = grind (arith, nat_tests) in
    let d : nat_le (bounds.weight + times) weight_limit ≡ true = grind (arith, nat_tests) in
    and-true (nat_le bounds.least number && nat_lt number bounds.limit && nat_le 1 times) (nat_le (bounds.weight + times) weight_limit)
    (and-true (nat_le bounds.least number && nat_lt number bounds.limit) (nat_le 1 times) (and-true (nat_le bounds.least number) (nat_lt number bounds.limit) a b) c) d

term_in-decimals : (bounds : Bounds) (number times : ℕ) (words : Words) → is_within bounds number times ≡ true → number < 18446744073709551616
    → term_in bounds (decimal number ∷ decimal times ∷ words) ≡ Some ((number, times), words)
term_in-decimals bounds number times words within small =
    let most : ℕ = 18446744073709551615 in
    let last : ℕ × Words → ℕ × Words → Option ((ℕ × ℕ) × Words) = λ n t. guard (is_within bounds n.0 t.0) ((n.0, t.0), t.1) in
    let weight = (within-parts bounds number times within).weight in
    ap (λ (o : Option (ℕ × Words)). o >>= (λ n. number_in most n.1 >>= last n)) (number_in-decimal most number (decimal times ∷ words) (omega arith) (omega arith))
    ∙ ap (λ (o : Option (ℕ × Words)). o >>= last (number, decimal times ∷ words)) (number_in-decimal most times words (omega (arith, weight)) (omega (arith, weight)))
    ∙ guard-true (is_within bounds number times) ((number, times), words) within

pub record IsTerm (bounds : Bounds) (words left : Words) (term : ℕ × ℕ) : Type 0 where
  pub is : words ≡ decimal term.0 ∷ decimal term.1 ∷ left
  pub within : is_within bounds term.0 term.1 ≡ true
  pub small : term.0 < 18446744073709551616

pub term_in-back : (bounds : Bounds) (words left : Words) (term : ℕ × ℕ) → term_in bounds words ≡ Some (term, left) → IsTerm bounds words left term
term_in-back bounds words left term h =
    let most : ℕ = 18446744073709551615 in
    let last : ℕ × Words → ℕ × Words → Option ((ℕ × ℕ) × Words) = λ n t. guard (is_within bounds n.0 t.0) ((n.0, t.0), t.1) in
    let number = option_and_then-Some (λ (n : ℕ × Words). number_in most n.1 >>= last n) (number_in most words) (term, left) h in
    let times = option_and_then-Some (last number.0) (number_in most number.0.1) (term, left) number.2 in
    let kept = guard-Some (is_within bounds number.0.0 times.0.0) ((number.0.0, times.0.0), times.0.1) (term, left) times.2 in
    let first = number_in-back most words number.0.1 number.0.0 number.1 in
    let second = number_in-back most number.0.1 times.0.1 times.0.0 times.1 in
    let made : IsTerm bounds words times.0.1 (number.0.0, times.0.0) = record {
      is = first.is ∙ ap (λ (ws : Words). decimal number.0.0 ∷ ws) second.is;
      within = kept.0;
      small = let s = first.small in omega (arith, s);
    } in
    subst (λ (x : (ℕ × ℕ) × Words). IsTerm bounds words x.1 x.0) kept.1 made

pub takes-first : (word : List ℕ) (words : Words) → takes word (word ∷ words) ≡ (true, words)
takes-first word words = rw (bytes_eq-self word) refl

pub terms_in-words : {X : Type 0} (make : ℕ → X) (number : X → ℕ) → ((x : X) → make (number x) ≡ x) → (letter : List ℕ) (bounds : Bounds) (terms : List (X × ℕ)) (weight : ℕ) (rest : Words)
    → AreTerms number bounds terms weight → takes letter rest ≡ (false, rest)
    → terms_in make letter bounds (flat_map (term_words letter number) terms ++ rest) ≡ Some (terms, weight, rest)
terms_in-words {X = X} make number same letter bounds [] weight rest fits stop =
    terms_in-stop make letter bounds rest rest stop ∙ ap (λ (w : ℕ). Some ([], w, rest)) fits
terms_in-words {X = X} make number same letter bounds (term ∷ terms) weight rest fits stop =
    let more : Words = flat_map (term_words letter number) terms ++ rest in
    let two : Words = decimal (number term.0) ∷ decimal term.1 ∷ more in
    terms_in-step make letter bounds (letter ∷ two) two more (number term.0, term.1) (takes-first letter two) (term_in-decimals bounds (number term.0) term.1 more fits.0 fits.1)
    ∙ ap (λ (o : Option (Terms X)). o >>= (λ r. Some (with_term (make (number term.0), term.1) r))) (terms_in-words make number same letter (after bounds (number term.0, term.1)) terms weight rest fits.2 stop)
    ∙ ap (λ (x : X). Some ((x, term.1) ∷ terms, weight, rest)) (same term.0)
