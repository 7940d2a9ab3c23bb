-- The words of a leaf are read as the leaf, and what is read as a leaf is spelled so.
use Rattle.std.proofs.Common.{◌≡◌, ℕ, ◌<◌, ◌≤◌, List, [], ◌∷◌, ◌++◌, Bool, true, false, refl, sym, ap, subst, ◌∙◌, arith, append-nil}
use Rattle.std.specs.Prelude.{◌^◌, Option, None, Some, codes, decimal, flat_map}
use Rattle.std.specs.Str.{bytes_eq}
use Rattle.std.proofs.lemmas.Option.{none-some, same_Some}
use Rattle.hold_base.proofs.Bytes.{bytes_eq-same}
use Rattle.hold_base.proofs.Options.{option_and_then-Some}
use Rattle.hold_base.specs.declared.number.PathNo.{PathNo}
use Rattle.hold_base.specs.declared.number.SiteNo.{SiteNo}
use Rattle.hold_proof.specs.declared.node.Leaf.{Leaf}
use Rattle.hold_certtext.specs.CertificateText.{path_words, chain_words}
use Rattle.hold_certtext.specs.declared.terms.Bounds.{Bounds}
use Rattle.hold_certtext.specs.inner.Words.{is_nil, takes}
use Rattle.hold_certtext.specs.inner.Parsing.{◌>>=◌, guard, number_in, is_within, term_in, after, Terms, no_terms, with_term, terms_in, path_no, site_no, leaf_in}
use Rattle.hold_certtext.proofs.GuardLemmas.{guard-Some}
use Rattle.hold_certtext.proofs.LoopLemmas.{term_in-words, or_none}
use Rattle.hold_certtext.proofs.PartLaws.{Words, number_in-decimal, number_in-back, nil-is, AreTerms, term_words, IsTerm, term_in-back, terms_in-words}

-- what is read as terms: their words, and what stands behind them
abbrev IsTerms : {X : Type 0} → (X → ℕ) → List ℕ → Bounds → Words → Terms X → Type 0
IsTerms number letter bounds words terms = (words ≡ flat_map (term_words letter number) terms.0 ++ terms.2) × AreTerms number bounds terms.0 terms.1

no_terms-back : {X : Type 0} (number : X → ℕ) (letter : List ℕ) (bounds : Bounds) (words : Words) (terms : Terms X) → Some (no_terms bounds words) ≡ Some terms
    → IsTerms number letter bounds words terms
no_terms-back {X = X} number letter bounds words terms h =
    let start : IsTerms {X = X} number letter bounds words (no_terms bounds words) = (refl, refl) in
    subst (IsTerms {X = X} number letter bounds words) (same_Some (no_terms bounds words) terms h) start

short-back : {X : Type 0} (number : X → ℕ) (letter : List ℕ) (bounds : Bounds) (words : Words) (terms : Terms X) (t : Bool)
    → or_none {X = X} t None (no_terms bounds words) ≡ Some terms → IsTerms number letter bounds words terms
short-back number letter bounds words terms true h = absurd (none-some terms h)
short-back number letter bounds words terms false h = no_terms-back number letter bounds words terms h

term-more : {X : Type 0} (make : ℕ → X) (number : X → ℕ) → ((n : ℕ) → number (make n) ≡ n) → (letter : List ℕ) (bounds : Bounds) (words left : Words) (term : ℕ × ℕ) (rest : Terms X)
    → IsTerm bounds words left term → IsTerms number letter (after bounds term) left rest
    → IsTerms number letter bounds (letter ∷ words) (with_term (make term.0, term.1) rest)
term-more {X = X} make number same letter bounds words left term rest first more =
    let here : number (make term.0) ≡ term.0 = same term.0 in (
      ap (λ (ws : Words). letter ∷ ws) (first.is ∙ ap (λ (ws : Words). decimal term.0 ∷ decimal term.1 ∷ ws) more.0)
          ∙ ap (λ (n : ℕ). letter ∷ decimal n ∷ decimal term.1 ∷ (flat_map (term_words letter number) rest.0 ++ rest.2)) (sym here),
      (
        ap (λ (n : ℕ). is_within bounds n term.1) here ∙ first.within,
        (let small = first.small in omega (arith, here, small)),
        subst (λ (n : ℕ). AreTerms number (after bounds (n, term.1)) rest.0 rest.1) (sym here) more.1,
      ),
    )

pub terms_in-back : {X : Type 0} (make : ℕ → X) (number : X → ℕ) → ((n : ℕ) → number (make n) ≡ n) → (letter : List ℕ) (bounds : Bounds) (words : Words) (terms : Terms X)
    → terms_in make letter bounds words ≡ Some terms → IsTerms number letter bounds words terms
terms_in-back make number same letter bounds [] terms h = no_terms-back number letter bounds [] terms h
terms_in-back make number same letter bounds (first ∷ []) terms h = short-back number letter bounds (first ∷ []) terms (bytes_eq first letter) h
terms_in-back make number same letter bounds (first ∷ a ∷ []) terms h = short-back number letter bounds (first ∷ a ∷ []) terms (bytes_eq first letter) h
terms_in-back {X = X} make number same letter bounds (first ∷ a ∷ b ∷ words) terms h =
    by (bytes_eq first letter) refl (λ bounds' rest. terms_in-back make number same letter bounds' words rest) h
  where
    by : (t : Bool) → bytes_eq first letter ≡ t
        → ((bounds' : Bounds) (rest : Terms X) → terms_in make letter bounds' words ≡ Some rest → IsTerms number letter bounds' words rest)
        → or_none {X = X} t (term_in bounds (a ∷ b ∷ words) >>= (λ term. terms_in make letter (after bounds term.0) words >>= (λ rest. Some (with_term (make term.0.0, term.0.1) rest)))) (no_terms bounds (first ∷ a ∷ b ∷ words)) ≡ Some terms
        → IsTerms number letter bounds (first ∷ a ∷ b ∷ words) terms
    by false is others e = no_terms-back number letter bounds (first ∷ a ∷ b ∷ words) terms e
    by true is others e =
        let last : (ℕ × ℕ) × Words → Terms X → Option (Terms X) = λ term rest. Some (with_term (make term.0.0, term.0.1) rest) in
        let term = option_and_then-Some (λ (t : (ℕ × ℕ) × Words). terms_in make letter (after bounds t.0) words >>= last t) (term_in bounds (a ∷ b ∷ words)) terms e in
        let rest = option_and_then-Some (last term.0) (terms_in make letter (after bounds term.0.0) words) terms term.2 in
        let one = term_in-back bounds (a ∷ b ∷ words) term.0.1 term.0.0 term.1 in
        let behind : term.0.1 ≡ words = term_in-words bounds a b words term.0.1 term.0.0 term.1 in
        let letter_is : first ≡ letter = bytes_eq-same first letter is in
        let more = subst (λ (ws : Words). IsTerms number letter (after bounds term.0.0) ws rest.0) (sym behind) (others (after bounds term.0.0) rest.0 rest.1) in
        let whole = term-more make number same letter bounds (a ∷ b ∷ words) term.0.1 term.0.0 rest.0 one more in
        let spelled = subst (λ (w : List ℕ). IsTerms number letter bounds (w ∷ a ∷ b ∷ words) (with_term (make term.0.0.0, term.0.0.1) rest.0)) (sym letter_is) whole in
        subst (IsTerms number letter bounds (first ∷ a ∷ b ∷ words)) (same_Some (with_term (make term.0.0.0, term.0.0.1) rest.0) terms rest.2) spelled

abbrev pub path_number : PathNo → ℕ
path_number path = path.0

abbrev pub site_number : SiteNo → ℕ
site_number site = site.0

abbrev pub path_bounds : ℕ → ℕ → Bounds
path_bounds paths scale = record { least = 0; limit = paths; weight = scale }

abbrev pub chain_bounds : ℕ → Bounds
chain_bounds weight = record { least = 0; limit = 4294967296; weight = weight }

pub record FitsLeaf (most paths : ℕ) (leaf : Leaf) : Type 0 where
  pub scale : leaf.scale ≤ most
  pub small : leaf.scale < 2 ^ 64
  pub with_paths : ℕ
  pub of_paths : AreTerms path_number (path_bounds paths leaf.scale) leaf.paths with_paths
  pub with_chains : ℕ
  pub of_chains : AreTerms site_number (chain_bounds with_paths) leaf.chains with_chains

abbrev pub leaf_words : Leaf → Words
leaf_words leaf = decimal leaf.scale ∷ (flat_map path_words leaf.paths ++ flat_map chain_words leaf.chains)

no-path : (chains : List (SiteNo × ℕ)) → takes (codes "p") (flat_map chain_words chains) ≡ (false, flat_map chain_words chains)
no-path [] = refl
no-path (term ∷ terms) = refl

pub leaf_in-words : (most paths : ℕ) (leaf : Leaf) → FitsLeaf most paths leaf → leaf_in paths most (leaf_words leaf) ≡ Some leaf
leaf_in-words most paths leaf fits =
    let last : ℕ × Words → Terms PathNo → Terms SiteNo → Option Leaf =
    λ scale ps cs. guard (is_nil cs.2) (record { scale = scale.0; paths = ps.0; chains = cs.0 }) in
    let chains : ℕ × Words → Terms PathNo → Option Leaf = λ scale ps. terms_in site_no (codes "s") (chain_bounds ps.1) ps.2 >>= last scale ps in
    let behind : Words = flat_map path_words leaf.paths ++ flat_map chain_words leaf.chains in
    ap (λ (o : Option (ℕ × Words)). o >>= (λ s. terms_in path_no (codes "p") (path_bounds paths s.0) s.1 >>= chains s)) (number_in-decimal most leaf.scale behind fits.small fits.scale)
    ∙ ap (λ (o : Option (Terms PathNo)). o >>= chains (leaf.scale, behind))
    (terms_in-words path_no path_number (λ x. refl) (codes "p") (path_bounds paths leaf.scale) leaf.paths fits.with_paths (flat_map chain_words leaf.chains) fits.of_paths (no-path leaf.chains))
    ∙ ap (λ (ws : Words). terms_in site_no (codes "s") (chain_bounds fits.with_paths) ws >>= last (leaf.scale, behind) (leaf.paths, fits.with_paths, flat_map chain_words leaf.chains))
    (sym (append-nil (flat_map chain_words leaf.chains)))
    ∙ ap (λ (o : Option (Terms SiteNo)). o >>= last (leaf.scale, behind) (leaf.paths, fits.with_paths, flat_map chain_words leaf.chains))
    (terms_in-words site_no site_number (λ x. refl) (codes "s") (chain_bounds fits.with_paths) leaf.chains fits.with_chains [] fits.of_chains refl)

pub leaf_in-back : (most paths : ℕ) (words : Words) (leaf : Leaf) → leaf_in paths most words ≡ Some leaf → (words ≡ leaf_words leaf) × FitsLeaf most paths leaf
leaf_in-back most paths words leaf h =
    let last : ℕ × Words → Terms PathNo → Terms SiteNo → Option Leaf =
    λ scale ps cs. guard (is_nil cs.2) (record { scale = scale.0; paths = ps.0; chains = cs.0 }) in
    let chains : ℕ × Words → Terms PathNo → Option Leaf = λ scale ps. terms_in site_no (codes "s") (chain_bounds ps.1) ps.2 >>= last scale ps in
    let scale = option_and_then-Some (λ (s : ℕ × Words). terms_in path_no (codes "p") (path_bounds paths s.0) s.1 >>= chains s) (number_in most words) leaf h in
    let ps = option_and_then-Some (chains scale.0) (terms_in path_no (codes "p") (path_bounds paths scale.0.0) scale.0.1) leaf scale.2 in
    let cs = option_and_then-Some (last scale.0 ps.0) (terms_in site_no (codes "s") (chain_bounds ps.0.1) ps.0.2) leaf ps.2 in
    let made : Leaf = record { scale = scale.0.0; paths = ps.0.0; chains = cs.0.0 } in
    let kept = guard-Some (is_nil cs.0.2) made leaf cs.2 in
    let number = number_in-back most words scale.0.1 scale.0.0 scale.1 in
    let of_paths = terms_in-back path_no path_number (λ n. refl) (codes "p") (path_bounds paths scale.0.0) scale.0.1 ps.0 ps.1 in
    let of_chains = terms_in-back site_no site_number (λ n. refl) (codes "s") (chain_bounds ps.0.1) ps.0.2 cs.0 cs.1 in
    let last_words : ps.0.2 ≡ flat_map chain_words cs.0.0 =
    of_chains.0 ∙ ap (λ (ws : Words). flat_map chain_words cs.0.0 ++ ws) (nil-is cs.0.2 kept.0) ∙ append-nil (flat_map chain_words cs.0.0) in
    subst (λ (l : Leaf). (words ≡ leaf_words l) × FitsLeaf most paths l) kept.1 (
      number.is ∙ ap (λ (ws : Words). decimal scale.0.0 ∷ ws) (of_paths.0 ∙ ap (λ (ws : Words). flat_map path_words ps.0.0 ++ ws) last_words),
      record { scale = number.within; small = number.small; with_paths = ps.0.1; of_paths = of_paths.1; with_chains = cs.0.1; of_chains = of_chains.1 },
    )
