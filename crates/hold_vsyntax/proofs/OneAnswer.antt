-- A text has one syntax tree or one fault, and not both.
use Rattle.std.proofs.Common.{◌≡◌, ℕ, List, [], ◌∷◌, ◌++◌, map, refl, sym, ap, subst, ◌∙◌, inl, inr, append_assoc}
use Rattle.std.specs.Prelude.{Option, Some, None, Result, Ok, Err, IfOk}
use Rattle.std.proofs.lemmas.List.{append-nil, map-append}
use Rattle.std.proofs.lemmas.Option.{some_pair_parts}
use Rattle.hold_base.specs.Answers.{Answers, IfFault}
use Rattle.hold_base.specs.declared.stop.Stop.{Stop}
use Rattle.hold_base.specs.declared.stop.Stop.TheVariants.{Memory, Fault}
use Rattle.hold_vlex.specs.Lexed.{Lexeme, lexed}
use Rattle.hold_vlex.specs.declared.fault.LexFault.{LexFault}
use Rattle.hold_vsyntax.specs.declared.fault.SyntaxFault.{SyntaxFault}
use Rattle.hold_vsyntax.specs.declared.fault.SyntaxFault.TheVariants.{Lex}
use Rattle.hold_vsyntax.specs.declared.tree.Ident.{Ident}
use Rattle.hold_vsyntax.specs.declared.tree.Header.{Header}
use Rattle.hold_vsyntax.specs.declared.tree.Item.{Item}
use Rattle.hold_vsyntax.specs.declared.tree.Module.{Module}
use Rattle.hold_vsyntax.specs.Symbols.{symbols}
use Rattle.hold_vsyntax.specs.Pieces.{pieces}
use Rattle.hold_vsyntax.specs.Grammar.{header_piece, item_piece, end_piece, pieces_of}
use Rattle.hold_vsyntax.specs.inner.Reading.{opening_at, item_at}
use Rattle.hold_vsyntax.specs.Text.{IsModule, CanStand, IsFirstBad, IsPieceFault, blame, left_out_in}
use Rattle.hold_vsyntax.specs.SyntaxTree.{IsTree, IsSyntaxFault}
use Rattle.hold_vsyntax.proofs.HeaderLaws.{opening_complete}
use Rattle.hold_vsyntax.proofs.ItemLaws.{item_complete}
use Rattle.hold_vsyntax.proofs.ModuleLemmas.{module_of, not_end}

-- a piece is written for one statement
one_item : (x y : Item) → item_piece x ≡ item_piece y → x ≡ y
one_item x y h = (some_pair_parts x y [] [] (sym (item_complete x []) ∙ ap (λ l. item_at (l ++ [])) h ∙ item_complete y [])).0

one_body : (xs ys : List Item) → map item_piece xs ++ end_piece ∷ [] ≡ map item_piece ys ++ end_piece ∷ [] → xs ≡ ys
one_body [] [] h = refl
one_body [] (y ∷ ys) h = absurd (not_end y (let first : item_piece y ≡ end_piece = cc in first))
one_body (x ∷ xs) [] h = absurd (not_end x (let first : item_piece x ≡ end_piece = cc in first))
one_body (x ∷ xs) (y ∷ ys) h =
    let first : item_piece x ≡ item_piece y = cc in
    let rest : map item_piece xs ++ end_piece ∷ [] ≡ map item_piece ys ++ end_piece ∷ [] = cc in
    let head = one_item x y first in
    let tail = one_body xs ys rest in
    cc

one_module : (m n : Module) → pieces_of m ≡ pieces_of n → m ≡ n
one_module m n h =
    let first : header_piece m ≡ header_piece n = cc in
    let rest : map item_piece m.items ++ end_piece ∷ [] ≡ map item_piece n.items ++ end_piece ∷ [] = cc in
    let opened = some_pair_parts (m.name, m.header) (n.name, n.header) [] []
    (sym (opening_complete m.name m.header []) ∙ ap (λ l. opening_at (l ++ [])) first ∙ opening_complete n.name n.header []) in
    ap (λ (p : Ident × Header). module_of p.0 p.1 m.items) opened.0 ∙ ap (λ is. module_of n.name n.header is) (one_body m.items n.items rest)

pub one_tree : (text : List ℕ) (m n : Module) → IsTree text m → IsTree text n → m ≡ n
one_tree text m n a b = one_module m n (sym a.pieces ∙ b.pieces)

-- what stands before what can stand can stand
front_stands : (a b : List (List Lexeme)) → CanStand (a ++ b) → CanStand a
front_stands a b s = (s.0, map symbols b ++ s.1, s.2 ∙ ap (λ l. l ++ s.1) (map-append symbols a b) ∙ append_assoc (map symbols a) (map symbols b) s.1)

bad_in_whole : (tokens : List Lexeme) (done : List (List Lexeme)) (bad : List Lexeme) → IsFirstBad tokens done bad → CanStand (pieces tokens) → ⊥
bad_in_whole tokens done bad first all =
    first.stuck (front_stands (done ++ bad ∷ []) first.rest (subst CanStand (first.cut ∙ sym (append_assoc done (bad ∷ []) first.rest)) all))

whole_stands : (tokens : List Lexeme) (m : Module) → IsModule tokens m → CanStand (pieces tokens)
whole_stands tokens m is = (m, [], sym is ∙ sym (append-nil (map symbols (pieces tokens))))

no_both : (f : Option LexFault) (g : LexFault) → f ≡ None → f ≡ Some g → ⊥
no_both f g a b = let e : None ≡ Some g = sym a ∙ b in never e
  where
    never : None ≡ Some g → ⊥
    never h = cc

pub tree_or_fault : (text : List ℕ) (m : Module) (fault : SyntaxFault) → IsTree text m → IsSyntaxFault text fault → ⊥
tree_or_fault text m fault tree (inl lex) = no_both (lexed text).fault lex.lex_fault tree.tokens lex.found
tree_or_fault text m fault tree (inr (inl bad)) =
    bad_in_whole (lexed text).tokens bad.piece.0 bad.piece.1 bad.piece.2 (whole_stands (lexed text).tokens m tree.pieces)
tree_or_fault text m fault tree (inr (inr early)) = early.early.open_end m tree.pieces

-- of two places of one list, they are one, or one stands before the other
data Places {X : Type 0} (a : List X) (x : X) (b : List X) (y : X) : Type 0 where
  same : a ≡ b → x ≡ y → Places a x b y
  before : (c : List X) → b ≡ a ++ x ∷ c → Places a x b y
  behind : (c : List X) → a ≡ b ++ y ∷ c → Places a x b y

one_further : {X : Type 0} (a b : List X) (x y u v : X) → u ≡ v → Places a x b y → Places (u ∷ a) x (v ∷ b) y
one_further a b x y u v e (same p q) = same (ap (λ l. u ∷ l) p ∙ ap (λ h. h ∷ b) e) q
one_further a b x y u v e (before c p) = before c (ap (λ l. v ∷ l) p ∙ ap (λ h. h ∷ (a ++ x ∷ c)) (sym e))
one_further a b x y u v e (behind c p) = behind c (ap (λ l. u ∷ l) p ∙ ap (λ h. h ∷ (b ++ y ∷ c)) e)

places : {X : Type 0} (a b r s : List X) (x y : X) → a ++ x ∷ r ≡ b ++ y ∷ s → Places a x b y
places [] [] r s x y h = same refl (let first : x ≡ y = cc in first)
places [] (v ∷ b) r s x y h = before b (let first : v ≡ x = cc in ap (λ k. k ∷ b) first)
places (u ∷ a) [] r s x y h = behind a (let first : u ≡ y = cc in ap (λ k. k ∷ a) first)
places (u ∷ a) (v ∷ b) r s x y h =
    let first : u ≡ v = cc in
    let rest : a ++ x ∷ r ≡ b ++ y ∷ s = cc in
    one_further a b x y u v first (places a b r s x y rest)

-- a first bad piece stands before no other one
not_before : (tokens : List Lexeme) (done : List (List Lexeme)) (bad : List Lexeme) (c d : List (List Lexeme))
    → IsFirstBad tokens done bad → CanStand d → d ≡ done ++ bad ∷ c → ⊥
not_before tokens done bad c d first stands is =
    first.stuck (front_stands (done ++ bad ∷ []) c (subst CanStand (is ∙ sym (append_assoc done (bad ∷ []) c)) stands))

one_bad : (tokens : List Lexeme) (f g : SyntaxFault) → IsPieceFault tokens f → IsPieceFault tokens g → f ≡ g
one_bad tokens f g a b =
    by (places a.0 b.0 a.2.rest b.2.rest a.1 b.1 (sym a.2.cut ∙ b.2.cut))
  where
    by : Places a.0 a.1 b.0 b.1 → f ≡ g
    by (same p q) = a.3 ∙ ap (λ d. blame a.1 (left_out_in d a.1)) p ∙ ap (λ x. blame x (left_out_in b.0 x)) q ∙ sym b.3
    by (before c p) = absurd (not_before tokens a.0 a.1 c b.0 a.2 b.2.fine p)
    by (behind c p) = absurd (not_before tokens b.0 b.1 c a.0 b.2 a.2.fine p)

one_lex : (o : Option LexFault) (f g : SyntaxFault) (a b : LexFault) → o ≡ Some a → o ≡ Some b → f ≡ Lex a → g ≡ Lex b → f ≡ g
one_lex o f g a b p q is was = let e : Some a ≡ Some b = sym p ∙ q in is ∙ ap Lex (let same : a ≡ b = cc in same) ∙ sym was

pub one_fault : (text : List ℕ) (f g : SyntaxFault) → IsSyntaxFault text f → IsSyntaxFault text g → f ≡ g
one_fault text f g (inl a) (inl b) = one_lex (lexed text).fault f g a.lex_fault b.lex_fault a.found b.found a.named b.named
one_fault text f g (inl a) (inr (inl b)) = absurd (no_both (lexed text).fault a.lex_fault b.tokens a.found)
one_fault text f g (inl a) (inr (inr b)) = absurd (no_both (lexed text).fault a.lex_fault b.tokens a.found)
one_fault text f g (inr (inl a)) (inl b) = absurd (no_both (lexed text).fault b.lex_fault a.tokens b.found)
one_fault text f g (inr (inl a)) (inr (inl b)) = one_bad (lexed text).tokens f g a.piece b.piece
one_fault text f g (inr (inl a)) (inr (inr b)) = absurd (bad_in_whole (lexed text).tokens a.piece.0 a.piece.1 a.piece.2 b.early.fine)
one_fault text f g (inr (inr a)) (inl b) = absurd (no_both (lexed text).fault b.lex_fault a.tokens b.found)
one_fault text f g (inr (inr a)) (inr (inl b)) = absurd (bad_in_whole (lexed text).tokens b.piece.0 b.piece.1 b.piece.2 a.early.fine)
one_fault text f g (inr (inr a)) (inr (inr b)) = a.named ∙ sym b.named

-- so the answer is the one that there is
pub only_tree : (text : List ℕ) (r : Result Module (Stop SyntaxFault)) (m : Module) → IfOk r (IsTree text) → IfFault r (IsSyntaxFault text) → IsTree text m → Answers r (Ok m)
only_tree text (Ok n) m read refused is = ap (λ x. Ok x) (one_tree text m n is read)
only_tree text (Err Memory) m read refused is = tt
only_tree text (Err (Fault f)) m read refused is = absurd (tree_or_fault text m f is refused)

pub only_fault : (text : List ℕ) (r : Result Module (Stop SyntaxFault)) (f : SyntaxFault) → IfOk r (IsTree text) → IfFault r (IsSyntaxFault text) → IsSyntaxFault text f → Answers r (Err f)
only_fault text (Ok n) f read refused is = absurd (tree_or_fault text n f read is)
only_fault text (Err Memory) f read refused is = tt
only_fault text (Err (Fault g)) f read refused is = ap (λ x. Err x) (one_fault text f g is refused)
