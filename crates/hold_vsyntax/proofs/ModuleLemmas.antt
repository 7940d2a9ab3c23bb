-- What the pieces of the tokens are, where a module was read, and where reading stopped.
use Rattle.std.proofs.Common.{◌≡◌, ◌≢◌, ℕ, List, [], ◌∷◌, ◌++◌, map, refl, sym, ap, subst, true, false, ◌∙◌, inl, inr, append_assoc}
use Rattle.std.specs.Prelude.{Some, None, Result, Err}
use Rattle.std.specs.Result.{IsErrAnd}
use Rattle.std.proofs.lemmas.List.{append-nil, map-append}
use Rattle.std.proofs.lemmas.Result.{err_from_is_err_and}
use Rattle.hold_base.specs.Answers.{IfFault, IfStopFault}
use Rattle.hold_base.specs.declared.stop.Stop.{Stop}
use Rattle.hold_base.specs.declared.stop.Stop.TheVariants.{Memory, Fault}
use Rattle.hold_vlex.specs.Lexed.{Lexeme}
use Rattle.hold_vsyntax.specs.declared.fault.SyntaxFault.{SyntaxFault}
use Rattle.hold_vsyntax.specs.declared.fault.SyntaxFault.TheVariants.{Syntax}
use Rattle.hold_vsyntax.specs.declared.mark.Mark.TheVariants.{EndModule}
use Rattle.hold_vsyntax.specs.declared.tree.Ident.{Ident}
use Rattle.hold_vsyntax.specs.declared.tree.Header.{Header}
use Rattle.hold_vsyntax.specs.declared.tree.Header.TheVariants.{Bare}
use Rattle.hold_vsyntax.specs.declared.tree.Item.{Item}
use Rattle.hold_vsyntax.specs.declared.tree.Module.{Module}
use Rattle.hold_vsyntax.specs.Symbols.{Symbol, symbols, ident}
use Rattle.hold_vsyntax.specs.Pieces.{pieces}
use Rattle.hold_vsyntax.specs.inner.Passing.{first_piece, rest_behind}
use Rattle.hold_vsyntax.specs.Grammar.{header_piece, item_piece, end_piece, pieces_of}
use Rattle.hold_vsyntax.specs.inner.Reading.{begins, opening_at}
use Rattle.hold_vsyntax.specs.Text.{IsModule, IsPieceFault, EndsEarly}
use Rattle.hold_vsyntax.specs.inner.Body.{blamed_at_front, Blames, Stops, IsBody, IsBodyFault}
use Rattle.hold_vsyntax.specs.inner.Whole.{IsModuleFault}
use Rattle.hold_vsyntax.proofs.PieceLaws.{cut_piece, item_not_closing, opening_first}
use Rattle.hold_vsyntax.proofs.StepLemmas.{symbols_cut}
use Rattle.hold_vsyntax.proofs.HeaderLaws.{opening_piece, opening_sound, opening_complete}

abbrev pub module_of : Ident → Header → List Item → Module
module_of name header items = record { name = name; header = header; items = items }

-- a statement isn't the end of the module
pub not_end : (i : Item) → item_piece i ≡ end_piece → ⊥
not_end i h = differ (item_not_closing i []) (ap (λ l. begins EndModule (l ++ [])) h)
  where
    differ : begins EndModule (item_piece i ++ []) ≡ false → begins EndModule (item_piece i ++ []) ≡ true → ⊥
    differ a b = cc

-- the end of the module is no statement's piece
ends_among : (xs ys : List Item) → map item_piece xs ++ end_piece ∷ [] ≡ map item_piece ys → ⊥
ends_among [] [] h = cc
ends_among [] (y ∷ ys) h = not_end y (let first : item_piece y ≡ end_piece = cc in first)
ends_among (x ∷ xs) [] h = cc
ends_among (x ∷ xs) (y ∷ ys) h = ends_among xs ys (let rest : map item_piece xs ++ end_piece ∷ [] ≡ map item_piece ys = cc in rest)

-- what stands behind statements is a statement or the end
next_stands : (xs ys : List Item) (s : List Symbol) (more : List (List Symbol)) → map item_piece xs ++ end_piece ∷ [] ≡ map item_piece ys ++ s ∷ more
    → (s ≡ end_piece → ⊥) → ((i : Item) → s ≡ item_piece i → ⊥) → ⊥
next_stands [] [] s more h no_end no_item = no_end (let first : s ≡ end_piece = cc in first)
next_stands [] (y ∷ ys) s more h no_end no_item = not_end y (let first : item_piece y ≡ end_piece = cc in first)
next_stands (x ∷ xs) [] s more h no_end no_item = no_item x (let first : s ≡ item_piece x = cc in first)
next_stands (x ∷ xs) (y ∷ ys) s more h no_end no_item =
    next_stands xs ys s more (let rest : map item_piece xs ++ end_piece ∷ [] ≡ map item_piece ys ++ s ∷ more = cc in rest) no_end no_item

-- nothing stands behind the end
nothing_behind : (xs ys : List Item) (s : List Symbol) (more : List (List Symbol)) → map item_piece xs ++ end_piece ∷ [] ≡ map item_piece ys ++ end_piece ∷ s ∷ more → ⊥
nothing_behind [] [] s more h = let none : [] ≡ s ∷ more = cc in empty none
  where
    empty : [] ≡ s ∷ more → ⊥
    empty e = cc
nothing_behind [] (y ∷ ys) s more h = not_end y (let first : item_piece y ≡ end_piece = cc in first)
nothing_behind (x ∷ xs) [] s more h = not_end x (let first : item_piece x ≡ end_piece = cc in first)
nothing_behind (x ∷ xs) (y ∷ ys) s more h =
    nothing_behind xs ys s more (let rest : map item_piece xs ++ end_piece ∷ [] ≡ map item_piece ys ++ end_piece ∷ s ∷ more = cc in rest)

-- where the tokens don't open a module
opening_bad : (ts : List Lexeme) (fault : SyntaxFault) → ts ≢ [] → opening_at (symbols ts) ≡ None → fault ≡ blamed_at_front ts → IsPieceFault ts fault
opening_bad [] fault some none is = absurd (some refl)
opening_bad (t ∷ ts) fault some none is = (
  [],
  first_piece (t ∷ ts),
  record {
    rest = pieces (rest_behind (t ∷ ts));
    cut = cut_piece t ts;
    fine = (module_of (ident [] 0) Bare [], pieces_of (module_of (ident [] 0) Bare []), refl);
    stuck = λ stands. opens stands.0 (let first : header_piece stands.0 ≡ symbols (first_piece (t ∷ ts)) = let e = stands.2 in cc in first);
  },
  is,
)
  where
    never : (m : Module) → opening_at (symbols (t ∷ ts)) ≡ Some ((m.name, m.header), symbols (rest_behind (t ∷ ts))) → ⊥
    never m h = cc

    opens : (m : Module) → header_piece m ≡ symbols (first_piece (t ∷ ts)) → ⊥
    opens m h = never m (ap opening_at (symbols_cut (t ∷ ts) (opening_piece m.name m.header) (sym h)) ∙ opening_complete m.name m.header (symbols (rest_behind (t ∷ ts))))

no_tokens : EndsEarly []
no_tokens = record {
  fine = (module_of (ident [] 0) Bare [], pieces_of (module_of (ident [] 0) Bare []), refl);
  open_end = λ m h. cc;
}

pub opening_stops : (ts : List Lexeme) (end : ℕ) (stop : Stop SyntaxFault) → ts ≢ [] → opening_at (symbols ts) ≡ None → Blames stop (blamed_at_front ts)
    → IfStopFault stop (IsModuleFault ts end)
opening_stops ts end Memory some none h = tt
opening_stops ts end (Fault f) some none h = inl (opening_bad ts f some none h)

pub nothing_stops : (ts : List Lexeme) (end : ℕ) → ts ≡ [] → IsModuleFault ts end (Syntax end)
nothing_stops [] end is = inr (no_tokens, refl)
nothing_stops (t ∷ ts) end is = cc

joined : (done : List (List Lexeme)) (b : List Lexeme) (more : List (List Symbol)) → map symbols (done ++ b ∷ []) ++ more ≡ map symbols done ++ symbols b ∷ more
joined done b more = ap (λ l. l ++ more) (map-append symbols done (b ∷ [])) ∙ append_assoc (map symbols done) (symbols b ∷ []) more

-- where the first piece opens a module
module _ (ts : List Lexeme) (name : Ident) (header : Header) (first : List Lexeme) (new : List Lexeme)
    (cut : pieces ts ≡ first ∷ pieces new) (opens : symbols first ≡ opening_piece name header) where
  pub whole : (items : List Item) → IsBody (pieces new) items → IsModule ts (module_of name header items)
  whole items body = ap (map symbols) cut ∙ ap (λ l. l ∷ map symbols (pieces new)) opens ∙ ap (λ l. opening_piece name header ∷ l) body.written

  -- the pieces of which so many statements are read
  stands : (items : List Item) (done : List (List Lexeme)) (more : List (List Symbol)) (tail : List (List Symbol))
      → map symbols done ≡ map item_piece items ++ tail → tail ++ more ≡ end_piece ∷ []
      → pieces_of (module_of name header items) ≡ map symbols (first ∷ done) ++ more
  stands items done more tail written rest =
      ap (λ l. opening_piece name header ∷ (map item_piece items ++ l)) (sym rest)
      ∙ ap (λ l. opening_piece name header ∷ l) (sym (append_assoc (map item_piece items) tail more) ∙ ap (λ l. l ++ more) (sym written))
      ∙ ap (λ l. l ∷ (map symbols done ++ more)) (sym opens)

  pub body_fault : (items : List Item) (done left : List (List Lexeme)) (end : ℕ) (fault : SyntaxFault)
      → pieces new ≡ done ++ left → map symbols done ≡ map item_piece items → Stops left end fault → IsModuleFault ts end fault
  body_fault items done [] end fault split written stops =
      inr (
        record {
          fine = (
            module_of name header items,
            end_piece ∷ [],
            stands items done (end_piece ∷ []) [] (written ∙ sym (append-nil (map item_piece items))) refl
                ∙ ap (λ l. map symbols l ++ end_piece ∷ []) (sym (cut ∙ ap (λ l. first ∷ l) (split ∙ append-nil done))),
          );
          open_end = λ m h. early m (sym (ap (map symbols) (cut ∙ ap (λ l. first ∷ l) (split ∙ append-nil done))) ∙ h);
        },
        stops,
      )
    where
      early : (m : Module) → map symbols (first ∷ done) ≡ pieces_of m → ⊥
      early m h = ends_among m.items items (let rest : map item_piece m.items ++ end_piece ∷ [] ≡ map symbols done = cc in rest ∙ written)
  body_fault items done (bad ∷ ps) end fault split written (inl is_bad) =
      inl (
        first ∷ done,
        bad,
        record {
          rest = ps;
          cut = cut ∙ ap (λ l. first ∷ l) split;
          fine = (module_of name header items, end_piece ∷ [], stands items done (end_piece ∷ []) [] (written ∙ sym (append-nil (map item_piece items))) refl);
          stuck = λ s. never s.0 s.1 s.2;
        },
        is_bad.named,
      )
    where
      never : (m : Module) (more : List (List Symbol)) → pieces_of m ≡ map symbols (first ∷ (done ++ bad ∷ [])) ++ more → ⊥
      never m more h =
          let rest : map item_piece m.items ++ end_piece ∷ [] ≡ map symbols (done ++ bad ∷ []) ++ more = cc in
          next_stands m.items items (symbols bad) more
          (rest ∙ joined done bad more ∙ ap (λ l. l ++ symbols bad ∷ more) written) is_bad.no_end is_bad.no_statement
  body_fault items done (bad ∷ []) end fault split written (inr e) = absurd e.1
  body_fault items done (bad ∷ next ∷ ps) end fault split written (inr e) =
      inl (
        first ∷ (done ++ bad ∷ []),
        next,
        record {
          rest = ps;
          cut = cut ∙ ap (λ l. first ∷ l) (split ∙ sym (append_assoc done (bad ∷ []) (next ∷ ps)));
          fine = (
            module_of name header items,
            [],
            stands items (done ++ bad ∷ []) [] (end_piece ∷ [])
                (map-append symbols done (bad ∷ []) ∙ ap (λ l. l ++ symbols bad ∷ []) written ∙ ap (λ x. map item_piece items ++ x ∷ []) e.0) refl,
          );
          stuck = λ s. never s.0 s.1 s.2;
        },
        e.1,
      )
    where
      never : (m : Module) (more : List (List Symbol)) → pieces_of m ≡ map symbols (first ∷ ((done ++ bad ∷ []) ++ next ∷ [])) ++ more → ⊥
      never m more h =
          let rest : map item_piece m.items ++ end_piece ∷ [] ≡ map symbols ((done ++ bad ∷ []) ++ next ∷ []) ++ more = cc in
          nothing_behind m.items items (symbols next) more
          (rest ∙ joined (done ++ bad ∷ []) next more ∙ joined done bad (symbols next ∷ more)
          ∙ ap (λ l. l ++ symbols bad ∷ symbols next ∷ more) written ∙ ap (λ x. map item_piece items ++ x ∷ symbols next ∷ more) e.0)

-- a module that is read whole
pub module_read : (ts ahead new : List Lexeme) (name : Ident) (header : Header) (rest : List Symbol) (items : List Item)
    → ahead ≡ ts → opening_at (symbols ahead) ≡ Some ((name, header), rest) → new ≡ rest_behind ts → IsBody (pieces new) items
    → IsModule ts (module_of name header items)
module_read [] ahead new name header rest items same read passed body =
    absurd (empty (opening_sound [] name header rest (ap (λ l. opening_at (symbols l)) (sym same) ∙ read)))
  where
    empty : [] ≡ opening_piece name header ++ rest → ⊥
    empty h = cc
module_read (t ∷ ts) ahead new name header rest items same read passed body =
    whole (t ∷ ts) name header (first_piece (t ∷ ts)) new
    (cut_piece t ts ∙ ap (λ l. first_piece (t ∷ ts) ∷ pieces l) (sym passed))
    (opening_first (t ∷ ts) name header rest (opening_sound (symbols (t ∷ ts)) name header rest (ap (λ l. opening_at (symbols l)) (sym same) ∙ read)))
    items body

-- a module whose body stops
body_stopped : (ts ahead new : List Lexeme) (name : Ident) (header : Header) (rest : List Symbol) (end : ℕ) (fault : SyntaxFault)
    → ahead ≡ ts → opening_at (symbols ahead) ≡ Some ((name, header), rest) → new ≡ rest_behind ts → IsBodyFault (pieces new) end fault
    → IsModuleFault ts end fault
body_stopped [] ahead new name header rest end fault same read passed stops =
    absurd (empty (opening_sound [] name header rest (ap (λ l. opening_at (symbols l)) (sym same) ∙ read)))
  where
    empty : [] ≡ opening_piece name header ++ rest → ⊥
    empty h = cc
body_stopped (t ∷ ts) ahead new name header rest end fault same read passed stops =
    body_fault (t ∷ ts) name header (first_piece (t ∷ ts)) new
    (cut_piece t ts ∙ ap (λ l. first_piece (t ∷ ts) ∷ pieces l) (sym passed))
    (opening_first (t ∷ ts) name header rest (opening_sound (symbols (t ∷ ts)) name header rest (ap (λ l. opening_at (symbols l)) (sym same) ∙ read)))
    stops.items stops.read.done stops.left end fault stops.read.cut stops.read.written stops.stops

-- what is passed on
passed_on : {X : Type 0} (r : Result X (Stop SyntaxFault)) (e : Stop SyntaxFault) (P Q : SyntaxFault → Type 0) → IsErrAnd r (λ y. y ≡ e)
    → IfStopFault e P → ((f : SyntaxFault) → P f → Q f) → IfFault r Q
passed_on {X} r e P Q is h imply =
    let p = err_from_is_err_and r is in
    subst (λ (z : Result X (Stop SyntaxFault)). IfFault z Q) (sym (p.1 ∙ ap (λ z. Err z) p.2)) (by e h)
  where
    by : (s : Stop SyntaxFault) → IfStopFault s P → IfStopFault s Q
    by Memory k = tt
    by (Fault f) k = imply f k

pub module_stopped : (r : Result Module (Stop SyntaxFault)) (e : Stop SyntaxFault) (ts ahead new : List Lexeme) (name : Ident) (header : Header) (rest : List Symbol) (end : ℕ)
    → IsErrAnd r (λ y. y ≡ e) → IfStopFault e (IsBodyFault (pieces new) end) → ahead ≡ ts → opening_at (symbols ahead) ≡ Some ((name, header), rest) → new ≡ rest_behind ts
    → IfFault r (IsModuleFault ts end)
module_stopped r e ts ahead new name header rest end is stops same read passed =
    passed_on r e (IsBodyFault (pieces new) end) (IsModuleFault ts end) is stops
    (λ f h. body_stopped ts ahead new name header rest end f same read passed h)
