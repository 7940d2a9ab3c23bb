-- Tokens whose symbols are those of a module, in a row, are cut into the module's pieces.
--
-- items_symbols items: the symbols of the statements' pieces, in a row. module_symbols m: those of all pieces of a
--   module.
use Rattle.std.proofs.Common.{◌≡◌, List, [], ◌∷◌, ◌++◌, map, sym, ◌∙◌, ap}
use Rattle.std.specs.Prelude.{flat_map}
use Rattle.std.proofs.lemmas.List.{append_assoc, append_cancel_left}
use Rattle.hold_vlex.specs.Lexed.{Lexeme}
use Rattle.hold_vsyntax.specs.declared.mark.Mark.TheVariants.{EndModule, Semicolon}
use Rattle.hold_vsyntax.specs.declared.tree.Item.{Item}
use Rattle.hold_vsyntax.specs.declared.tree.Module.{Module}
use Rattle.hold_vsyntax.specs.Symbols.{Symbol, Marked, symbol, symbols}
use Rattle.hold_vsyntax.specs.Pieces.{is_piece, pieces}
use Rattle.hold_vsyntax.specs.inner.Passing.{first_piece, rest_behind}
use Rattle.hold_vsyntax.specs.Grammar.{header_piece, item_symbols, item_piece, end_piece}
use Rattle.hold_vsyntax.specs.Text.{IsModule}
use Rattle.hold_vsyntax.proofs.PieceLaws.{cut_piece, item_first, opening_first}
use Rattle.hold_vsyntax.proofs.StepLemmas.{not_empty, symbols_cut}

abbrev pub items_symbols : List Item → List Symbol
items_symbols items = flat_map item_piece items

abbrev pub module_symbols : Module → List Symbol
module_symbols m = header_piece m ++ (items_symbols m.items ++ end_piece)

-- behind the first piece is the rest
behind_first : (ts : List Lexeme) (piece rest : List Symbol) → symbols ts ≡ piece ++ rest → symbols (first_piece ts) ≡ piece → symbols (rest_behind ts) ≡ rest
behind_first ts piece rest e first = append_cancel_left piece (symbols (rest_behind ts)) rest (sym (symbols_cut ts piece first) ∙ e)

items_pieces : (items : List Item) (ts : List Lexeme) → symbols ts ≡ items_symbols items ++ end_piece → map symbols (pieces ts) ≡ map item_piece items ++ end_piece ∷ []
items_pieces [] [] e = absurd cc
items_pieces [] (t ∷ []) e = let closes : symbol t ≡ Marked EndModule = cc in rw (ap is_piece closes) (ap (λ (s : Symbol). (s ∷ []) ∷ []) closes)
items_pieces [] (t ∷ u ∷ ts) e = absurd cc
items_pieces (i ∷ is) [] e = absurd (not_empty (item_symbols i) (Marked Semicolon) (items_symbols is ++ end_piece) (e ∙ append_assoc (item_piece i) (items_symbols is) end_piece))
items_pieces (i ∷ is) (t ∷ ts) e =
    let rest : List Symbol = items_symbols is ++ end_piece in
    let split : symbols (t ∷ ts) ≡ item_piece i ++ rest = e ∙ append_assoc (item_piece i) (items_symbols is) end_piece in
    let first = item_first (t ∷ ts) i rest split in
    ap (map symbols) (cut_piece t ts)
    ∙ ap (λ (p : List Symbol). p ∷ map symbols (pieces (rest_behind (t ∷ ts)))) first
    ∙ ap (λ (ps : List (List Symbol)). item_piece i ∷ ps) (items_pieces is (rest_behind (t ∷ ts)) (behind_first (t ∷ ts) (item_piece i) rest split first))

pub module_pieces : (m : Module) (ts : List Lexeme) → symbols ts ≡ module_symbols m → IsModule ts m
module_pieces m [] e = absurd cc
module_pieces m (t ∷ ts) e =
    let rest : List Symbol = items_symbols m.items ++ end_piece in
    let first = opening_first (t ∷ ts) m.name m.header rest e in
    ap (map symbols) (cut_piece t ts)
    ∙ ap (λ (p : List Symbol). p ∷ map symbols (pieces (rest_behind (t ∷ ts)))) first
    ∙ ap (λ (ps : List (List Symbol)). header_piece m ∷ ps) (items_pieces m.items (rest_behind (t ∷ ts)) (behind_first (t ∷ ts) (header_piece m) rest e first))
