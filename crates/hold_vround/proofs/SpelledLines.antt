-- How the lines of a netlist's text are read, each as one piece.
use Rattle.std.proofs.Common.{◌≡◌, ℕ, ◌+◌, false, List, [], ◌∷◌, ◌++◌, length, map, refl, sym, ◌∙◌, ap, subst, arith}
use Rattle.std.specs.Prelude.{codes}
use Rattle.std.specs.List.{AllByRecursion}
use Rattle.std.proofs.lemmas.List.{append_assoc, append-nil}
use Rattle.hold_netlist.specs.declared.wire.Direction.{Direction}
use Rattle.hold_netlist.specs.declared.wire.Direction.TheVariants.{Input as InputPort, Output as OutputPort}
use Rattle.hold_netlist.specs.declared.wire.Port.{Port}
use Rattle.hold_netlist.specs.declared.wire.Wire.{Wire}
use Rattle.hold_netlist.specs.declared.inst.Pin.{Pin}
use Rattle.hold_netlist.specs.declared.inst.Inst.{Inst}
use Rattle.hold_netlist.specs.declared.inst.Assign.{Assign}
use Rattle.hold_netlist.specs.Bits.{bits_of}
use Rattle.hold_base.specs.NameBytes.{IsName}
use Rattle.hold_netlist.specs.Names.{port_names}
use Rattle.hold_netlist.specs.Keywords.{keywords}
use Rattle.hold_netlist.specs.WellFormed.{HasBoundsInLimit, IsWrittenWire, IsWrittenPin, IsWrittenInst, IsWrittenAssign}
use Rattle.hold_netlist.specs.CanonicalText.{spelled, joined, range_text, direction_text, bit_text, source_text, port_line, wire_line, assign_line, connection_text, inst_line, module_line}
use Rattle.hold_text.specs.Blanks.{heads, star}
use Rattle.hold_vsyntax.specs.declared.mark.Mark.TheVariants.{Module as TheModule, EndModule, Input, Output, Wire as TheWire, Assign as TheAssign, Comma, Semicolon, Equals, LeftParenthesis, RightParenthesis}
use Rattle.hold_vsyntax.specs.Symbols.{Symbol, Marked, Named, ident, word_mark, word_symbol}
use Rattle.hold_vsyntax.specs.Grammar.{listed, name_symbols, range_symbols, direction_mark, part_symbols, right_symbols, connection_symbols, header_symbols, item_piece}
use Rattle.hold_vround.proofs.CanonicalTree.{range_of, bit_part, right_of, names_at, port_item, wire_item, assign_item, connection_at, connections_at, inst_item, header_at}
use Rattle.hold_vround.proofs.Spells.{Spells, Spells-nil, Spells-as, join}
use Rattle.hold_vround.proofs.SpelledTokens.{Breaks, Spells-blank, Spells-newline, Spells-spelled, Spells-keyword, Spells-comma, Spells-semicolon, Spells-dot, Spells-equals, Spells-left_parenthesis, Spells-right_parenthesis}
use Rattle.hold_vround.proofs.SpelledBits.{Spells-text, Spells-range, Spells-bit, Spells-tied, Spells-right, heads-spelled, heads-source}

-- texts in a row, grouped from the right
module _ {X : Type 0} where
  pub grouped_4 : (a b c d : List X) → a ++ b ++ c ++ d ≡ a ++ (b ++ (c ++ d))
  grouped_4 a b c d = append_assoc (a ++ b) c d ∙ append_assoc a b (c ++ d)

  grouped_5 : (a b c d e : List X) → a ++ b ++ c ++ d ++ e ≡ a ++ (b ++ (c ++ (d ++ e)))
  grouped_5 a b c d e = append_assoc (a ++ b ++ c) d e ∙ grouped_4 a b c (d ++ e)

  pub grouped_6 : (a b c d e f : List X) → a ++ b ++ c ++ d ++ e ++ f ≡ a ++ (b ++ (c ++ (d ++ (e ++ f))))
  grouped_6 a b c d e f = append_assoc (a ++ b ++ c ++ d) e f ∙ grouped_5 a b c d (e ++ f)

  grouped_7 : (a b c d e f g : List X) → a ++ b ++ c ++ d ++ e ++ f ++ g ≡ a ++ (b ++ (c ++ (d ++ (e ++ (f ++ g)))))
  grouped_7 a b c d e f g = append_assoc (a ++ b ++ c ++ d ++ e) f g ∙ grouped_6 a b c d e (f ++ g)

-- a name whose place is written otherwise
Spells-name : (at place : ℕ) (name rest : List ℕ) → place ≡ at → IsName name → Breaks rest → Spells at (spelled name) rest (Named (ident name place) ∷ [])
Spells-name at place name rest e h stop = subst (λ (n : ℕ). Spells at (spelled name) rest (Named (ident name n) ∷ [])) (sym e) (Spells-spelled at name rest h stop)

Spells-indent : (at : ℕ) (rest : List ℕ) → Spells at (codes "  ") rest []
Spells-indent at rest = join at _ (codes " ") (codes " ") rest _ _ refl (Spells-blank at _) (Spells-blank _ rest)

Spells-comma_blank : (at : ℕ) (rest : List ℕ) → Spells at (codes ", ") rest (Marked Comma ∷ [])
Spells-comma_blank at rest = join at _ (codes ",") (codes " ") rest _ _ refl (Spells-comma at _) (Spells-blank _ rest)

Spells-equals_between : (at : ℕ) (rest : List ℕ) → Spells at (codes " = ") rest (Marked Equals ∷ [])
Spells-equals_between at rest = join at _ (codes " ") (codes "= ") rest _ _ refl (Spells-blank at _) (join _ _ (codes "=") (codes " ") rest _ _ refl (Spells-equals _ _) (Spells-blank _ rest))

Spells-end : (at : ℕ) (rest : List ℕ) → Spells at (codes ";\n") rest (Marked Semicolon ∷ [])
Spells-end at rest = join at _ (codes ";") (codes "\n") rest _ _ refl (Spells-semicolon at _) (Spells-newline _ rest)

Spells-list_end : (at : ℕ) (rest : List ℕ) → Spells at (codes ");\n") rest (Marked RightParenthesis ∷ Marked Semicolon ∷ [])
Spells-list_end at rest = join at _ (codes ")") (codes ";\n") rest _ _ refl (Spells-right_parenthesis at _) (Spells-end _ rest)

Spells-module_word : (at : ℕ) (rest : List ℕ) → Spells at (codes "module ") rest (Marked TheModule ∷ [])
unfolding word_symbol word_mark keywords
Spells-module_word at rest = join at _ (codes "module") (codes " ") rest _ _ refl (Spells-keyword at (codes "module") _ TheModule refl refl refl) (Spells-blank _ rest)

Spells-wire_word : (at : ℕ) (rest : List ℕ) → Spells at (codes "wire ") rest (Marked TheWire ∷ [])
unfolding word_symbol word_mark keywords
Spells-wire_word at rest = join at _ (codes "wire") (codes " ") rest _ _ refl (Spells-keyword at (codes "wire") _ TheWire refl refl refl) (Spells-blank _ rest)

Spells-assign_word : (at : ℕ) (rest : List ℕ) → Spells at (codes "assign ") rest (Marked TheAssign ∷ [])
unfolding word_symbol word_mark keywords
Spells-assign_word at rest = join at _ (codes "assign") (codes " ") rest _ _ refl (Spells-keyword at (codes "assign") _ TheAssign refl refl refl) (Spells-blank _ rest)

Spells-direction : (at : ℕ) (d : Direction) (rest : List ℕ) → Spells at (direction_text d) rest (Marked (direction_mark d) ∷ [])
unfolding word_symbol word_mark keywords
Spells-direction at InputPort rest = join at _ (codes "input") (codes " ") rest _ _ refl (Spells-keyword at (codes "input") _ Input refl refl refl) (Spells-blank _ rest)
Spells-direction at OutputPort rest = join at _ (codes "output") (codes " ") rest _ _ refl (Spells-keyword at (codes "output") _ Output refl refl refl) (Spells-blank _ rest)

pub Spells-end_line : (at : ℕ) (rest : List ℕ) → Spells at (codes "endmodule\n") rest (Marked EndModule ∷ [])
unfolding word_symbol word_mark keywords
Spells-end_line at rest = join at _ (codes "endmodule") (codes "\n") rest _ _ refl (Spells-keyword at (codes "endmodule") _ EndModule refl refl refl) (Spells-newline _ rest)

-- names with a comma between each and the next
Spells-names : (at : ℕ) (names : List (List ℕ)) (rest : List ℕ) → AllByRecursion IsName names → Breaks rest → Spells at (joined (map spelled names)) rest (listed name_symbols (names_at at names))
Spells-names at [] rest h stop = Spells-nil at rest
Spells-names at (n ∷ []) rest h stop = Spells-spelled at n rest h.0 stop
Spells-names at (n ∷ m ∷ ns) rest h stop =
    let more : List ℕ = joined (map spelled (m ∷ ns)) in
    Spells-text at (joined (map spelled (n ∷ m ∷ ns))) (spelled n ++ (codes ", " ++ more)) rest _ (append_assoc (spelled n) (codes ", ") more)
    (join at _ (spelled n) (codes ", " ++ more) rest _ _ refl (Spells-spelled at n _ h.0 refl)
    (join _ (at + (length (spelled n) + 2)) (codes ", ") more rest _ _ (omega arith) (Spells-comma_blank _ _)
    (Spells-names (at + (length (spelled n) + 2)) (m ∷ ns) rest h.1 stop)))

pub Spells-port_line : (at : ℕ) (p : Port) (w : Wire) (rest : List ℕ) → IsName p.name → HasBoundsInLimit w.range → Spells at (port_line p w) rest (item_piece (port_item at p w))
Spells-port_line at p w rest name bounds =
    let end : List ℕ = codes ";\n" in
    let named : List ℕ = spelled p.name ++ end in
    let ranged : List ℕ = range_text w.range ++ named in
    let directed : List ℕ = direction_text p.direction ++ ranged in
    Spells-text at (port_line p w) (codes "  " ++ directed) rest _ (grouped_5 (codes "  ") (direction_text p.direction) (range_text w.range) (spelled p.name) end)
    (Spells-as at _ rest _ _ (ap (λ (l : List Symbol). Marked (direction_mark p.direction) ∷ l) (sym (append_assoc (range_symbols (range_of w.range)) (Named (ident p.name _) ∷ []) (Marked Semicolon ∷ []))))
    (join at _ (codes "  ") directed rest _ _ refl (Spells-indent at _)
    (join _ _ (direction_text p.direction) ranged rest _ _ refl (Spells-direction _ p.direction _)
    (join _ _ (range_text w.range) named rest _ _ refl (Spells-range _ w.range _ bounds)
    (join _ _ (spelled p.name) end rest _ _ refl
    (Spells-name _ (at + (2 + (length (direction_text p.direction) + length (range_text w.range)))) p.name _ (omega arith) name refl)
    (Spells-end _ rest))))))

pub Spells-wire_line : (at : ℕ) (w : Wire) (rest : List ℕ) → IsWrittenWire w → Spells at (wire_line w) rest (item_piece (wire_item at w))
Spells-wire_line at w rest h =
    let end : List ℕ = codes ";\n" in
    let named : List ℕ = spelled w.name ++ end in
    let ranged : List ℕ = range_text w.range ++ named in
    Spells-text at (wire_line w) (codes "  " ++ (codes "wire " ++ ranged)) rest _ (grouped_4 (codes "  wire ") (range_text w.range) (spelled w.name) end)
    (Spells-as at _ rest _ _ (ap (λ (l : List Symbol). Marked TheWire ∷ l) (sym (append_assoc (range_symbols (range_of w.range)) (Named (ident w.name _) ∷ []) (Marked Semicolon ∷ []))))
    (join at _ (codes "  ") (codes "wire " ++ ranged) rest _ _ refl (Spells-indent at _)
    (join _ _ (codes "wire ") ranged rest _ _ refl (Spells-wire_word _ _)
    (join _ _ (range_text w.range) named rest _ _ refl (Spells-range _ w.range _ h.bounds)
    (join _ _ (spelled w.name) end rest _ _ refl
    (Spells-name _ (at + (7 + length (range_text w.range))) w.name _ (omega arith) h.name refl)
    (Spells-end _ rest))))))

assign-symbols : (left right : List Symbol) → Marked TheAssign ∷ (left ++ (Marked Equals ∷ (right ++ Marked Semicolon ∷ []))) ≡ Marked TheAssign ∷ (left ++ (Marked Equals ∷ right) ++ [] ++ Marked Semicolon ∷ [])
assign-symbols left right =
    ap (λ (l : List Symbol). Marked TheAssign ∷ l)
    (sym (append_assoc left (Marked Equals ∷ right) (Marked Semicolon ∷ []))
    ∙ ap (λ (l : List Symbol). l ++ Marked Semicolon ∷ []) (sym (append-nil (left ++ (Marked Equals ∷ right)))))

pub Spells-assign_line : (at : ℕ) (wires : List Wire) (a : Assign) (rest : List ℕ) → AllByRecursion IsWrittenWire wires → IsWrittenAssign (bits_of wires) a → Spells at (assign_line wires a) rest (item_piece (assign_item at wires a))
Spells-assign_line at wires a rest written h =
    let left : List ℕ = bit_text wires a.left.0 in
    let right : List ℕ = source_text wires a.right in
    let end : List ℕ = codes ";\n" in
    let place : ℕ = at + (9 + (length left + 3)) in
    let from_right : List ℕ = right ++ end in
    let from_equals : List ℕ = codes " = " ++ from_right in
    let from_left : List ℕ = left ++ from_equals in
    Spells-text at (assign_line wires a) (codes "  " ++ (codes "assign " ++ from_left)) rest _ (grouped_5 (codes "  assign ") left (codes " = ") right end)
    (Spells-as at _ rest _ _ (assign-symbols (part_symbols (bit_part (at + 9) wires a.left.0)) (right_symbols (right_of place wires a.right)))
    (join at _ (codes "  ") (codes "assign " ++ from_left) rest _ _ refl (Spells-indent at _)
    (join _ (at + 9) (codes "assign ") from_left rest _ _ (omega arith) (Spells-assign_word _ _)
    (join _ _ left from_equals rest _ _ refl (Spells-bit (at + 9) wires a.left.0 _ written h.left refl)
    (join _ place (codes " = ") from_right rest _ _ (omega arith) (Spells-equals_between _ _)
    (join _ _ right end rest _ _ refl (Spells-right place wires a.right _ written h.right h.tied refl)
    (Spells-end _ rest)))))))

Spells-connection : (at : ℕ) (wires : List Wire) (p : Pin) (rest : List ℕ) → AllByRecursion IsWrittenWire wires → IsWrittenPin (bits_of wires) p → Spells at (connection_text wires p) rest (connection_symbols (connection_at at wires p))
Spells-connection at wires p rest written h =
    let end : List ℕ = codes ")" in
    let source : List ℕ = source_text wires p.source in
    let place : ℕ = at + (1 + (length (spelled p.name) + 1)) in
    let from_source : List ℕ = source ++ end in
    let from_parenthesis : List ℕ = codes "(" ++ from_source in
    let from_name : List ℕ = spelled p.name ++ from_parenthesis in
    let no_star : heads star (from_source ++ rest) ≡ false = ap (heads star) (append_assoc source end rest) ∙ heads-source wires p.source (end ++ rest) written refl in
    Spells-text at (connection_text wires p) (codes "." ++ from_name) rest _ (grouped_5 (codes ".") (spelled p.name) (codes "(") source end)
    (join at _ (codes ".") from_name rest _ _ refl (Spells-dot at _)
    (join _ _ (spelled p.name) from_parenthesis rest _ _ refl (Spells-name _ (at + 1) p.name _ refl h.name refl)
    (join _ place (codes "(") from_source rest _ _ (omega arith) (Spells-left_parenthesis _ _ no_star)
    (join _ _ source end rest _ _ refl (Spells-tied place wires p.source _ written h.source refl)
    (Spells-right_parenthesis _ rest)))))

-- connections with a comma between each and the next
Spells-connections : (at : ℕ) (wires : List Wire) (pins : List Pin) (rest : List ℕ) → AllByRecursion IsWrittenWire wires → AllByRecursion (IsWrittenPin (bits_of wires)) pins → Spells at (joined (map (connection_text wires) pins)) rest (listed connection_symbols (connections_at at wires pins))
Spells-connections at wires [] rest written h = Spells-nil at rest
Spells-connections at wires (p ∷ []) rest written h =
    Spells-as at _ rest _ _ (sym (append-nil (connection_symbols (connection_at at wires p)))) (Spells-connection at wires p rest written h.0)
Spells-connections at wires (p ∷ q ∷ ps) rest written h =
    let more : List ℕ = joined (map (connection_text wires) (q ∷ ps)) in
    let place : ℕ = at + (length (connection_text wires p) + 2) in
    Spells-text at (joined (map (connection_text wires) (p ∷ q ∷ ps))) (connection_text wires p ++ (codes ", " ++ more)) rest _ (append_assoc (connection_text wires p) (codes ", ") more)
    (join at _ (connection_text wires p) (codes ", " ++ more) rest _ _ refl (Spells-connection at wires p _ written h.0)
    (join _ place (codes ", ") more rest _ _ (omega arith) (Spells-comma_blank _ _)
    (Spells-connections place wires (q ∷ ps) rest written h.1)))

-- no star begins them
heads-connections : (wires : List Wire) (pins : List Pin) (rest : List ℕ) → heads star (joined (map (connection_text wires) pins) ++ (codes ");\n" ++ rest)) ≡ false
heads-connections wires [] rest = refl
heads-connections wires (p ∷ []) rest = refl
heads-connections wires (p ∷ q ∷ ps) rest = refl

inst-symbols : (kind name : Symbol) (pins : List Symbol) → kind ∷ name ∷ Marked LeftParenthesis ∷ (pins ++ Marked RightParenthesis ∷ Marked Semicolon ∷ []) ≡ kind ∷ name ∷ Marked LeftParenthesis ∷ (pins ++ Marked RightParenthesis ∷ [] ++ [] ++ Marked Semicolon ∷ [])
inst-symbols kind name pins =
    ap (λ (l : List Symbol). kind ∷ name ∷ Marked LeftParenthesis ∷ l)
    (sym (append_assoc pins (Marked RightParenthesis ∷ []) (Marked Semicolon ∷ []))
    ∙ ap (λ (l : List Symbol). l ++ Marked Semicolon ∷ []) (sym (append-nil (pins ++ Marked RightParenthesis ∷ []))))

pub Spells-inst_line : (at : ℕ) (wires : List Wire) (i : Inst) (rest : List ℕ) → AllByRecursion IsWrittenWire wires → IsWrittenInst (bits_of wires) i → Spells at (inst_line wires i) rest (item_piece (inst_item at wires i))
Spells-inst_line at wires i rest written h =
    let end : List ℕ = codes ");\n" in
    let pins : List ℕ = joined (map (connection_text wires) i.pins) in
    let place : ℕ = at + (2 + (length (spelled i.kind) + (1 + (length (spelled i.name) + 1)))) in
    let from_pins : List ℕ = pins ++ end in
    let from_parenthesis : List ℕ = codes "(" ++ from_pins in
    let from_name : List ℕ = spelled i.name ++ from_parenthesis in
    let from_blank : List ℕ = codes " " ++ from_name in
    let from_kind : List ℕ = spelled i.kind ++ from_blank in
    let no_star : heads star (from_pins ++ rest) ≡ false = ap (heads star) (append_assoc pins end rest) ∙ heads-connections wires i.pins rest in
    Spells-text at (inst_line wires i) (codes "  " ++ from_kind) rest _ (grouped_7 (codes "  ") (spelled i.kind) (codes " ") (spelled i.name) (codes "(") pins end)
    (Spells-as at _ rest _ _ (inst-symbols (Named (ident i.kind _)) (Named (ident i.name _)) (listed connection_symbols (connections_at place wires i.pins)))
    (join at _ (codes "  ") from_kind rest _ _ refl (Spells-indent at _)
    (join _ _ (spelled i.kind) from_blank rest _ _ refl (Spells-name _ (at + 2) i.kind _ refl h.kind refl)
    (join _ _ (codes " ") from_name rest _ _ refl (Spells-blank _ _)
    (join _ _ (spelled i.name) from_parenthesis rest _ _ refl (Spells-name _ (at + (2 + (length (spelled i.kind) + 1))) i.name _ (omega arith) h.name refl)
    (join _ place (codes "(") from_pins rest _ _ (omega arith) (Spells-left_parenthesis _ _ no_star)
    (join _ _ pins end rest _ _ refl (Spells-connections place wires i.pins _ written h.pins)
    (Spells-list_end _ rest))))))))

heads-names : (names : List (List ℕ)) (rest : List ℕ) → AllByRecursion IsName names → heads star (joined (map spelled names) ++ (codes ");\n" ++ rest)) ≡ false
heads-names [] rest h = refl
heads-names (n ∷ []) rest h = heads-spelled n (codes ");\n" ++ rest) h.0
heads-names (n ∷ m ∷ ns) rest h =
    let more : List ℕ = joined (map spelled (m ∷ ns)) in
    ap (λ (l : List ℕ). heads star (l ++ (codes ");\n" ++ rest))) (append_assoc (spelled n) (codes ", ") more)
    ∙ ap (heads star) (append_assoc (spelled n) (codes ", " ++ more) (codes ");\n" ++ rest))
    ∙ heads-spelled n _ h.0

module-symbols : (name : Symbol) (ports : List Symbol) → Marked TheModule ∷ name ∷ Marked LeftParenthesis ∷ (ports ++ Marked RightParenthesis ∷ Marked Semicolon ∷ []) ≡ Marked TheModule ∷ name ∷ (Marked LeftParenthesis ∷ (ports ++ Marked RightParenthesis ∷ []) ++ Marked Semicolon ∷ [])
module-symbols name ports = ap (λ (l : List Symbol). Marked TheModule ∷ name ∷ Marked LeftParenthesis ∷ l) (sym (append_assoc ports (Marked RightParenthesis ∷ []) (Marked Semicolon ∷ [])))

pub Spells-module_line : (name : List ℕ) (ports : List Port) (rest : List ℕ) → IsName name → AllByRecursion IsName (port_names ports) → Spells 0 (module_line name ports) rest (Marked TheModule ∷ Named (ident name 7) ∷ (header_symbols (header_at name (port_names ports)) ++ Marked Semicolon ∷ []))
Spells-module_line name ports rest h named =
    let end : List ℕ = codes ");\n" in
    let names : List (List ℕ) = port_names ports in
    let listing : List ℕ = joined (map spelled names) in
    let from_names : List ℕ = listing ++ end in
    let from_parenthesis : List ℕ = codes "(" ++ from_names in
    let from_name : List ℕ = spelled name ++ from_parenthesis in
    let place : ℕ = 7 + (length (spelled name) + 1) in
    let no_star : heads star (from_names ++ rest) ≡ false = ap (heads star) (append_assoc listing end rest) ∙ heads-names names rest named in
    Spells-text 0 (module_line name ports) (codes "module " ++ from_name) rest _ (grouped_5 (codes "module ") (spelled name) (codes "(") listing end)
    (Spells-as 0 _ rest _ _ (module-symbols (Named (ident name 7)) (listed name_symbols (names_at place names)))
    (join 0 _ (codes "module ") from_name rest _ _ refl (Spells-module_word 0 _)
    (join _ _ (spelled name) from_parenthesis rest _ _ refl (Spells-name _ 7 name _ refl h refl)
    (join _ place (codes "(") from_names rest _ _ (omega arith) (Spells-left_parenthesis _ _ no_star)
    (join _ _ listing end rest _ _ refl (Spells-names place names _ named refl)
    (Spells-list_end _ rest))))))
