-- The faults of a module from the lists of its parts.
use Rattle.std.proofs.Common.{◌≡◌, List, ◌++◌, refl, sym, ap, ◌∙◌, map, is_none, not}
use Rattle.std.specs.Prelude.{Option, flat_map}
use Rattle.std.specs.List.{filter}
use Rattle.hold_netlist.specs.Names.{is_among}
use Rattle.hold_netlist.specs.declared.wire.Wire.{Wire}
use Rattle.hold_vsyntax.specs.declared.tree.Ident.{Ident}
use Rattle.hold_vsyntax.specs.declared.tree.Instance.{Instance}
use Rattle.hold_vsyntax.specs.declared.tree.Assignment.{Assignment}
use Rattle.hold_vsyntax.specs.declared.tree.Header.{Header}
use Rattle.hold_vsyntax.specs.declared.tree.Header.TheVariants.{Bare, Plain, Declared}
use Rattle.hold_vsyntax.specs.declared.tree.Module.{Module}
use Rattle.hold_vparse.specs.BitFaults.{misfit_assignment, misfit_named, misfit}
use Rattle.hold_vparse.specs.inner.Found.{merged}
use Rattle.hold_vparse.specs.Lines.{PortLine, WireLine, header_names, header_lines, body_lines, wire_lines, line_of, assignments, instances}
use Rattle.hold_vparse.specs.Nets.{names, nets}
use Rattle.hold_vparse.specs.PortFaults.{undirected, unlisted, unlike, unlike_line, misdeclared}
use Rattle.hold_vparse.specs.Soonest.{soonest}
use Rattle.hold_vparse.proofs.SoonestLemmas.{soonest-append}

undirected-header : (h : Header) (lines body : List PortLine) → lines ≡ header_lines h ++ body
    → filter (λ (i : Ident). is_none (line_of i.name lines)) (header_names h) ≡ filter (λ (i : Ident). is_none (line_of i.name body)) (header_names h)
undirected-header Bare lines body e = refl
undirected-header (Plain is) lines body e = ap (λ (ls : List PortLine). filter (λ (i : Ident). is_none (line_of i.name ls)) is) e
undirected-header (Declared first rest) lines body e = refl

-- the three kinds of misdeclared ports
pub soonest-misdeclared : (m : Module) (listed : List Ident) (lines body : List PortLine) (wires : List WireLine) (found a rest b c : Option Ident)
    → listed ≡ header_names m.header → lines ≡ header_lines m.header ++ body_lines m.items → body ≡ body_lines m.items → wires ≡ wire_lines m.items
    → a ≡ soonest (filter (λ (i : Ident). is_none (line_of i.name lines)) (header_names m.header))
    → b ≡ soonest (filter (λ (i : Ident). not (is_among i.name (names listed))) (map (λ (l : PortLine). l.name) body))
    → c ≡ soonest (flat_map (λ (w : WireLine). unlike_line w (line_of w.name.name lines)) wires)
    → rest ≡ merged b c → found ≡ merged a rest → found ≡ soonest (misdeclared m)
soonest-misdeclared m listed lines body wires found a rest b c l p q w ea eb ec er ef =
    let first : a ≡ soonest (undirected m) = ea ∙ ap soonest (undirected-header m.header lines (body_lines m.items) p) in
    let second : b ≡ soonest (unlisted m) =
    eb ∙ ap (λ (is : List Ident). soonest (filter (λ (i : Ident). not (is_among i.name (names is))) (map (λ (k : PortLine). k.name) body))) l
    ∙ ap (λ (ls : List PortLine). soonest (filter (λ (i : Ident). not (is_among i.name (names (header_names m.header)))) (map (λ (k : PortLine). k.name) ls))) q in
    let third : c ≡ soonest (unlike m) =
    ec ∙ ap (λ (ls : List PortLine). soonest (flat_map (λ (v : WireLine). unlike_line v (line_of v.name.name ls)) wires)) p
    ∙ ap (λ (ws : List WireLine). soonest (flat_map (λ (v : WireLine). unlike_line v (line_of v.name.name (header_lines m.header ++ body_lines m.items))) ws)) w in
    let both : rest ≡ soonest (unlisted m ++ unlike m) =
    er ∙ ap (λ (o : Option Ident). merged o c) second ∙ ap (merged (soonest (unlisted m))) third ∙ sym (soonest-append (unlisted m) (unlike m)) in
    ef ∙ ap (λ (o : Option Ident). merged o rest) first ∙ ap (merged (soonest (undirected m))) both ∙ sym (soonest-append (undirected m) (unlisted m ++ unlike m))

-- the two kinds of misfits
pub soonest-misfit : (m : Module) (ws : List Wire) (list : List Assignment) (is : List (Ident × Instance)) (found a b : Option Ident)
    → ws ≡ nets m → list ≡ assignments m.items → is ≡ instances m.items
    → a ≡ soonest (flat_map (misfit_assignment ws) list) → b ≡ soonest (flat_map (misfit_named ws) is) → found ≡ merged a b → found ≡ soonest (misfit m)
soonest-misfit m ws list is found a b w l i ea eb ef =
    let first : a ≡ soonest (flat_map (misfit_assignment (nets m)) (assignments m.items)) =
    ea ∙ ap (λ (v : List Wire). soonest (flat_map (misfit_assignment v) list)) w ∙ ap (λ (k : List Assignment). soonest (flat_map (misfit_assignment (nets m)) k)) l in
    let second : b ≡ soonest (flat_map (misfit_named (nets m)) (instances m.items)) =
    eb ∙ ap (λ (v : List Wire). soonest (flat_map (misfit_named v) is)) w ∙ ap (λ (k : List (Ident × Instance)). soonest (flat_map (misfit_named (nets m)) k)) i in
    ef ∙ ap (λ (o : Option Ident). merged o b) first ∙ ap (merged (soonest (flat_map (misfit_assignment (nets m)) (assignments m.items)))) second
    ∙ sym (soonest-append (flat_map (misfit_assignment (nets m)) (assignments m.items)) (flat_map (misfit_named (nets m)) (instances m.items)))
