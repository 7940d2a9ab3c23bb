-- is_use role: whether a mention in this role uses a net.
-- used mentions: the identifiers that use nets, in order.
-- wires_of ports headed lines declared uses: the wires of these ports; those of the lines whose names aren't among
--   the headed ones; and a scalar for each first use of a name that isn't among the declared ones.
use Rattle.std.specs.Prelude.{ℕ, Bool, true, false, not, List, [], ◌∷◌, ◌++◌, map, None, if◌then◌else◌}
use Rattle.std.specs.List.{filter}
use Rattle.hold_netlist.specs.declared.wire.Wire.{Wire}
use Rattle.hold_netlist.specs.Names.{is_among}
use Rattle.hold_vsyntax.specs.declared.tree.Ident.{Ident}
use Rattle.hold_vparse.specs.Lines.{PortLine, WireLine}
use Rattle.hold_vparse.specs.Nets.{wire, first_uses}
use Rattle.hold_vparse.specs.DoubleNames.{Mention, Role, UsesNet}

abbrev pub is_use : Role → Bool
is_use UsesNet = true
is_use _ = false

abbrev pub used : List Mention → List Ident
used [] = []
used (m ∷ ms) = if is_use m.role then m.name ∷ used ms else used ms

abbrev pub wires_of : List PortLine → List (List ℕ) → List WireLine → List (List ℕ) → List Ident → List Wire
wires_of ports headed lines declared uses =
    map (λ (l : PortLine). wire l.name.name l.range) ports
    ++ (map (λ (l : WireLine). wire l.name.name l.range) (filter (λ (l : WireLine). not (is_among l.name.name headed)) lines)
    ++ map (λ (i : Ident). wire i.name None) (first_uses declared uses))
