-- port_names, wire_names, pin_names: the names of ports, wires and connections, in order.
-- is_among name names: whether the name is one of these.
use Rattle.std.specs.Prelude.{ℕ, List, map, Bool, bytes_eq}
use Rattle.std.specs.List.{list_any}
use Rattle.hold_netlist.specs.declared.wire.Port.{Port}
use Rattle.hold_netlist.specs.declared.wire.Wire.{Wire}
use Rattle.hold_netlist.specs.declared.inst.Pin.{Pin}

abbrev pub port_names : List Port → List (List ℕ)
port_names ports = map (λ p. p.name) ports

abbrev pub wire_names : List Wire → List (List ℕ)
wire_names wires = map (λ w. w.name) wires

abbrev pub pin_names : List Pin → List (List ℕ)
pin_names pins = map (λ p. p.name) pins

abbrev pub is_among : List ℕ → List (List ℕ) → Bool
is_among name names = list_any (bytes_eq name) names
