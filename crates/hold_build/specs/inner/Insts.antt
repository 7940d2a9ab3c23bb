-- What is made of connections and instances one by one. `g p pin` is what is made of pin p, that connection; `f t p pins` of an instance
-- of type t with these connections, the first of which is pin p.
--
-- over_pins g p pins: what is made of connections in a row, the first of which is pin p.
-- over_cell f t p pins: what is made of an instance, where its type is known; else nothing.
-- over_insts f types p insts: what is made of instances in a row, the first connection of which is pin p.
use Rattle.std.specs.Prelude.{ℕ, ◌+◌, List, [], ◌∷◌, ◌++◌, length, Option, Some, None}
use Rattle.hold_netlist.specs.declared.inst.Inst.{Inst}
use Rattle.hold_netlist.specs.declared.inst.Pin.{Pin}
use Rattle.hold_roles.specs.declared.role.CellType.{CellType}
use Rattle.hold_roles.specs.Types.{type_named}

abbrev pub over_pins : {X : Type 0} → (ℕ → Pin → List X) → ℕ → List Pin → List X
over_pins g p [] = []
over_pins g p (pin ∷ pins) = g p pin ++ over_pins g (p + 1) pins

abbrev pub over_cell : {X : Type 0} → (CellType → ℕ → List Pin → List X) → Option CellType → ℕ → List Pin → List X
over_cell f None p pins = []
over_cell f (Some t) p pins = f t p pins

abbrev pub over_insts : {X : Type 0} → (CellType → ℕ → List Pin → List X) → List CellType → ℕ → List Inst → List X
over_insts f types p [] = []
over_insts f types p (i ∷ is) = over_cell f (type_named i.kind types) p i.pins ++ over_insts f types (p + length i.pins) is
