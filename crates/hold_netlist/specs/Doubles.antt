-- first_repeat seen names: the first of the names that is among those seen, or among those before it.
-- None where each is new.
-- first_double_in_insts seen insts: instance by instance, its name where it is among those seen or is an
-- earlier instance's, and then the first pin that it names twice. The first of these; None where there is
-- none. Pins of different instances may share a name.
-- first_double_name d: the first name of a design that stands twice. Wires and instances share one name
-- space, in which the wires stand first. The module's name and the types' names aren't in it.
use Rattle.std.specs.Prelude.{ℕ, List, [], ◌∷◌, ◌++◌, Option, Some, None, if◌then◌else◌}
use Rattle.std.specs.Option.{option_or}
use Rattle.hold_netlist.specs.declared.inst.Inst.{Inst}
use Rattle.hold_netlist.specs.Design.{Design}
use Rattle.hold_netlist.specs.Names.{wire_names, pin_names, is_among}

abbrev pub first_repeat : List (List ℕ) → List (List ℕ) → Option (List ℕ)
first_repeat seen [] = None
first_repeat seen (n ∷ ns) = if is_among n seen then Some n else first_repeat (seen ++ n ∷ []) ns

abbrev pub first_double_in_insts : List (List ℕ) → List Inst → Option (List ℕ)
first_double_in_insts seen [] = None
first_double_in_insts seen (i ∷ is) = if is_among i.name seen then Some i.name else option_or (first_repeat [] (pin_names i.pins)) (first_double_in_insts (seen ++ i.name ∷ []) is)

abbrev pub first_double_name : Design → Option (List ℕ)
first_double_name d = option_or (first_repeat [] (wire_names d.wires)) (first_double_in_insts (wire_names d.wires) d.insts)
