-- IsNamed s: where the symbol is an identifier, its name is one.
-- AreNamed ss: so it is for each of the symbols.
-- IsNamedModule m: each identifier that is written in the module is a name: at least one byte, each from 33 to 126.
use Rattle.std.specs.Prelude.{List}
use Rattle.std.specs.List.{AllByRecursion}
use Rattle.hold_base.specs.NameBytes.{IsName}
use Rattle.hold_vsyntax.specs.declared.tree.Module.{Module}
use Rattle.hold_vsyntax.specs.Symbols.{Symbol, Marked, Named, Counted, Tied, Strange}
use Rattle.hold_vsyntax.specs.Grammar.{pieces_of}

abbrev pub IsNamed : Symbol → Type 0
IsNamed (Named i) = IsName i.name
IsNamed (Marked m) = Unit {0}
IsNamed (Counted n) = Unit {0}
IsNamed (Tied b) = Unit {0}
IsNamed Strange = Unit {0}

abbrev pub AreNamed : List Symbol → Type 0
AreNamed ss = AllByRecursion IsNamed ss

abbrev pub IsNamedModule : Module → Type 0
IsNamedModule m = AllByRecursion AreNamed (pieces_of m)
