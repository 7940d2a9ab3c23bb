-- merged a b: whichever of two identifiers stands first in the text; the one that there is, where there is one.
-- found_ident found: the identifier behind a reference, where there is one.
use Rattle.std.specs.Prelude.{Option, Some, None}
use Rattle.std.specs.Borrow.{Bor}
use Rattle.hold_vsyntax.specs.declared.tree.Ident.{Ident}
use Rattle.hold_vparse.specs.Soonest.{sooner}

abbrev pub merged : Option Ident → Option Ident → Option Ident
merged None b = b
merged (Some i) b = Some (sooner i b)

abbrev pub found_ident : Option (Bor Ident) → Option Ident
found_ident None = None
found_ident (Some i) = Some i.now
