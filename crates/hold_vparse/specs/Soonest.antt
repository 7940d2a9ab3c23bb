-- sooner i found: whichever stands first in the text.
-- soonest is: the one of these that stands first in the text; None where there is none.
use Rattle.std.specs.Prelude.{List, [], ◌∷◌, nat_lt, if◌then◌else◌, Option, Some, None}
use Rattle.hold_vsyntax.specs.declared.tree.Ident.{Ident}

abbrev pub sooner : Ident → Option Ident → Ident
sooner i None = i
sooner i (Some j) = if nat_lt j.at i.at then j else i

abbrev pub soonest : List Ident → Option Ident
soonest [] = None
soonest (i ∷ is) = Some (sooner i (soonest is))
