-- IsClear m seen x: x declares nothing again that the seen mentions declare.
use Rattle.std.proofs.Common.{◌≡◌, List, false}
use Rattle.std.specs.List.{list_any}
use Rattle.hold_vsyntax.specs.declared.tree.Module.{Module}
use Rattle.hold_vparse.specs.DoubleNames.{Mention, declares_again}

abbrev pub IsClear : Module → List Mention → Mention → Type 0
IsClear m seen x = list_any (declares_again m x) seen ≡ false
