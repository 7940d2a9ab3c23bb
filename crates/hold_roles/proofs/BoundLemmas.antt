-- The roots that a bound netlist keeps.
use Rattle.std.proofs.Common.{◌≡◌, ℕ, ◌<◌, List, get_or, ap, ◌∙◌, sym, subst, arith}
use Rattle.std.proofs.lemmas.Option.{slice_get-get_or}
use Rattle.hold_netlist.specs.Bits.{bits_of}
use Rattle.hold_netlist.specs.Design.{Design}
use Rattle.hold_roles.specs.declared.role.CellType.{CellType}
use Rattle.hold_roles.specs.declared.roots.Root.{Root}
use Rattle.hold_roles.specs.Binding.{Binding, binding}
use Rattle.hold_roles.specs.Drivers.{drivers}
use Rattle.hold_roles.specs.Faults.{IsSound}
use Rattle.hold_roles.specs.Roots.{IsRoot}
use Rattle.hold_roles.specs.inner.Marks.{AreRoots}
use Rattle.hold_roles.proofs.FaultLemmas.{sound-few}
use Rattle.hold_roles.proofs.WalkLemmas.{root-one}

-- the root of a net bit is the one that stands at its place
pub root-only : (b : Binding) (types : List CellType) (d : Design) (roots seen : List Root) (n : ℕ) (e : Root) → binding types d ≡ b → IsSound types d
    → AreRoots (drivers types d) (bits_of d.wires) roots → n < bits_of b.netlist.wires → seen ≡ roots → (root : Root) → IsRoot (drivers b.types b.netlist) n root → root ≡ get_or seen n e
root-only b types d roots seen n e view sound those within lent root h =
    let here : n < bits_of d.wires = subst (λ (x : Binding). n < bits_of x.netlist.wires) (sym view) within in
    let long = those.each in
    let kept : IsRoot (drivers types d) n (get_or roots n e) = those.root n (get_or roots n e) (slice_get-get_or roots n e (omega arith)) in
    let found : IsRoot (drivers types d) n root = subst (λ (x : Binding). IsRoot (drivers x.types x.netlist) n root) (sym view) h in
    root-one (drivers types d) (sound-few types d sound) n root (get_or roots n e) found kept ∙ ap (λ (l : List Root). get_or l n e) (sym lent)
