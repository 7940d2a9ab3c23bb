-- A module without faults declares a netlist whose parts fit together, also without its assignments.
use Rattle.std.proofs.Common.{◌≡◌, List, [], ap, ◌∙◌}
use Rattle.std.specs.Prelude.{None, flat_map}
use Rattle.hold_base.proofs.Lists.{append-nil_left, append-nil_right}
use Rattle.hold_netlist.specs.Doubles.{first_double_name}
use Rattle.hold_netlist.specs.WellFormed.{IsWellFormed}
use Rattle.hold_netlist.specs.declared.wire.Wire.{Wire}
use Rattle.hold_netlist.specs.declared.inst.Assign.{Assign}
use Rattle.hold_vsyntax.specs.declared.tree.Ident.{Ident}
use Rattle.hold_vsyntax.specs.declared.tree.Instance.{Instance}
use Rattle.hold_vsyntax.specs.declared.tree.Assignment.{Assignment}
use Rattle.hold_vsyntax.specs.declared.tree.Module.{Module}
use Rattle.hold_vsyntax.specs.Named.{IsNamedModule}
use Rattle.hold_vparse.specs.BitFaults.{misfit_assignment, misfit_named}
use Rattle.hold_vparse.specs.inner.Clear.{IsClear}
use Rattle.hold_vparse.specs.inner.DesignWith.{assigns_of, design_with}
use Rattle.hold_vparse.specs.Lines.{assignments, instances}
use Rattle.hold_vparse.specs.Nets.{nets}
use Rattle.hold_vparse.proofs.DeclaredFits.{declared-IsWellFormed}
use Rattle.hold_vparse.proofs.DeclaredOnce.{declared-no_doubles}

module _ (m : Module) (clear : IsClear m) where
  -- no name stands twice, whatever is assigned
  pub names_once : (assigns : List Assign) → first_double_name (design_with m assigns) ≡ None
  names_once assigns = declared-no_doubles m clear.names clear.ports

  pub well_formed : IsNamedModule m → IsWellFormed (design_with m (assigns_of m))
  well_formed named = declared-IsWellFormed m named clear.ports clear.bits clear.bounds

  pub well_formed_without : IsNamedModule m → IsWellFormed (design_with m [])
  well_formed_without named =
      let whole = well_formed named in
      record { name = whole.name; ports = whole.ports; wires = whole.wires; insts = whole.insts; assigns = tt }

  -- each bit that is assigned or connected is there and fits
  pub assigns_fit : (wires : List Wire) (list : List Assignment) → wires ≡ nets m → list ≡ assignments m.items → flat_map (misfit_assignment wires) list ≡ []
  assigns_fit wires list w l =
      ap (λ ws. flat_map (misfit_assignment ws) list) w ∙ ap (λ more. flat_map (misfit_assignment (nets m)) more) l
      ∙ append-nil_left (flat_map (misfit_assignment (nets m)) (assignments m.items)) (flat_map (misfit_named (nets m)) (instances m.items)) clear.bits

  pub insts_fit : (wires : List Wire) (list : List (Ident × Instance)) → wires ≡ nets m → list ≡ instances m.items → flat_map (misfit_named wires) list ≡ []
  insts_fit wires list w l =
      ap (λ ws. flat_map (misfit_named ws) list) w ∙ ap (λ is. flat_map (misfit_named (nets m)) is) l
      ∙ append-nil_right (flat_map (misfit_assignment (nets m)) (assignments m.items)) (flat_map (misfit_named (nets m)) (instances m.items)) clear.bits
