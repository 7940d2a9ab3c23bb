-- Two sets of roles are equal where they have the same roles.
use Rattle.std.proofs.Common.{◌≡◌, ◌∙◌, Bool, true, ap}
use Rattle.std.specs.Cmp.{booleans_Decides}
use Rattle.std.specs.Prelude.{◌&&◌}
use mathlib.Core.Bool.{beq}
use Rattle.std.proofs.lemmas.Bool.{and_parts}
use Rattle.hold_base.proofs.Bools.{and-true}
use Rattle.hold_vparse.specs.declared.barred.Barred.{Barred}

equal_fields : (a b : Barred) → a.lists_port ≡ b.lists_port → a.declares_port ≡ b.declares_port → a.gives_direction ≡ b.gives_direction → a.declares_wire ≡ b.declares_wire → a.declares_instance ≡ b.declares_instance → a.uses_net ≡ b.uses_net → a ≡ b
equal_fields a b h1 h2 h3 h4 h5 h6 =
    (ap (λ (x : Bool). record { lists_port = x; declares_port = a.declares_port; gives_direction = a.gives_direction; declares_wire = a.declares_wire; declares_instance = a.declares_instance; uses_net = a.uses_net }) h1)
    ∙ (ap (λ (x : Bool). record { lists_port = b.lists_port; declares_port = x; gives_direction = a.gives_direction; declares_wire = a.declares_wire; declares_instance = a.declares_instance; uses_net = a.uses_net }) h2)
    ∙ (ap (λ (x : Bool). record { lists_port = b.lists_port; declares_port = b.declares_port; gives_direction = x; declares_wire = a.declares_wire; declares_instance = a.declares_instance; uses_net = a.uses_net }) h3)
    ∙ (ap (λ (x : Bool). record { lists_port = b.lists_port; declares_port = b.declares_port; gives_direction = b.gives_direction; declares_wire = x; declares_instance = a.declares_instance; uses_net = a.uses_net }) h4)
    ∙ (ap (λ (x : Bool). record { lists_port = b.lists_port; declares_port = b.declares_port; gives_direction = b.gives_direction; declares_wire = b.declares_wire; declares_instance = x; uses_net = a.uses_net }) h5)
    ∙ (ap (λ (x : Bool). record { lists_port = b.lists_port; declares_port = b.declares_port; gives_direction = b.gives_direction; declares_wire = b.declares_wire; declares_instance = b.declares_instance; uses_net = x }) h6)

pub equal_roles : (a b : Barred) → (beq a.lists_port b.lists_port && (beq a.declares_port b.declares_port && (beq a.gives_direction b.gives_direction && (beq a.declares_wire b.declares_wire && (beq a.declares_instance b.declares_instance && beq a.uses_net b.uses_net))))) ≡ true → a ≡ b
equal_roles a b h =
    let r1 = and_parts _ _ h in
    let r2 = and_parts _ _ r1.1 in
    let r3 = and_parts _ _ r2.1 in
    let r4 = and_parts _ _ r3.1 in
    let r5 = and_parts _ _ r4.1 in
    equal_fields a b ((booleans_Decides a.lists_port b.lists_port).0 r1.0) ((booleans_Decides a.declares_port b.declares_port).0 r2.0) ((booleans_Decides a.gives_direction b.gives_direction).0 r3.0) ((booleans_Decides a.declares_wire b.declares_wire).0 r4.0) ((booleans_Decides a.declares_instance b.declares_instance).0 r5.0) ((booleans_Decides a.uses_net b.uses_net).0 r5.1)

pub roles_equal : (a b : Barred) → a ≡ b → (beq a.lists_port b.lists_port && (beq a.declares_port b.declares_port && (beq a.gives_direction b.gives_direction && (beq a.declares_wire b.declares_wire && (beq a.declares_instance b.declares_instance && beq a.uses_net b.uses_net))))) ≡ true
roles_equal a b same =
    and-true _ _ ((booleans_Decides a.lists_port b.lists_port).1 (ap (λ (r : Barred). r.lists_port) same)) (and-true _ _ ((booleans_Decides a.declares_port b.declares_port).1 (ap (λ (r : Barred). r.declares_port) same))
    (and-true _ _ ((booleans_Decides a.gives_direction b.gives_direction).1 (ap (λ (r : Barred). r.gives_direction) same)) (and-true _ _ ((booleans_Decides a.declares_wire b.declares_wire).1 (ap (λ (r : Barred). r.declares_wire) same))
    (and-true _ _ ((booleans_Decides a.declares_instance b.declares_instance).1 (ap (λ (r : Barred). r.declares_instance) same)) ((booleans_Decides a.uses_net b.uses_net).1 (ap (λ (r : Barred). r.uses_net) same))))))
