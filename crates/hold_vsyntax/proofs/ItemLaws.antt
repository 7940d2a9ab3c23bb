-- The piece of a statement is read as it is written, and written as it is read.
use Rattle.std.proofs.Common.{◌≡◌, List, ◌∷◌, ◌++◌, drop, refl, sym, ap, cond, true, false, ◌∙◌, ◌⊎◌, inl, inr, append_assoc}
use Rattle.std.specs.Prelude.{Option, Some, None}
use Rattle.hold_base.proofs.Bools.{cond-cases}
use Rattle.hold_base.proofs.Options.{option_and_then-Some}
use Rattle.hold_netlist.specs.declared.wire.Direction.{Direction}
use Rattle.hold_netlist.specs.declared.wire.Direction.TheVariants.{Input as InputPort, Output as OutputPort}
use Rattle.hold_vsyntax.specs.declared.mark.Mark.TheVariants.{Wire, Assign, Semicolon}
use Rattle.hold_vsyntax.specs.declared.tree.Several.{Several}
use Rattle.hold_vsyntax.specs.declared.tree.Assignment.{Assignment}
use Rattle.hold_vsyntax.specs.declared.tree.BodyPorts.{BodyPorts}
use Rattle.hold_vsyntax.specs.declared.tree.BodyWires.{BodyWires}
use Rattle.hold_vsyntax.specs.declared.tree.Instances.{Instances}
use Rattle.hold_vsyntax.specs.declared.tree.Item.{Item}
use Rattle.hold_vsyntax.specs.declared.tree.Item.TheVariants.{Ports, Wires, Assignments, Instances as InstancesOf}
use Rattle.hold_vsyntax.specs.Symbols.{Symbol, Marked, Named}
use Rattle.hold_vsyntax.specs.Grammar.{separated, several, name_symbols, direction_mark, wire_symbols, range_symbols, assignment_symbols, instance_symbols, item_symbols, item_piece}
use Rattle.hold_vsyntax.specs.inner.Reading.{begins, behind, after, several_at, ident_at, direction_at, range_at, assignment_at, instance_at, body_ports_after, body_wires_after, assignments_after, instances_at, statement_by, statement_at, item_at}
use Rattle.hold_vsyntax.proofs.ReadingLemmas.{ends, begins_is, after_ok, ident_ok, direction_ok, wire_ok, several_sound, several_complete, ident_laws}
use Rattle.hold_vsyntax.proofs.RangeLaws.{range_sound, range_complete}
use Rattle.hold_vsyntax.proofs.PartLaws.{assignment_laws}
use Rattle.hold_vsyntax.proofs.InstanceLaws.{instance_laws}
use Rattle.hold_vsyntax.proofs.PortLaws.{wire_seen, wire_behind}
use Rattle.hold_vsyntax.proofs.HeaderLaws.{closed}

body_ports_sound : (d : Direction) (ss : List Symbol) (i : Item) (rest : List Symbol) → body_ports_after d ss ≡ Some (i, rest)
    → Marked (direction_mark d) ∷ ss ≡ item_symbols i ++ rest
unfolding body_ports_after
body_ports_sound d ss i rest h =
    let range = option_and_then-Some _ (range_at (behind Wire ss)) (i, rest) h in
    let names = option_and_then-Some _ (several_at ident_at range.0.1) (i, rest) range.2 in
    let w = wire_symbols (begins Wire ss) in
    let r = range_symbols range.0.0 in
    let n = several name_symbols names.0.0 in
    ap (λ l. Marked (direction_mark d) ∷ l)
    (wire_ok ss ∙ ap (λ l. w ++ l) (range_sound (behind Wire ss) range.0.0 range.0.1 range.1
    ∙ ap (λ l. r ++ l) (several_sound name_symbols ident_at ident_laws range.0.1 names.0.0 names.0.1 names.1)
    ∙ sym (append_assoc r n names.0.1))
    ∙ sym (append_assoc w (r ++ n) names.0.1))
    ∙ ends item_symbols (Ports (record { direction = d; wire = begins Wire ss; range = range.0.0; names = names.0.0 })) i names.0.1 rest names.2

body_ports_complete : (p : BodyPorts) (rest : List Symbol)
    → body_ports_after p.direction (wire_symbols p.wire ++ (range_symbols p.range ++ (several name_symbols p.names ++ Marked Semicolon ∷ rest)))
    ≡ Some (Ports p, Marked Semicolon ∷ rest)
unfolding body_ports_after
body_ports_complete p rest =
    let more = separated name_symbols p.names.rest ++ Marked Semicolon ∷ rest in
    rw (
      wire_behind p.wire p.range p.names.first more,
      wire_seen p.wire p.range p.names.first more,
      range_complete p.range (Named p.names.first ∷ more) refl,
      several_complete name_symbols ident_at ident_laws p.names (Marked Semicolon ∷ rest) refl refl,
    ) refl

body_wires_sound : (ss : List Symbol) (i : Item) (rest : List Symbol) → body_wires_after ss ≡ Some (i, rest) → Marked Wire ∷ ss ≡ item_symbols i ++ rest
unfolding body_wires_after
body_wires_sound ss i rest h =
    let range = option_and_then-Some _ (range_at ss) (i, rest) h in
    let names = option_and_then-Some _ (several_at ident_at range.0.1) (i, rest) range.2 in
    let r = range_symbols range.0.0 in
    let n = several name_symbols names.0.0 in
    ap (λ l. Marked Wire ∷ l) (range_sound ss range.0.0 range.0.1 range.1
    ∙ ap (λ l. r ++ l) (several_sound name_symbols ident_at ident_laws range.0.1 names.0.0 names.0.1 names.1)
    ∙ sym (append_assoc r n names.0.1))
    ∙ ends item_symbols (Wires (record { range = range.0.0; names = names.0.0 })) i names.0.1 rest names.2

body_wires_complete : (w : BodyWires) (rest : List Symbol)
    → body_wires_after (range_symbols w.range ++ (several name_symbols w.names ++ Marked Semicolon ∷ rest)) ≡ Some (Wires w, Marked Semicolon ∷ rest)
unfolding body_wires_after
body_wires_complete w rest =
    rw (
      range_complete w.range (several name_symbols w.names ++ Marked Semicolon ∷ rest) refl,
      several_complete name_symbols ident_at ident_laws w.names (Marked Semicolon ∷ rest) refl refl,
    ) refl

assignments_sound : (ss : List Symbol) (i : Item) (rest : List Symbol) → assignments_after ss ≡ Some (i, rest) → Marked Assign ∷ ss ≡ item_symbols i ++ rest
unfolding assignments_after
assignments_sound ss i rest h =
    let s = option_and_then-Some _ (several_at assignment_at ss) (i, rest) h in
    ap (λ l. Marked Assign ∷ l) (several_sound assignment_symbols assignment_at assignment_laws ss s.0.0 s.0.1 s.1)
    ∙ ends item_symbols (Assignments s.0.0) i s.0.1 rest s.2

assignments_complete : (s : Several Assignment) (rest : List Symbol)
    → assignments_after (several assignment_symbols s ++ Marked Semicolon ∷ rest) ≡ Some (Assignments s, Marked Semicolon ∷ rest)
unfolding assignments_after
assignments_complete s rest = rw (several_complete assignment_symbols assignment_at assignment_laws s (Marked Semicolon ∷ rest) refl refl) refl

instances_sound : (ss : List Symbol) (i : Item) (rest : List Symbol) → instances_at ss ≡ Some (i, rest) → ss ≡ item_symbols i ++ rest
unfolding instances_at
instances_sound ss i rest h =
    let kind = option_and_then-Some _ (ident_at ss) (i, rest) h in
    let s = option_and_then-Some _ (several_at instance_at kind.0.1) (i, rest) kind.2 in
    ident_ok ss kind.0.0 kind.0.1 kind.1
    ∙ ap (λ l. Named kind.0.0 ∷ l) (several_sound instance_symbols instance_at instance_laws kind.0.1 s.0.0 s.0.1 s.1)
    ∙ ends item_symbols (InstancesOf (record { kind = kind.0.0; list = s.0.0 })) i s.0.1 rest s.2

instances_complete : (x : Instances) (rest : List Symbol)
    → instances_at (Named x.kind ∷ (several instance_symbols x.list ++ Marked Semicolon ∷ rest)) ≡ Some (InstancesOf x, Marked Semicolon ∷ rest)
unfolding instances_at
instances_complete x rest = rw (several_complete instance_symbols instance_at instance_laws x.list (Marked Semicolon ∷ rest) refl refl) refl

statement_sound : (ss : List Symbol) (i : Item) (rest : List Symbol) → statement_at ss ≡ Some (i, rest) → ss ≡ item_symbols i ++ rest
unfolding statement_at
statement_sound ss i rest h = by (direction_at ss) refl h
  where
    or : ((begins Assign ss ≡ true) × (assignments_after (drop 1 ss) ≡ Some (i, rest)))
        ⊎ ((begins Assign ss ≡ false) × (instances_at ss ≡ Some (i, rest))) → ss ≡ item_symbols i ++ rest
    or (inl k) = begins_is Assign ss k.0 ∙ assignments_sound (drop 1 ss) i rest k.1
    or (inr k) = instances_sound ss i rest k.1

    undirected : ((begins Wire ss ≡ true) × (body_wires_after (drop 1 ss) ≡ Some (i, rest)))
        ⊎ ((begins Wire ss ≡ false) × (cond (begins Assign ss) (assignments_after (drop 1 ss)) (instances_at ss) ≡ Some (i, rest))) → ss ≡ item_symbols i ++ rest
    undirected (inl k) = begins_is Wire ss k.0 ∙ body_wires_sound (drop 1 ss) i rest k.1
    undirected (inr k) = or (cond-cases (begins Assign ss) _ _ (Some (i, rest)) k.1)

    by : (o : Option (Direction × List Symbol)) → direction_at ss ≡ o → statement_by o ss ≡ Some (i, rest) → ss ≡ item_symbols i ++ rest
    by (Some d) e k = direction_ok ss d.0 d.1 e ∙ body_ports_sound d.0 d.1 i rest k
    by None e k = undirected (cond-cases (begins Wire ss) _ _ (Some (i, rest)) k)

-- a statement that begins with a direction
statement_directed : (d : Direction) (ss : List Symbol) → statement_at (Marked (direction_mark d) ∷ ss) ≡ body_ports_after d ss
unfolding statement_at
statement_directed InputPort ss = refl
statement_directed OutputPort ss = refl

statement_complete : (i : Item) (rest : List Symbol) → statement_at (item_symbols i ++ Marked Semicolon ∷ rest) ≡ Some (i, Marked Semicolon ∷ rest)
unfolding statement_at
statement_complete (Ports p) rest =
    ap (λ l. statement_at (Marked (direction_mark p.direction) ∷ l))
    (append_assoc (wire_symbols p.wire) (range_symbols p.range ++ several name_symbols p.names) (Marked Semicolon ∷ rest)
    ∙ ap (λ l. wire_symbols p.wire ++ l) (append_assoc (range_symbols p.range) (several name_symbols p.names) (Marked Semicolon ∷ rest)))
    ∙ statement_directed p.direction _ ∙ body_ports_complete p rest
statement_complete (Wires w) rest =
    ap body_wires_after (append_assoc (range_symbols w.range) (several name_symbols w.names) (Marked Semicolon ∷ rest)) ∙ body_wires_complete w rest
statement_complete (Assignments s) rest = assignments_complete s rest
statement_complete (InstancesOf x) rest = instances_complete x rest

pub item_sound : (ss : List Symbol) (i : Item) (rest : List Symbol) → item_at ss ≡ Some (i, rest) → ss ≡ item_piece i ++ rest
unfolding item_at
item_sound ss i rest h =
    let s = option_and_then-Some _ (statement_at ss) (i, rest) h in
    let end = option_and_then-Some _ (after Semicolon s.0.1) (i, rest) s.2 in
    statement_sound ss s.0.0 s.0.1 s.1 ∙ ap (λ l. item_symbols s.0.0 ++ l) (after_ok Semicolon s.0.1 end.0 end.1)
    ∙ sym (closed (item_symbols s.0.0) (Marked Semicolon) end.0) ∙ ends item_piece s.0.0 i end.0 rest end.2

pub item_complete : (i : Item) (rest : List Symbol) → item_at (item_piece i ++ rest) ≡ Some (i, rest)
unfolding item_at
item_complete i rest = ap item_at (closed (item_symbols i) (Marked Semicolon) rest) ∙ rw (statement_complete i rest) refl
