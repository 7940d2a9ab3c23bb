-- A connection and an instance that are read are written so, and those that are written are read.
use Rattle.std.proofs.Common.{◌≡◌, List, [], ◌∷◌, ◌++◌, drop, refl, sym, ap, Bool, true, false, ◌∙◌, ◌⊎◌, inl, inr, append_assoc}
use Rattle.std.specs.Prelude.{Option, Some, None}
use Rattle.std.specs.Option.{option_and_then}
use Rattle.hold_base.proofs.Bools.{cond-cases}
use Rattle.hold_base.proofs.Options.{option_and_then-Some}
use Rattle.hold_vsyntax.specs.declared.mark.Mark.TheVariants.{Dot, LeftBracket, RightBracket, LeftParenthesis, RightParenthesis}
use Rattle.hold_vsyntax.specs.declared.tree.Ident.{Ident}
use Rattle.hold_vsyntax.specs.declared.tree.Tied.{Tied}
use Rattle.hold_vsyntax.specs.declared.tree.Tied.TheVariants.{Open, Net, Bit as BitOf, Constant}
use Rattle.hold_vsyntax.specs.declared.tree.Connection.{Connection}
use Rattle.hold_vsyntax.specs.declared.tree.Instance.{Instance}
use Rattle.hold_vsyntax.specs.Symbols.{Symbol, Marked, Named, Counted}
use Rattle.hold_vsyntax.specs.Grammar.{separated, listed, tied_symbols, connection_symbols, instance_symbols}
use Rattle.hold_vsyntax.specs.inner.Reading.{with_front, begins, after, more_of, ident_at, number_at, constant_at, bit_after, tied_net_at, tied_by, tied_at, connection_at, connections_at, instance_at}
use Rattle.hold_vsyntax.proofs.HeaderLaws.{closed}
use Rattle.hold_vsyntax.proofs.ReadingLemmas.{ends, begins_is, after_ok, number_ok, ident_ok, constant_ok, Spells, more_sound, more_complete, front_ok, shrinks, Shrinks}

bit_sound : (name : Ident) (ss : List Symbol) (t : Tied) (rest : List Symbol) → bit_after name ss ≡ Some (t, rest)
    → Named name ∷ Marked LeftBracket ∷ ss ≡ tied_symbols t ++ rest
unfolding bit_after
bit_sound name ss t rest h =
    let index = option_and_then-Some _ (number_at ss) (t, rest) h in
    let close = option_and_then-Some _ (after RightBracket index.0.1) (t, rest) index.2 in
    let first = number_ok ss index.0.0 index.0.1 index.1 in
    let second = after_ok RightBracket index.0.1 close.0 close.1 in
    let whole : ss ≡ Counted index.0.0 ∷ Marked RightBracket ∷ close.0 = cc in
    ap (λ l. Named name ∷ Marked LeftBracket ∷ l) whole ∙ ends tied_symbols (BitOf name index.0.0) t close.0 rest close.2

tied_net_sound : (ss : List Symbol) (t : Tied) (rest : List Symbol) → tied_net_at ss ≡ Some (t, rest) → ss ≡ tied_symbols t ++ rest
unfolding tied_net_at
tied_net_sound ss t rest h =
    let name = option_and_then-Some _ (ident_at ss) (t, rest) h in
    by name.0.0 name.0.1 (ident_ok ss name.0.0 name.0.1 name.1) (cond-cases (begins LeftBracket name.0.1) _ _ (Some (t, rest)) name.2)
  where
    by : (i : Ident) (u : List Symbol) → ss ≡ Named i ∷ u
        → ((begins LeftBracket u ≡ true) × (bit_after i (drop 1 u) ≡ Some (t, rest)))
        ⊎ ((begins LeftBracket u ≡ false) × (◌≡◌ {A = Option (Tied × List Symbol)} (Some (Net i, u)) (Some (t, rest))))
        → ss ≡ tied_symbols t ++ rest
    by i u first (inl e) = first ∙ ap (λ l. Named i ∷ l) (begins_is LeftBracket u e.0) ∙ bit_sound i (drop 1 u) t rest e.1
    by i u first (inr e) = first ∙ ends tied_symbols (Net i) t u rest e.1

tied_sound : (ss : List Symbol) (t : Tied) (rest : List Symbol) → tied_at ss ≡ Some (t, rest) → ss ≡ tied_symbols t ++ rest
unfolding tied_at
tied_sound ss t rest h = by (cond-cases (begins RightParenthesis ss) _ _ (Some (t, rest)) h)
  where
    or : (o : Option (Bool × List Symbol)) → constant_at ss ≡ o → tied_by o ss ≡ Some (t, rest) → ss ≡ tied_symbols t ++ rest
    or (Some b) e k = constant_ok ss b.0 b.1 e ∙ ends tied_symbols (Constant b.0) t b.1 rest k
    or None e k = tied_net_sound ss t rest k

    by : ((begins RightParenthesis ss ≡ true) × (◌≡◌ {A = Option (Tied × List Symbol)} (Some (Open, ss)) (Some (t, rest))))
        ⊎ ((begins RightParenthesis ss ≡ false) × (tied_by (constant_at ss) ss ≡ Some (t, rest))) → ss ≡ tied_symbols t ++ rest
    by (inl e) = ends tied_symbols Open t ss rest e.1
    by (inr e) = or (constant_at ss) refl e.1

tied_complete : (t : Tied) (rest : List Symbol) → tied_at (tied_symbols t ++ Marked RightParenthesis ∷ rest) ≡ Some (t, Marked RightParenthesis ∷ rest)
unfolding tied_at tied_net_at bit_after
tied_complete Open rest = refl
tied_complete (Net name) rest = refl
tied_complete (BitOf name index) rest = refl
tied_complete (Constant b) rest = refl

connection_sound : (ss : List Symbol) (c : Connection) (rest : List Symbol) → connection_at ss ≡ Some (c, rest) → ss ≡ connection_symbols c ++ rest
unfolding connection_at
connection_sound ss c rest h =
    let dot = option_and_then-Some _ (after Dot ss) (c, rest) h in
    let pin = option_and_then-Some _ (ident_at dot.0) (c, rest) dot.2 in
    let inside = option_and_then-Some _ (after LeftParenthesis pin.0.1) (c, rest) pin.2 in
    let tied = option_and_then-Some _ (tied_at inside.0) (c, rest) inside.2 in
    let end = option_and_then-Some _ (after RightParenthesis tied.0.1) (c, rest) tied.2 in
    let first = after_ok Dot ss dot.0 dot.1 in
    let second = ident_ok dot.0 pin.0.0 pin.0.1 pin.1 in
    let third = after_ok LeftParenthesis pin.0.1 inside.0 inside.1 in
    let front : ss ≡ Marked Dot ∷ Named pin.0.0 ∷ Marked LeftParenthesis ∷ inside.0 = cc in
    let back = tied_sound inside.0 tied.0.0 tied.0.1 tied.1 ∙ ap (λ l. tied_symbols tied.0.0 ++ l) (after_ok RightParenthesis tied.0.1 end.0 end.1)
    ∙ sym (closed (tied_symbols tied.0.0) (Marked RightParenthesis) end.0) in
    front ∙ ap (λ l. Marked Dot ∷ Named pin.0.0 ∷ Marked LeftParenthesis ∷ l) back
    ∙ ends connection_symbols (record { pin = pin.0.0; tied = tied.0.0 }) c end.0 rest end.2

connection_complete : (c : Connection) (rest : List Symbol) → connection_at (connection_symbols c ++ rest) ≡ Some (c, rest)
unfolding connection_at
connection_complete c rest =
    ap (λ l. connection_at (Marked Dot ∷ Named c.pin ∷ Marked LeftParenthesis ∷ l)) (closed (tied_symbols c.tied) (Marked RightParenthesis) rest)
    ∙ rw (tied_complete c.tied rest) refl

pub connection_laws : Spells connection_symbols connection_at
connection_laws = record { sound = connection_sound; complete = λ c rest h. connection_complete c rest }

connections_sound : (ss : List Symbol) (cs : List Connection) (rest : List Symbol) → connections_at ss ≡ Some (cs, rest) → ss ≡ listed connection_symbols cs ++ rest
unfolding connections_at
connections_sound ss cs rest h = by (cond-cases (begins RightParenthesis ss) _ _ (Some (cs, rest)) h)
  where
    then_more : Connection × List Symbol → Option (List Connection × List Symbol)
    then_more c = with_front (c.0 ∷ []) (more_of connection_at c.1)

    by : ((begins RightParenthesis ss ≡ true) × (◌≡◌ {A = Option (List Connection × List Symbol)} (Some ([], ss)) (Some (cs, rest))))
        ⊎ ((begins RightParenthesis ss ≡ false) × (option_and_then then_more (connection_at ss) ≡ Some (cs, rest))) → ss ≡ listed connection_symbols cs ++ rest
    by (inl e) = ends (listed connection_symbols) [] cs ss rest e.1
    by (inr e) =
        let first = option_and_then-Some then_more (connection_at ss) (cs, rest) e.1 in
        let more = front_ok first.0.0 (more_of connection_at first.0.1) (cs, rest) first.2 in
        connection_sound ss first.0.0 first.0.1 first.1
        ∙ ap (λ l. connection_symbols first.0.0 ++ l) (more_sound connection_symbols connection_at connection_laws first.0.1 more.0.0 more.0.1 more.1)
        ∙ sym (append_assoc (connection_symbols first.0.0) (separated connection_symbols more.0.0) more.0.1)
        ∙ ends (listed connection_symbols) (first.0.0 ∷ more.0.0) cs more.0.1 rest more.2

connections_complete : (cs : List Connection) (rest : List Symbol)
    → connections_at (listed connection_symbols cs ++ Marked RightParenthesis ∷ rest) ≡ Some (cs, Marked RightParenthesis ∷ rest)
unfolding connections_at
connections_complete [] rest = refl
connections_complete (c ∷ cs) rest =
    ap connections_at (append_assoc (connection_symbols c) (separated connection_symbols cs) (Marked RightParenthesis ∷ rest))
    ∙ rw (
      connection_complete c (separated connection_symbols cs ++ Marked RightParenthesis ∷ rest),
      more_complete connection_symbols connection_at connection_laws cs (Marked RightParenthesis ∷ rest) refl refl,
    ) refl

instance_sound : (ss : List Symbol) (i : Instance) (rest : List Symbol) → instance_at ss ≡ Some (i, rest) → ss ≡ instance_symbols i ++ rest
unfolding instance_at
instance_sound ss i rest h =
    let name = option_and_then-Some _ (ident_at ss) (i, rest) h in
    let inside = option_and_then-Some _ (after LeftParenthesis name.0.1) (i, rest) name.2 in
    let cs = option_and_then-Some _ (connections_at inside.0) (i, rest) inside.2 in
    let end = option_and_then-Some _ (after RightParenthesis cs.0.1) (i, rest) cs.2 in
    let first = ident_ok ss name.0.0 name.0.1 name.1 in
    let second = after_ok LeftParenthesis name.0.1 inside.0 inside.1 in
    let front : ss ≡ Named name.0.0 ∷ Marked LeftParenthesis ∷ inside.0 = cc in
    let back = connections_sound inside.0 cs.0.0 cs.0.1 cs.1 ∙ ap (λ l. listed connection_symbols cs.0.0 ++ l) (after_ok RightParenthesis cs.0.1 end.0 end.1)
    ∙ sym (closed (listed connection_symbols cs.0.0) (Marked RightParenthesis) end.0) in
    front ∙ ap (λ l. Named name.0.0 ∷ Marked LeftParenthesis ∷ l) back
    ∙ ends instance_symbols (record { name = name.0.0; connections = cs.0.0 }) i end.0 rest end.2

instance_complete : (i : Instance) (rest : List Symbol) → instance_at (instance_symbols i ++ rest) ≡ Some (i, rest)
unfolding instance_at
instance_complete i rest =
    ap (λ l. instance_at (Named i.name ∷ Marked LeftParenthesis ∷ l)) (closed (listed connection_symbols i.connections) (Marked RightParenthesis) rest)
    ∙ rw (connections_complete i.connections rest) refl

pub instance_laws : Spells instance_symbols instance_at
instance_laws = record { sound = instance_sound; complete = λ i rest h. instance_complete i rest }

pub connection_shrinks : Shrinks connection_at
connection_shrinks = shrinks connection_symbols connection_at connection_laws

pub instance_shrinks : Shrinks instance_at
instance_shrinks = shrinks instance_symbols instance_at instance_laws
