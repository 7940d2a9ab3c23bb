-- The table of the roles that are barred to names, and what it tells of the mentions seen so far.
use Rattle.std.proofs.Common.{◌≡◌, ℕ, List, [], ◌∷◌, ◌++◌, Bool, true, false, cond, refl, sym, ap, ◌∙◌, bytes_eq}
use Rattle.std.specs.Prelude.{Option, Some, Vec, ◌&&◌, ◌||◌}
use Rattle.std.specs.declared.alloc.Global.{Global}
use Rattle.std.specs.List.{list_any}
use Rattle.std.specs.Map.{lookup}
use Rattle.std.proofs.Math.Bool.{or-false}
use Rattle.std.proofs.lemmas.List.Folds.{list_any-append}
use Rattle.std.proofs.lemmas.Slice.Eq.{bytes_eq-Decides}
use Rattle.indexmap.specs.IndexMap.{insert_entry}
use Rattle.hold_netlist.specs.Names.{is_among}
use Rattle.hold_vsyntax.specs.declared.tree.Module.{Module}
use Rattle.hold_vparse.specs.declared.barred.Barred.{Barred}
use Rattle.hold_vparse.specs.declared.barred_names.BarredNames.{BarredNames}
use Rattle.hold_vparse.specs.inner.Barred.{is_barred, found_or_none, barred_in, Bars}
use Rattle.hold_vparse.specs.DoubleNames.{Mention, Role, clash, declares_again}
use Rattle.hold_vparse.specs.Lines.{header_names}
use Rattle.hold_vparse.specs.Nets.{names, declared_names}

same_test : {X : Type 0} (b : Bool) (x y z : X) → cond b x z ≡ cond b x (cond b y z)
same_test true x y z = refl
same_test false x y z = refl

other_test : {X : Type 0} (p q : Bool) (x y z : X) → (p ≡ true → q ≡ true → ⊥) → cond p y (cond q x z) ≡ cond q x (cond p y z)
other_test true true x y z h = elim (h refl refl) [ ]
other_test true false x y z h = refl
other_test false q x y z h = refl

one_name : (a b c : List ℕ) → bytes_eq b a ≡ false → bytes_eq c a ≡ true → bytes_eq c b ≡ true → ⊥
one_name a b c other ca cb =
    let same : b ≡ a = sym ((bytes_eq-Decides c b).0 cb) ∙ (bytes_eq-Decides c a).0 ca in
    let yes : bytes_eq b a ≡ true = (bytes_eq-Decides b a).1 same in
    cc

-- a look-up after one entry was put
lookup-insert_entry : (es : List (Vec ℕ Global × Barred)) (k : Vec ℕ Global) (v : Barred) (name : List ℕ)
    → lookup (λ (q : Vec ℕ Global). bytes_eq name q.items) (insert_entry (λ a b. bytes_eq a.items b.items) es k v) ≡ cond (bytes_eq name k.items) (Some v) (lookup (λ (q : Vec ℕ Global). bytes_eq name q.items) es)
lookup-insert_entry [] k v name = refl
lookup-insert_entry (e ∷ es) k v name = by (bytes_eq k.items e.0.items) refl (lookup-insert_entry es k v name)
  where
    by : (b : Bool) → bytes_eq k.items e.0.items ≡ b
        → lookup (λ (q : Vec ℕ Global). bytes_eq name q.items) (insert_entry (λ a b. bytes_eq a.items b.items) es k v) ≡ cond (bytes_eq name k.items) (Some v) (lookup (λ (q : Vec ℕ Global). bytes_eq name q.items) es)
        → lookup (λ (q : Vec ℕ Global). bytes_eq name q.items) (cond b ((e.0, v) ∷ es) (e ∷ insert_entry (λ a b. bytes_eq a.items b.items) es k v))
        ≡ cond (bytes_eq name k.items) (Some v) (cond (bytes_eq name e.0.items) (Some e.1) (lookup (λ (q : Vec ℕ Global). bytes_eq name q.items) es))
    by true h rest =
        same_test (bytes_eq name e.0.items) (Some v) (Some e.1) (lookup (λ (q : Vec ℕ Global). bytes_eq name q.items) es)
        ∙ ap (λ (n : List ℕ). cond (bytes_eq name n) (Some v) (cond (bytes_eq name e.0.items) (Some e.1) (lookup (λ (q : Vec ℕ Global). bytes_eq name q.items) es))) (sym ((bytes_eq-Decides k.items e.0.items).0 h))
    by false h rest =
        ap (λ (o : Option Barred). cond (bytes_eq name e.0.items) (Some e.1) o) rest
        ∙ other_test (bytes_eq name e.0.items) (bytes_eq name k.items) (Some v) (Some e.1) (lookup (λ (q : Vec ℕ Global). bytes_eq name q.items) es) (one_name e.0.items k.items name h)

found_cond : (b : Bool) (v : Barred) (o : Option Barred) → found_or_none (cond b (Some v) o) ≡ cond b v (found_or_none o)
found_cond true v o = refl
found_cond false v o = refl

-- the table once roles were put for a name
pub barred_in-put : (old new : BarredNames) (k : Vec ℕ Global) (v : Barred) (key name : List ℕ) → k.items ≡ key → new.roles.entries ≡ insert_entry (λ a b. bytes_eq a.items b.items) old.roles.entries k v
    → barred_in new name ≡ cond (bytes_eq name key) v (barred_in old name)
barred_in-put old new k v key name same put =
    ap (λ (es : List (Vec ℕ Global × Barred)). found_or_none (lookup (λ (q : Vec ℕ Global). bytes_eq name q.items) es)) put
    ∙ ap found_or_none (lookup-insert_entry old.roles.entries k v name)
    ∙ found_cond (bytes_eq name k.items) v (lookup (λ (q : Vec ℕ Global). bytes_eq name q.items) old.roles.entries)
    ∙ ap (λ (n : List ℕ). cond (bytes_eq name n) v (barred_in old name)) same

same_clash : (l l' n n' : Bool) (earlier later : Role) → l ≡ l' → n ≡ n' → clash l n earlier later ≡ clash l' n' earlier later
same_clash l l' n n' earlier later a b = ap (λ (x : Bool). clash x n earlier later) a ∙ ap (λ (x : Bool). clash l' x earlier later) b

-- roles that a name has already are put to no effect
pub barred_in-same : (table : BarredNames) (name other : List ℕ) (v : Barred) → v ≡ barred_in table name
    → barred_in table other ≡ cond (bytes_eq other name) v (barred_in table other)
barred_in-same table name other v same = by (bytes_eq other name) (λ yes. ap (barred_in table) ((bytes_eq-Decides other name).0 yes) ∙ sym same)
  where
    by : (b : Bool) → (b ≡ true → barred_in table other ≡ v) → barred_in table other ≡ cond b v (barred_in table other)
    by true h = h refl
    by false h = refl

-- the table after one mention more
pub bars_more : (m : Module) (old new : BarredNames) (seen : List Mention) (e : Mention) (more : Barred) (listed net : Bool) → Bars m old seen
    → listed ≡ is_among e.name.name (names (header_names m.header)) → net ≡ is_among e.name.name (declared_names m)
    → ((later : Role) → is_barred more later ≡ (is_barred (barred_in old e.name.name) later || clash listed net e.role later))
    → ((name : List ℕ) → barred_in new name ≡ cond (bytes_eq name e.name.name) more (barred_in old name))
    → Bars m new (seen ++ e ∷ [])
bars_more m old new seen e more listed net bars is_listed is_net grown put =
    record { told = λ x. ap (λ (b : Barred). is_barred b x.role) (put x.name.name) ∙ step x (bytes_eq x.name.name e.name.name) refl ∙ sym (list_any-append (declares_again m x) seen (e ∷ [])) }
  where
    step : (x : Mention) (b : Bool) → bytes_eq x.name.name e.name.name ≡ b
        → is_barred (cond b more (barred_in old x.name.name)) x.role
        ≡ (list_any (declares_again m x) seen || ((b && clash (is_among x.name.name (names (header_names m.header))) (is_among x.name.name (declared_names m)) e.role x.role) || false))
    step x true h =
        let same : e.name.name ≡ x.name.name = sym ((bytes_eq-Decides x.name.name e.name.name).0 h) in
        grown x.role
        ∙ ap (λ (n : List ℕ). is_barred (barred_in old n) x.role || clash listed net e.role x.role) same
        ∙ ap (λ (b : Bool). b || clash listed net e.role x.role) (bars.told x)
        ∙ ap (λ (b : Bool). list_any (declares_again m x) seen || b)
        (same_clash listed (is_among x.name.name (names (header_names m.header))) net (is_among x.name.name (declared_names m)) e.role x.role
        (is_listed ∙ ap (λ (n : List ℕ). is_among n (names (header_names m.header))) same) (is_net ∙ ap (λ (n : List ℕ). is_among n (declared_names m)) same)
        ∙ sym (or-false (clash (is_among x.name.name (names (header_names m.header))) (is_among x.name.name (declared_names m)) e.role x.role)))
    step x false h = bars.told x ∙ sym (or-false (list_any (declares_again m x) seen))
