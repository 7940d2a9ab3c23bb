-- Buffers put in front of pins, one after another: the netlist stays valid and means the same.
use Rattle.std.proofs.Common.{◌≡◌, ℕ, ◌+◌, ◌<◌, ◌≤◌, ◌^◌, List, [], ◌∷◌, ◌++◌, length, map, sym, ap, ◌∙◌, subst, arith}
use Rattle.std.specs.Prelude.{Contains}
use Rattle.std.specs.List.{AllByRecursion}
use Rattle.std.proofs.lemmas.List.{map-append}
use Rattle.hold_base.proofs.Lists.{AllByRecursion-weaken}
use Rattle.hold_netlist.specs.declared.inst.Source.TheVariants.{Net}
use Rattle.hold_netlist.specs.declared.inst.Inst.{Inst}
use Rattle.hold_netlist.specs.declared.kind.Kind.{Kind}
use Rattle.hold_netlist.specs.Design.{Design}
use Rattle.hold_netlist.specs.Valid.{IsValid}
use Rattle.hold_roles.specs.declared.role.CellType.{CellType}
use Rattle.hold_roles.specs.Meaning.{Same}
use Rattle.hold_roles.proofs.Examples.{Same-self}
use Rattle.hold_insert.specs.Chains.{Insertion}
use Rattle.hold_insert.specs.NewNames.{wire_name, inst_name}
use Rattle.hold_insert.specs.Padded.{source_at, tied, new_net, buffer, with_buffer, inserted}
use Rattle.hold_insert.proofs.TiedLemmas.{Shape, shape_of, IsInputIn, IsInputIn-append, input-at, shapes-tied}
use Rattle.hold_insert.proofs.SolvedLemmas.{IsCopier}
use Rattle.hold_insert.proofs.StepLemmas.{bits-push, step-Same, Same-trans}
use Rattle.hold_insert.proofs.NewNameLemmas.{IsApart, wire_names-apart, inst_names-apart, wire-inst-apart, inst-wire-apart}
use Rattle.hold_insert.proofs.ValidLemmas.{HasRoom, IsNamedKind, step-apart, step-room, step-valid}

-- the buffer's pin is no output, and its kind is one of these and copies its input
pub record IsPut (types : List CellType) (kinds : List Kind) (shapes : List Shape) (b : Insertion) : Type 0 where
  pub input : IsInputIn types shapes b.pin.0
  pub copier : IsCopier types b.kind
  pub named : IsNamedKind b.kind
  pub among : Contains kinds b.kind

-- the names of buffer i and of all later ones are new to the netlist
abbrev pub AreNew : ℕ → ℕ → Design → Type 0
AreNew n i d = (m : ℕ) → i ≤ m → m < 2 ^ 32 → IsApart d (wire_name n m) × IsApart d (inst_name n m)

-- these buffers, of which the first is buffer i, can be put into the netlist
pub record IsReady (types : List CellType) (kinds : List Kind) (n i : ℕ) (bs : List Insertion) (d : Design) : Type 0 where
  pub valid : IsValid d
  pub room : HasRoom d (length bs)
  pub number : n < 2 ^ 64
  pub few : i + length bs ≤ 2 ^ 32
  pub new : AreNew n i d
  pub each : AllByRecursion (IsPut types kinds (map shape_of d.insts)) bs

module _ (types : List CellType) (kinds : List Kind) (n i : ℕ) (b : Insertion) (bs : List Insertion) (d : Design) (ready : IsReady types kinds n i (b ∷ bs) d) where
  small : i < 2 ^ 64
  small = omega (arith, ready.few)

  room : HasRoom d (length bs + 1)
  room = subst (HasRoom d) (let e : length (b ∷ bs) ≡ length bs + 1 = omega arith in e) ready.room

  valid : IsValid (with_buffer n i b d)
  valid =
      let new = ready.new i (omega arith) (omega (arith, ready.few)) in
      step-valid n i b d ready.number small ready.valid ready.each.0.named (length bs) room new.0 new.1

  new-later : AreNew n (i + 1) (with_buffer n i b d)
  new-later m from below =
      let before = ready.new m (omega arith) below in (
        step-apart n i b d ready.number small ready.valid ready.each.0.named (wire_name n m) before.0 (wire_names-apart n m i (omega arith) small (λ e. omega arith)) (wire-inst-apart n m i),
        step-apart n i b d ready.number small ready.valid ready.each.0.named (inst_name n m) before.1 (inst-wire-apart n m i) (inst_names-apart n m i (omega arith) small (λ e. omega arith)),
      )

  abbrev put : Inst
  put = buffer n i b.kind (source_at d.insts b.pin.0) (new_net d)

  shapes : map shape_of (with_buffer n i b d).insts ≡ map shape_of d.insts ++ shape_of put ∷ []
  shapes = map-append shape_of (tied d.insts b.pin.0 (Net (new_net d))) (put ∷ []) ∙ ap (λ l. l ++ shape_of put ∷ []) (shapes-tied d.insts b.pin.0 (Net (new_net d)))

  each-later : AllByRecursion (IsPut types kinds (map shape_of (with_buffer n i b d).insts)) bs
  each-later = AllByRecursion-weaken (IsPut types kinds (map shape_of d.insts)) (IsPut types kinds (map shape_of (with_buffer n i b d).insts))
      (λ x h. record {
        input = subst (λ l. IsInputIn types l x.pin.0) (sym shapes) (IsInputIn-append types (map shape_of d.insts) (shape_of put ∷ []) x.pin.0 h.input);
        copier = h.copier;
        named = h.named;
        among = h.among;
      })
      bs ready.each.1

  pub ready-step : IsReady types kinds n (i + 1) bs (with_buffer n i b d)
  ready-step = record {
    valid = valid;
    room = step-room n i b d ready.number small ready.valid ready.each.0.named (length bs) room;
    number = ready.number;
    few = omega (arith, ready.few);
    new = new-later;
    each = each-later;
  }

  pub ready-Same : Same types kinds d (with_buffer n i b d)
  ready-Same = step-Same types kinds d n i b ready.valid.well_formed (input-at types d.insts b.pin.0 ready.each.0.input) ready.each.0.copier ready.each.0.among

pub inserted-valid : (types : List CellType) (kinds : List Kind) (n i : ℕ) (bs : List Insertion) (d : Design) → IsReady types kinds n i bs d → IsValid (inserted n i bs d)
inserted-valid types kinds n i [] d ready = ready.valid
inserted-valid types kinds n i (b ∷ bs) d ready = inserted-valid types kinds n (i + 1) bs (with_buffer n i b d) (ready-step types kinds n i b bs d ready)

pub inserted-Same : (types : List CellType) (kinds : List Kind) (n i : ℕ) (bs : List Insertion) (d : Design) → IsReady types kinds n i bs d → Same types kinds d (inserted n i bs d)
inserted-Same types kinds n i [] d ready = Same-self types kinds d
inserted-Same types kinds n i (b ∷ bs) d ready =
    Same-trans types kinds d (with_buffer n i b d) (inserted n (i + 1) bs (with_buffer n i b d)) (omega (arith, bits-push d.wires n i))
    (ready-Same types kinds n i b bs d ready) (inserted-Same types kinds n (i + 1) bs (with_buffer n i b d) (ready-step types kinds n i b bs d ready))
