use Rattle.std.proofs.Common.{◌≡◌, ℕ, List, [], ◌∷◌, ◌++◌, Bool, true, false, cond, ap, sym, ◌∙◌, not}
use Rattle.std.proofs.lemmas.List.{map-append}
use Rattle.hold_netlist.specs.Names.{is_among}
use Rattle.hold_netlist.specs.inner.NameTable.{names_of}
use Rattle.hold_vparse.specs.Soonest.{soonest}
use Rattle.hold_vparse.proofs.PinLemmas.{is_new_pin}
use Rattle.hold_vparse.proofs.pin_faults.repeated_pin.Goals as goal

pub returns-in-Ok-true-clause-found : goal.returns-in-Ok-true-clause-found
returns-in-Ok-true-clause-found c =
    let among : is_among c.args.pin.now.name (names_of c.args.seen.now) ≡ false =
    is_new_pin c.args.pin.now.name c.bytes.result.now c.args.seen.now c.in-Ok-true.field-0 c.bytes.ensures c.in-Ok-true.ensures.new ∙ ap not c.in-Ok-true.field-0-test in
    sym (ap (λ (b : Bool). soonest (cond b (c.args.pin.now ∷ []) [])) among)

pub returns-in-Ok-true-clause-seen : goal.returns-in-Ok-true-clause-seen
returns-in-Ok-true-clause-seen c =
    let among : is_among c.args.pin.now.name (names_of c.args.seen.now) ≡ false =
    is_new_pin c.args.pin.now.name c.bytes.result.now c.args.seen.now c.in-Ok-true.field-0 c.bytes.ensures c.in-Ok-true.ensures.new ∙ ap not c.in-Ok-true.field-0-test in
    ap names_of (c.in-Ok-true.ensures.added ∙ ap (λ (b : Bool). cond b (c.args.seen.now ++ (c.bytes.result.now, 0) ∷ []) c.args.seen.now) c.in-Ok-true.field-0-test)
    ∙ map-append (λ (p : List ℕ × ℕ). p.0) c.args.seen.now ((c.bytes.result.now, 0) ∷ [])
    ∙ ap (λ (n : List ℕ). names_of c.args.seen.now ++ n ∷ []) c.bytes.ensures
    ∙ sym (ap (λ (b : Bool). cond b (names_of c.args.seen.now) (names_of c.args.seen.now ++ c.args.pin.now.name ∷ [])) among)

pub returns-in-Ok-false-clause-found : goal.returns-in-Ok-false-clause-found
returns-in-Ok-false-clause-found c =
    let among : is_among c.args.pin.now.name (names_of c.args.seen.now) ≡ true =
    is_new_pin c.args.pin.now.name c.bytes.result.now c.args.seen.now c.in-Ok-false.field-0 c.bytes.ensures c.in-Ok-false.ensures.new ∙ ap not c.in-Ok-false.field-0-test in
    sym (ap (λ (b : Bool). soonest (cond b (c.args.pin.now ∷ []) [])) among)

pub returns-in-Ok-false-clause-seen : goal.returns-in-Ok-false-clause-seen
returns-in-Ok-false-clause-seen c =
    let among : is_among c.args.pin.now.name (names_of c.args.seen.now) ≡ true =
    is_new_pin c.args.pin.now.name c.bytes.result.now c.args.seen.now c.in-Ok-false.field-0 c.bytes.ensures c.in-Ok-false.ensures.new ∙ ap not c.in-Ok-false.field-0-test in
    ap names_of (c.in-Ok-false.ensures.added ∙ ap (λ (b : Bool). cond b (c.args.seen.now ++ (c.bytes.result.now, 0) ∷ []) c.args.seen.now) c.in-Ok-false.field-0-test)
    ∙ sym (ap (λ (b : Bool). cond b (names_of c.args.seen.now) (names_of c.args.seen.now ++ c.args.pin.now.name ∷ [])) among)
