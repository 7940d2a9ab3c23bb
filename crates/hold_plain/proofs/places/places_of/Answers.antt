use Rattle.std.proofs.Common.{◌+◌, length, arith, rules, sym, ◌∙◌, ap, subst}
use Rattle.std.specs.Prelude.{Some}
use Rattle.std.proofs.lemmas.Grind.{common_steps}
use Rattle.std.proofs.lemmas.List.{length-set}
use Rattle.hold_plain.proofs.PlaceTables.{IsTableUpTo, table-empty, table-skip, table-put_free, table-twice, table-one, table-places}
use Rattle.hold_plain.proofs.places.places_of.Goals as goal
use Rattle.hold_plain.proofs.places.places_of.Goals.{in-Some+else-is_some, in_default}

pub returns-then-is_some-clause-none : goal.returns-then-is_some-clause-none
returns-then-is_some-clause-none c =
    table-twice c.args.bound c.loop-place.place c.in-Some.key c.index.result.now c.args.keys.now c.loop-place.table.items
    c.requires.below c.loop-place.invariant.len c.loop-place-test.true c.in-Some.is c.index.ensures (search rules) c.loop-place.invariant.places

pub loop-place-init : goal.loop-place-init
loop-place-init c = record { len = search rules; places = table-empty _ _ (λ key. grind (arith, common_steps)) }

pub loop-place-preserved : goal.loop-place-preserved
loop-place-preserved c =
    elim c.match-key.branch [
      | in-Some+else-is_some w ↦ record {
        len = ap (λ v. length v.items) w.table-is ∙ length-set c.loop-place.table.items w.in-Some.key (Some c.loop-place.place) ∙ c.loop-place.invariant.len;
        places = subst (IsTableUpTo c.args.keys.now (c.loop-place.place + 1)) (sym (ap (λ v. v.items) w.table-is))
            (table-put_free c.args.bound c.loop-place.place w.in-Some.key w.index.result.now c.args.keys.now c.loop-place.table.items
            c.requires.below c.loop-place.invariant.len c.loop-place-test.true w.in-Some.is w.index.ensures (search rules) c.loop-place.invariant.places);
      }
      | in_default w ↦ record {
        len = ap (λ v. length v.items) w.table-is ∙ c.loop-place.invariant.len;
        places = subst (IsTableUpTo c.args.keys.now (c.loop-place.place + 1)) (sym (ap (λ v. v.items) w.table-is))
            (table-skip c.args.keys.now c.loop-place.place c.loop-place.table.items c.loop-place-test.true w.in_default.is c.loop-place.invariant.places);
      }
    ]

pub returns-clause-one : goal.returns-clause-one
returns-clause-one c = table-one c.args.keys.now c.loop-place.place c.loop-place.table.items (omega arith) c.loop-place.invariant.places

pub returns-clause-table : goal.returns-clause-table
returns-clause-table c = record {
  below = c.requires.below;
  each = c.loop-place.invariant.len;
  places = table-places c.args.keys.now c.loop-place.place c.loop-place.table.items (omega arith) c.loop-place.invariant.places;
}
