use Rattle.std.proofs.Common.{◌<◌, length, arith, IfSome, subst, sym}
use Rattle.std.proofs.lemmas.Bool.Decides.{nat_tests}
use Rattle.hold_sdflex.proofs.Backslashes.{bare_taken, bare_takes, bare_found, bare_other}
use Rattle.hold_sdflex.proofs.backslash.last_bare.Goals as goal
use Rattle.hold_sdflex.proofs.backslash.last_bare.Goals.{then-taken, else-taken+then-byte-eq92, else-taken+else-byte-eq92+then-byte-sign, else-taken+else-byte-eq92+else-byte-sign}

pub loop-place-preserved : goal.loop-place-preserved
loop-place-preserved c =
    let bytes = c.args.bytes.now in
    let i = c.loop-place.place in
    let last = c.loop-place.last in
    let within : i < length bytes = omega arith in
    elim c.if-taken.branch [
      | then-taken w ↦ let e = bare_taken c.args.sign bytes i 0 last within in
          record { counted = cc; within = subst (λ o. IfSome o (λ place. place < length bytes)) (sym w.last-is) c.loop-place.invariant.within }
      | else-taken+then-byte-eq92 w ↦ let e = bare_takes c.args.sign bytes i 0 last within (grind (arith, nat_tests)) in
          record { counted = cc; within = subst (λ o. IfSome o (λ place. place < length bytes)) (sym w.last-is) c.loop-place.invariant.within }
      | else-taken+else-byte-eq92+then-byte-sign w ↦ let e = bare_found c.args.sign bytes i 0 last within (grind (arith, nat_tests)) (grind (arith, nat_tests)) in
          record { counted = cc; within = subst (λ o. IfSome o (λ place. place < length bytes)) (sym w.last-is) within }
      | else-taken+else-byte-eq92+else-byte-sign w ↦ let e = bare_other c.args.sign bytes i 0 last within (grind (arith, nat_tests)) (grind (arith, nat_tests)) in
          record { counted = cc; within = subst (λ o. IfSome o (λ place. place < length bytes)) (sym w.last-is) c.loop-place.invariant.within }
    ]
