use Rattle.std.proofs.Common.{arith, subst, sym, refl}
use Rattle.hold_told.specs.declared.named.Named.{Named}
use Rattle.hold_told.specs.inner.Told.{NamesPin}
use Rattle.hold_told.proofs.slots.add_time.Goals as goal

pub index-requires : goal.index-requires
index-requires c =
    let there = c.requires c.in-Pin.pin (subst (λ (n : Named). NamesPin n c.in-Pin.pin) (sym c.in-Pin.is) refl) in
    omega (arith, there, c.args.times.now.ok.0)

pub index_mut-requires : goal.index_mut-requires
index_mut-requires c =
    let there = c.requires c.in-Pin.pin (subst (λ (n : Named). NamesPin n c.in-Pin.pin) (sym c.in-Pin.is) refl) in
    omega (arith, there, c.args.times.now.ok.0)
