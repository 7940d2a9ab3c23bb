use Rattle.std.proofs.Common.{◌≡◌, ap, sym, subst}
use Rattle.std.specs.Prelude.{List}
use Rattle.hold_base.specs.declared.time.Side.TheVariants.{Early, Late}
use Rattle.hold_timing.specs.Arrivals.{Times, Table}
use Rattle.hold_timing.specs.inner.Search.{AreRoomFor}
use Rattle.hold_timing.proofs.AtCorners.{room_of}
use Rattle.hold_timing.proofs.arrivals.Arrivals.refresh.Goals as goal

pub refresh_side-requires-clause-room : goal.refresh_side-requires-clause-room
refresh_side-requires-clause-room c =
    subst (AreRoomFor Early c.args.problem.now) (sym (ap (λ (t : Table). t.early) c.self.view_is))
    (room_of Early c.args.problem.now c.args.self.now.counts c.args.self.now.early c.sites-sites.result.now c.sites-sites.ensures (c.requires.arrivals.sides Early))

pub refresh_side-requires-2-clause-room : goal.refresh_side-requires-2-clause-room
refresh_side-requires-2-clause-room c =
    subst (AreRoomFor Late c.args.problem.now) (sym (ap (λ (t : Table). t.late) c.self.view_is))
    (room_of Late c.args.problem.now c.args.self.now.counts c.args.self.now.late c.sites-sites.result.now c.sites-sites.ensures (c.requires.arrivals.sides Late))
