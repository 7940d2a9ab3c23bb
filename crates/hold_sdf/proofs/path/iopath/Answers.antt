use Rattle.std.proofs.Common.{subst}
use Rattle.hold_sdflex.specs.ItemsRead.{group_read}
use Rattle.hold_sdf.specs.inner.Adds.{Adds}
use Rattle.hold_sdf.specs.inner.Shown.{shown_path, shown_scene}
use Rattle.hold_sdf.proofs.AddLemmas.{iopath_right}
use Rattle.hold_sdf.proofs.path.iopath.Goals as goal

pub returns : goal.returns
returns c =
    let same = iopath_right (shown_scene c.args.scene.now) c.args.blamed c.args.right (group_read c.args.group.now) (shown_path c.in-Some-iopath_of.path) c.in_default.ensures c.if-not-right.false c.in-Some-iopath_of.ensures in
    subst (λ answer. Adds c.add_arc.result c.args.entries.now.items c.add_arc.new.entries.items answer) same (c.add_arc.ensures c.args.blamed)
