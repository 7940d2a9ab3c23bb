use Rattle.std.proofs.lemmas.Result.{err_from_is_err_and}
use Rattle.hold_files.proofs.Progress.{IsSaidTo-more, IsSaidTo-cut}
use Rattle.hold_files.proofs.writing.say_whole.Goals as goal

pub loop-place-preserved : goal.loop-place-preserved
loop-place-preserved g c = IsSaidTo-more _ _ _ _ _ _ c.loop-place.invariant c.in_ok-place.ensures.count c.in_ok-place.ensures.appended c.say.ensures.stays

pub returns-in_err-place-clause-left : goal.returns-in_err-place-clause-left
returns-in_err-place-clause-left g c =
    let error = err_from_is_err_and c.from_residual.result c.from_residual.ensures.1 in
    rw error.1 (IsSaidTo-cut _ _ (g.F.Files.told c.say.new.self) _ _ c.loop-place.invariant c.loop-place-test.true c.in_err-place.ensures.left)
