use Rattle.std.proofs.Common.{◌≤◌, ℕ, List, length, rules, subst}
use Rattle.hold_base.specs.Limits.{file_limit}
use Rattle.hold_cli.specs.inner.Front.{RefusesText}
use Rattle.hold_cli.proofs.FrontSteps.{bytes_blamed, bytes_refused}
use Rattle.hold_cli.proofs.front.read_netlist.Goals as goal

pub returns-clause-blamed : goal.returns-clause-blamed
returns-clause-blamed g c = λ fault is.
    let within : length c.in_ok-text.text.items ≤ file_limit = search (rules, c.in_ok-text.ensures.within) in
    bytes_blamed (g.F.Files.told c.args.files.now) c.args.job.now c.in_ok-text.text.items within c.in_ok-text.ensures.whole fault
    (subst (λ (t : List ℕ). RefusesText c.args.job.now t fault) c.as_slice.ensures.value (c.in-Err.ensures.refused fault is))

pub returns-clause-refused : goal.returns-clause-refused
returns-clause-refused g c = λ fault is.
    let within : length c.in_ok-text.text.items ≤ file_limit = search (rules, c.in_ok-text.ensures.within) in
    bytes_refused (g.F.Files.told c.args.files.now) c.args.job.now c.in_ok-text.text.items within c.in_ok-text.ensures.whole fault
    (subst (λ (t : List ℕ). RefusesText c.args.job.now t fault) c.as_slice.ensures.value (c.in-Err.ensures.refused fault is))
