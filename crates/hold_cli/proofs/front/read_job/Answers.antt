use Rattle.std.proofs.Common.{◌≡◌, ◌≤◌, ℕ, List, length, rules, Ok, ap, refl, subst}
use Rattle.hold_cli.specs.declared.job_form.Job.{Job as JobData}
use Rattle.hold_cli.specs.declared.input.Stopped.TheVariants.{Refused}
use Rattle.hold_cli.specs.declared.outcome.Fault.TheVariants.{NotBuilt}
use Rattle.hold_base.specs.Limits.{file_limit}
use Rattle.hold_cli.specs.JobForm.{IsJobText}
use Rattle.hold_cli.proofs.FrontSteps.{not_a_job}
use Rattle.hold_cli.proofs.front.read_job.Goals as goal

pub returns-clause-refused : goal.returns-clause-refused
returns-clause-refused g c = λ fault is.
    let same : Refused (NotBuilt c.args.name.now) ≡ Refused fault = cc (c.in_ok-stopped-in-None.ensures) in
    let within : length c.in_ok-text.text.items ≤ file_limit = search (rules, c.in_ok-text.ensures.within) in
    let none : (job : JobData) → IsJobText c.in_ok-text.text.items c.args.name.now job → ⊥ =
    subst (λ (t : List ℕ). (job : JobData) → IsJobText t c.args.name.now job → ⊥) c.as_slice.ensures.value (c.in_ok-found.ensures.none (ap Ok c.in-None.is)) in
    not_a_job (g.F.Files.told c.args.files.now) c.args.name.now c.in_ok-text.text.items c.args.name.now fault same refl
    within none c.in_ok-text.ensures.whole

pub returns-in-Some-clause-limits : goal.returns-in-Some-clause-limits
returns-in-Some-clause-limits g c = c.in_ok-found.ensures.limits c.in-Some.job (ap Ok c.in-Some.is)
