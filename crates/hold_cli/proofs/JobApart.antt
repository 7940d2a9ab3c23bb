-- A job writes two files, not one.
use Rattle.std.proofs.Common.{◌≡◌, ◌≢◌, ℕ, List, Bool, true, false, not, ◌&&◌, ◌||◌, refl}
use Rattle.std.specs.Prelude.{bytes_eq}
use Rattle.hold_base.proofs.Bools.{cond-Some}
use Rattle.hold_base.proofs.Bytes.{bytes_eq-apart}
use Rattle.hold_cli.specs.declared.job_form.Job.{Job}
use Rattle.hold_cli.specs.JobForm.{keeps_files, job_values, IsJobText}
use Rattle.hold_cli.specs.JobFormKeys.{kept, has_only, keys_of}
use Rattle.hold_cli.specs.declared.job_form.key.JobTable.TheVariants.{Job as JobKeys}
use Rattle.hold_cli.proofs.JobFormKept.{kept_passes}

-- the files that keeps_files keeps apart
pub record AreApart (own : List ℕ) (job : Job) : Type 0 where
  pub output_own : job.output ≢ own
  pub output_netlist : job.output ≢ job.netlist
  pub output_certificate : job.output ≢ job.certificate
  pub certificate_own : job.certificate ≢ own
  pub certificate_netlist : job.certificate ≢ job.netlist

record AllFalse (a b c d e : Bool) : Type 0 where
  first : a ≡ false
  second : b ≡ false
  third : c ≡ false
  fourth : d ≡ false
  fifth : e ≡ false

all_false : (a b c d e : Bool) → (not (a || b || c) && not (d || e)) ≡ true → AllFalse a b c d e
all_false false false false false false is = record { first = refl; second = refl; third = refl; fourth = refl; fifth = refl }
all_false false false false false true is = cc
all_false false false false true e is = cc
all_false false false true d e is = cc
all_false false true c d e is = cc
all_false true b c d e is = cc

apart : (own : List ℕ) (job : Job) → keeps_files own job ≡ true → AreApart own job
apart own job keeps =
    let none = all_false (bytes_eq job.output own) (bytes_eq job.output job.netlist) (bytes_eq job.output job.certificate)
    (bytes_eq job.certificate own) (bytes_eq job.certificate job.netlist) keeps in
    record {
      output_own = bytes_eq-apart job.output own none.first;
      output_netlist = bytes_eq-apart job.output job.netlist none.second;
      output_certificate = bytes_eq-apart job.output job.certificate none.third;
      certificate_own = bytes_eq-apart job.certificate own none.fourth;
      certificate_netlist = bytes_eq-apart job.certificate job.netlist none.fifth;
    }

pub IsJobText-apart : (text own : List ℕ) (job : Job) → IsJobText text own job → AreApart own job
IsJobText-apart text own job is =
    apart own job (kept_passes (keeps_files own) (job_values is.tree) job
    (cond-Some (has_only (keys_of JobKeys) is.tree) (kept (keeps_files own) (job_values is.tree)) job is.gives))
