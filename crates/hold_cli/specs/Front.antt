-- The order of work over a job, up to the point from which nothing is refused any more.
--
-- IsBuilt job netlist: a valid netlist of the form that is served today: scalar wires, no assignment, and a timing problem by what the job knows of time.
-- HasText told file text: the content of the file is told, it is this text, and it is within the limit.
-- IsTooLong told file: the content is told and passes the limit.
-- IsJobAt told name job: the file `name` holds this job. IsNetlistAt told job netlist: the netlist's file of the job holds a text that reads as this netlist.
-- ComesTo told name file: the work on the job in the file `name` reads `file`: that file itself, or the netlist of the job in it.
-- IsTold told name: the content of each file that the work comes to is told.
-- IsJobRead told name job: some bytes hold this job, and where the content of the file `name` is told, these bytes are it.
-- ComesToRead told name file: the work on the job in the file `name` reads `file`: that file itself, or the netlist of the job whose bytes were read of it.
-- IsNetlistRead told job netlist, IsFaultRead told job fault: some bytes read as this netlist, or have this first fault, and where the content of
--   the job's netlist file is told, these bytes are it.
-- BlamesNetlist told job fault: the refusal is one of the job's netlist: it names that file, or it is the first fault of the bytes that were read of it.
-- BlamesJob name fault: the refusal is one of the job itself, and names the job's file, which is `name`.
-- Blames told name fault: the refusal is one of the job in the file `name`, or of the netlist of the job whose bytes were read of that file.
-- HasNoJob told name: the file is told and within the limit, and it is no job of the form.
-- IsUnbuiltText job text: the text reads as a netlist that isn't served for the job. HasNoNetlist told job: the job's netlist is told and within the
--   limit, and is such a text.
-- HasFault told job fault: the job's netlist is told and within the limit, and this is its first fault.
-- RefusesJob, RefusesNetlist: why that one file is refused. Refuses told name fault: the first refusal in the order of work: first the job's, then
--   that of the netlist that the job names.
-- IsFront told name job netlist: nothing is refused, and these are the job and the netlist.
use Rattle.std.specs.Prelude.{◌≡◌, ◌⊎◌, ◌<◌, ◌≤◌, ℕ, List, length, Some, IsSome}
use Rattle.hold_base.specs.Limits.{file_limit}
use Rattle.hold_files.specs.Told.{Told}
use Rattle.hold_cli.specs.declared.job_form.Job.{Job}
use Rattle.hold_cli.specs.declared.outcome.Fault.{Fault}
use Rattle.hold_cli.specs.declared.outcome.Fault.TheVariants.{TooLong, Verilog, NotBuilt}
use Rattle.hold_cli.specs.JobForm.{IsJobText}
use Rattle.hold_netlist.specs.Design.{Design}
use Rattle.hold_netlist.specs.Valid.{IsValid}
use Rattle.hold_plain.specs.Served.{IsScalar, IsServed}
use Rattle.hold_vparse.specs.declared.fault.VerilogFault.{VerilogFault}
use Rattle.hold_vparse.specs.Reads.{Reads, IsFirstFault}

pub record IsBuilt (job : Job) (netlist : Design) : Type 0 where
  pub valid : IsValid netlist
  pub scalar : IsScalar netlist
  pub served : IsServed job.timing netlist

pub record HasText (told : Told) (file text : List ℕ) : Type 0 where
  pub content : told.content file ≡ Some text
  pub within : length text ≤ file_limit

pub record IsTooLong (told : Told) (file : List ℕ) : Type 0 where
  pub text : List ℕ
  pub content : told.content file ≡ Some text
  pub beyond : file_limit < length text

pub record IsJobAt (told : Told) (name : List ℕ) (job : Job) : Type 0 where
  pub text : List ℕ
  pub has : HasText told name text
  pub says : IsJobText text name job

pub record IsNetlistAt (told : Told) (job : Job) (netlist : Design) : Type 0 where
  pub text : List ℕ
  pub has : HasText told job.netlist text
  pub reads : Reads text netlist

pub record IsJobRead (told : Told) (name : List ℕ) (job : Job) : Type 0 where
  pub bytes : List ℕ
  pub says : IsJobText bytes name job
  pub are : (text : List ℕ) → told.content name ≡ Some text → bytes ≡ text

abbrev pub ComesToRead : Told → List ℕ → List ℕ → Type 0
ComesToRead told name file = (file ≡ name) ⊎ ((job : Job) × IsJobRead told name job × (file ≡ job.netlist))

pub record IsNetlistRead (told : Told) (job : Job) (netlist : Design) : Type 0 where
  pub bytes : List ℕ
  pub reads : Reads bytes netlist
  pub are : (text : List ℕ) → told.content job.netlist ≡ Some text → bytes ≡ text

pub record IsFaultRead (told : Told) (job : Job) (fault : VerilogFault) : Type 0 where
  pub bytes : List ℕ
  pub first : IsFirstFault bytes fault
  pub are : (text : List ℕ) → told.content job.netlist ≡ Some text → bytes ≡ text

abbrev pub BlamesNetlist : Told → Job → Fault → Type 0
BlamesNetlist told job (TooLong file) = file ≡ job.netlist
BlamesNetlist told job (Verilog fault) = IsFaultRead told job fault
BlamesNetlist told job (NotBuilt file) = file ≡ job.netlist

abbrev pub BlamesJob : List ℕ → Fault → Type 0
BlamesJob name (TooLong file) = file ≡ name
BlamesJob name (Verilog fault) = ⊥
BlamesJob name (NotBuilt file) = file ≡ name

abbrev pub Blames : Told → List ℕ → Fault → Type 0
Blames told name fault = BlamesJob name fault ⊎ ((job : Job) × IsJobRead told name job × BlamesNetlist told job fault)

pub record HasNoJob (told : Told) (name : List ℕ) : Type 0 where
  pub text : List ℕ
  pub has : HasText told name text
  pub none : (job : Job) → IsJobText text name job → ⊥

pub record IsUnbuiltText (job : Job) (text : List ℕ) : Type 0 where
  pub netlist : Design
  pub reads : Reads text netlist
  pub unbuilt : IsBuilt job netlist → ⊥

pub record HasNoNetlist (told : Told) (job : Job) : Type 0 where
  pub text : List ℕ
  pub has : HasText told job.netlist text
  pub is : IsUnbuiltText job text

pub record HasFault (told : Told) (job : Job) (fault : VerilogFault) : Type 0 where
  pub text : List ℕ
  pub has : HasText told job.netlist text
  pub first : IsFirstFault text fault

-- the first file, or the one that the job in it names
abbrev pub ComesTo : Told → List ℕ → List ℕ → Type 0
ComesTo told name file = (file ≡ name) ⊎ ((job : Job) × IsJobAt told name job × (file ≡ job.netlist))

pub record IsTold (told : Told) (name : List ℕ) : Type 0 where
  pub job : IsSome (told.content name)
  pub netlist : (job : Job) → IsJobAt told name job → IsSome (told.content job.netlist)

-- the job file, which is named, is too long or no job
abbrev pub RefusesJob : Told → List ℕ → Fault → Type 0
RefusesJob told name (TooLong file) = IsTooLong told name × (file ≡ name)
RefusesJob told name (Verilog fault) = ⊥
RefusesJob told name (NotBuilt file) = HasNoJob told name × (file ≡ name)

-- the netlist of the job, which is named, is too long, isn't read or isn't served for the job
abbrev pub RefusesNetlist : Told → Job → Fault → Type 0
RefusesNetlist told job (TooLong file) = IsTooLong told job.netlist × (file ≡ job.netlist)
RefusesNetlist told job (Verilog fault) = HasFault told job fault
RefusesNetlist told job (NotBuilt file) = HasNoNetlist told job × (file ≡ job.netlist)

abbrev pub Refuses : Told → List ℕ → Fault → Type 0
Refuses told name fault = RefusesJob told name fault ⊎ ((job : Job) × IsJobAt told name job × RefusesNetlist told job fault)

pub record IsFront (told : Told) (name : List ℕ) (job : Job) (netlist : Design) : Type 0 where
  pub at : IsJobAt told name job
  pub held : IsNetlistAt told job netlist
  pub built : IsBuilt job netlist
