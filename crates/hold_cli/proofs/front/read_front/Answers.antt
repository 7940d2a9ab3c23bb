use Rattle.std.proofs.Common.{◌≡◌, Err, inr, ap}
use Rattle.hold_cli.specs.declared.input.Stopped.TheVariants.{Refused, Read}
use Rattle.hold_files.proofs.ToldLemmas.{OnlyReads-trans}
use Rattle.hold_cli.proofs.FrontSteps.{netlist_refused, netlist_found, netlist_read, netlist_blamed}
use Rattle.hold_cli.proofs.front.read_front.Goals as goal

pub returns-in-Ok-clause-found : goal.returns-in-Ok-clause-found
returns-in-Ok-clause-found g c =
    netlist_found (g.F.Files.told c.args.files.now) (g.F.Files.told c.read_job.new.files) c.args.name.now c.in_ok-job.job c.in-Ok.built.netlist
    c.read_job.ensures.stays c.in_ok-job.ensures.at c.in-Ok.ensures.found c.in-Ok.ensures.built

pub returns-in-Ok-clause-stays : goal.returns-in-Ok-clause-stays
returns-in-Ok-clause-stays g c =
    OnlyReads-trans (g.F.Files.told c.args.files.now) (g.F.Files.told c.read_job.new.files) (g.F.Files.told c.read_netlist.new.files)
    c.read_job.ensures.stays c.read_netlist.ensures.stays

pub returns-in-Err-clause-stays : goal.returns-in-Err-clause-stays
returns-in-Err-clause-stays g c =
    OnlyReads-trans (g.F.Files.told c.args.files.now) (g.F.Files.told c.read_job.new.files) (g.F.Files.told c.read_netlist.new.files)
    c.read_job.ensures.stays c.read_netlist.ensures.stays

pub returns-in-Err-clause-refused : goal.returns-in-Err-clause-refused
returns-in-Err-clause-refused g c = λ fault is.
    let same : c.in-Err.stopped ≡ Refused fault = cc in
    netlist_refused (g.F.Files.told c.args.files.now) (g.F.Files.told c.read_job.new.files) c.args.name.now c.in_ok-job.job fault
    c.read_job.ensures.stays c.in_ok-job.ensures.at (c.in-Err.ensures.refused fault (ap Err same))

pub returns-in-Err-clause-first : goal.returns-in-Err-clause-first
returns-in-Err-clause-first g c = λ fault text is told.
    let same : c.in-Err.stopped ≡ Refused fault = cc in
    inr (
      c.in_ok-job.job,
      c.in_ok-job.ensures.at text told,
      netlist_blamed (g.F.Files.told c.args.files.now) (g.F.Files.told c.read_job.new.files) c.in_ok-job.job fault c.read_job.ensures.stays
          (c.in-Err.ensures.blamed fault (ap Err same)),
    )

pub returns-in-Ok-clause-netlist : goal.returns-in-Ok-clause-netlist
returns-in-Ok-clause-netlist g c =
    netlist_read (g.F.Files.told c.args.files.now) (g.F.Files.told c.read_job.new.files) c.in_ok-job.job c.in-Ok.built.netlist
    c.read_job.ensures.stays c.in-Ok.ensures.netlist

pub returns-in-Err-clause-named : goal.returns-in-Err-clause-named
returns-in-Err-clause-named g c = λ file is.
    let same : c.in-Err.stopped ≡ Read file = cc in
    inr (c.in_ok-job.job, c.in_ok-job.ensures.job, c.in-Err.ensures.read file (ap Err same))

pub returns-in-Err-clause-blamed : goal.returns-in-Err-clause-blamed
returns-in-Err-clause-blamed g c = λ fault is.
    let same : c.in-Err.stopped ≡ Refused fault = cc in
    inr (
      c.in_ok-job.job,
      c.in_ok-job.ensures.job,
      netlist_blamed (g.F.Files.told c.args.files.now) (g.F.Files.told c.read_job.new.files) c.in_ok-job.job fault c.read_job.ensures.stays
          (c.in-Err.ensures.blamed fault (ap Err same)),
    )
