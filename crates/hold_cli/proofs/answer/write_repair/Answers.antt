use Rattle.hold_cli.proofs.RepairTexts.{first_fails, second_fails, line_fails, all_done}
use Rattle.hold_cli.proofs.answer.write_repair.Goals as goal

pub returns-in_default-clause-failed : goal.returns-in_default-clause-failed
returns-in_default-clause-failed g c =
    first_fails (g.F.Files.told c.args.files.now) (g.F.Files.told c.write_whole.new.files) c.args.job.now c.args.netlist.now
    c.in_default.ensures.failed c.in_default.ensures.left c.in_default.ensures.stays

pub returns-in_default-write_whole-clause-failed :
    goal.returns-in_default-write_whole-clause-failed
returns-in_default-write_whole-clause-failed g c =
    second_fails (g.F.Files.told c.args.files.now) (g.F.Files.told c.write_whole.new.files) (g.F.Files.told c.write_whole-2.new.files)
    c.args.job.now c.args.netlist.now c.requires
    (record { whole = c.in-Ok.ensures.written; only = c.in-Ok.ensures.stays })
    c.in_default-write_whole.ensures.failed c.in_default-write_whole.ensures.left c.in_default-write_whole.ensures.stays

pub returns-in_default-say_whole-clause-failed : goal.returns-in_default-say_whole-clause-failed
returns-in_default-say_whole-clause-failed g c =
    line_fails (g.F.Files.told c.args.files.now) (g.F.Files.told c.write_whole.new.files) (g.F.Files.told c.write_whole-2.new.files) (g.F.Files.told c.say_whole.new.files)
    c.args.job.now c.args.netlist.now c.requires
    (record { whole = c.in-Ok.ensures.written; only = c.in-Ok.ensures.stays })
    (record { whole = c.in-Ok-write_whole.ensures.written; only = c.in-Ok-write_whole.ensures.stays })
    c.in_default-say_whole.ensures.failed c.in_default-say_whole.ensures.left c.in_default-say_whole.ensures.stays

pub returns-clause-done : goal.returns-clause-done
returns-clause-done g c =
    all_done (g.F.Files.told c.args.files.now) (g.F.Files.told c.write_whole.new.files) (g.F.Files.told c.write_whole-2.new.files) (g.F.Files.told c.say_whole.new.files)
    c.args.job.now c.args.netlist.now c.requires
    (record { whole = c.in-Ok.ensures.written; only = c.in-Ok.ensures.stays })
    (record { whole = c.in-Ok-write_whole.ensures.written; only = c.in-Ok-write_whole.ensures.stays })
    c.in-Ok-say_whole.ensures.said c.in-Ok-say_whole.ensures.stays
