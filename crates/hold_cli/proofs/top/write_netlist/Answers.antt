use Rattle.std.proofs.Common.{◌∙◌}
use Rattle.hold_cli.proofs.Deliveries.{repair_done, repair_fails}
use Rattle.hold_cli.proofs.top.write_netlist.Goals as goal

pub returns-in-Ok-write_repair-clause-answer : goal.returns-in-Ok-write_repair-clause-answer
returns-in-Ok-write_repair-clause-answer g c =
    repair_done (g.F.Files.told c.args.files.now) (g.F.Files.told c.write_repair.new.files) c.args.front.now.job c.args.front.now.built.netlist
    c.as_slice.result.now (c.as_slice.ensures.value ∙ c.in-Ok.ensures) c.requires.met c.in-Ok-write_repair.ensures.done

pub returns-in-Ok-clause-answer : goal.returns-in-Ok-clause-answer
returns-in-Ok-clause-answer g c =
    repair_fails (g.F.Files.told c.args.files.now) (g.F.Files.told c.write_repair.new.files) c.args.front.now.job c.args.front.now.built.netlist
    c.as_slice.result.now (c.as_slice.ensures.value ∙ c.in-Ok.ensures) c.requires.met c.in-Err-write_repair.ensures.failed
