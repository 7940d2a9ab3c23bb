use Rattle.std.proofs.Common.{Err, ap, sym}
use Rattle.hold_cli.proofs.JobApart.{IsJobText-apart}
use Rattle.hold_cli.proofs.Answers.{delivered, refused}
use Rattle.hold_cli.proofs.top.repair.Goals as goal

pub deliver-requires-clause-apart : goal.deliver-requires-clause-apart
deliver-requires-clause-apart g c = λ same. (IsJobText-apart c.in-Ok.ensures.job.bytes c.args.name.now c.in-Ok.front.job c.in-Ok.ensures.job.says).output_certificate (sym same)

pub returns-in-Ok-clause-answer : goal.returns-in-Ok-clause-answer
returns-in-Ok-clause-answer g c =
    delivered (g.F.Files.told c.args.files.now) (g.F.Files.told c.read_front.new.files) (g.F.Files.told c.deliver.new.files) c.args.name.now
    c.in-Ok.front.job c.in-Ok.front.built.netlist c.read_front.ensures.stays c.in-Ok.ensures.job c.in-Ok.ensures.netlist c.in-Ok.ensures.built c.in-Ok.ensures.found
    c.deliver.result c.deliver.ensures.answer

pub returns-in-Err-Refused-clause-answer : goal.returns-in-Err-Refused-clause-answer
returns-in-Err-Refused-clause-answer g c =
    refused (g.F.Files.told c.args.files.now) (g.F.Files.told c.read_front.new.files) (g.F.Files.told c.refuse.new.files) c.args.name.now
    c.in-Err-Refused.fault c.refuse.result c.read_front.ensures.stays (c.in-Err-Refused.ensures.refused c.in-Err-Refused.fault (ap Err c.in-Err-Refused.field-0-is)) (λ text is. c.in-Err-Refused.ensures.first c.in-Err-Refused.fault text (ap Err c.in-Err-Refused.field-0-is) is)
    (c.in-Err-Refused.ensures.blamed c.in-Err-Refused.fault (ap Err c.in-Err-Refused.field-0-is)) c.refuse.ensures.answer
