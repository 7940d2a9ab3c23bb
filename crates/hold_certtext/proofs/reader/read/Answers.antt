use Rattle.hold_certtext.proofs.ReadLaws.{read-text, read-first_bad}
use Rattle.hold_certtext.proofs.reader.read.Goals as goal

pub returns-clause-read : goal.returns-clause-read
returns-clause-read c = read-text c.args.text.now c.read_certificate.result c.read_certificate.ensures.certificate c.read_certificate.ensures.fault

pub returns-clause-refused : goal.returns-clause-refused
returns-clause-refused c = read-first_bad c.args.text.now c.read_certificate.result c.read_certificate.ensures.certificate c.read_certificate.ensures.fault
