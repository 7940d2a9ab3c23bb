use Rattle.hold_certtext.proofs.CertificateLaws.{text-one}
use Rattle.hold_certtext.proofs.reader.know_one_certificate.Goals as goal

pub returns : goal.returns
returns c = text-one
