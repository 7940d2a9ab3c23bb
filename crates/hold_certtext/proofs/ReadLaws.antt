-- What is answered for a text follows from what the answer says.
use Rattle.std.proofs.Common.{ℕ, List, refl, ap}
use Rattle.std.specs.Prelude.{Result, Ok, Err, IfOk}
use Rattle.hold_base.specs.Answers.{Answers, IfFault}
use Rattle.hold_base.specs.declared.stop.Stop.{Stop}
use Rattle.hold_base.specs.declared.stop.Stop.TheVariants.{Memory, Fault}
use Rattle.hold_proof.specs.declared.certificate.Certificate.{Certificate}
use Rattle.hold_certtext.specs.CertificateText.{certificate_lines, IsCertificate, IsFaultOf, IsTextOf}
use Rattle.hold_certtext.specs.declared.fault.CertFault.{CertFault}
use Rattle.hold_certtext.specs.declared.fault.CertFault.TheVariants.{Line}
use Rattle.hold_certtext.specs.Lines.{IsFirstBad}
use Rattle.hold_certtext.proofs.AcceptLaws.{certificate-are_lines}
use Rattle.hold_certtext.proofs.CertificateLaws.{text-one}
use Rattle.hold_certtext.proofs.MachineLemmas.{first_bad-one}

-- the text of a certificate has no first bad line
whole-good : (text : List ℕ) (certificate : Certificate) (number : ℕ) → IsTextOf text certificate → IsFirstBad IsCertificate text number → ⊥
whole-good text certificate number is bad =
    bad.not_whole (certificate_lines certificate) (certificate, record { spellable = is.spellable; in_range = is.in_range; is = refl }) is.is

pub read-text : (text : List ℕ) (result : Result Certificate (Stop CertFault)) → IfOk result (IsTextOf text) → IfFault result (IsFaultOf text)
    → (certificate : Certificate) → IsTextOf text certificate → Answers result (Ok certificate)
read-text text (Ok found) ok fault certificate is = ap (λ (c : Certificate). Ok c) (text-one text certificate found is ok)
read-text text (Err Memory) ok fault certificate is = tt
read-text text (Err (Fault (Line number))) ok fault certificate is = absurd (whole-good text certificate number is fault)

pub read-first_bad : (text : List ℕ) (result : Result Certificate (Stop CertFault)) → IfOk result (IsTextOf text) → IfFault result (IsFaultOf text)
    → (number : ℕ) → IsFirstBad IsCertificate text number → Answers result (Err (Line number))
read-first_bad text (Ok found) ok fault number bad = absurd (whole-good text found number ok bad)
read-first_bad text (Err Memory) ok fault number bad = tt
read-first_bad text (Err (Fault (Line other))) ok fault number bad =
    ap (λ (n : ℕ). Err (Line n)) (first_bad-one IsCertificate certificate-are_lines text number other bad fault)
