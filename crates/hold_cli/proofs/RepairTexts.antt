-- Two files and a line, written one after another: what stands when one of them failed, and when none did.
use Rattle.std.proofs.Common.{◌≡◌, ◌≢◌, inl, inr, ℕ, ◌≤◌, List, [], ◌∷◌, ◌++◌, Some, IsSome, arith, refl, sym}
use Rattle.hold_files.specs.Told.{Told, Rose, OnlyWrites, OnlySays}
use Rattle.hold_files.specs.Whole.{IsPartWritten, IsPartSaid}
use Rattle.hold_cli.specs.declared.job_form.Job.{Job}
use Rattle.hold_cli.specs.Texts.{AreWhole, OthersKeep, IsDone, Fails}
use Rattle.hold_cli.specs.Answer.{repair_texts, whole_certificate, repaired_line}

-- a count that rose later rose since the beginning
rose_since : (a b c : ℕ) → a ≤ b → Rose b c → Rose a c
rose_since a b c before (inl more) = inl (omega arith)
rose_since a b c before (inr full) = inr full

-- the first file was written: what is known of it
pub record IsWritten (old new : Told) (file text : List ℕ) : Type 0 where
  pub whole : IsSome (old.content file) → new.content file ≡ Some text
  pub only : OnlyWrites old new file

pub first_fails : (old new : Told) (job : Job) (text : List ℕ) → Rose (old.write_faults job.certificate) (new.write_faults job.certificate)
    → IsPartWritten old new job.certificate whole_certificate → OnlyWrites old new job.certificate → Fails old new (repair_texts job text)
first_fails old new job text rose part only = inl record {
  done = [];
  file = job.certificate;
  text = whole_certificate;
  rest = (job.output, text) ∷ [];
  parts = refl;
  whole = tt;
  part = part;
  others = λ q among. only.elsewhere q among.0;
  unsaid = only.said;
  cause = rose;
}

pub second_fails : (old mid new : Told) (job : Job) (text : List ℕ) → job.certificate ≢ job.output → IsWritten old mid job.certificate whole_certificate
    → Rose (mid.write_faults job.output) (new.write_faults job.output)
    → IsPartWritten mid new job.output text → OnlyWrites mid new job.output → Fails old new (repair_texts job text)
second_fails old mid new job text apart first rose part only = inl record {
  done = (job.certificate, whole_certificate) ∷ [];
  file = job.output;
  text = text;
  rest = [];
  parts = refl;
  whole = (λ some. only.elsewhere job.certificate apart whole_certificate (first.whole some), tt);
  part = λ before is. part before (first.only.elsewhere job.output (λ e. apart (sym e)) before is);
  others = λ q among before is. only.elsewhere q among.1.0 before (first.only.elsewhere q among.0 before is);
  unsaid = λ said is. only.said said (first.only.said said is);
  cause = rose_since _ _ _ (first.only.goes_on.writes job.output) rose;
}

both_whole : (old mid new last : Told) (job : Job) (text : List ℕ) → job.certificate ≢ job.output → IsWritten old mid job.certificate whole_certificate
    → IsWritten mid new job.output text → OnlySays new last → AreWhole old last (repair_texts job text).files
both_whole old mid new last job text apart first second only = (
  λ some. only.contents job.certificate whole_certificate (second.only.elsewhere job.certificate apart whole_certificate (first.whole some)),
  (λ some. only.contents job.output text (second.whole (first.only.goes_on.contents job.output some)), tt),
)

others_kept : (old mid new last : Told) (job : Job) (text : List ℕ) → IsWritten old mid job.certificate whole_certificate
    → IsWritten mid new job.output text → OnlySays new last → OthersKeep old last (repair_texts job text).files
others_kept old mid new last job text first second only = λ q among before is.
    only.contents q before (second.only.elsewhere q among.1.0 before (first.only.elsewhere q among.0 before is))

pub line_fails : (old mid new last : Told) (job : Job) (text : List ℕ) → job.certificate ≢ job.output → IsWritten old mid job.certificate whole_certificate
    → IsWritten mid new job.output text → Rose new.say_faults last.say_faults → IsPartSaid new last repaired_line → OnlySays new last
    → Fails old last (repair_texts job text)
line_fails old mid new last job text apart first second rose part only = inr record {
  files = both_whole old mid new last job text apart first second only;
  others = others_kept old mid new last job text first second only;
  part = λ before is. part before (second.only.said before (first.only.said before is));
  cause = rose_since _ _ _ says rose;
}
  where
    says : old.say_faults ≤ new.say_faults
    says = omega (arith, first.only.goes_on.says, second.only.goes_on.says)

pub all_done : (old mid new last : Told) (job : Job) (text : List ℕ) → job.certificate ≢ job.output → IsWritten old mid job.certificate whole_certificate
    → IsWritten mid new job.output text → ((before : List ℕ) → new.said ≡ Some before → last.said ≡ Some (before ++ repaired_line)) → OnlySays new last
    → IsDone old last (repair_texts job text)
all_done old mid new last job text apart first second said only = record {
  files = both_whole old mid new last job text apart first second only;
  others = others_kept old mid new last job text first second only;
  said = λ before is. said before (second.only.said before (first.only.said before is));
}
