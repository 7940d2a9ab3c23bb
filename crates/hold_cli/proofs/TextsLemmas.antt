-- What holds of texts that were written after reading holds from before the reading on.
use Rattle.std.proofs.Common.{◌≡◌, inl, inr, ℕ, List, [], ◌∷◌, ◌++◌, arith, subst}
use Rattle.hold_files.specs.Told.{Told, Rose, Keeps, OnlyReads}
use Rattle.hold_cli.specs.Texts.{Ready, AreWhole, NotAmong, IsDone, FailsInFile, FailsInLine, Fails, SaysNothing}

AreWhole-after : (old mid new : Told) (files : List (List ℕ × List ℕ)) → OnlyReads old mid → AreWhole mid new files → AreWhole old new files
AreWhole-after old mid new [] reads whole = tt
AreWhole-after old mid new (file ∷ files) reads whole =
    (λ some. whole.0 (reads.goes_on.contents file.0 some), AreWhole-after old mid new files reads whole.1)

pub IsDone-after : (old mid new : Told) (ready : Ready) → OnlyReads old mid → IsDone mid new ready → IsDone old new ready
IsDone-after old mid new ready reads done = record {
  files = AreWhole-after old mid new ready.files reads done.files;
  others = λ q among text is. done.others q among text (reads.contents q text is);
  said = λ before is. done.said before (reads.said before is);
}

FailsInFile-after : (old mid new : Told) (ready : Ready) → OnlyReads old mid → FailsInFile mid new ready → FailsInFile old new ready
FailsInFile-after old mid new ready reads fails = record {
  done = fails.done;
  file = fails.file;
  text = fails.text;
  rest = fails.rest;
  parts = fails.parts;
  whole = AreWhole-after old mid new fails.done reads fails.whole;
  part = λ before is. fails.part before (reads.contents fails.file before is);
  others = λ q among text is. fails.others q among text (reads.contents q text is);
  unsaid = λ before is. fails.unsaid before (reads.said before is);
  cause = rose fails.cause;
}
  where
    same : mid.write_faults fails.file ≡ old.write_faults fails.file
    same = reads.writes fails.file

    rose : Rose (mid.write_faults fails.file) (new.write_faults fails.file) → Rose (old.write_faults fails.file) (new.write_faults fails.file)
    rose (inl more) = inl (omega (arith, same))
    rose (inr full) = inr full

FailsInLine-after : (old mid new : Told) (ready : Ready) → OnlyReads old mid → FailsInLine mid new ready → FailsInLine old new ready
FailsInLine-after old mid new ready reads fails = record {
  files = AreWhole-after old mid new ready.files reads fails.files;
  others = λ q among text is. fails.others q among text (reads.contents q text is);
  part = λ before is. fails.part before (reads.said before is);
  cause = rose fails.cause;
}
  where
    rose : Rose mid.say_faults new.say_faults → Rose old.say_faults new.say_faults
    rose (inl more) = inl (omega (arith, reads.says))
    rose (inr full) = inr full

pub Fails-after : (old mid new : Told) (ready : Ready) → OnlyReads old mid → Fails mid new ready → Fails old new ready
Fails-after old mid new ready reads (inl fails) = inl (FailsInFile-after old mid new ready reads fails)
Fails-after old mid new ready reads (inr fails) = inr (FailsInLine-after old mid new ready reads fails)

pub SaysNothing-reads : (old new : Told) → OnlyReads old new → SaysNothing old new
SaysNothing-reads old new reads = record { contents = reads.contents; said = reads.said }

front_among : (q : List ℕ) (done rest : List (List ℕ × List ℕ)) (file : List ℕ × List ℕ) → NotAmong q (done ++ file ∷ rest) → NotAmong q (done ++ file ∷ [])
front_among q [] rest file none = (none.0, tt)
front_among q (f ∷ done) rest file none = (none.0, front_among q done rest file none.1)

-- a file that is among no texts stays as it was when one of them fails
pub Fails-keeps : (old new : Told) (ready : Ready) (q : List ℕ) → NotAmong q ready.files → Fails old new ready → Keeps old new q
Fails-keeps old new ready q none (inl fails) =
    fails.others q (front_among q fails.done fails.rest (fails.file, fails.text) (subst (λ (fs : List (List ℕ × List ℕ)). NotAmong q fs) fails.parts none))
Fails-keeps old new ready q none (inr fails) = fails.others q none
