-- How the words on two moments compose along two steps.
use Rattle.std.proofs.Common.{List, ℕ, ◌∙◌, arith}
use Rattle.hold_files.specs.Told.{Told, GoesOn, OnlyReads, OnlyWrites, OnlySays}

pub GoesOn-trans : (a b c : Told) → GoesOn a b → GoesOn b c → GoesOn a c
GoesOn-trans a b c first second = record {
  reads = λ q. omega (arith, first.reads q, second.reads q);
  writes = λ q. omega (arith, first.writes q, second.writes q);
  says = omega arith;
  contents = λ q some. second.contents q (first.contents q some);
  said = λ some. second.said (first.said some);
}

pub OnlyReads-trans : (a b c : Told) → OnlyReads a b → OnlyReads b c → OnlyReads a c
OnlyReads-trans a b c first second = record {
  goes_on = GoesOn-trans a b c first.goes_on second.goes_on;
  contents = λ q text is. second.contents q text (first.contents q text is);
  said = λ said is. second.said said (first.said said is);
  writes = λ q. second.writes q ∙ first.writes q;
  says = second.says ∙ first.says;
}

pub OnlyWrites-trans : (a b c : Told) (name : List ℕ) → OnlyWrites a b name → OnlyWrites b c name → OnlyWrites a c name
OnlyWrites-trans a b c name first second = record {
  goes_on = GoesOn-trans a b c first.goes_on second.goes_on;
  elsewhere = λ q other text is. second.elsewhere q other text (first.elsewhere q other text is);
  said = λ said is. second.said said (first.said said is);
  reads = λ q. second.reads q ∙ first.reads q;
  says = second.says ∙ first.says;
}

pub OnlySays-trans : (a b c : Told) → OnlySays a b → OnlySays b c → OnlySays a c
OnlySays-trans a b c first second = record {
  goes_on = GoesOn-trans a b c first.goes_on second.goes_on;
  contents = λ q text is. second.contents q text (first.contents q text is);
  reads = λ q. second.reads q ∙ first.reads q;
  writes = λ q. second.writes q ∙ first.writes q;
}
