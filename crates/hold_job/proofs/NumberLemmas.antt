-- Numbers that were read are in their range.
use Rattle.std.proofs.Common.{◌≡◌, ℕ, ℤ, pos, negsuc, ◌≤◌, Bool, true, false, ◌&&◌, cond, Option, Some, None, List, [], refl, ◌∙◌, arith}
use Rattle.std.specs.Prelude.{Ok, Err, nat_le}
use Rattle.std.proofs.lemmas.Bool.Decides.{nat_tests}
use Rattle.toml.specs.Data.{Data, Members, get_member, as_integer}
use Rattle.hold_job.specs.declared.fault.JobFault.TheVariants.{Range}
use Rattle.hold_job.specs.Outcome.{Outcome, ◌>>=◌, of_kind, at}
use Rattle.hold_job.specs.Keys.{required, given_or, or_else}
use Rattle.hold_job.specs.Numbers.{from_to, number}

ranged : (least most m n : ℕ) (low high : Bool) → nat_le m most ≡ high → cond (low && high) (Ok m) (Err (Range [])) ≡ Ok n → n ≤ most
ranged least most m n true true is e = let same : m ≡ n = cc in grind (arith, nat_tests)
ranged least most m n true false is e = cc
ranged least most m n false high is e = cc

from_to_small : (least most : ℕ) (z : ℤ) (n : ℕ) → from_to least most z ≡ Ok n → n ≤ most
from_to_small least most (pos m) n e = ranged least most m n (nat_le least m) (nat_le m most) refl e
from_to_small least most (negsuc m) n e = cc

number_small : (least most : ℕ) (d : Data) (n : ℕ) → number least most d ≡ Ok n → n ≤ most
number_small least most d n = by (as_integer d)
  where
    by : (o : Option ℤ) → (of_kind o >>= from_to least most) ≡ Ok n → n ≤ most
    by None e = cc
    by (Some z) e = from_to_small least most z n e

pub required_small : (least most : ℕ) (key : List ℕ) (ms : Members) (n : ℕ) → required (number least most) key ms ≡ Ok n → n ≤ most
required_small least most key ms n = by (get_member key ms)
  where
    then : (d : Data) (o : Outcome ℕ) → number least most d ≡ o → at key o ≡ Ok n → n ≤ most
    then d (Ok m) is e = number_small least most d n (is ∙ e)
    then d (Err fault) is e = cc

    by : (o : Option Data) → at key (of_kind o >>= number least most) ≡ Ok n → n ≤ most
    by None e = cc
    by (Some d) e = then d (number least most d) refl e

pub or_else_small : (least most otherwise : ℕ) (key : List ℕ) (ms : Members) (n : ℕ) → otherwise ≤ most → or_else otherwise (number least most) key ms ≡ Ok n → n ≤ most
or_else_small least most otherwise key ms n usual = by (get_member key ms)
  where
    then : (d : Data) (o : Outcome ℕ) → number least most d ≡ o → at key o ≡ Ok n → n ≤ most
    then d (Ok m) is e = number_small least most d n (is ∙ e)
    then d (Err fault) is e = cc

    by : (o : Option Data) → at key (given_or otherwise (number least most) o) ≡ Ok n → n ≤ most
    by None e = let same : otherwise ≡ n = cc in omega (arith, same)
    by (Some d) e = then d (number least most d) refl e
