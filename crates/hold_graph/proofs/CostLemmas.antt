-- How many variables a problem has, and how large a sum of costs can be.
use Rattle.std.proofs.Common.{ℕ, zero, suc, ◌*◌, ◌^◌, ◌<◌, ◌≤◌, List, length, arith}
use Rattle.std.proofs.Math.Nat.{mul-le-mul_left}
use Rattle.hold_base.specs.declared.number.PinNo.{PinNo}
use Rattle.hold_graph.specs.declared.graph.Parts.{Parts}
use Rattle.hold_graph.specs.declared.problem.Problem.{Problem}
use Rattle.hold_graph.specs.Graph.{NamesItsPins}
use Rattle.hold_graph.specs.Problem.{IsValid}
use Rattle.hold_graph.specs.SitePins.{IsSite, AreSites}
use Rattle.hold_graph.proofs.SiteLists.{rising-few, site-there}
use Rattle.std.proofs.lemmas.List.Elements.{All-weaker}

pub sites-few : (parts : Parts) (sites : List PinNo) → NamesItsPins parts → AreSites parts sites → length sites ≤ parts.pins
sites-few parts sites numbers are =
    rising-few parts.pins sites are.rising (All-weaker (IsSite parts) (λ (pin : PinNo). pin.0 < parts.pins) (λ pin site. site-there parts pin numbers site) sites are.sound)

-- a problem has at most 2^23 variables
pub variables-few : (problem : Problem) (sites : ℕ) → IsValid problem → sites ≤ problem.graph.pins → sites * length problem.costs ≤ 2 ^ 23
variables-few problem sites valid few =
    let pins = valid.pins in
    let by_kinds : sites * length problem.costs ≤ sites * 8 = mul-le-mul_left sites valid.kinds in
    omega (arith, by_kinds)

-- where there is no kind there is no variable
pub kinds-some : (sites kinds : ℕ) → 0 < sites * kinds → 0 < kinds
kinds-some sites zero some = absurd (omega arith)
kinds-some sites (suc kinds) some = omega arith
