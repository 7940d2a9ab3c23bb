-- The pin that an arc leads from has a lower rank than the pin that it ends at.
use Rattle.std.proofs.Common.{◌≡◌, ℕ, ◌+◌, ◌*◌, ◌^◌, ◌<◌, ◌≤◌, refl, ap, arith, ◌⊎◌, inl, inr}
use Rattle.std.specs.Prelude.{Some}
use Rattle.std.proofs.lemmas.Option.{same_Some}
use Rattle.hold_base.proofs.Bools.{cond-Some}
use Rattle.hold_netlist.specs.declared.inst.Source.{Source}
use Rattle.hold_netlist.specs.declared.inst.Source.TheVariants.{Net, Zero, One, Empty}
use Rattle.hold_plain.specs.declared.pin_use.PinUse.{PinUse}
use Rattle.hold_plain.specs.declared.pin_use.PinRole.{PinRole}
use Rattle.hold_plain.specs.declared.pin_use.PinRole.TheVariants.{Input, Output, Clock, Data, Launch, InPort, OutPort, Stray}
use Rattle.hold_plain.specs.PinUses.{is_tied}
use Rattle.hold_plain.specs.Keys.{net_of, driven_as, driven, fed_as, fed}
use Rattle.hold_plain.specs.inner.Problem.{rank_as, rank_of}

-- the roles of pins that read the net that they are tied to
abbrev pub IsReader : PinRole → Type 0
IsReader Input = Unit {0}
IsReader Clock = Unit {0}
IsReader Data = Unit {0}
IsReader OutPort = Unit {0}
IsReader Output = ⊥
IsReader Launch = ⊥
IsReader InPort = ⊥
IsReader Stray = ⊥

pub same_net : (source : Source) (net : ℕ) → net_of source ≡ Some net → source ≡ Net (record { 0 = net })
same_net (Net n) net e = let same : n.0 ≡ net = same_Some n.0 net e in ap (λ (k : ℕ). Net (record { 0 = k })) same
same_net Zero net e = cc
same_net One net e = cc
same_net Empty net e = cc

-- what drives a net is an output of a combinational instance, or has rank 0; and it is tied to the net
driver_cases : (role : PinRole) (source : Source) (inst net : ℕ) → driven_as role source ≡ Some net → (role ≡ Output) ⊎ (rank_as role inst ≡ 0)
driver_cases Input source inst net e = cc
driver_cases Output source inst net e = inl refl
driver_cases Clock source inst net e = cc
driver_cases Data source inst net e = cc
driver_cases Launch source inst net e = inr refl
driver_cases InPort source inst net e = inr refl
driver_cases OutPort source inst net e = cc
driver_cases Stray source inst net e = cc

-- a reader's rank is above that of outputs of instances before its own, and above 0
reader_rank : (role : PinRole) (inst other : ℕ) → IsReader role → (role ≡ Input → other < inst) → other ≤ 2 ^ 18 → 2 * other + 2 < rank_as role inst
reader_rank Input inst other reads forward few = let lt = forward refl in omega arith
reader_rank Output inst other reads forward few = absurd reads
reader_rank Clock inst other reads forward few = omega arith
reader_rank Data inst other reads forward few = omega arith
reader_rank Launch inst other reads forward few = absurd reads
reader_rank InPort inst other reads forward few = absurd reads
reader_rank OutPort inst other reads forward few = omega arith
reader_rank Stray inst other reads forward few = absurd reads

reader_positive : (role : PinRole) (inst : ℕ) → IsReader role → 0 < rank_as role inst
reader_positive Input inst reads = omega arith
reader_positive Output inst reads = absurd reads
reader_positive Clock inst reads = omega arith
reader_positive Data inst reads = omega arith
reader_positive Launch inst reads = absurd reads
reader_positive InPort inst reads = absurd reads
reader_positive OutPort inst reads = omega arith
reader_positive Stray inst reads = absurd reads

-- a wire's ends
pub wire_rises : (from to : PinUse) (net : ℕ) → driven from ≡ Some net → IsReader to.role → (from.role ≡ Output → to.role ≡ Input → from.inst < to.inst) →
    from.inst ≤ 2 ^ 18 → rank_of from < rank_of to
wire_rises from to net drives reads forward few = by_case (driver_cases from.role from.source from.inst net drives)
  where
    by_case : ((from.role ≡ Output) ⊎ (rank_as from.role from.inst ≡ 0)) → rank_as from.role from.inst < rank_as to.role to.inst
    by_case (inl is) =
        let rank : rank_as from.role from.inst ≡ 2 * from.inst + 2 = ap (λ (r : PinRole). rank_as r from.inst) is in
        let above = reader_rank to.role to.inst from.inst reads (forward is) few in
        omega arith
    by_case (inr is) = let above = reader_positive to.role to.inst reads in omega arith

-- what is fed is an input of its instance
pub fed_cases : (role : PinRole) (source : Source) (inst key : ℕ) → fed_as role source inst ≡ Some key → (role ≡ Input) × (inst ≡ key)
fed_cases Input source inst key e = (refl, same_Some inst key (cond-Some (is_tied source) (Some inst) key e))
fed_cases Output source inst key e = cc
fed_cases Clock source inst key e = cc
fed_cases Data source inst key e = cc
fed_cases Launch source inst key e = cc
fed_cases InPort source inst key e = cc
fed_cases OutPort source inst key e = cc
fed_cases Stray source inst key e = cc

-- the ends of a cell arc
pub cell_rises : (from to : PinUse) → fed from ≡ Some to.inst → to.role ≡ Output → rank_of from < rank_of to
cell_rises from to feeds is =
    let input = fed_cases from.role from.source from.inst to.inst feeds in
    let low : rank_as from.role from.inst ≡ 2 * from.inst + 1 = ap (λ (r : PinRole). rank_as r from.inst) input.0 in
    let high : rank_as to.role to.inst ≡ 2 * to.inst + 2 = ap (λ (r : PinRole). rank_as r to.inst) is in
    let same : from.inst ≡ to.inst = input.1 in
    omega arith
