use Rattle.std.proofs.Common.{ℕ, ◌-◌, leb, leb-true, arith, rules}
use Rattle.std.proofs.lemmas.Bool.{leb-false}
use Rattle.std.proofs.lemmas.List.Sorted.{IsPartitionPoint-from_clause, IsPartitionedBy-leb}
use Rattle.hold_netlist.proofs.numbering.begun.Goals as goal

pub returns-clause-begun : goal.returns-clause-begun
returns-clause-begun c =
    let parted = IsPartitionedBy-leb (λ (y : ℕ). y) _ c.args.number c.requires in
    let point = IsPartitionPoint-from_clause (λ y. leb y c.args.number) _ _ c.partition_point.ensures.partitioned parted (λ a r q k. search rules) in
    λ h. leb-true _ _ (point.0 (c.partition_point.result - 1) 0 (omega arith) (omega arith))

pub returns-clause-rest : goal.returns-clause-rest
returns-clause-rest c =
    let parted = IsPartitionedBy-leb (λ (y : ℕ). y) _ c.args.number c.requires in
    let point = IsPartitionPoint-from_clause (λ y. leb y c.args.number) _ _ c.partition_point.ensures.partitioned parted (λ a r q k. search rules) in
    λ h. leb-false _ _ (point.1 c.partition_point.result 0 (omega arith) h)
