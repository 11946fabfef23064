use Rattle.std.proofs.Common.{◌≡◌, ℕ, true, false, nat_le, get_or, inl, inr, ap, arith, rules, tests}
use Rattle.huge_region.proofs.Common.{cases_lt, leb-true, leb-false, RegionRow}
use Rattle.std.specs.List.Sorted.{IsPartitionPoint}
use Rattle.std.proofs.lemmas.List.Sorted.{IsPartitionPoint-from_clause, IsPartitionedBy-leb}
use Rattle.huge_region.proofs.Apart.{in_order}
use Rattle.huge_region.proofs.regions.begun_by.Goals as goal
use Rattle.huge_region.proofs.regions.begun_by.Goals.{After-partition_point}

point : (c : After-partition_point) → IsPartitionPoint (λ r. nat_le r.first c.args.huge.0 ≡ true) (λ r. nat_le r.first c.args.huge.0 ≡ false) c.args.regions.now c.partition_point.result
point c =
    let h = c.args.huge.0 in
    let rs = c.args.regions.now in
    IsPartitionPoint-from_clause (λ (r : RegionRow). nat_le r.first h) rs c.partition_point.result c.partition_point.ensures.partitioned
    (IsPartitionedBy-leb (λ (r : RegionRow). r.first) rs h (λ i j d le l.
    elim (cases_lt i j) [
      | inl less ↦ in_order c.args.width 1 rs i j d c.requires less l
      | inr same ↦ (let e : i ≡ j = omega arith in omega (arith, ap (λ (k : ℕ). (get_or rs k d).first) e))
    ])) (λ a r q k. search (rules, tests))

pub returns-clause-before : goal.returns-clause-before
returns-clause-before c = λ i d l. leb-true (get_or c.args.regions.now i d).first c.args.huge.0 ((point c).0 i d (omega arith) l)

pub returns-clause-behind : goal.returns-clause-behind
returns-clause-behind c = λ i d from l. leb-false (get_or c.args.regions.now i d).first c.args.huge.0 ((point c).1 i d from l)
