use Rattle.std.proofs.Common.{nat_lt, arith}
use Rattle.std.proofs.lemmas.List.Sorted.{IsPartitionPoint-from_clause}
use Rattle.std.proofs.lemmas.Bool.Decides.{nat_tests}
use Rattle.heap_sample.specs.declared.sample.ProfileRow.{ProfileRow}
use Rattle.heap_sample.proofs.RowFacts.{parted}
use Rattle.heap_sample.proofs.rows.Rows.place.Goals as goal

-- src/rows.rt:46:5
pub returns-clause-place : goal.returns-clause-place
returns-clause-place c = grind (arith, nat_tests, IsPartitionPoint-from_clause (λ (r : ProfileRow). nat_lt r.len c.args.len), parted)
