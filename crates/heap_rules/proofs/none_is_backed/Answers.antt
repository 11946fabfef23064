use Rattle.heap_rules.proofs.none_is_backed.Goals as goal
use Rattle.heap_rules.proofs.NoneBacked as law

pub returns : goal.returns
returns c = record { by_free = law.freed_backs_none; by_release = law.release_backs_none }
