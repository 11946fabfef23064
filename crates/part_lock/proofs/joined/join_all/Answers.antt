use Rattle.part_lock.proofs.Hands.{workers_fit}
use Rattle.part_lock.proofs.joined.join_all.Goals as goal

pub join_fitting-requires-clause-fits : goal.join_fitting-requires-clause-fits
join_fitting-requires-clause-fits g c κs within = let q = c.requires.ran in workers_fit g.M.Machine.rules _ _ q.0 _ q.1 q.2 q.3
