use Rattle.std.proofs.Common.{◌-◌, ◌≤◌, sym, subst}
use Rattle.huge_cache.proofs.Common.{used_from, used_then, Cache}
use Rattle.huge_cache.proofs.tests.all_backed.Goals as goal

pub give_run-requires-clause-out : goal.give_run-requires-clause-out
give_run-requires-clause-out c =
    subst (λ (v : Cache). c.args.huge ≤ used_from v.taken (c.in-Some.first.0 - 1)) (sym c.take_out.ensures)
    (used_then _ (c.in-Some.first.0 - 1) c.args.huge c.requires.some c.in-Some.ensures.free)
