use Rattle.std.proofs.Common.{◌-◌, ◌≤◌, List, Bool, sym, subst, ap, ◌∙◌}
use Rattle.huge_cache.proofs.Common.{used_from, used_then, Cache}
use Rattle.huge_cache.proofs.tests.use_run.Goals as goal

pub give_run-requires-clause-out : goal.give_run-requires-clause-out
give_run-requires-clause-out c =
    subst (λ (row : List Bool). c.args.many ≤ used_from row (c.in-Some.first.0 - 1)) (sym (c.note.ensures ∙ ap (λ (v : Cache). v.taken) c.take_out.ensures))
    (used_then _ (c.in-Some.first.0 - 1) c.args.many c.requires c.in-Some.ensures.free)
