use Rattle.std.proofs.Common.{◌≡◌, ◌+◌, map, take, length}
use Rattle.std.specs.List.{sum_by}
use Rattle.merge_journal.specs.Placed.{put_all, all_in}
use Rattle.merge_journal.proofs.threads.put_lists.Given as goal

abbrev pub invariant-loop-list : goal.invariant-loop-list
invariant-loop-list g l =
    (l.placed ≡ put_all l.fn.placed (all_in (map (λ v. v.items) (take l.list-index l.fn.lists)))) × (l.steps ≡ l.fn.steps + sum_by (λ v. length v.items) (take l.list-index l.fn.lists))
