use Rattle.std.proofs.Common.{◌≡◌, ◌+◌, take}
use Rattle.merge_journal.specs.Placed.{put_all}
use Rattle.merge_journal.proofs.threads.put_list.Given as goal

abbrev pub invariant-loop-entry : goal.invariant-loop-entry
invariant-loop-entry g l = (l.placed ≡ put_all l.fn.placed (take l.entry-index l.fn.entries)) × (l.steps ≡ l.fn.steps + l.entry-index)
