use Rattle.std.proofs.Common.{ℕ, ◌<◌, ◌≤◌, map, take}
use Rattle.tc_model.specs.declared.board.Entry.{Entry}
use Rattle.tc_model.specs.Rises.{Has}
use Rattle.merge_journal.specs.Placed.{all_in}
use Rattle.merge_journal.proofs.threads.places_for.Given as goal

abbrev pub invariant-loop-list : goal.invariant-loop-list
invariant-loop-list l =
    ((e : Entry) → Has (all_in (map (λ v. v.items) (take l.list-index l.lists))) e → e.ticket < l.places)
    × ((most : ℕ) → ((e : Entry) → Has (all_in (map (λ v. v.items) l.lists)) e → e.ticket < most) → l.places ≤ most)
