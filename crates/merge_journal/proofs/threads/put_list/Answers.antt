use Rattle.std.proofs.Common.{arith, get_or}
use Rattle.tc_model.specs.declared.board.Entry.{Entry}
use Rattle.merge_journal.proofs.Twos.{has_at}
use Rattle.merge_journal.proofs.Placed.{put_more}
use Rattle.merge_journal.proofs.threads.put_list.Goals as goal

pub bounds-placed-entry : goal.bounds-placed-entry
bounds-placed-entry g c =
    let first : Entry = record { ticket = 0; thread = record { 0 = 0 } } in
    let low = c.requires.tickets (get_or c.args.entries.now c.loop-entry.entry-index first) (has_at c.args.entries.now c.loop-entry.entry-index first c.loop-entry-test.true) in
    omega (arith, low, c.loop-entry.auto.placed)

pub loop-entry-preserved : goal.loop-entry-preserved
loop-entry-preserved g c = grind (arith, put_more)
