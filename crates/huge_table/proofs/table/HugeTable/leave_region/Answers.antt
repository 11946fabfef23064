use Rattle.std.proofs.Common.{Contains, subst, sym, arith}
use Rattle.huge_table.proofs.Common.{Heap, left, IsSound, reached_by, Means, given_is_left}
use Rattle.huge_table.proofs.Leaves.{region_means}
use Rattle.huge_table.proofs.table.HugeTable.leave_region.Goals as goal

gone : (c : goal.After-note) (heap : Heap) → IsSound heap → Means c.args.self.now heap → Contains heap.runs c.args.run → Means c.note.new.self (left heap c.args.run)
gone c heap sound means live = region_means heap c.args.run.first.0 c.args.run.pages sound live c.args.self.now c.note.new.self
    (reached_by c.args.run.first.0 c.args.run.pages) means c.requires.place (omega (arith, c.requires.some))
    (omega (arith, c.requires.some)) c.requires.some c.note.ensures.pages c.note.ensures.noted

pub returns-clause-left : goal.returns-clause-left
returns-clause-left c heap sound means live = gone c heap sound means live

pub returns-clause-given : goal.returns-clause-given
returns-clause-given c heap sound means live still = subst (Means c.note.new.self) (sym (given_is_left heap c.args.run sound live still)) (gone c heap sound means live)
