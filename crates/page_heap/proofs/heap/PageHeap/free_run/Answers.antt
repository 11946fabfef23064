use Rattle.std.proofs.Common.{sym, ap, subst, ◌∙◌}
use Rattle.page_heap.proofs.Common.{settled, IsRid, BacksNone, free_leaves}
use Rattle.heap_rules.proofs.NoneBacked.{freed_backs_none}
use Rattle.page_heap.proofs.Stays.{freed_stays}
use Rattle.page_heap.proofs.heap.PageHeap.free_run.Goals as goal

pub returns-clause-stay : goal.returns-clause-stay
returns-clause-stay c =
    freed_stays c.args.self.now c.args.run c.settle.new.self
    (subst (IsRid c.args.self.now c.args.run) (sym (c.settle.ensures.settled ∙ ap settled c.give_back.ensures.given)) (free_leaves c.args.self.now c.args.run c.give_back.ensures.sound c.requires))

pub returns-clause-backs_none : goal.returns-clause-backs_none
returns-clause-backs_none c =
    subst (BacksNone c.args.self.now) (sym (c.settle.ensures.settled ∙ ap settled c.give_back.ensures.given)) (freed_backs_none c.args.self.now c.args.run c.give_back.ensures.sound c.requires)
