use Rattle.std.proofs.Common.{◌≡◌, ◌+◌, subst, arith}
use Rattle.page_heap.proofs.Common.{Released, release, IsReleased, BacksNone, release_keeps}
use Rattle.heap_rules.proofs.NoneBacked.{release_backs_none}
use Rattle.heap_rules.proofs.Enough.{release_is_enough}
use Rattle.page_heap.proofs.Gives.{released_by}
use Rattle.page_heap.proofs.heap.PageHeap.release.Goals as goal
use Rattle.page_heap.proofs.heap.PageHeap.release.Goals.{After-release_from-spare}

all : (c : After-release_from-spare) →
    release c.args.self.now c.args.n ≡
    record { heap = c.release_from-spare.new.self; pages = c.release_from-free.result + c.release_from-idle.result + c.release_from-spare.result }
all c =
    released_by c.args.self.now c.release_from-free.new.self c.release_from-idle.new.self c.release_from-spare.new.self c.args.n
    c.saturating_sub.result c.saturating_sub-2.result c.release_from-free.result c.release_from-idle.result c.release_from-spare.result
    c.saturating_sub.ensures c.saturating_sub-2.ensures
    c.release_from-free.ensures.given c.release_from-idle.ensures.given c.release_from-spare.ensures.given

pub returns-clause-released : goal.returns-clause-released
returns-clause-released c = all c

pub returns-clause-kept : goal.returns-clause-kept
returns-clause-kept c = subst (IsReleased c.args.self.now) (all c) (release_keeps c.args.self.now c.args.n c.release_from-free.ensures.sound)

pub returns-clause-backs_none : goal.returns-clause-backs_none
returns-clause-backs_none c = subst (λ (r : Released). BacksNone c.args.self.now r.heap) (all c) (release_backs_none c.args.self.now c.args.n)

pub returns-clause-enough : goal.returns-clause-enough
returns-clause-enough c = grind (arith, all, release_is_enough, c.release_from-free.ensures.sound)
