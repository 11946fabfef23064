use Rattle.std.proofs.Common.{◌≡◌, ℕ, false, ap, ◌∙◌, arith}
use Rattle.std.specs.Int.{div_ceil}
use Rattle.page_heap.proofs.Common.{free_given, is_backed, nat_tests}
use Rattle.page_heap.proofs.Gives.{free_none}
use Rattle.page_heap.proofs.Results.{is_heap}
use Rattle.page_heap.proofs.Unbacked.{found_last, if_none, none_is}
use Rattle.page_heap.proofs.heap.PageHeap.last_backed.Goals as goal

pub last_stretch-requires : goal.last_stretch-requires
last_stretch-requires c = grind (arith, nat_tests)

pub returns-clause-last : goal.returns-clause-last
returns-clause-last c =
    (found_last c.self.inside c.args.self.now (is_heap c.self.invariant c.self.view_is) c.args.n c.div_ceil.result (c.div_ceil.ensures ∙ ap (div_ceil c.args.n) c.from.ensures)
    c.last_stretch.result c.last_stretch.ensures.last).0

pub returns-clause-few : goal.returns-clause-few
returns-clause-few c = grind (arith)

pub returns-clause-none : goal.returns-clause-none
returns-clause-none c =
    if_none c.last_stretch.result ((h : ℕ) → is_backed c.self.inside.cache h ≡ false) ((n : ℕ) → free_given c.args.self.now n ≡ record { heap = c.args.self.now; pages = 0 })
    (λ none n. free_none c.args.self.now n (none_is c.self.inside c.args.self.now (is_heap c.self.invariant c.self.view_is) none)) c.last_stretch.ensures.none
