use Rattle.std.proofs.Common.{◌≡◌, ℕ, Some, IfSome, IfNone, sym, subst, arith}
use Rattle.page_heap.proofs.Common.{spare_given, Heap, Measures, measures_at}
use Rattle.page_heap.specs.Gives.{IsFirstGiver}
use Rattle.page_heap.proofs.Results.{is_heap}
use Rattle.page_heap.proofs.Unbacked.{if_some, if_none}
use Rattle.page_heap.proofs.Spared.{first_is, none_is, spare_nothing}
use Rattle.page_heap.proofs.heap.PageHeap.candidate.Goals as goal

pub returns-clause-found : goal.returns-clause-found
returns-clause-found c =
    let was : IfSome c.candidate.result (IsFirstGiver c.args.self.now) = grind (arith, if_some, first_is, is_heap, c.self.invariant, c.self.view_is, c.candidate.ensures.found) in
    subst (λ (heap : Heap). IfSome c.candidate.result (IsFirstGiver heap)) (sym c.self.view_is) was

pub returns-clause-none : goal.returns-clause-none
returns-clause-none c =
    let whole = is_heap c.self.invariant c.self.view_is in
    subst (λ (heap : Heap). IfNone c.candidate.result ((n : ℕ) → spare_given heap n ≡ record { heap = heap; pages = 0 })) (sym c.self.view_is)
    (if_none c.candidate.result ((h : ℕ) (its : Measures) → measures_at c.self.inside.filler h ≡ Some its → its.spare ≡ 0)
    ((n : ℕ) → spare_given c.args.self.now n ≡ record { heap = c.args.self.now; pages = 0 })
    (λ none n. spare_nothing c.args.self.now n whole.well.sound (none_is c.self.inside c.args.self.now whole none)) c.candidate.ensures.none)
