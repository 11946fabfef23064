use Rattle.std.proofs.Common.{◌≡◌, ℕ, ◌+◌, ◌-◌, ◌<◌, ◌≤◌, arith}
use Rattle.page_heap.proofs.Common.{Stretch, Heap, Inside, behind, given_by, IsNext, IsPast, nat_tests}
use Rattle.page_heap.specs.declared.source.Source.{Source}
use Rattle.page_heap.specs.declared.source.Source.TheVariants as source
use Rattle.page_heap.proofs.Gives.{loop_begins, loop_ends, loop_few}
use Rattle.page_heap.proofs.Idle.{idle_past}
use Rattle.page_heap.proofs.Results.{IsHeap, is_heap}
use Rattle.page_heap.proofs.Spared.{given_zero, given_few}
use Rattle.page_heap.proofs.heap.PageHeap.release_from.Goals as goal
use Rattle.page_heap.proofs.heap.PageHeap.release_from.Goals.{After-from-given}

past : (from : Source) (t : Inside) (heap : Heap) → IsHeap t heap → (most : ℕ) → most ≡ heap.config.huge → IsPast from heap most
past source.Free t heap is most e = tt
past source.Regions t heap is most e = λ h l. idle_past is h (omega arith)
past source.Filler t heap is most e = tt

pub loop-given-init : goal.loop-given-init
loop-given-init c = grind (arith, is_heap, loop_begins, past, c.self.invariant, c.self.view_is)

left : (given n : ℕ) → given < n → 0 < n - given
left given n l = omega arith

next : (c : After-from-given) → given_by c.args.source c.args.self.now c.args.n ≡ behind (c.loop-given.given + c.from-given.result)
    (given_by c.args.source c.give_up.new.self (c.args.n - (c.loop-given.given + c.from-given.result)))
next c = grind (arith, c.loop-given.given, c.give_up.ensures.given, c.loop-given-test.true, c.loop-given.invariant.given, c.from-given.ensures)

pub overflow_add-given : goal.overflow_add-given
overflow_add-given c = grind (arith, is_heap, loop_few, next, given_few)

next_low : (from : Source) (heap : Heap) (givers : Stretch) → IsNext from heap givers → 0 < givers.first.0
next_low source.Free heap givers are = are.from
next_low source.Regions heap givers is = is.own.from
next_low source.Filler heap givers is = is.own.from

pub overflow_sub-most : goal.overflow_sub-most
overflow_sub-most c = let low = next_low c.args.source c.next_givers.new.self c.in-Some.givers c.in-Some.ensures.next in omega (arith, low, c.from-most.ensures)

pub loop-given-preserved : goal.loop-given-preserved
loop-given-preserved c = grind (arith, c.from-most.ensures, c.give_up.ensures.past)

smaller : (n given m s : ℕ) → given < n → m ≡ s → 0 < s → n - (given + m) < n - given
smaller n given m s l e p = omega arith

pub loop-given-smaller : goal.loop-given-smaller
loop-given-smaller c = smaller c.args.n c.loop-given.given c.from-given.result _ c.loop-given-test.true c.from-given.ensures c.give_up.ensures.some

pub returns-in_default-clause-few : goal.returns-in_default-clause-few
returns-in_default-clause-few c = grind (arith, nat_tests, is_heap, loop_few, given_few)

pub returns-clause-few : goal.returns-clause-few
returns-clause-few c = grind (arith, nat_tests, is_heap, loop_few, given_few)

pub returns-in_default-clause-given : goal.returns-in_default-clause-given
returns-in_default-clause-given c = grind (arith, c.loop-given.given, c.loop-given.invariant.given, c.in_default.ensures.none)

done : (n given : ℕ) → n ≤ given → n - given ≡ 0
done n given l = omega arith

pub returns-clause-given : goal.returns-clause-given
returns-clause-given c = grind (arith, loop_ends, given_zero, done, c.loop-given.given, c.loop-given.invariant.given, c.loop-given-test.false)
