use Rattle.std.proofs.Common.{◌≡◌, ℕ, ◌+◌, true, sym, ap, ◌∙◌, arith}
use Rattle.page_heap.proofs.Common.{hugepage, is_free, at, nat_tests}
use Rattle.page_heap.proofs.Freed.{freed_none, freed_more, freed_holds}
use Rattle.page_heap.proofs.Measured.{shown_freed, told_own}
use Rattle.page_heap.proofs.in_regions.give_freed.Goals as goal

pub loop-place-init : goal.loop-place-init
loop-place-init c = record { freed = λ heap _. freed_none c.args.cache.now heap c.args.first.0 }

pub give_emptied-requires-clause-high : goal.give_emptied-requires-clause-high
give_emptied-requires-clause-high c = grind (arith, nat_tests)

pub give_emptied-requires-clause-out : goal.give_emptied-requires-clause-out
give_emptied-requires-clause-out c =
    let told = c.requires.told in
    let h : ℕ = c.args.first.0 + c.loop-place.place in
    freed_holds c.args.cache.now c.loop-place.cache told.0 c.args.first.0 c.loop-place.place h (c.loop-place.invariant.freed told.0 told.1)
    (omega (arith, c.requires.span.from)) (omega (arith, c.requires.span.to, c.requires.taken, c.loop-place-test.true)) (omega arith)
    ∙ c.requires.out h (omega arith) (omega (arith, c.loop-place-test.true))

pub loop-place-preserved : goal.loop-place-preserved
loop-place-preserved c = record {
  freed = λ heap told.
      (let first : ℕ = c.args.first.0 in
      let h : ℕ = first + c.loop-place.place in
      let from = c.requires.span.from in
      let free : is_free (hugepage heap h) ≡ true = ap (λ xs. is_free (at xs h)) (sym told.means.pages) ∙ c.requires.span.all h (omega arith) (omega (arith, c.loop-place-test.true)) in
      freed_more c.args.cache.now c.loop-place.cache c.give_emptied.new.cache heap first c.loop-place.place (c.loop-place.invariant.freed heap told)
      (grind (arith, shown_freed, told_own, c.give_emptied.ensures, c.row.ensures, told.sound, told.means))
      from (omega (arith, c.requires.span.to, c.requires.taken, c.loop-place-test.true)) (c.requires.unready ∙ sym c.requires.taken) free);
}
