use Rattle.std.proofs.Common.{ℕ, ◌-◌, ap, ◌∙◌, arith}
use Rattle.huge_cache.specs.Cache.{with_backed_run}
use Rattle.page_heap.proofs.Common.{with_measures, measures_by, with_shown}
use Rattle.page_heap.proofs.Measured.{shown_covered, shown_measures, shown_freed, told_own}
use Rattle.page_heap.proofs.told.tell_left.Goals as goal

pub measures_of-requires : goal.measures_of-requires
measures_of-requires c = shown_covered c.args.table.now c.args.last.0 c.row-row.result c.requires.told (omega (arith, c.requires.low, c.requires.order)) c.requires.high c.row-row.ensures

pub returns-clause-filler : goal.returns-clause-filler
returns-clause-filler c heap is =
    c.set.ensures
    ∙ ap (with_measures c.args.filler.now c.args.last.0)
    (c.measures_of.ensures.measures ∙ ap measures_by (c.row-row.ensures heap is.sound is.means)
    ∙ shown_measures heap is.sound c.args.last.0 (told_own c.args.table.now heap c.args.last.0 is (omega (arith, c.requires.low, c.requires.order)) c.requires.high))

pub returns-clause-cache : goal.returns-clause-cache
returns-clause-cache c heap is =
    let last = c.args.last.0 in
    let first = c.args.first.0 in
    let whole = with_backed_run c.args.cache.now first (last - first) in
    c.give_left.ensures ∙ ap (λ (many : ℕ). with_shown (with_backed_run c.args.cache.now first many) last c.row-row.result) c.from.ensures
    ∙ ap (with_shown whole last) (c.row-row.ensures heap is.sound is.means)
    ∙ shown_freed whole heap last is.sound (told_own c.args.table.now heap last is (omega (arith, c.requires.low, c.requires.order)) c.requires.high)
