use Rattle.std.proofs.Common.{ℕ, ◌*◌, ◌≤◌, ap, arith}
use Rattle.std.specs.Prelude.{sum_by}
use Rattle.tc_units.specs.Units.{huge_pages}
use Rattle.tc_units.specs.declared.spans.Run.{Run}
use Rattle.heap_rules.specs.Heap.{Heap, used_pages, backed_pages}
use Rattle.numa_heaps.specs.Machine.{heap_at}
use Rattle.numa_heaps.proofs.Pages.{few_pages, next_pages}
use Rattle.numa_heaps.proofs.Ranges.{sum_more}
use Rattle.numa_heaps.proofs.finish.pages_of.Goals as goal

pub overflow_add-pages : goal.overflow_add-pages
overflow_add-pages c =
    let few = few_pages c.loop-k.k c.args.setting.now.config.huge c.loop-k.pages.resident c.backed_pages.result in
    omega (arith, few, c.loop-k.invariant.most, c.backed_pages.ensures.most, c.heap_at-heap.ensures.limits, c.count-k-end.ensures.few, c.requires.few)

pub overflow_add-pages-in-loop-k : goal.overflow_add-pages-in-loop-k
overflow_add-pages-in-loop-k c =
    let few = few_pages c.loop-k.k c.args.setting.now.config.huge c.loop-k.pages.resident c.backed_pages.result in
    let backed = c.backed_pages.ensures in
    let before = c.loop-k.invariant in
    let limits = c.heap_at-heap.ensures.limits in
    omega (arith, few, before.most, before.covers, backed.most, backed.covers, c.used_pages.ensures.value, limits, c.count-k-end.ensures.few, c.requires.few)

pub loop-k-preserved : goal.loop-k-preserved
loop-k-preserved c =
    let heap : ℕ → Heap = heap_at c.args.setting.now c.args.parts.now in
    let pages : Heap → ℕ = λ h. sum_by (λ (x : Run). x.pages) h.runs in
    let before = c.loop-k.invariant in
    let huge : ℕ = c.args.setting.now.config.huge in
    let most : c.backed_pages.result ≤ huge_pages * huge = omega (arith, c.backed_pages.ensures.most, c.heap_at-heap.ensures.limits) in
    let is = c.heap_at-heap.ensures.is in
    record {
      used = omega (arith, before.used, c.used_pages.ensures.value, ap used_pages is, sum_more (λ k. used_pages (heap k)) c.loop-k.k);
      runs = omega (arith, before.runs, c.used_pages.ensures.runs, ap pages is, sum_more (λ k. pages (heap k)) c.loop-k.k);
      resident = omega (arith, before.resident, c.backed_pages.ensures.value, ap backed_pages is, sum_more (λ k. backed_pages (heap k)) c.loop-k.k);
      covers = omega (arith, before.covers, c.backed_pages.ensures.covers, c.used_pages.ensures.value);
      most = next_pages c.loop-k.k huge c.loop-k.pages.resident c.backed_pages.result before.most most;
    }
