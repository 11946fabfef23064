use Rattle.std.proofs.Common.{◌≡◌, ℕ, ◌+◌, ◌-◌, ◌/◌, ◌≤◌, false, refl, ap, ◌∙◌, arith}
use Rattle.range_bits.specs.Ranges.{used_from}
use Rattle.page_heap.proofs.Common.{Heap, hugepage, given_back, Cache, with_backed_run, IsTold, remeasured, with_freed}
use Rattle.huge_cache.specs.Cache.{holds}
use Rattle.page_heap.proofs.Results.{IsHeap, is_heap, kept_by, view_by, made_heap, IsMeasuring, measuring}
use Rattle.page_heap.proofs.Left.{laid, IsLeaving, leaving}
use Rattle.page_heap.proofs.heap.PageHeap.free_in_hugepages.Goals as goal
use Rattle.page_heap.proofs.heap.PageHeap.free_in_hugepages.Goals.{After-give_run, After-from}

pub give_run-requires : goal.give_run-requires
give_run-requires c =
    let is = is_heap c.self.invariant c.self.view_is in
    let at = laid c.args.self.now c.args.run is.well.sound c.requires.live c.requires.route in
    let here = leaving _ _ is c.args.run c.requires.live _ _ _ at in
    record { lies = at.lies; some = at.some; whole = here.whole_span; tail = here.tail_span }

-- what is asked from there on
here : (c : After-give_run) → IsLeaving c.self.inside c.args.self.now c.args.run (c.args.run.first.0 / 256) (c.args.run.pages / 256) ((c.args.run.first.0 + c.args.run.pages - 1) / 256)
here c =
    let is = is_heap c.self.invariant c.self.view_is in
    leaving _ _ is c.args.run c.requires.live _ _ _ (laid c.args.self.now c.args.run is.well.sound c.requires.live c.requires.route)

out_is : (cache : Cache) (first last x y : ℕ) → first ≡ x → last ≡ y → y - x ≤ used_from cache.taken (x - 1) → holds cache y ≡ false →
    (last - first ≤ used_from cache.taken (first - 1)) × (holds cache last ≡ false)
out_is cache first last x y p q out held = grind (arith)

pub tell_left-requires : goal.tell_left-requires
tell_left-requires c =
    let d = (goal.at.tell_left-requires c).After-give_run in
    let h = here d in
    let is = is_heap d.self.invariant d.self.view_is in
    let means = d.give_run.ensures d.args.self.now is.well.sound is.shows.means d.requires.live in
    let m : IsMeasuring d.self.inside d.give_run.new.self c.huge_of-last.result.0 = measuring is (given_back d.args.self.now d.args.run) refl h.sound means _ _ h.own c.huge_of-last.ensures in
    let at = out_is d.self.inside.cache _ _ _ _ c.huge_of-first.ensures c.huge_of-last.ensures h.whole_out h.last_out in
    record {
      low = omega (arith, c.huge_of-first.ensures, h.laid.from);
      order = omega (arith, c.huge_of-first.ensures, c.huge_of-last.ensures, h.laid.first);
      high = m.high;
      same = m.same;
      taken = m.taken;
      out = at.0;
      last = at.1;
      told = m.told;
    }

pub overflow_sub-self : goal.overflow_sub-self
overflow_sub-self c = let h = here (goal.at.overflow_sub-self c).After-give_run in omega (arith, h.counted, c.from.ensures)

-- the cache with what the run had, by the hugepages' numbers
freed_is : (heap : Heap) (cache new : Cache) (first last x y : ℕ) → new ≡ with_freed (with_backed_run cache first (last - first)) last (hugepage heap last) → first ≡ x → last ≡ y →
    new ≡ with_freed (with_backed_run cache x (y - x)) y (hugepage heap y)
freed_is heap cache new first last x y e p q = grind (arith)

now : (c : After-from) →
    IsHeap (record c.self.inside {
      table = c.give_run.new.self;
      filler = c.tell_left.new.filler;
      cache = c.tell_left.new.cache;
      used =
          c.self.inside.used - c.from.result;
    }) (given_back c.args.self.now c.args.run)
now c =
    let is = is_heap c.self.invariant c.self.view_is in
    let after : Heap = given_back c.args.self.now c.args.run in
    let h = leaving _ _ is c.args.run c.requires.live _ _ _ (laid c.args.self.now c.args.run is.well.sound c.requires.live c.requires.route) in
    let means = c.give_run.ensures c.args.self.now is.well.sound is.shows.means c.requires.live in
    let told : IsTold c.give_run.new.self after = record { sound = h.sound; means = means } in
    made_heap h.makes refl means c.tell_left.ensures.runs
    (c.tell_left.ensures.filler after told ∙ ap (remeasured c.self.inside.filler after) c.huge_of-last.ensures)
    (freed_is after _ _ _ _ _ _ (c.tell_left.ensures.cache after told) c.huge_of-first.ensures c.huge_of-last.ensures)
    refl (ap (λ k. c.self.inside.used - k) c.from.ensures)

pub invariant_of-self : goal.invariant_of-self
invariant_of-self c = kept_by (now (goal.at.invariant_of-self c).After-from)

pub returns : goal.returns
returns c = view_by (now (goal.at.returns c).After-from)
