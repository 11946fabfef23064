use Rattle.std.proofs.Common.{◌≡◌, ℕ, ◌+◌, ◌-◌, ◌<◌, ◌≤◌, refl, ap, ◌∙◌, arith}
use Rattle.page_heap.proofs.Common.{Heap, hugepages_for, taken, remeasured}
use Rattle.huge_cache.specs.Cache.{without_run}
use Rattle.page_heap.proofs.Results.{IsHeap, is_heap, kept_by, view_by, made_heap, IsMeasuring, measuring}
use Rattle.page_heap.proofs.Taken.{IsTaking, taking}
use Rattle.page_heap.proofs.heap.PageHeap.take_free.Goals as goal
use Rattle.page_heap.proofs.heap.PageHeap.take_free.Goals.{After-take_run, After-from, After-from-2}

at : (h n : ℕ) → 0 < n → h + hugepages_for n - 1 + 1 ≡ h + hugepages_for n
at h n some = omega arith

pub take_run-requires-clause-free : goal.take_run-requires-clause-free
take_run-requires-clause-free c = (taking _ _ (is_heap c.self.invariant c.self.view_is) c.args.n c.args.first.0 c.requires.some c.requires.place _ (at c.args.first.0 c.args.n c.requires.some)).span

-- what is asked from there on
here : (c : After-take_run) → IsTaking c.self.inside c.args.self.now c.args.n c.args.first.0 (c.args.first.0 + hugepages_for c.args.n - 1)
here c = taking _ _ (is_heap c.self.invariant c.self.view_is) c.args.n c.args.first.0 c.requires.some c.requires.place _ (at c.args.first.0 c.args.n c.requires.some)

pub take_out-requires-clause-free : goal.take_out-requires-clause-free
take_out-requires-clause-free c = grind (arith, here, c.div_ceil-many.ensures, c.self.inside.cache.taken)

last : (c : After-from) → c.from.result + c.div_ceil-many.result - 1 ≡ c.args.first.0 + hugepages_for c.args.n - 1
last c = grind (arith, c.div_ceil-many.ensures, c.from.ensures)

low : (a b huge : ℕ) → a ≡ b → b ≤ huge → huge ≤ 4096 → a < 65536
low a b huge e p q = omega arith

pub overflow_cast-last : goal.overflow_cast-last
overflow_cast-last c =
    let d = (goal.at.overflow_cast-last c).After-from in
    let few = low _ _ _ (last d) (here (goal.at.overflow_cast-last c).After-take_run).own.to (is_heap d.self.invariant d.self.view_is).well.limits.huge_to in
    omega (arith, few)

pub measure-requires : goal.measure-requires
measure-requires c =
    let d = (goal.at.measure-requires c).After-from in
    let h = here (goal.at.measure-requires c).After-take_run in
    let is = is_heap d.self.invariant d.self.view_is in
    let m : IsMeasuring d.self.inside d.take_run.new.self _ = measuring is (taken d.args.self.now d.args.n d.args.first.0).heap refl h.sound
    (d.take_run.ensures d.args.self.now is.well.sound is.shows.means) _ _ h.own (last d) in
    record { low = m.low; high = m.high; same = m.same; told = m.told }

pub overflow_add-self : goal.overflow_add-self
overflow_add-self c = let h = here (goal.at.overflow_add-self c).After-take_run in omega (arith, h.fits, c.from-2.ensures)

now : (c : After-from-2) →
    IsHeap (record c.self.inside {
      table = c.take_run.new.self;
      filler = c.measure.new.filler;
      cache = c.take_out.new.self;
      used =
          c.self.inside.used + c.from-2.result;
    }) (taken c.args.self.now c.args.n c.args.first.0).heap
now c =
    let is = is_heap c.self.invariant c.self.view_is in
    let after : Heap = (taken c.args.self.now c.args.n c.args.first.0).heap in
    let means = c.take_run.ensures c.args.self.now is.well.sound is.shows.means in
    let m : c.div_ceil-many.result ≡ hugepages_for c.args.n = omega (arith, c.div_ceil-many.ensures) in
    let at : c.from.result + c.div_ceil-many.result - 1 ≡ c.args.first.0 + hugepages_for c.args.n - 1 = ap (λ k. k + c.div_ceil-many.result - 1) c.from.ensures ∙ ap (λ k. c.args.first.0 + k - 1) m in
    let h = taking _ _ is c.args.n c.args.first.0 c.requires.some c.requires.place (c.args.first.0 + hugepages_for c.args.n - 1) (omega arith) in
    made_heap h.makes refl means c.measure.ensures.runs
    (c.measure.ensures.told after (record { sound = h.sound; means = means }) ∙ ap (remeasured c.self.inside.filler after) at)
    (c.take_out.ensures ∙ ap (without_run c.self.inside.cache c.args.first.0) m)
    refl (ap (λ k. c.self.inside.used + k) c.from-2.ensures)

pub invariant_of-self : goal.invariant_of-self
invariant_of-self c = kept_by (now (goal.at.invariant_of-self c).After-from-2)

pub returns-clause-heap : goal.returns-clause-heap
returns-clause-heap c = view_by (now (goal.at.returns-clause-heap c).After-from-2)
