use Rattle.std.proofs.Common.{◌≡◌, ℕ, ◌-◌, ◌<◌, refl, sym, ap, subst, ◌∙◌}
use Rattle.page_heap.proofs.Common.{Heap, spare_pages, spare_given, used_alone, behind}
use Rattle.page_heap.proofs.Results.{IsHeap, is_heap, kept_by, view_by, made_heap, IsMeasuring, measuring}
use Rattle.page_heap.proofs.Spared.{one_spared, spared_span, spared_made, spare_next}
use Rattle.page_heap.proofs.heap.PageHeap.give_spare.Goals as goal
use Rattle.page_heap.proofs.heap.PageHeap.give_spare.Goals.{After-only_used-pages, After-measure}

pub only_used-pages-requires : goal.only_used-pages-requires
only_used-pages-requires c = spared_span _ _ (is_heap c.self.invariant c.self.view_is) c.args.huge c.requires

pub measure-requires : goal.measure-requires
measure-requires c =
    let d = (goal.at.measure-requires c).After-only_used-pages in
    let is = is_heap d.self.invariant d.self.view_is in
    let m : IsMeasuring d.self.inside d.only_used-pages.new.self d.args.huge.0 = measuring is (used_alone d.args.self.now d.args.huge.0) refl
    (one_spared d.args.self.now d.args.huge is.well.sound d.requires) (d.only_used-pages.ensures.heap d.args.self.now is.shows.means) _ _
    d.requires.own refl in
    record { low = m.low; high = m.high; same = m.same; told = m.told }

now : (c : After-measure) → IsHeap (record c.self.inside { table = c.only_used-pages.new.self; filler = c.measure.new.filler }) (used_alone c.args.self.now c.args.huge.0)
now c =
    let is = is_heap c.self.invariant c.self.view_is in
    let then : Heap = used_alone c.args.self.now c.args.huge.0 in
    let means = c.only_used-pages.ensures.heap c.args.self.now is.shows.means in
    let sound = one_spared c.args.self.now c.args.huge is.well.sound c.requires in
    made_heap (spared_made _ _ is c.args.huge c.requires) refl means c.measure.ensures.runs (c.measure.ensures.told then (record { sound = sound; means = means })) refl refl refl

pub invariant_of-self : goal.invariant_of-self
invariant_of-self c = kept_by (now c)

pages : (c : After-measure) → c.only_used-pages.result ≡ spare_pages c.args.self.now c.args.huge.0
pages c = c.only_used-pages.ensures.pages c.args.self.now (is_heap c.self.invariant c.self.view_is).shows.means

given_is : (heap new : Heap) (n h m : ℕ) → new ≡ used_alone heap h → m ≡ spare_pages heap h →
    spare_given heap n ≡ behind (spare_pages heap h) (spare_given (used_alone heap h) (n - spare_pages heap h)) →
    spare_given heap n ≡ behind m (spare_given new (n - m))
given_is heap new n h m p q e = e ∙ ap (λ (x : Heap). behind (spare_pages heap h) (spare_given x (n - spare_pages heap h))) (sym p) ∙ ap (λ k. behind k (spare_given new (n - k))) (sym q)

pub returns-clause-given : goal.returns-clause-given
returns-clause-given c n some =
    given_is _ _ n c.args.huge.0 _ (view_by (now c)) (pages c) (spare_next c.args.self.now n c.args.huge (is_heap c.self.invariant c.self.view_is).well.sound some c.requires)

pub returns-clause-some : goal.returns-clause-some
returns-clause-some c = subst (λ m. 0 < m) (sym (pages c)) c.requires.some
