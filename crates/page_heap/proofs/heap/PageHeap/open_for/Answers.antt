use Rattle.std.proofs.Common.{◌≡◌, ℕ, ◌+◌, ◌*◌, ◌/◌, Some, subst, sym, refl, ap, arith}
use Rattle.page_heap.proofs.Common.{Heap, RegionRow, in_region, with_new_region, in_new_region, Means, Regions, region_with, with_changed, joined}
use Rattle.page_heap.proofs.Common.{start_in, AreFreeIn}
use Rattle.page_heap.proofs.Results.{IsHeap, is_heap, kept_by, view_by, made_heap}
use Rattle.page_heap.proofs.Opening.{IsOpening, opening}
use Rattle.page_heap.proofs.heap.PageHeap.open_for.Goals as goal
use Rattle.page_heap.proofs.heap.PageHeap.open_for.Goals.{After-open_region, After-first_page-page, After-from}

pub open_region-requires : goal.open_region-requires
open_region-requires c = (opening _ _ (is_heap c.self.invariant c.self.view_is) c.args.n c.args.first.0 c.requires.some c.requires.fits c.requires.place (256 * c.args.first.0) refl).span

-- what is asked from there on, and from where the run's first page is known
here : (c : After-open_region) → IsOpening c.self.inside c.args.self.now c.args.n c.args.first.0 (256 * c.args.first.0)
here c = opening _ _ (is_heap c.self.invariant c.self.view_is) c.args.n c.args.first.0 c.requires.some c.requires.fits c.requires.place _ refl

at_page : (c : After-first_page-page) → IsOpening c.self.inside c.args.self.now c.args.n c.args.first.0 c.first_page-page.result.0
at_page c = opening _ _ (is_heap c.self.invariant c.self.view_is) c.args.n c.args.first.0 c.requires.some c.requires.fits c.requires.place _ (omega (arith, c.first_page-page.ensures))

pub take_out-requires-clause-free : goal.take_out-requires-clause-free
take_out-requires-clause-free c = (here (goal.at.take_out-requires-clause-free c).After-open_region).room

pub take_out-requires-clause-some : goal.take_out-requires-clause-some
take_out-requires-clause-some c = grind (arith, c.self.invariant, c.self.view_is)

pub open_region-requires-2 : goal.open_region-requires-2
open_region-requires-2 c = let h = here (goal.at.open_region-requires-2 c).After-open_region in record { low = h.low; high = h.high; free = h.none }

opened : (c : After-first_page-page) → IsHeap c.self.inside c.args.self.now
opened c = is_heap c.self.invariant c.self.view_is

pub join_region-requires-clause-place : goal.join_region-requires-clause-place
join_region-requires-clause-place c =
    let d = (goal.at.join_region-requires-clause-place c).After-first_page-page in
    let h = at_page d in
    h.reached c.open_region.new.self (c.open_region.ensures c.args.self.now h.same (opened d).shows.means)

pub join-requires-clause-free : goal.join-requires-clause-free
join-requires-clause-free c =
    let h = at_page (goal.at.join-requires-clause-free c).After-first_page-page in
    (h.row, subst (λ (all : Regions). AreFreeIn all c.first_page-page.result.0 c.args.n h.row) (sym c.open_region-2.ensures) h.free)

pub overflow_add-self : goal.overflow_add-self
overflow_add-self c = let h = here (goal.at.overflow_add-self c).After-open_region in omega (arith, h.fits, c.from.ensures)

now : (c : After-from) →
    IsHeap (record c.self.inside {
      table = c.join_region.new.self;
      cache = c.take_out.new.self;
      regions = c.join.new.self;
      used =
          c.self.inside.used + c.from.result;
    }) (in_new_region c.args.self.now c.args.n c.args.first.0).heap
now c =
    let heap : Heap = c.args.self.now in
    let page : ℕ = c.first_page-page.result.0 in
    let is = is_heap c.self.invariant c.self.view_is in
    let at : page ≡ 256 * c.args.first.0 = omega (arith, c.first_page-page.ensures) in
    let h = opening _ _ is c.args.n c.args.first.0 c.requires.some c.requires.fits c.requires.place page at in
    let means = c.join_region.ensures (with_new_region heap c.args.first.0) (c.open_region.ensures heap h.same is.shows.means) in
    made_heap
    (h.makes c.join.new.self
    (subst (λ (all : Regions). (row : RegionRow) → region_with all (page / 256) ≡ Some row →
    c.join.new.self ≡ with_changed all row.first (joined (start_in row page) c.args.n)) c.open_region-2.ensures c.join.ensures))
    refl (subst (λ k. Means c.join_region.new.self (in_region (with_new_region heap c.args.first.0) c.args.n k).heap) at means) c.huge-huge.ensures.runs
    refl c.take_out.ensures refl (ap (λ k. c.self.inside.used + k) c.from.ensures)

pub invariant_of-self : goal.invariant_of-self
invariant_of-self c = kept_by (now (goal.at.invariant_of-self c).After-from)

pub returns-clause-heap : goal.returns-clause-heap
returns-clause-heap c = view_by (now (goal.at.returns-clause-heap c).After-from)
