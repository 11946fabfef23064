use Rattle.std.proofs.Common.{◌-◌, refl, ap, arith}
use Rattle.page_heap.proofs.Common.{Heap, given_back}
use Rattle.page_heap.proofs.Results.{IsHeap, is_heap, kept_by, view_by, made_heap}
use Rattle.page_heap.proofs.Ending.{IsLeaving, IsEnded, IsGone, leaving, stays, gone}
use Rattle.page_heap.proofs.heap.PageHeap.free_in_region.Goals as goal
use Rattle.page_heap.proofs.heap.PageHeap.free_in_region.Goals.{After-leave_region, In_default, In-Some, After-end_region, After-give_freed}

pub leave_region-requires : goal.leave_region-requires
leave_region-requires c = let h = leaving _ _ (is_heap c.self.invariant c.self.view_is) c.args.run c.requires.live c.requires.route in record { place = h.span; some = h.some }

here : (c : After-leave_region) → IsLeaving c.self.inside c.args.run
here c = leaving _ _ (is_heap c.self.invariant c.self.view_is) c.args.run c.requires.live c.requires.route

pub overflow_sub-self : goal.overflow_sub-self
overflow_sub-self c = let h = here (goal.at.overflow_sub-self c).After-leave_region in omega (arith, h.counted, c.from.ensures)

pub leave-requires : goal.leave-requires
leave-requires c = let h = here (goal.at.leave-requires c).After-leave_region in record { some = h.some; used = (h.row, h.used) }

-- Where the region stays.
stayed : (c : In_default) →
    IsHeap (record c.self.inside { table = c.leave_region.new.self; regions = c.leave.new.self; used = c.self.inside.used - c.from.result })
    (given_back c.args.self.now c.args.run)
stayed c =
    let is = is_heap c.self.invariant c.self.view_is in
    let s = stays _ _ is c.args.run c.requires.live c.requires.route c.leave.new.self c.leave.ensures.left c.in_default.ensures.answer in
    made_heap s.1 refl (c.leave_region.ensures.given c.args.self.now is.well.sound is.shows.means c.requires.live s.0) c.huge-huge.ensures.runs refl refl
    refl (ap (λ n. c.self.inside.used - n) c.from.ensures)

pub invariant_of-self : goal.invariant_of-self
invariant_of-self c = kept_by (stayed (goal.at.invariant_of-self c).In_default)

pub returns-in_default : goal.returns-in_default
returns-in_default c = view_by (stayed (goal.at.returns-in_default c).In_default)

-- Where it ends.
went : (c : In-Some) → IsGone c.self.inside c.args.self.now c.args.run c.leave_region.new.self c.leave.new.self c.in-Some.first.0
went c =
    let is = is_heap c.self.invariant c.self.view_is in
    gone _ _ is c.args.run c.requires.live c.requires.route _ _ _
    (c.leave_region.ensures.left c.args.self.now is.well.sound is.shows.means c.requires.live) c.leave.ensures.left c.in-Some.ensures.answer

pub end_region-requires : goal.end_region-requires
end_region-requires c = (went (goal.at.end_region-requires c).In-Some).span

pub close_region-requires : goal.close_region-requires
close_region-requires c = let w = went (goal.at.close_region-requires c).In-Some in (w.row, w.found, w.first_is, w.unused)

is_ended : (c : After-end_region) (w : IsGone c.self.inside c.args.self.now c.args.run c.leave_region.new.self c.leave.new.self c.in-Some.first.0) →
    IsEnded c.self.inside (given_back c.args.self.now c.args.run) c.in-Some.first.0 c.end_region.new.self
is_ended c w = w.ended c.end_region.new.self (w.means c.end_region.new.self c.end_region.ensures)

pub give_freed-requires : goal.give_freed-requires
give_freed-requires c =
    let e = is_ended (goal.at.give_freed-requires c).After-end_region (went (goal.at.give_freed-requires c).In-Some) in
    record { span = e.span; taken = e.taken; unready = e.unready; out = e.out; told = (given_back c.args.self.now c.args.run, e.told) }

ended : (c : After-give_freed) (w : IsGone c.self.inside c.args.self.now c.args.run c.leave_region.new.self c.leave.new.self c.in-Some.first.0) →
    IsHeap (record c.self.inside {
      table = c.end_region.new.self;
      cache = c.give_freed.new.cache;
      regions = c.close_region.new.self;
      used =
          c.self.inside.used - c.from.result;
    }) (given_back c.args.self.now c.args.run)
ended c w =
    let last : Heap = given_back c.args.self.now c.args.run in
    let means = w.means c.end_region.new.self c.end_region.ensures in
    made_heap (w.makes c.give_freed.new.cache (c.give_freed.ensures last (w.ended c.end_region.new.self means).told)) refl means
    c.huge-huge-2.ensures.runs refl refl c.close_region.ensures (ap (λ n. c.self.inside.used - n) c.from.ensures)

pub invariant_of-self-2 : goal.invariant_of-self-2
invariant_of-self-2 c = kept_by (ended (goal.at.invariant_of-self-2 c).After-give_freed (went (goal.at.invariant_of-self-2 c).In-Some))

pub returns : goal.returns
returns c = view_by (ended (goal.at.returns c).After-give_freed (went (goal.at.returns c).In-Some))
