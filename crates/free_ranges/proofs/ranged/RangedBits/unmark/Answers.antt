use Rattle.std.proofs.Common.{◌≡◌, ◌-◌, true, false, List, Bool, length, sym, ap, subst, ◌∙◌, arith}
use Rattle.free_ranges.specs.Bounds.{Tells}
use Rattle.free_ranges.proofs.Bounded.{is_put, used_places, between_freed}
use Rattle.free_ranges.proofs.Common.{with_places, used_inside, IsListed, IsRange}
use Rattle.free_ranges.proofs.Listed.{room_freed, freed_back, left_range, right_range, range_listed, was_complete, freed_listed}
use Rattle.free_ranges.proofs.ranged.RangedBits.unmark.Goals as goal

pub overflow_add-start : goal.overflow_add-start
overflow_add-start c = omega (arith, used_inside c.args.self.now c.args.start c.args.n c.requires.some c.requires.used, ap (λ (row : List Bool). length row) c.self.view_is)

pub next_used-end-requires : goal.next_used-end-requires
next_used-end-requires c = omega (arith, used_inside c.args.self.now c.args.start c.args.n c.requires.some c.requires.used)

pub join-requires-clause-left : goal.join-requires-clause-left
join-requires-clause-left c all some =
    let is : IsListed c.args.self.now c.self.inside.ranges = rw c.self.view_is at c.self.invariant.0 in
    range_listed c.args.self.now _ c.self.inside.ranges (left_range c.args.self.now c.used_end-begin.result c.args.start c.args.n c.next_used-end.result
    c.requires.some c.requires.used c.used_end-begin.ensures c.next_used-end.ensures some) is all

pub join-requires-clause-right : goal.join-requires-clause-right
join-requires-clause-right c all some =
    let is : IsListed c.args.self.now c.self.inside.ranges = rw c.self.view_is at c.self.invariant.0 in
    range_listed c.args.self.now _ c.self.inside.ranges (right_range c.args.self.now c.used_end-begin.result c.args.start c.args.n c.next_used-end.result
    c.requires.some c.requires.used c.used_end-begin.ensures c.next_used-end.ensures some) is all

pub invariant_of-self : goal.invariant_of-self
invariant_of-self c =
    let row = c.args.self.now in
    let begin = c.used_end-begin.result in
    let end = c.next_used-end.result in
    let is : IsListed row c.self.inside.ranges = rw c.self.view_is at c.self.invariant.0 in
    let put : c.put.new.self ≡ with_places row c.args.start c.args.n false = rw c.self.view_is at c.put.ensures in
    let range = subst (λ (r : List Bool). IsRange r (record { len = end - begin; start = begin })) (sym put)
    (room_freed row begin c.args.start c.args.n end c.requires.some c.requires.used c.used_end-begin.ensures c.next_used-end.ensures) in
    let back = freed_back row begin c.args.start c.args.n end c.requires.some c.requires.used c.used_end-begin.ensures c.next_used-end.ensures
    ∙ ap (λ (r : List Bool). with_places r c.args.start c.args.n true) (sym put) in (
      freed_listed row c.put.new.self begin c.args.start c.args.n end range c.used_end-begin.ensures.within c.requires.some c.next_used-end.ensures.behind back
          c.self.inside.ranges c.join.new.self is (was_complete _ _ _ c.join.ensures.complete) c.join.ensures.ranges,
      c.note.ensures row c.put.new.self (subst (λ (r : List Bool). Tells r c.self.inside.bounds) c.self.view_is c.self.invariant.1)
          (is_put row c.put.new.self c.args.start c.args.n true false (used_inside row c.args.start c.args.n c.requires.some c.requires.used)
          (used_places row c.args.start c.args.n c.requires.used) put)
          (between_freed row c.put.new.self c.args.start c.args.n (used_inside row c.args.start c.args.n c.requires.some c.requires.used) c.requires.some
          begin end c.used_end-begin.ensures c.next_used-end.ensures put),
    )
