use Rattle.std.proofs.Common.{◌≡◌, true, false, List, Bool, subst, arith}
use Rattle.free_ranges.specs.Bounds.{Tells}
use Rattle.free_ranges.proofs.Bounded.{is_put, between_parted}
use Rattle.free_ranges.proofs.Common.{with_places, IsListed}
use Rattle.free_ranges.proofs.Listed.{range_listed, was_complete, marked_listed}
use Rattle.free_ranges.proofs.ranged.RangedBits.part.Goals as goal

pub split-requires-clause-held : goal.split-requires-clause-held
split-requires-clause-held c all = grind (arith, range_listed c.args.self.now c.args.range c.self.inside.ranges c.requires.maximal)

pub invariant_of-self : goal.invariant_of-self
invariant_of-self c =
    let is : IsListed c.args.self.now c.self.inside.ranges = rw c.self.view_is at c.self.invariant.0 in
    let put : c.put.new.self ≡ with_places c.args.self.now c.args.start c.args.n true = rw c.self.view_is at c.put.ensures in (
      marked_listed c.args.self.now c.put.new.self c.args.range c.args.start c.args.n c.requires.maximal c.requires.order c.requires.some c.requires.within put
          c.self.inside.ranges c.split.new.self is (was_complete _ _ _ c.split.ensures.complete) c.split.ensures.ranges,
      c.note.ensures c.args.self.now c.put.new.self (subst (λ (row : List Bool). Tells row c.self.inside.bounds) c.self.view_is c.self.invariant.1)
          (is_put c.args.self.now c.put.new.self c.args.start c.args.n false true (omega (arith, c.requires.within, c.requires.maximal.within))
          (λ k low high. c.requires.maximal.free k (omega (arith, c.requires.order)) (omega (arith, c.requires.within))) put)
          (between_parted c.args.self.now c.put.new.self c.args.start c.args.n (omega (arith, c.requires.within, c.requires.maximal.within)) c.requires.some
          c.args.range c.requires.maximal c.requires.order c.requires.within put),
    )
