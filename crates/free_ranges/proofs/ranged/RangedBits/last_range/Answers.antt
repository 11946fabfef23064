use Rattle.std.proofs.Common.{◌≡◌, ◌^◌, List, Bool, length, ap, subst, arith}
use Rattle.free_ranges.specs.Bounds.{Bounds, Tells}
use Rattle.free_ranges.proofs.Found.{range_small}
use Rattle.free_ranges.proofs.ranged.RangedBits.last_range.Goals as goal

tells : {bits row : List Bool} (bounds : Bounds) → bits ≡ row → Tells bits bounds → Tells row bounds
tells bounds is told = subst (λ (r : List Bool). Tells r bounds) is told

pub last_upto-requires-clause-begins : goal.last_upto-requires-clause-begins
last_upto-requires-clause-begins c = omega (arith, (tells c.self.inside.bounds c.self.view_is c.self.invariant.1).begin_room, c.requires)

pub last_upto-requires-clause-stops : goal.last_upto-requires-clause-stops
last_upto-requires-clause-stops c = omega (arith, (tells c.self.inside.bounds c.self.view_is c.self.invariant.1).stop_room, c.requires)

pub returns-clause-found : goal.returns-clause-found
returns-clause-found c = c.last_upto.ensures.found c.args.self.now (tells c.self.inside.bounds c.self.view_is c.self.invariant.1)

pub returns-clause-none : goal.returns-clause-none
returns-clause-none c = c.last_upto.ensures.none c.args.self.now (tells c.self.inside.bounds c.self.view_is c.self.invariant.1)

pub returns-clause-places : goal.returns-clause-places
returns-clause-places c = range_small c.args.self.now c.args.place (2 ^ 32) c.last_upto.result
    (omega (arith, c.places.ensures, ap (λ (row : List Bool). length row) c.self.view_is)) (c.last_upto.ensures.found c.args.self.now (tells c.self.inside.bounds c.self.view_is c.self.invariant.1))
