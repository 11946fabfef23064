use Rattle.std.proofs.Common.{◌≡◌, true, Bool, ◌++◌, Option, insert, is_ok, cond, ap, ◌∙◌, arith}
use Rattle.huge_region.proofs.Common.{RegionRow, regions_of, Regions, with_region}
use Rattle.std.specs.Option.{option_to_list}
use Rattle.huge_region.proofs.Kept.{new_there, comes, came, Became}
use Rattle.huge_region.proofs.regions.HugeRegions.open_region.Goals as goal
use Rattle.huge_region.proofs.regions.HugeRegions.open_region.Goals.{Joined-insert}

-- there is an unused region left
pub unwrap-region-requires : goal.unwrap-region-requires
unwrap-region-requires c =
    let f = c.self.inside in
    let begun = c.begun_by-index.ensures in
    let there = new_there (regions_of f) c.args.self.now c.args.first.0 c.begun_by-index.result c.deref.result.now c.self.view_is c.deref.ensures.value
    c.requires.low c.requires.high c.requires.free begun.within begun.before begun.behind in
    let room = (comes (regions_of f) c.args.first.0 c.begun_by-index.result c.self.invariant.0.sound there).2 in
    c.pop.ensures.variant.1 (omega (arith, room, c.self.invariant.0.rest, f.spare.ok.0))

done : (c : Joined-insert) → Became (regions_of c.self.inside) c.insert.new.self c.pop.new.self.items c.insert-2.new.self.items (with_region c.args.self.now c.args.first.0)
done c =
    let f = c.self.inside in
    let v : Regions = regions_of f in
    let first = c.args.first.0 in
    let b = c.begun_by-index.result in
    let begun = c.begun_by-index.ensures in
    let there = new_there v c.args.self.now first b c.deref.result.now c.self.view_is c.deref.ensures.value
    c.requires.low c.requires.high c.requires.free begun.within begun.before begun.behind in
    let ok : is_ok c.insert-2.result ≡ true = c.insert-2.ensures.succeeds (omega (arith, (comes v first b c.self.invariant.0.sound there).2, c.self.invariant.1, f.regions.ok.0)) in
    let inserted : c.insert-2.new.self.items ≡ insert v.rows b c.begin.new.self = c.insert-2.ensures.items ∙ ap (λ (t : Bool). cond t (insert v.rows b c.begin.new.self) v.rows) ok in
    let is = came v f.keys c.insert.new.self f.spare.items c.pop.new.self.items c.insert-2.new.self.items first b
    c.unwrap-region.result c.begin.new.self c.key.result c.self.invariant.0 there
    (c.pop.ensures.items ∙ ap (λ (o : Option RegionRow). c.pop.new.self.items ++ option_to_list o) c.unwrap-region.ensures)
    c.begin.ensures inserted c.key.ensures c.insert.ensures.keys c.insert.ensures.spare in
    record { kept = is.kept; view = is.view ∙ ap (λ (x : Regions). with_region x first) c.self.view_is }

pub invariant_of-self : goal.invariant_of-self
invariant_of-self c = ((done c).kept, omega (arith, c.insert-2.ensures.capacity, c.self.invariant.1), omega (arith, c.pop.ensures.capacity, c.self.invariant.2))

pub returns : goal.returns
returns c = (done c).view
