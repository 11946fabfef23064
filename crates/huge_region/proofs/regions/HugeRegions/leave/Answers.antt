use Rattle.huge_region.proofs.Common.{nat_tests, used_from, used_inside, length-with_places, RegionRow, RegionKey, regions_of, region_with, start_in}
use Rattle.std.proofs.Common.{◌≡◌, ℕ, ◌-◌, ◌*◌, ◌≤◌, false, length, ap, subst, ◌∙◌, arith}
use Rattle.huge_region.proofs.Kept.{stands, held_key, read_there, in_arena, put_in, put, IsPut}
use Rattle.huge_region.proofs.regions.HugeRegions.leave.Goals as goal
use Rattle.huge_region.proofs.regions.HugeRegions.leave.Goals.{Joined-unused}

pub huge_of-huge-requires : goal.huge_of-huge-requires
huge_of-huge-requires c = in_arena c.self.inside c.args.self.now c.args.run.first.0 c.requires.used.0 c.self.invariant c.self.view_is c.requires.used.1.row

pub overflow_sub-run : goal.overflow_sub-run
overflow_sub-run c = grind (arith, nat_tests, stands)

pub rekey-requires : goal.rekey-requires
rekey-requires c =
    let old = c.index_mut-region.result.now in
    let at = stands (regions_of c.self.inside) c.args.self.now c.huge_of-huge.result.0 c.place_of-index.result old c.self.view_is c.self.invariant.0.sound
    c.place_of-index.ensures.within c.place_of-index.ensures.found c.index_mut-region.ensures.value in
    held_key (regions_of c.self.inside) c.self.inside.keys c.self.inside.spare.items c.huge_of-huge.result.0 c.place_of-index.result old
    c.key-before.result c.self.invariant.0 at c.key-before.ensures

done : (c : Joined-unused) → IsPut c.self.inside c.args.self.now c.rekey.new.self c.place_of-index.result c.args.run.first.0 c.args.run.pages false c.leave.new.self
done c =
    let old = c.index_mut-region.result.now in
    let page = c.args.run.first.0 in
    let h = c.huge_of-huge.result.0 in
    let r : RegionRow = c.requires.used.0 in
    let at = stands (regions_of c.self.inside) c.args.self.now h c.place_of-index.result old c.self.view_is c.self.invariant.0.sound
    c.place_of-index.ensures.within c.place_of-index.ensures.found c.index_mut-region.ensures.value in
    let same : r ≡ old = read_there c.self.inside c.args.self.now h c.place_of-index.result r old c.self.view_is
    (ap (region_with c.args.self.now) c.huge_of-huge.ensures ∙ c.requires.used.1.row) c.place_of-index.ensures.found c.index_mut-region.ensures.value in
    let start : page - 256 * c.from.result ≡ start_in old page = ap (λ (f : ℕ). page - 256 * f) (c.from.ensures ∙ ap (λ (k : RegionKey). k.first.0) c.key-before.ensures) in
    let is : c.leave.new.self ≡ put_in (start_in old page) c.args.run.pages false old = c.leave.ensures ∙ ap (λ (s : ℕ). put_in s c.args.run.pages false old) start in
    let used : c.args.run.pages ≤ used_from old.used (start_in old page) = subst (λ (x : RegionRow). c.args.run.pages ≤ used_from x.used (start_in x page)) same c.requires.used.1.used in
    put c.self.inside c.args.self.now c.rekey.new.self h c.place_of-index.result page c.args.run.pages false old c.leave.new.self c.key-before.result c.key.result
    c.self.invariant c.self.view_is at c.huge_of-huge.ensures is
    (ap (λ (x : RegionRow). length x.used) is ∙ length-with_places old.used (start_in old page) c.args.run.pages false (used_inside old.used (start_in old page) c.args.run.pages c.requires.some used))
    c.key-before.ensures c.key.ensures c.rekey.ensures.keys c.rekey.ensures.spare

pub invariant_of-self : goal.invariant_of-self
invariant_of-self c = ((done c).kept, c.self.invariant.1, c.self.invariant.2)

pub returns-clause-left : goal.returns-clause-left
returns-clause-left c = (done c).view
