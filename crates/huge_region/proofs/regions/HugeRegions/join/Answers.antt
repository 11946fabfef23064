use Rattle.huge_region.proofs.Common.{nat_tests, free_from, free_inside, length-with_places, RegionRow, RegionKey, regions_of, region_with, start_in}
use Rattle.std.proofs.Common.{◌≡◌, ℕ, ◌-◌, ◌*◌, ◌≤◌, true, length, ap, subst, ◌∙◌, arith}
use Rattle.huge_region.proofs.Kept.{stands, held_key, read_there, in_arena, put_in, put, IsPut}
use Rattle.huge_region.proofs.regions.HugeRegions.join.Goals as goal
use Rattle.huge_region.proofs.regions.HugeRegions.join.Goals.{After-rekey}

pub huge_of-huge-requires : goal.huge_of-huge-requires
huge_of-huge-requires c = in_arena c.self.inside c.args.self.now c.args.first.0 c.requires.free.0 c.self.invariant c.self.view_is c.requires.free.1.row

pub overflow_sub-first : goal.overflow_sub-first
overflow_sub-first c = grind (arith, nat_tests, stands)

pub rekey-requires : goal.rekey-requires
rekey-requires c =
    let old = c.index_mut-region.result.now in
    let at = stands (regions_of c.self.inside) c.args.self.now c.huge_of-huge.result.0 c.place_of-index.result old c.self.view_is c.self.invariant.0.sound
    c.place_of-index.ensures.within c.place_of-index.ensures.found c.index_mut-region.ensures.value in
    held_key (regions_of c.self.inside) c.self.inside.keys c.self.inside.spare.items c.huge_of-huge.result.0 c.place_of-index.result old
    c.key-before.result c.self.invariant.0 at c.key-before.ensures

done : (c : After-rekey) → IsPut c.self.inside c.args.self.now c.rekey.new.self c.place_of-index.result c.args.first.0 c.args.n true c.join.new.self
done c =
    let old = c.index_mut-region.result.now in
    let page = c.args.first.0 in
    let h = c.huge_of-huge.result.0 in
    let r : RegionRow = c.requires.free.0 in
    let at = stands (regions_of c.self.inside) c.args.self.now h c.place_of-index.result old c.self.view_is c.self.invariant.0.sound
    c.place_of-index.ensures.within c.place_of-index.ensures.found c.index_mut-region.ensures.value in
    let same : r ≡ old = read_there c.self.inside c.args.self.now h c.place_of-index.result r old c.self.view_is
    (ap (region_with c.args.self.now) c.huge_of-huge.ensures ∙ c.requires.free.1.row) c.place_of-index.ensures.found c.index_mut-region.ensures.value in
    let start : page - 256 * c.from.result ≡ start_in old page = ap (λ (f : ℕ). page - 256 * f) (c.from.ensures ∙ ap (λ (k : RegionKey). k.first.0) c.key-before.ensures) in
    let is : c.join.new.self ≡ put_in (start_in old page) c.args.n true old = c.join.ensures ∙ ap (λ (s : ℕ). put_in s c.args.n true old) start in
    let free : c.args.n ≤ free_from old.used (start_in old page) = subst (λ (x : RegionRow). c.args.n ≤ free_from x.used (start_in x page)) same c.requires.free.1.free in
    put c.self.inside c.args.self.now c.rekey.new.self h c.place_of-index.result page c.args.n true old c.join.new.self c.key-before.result c.key.result
    c.self.invariant c.self.view_is at c.huge_of-huge.ensures is
    (ap (λ (x : RegionRow). length x.used) is ∙ length-with_places old.used (start_in old page) c.args.n true (free_inside old.used (start_in old page) c.args.n c.requires.some free))
    c.key-before.ensures c.key.ensures c.rekey.ensures.keys c.rekey.ensures.spare

pub invariant_of-self : goal.invariant_of-self
invariant_of-self c = ((done c).kept, c.self.invariant.1, c.self.invariant.2)

pub returns : goal.returns
returns c = (done c).view
