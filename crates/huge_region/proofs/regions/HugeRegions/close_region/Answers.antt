use Rattle.std.proofs.Common.{◌≡◌, ℕ, true, Bool, ◌∷◌, [], ◌++◌, is_ok, cond, sym, ap, ◌∙◌, arith}
use Rattle.huge_region.proofs.Common.{same_Some, RegionRow, regions_of, Regions, region_with, without_region, is_unused}
use Rattle.huge_region.proofs.Kept.{stands, held_key, gone, Became}
use Rattle.huge_region.proofs.regions.HugeRegions.close_region.Goals as goal
use Rattle.huge_region.proofs.regions.HugeRegions.close_region.Goals.{Joined-push}

pub remove-requires : goal.remove-requires
remove-requires c =
    let old = c.remove-region.result in
    let at = stands (regions_of c.self.inside) c.args.self.now c.args.first.0 c.place_of-index.result old c.self.view_is c.self.invariant.0.sound
    c.place_of-index.ensures.within c.place_of-index.ensures.found c.remove-region.ensures.value in
    held_key (regions_of c.self.inside) c.self.inside.keys c.self.inside.spare.items c.args.first.0 c.place_of-index.result old
    c.key.result c.self.invariant.0 at c.key.ensures

done : (c : Joined-push) → Became (regions_of c.self.inside) c.remove.new.self c.push.new.self.items c.remove-region.new.self.items (without_region c.args.self.now c.args.first.0)
done c =
    let f = c.self.inside in
    let v : Regions = regions_of f in
    let first = c.args.first.0 in
    let old = c.remove-region.result in
    let at = stands v c.args.self.now first c.place_of-index.result old c.self.view_is c.self.invariant.0.sound c.place_of-index.ensures.within
    c.place_of-index.ensures.found c.remove-region.ensures.value in
    let same : old ≡ c.requires.0 = same_Some old c.requires.0 (sym at.found ∙ ap (λ (x : Regions). region_with x first) c.self.view_is ∙ c.requires.1) in
    let ok : is_ok c.push.result ≡ true = c.push.ensures.succeeds (omega (arith, at.inside, c.self.invariant.0.rest, c.self.invariant.2, f.spare.ok.0)) in
    let pushed : c.push.new.self.items ≡ f.spare.items ++ old ∷ [] = c.push.ensures.items ∙ ap (λ (t : Bool). cond t (f.spare.items ++ old ∷ []) f.spare.items) ok in
    let is = gone v f.keys c.remove.new.self f.spare.items c.push.new.self.items c.remove-region.new.self.items first
    c.place_of-index.result old c.key.result c.self.invariant.0 at (ap is_unused same ∙ c.requires.3) c.key.ensures c.remove.ensures.keys c.remove.ensures.spare
    c.remove-region.ensures.items pushed in
    record {
      kept = is.kept;
      view = is.view ∙ ap (λ (n : ℕ). without_region v n) (ap (λ (r : RegionRow). r.first) same ∙ c.requires.2) ∙ ap (λ (x : Regions). without_region x first) c.self.view_is;
    }

pub invariant_of-self : goal.invariant_of-self
invariant_of-self c = ((done c).kept, omega (arith, c.remove-region.ensures.capacity, c.self.invariant.1), omega (arith, c.push.ensures.capacity, c.self.invariant.2))

pub returns : goal.returns
returns c = (done c).view
