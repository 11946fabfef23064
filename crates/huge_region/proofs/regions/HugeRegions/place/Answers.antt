use Rattle.std.proofs.Common.{◌≡◌, ℕ, ◌+◌, ◌*◌, true, false, not, Some, is_some, option_map, refl, sym, ap, subst, ◌∙◌, arith}
use Rattle.huge_region.proofs.Common.{list_all, best, best_there, RegionRow, has_room, regions_of, Regions}
use Rattle.tc_units.specs.declared.units.Page.{Page}
use Rattle.huge_region.proofs.Chosen.{IsPlaced, none_chosen, placed_nowhere, some_has_room, chosen_by, placed}
use Rattle.huge_region.proofs.Kept.{read_there}
use Rattle.huge_region.proofs.regions.HugeRegions.place.Goals as goal
use Rattle.huge_region.proofs.regions.HugeRegions.place.Goals.{After-from_residual, After-from}

none_now : (c : After-from_residual) → list_all (λ row. not (has_room c.args.n row)) c.args.self.now.rows ≡ true
none_now c = subst (λ (x : Regions). list_all (λ row. not (has_room c.args.n row)) x.rows ≡ true) c.self.view_is
    (none_chosen (regions_of c.self.inside) c.self.inside.keys.keys c.args.n c.self.invariant.0.keys_are (c.in_err-key.ensures.none.0 refl))

pub returns-in_err-key-clause-place : goal.returns-in_err-key-clause-place
returns-in_err-key-clause-place c = ap (option_map (λ (p : Page). p.0)) c.from_residual.ensures ∙ sym (placed_nowhere c.args.self.now.rows c.args.n (none_now c))

pub returns-in_err-key-clause-none : goal.returns-in_err-key-clause-none
returns-in_err-key-clause-none c = ((λ _. none_now c), (λ _. ap is_some c.from_residual.ensures))

pub place_of-index-requires : goal.place_of-index-requires
place_of-index-requires c =
    let is = chosen_by c.self.inside c.args.self.now c.args.n c.in_ok-key.key c.self.invariant c.self.view_is c.in_ok-key.ensures.found in
    ap is_some is.1.found

pub unwrap-start-requires : goal.unwrap-start-requires
unwrap-start-requires c =
    let is = chosen_by c.self.inside c.args.self.now c.args.n c.in_ok-key.key c.self.invariant c.self.view_is c.in_ok-key.ensures.found in
    let same = read_there c.self.inside c.args.self.now c.in_ok-key.key.first.0 c.place_of-index.result is.0 c.index.result.now c.self.view_is
    is.1.found c.place_of-index.ensures.found c.index.ensures in
    ap is_some (c.best.ensures.value ∙ ap (λ (r : RegionRow). best r.used c.args.n) (sym same) ∙ (best_there is.0.used c.args.n c.requires is.1.room).1)

-- the place that is found
placed_at : (c : After-from) → IsPlaced c.args.self.now c.args.n (256 * c.from.result + c.unwrap-start.result)
placed_at c =
    let is = chosen_by c.self.inside c.args.self.now c.args.n c.in_ok-key.key c.self.invariant c.self.view_is c.in_ok-key.ensures.found in
    let same = read_there c.self.inside c.args.self.now c.in_ok-key.key.first.0 c.place_of-index.result is.0 c.index.result.now c.self.view_is
    is.1.found c.place_of-index.ensures.found c.index.ensures in
    let start : best is.0.used c.args.n ≡ Some c.unwrap-start.result = ap (λ (r : RegionRow). best r.used c.args.n) same ∙ sym c.best.ensures.value ∙ c.unwrap-start.ensures in
    subst (λ (h : ℕ). IsPlaced c.args.self.now c.args.n (256 * h + c.unwrap-start.result)) (sym c.from.ensures)
    (placed c.args.self.now c.args.n c.in_ok-key.key.first.0 c.unwrap-start.result is.0 c.place_of-index.ensures.sound c.requires is.1 start)

pub overflow_add-result : goal.overflow_add-result
overflow_add-result c = omega (arith, (placed_at c).small)

pub returns-clause-place : goal.returns-clause-place
returns-clause-place c = sym (placed_at c).place

pub returns-clause-none : goal.returns-clause-none
returns-clause-none c =
    let is = chosen_by c.self.inside c.args.self.now c.args.n c.in_ok-key.key c.self.invariant c.self.view_is c.in_ok-key.ensures.found in
    ((λ (e : true ≡ false). absurd (cc)), (λ all. absurd (some_has_room c.args.self.now c.args.n c.in_ok-key.key.first.0 is.0 is.1 all)))

pub returns-clause-free : goal.returns-clause-free
returns-clause-free c = ((placed_at c).region, (placed_at c).free)
