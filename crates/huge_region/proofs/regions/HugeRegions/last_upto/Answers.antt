use Rattle.std.proofs.Common.{ℕ, ◌<◌, ◌≤◌, Some, List, length, get_or, sym, ap, subst, ◌∙◌, inl, inr, arith}
use Rattle.huge_region.proofs.Common.{cases_lt, RegionRow, regions_of, Regions, region_with}
use Rattle.huge_region.proofs.Apart.{found_there, none_behind, read_first}
use Rattle.huge_region.proofs.regions.HugeRegions.last_upto.Goals as goal

pub returns-in_err-index-clause-none : goal.returns-in_err-index-clause-none
returns-in_err-index-clause-none c =
    let v : Regions = regions_of c.self.inside in
    let none : c.begun_by.result < 1 = elim (cases_lt c.begun_by.result 1) [ inl l ↦ l | inr some ↦ absurd (c.in_err-index.ensures some) ] in
    let Later : List RegionRow → Type 0 = λ rows. (i : ℕ) (d : RegionRow) → c.begun_by.result ≤ i → i < length rows → c.args.above.0 < (get_or rows i d).first in
    let behind = subst Later c.deref.ensures.value c.begun_by.ensures.behind in
    rw c.from_residual.ensures
    (λ k l. ap (λ (x : Regions). region_with x k) (sym c.self.view_is)
    ∙ none_behind v.width 1 k 0 v.rows c.self.invariant.0.sound.apart (omega arith) (λ i d m n. omega (arith, behind i d (omega arith) n)) (λ i d m. absurd (omega arith)))

pub returns-clause-found : goal.returns-clause-found
returns-clause-found c =
    let v : Regions = regions_of c.self.inside in
    let r = c.index.result.now in
    let i = c.in_ok-index.index in
    let last = c.in_ok-index.ensures in
    let inside : i < length v.rows = omega (arith, last, c.begun_by.ensures.within, ap (λ (l : List RegionRow). length l) c.deref.ensures.value) in
    let first = ap (λ (x : RegionRow). x.first) c.index.ensures in
    let low = c.begun_by.ensures.before i r (omega (arith, last)) in
    let same = ap (λ (l : List RegionRow). (get_or l i r).first) c.deref.ensures.value in (
      r,
      ap (λ (x : Regions). region_with x c.min.result) (sym c.self.view_is)
          ∙ found_there v.width 1 c.min.result v.rows i r c.self.invariant.0.sound.apart inside
          (omega (arith, first, same, low, c.min.ensures, c.from.ensures, c.from-2.ensures, c.first-first.ensures, c.self.invariant.0.sound.wide))
          (omega (arith, first, c.min.ensures, c.from.ensures, c.first-first.ensures, c.self.invariant.0.sound.wide))
          ∙ ap (λ (x : RegionRow). Some x) (sym c.index.ensures),
    )

pub returns-clause-behind : goal.returns-clause-behind
returns-clause-behind c =
    let v : Regions = regions_of c.self.inside in
    let last = c.in_ok-index.ensures in
    let size = ap (λ (l : List RegionRow). length l) c.deref.ensures.value in
    let Later : List RegionRow → Type 0 = λ rows. (i : ℕ) (d : RegionRow) → c.begun_by.result ≤ i → i < length rows → c.args.above.0 < (get_or rows i d).first in
    let behind = subst Later c.deref.ensures.value c.begun_by.ensures.behind in
    λ k l m.
    ap (λ (x : Regions). region_with x k) (sym c.self.view_is)
    ∙ none_behind v.width 1 k c.begun_by.result v.rows c.self.invariant.0.sound.apart (omega (arith, size, c.begun_by.ensures.within))
    (λ i d n o. omega (arith, behind i d n o)) (λ i d at.
    let first = read_first v.rows i c.in_ok-index.index d c.index.result.now c.index.ensures (omega (arith, at, last)) (omega (arith, at, size, c.begun_by.ensures.within)) in
    omega (arith, first, c.min.ensures, c.from.ensures, c.from-2.ensures, c.first-first.ensures))
