-- A run that came may leave.
use Rattle.huge_region.proofs.Common.{nat_tests, find, eq-eqb, huge_pages, spans, RegionRow, Regions, with_changed, joined, start_in, AreFreeIn, AreUsedIn}
use Rattle.std.proofs.Common.{arith, ◌≡◌, ℕ, ◌/◌, ◌<◌, cond, ◌==◌, List, [], ◌∷◌, map, Some, refl, ap, ◌∙◌, Bool, option_map}
use Rattle.range_bits.proofs.Stretches.{used_then}

-- a region that changed is found by its hugepages as before
abbrev at_first : ℕ → (RegionRow → RegionRow) → RegionRow → RegionRow
at_first first change r = cond (r.first == first) (change r) r

find_changed : (w h first : ℕ) (change : RegionRow → RegionRow) (rows : List RegionRow) → ((r : RegionRow) → (change r).first ≡ r.first)
    → find (λ (r : RegionRow). spans w h r.first) (map (at_first first change) rows) ≡ option_map (at_first first change) (find (λ (r : RegionRow). spans w h r.first) rows)
find_changed w h first change [] keeps = refl
find_changed w h first change (r ∷ rows) keeps = grind (arith, nat_tests, at_first, find_changed w h first change rows keeps)

pub came : (all : Regions) (page n : ℕ) (r : RegionRow) → 0 < n → AreFreeIn all page n r → AreUsedIn (with_changed all r.first (joined (start_in r page) n)) page n (joined (start_in r page) n r)
came all page n r some is =
    let change : RegionRow → RegionRow = joined (start_in r page) n in
    record {
      row = find_changed all.width (page / huge_pages) r.first change all.rows (λ x. refl) ∙ ap (option_map (at_first r.first change)) is.row
          ∙ ap (λ (b : Bool). Some (cond b (change r) r)) (eq-eqb r.first r.first refl);
      used = used_then r.used (start_in r page) n some is.free;
    }
