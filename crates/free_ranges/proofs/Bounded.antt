-- What the bounds of free ranges tell, and what a change of places makes of them.
use Rattle.std.proofs.Common.{◌≡◌, ◌≢◌, ℕ, zero, suc, ◌+◌, ◌-◌, ◌<◌, ◌≤◌, ◌==◌, ◌&&◌, not, Bool, true, false, List, drop, length, get_or, set, replicate}
use Rattle.std.proofs.Common.{refl, sym, ap, ◌∙◌, inl, inr, arith}
use Rattle.free_ranges.proofs.Common.{nat_tests, cases_lt, false≢true, get_or_past, get_or-set_same, get_or-set_other, get_or-replicate}
use Rattle.free_ranges.proofs.Common.{length-set, length-replicate, cases_eq, begins_range, with_places, length-with_places, place_before, place_in, place_behind}
use Rattle.range_bits.specs.Fills.{IsEnd}
use Rattle.range_bits.specs.Words.{IsNext}
use Rattle.free_ranges.proofs.Common.{FreeRange, IsRange, IsLastRange, used_from, get_or-drop, prefix_len_passes}
use Rattle.free_ranges.proofs.Found.{none_free, used_here}
use Rattle.place_set.specs.Places.{IsLastAt, IsFirstAt}
use Rattle.free_ranges.specs.Bounds.{stops_range, Bounds, Tells, IsPut, IsBetween}

-- from a free place on all are free up to where a range stops
free_up : (row : List Bool) (a k p : ℕ) → p ≡ a + k → get_or row a true ≡ false → ((q : ℕ) → a < q → q ≤ p → stops_range row q ≡ false) →
    get_or row p true ≡ false
free_up row a zero p at base none = let e : p ≡ a = omega arith in ap (λ (i : ℕ). get_or row i true) e ∙ base
free_up row a (suc k) p at base none = grind (arith, free_up row a k (p - 1))

free_inside : (row : List Bool) (p : ℕ) → get_or row p true ≡ false → p < length row
free_inside row p free = elim (cases_lt p (length row)) [ inl inside ↦ inside | inr past ↦ absurd (false≢true (sym free ∙ get_or_past row p true past)) ]

free_begin : (row : List Bool) (p : ℕ) → begins_range row p ≡ true → (get_or row p true ≡ false) × (0 < p → get_or row (p - 1) true ≡ true)
free_begin row p e = grind (arith, nat_tests)

stop_parts : (row : List Bool) (p : ℕ) → stops_range row p ≡ true → (get_or row (p - 1) true ≡ false) × (get_or row p true ≡ true)
stop_parts row p e = grind (arith, nat_tests)

module _ (row : List Bool) (bounds : Bounds) (tells : Tells row bounds) where
  pub told_last : (place start stop : ℕ) → IsLastAt (λ k. get_or bounds.begins k false) 0 place start →
      IsFirstAt (λ k. get_or bounds.stops k false) (start + 1) (length bounds.stops - 1) stop → IsLastRange row place (record { len = stop - start; start = start })
  told_last place start stop last first =
      let begins : begins_range row start ≡ true = sym (tells.begun start) ∙ last.there in
      let stops : stops_range row stop ≡ true = sym (tells.stopped stop) ∙ first.there in
      let here = free_begin row start begins in
      let there = stop_parts row stop stops in
      let far : stop ≤ length row = omega (arith, free_inside row (stop - 1) there.0, first.from) in
      record {
        maximal = record {
          some = omega (arith, first.from);
          within = omega (arith, first.from);
          free = λ p low high. free_up row start (p - start) p (omega arith) here.0 (λ q low' high'. sym (tells.stopped q) ∙ first.before q (omega arith) (omega (arith, first.from)));
          before = here.1;
          end = λ l. (let at : start + (stop - start) ≡ stop = omega (arith, first.from) in ap (λ (i : ℕ). get_or row i true) at ∙ there.1);
        };
        upto = last.to;
        behind = λ p low high. none_free row stop (p - stop) p (omega (arith, first.from)) there.1 (λ q low' high'.
            sym (tells.begun q) ∙ last.behind q (omega (arith, first.from)) (omega arith));
      }

  pub told_none : (place : ℕ) → ((k : ℕ) → 0 ≤ k → k ≤ place → get_or bounds.begins k false ≡ false) → (p : ℕ) → p ≤ place → get_or row p true ≡ true
  told_none place none p upto = grind (arith, none_free row 0 p p, used_here row 0)

  -- a range that begins stops
  pub told_stop : (place start : ℕ) → IsLastAt (λ k. get_or bounds.begins k false) 0 place start →
      ((k : ℕ) → start + 1 ≤ k → k ≤ length bounds.stops - 1 → get_or bounds.stops k false ≡ false) → ⊥
  told_stop place start last none =
      let here = free_begin row start (sym (tells.begun start) ∙ last.there) in
      let inside = free_inside row start here.0 in
      let end = length row in
      let free = free_up row start (end - start) end (omega arith) here.0 (λ q low high. sym (tells.stopped q) ∙ none q (omega arith) (omega (arith, tells.stop_room))) in
      false≢true (sym free ∙ get_or_past row end true (omega arith))

-- by two places that are as before, or in one state
begins_alike : (row new : List Bool) (p : ℕ) → get_or new p true ≡ get_or row p true → get_or new (p - 1) true ≡ get_or row (p - 1) true →
    begins_range new p ≡ begins_range row p
begins_alike row new p e f = grind (arith, nat_tests)

stops_alike : (row new : List Bool) (p : ℕ) → get_or new p true ≡ get_or row p true → get_or new (p - 1) true ≡ get_or row (p - 1) true →
    stops_range new p ≡ stops_range row p
stops_alike row new p e f = grind (arith, nat_tests)

inner_begins : (row : List Bool) (p : ℕ) (b : Bool) → 0 < p → get_or row p true ≡ b → get_or row (p - 1) true ≡ b → begins_range row p ≡ false
inner_begins row p b some e f = grind (arith, nat_tests)

inner_stops : (row : List Bool) (p : ℕ) (b : Bool) → get_or row p true ≡ b → get_or row (p - 1) true ≡ b → stops_range row p ≡ false
inner_stops row p b e f = grind (arith, nat_tests)

-- only where the change begins and ends may a range begin or stop that didn't
begins_same : (row new : List Bool) (start n p : ℕ) → IsPut row new start n → p ≢ start → p ≢ start + n → begins_range new p ≡ begins_range row p
begins_same row new start n p put a b = grind (arith, nat_tests, begins_alike, inner_begins)

stops_same : (row new : List Bool) (start n p : ℕ) → IsPut row new start n → p ≢ start → p ≢ start + n → stops_range new p ≡ stops_range row p
stops_same row new start n p put a b = grind (arith, nat_tests, stops_alike, inner_stops)

twice : (xs : List Bool) (start end p : ℕ) (f : ℕ → Bool) → start < length xs → end < length xs → (p ≢ start → p ≢ end → get_or xs p false ≡ f p) →
    get_or (set (set xs start (f start)) end (f end)) p false ≡ f p
twice xs start end p f inside inside' other = grind (arith, nat_tests, cases_eq, get_or-set_same, get_or-set_other, length-set)

twice_length : (xs : List Bool) (i j : ℕ) (a b : Bool) → length (set (set xs i a) j b) ≡ length xs
twice_length xs i j a b = length-set (set xs i a) j b ∙ length-set xs i a

-- what is between two states
module _ (new : List Bool) (start n : ℕ) (used before behind : Bool) (between : IsBetween new start n used before behind) where
  begins_first : begins_range new start ≡ not used && before
  begins_first = grind (arith, nat_tests, between.first, between.before, between.none)

  stops_first : stops_range new start ≡ not before && used
  stops_first = grind (arith, nat_tests, between.first, between.before, between.none)

  begins_behind : begins_range new (start + n) ≡ not behind && used
  begins_behind = grind (arith, nat_tests, between.some, between.last, between.behind)

  stops_behind : stops_range new (start + n) ≡ not used && behind
  stops_behind = grind (arith, nat_tests, between.some, between.last, between.behind)

  pub told_put : (row : List Bool) (old now : Bounds) → Tells row old → IsPut row new start n → start + n < length old.begins → start + n < length old.stops →
      now.begins ≡ set (set old.begins start (not used && before)) (start + n) (not behind && used) →
      now.stops ≡ set (set old.stops start (not before && used)) (start + n) (not used && behind) → Tells new now
  told_put row old now tells put room room' e f =
      let begun : now.begins ≡ set (set old.begins start (begins_range new start)) (start + n) (begins_range new (start + n)) = grind (arith, begins_first, begins_behind) in
      let stopped : now.stops ≡ set (set old.stops start (stops_range new start)) (start + n) (stops_range new (start + n)) = grind (arith, stops_first, stops_behind) in
      record {
        begun = λ p. ap (λ (r : List Bool). get_or r p false) begun
            ∙ twice old.begins start (start + n) p (begins_range new) (omega arith) room (λ a b. tells.begun p ∙ sym (begins_same row new start n p put a b));
        stopped = λ p. ap (λ (r : List Bool). get_or r p false) stopped
            ∙ twice old.stops start (start + n) p (stops_range new) (omega arith) room' (λ a b. tells.stopped p ∙ sym (stops_same row new start n p put a b));
        begin_room = omega (arith, put.size, tells.begin_room, ap length begun ∙ twice_length old.begins start (start + n) (begins_range new start) (begins_range new (start + n)));
        stop_room = omega (arith, put.size, tells.stop_room, ap length stopped ∙ twice_length old.stops start (start + n) (stops_range new start) (stops_range new (start + n)));
      }

-- places that come into another state
pub is_put : (row new : List Bool) (start n : ℕ) (was is : Bool) → start + n ≤ length row → ((k : ℕ) → start ≤ k → k < start + n → get_or row k true ≡ was) →
    new ≡ with_places row start n is → IsPut row new start n
is_put row new start n was is inside before e = record {
  size = ap (λ (r : List Bool). length r) e ∙ length-with_places row start n is inside;
  was = was;
  is = is;
  before = before;
  after = λ k low high. ap (λ (r : List Bool). get_or r k true) e ∙ place_in row start n is inside k true low high;
  early = λ k l. ap (λ (r : List Bool). get_or r k true) e ∙ place_before row start n is inside k true l;
  late = λ k l. ap (λ (r : List Bool). get_or r k true) e ∙ place_behind row start n is inside k true l;
}

pub used_places : (row : List Bool) (start n : ℕ) → n ≤ used_from row start → (k : ℕ) → start ≤ k → k < start + n → get_or row k true ≡ true
used_places row start n used k low high =
    let at : start + (k - start) ≡ k = omega arith in
    sym (ap (λ (i : ℕ). get_or row i true) at) ∙ sym (get_or-drop start row (k - start) true) ∙ prefix_len_passes (λ u. u) (drop start row) (k - start) true (omega arith)

-- a row as all its places become free
pub put_all : (places : ℕ) → IsPut (replicate places true) (replicate places false) 0 places
put_all places = record {
  size = length-replicate places false ∙ sym (length-replicate places true);
  was = true;
  is = false;
  before = λ k low high. get_or-replicate places k true true (omega arith);
  after = λ k low high. get_or-replicate places k false true (omega arith);
  early = λ k l. absurd (omega arith);
  late = λ k l. grind (arith, nat_tests, get_or_past, length-replicate);
}

pub between_all : (places : ℕ) → 0 < places → IsBetween (replicate places false) 0 places false true true
between_all places some = record {
  some = some;
  first = get_or-replicate places 0 false true some;
  last = get_or-replicate places (0 + places - 1) false true (omega arith);
  before = λ l. absurd (omega arith);
  none = λ z. refl;
  behind = grind (arith, nat_tests, get_or_past, length-replicate);
}

-- what places that come into another state stand between
module _ (row new : List Bool) (start n : ℕ) (used : Bool) (inside : start + n ≤ length row) (some : 0 < n) (e : new ≡ with_places row start n used) where
  at : (k : ℕ) → get_or new k true ≡ get_or (with_places row start n used) k true
  at k = ap (λ (r : List Bool). get_or r k true) e

  placed_between : (before behind : Bool) → (0 < start → get_or row (start - 1) true ≡ before) → (start ≡ 0 → before ≡ true) →
      get_or row (start + n) true ≡ behind → IsBetween new start n used before behind
  placed_between before behind left none right = grind (arith, at, place_in, place_before, place_behind)

-- a part of a free range, and what is freed beside free places
module _ (row new : List Bool) (start n : ℕ) (inside : start + n ≤ length row) (some : 0 < n) where
  pub between_parted : (range : FreeRange) → IsRange row range → range.start ≤ start → start + n ≤ range.start + range.len →
      new ≡ with_places row start n true → IsBetween new start n true (start - range.start == 0) (range.start + range.len - (start + n) == 0)
  between_parted range maximal order within e = placed_between row new start n true inside some e _ _
      (λ l. grind (arith, nat_tests, maximal.before, maximal.free)) (λ z. grind (arith, nat_tests)) (grind (arith, nat_tests, maximal.end, maximal.free, get_or_past))

  pub between_freed : (begin end : ℕ) → IsEnd row start true begin → IsNext row (start + n) true end →
      new ≡ with_places row start n false → IsBetween new start n false (start - begin == 0) (end - (start + n) == 0)
  between_freed begin end left right e = placed_between row new start n false inside some e _ _
      (λ l. grind (arith, nat_tests, left.behind, left.there, left.within)) (λ z. grind (arith, nat_tests)) (grind (arith, nat_tests, right.behind, right.before, right.there, get_or_past))
