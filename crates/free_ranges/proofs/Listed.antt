-- What a mark or an unmark makes of the listed ranges.
use Rattle.std.proofs.Common.{◌≡◌, ℕ, ◌+◌, ◌-◌, ◌<◌, ◌≤◌, ◌==◌, ◌&&◌, Bool, true, false, cond, List, [], ◌∷◌, drop, length, get_or, count_by, min, max, Contains, IsPermutation, replicate, refl, sym, ap, ◌∙◌, arith, eq-eqb, eqb-true}
use Rattle.free_ranges.proofs.Common.{nat_tests, cases_lt, and_from, and_parts, get_or-drop, get_or-replicate, length-replicate, sum_by-cons, prefix_len_passes}
use Rattle.free_ranges.proofs.Common.{free_from, used_from, with_places, free_inside, used_inside, length-with_places, place_before, place_in, place_behind}
use Rattle.free_ranges.proofs.Common.{placed_again, placed_already, free_at, free_run, found_some, count_held, FreeRange, Listing, IsListed, range_at, starts}
use Rattle.free_ranges.proofs.Common.{IsRange, IsLastRange}
use Rattle.std.proofs.lemmas.List.Sorted.{sum_by-IsPermutation}
use Rattle.range_bits.specs.Fills.{IsEnd}
use Rattle.range_bits.specs.Words.{IsNext}
use Rattle.free_ranges.proofs.Found.{listed}
use Rattle.free_ranges.proofs.Marked.{parted}
use Rattle.free_ranges.proofs.Pieces.{count_in, counts, counts_some, all_parts, free_part}

-- a range that comes, and one that goes
pub added : (test : FreeRange → Bool) (keys keys' : List FreeRange) (start len : ℕ) → 0 < len → IsPermutation (record { len = len; start = start } ∷ keys) keys'
    → count_by test keys' ≡ count_by test keys + counts test start len
added test keys keys' start len some moved =
    let range : FreeRange = record { len = len; start = start } in
    omega (
      arith,
      sum_by-IsPermutation (λ (r : FreeRange). cond (test r) 1 0) (range ∷ keys) keys' moved,
      sum_by-cons
          (λ (r : FreeRange). cond (test r) 1 0) range keys,
      counts_some test start len some,
    )

pub taken : (test : FreeRange → Bool) (keys keys' : List FreeRange) (start len : ℕ) → 0 < len → IsPermutation keys (record { len = len; start = start } ∷ keys')
    → count_by test keys' + counts test start len ≡ count_by test keys
taken test keys keys' start len some moved =
    let range : FreeRange = record { len = len; start = start } in
    omega (
      arith,
      sum_by-IsPermutation (λ (r : FreeRange). cond (test r) 1 0) keys (range ∷ keys') moved,
      sum_by-cons
          (λ (r : FreeRange). cond (test r) 1 0) range keys',
      counts_some test start len some,
    )

-- a range that comes in place of another one
pub exchanged : (test : FreeRange → Bool) (keys keys' : List FreeRange) (from to : FreeRange) → 0 < from.len → 0 < to.len → IsPermutation (to ∷ keys) (from ∷ keys')
    → count_by test keys' + counts test from.start from.len ≡ count_by test keys + counts test to.start to.len
exchanged test keys keys' from to some some' moved =
    omega (
      arith,
      sum_by-IsPermutation (λ (r : FreeRange). cond (test r) 1 0) (to ∷ keys) (from ∷ keys') moved,
      sum_by-cons
          (λ (r : FreeRange). cond (test r) 1 0) to keys,
      sum_by-cons
          (λ (r : FreeRange). cond (test r) 1 0) from keys',
      counts_some test from.start from.len some,
      counts_some test to.start to.len some',
    )

-- the free range around places that become free
module _ (row : List Bool) (begin start n end : ℕ) (some : 1 ≤ n) (used : n ≤ used_from row start) (first : IsEnd row start true begin) (last : IsNext row (start + n) true end) where
  fits : start + n ≤ length row
  fits = used_inside row start n some used

  pub room_freed : IsRange (with_places row start n false) (record { len = end - begin; start = begin })
  room_freed = grind (arith, nat_tests, place_behind, place_before, fits, place_in, length-with_places)

  -- places that come into use again
  pub freed_back : row ≡ with_places (with_places row start n false) start n true
  freed_back =
      sym (placed_again row start n start n false true (omega arith) (omega arith) fits
      ∙ placed_already row start n true fits (λ k low high.
      let at : start + (k - start) ≡ k = omega arith in
      sym (ap (λ (i : ℕ). get_or row i true) at) ∙ sym (get_or-drop start row (k - start) true) ∙ prefix_len_passes (λ u. u) (drop start row) (k - start) true (omega arith)))

  -- the ranges beside them, where they have places
  used_at : (k : ℕ) → k < n → get_or row (start + k) true ≡ true
  used_at k l = sym (get_or-drop start row k true) ∙ prefix_len_passes (λ u. u) (drop start row) k true (omega arith)

  pub left_range : 0 < start - begin → IsRange row (record { len = start - begin; start = begin })
  left_range pos =
      let at : begin + (start - begin) ≡ start + 0 = omega (arith, first.within) in
      grind (arith, nat_tests, fits, used_at)

  pub right_range : 0 < end - (start + n) → IsRange row (record { len = end - (start + n); start = start + n })
  right_range pos =
      let back : start + n - 1 ≡ start + (n - 1) = omega arith in
      grind (arith, nat_tests, used_at)

-- a maximal free range is listed
pub range_listed : (row : List Bool) (range : FreeRange) (l : Listing) → IsRange row range → IsListed row l → l.complete ≡ true → Contains l.ranges range
range_listed row range l is index all =
    grind (arith, free_run row range.len range.start is.within is.free is.end, listed row l.ranges (index all) range.start, index all, is.free range.start)

-- and it is listed still where another one went
pub still_listed : (l l1 : Listing) (gone left : FreeRange) → left.start < gone.start
    → ((test : FreeRange → Bool) → count_by test l1.ranges + counts test gone.start gone.len ≡ count_by test l.ranges) → Contains l.ranges left
    → Contains l1.ranges left
still_listed l l1 gone left order went held =
    let test : FreeRange → Bool = λ r. (r.start == left.start) && (r.len == left.len) in
    let some = count_held test l.ranges left held (and_from _ _ (eq-eqb left.start left.start refl) (eq-eqb left.len left.len refl)) in
    grind (arith, nat_tests, counts, found_some, and_parts, eqb-true)

-- places that are free are of the last range
pub free_within : (row : List Bool) (range : FreeRange) (start n : ℕ) → 1 ≤ n → n ≤ free_from row start → IsLastRange row start range → start + n ≤ range.start + range.len
free_within row range start n some free last =
    let e : ℕ = range.start + range.len in
    grind (arith, nat_tests, free_inside row start n some free, free_at row start n (e - start) true free)

-- a list that is complete with a range more was so before
pub was_complete : (old ok new : Bool) → new ≡ (old && ok) → new ≡ true → old ≡ true
was_complete old ok new e all = (and_parts old ok (sym e ∙ all)).0

-- the index of a row where a range went, and what is left of it came
pub marked_listed : (row row' : List Bool) (range : FreeRange) (start n : ℕ) → IsRange row range → range.start ≤ start → 1 ≤ n → start + n ≤ range.start + range.len
    → row' ≡ with_places row start n true → (l l' : Listing) → IsListed row l → (l'.complete ≡ true → l.complete ≡ true)
    → (l'.complete ≡ true → (test : FreeRange → Bool) → count_by test l'.ranges + counts test range.start range.len
    ≡ count_by test l.ranges + counts test range.start (start - range.start) + counts test (start + n) (range.start + range.len - (start + n)))
    → IsListed row' l'
marked_listed row row' range start n is order some within e l l' index was came all test =
    let size : length row' ≡ length row = ap length e ∙ length-with_places row start n true (omega (arith, within, is.within)) in
    let now : count_by (λ p. test (range_at row' p)) (starts row') ≡ count_in (with_places row start n true) test 0 (length row) =
    all_parts row' test ∙ ap (λ (m : ℕ). count_in row' test 0 m) size ∙ ap (λ (r : List Bool). count_in r test 0 (length row)) e in
    omega (arith, came all test, index (was all) test, all_parts row test, parted row range start n is order some within test)

-- and the other way: what was there on both sides went, and one came
pub freed_listed : (row row' : List Bool) (begin start n end : ℕ) → IsRange row' (record { len = end - begin; start = begin }) → begin ≤ start → 1 ≤ n
    → start + n ≤ end → row ≡ with_places row' start n true → (l l' : Listing) → IsListed row l → (l'.complete ≡ true → l.complete ≡ true)
    → (l'.complete ≡ true → (test : FreeRange → Bool) → count_by test l'.ranges + counts test begin (start - begin) + counts test (start + n) (end - (start + n))
    ≡ count_by test l.ranges + counts test begin (end - begin))
    → IsListed row' l'
freed_listed row row' begin start n end range order some within e l l' is was came all test =
    let at : begin + (end - begin) ≡ end = omega arith in
    let size : length row ≡ length row' = ap length e ∙ length-with_places row' start n true (omega (arith, range.within)) in
    let before : count_by (λ p. test (range_at row p)) (starts row) ≡ count_in (with_places row' start n true) test 0 (length row') =
    all_parts row test ∙ ap (λ (m : ℕ). count_in row test 0 m) size ∙ ap (λ (r : List Bool). count_in r test 0 (length row')) e in
    omega (
      arith,
      came all test,
      is (was all) test,
      all_parts row' test,
      parted row'
          (record { len = end - begin; start = begin }) start n range order some (omega arith) test,
      ap (λ (m : ℕ). counts test (start + n) (m - (start + n))) at,
    )

-- a row without used places has one range
pub open_listed : (places : ℕ) (l l1 : Listing) → l.ranges ≡ []
    → (l1.complete ≡ true → (test : FreeRange → Bool) → count_by test l1.ranges ≡ count_by test l.ranges + counts test 0 places) → IsListed (replicate places false) l1
open_listed places l l1 empty came all test =
    let row : List Bool = replicate places false in
    let size : length row ≡ places = length-replicate places false in
    let whole : count_in row test 0 (length row) ≡ counts test 0 (length row - 0) = grind (arith, nat_tests, free_part, get_or-replicate) in
    let same : counts test 0 (length row - 0) ≡ counts test 0 places = ap (counts test 0) (let e : length row - 0 ≡ places = omega arith in e) in
    omega (arith, came all test, ap (count_by test) empty, all_parts row test)

-- places that come into use, one free range after another
pub filled_down : (row : List Bool) (end start n low high : ℕ) (range : FreeRange) → start + n ≤ length row → end ≤ start + n → start < end
    → IsLastRange row (end - 1) range → low ≡ max start range.start → high ≡ min end (range.start + range.len)
    → ((k : ℕ) → end ≤ k → k < start + n → get_or row k true ≡ true) → (k : ℕ) → low ≤ k → k < start + n → get_or (with_places row low (high - low) true) k true ≡ true
filled_down row end start n low high range inside within some last low_is high_is used k from to = grind (arith, nat_tests, cases_lt, place_in, place_behind)

pub filled : (row old : List Bool) (start n : ℕ) → start + n ≤ length row → with_places row start n true ≡ with_places old start n true
    → ((k : ℕ) → start ≤ k → k < start + n → get_or row k true ≡ true) → row ≡ with_places old start n true
filled row old start n inside rest used = sym (placed_already row start n true inside used) ∙ rest
