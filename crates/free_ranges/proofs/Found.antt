-- The tightest, the longest and the last range of a row, found among its listed ranges.
use Rattle.std.proofs.Common.{◌≡◌, ℕ, zero, suc, ◌+◌, ◌-◌, ◌<◌, ◌≤◌, ◌==◌, ◌||◌, ◌⊎◌, Bool, true, false, not, nat_lt, List, [], length, get_or, drop, Option, Some, None, IfSome, All, Contains, sym, ap, ◌∙◌, inl, inr, arith, eqb-true}
use Rattle.free_ranges.proofs.Common.{cases_lt, and_parts, not-true, not-false, nat_tests, length-drop, get_or-drop, prefix_len_stops, All-filter}
use Rattle.free_ranges.proofs.Common.{All-contains, filter_passes, free_from, begins_range, places, best, longest, free_at, range-within, begins, best_is}
use Rattle.free_ranges.proofs.Common.{best_none, longest_is, first_by, IsFirstFrom, IsLast, IsIndexOf, key_held, row_held, FreeRange, comes_before, range_at}
use Rattle.free_ranges.proofs.Common.{starts, IsRange, IsLastRange, total}
use Rattle.std.proofs.lemmas.List.FromFn.{length-range_with_len, get_or-range_with_len}
use Rattle.range_bits.proofs.RangeFacts.{free_is_inside}
use Rattle.free_ranges.proofs.Lists.{kept_by}

-- a place that begins a range is a start
pub is_start : (row : List Bool) (p : ℕ) → p < length row → begins_range row p ≡ true → Contains (starts row) p
is_start row p inside begins =
    let at : get_or (places row) p p ≡ p = get_or-range_with_len 0 (length row) p p inside ∙ omega arith in
    kept_by (begins_range row) (places row) p (p, omega (arith, length-range_with_len 0 (length row)), at) begins

or_cases : (a b : Bool) → (a || b) ≡ true → (a ≡ true) ⊎ (b ≡ true)
or_cases a b e = grind (arith, nat_tests)

-- the maximal free range that begins at a place
pub range_of : (row : List Bool) (s : ℕ) → s < length row → begins_range row s ≡ true → IsRange row (range_at row s)
range_of row s inside starts =
    let parts = and_parts (not (get_or row s true)) (s == 0 || get_or row (s - 1) true) starts in
    let far : s + free_from row s ≤ length row = free_is_inside row s (omega arith) in
    let stop : s + free_from row s < length row → get_or row (s + free_from row s) true ≡ true =
    λ l. (let size = length-drop s row in sym (get_or-drop s row (free_from row s) true) ∙ not-false _ (prefix_len_stops not (drop s row) true (omega arith))) in
    record {
      some = grind (arith, nat_tests, cases_lt, free_from, not-true);
      within = far;
      free = λ p low high. (let e : s + (p - s) ≡ p =
          omega arith in ap (λ (k : ℕ). get_or row k true) (sym e) ∙ free_at row s (free_from row s) (p - s) true (omega arith) (omega arith));
      before = λ pos. elim (or_cases (s == 0) (get_or row (s - 1) true) parts.1) [ inl first ↦ absurd (omega (arith, eqb-true s 0 first)) | inr used ↦ used ];
      end = stop;
    }

-- no place is free where no range begins
pub used_here : (row : List Bool) (p : ℕ) → (0 < p → get_or row (p - 1) true ≡ true) → begins_range row p ≡ false → get_or row p true ≡ true
used_here row p before none = grind (arith, nat_tests, begins)

pub none_free : (row : List Bool) (a k p : ℕ) → p ≡ a + k → get_or row a true ≡ true → ((q : ℕ) → a < q → q ≤ p → begins_range row q ≡ false) → get_or row p true ≡ true
none_free row a zero p at base none = let e : p ≡ a = omega arith in ap (λ (i : ℕ). get_or row i true) e ∙ base
none_free row a (suc k) p at base none = grind (arith, nat_tests, used_here, none_free row a k (p - 1) (omega arith) base)

-- of two keys that are compared by a measure first
pub not_first : (x y : ℕ) (r : Bool) → first_by x y r ≡ false → y ≤ x
not_first x y r h = grind (arith, nat_tests)

pub not_below : (len n start : ℕ) → n ≤ len → first_by len n (nat_lt start 0) ≡ false
not_below len n start l = grind (arith, nat_tests)

pub below : (len n start : ℕ) → first_by len n (nat_lt start 0) ≡ true → len < n
below len n start h = grind (arith, nat_tests)

tighter : (x len y start free : ℕ) → first_by x len (nat_lt y start) ≡ false → free ≡ len → (free ≤ x) × (y < start → free < x)
tighter x len y start free h e = grind (arith, nat_tests)

module _ (row : List Bool) (keys : List FreeRange) (index : IsIndexOf (range_at row) (starts row) keys) where
  -- where the range of a held key begins, and how long it is
  pub ranged : (key : FreeRange) → Contains keys key → (key.start < length row) × (begins_range row key.start ≡ true) × (free_from row key.start ≡ key.len)
  ranged key held =
      let at = row_held comes_before total (range_at row) (starts row) keys key index held in
      let near = All-contains (λ y. (0 ≤ y) × (y < 0 + length row)) (starts row) at.0
      (All-filter (begins_range row) (λ y. (0 ≤ y) × (y < 0 + length row)) (places row) (range-within 0 (length row))) at.1 in
      grind (arith, nat_tests, begins_range, filter_passes, free_from)

  -- the range of a start is held, and what each key has
  pub listed : (s : ℕ) → s < length row → begins_range row s ≡ true → Contains keys (range_at row s)
  listed s inside begins = key_held comes_before total (range_at row) (starts row) keys s index (is_start row s inside begins)

  each : (P : FreeRange → Type 0) → All P keys → (s : ℕ) → s < length row → begins_range row s ≡ true → P (range_at row s)
  each P all s inside begins = All-contains P keys (range_at row s) all (listed s inside begins)

  pub best_found : (n : ℕ) (key : FreeRange) → IsFirstFrom comes_before keys (record { len = n; start = 0 }) key → best row n ≡ Some key.start
  best_found n key is =
      let at = ranged key is.held in
      let other : (y : ℕ) → y < length row → begins_range row y ≡ true → n ≤ free_from row y → comes_before (range_at row y) key ≡ false =
      λ y inside begins long. each (λ r. comes_before r (record { len = n; start = 0 }) ≡ false → comes_before r key ≡ false) is.first y inside begins (not_below (free_from row y) n y long) in
      best_is row n (length row) key.start (omega arith) (grind (arith, nat_tests, not_first, tighter, free_from))

  pub best_nowhere : (n : ℕ) → 0 < n → All (λ key. comes_before key (record { len = n; start = 0 }) ≡ true) keys → best row n ≡ None
  best_nowhere n some all = best_none row n some (λ y inside begins. below (free_from row y) n y (each (λ r. comes_before r (record { len = n; start = 0 }) ≡ true) all y inside begins))

  -- no range is longer than the last key's
  pub longest_found : (key : FreeRange) → IsLast comes_before keys key → longest row ≡ key.len
  longest_found key is =
      grind (arith, ranged key is.held, longest_is row (length row) key.len, not_first key.len, each (λ r. comes_before key r ≡ false) is.last)

  pub longest_nowhere : keys ≡ [] → longest row ≡ 0
  longest_nowhere none =
      longest_is row (length row) 0 (omega arith) (grind (arith, nat_tests, listed))

pub range_small : (row : List Bool) (place most : ℕ) (o : Option FreeRange) → length row < most → IfSome o (IsLastRange row place) → IfSome o (λ r. r.start + r.len < most)
range_small row place most o l h = grind (arith, nat_tests)
