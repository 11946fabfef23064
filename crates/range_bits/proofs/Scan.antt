-- One free range more of a row: the longest and the best so far, and what the next range makes of them.
use Rattle.range_bits.proofs.Common.{lt-ltb, common_steps, range_with_len, All-filter, filter_passes, get_or-le-sum_by, prefix_len-drop_yes, prefix_len-drop_no}
use Rattle.range_bits.proofs.Common.{prefix_len-drop_all, cases_Bool, cases_lt, cond_both, and_from, and_parts, and_left, and_right, or_left, or_right, le-leb}
use Rattle.range_bits.proofs.Common.{leb-true, leb-false, le-ltb, ne_eqb, nat_tests, count_none, free_from, begins_range, first_least, longest}
use Rattle.range_bits.proofs.Common.{best, used_count, IsNextRange}
use Rattle.std.proofs.Common.{◌≡◌, ℕ, zero, suc, ◌+◌, ◌-◌, ◌<◌, ◌≤◌, ◌==◌, ◌⊎◌, Bool, true, false, not, nat_lt, nat_le, List, ◌∷◌, ◌++◌, length, get_or, map, filter, fold, max, Option, Some, None, IfSome, cond, refl, sym, ap, ◌∙◌, inl, inr, arith, option_map, eq-eqb, ◌↔◌}
use Rattle.std.specs.Option.{option_map_or}
use Rattle.range_bits.proofs.RangeFacts.{fold_max, best_is_fit, longest_is_short, some_or_none}
use Rattle.range_bits.proofs.RangeLemmas.{fits_at, longest-at, longest-le-length, free_fits, free_at, start_of, range-within, first_least-all}
use Rattle.range_bits.specs.FreeRanges.{shorter_of}
use Rattle.range_bits.specs.declared.ranges.FreeRange.{FreeRange}

-- numbers in a row, cut in two
pub range-append : (a m n : ℕ) → range_with_len a (m + n) ≡ range_with_len a m ++ range_with_len (a + m) n
range-append a zero n = let none : 0 + n ≡ n = omega arith in let same : a ≡ a + 0 = omega arith in ap (range_with_len a) none ∙ ap (λ (b : ℕ). range_with_len b n) same
range-append a (suc m) n =
    let more : suc m + n ≡ suc (m + n) = omega arith in
    let next : a + 1 + m ≡ a + suc m = omega arith in
    ap (range_with_len a) more
    ∙ ap (λ (rest : List ℕ). a ∷ rest) (range-append (a + 1) m n ∙ ap (λ (b : ℕ). range_with_len (a + 1) m ++ range_with_len b n) next)

-- how long a free stretch is from each of its places on
pub free_run : (row : List Bool) (m k : ℕ) → k + m ≤ length row → ((j : ℕ) → k ≤ j → j < k + m → get_or row j true ≡ false) → (k + m < length row → get_or row (k + m) true ≡ true) → free_from row k ≡ m
free_run row zero k inside free end = grind (arith, nat_tests, common_steps, cases_lt, prefix_len-drop_no, prefix_len-drop_all)
free_run row (suc m) k inside free end =
    let here : get_or row k true ≡ false = free k (omega arith) (omega arith) in
    let next : k + 1 + m ≡ k + suc m = omega arith in
    let more : free_from row (k + 1) ≡ m = free_run row m (k + 1) (omega arith) (λ j from to. free j (omega arith) (omega arith)) (λ before. ap (λ (p : ℕ). get_or row p true) next ∙ end (omega arith)) in
    grind (arith, nat_tests, prefix_len-drop_yes)

-- the greatest value of a function over numbers in a row
pub greatest-ge : (f : ℕ → ℕ) (a n k : ℕ) → a ≤ k → k < a + n → f k ≤ fold max 0 (map f (range_with_len a n))
greatest-ge f a zero k from to = absurd (omega arith)
greatest-ge f a (suc n) k from to =
    let step = fold_max (max 0 (f a)) (map f (range_with_len (a + 1) n)) in
    elim (cases_lt a k) [
      | inl later ↦ (let rest = greatest-ge f (a + 1) n k (omega arith) (omega arith) in omega arith)
      | inr here ↦ (let same : f k ≡ f a = ap f (omega arith) in omega arith)
    ]

-- no range begins at a used place, nor behind a free one; one begins at a free place with none before it
pub used_begins : (row : List Bool) (p : ℕ) → get_or row p true ≡ true → begins_range row p ≡ false
used_begins row p used = and_left _ _ (ap not used)

pub behind_free : (row : List Bool) (p : ℕ) → 0 < p → get_or row (p - 1) true ≡ false → begins_range row p ≡ false
behind_free row p pos free = grind (arith, nat_tests, ne_eqb, and_right)

pub begins : (row : List Bool) (p : ℕ) → get_or row p true ≡ false → (0 < p → get_or row (p - 1) true ≡ true) → begins_range row p ≡ true
begins row p free edge = grind (arith, nat_tests, or_left, and_from, or_right, eq-eqb)

-- the range that comes next begins at its start
starts : (row : List Bool) (from start len : ℕ) → IsNextRange row from start len → (0 < from → from < length row → get_or row from true ≡ true) → 0 < len → begins_range row start ≡ true
starts row from start len range edge some = grind (arith, nat_tests, begins)

-- up to its end nothing but its start begins a range, and there the range is as long
reach : (row : List Bool) (from start len y : ℕ) → IsNextRange row from start len → y < start + len → begins_range row y ≡ true → (y < from) ⊎ ((y ≡ start) × (free_from row y ≡ len))
reach row from start len y range to here =
    grind (arith, nat_tests, used_begins row y, range.used y, behind_free row y, range.free (y - 1), free_run row len start range.within range.free range.end)

-- a length that no range exceeds which begins before a place, and that one has
pub record IsLongest (row : List Bool) (to most : ℕ) : Type 0 where
  pub bound : (y : ℕ) → y < to → begins_range row y ≡ true → free_from row y ≤ most
  pub there : 0 < most → (y : ℕ) × (y < length row) × (most ≤ free_from row y)

pub longest_is : (row : List Bool) (to most : ℕ) → length row ≤ to → IsLongest row to most → longest row ≡ most
longest_is row to most all is = grind (arith, nat_tests, longest-at row (longest row), start_of, is.there, greatest-ge (free_from row) 0 (length row))

pub longest_more : (row : List Bool) (from start len most : ℕ) → IsNextRange row from start len → IsLongest row from most → IsLongest row (start + len) (max len most)
longest_more row from start len most range is =
    record {
      bound = λ y to here. elim (reach row from start len y range to here) [ inl early ↦ omega (arith, is.bound y early here) | inr at ↦ omega (arith, at.1) ];
      there = λ some.
          elim (cases_lt len most) [
            | inl less ↦ (let at = is.there (omega arith) in (at.0, at.1, omega (arith, at.2)))
            | inr more ↦ (start, omega (arith, range.within), omega (arith, free_run row len start range.within range.free range.end))
          ];
    }

-- of two places, where the other one's measure isn't less
stays : (f : ℕ → ℕ) (x : ℕ) (o : Option ℕ) → IfSome o (λ y. f x ≤ f y) → option_map_or (λ y. cond (nat_lt (f y) (f x)) y x) o x ≡ x
stays f x o h = grind (arith, nat_tests, le-ltb)

-- the first place of the least measure
least_place : (f : ℕ → ℕ) (p : ℕ → Bool) (a n s : ℕ) → a ≤ s → s < a + n → p s ≡ true → ((y : ℕ) → a ≤ y → y < a + n → p y ≡ true → (f s ≤ f y) × (y < s → f s < f y)) → first_least (λ x y. nat_lt (f x) (f y)) (filter p (range_with_len a n)) ≡ Some s
least_place f p a zero s low high pass least = absurd (omega arith)
least_place f p a (suc n) s low high pass least =
    let rest : List ℕ = filter p (range_with_len (a + 1) n) in
    let by : ℕ → ℕ → Bool = λ x y. nat_lt (f x) (f y) in
    elim (cases_lt a s) [
      | inl later ↦
          (let ih = least_place f p (a + 1) n s (omega arith) (omega arith) pass (λ y l h. least y (omega arith) (omega arith)) in
          grind (arith, nat_tests, cases_Bool, lt-ltb))
      | inr first ↦
          (let same : a ≡ s = omega arith in
          let t : p a ≡ true = ap p same ∙ pass in
          let here : filter p (range_with_len a (suc n)) ≡ a ∷ rest = ap (λ (b : Bool). cond b (a ∷ rest) rest) t in
          let others = first_least-all (λ y. f a ≤ f y) by rest (λ k d l.
          let passes = filter_passes p (range_with_len (a + 1) n) k d l in
          let near = All-filter p (λ y. (a + 1 ≤ y) × (y < a + 1 + n)) (range_with_len (a + 1) n) (range-within (a + 1) n) k d l in
          grind (arith, nat_tests)) in
          ap (first_least by) here ∙ ap Some (stays f a (first_least by rest) others ∙ same))
    ]

-- the shortest of the ranges that are long enough and begin before a place: of several as short the first
pub record IsShortest (row : List Bool) (n to s : ℕ) : Type 0 where
  pub before : s < to
  pub inside : s < length row
  pub starts : begins_range row s ≡ true
  pub long : n ≤ free_from row s
  pub least : (y : ℕ) → y < to → begins_range row y ≡ true → n ≤ free_from row y → (free_from row s ≤ free_from row y) × (y < s → free_from row s < free_from row y)

pub best_is : (row : List Bool) (n to s : ℕ) → length row ≤ to → IsShortest row n to s → best row n ≡ Some s
best_is row n to s all is =
    least_place (free_from row) (fits_at row n) 0 (length row) s (omega arith) (omega (arith, is.inside)) (and_from _ _ is.starts (le-leb n (free_from row s) is.long)) (λ y low high pass.
    grind (arith, nat_tests, and_parts, nat_le, leb-true))

pub best_none : (row : List Bool) (n : ℕ) → 0 < n → ((y : ℕ) → y < length row → begins_range row y ≡ true → free_from row y < n) → best row n ≡ None
best_none row n some short =
    elim (some_or_none (best row n)) [
      | inl none ↦ none
      | inr found ↦ grind (arith, best_is_fit row n found.0 found.1, start_of)
    ]

-- the best so far as a range
abbrev pub IsBest : List Bool → ℕ → ℕ → Option FreeRange → Type 0
IsBest row n to None = (y : ℕ) → y < to → begins_range row y ≡ true → free_from row y < n
IsBest row n to (Some range) = IsShortest row n to range.start × (free_from row range.start ≡ range.len)

pub best_found : (row : List Bool) (n to : ℕ) (found : Option FreeRange) → 0 < n → length row ≤ to → IsBest row n to found → option_map (λ (range : FreeRange). range.start) found ≡ best row n
best_found row n to found some all is = grind (arith, nat_tests, best_none, best_is)

-- a range more: the best so far stays, or it is the best
best_stays : (row : List Bool) (n from start len s : ℕ) → IsNextRange row from start len → (n ≤ len → free_from row s ≤ len) → IsShortest row n from s → IsShortest row n (start + len) s
best_stays row n from start len s range most is =
    record {
      before = omega (arith, is.before, range.rises);
      inside = is.inside;
      starts = is.starts;
      long = is.long;
      least = grind (arith, reach row from start len, is.least, most);
    }

best_new : (row : List Bool) (n from : ℕ) (range : FreeRange) → IsNextRange row from range.start range.len → (0 < from → from < length row → get_or row from true ≡ true) → 0 < n → n ≤ range.len → ((y : ℕ) → y < from → begins_range row y ≡ true → n ≤ free_from row y → range.len < free_from row y) → IsBest row n (range.start + range.len) (Some range)
best_new row n from range next edge some long others =
    grind (
      arith,
      free_run row range.len range.start next.within next.free next.end,
      starts row from range.start range.len next edge,
      reach row from range.start range.len,
      others,
    )

pub best_passed : (row : List Bool) (n from start len : ℕ) (found : Option FreeRange) → IsNextRange row from start len → len < n → IsBest row n from found → IsBest row n (start + len) found
best_passed row n from start len None range short is = λ y to here. elim (reach row from start len y range to here) [ inl early ↦ is y early here | inr at ↦ omega (arith, at.1) ]
best_passed row n from start len (Some old) range short is = (best_stays row n from start len old.start range (λ long. absurd (omega arith)) is.0, is.1)

pub best_taken : (row : List Bool) (n from : ℕ) (found : Option FreeRange) (range : FreeRange) → IsNextRange row from range.start range.len → (0 < from → from < length row → get_or row from true ≡ true) → 0 < n → n ≤ range.len → IsBest row n from found → IsBest row n (range.start + range.len) (Some (shorter_of found range))
best_taken row n from None range next edge some long is = best_new row n from range next edge some long (λ y early here far. absurd (omega (arith, is y early here)))
best_taken row n from (Some old) range next edge some long is =
    cond_both (nat_le old.len range.len) old range (λ r. IsBest row n (range.start + range.len) (Some r))
    (λ t. (best_stays row n from range.start range.len old.start next (λ l. omega (arith, is.1, leb-true old.len range.len t)) is.0, is.1))
    (λ f. best_new row n from range next edge some long (λ y early here far. omega (arith, is.1, leb-false old.len range.len f, (is.0.least y early here far).0)))

-- the first range that is just long enough is the best one
all_longer : (row : List Bool) (n from y : ℕ) (found : Option FreeRange) → IsBest row n from found → IfSome found (λ old. n < old.len) → y < from → begins_range row y ≡ true → n ≤ free_from row y → n < free_from row y
all_longer row n from y None is longer early here far = absurd (omega (arith, is y early here))
all_longer row n from y (Some old) is longer early here far = omega (arith, is.1, (is.0.least y early here far).0)

pub best_exact : (row : List Bool) (n from : ℕ) (found : Option FreeRange) (range : FreeRange) → IsNextRange row from range.start range.len → (0 < from → from < length row → get_or row from true ≡ true) → 0 < n → range.len ≡ n → IsBest row n from found → IfSome found (λ old. n < old.len) → best row n ≡ Some range.start
best_exact row n from found range next edge some exact is longer =
    let here : free_from row range.start ≡ range.len = free_run row range.len range.start next.within next.free next.end in
    best_is row n (length row) range.start (omega arith) (record {
      before = omega (arith, next.within);
      inside = omega (arith, next.within);
      starts = starts row from range.start range.len next edge (omega arith);
      long = omega arith;
      least = λ y to begins far. (
        omega arith,
        λ less.
            elim (reach row from range.start range.len y next (omega arith) begins) [
              | inl early ↦ (let more = all_longer row n from y found is longer early begins far in omega arith)
              | inr at ↦ absurd (omega (arith, at.0))
            ],
      );
    })

-- there is no best range exactly where the longest is too short
pub none_exactly : (row : List Bool) (n : ℕ) (r : Option ℕ) → 0 < n → r ≡ best row n → (r ≡ None) ↔ (longest row < n)
none_exactly row n None pos e = ((λ none. longest_is_short row n pos (sym e)), (λ short. refl))
none_exactly row n (Some s) pos e = grind (arith, best_is_fit row n s (sym e), greatest-ge (free_from row) 0 (length row) s)

-- the longest free range is the whole row exactly where no place is used
none_used : (row : List Bool) → longest row ≡ length row → used_count row ≡ 0
none_used row long = count_none (λ used. used) row (λ k d l.
    let far = longest-at row (length row) (omega arith) (omega arith) in
    ap (λ (i : ℕ). get_or row i d) (sym (omega (arith, free_fits row far.0 (length row) (omega arith) far.2))) ∙ free_at row far.0 (length row) k d far.2 l)

all_free : (row : List Bool) → used_count row ≡ 0 → longest row ≡ length row
all_free row none =
    let free : (k : ℕ) → k < length row → get_or row k true ≡ false = grind (arith, nat_tests, cases_Bool, get_or-le-sum_by) in
    let whole = free_run row (length row) 0 (omega arith) (λ j low high. free j (omega arith)) (λ l. absurd (omega arith)) in
    grind (arith, nat_tests, cases_lt, longest-le-length, greatest-ge, free_from)

pub whole_free : (row : List Bool) → (longest row == length row) ≡ (used_count row == 0)
whole_free row = grind (arith, nat_tests, cases_Bool, none_used, ne_eqb, all_free)
