-- Free ranges of a row in which each has lost its last place: the longest, and the best.
use Rattle.range_bits.proofs.Common.{cases_Bool, cases_lt, nat_tests, common_steps, free_from, best, longest, places, range_with_len}
use Rattle.range_bits.proofs.Common.{first_least, filter_passes, and_parts, leb-true, get_or_past, leb-false, not_from_false, not-true, or_left, or_right, prefix_len_stops, get_or-drop, length-drop, prefix_len-le-length}
use Rattle.std.proofs.Common.{◌≡◌, ℕ, ◌+◌, ◌-◌, ◌<◌, Bool, true, not, nat_lt, List, length, get_or, filter, drop, All, ap, ◌∙◌, inl, inr, arith}
use Rattle.range_bits.specs.Words.{IsNarrowed}
use Rattle.range_bits.proofs.RangeLemmas.{fits_at, free_at, longest-at, filter-agree, first_least-agree, range-within}
use Rattle.range_bits.proofs.Scan.{free_run, greatest-ge, longest_is}

-- behind a free range a place is used, or none is there
stop : (row : List Bool) (k : ℕ) → get_or row (k + free_from row k) true ≡ true
stop row k = grind (arith, nat_tests, cases_lt, prefix_len_stops not (drop k row) true, get_or-drop, length-drop, get_or_past, not_from_false, not-true)

-- none is free exactly where the longest range is empty
pub none_free : (row : List Bool) → ((k : ℕ) → k < length row → get_or row k true ≡ true) → longest row ≡ 0
none_free row used =
    elim (cases_lt 0 (longest row)) [
      | inl some ↦ (let at = longest-at row 1 (omega arith) (omega arith) in grind (arith, nat_tests, free_at row at.0 1 0 true, used at.0))
      | inr none ↦ omega arith
    ]

pub all_used : (row : List Bool) (k : ℕ) → longest row ≡ 0 → k < length row → get_or row k true ≡ true
all_used row k none inside = grind (arith, nat_tests, greatest-ge (free_from row) 0 (length row) k, stop row k)

module _ (old new : List Bool) (narrowed : IsNarrowed old new) where
  pub narrowed_free : (k : ℕ) → k < length old → free_from new k ≡ free_from old k - 1
  narrowed_free k inside = free_run new (free_from old k - 1) k (omega (arith, narrowed.len, prefix_len-le-length not (drop k old), length-drop k old)) (λ j low high. grind (arith, nat_tests, narrowed.each j, free_at old k (free_from old k) (j - k) true, free_at old k (free_from old k) (j - k + 1) true)) (λ h. grind (arith, nat_tests, cases_lt, narrowed.each (k + (free_from old k - 1)), stop old k, or_left, or_right))

  pub narrowed_longest : longest new ≡ longest old - 1
  narrowed_longest =
      longest_is new (length new) (longest old - 1) (omega arith)
      (record {
        bound = λ y to here. omega (arith, narrowed.len, narrowed_free y, greatest-ge (free_from old) 0 (length old) y);
        there = λ some. let at = longest-at old (longest old) (omega arith) (omega arith) in (at.0, omega (arith, at.1, narrowed.len), omega (arith, narrowed_free at.0 at.1, at.2));
      })

  narrowed_fits : (n k : ℕ) → 0 < n → k < length old → fits_at new n k ≡ fits_at old (n + 1) k
  narrowed_fits n k some inside = grind (arith, nat_tests, cases_Bool, cases_lt, narrowed_free k inside, narrowed.each k, narrowed.each (k - 1), free_at old k (n + 1), leb-true, leb-false)

  pub narrowed_best : (n : ℕ) → 0 < n → best new n ≡ best old (n + 1)
  narrowed_best n some =
      let few : filter (fits_at new n) (places new) ≡ filter (fits_at old (n + 1)) (places old) = ap (λ (m : ℕ). filter (fits_at new n) (range_with_len 0 m)) narrowed.len ∙ filter-agree (fits_at new n) (fits_at old (n + 1)) (places old) (grind (arith, nat_tests, common_steps, range-within, narrowed_fits n)) in
      let P : ℕ → Type 0 = λ k. (k < length old) × (n < free_from old k) in
      let fits : All P (filter (fits_at old (n + 1)) (places old)) = grind (arith, nat_tests, common_steps, filter_passes, range-within, leb-true, and_parts) in
      ap (first_least (λ a b. nat_lt (free_from new a) (free_from new b))) few
      ∙ first_least-agree P (λ a b. nat_lt (free_from new a) (free_from new b)) (λ a b. nat_lt (free_from old a) (free_from old b)) (filter (fits_at old (n + 1)) (places old)) (λ a b p q. grind (arith, nat_tests, narrowed_free a p.0, narrowed_free b q.0)) fits
