-- A free range of which some places come into use: its range goes, and what is left of it on both sides comes.
use Rattle.std.proofs.Common.{◌≡◌, ℕ, ◌+◌, ◌-◌, ◌<◌, ◌≤◌, Bool, true, List, length, get_or, sym, ap, ◌∙◌, inl, inr, arith}
use Rattle.free_ranges.proofs.Common.{nat_tests, cases_lt, false≢true, free_from, begins_range, with_places, length-with_places, place_before, place_in}
use Rattle.free_ranges.proofs.Common.{place_behind, free_run, used_begins, FreeRange, range_at, IsRange}
use Rattle.free_ranges.proofs.Found.{range_of}
use Rattle.free_ranges.proofs.Lists.{count_same, count_cut}
use Rattle.free_ranges.proofs.Pieces.{tested, count_in, counts, used_part, free_part}

-- Of a maximal free range n places from `start` on come into use.
module _ (row : List Bool) (range : FreeRange) (start n : ℕ) (is : IsRange row range) (order : range.start ≤ start) (some : 0 < n) (within : start + n ≤ range.start + range.len) where
  fits : start + n ≤ length row
  fits = omega (arith, is.within)

  size : length (with_places row start n true) ≡ length row
  size = length-with_places row start n true fits

  early : (p : ℕ) → p < start → get_or (with_places row start n true) p true ≡ get_or row p true
  early p l = place_before row start n true fits p true l

  late : (p : ℕ) → start + n ≤ p → get_or (with_places row start n true) p true ≡ get_or row p true
  late p l = place_behind row start n true fits p true l

  -- a range before it, and one behind it, keeps its length
  same_len : (p : ℕ) → p < range.start → begins_range row p ≡ true → free_from (with_places row start n true) p ≡ free_from row p
  same_len p l starts =
      let own = range_of row p (omega (arith, is.within)) starts in
      elim (cases_lt (p + free_from row p) range.start) [
        | inl s ↦
            free_run (with_places row start n true) (free_from row p) p (omega (arith, size, own.within)) (λ j low high. early j (omega arith) ∙ own.free j low high)
            (λ _. early (p + free_from row p) (omega arith) ∙ own.end (omega (arith, is.within)))
        | inr far ↦ absurd (false≢true (sym (own.free (range.start - 1) (omega arith) (omega arith)) ∙ is.before (omega arith)))
      ]

  same_rest : (p : ℕ) → start + n ≤ p → p < length row → begins_range row p ≡ true → free_from (with_places row start n true) p ≡ free_from row p
  same_rest p l inside starts =
      let own = range_of row p inside starts in
      free_run (with_places row start n true) (free_from row p) p (omega (arith, size, own.within)) (λ j low high. late j (omega arith) ∙ own.free j low high)
      (λ below. late (p + free_from row p) (omega arith) ∙ own.end (omega (arith, size)))

  alike : (test : FreeRange → Bool) (p : ℕ) → get_or (with_places row start n true) p true ≡ get_or row p true
      → get_or (with_places row start n true) (p - 1) true ≡ get_or row (p - 1) true
      → (begins_range row p ≡ true → free_from (with_places row start n true) p ≡ free_from row p) → tested (with_places row start n true) test p ≡ tested row test p
  alike test p here before len = grind (arith, nat_tests)

  front_same : (test : FreeRange → Bool) → count_in (with_places row start n true) test 0 range.start ≡ count_in row test 0 range.start
  front_same test = grind (arith, nat_tests, count_same, tested, with_places, alike, early, same_len)

  -- It goes, and what is left of it comes.
  pub parted : (test : FreeRange → Bool) → count_in (with_places row start n true) test 0 (length row) + counts test range.start range.len
      ≡ count_in row test 0 (length row) + counts test range.start (start - range.start) + counts test (start + n) (range.start + range.len - (start + n))
  parted test =
      let after : List Bool = with_places row start n true in
      let begin : ℕ = range.start in
      let end : ℕ = range.start + range.len in
      let inside = is.within in
      let back : count_in after test end (length row) ≡ count_in row test end (length row) =
      grind (arith, nat_tests, count_same, tested, cases_lt, alike, late, same_rest, range_at, used_begins) in
      let whole = count_cut (tested row test) 0 begin (length row) (omega arith) (omega arith) in
      let rest = count_cut (tested row test) begin end (length row) (omega arith) inside in
      let middle = free_part row test begin end (omega arith) inside is.free is.before is.end in
      let size_is : end - begin ≡ range.len = omega arith in
      let whole' = count_cut (tested after test) 0 begin (length row) (omega arith) (omega arith) in
      let rest' = count_cut (tested after test) begin end (length row) (omega arith) inside in
      let room' = count_cut (tested after test) begin start end order (omega arith) in
      let right' = count_cut (tested after test) start (start + n) end (omega arith) within in
      let left = free_part after test begin start order (omega (arith, size, fits)) (λ p low high. early p high ∙ is.free p low (omega arith))
      (λ pos. early (begin - 1) (omega arith) ∙ is.before pos) (λ _. place_in row start n true fits start true (omega arith) (omega arith)) in
      let none = used_part after test start (start + n) (λ p low high. place_in row start n true fits p true low high) in
      let right = free_part after test (start + n) end within (omega (arith, size)) (λ p low high. late p low ∙ is.free p (omega arith) high)
      (λ _. place_in row start n true fits (start + n - 1) true (omega arith) (omega arith)) (λ l. late end within ∙ is.end (omega (arith, size))) in
      omega (arith, front_same test, back, ap (counts test begin) size_is)
