-- The ranges that begin in a part of a row.
use Rattle.free_ranges.proofs.Common.{nat_tests, range_with_len, cases_lt, lt-ltb, le-ltb, sum_by-cons, free_from, begins_range, free_run, used_begins}
use Rattle.free_ranges.proofs.Common.{behind_free, FreeRange, range_at, starts}
use Rattle.std.proofs.Common.{◌≡◌, ℕ, suc, ◌+◌, ◌-◌, ◌<◌, ◌≤◌, ◌&&◌, Bool, true, false, cond, List, length, get_or, count_by, ap, ◌∙◌, inl, inr, arith}
use Rattle.free_ranges.specs.Ranges.{range_count}
use Rattle.free_ranges.proofs.Lists.{count_filter, count_no_one}

-- whether a range that passes a test begins at a place
abbrev pub tested : List Bool → (FreeRange → Bool) → ℕ → Bool
tested row test place = begins_range row place && test (range_at row place)

abbrev pub count_in : List Bool → (FreeRange → Bool) → ℕ → ℕ → ℕ
count_in row test from to = count_by (tested row test) (range_with_len from (to - from))

-- whether a range of a length counts, where it has places
abbrev pub counts : (FreeRange → Bool) → ℕ → ℕ → ℕ
counts test start len = range_count test (record { len = len; start = start })

pub counts_none : (test : FreeRange → Bool) (start len : ℕ) → len ≡ 0 → counts test start len ≡ 0
counts_none test start len e = ap (λ (b : Bool). cond (b && test (record { len = len; start = start })) 1 0) (le-ltb 0 len (omega arith))

pub counts_some : (test : FreeRange → Bool) (start len : ℕ) → 0 < len → counts test start len ≡ cond (test (record { len = len; start = start })) 1 0
counts_some test start len some = ap (λ (b : Bool). cond (b && test (record { len = len; start = start })) 1 0) (lt-ltb 0 len some)

not_tested : (row : List Bool) (test : FreeRange → Bool) (p : ℕ) → begins_range row p ≡ false → tested row test p ≡ false
not_tested row test p none = ap (λ (b : Bool). b && test (range_at row p)) none

-- none begins in a used part
pub used_part : (row : List Bool) (test : FreeRange → Bool) (from to : ℕ) → ((p : ℕ) → from ≤ p → p < to → get_or row p true ≡ true) → count_in row test from to ≡ 0
used_part row test from to used = count_no_one (tested row test) from (to - from) (λ p low high. not_tested row test p (used_begins row p (used p low (omega arith))))

-- one begins in a free part between used places, where it has places
pub free_part : (row : List Bool) (test : FreeRange → Bool) (from to : ℕ) → from ≤ to → to ≤ length row → ((p : ℕ) → from ≤ p → p < to → get_or row p true ≡ false)
    → (0 < from → get_or row (from - 1) true ≡ true) → (to < length row → get_or row to true ≡ true) → count_in row test from to ≡ counts test from (to - from)
free_part row test from to order inside free before behind =
    elim (cases_lt from to) [
      | inr none ↦ grind (arith, counts_none test from (to - from))
      | inl some ↦
          (let rest : ℕ = to - from - 1 in
          let whole : to - from ≡ suc rest = omega arith in
          let next : from + (to - from) ≡ to = omega arith in
          let len : free_from row from ≡ to - from = free_run row (to - from) from (omega arith) (λ j low high. free j low (omega arith))
          (λ l. ap (λ (k : ℕ). get_or row k true) next ∙ behind (omega arith)) in
          let none : count_by (tested row test) (range_with_len (from + 1) rest) ≡ 0 =
          count_no_one (tested row test) (from + 1) rest (λ p low high. not_tested row test p (behind_free row p (omega arith) (free (p - 1) (omega arith) (omega arith)))) in
          let step = sum_by-cons (λ (p : ℕ). cond (tested row test p) 1 0) from (range_with_len (from + 1) rest) in
          grind (arith, nat_tests, count_by, range_with_len, counts_some))
    ]

-- the ranges of a whole row
pub all_parts : (row : List Bool) (test : FreeRange → Bool) → count_by (λ p. test (range_at row p)) (starts row) ≡ count_in row test 0 (length row)
all_parts row test = grind (arith, nat_tests, count_filter, tested)
