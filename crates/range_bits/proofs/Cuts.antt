-- A part of a row that is cut down to another row's.
use Rattle.std.proofs.Common.{◌≡◌, ℕ, ◌*◌, ◌/◌, ◌<◌, ◌≤◌, Bool, true, false, ◌&&◌, cond, List, length, get_or, bit_and, arith}
use Rattle.range_bits.proofs.Common.{nat_tests, cases_Bool, cases_lt, get_or_past, bit_at_and, bit_at-lt, is_one, row_of, StaysUsed}
use Rattle.range_bits.proofs.BitFacts.{is_between}
use Rattle.range_bits.proofs.RowFacts.{length-row_of, get_or-row_of}

both_ones : (a b k : ℕ) → is_one (bit_and a b) k ≡ (is_one a k && is_one b k)
both_ones a b k = grind (arith, nat_tests, bit_at_and, bit_at-lt)

-- whether a place is in a part is whether its word is
by_word : (first to k : ℕ) → is_between first to (k / 64) ≡ is_between (64 * first) (64 * to) k
by_word first to k = grind (arith, nat_tests)

pub between_inside : (from to k : ℕ) → is_between from to k ≡ true → k < to
between_inside from to k e = grind (arith, nat_tests)

nothing : (b : Bool) → cond b false false ≡ false
nothing b = grind (arith, nat_tests)

pub cut_is : (old other new : List ℕ) (first at to : ℕ) → at ≡ to → to ≤ length old → length new ≡ length old → to ≤ length other → ((i : ℕ) → get_or new i 0 ≡ cond (is_between first at i) (bit_and (get_or old i 0) (get_or other i 0)) (get_or old i 0)) → StaysUsed (row_of old) (row_of other) (row_of new) (64 * first) (64 * to)
cut_is old other new first at to end inside size same words =
    grind (arith, nat_tests, length-row_of, cases_lt, get_or-row_of, is_between, bit_and, by_word, cases_Bool, between_inside, get_or_past, nothing, both_ones)
