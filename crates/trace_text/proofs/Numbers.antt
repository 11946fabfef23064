-- A field that is read as a number while it is cut.
use Rattle.std.proofs.Common.{◌≡◌, ℕ, ◌+◌, ◌-◌, ◌*◌, ◌<◌, ◌≤◌, ◌==◌, ◌&&◌, ◌||◌, true, false, nat_le, nat_lt, List, length, get_or, take, drop, None, Some, if◌then◌else◌, arith}
use Rattle.std.proofs.lemmas.List.{at_drop_more, drop_all, length-take-le, get_or-take}
use Rattle.std.proofs.lemmas.List.Sums.{fails_before_first, passes_at_first, prefix_len-le-length}
use Rattle.std.proofs.lemmas.Bool.Decides.{nat_tests}
use Rattle.std.specs.List.{list_all, position_or_len}
use Rattle.tc_units.specs.Decimal.{is_digit, value_from, number_of}
use Rattle.tc_units.proofs.DecimalFacts.{passed}
use Rattle.trace_text.specs.Lines.{is_space}

-- the first k bytes of a field are digits, and spell this value, which is no more than `most`
pub record AreRead (most value k : ℕ) (field : List ℕ) : Type 0 where
  pub digits : list_all is_digit (drop k field) ≡ list_all is_digit field
  pub spelt : value_from value (drop k field) ≡ value_from 0 field
  pub within : value ≤ most

-- one digit more
pub one_more : (most value k byte more : ℕ) (field : List ℕ) → AreRead most value k field → k < length field → byte ≡ get_or field k 0
    → is_digit byte ≡ true → more ≡ 10 * value + (byte - 48) → more ≤ most → AreRead most more (k + 1) field
one_more most value k byte more field read inside is digit sum fits =
    grind (arith, at_drop_more (value_from value) field k 0 inside, at_drop_more (list_all is_digit) field k 0 inside)

-- a byte that is no digit, or that makes the number too great
pub none_more : (most value k byte : ℕ) (field : List ℕ) → AreRead most value k field → k < length field → byte ≡ get_or field k 0
    → (is_digit byte && nat_le (10 * value + (byte - 48)) most) ≡ false → number_of most field ≡ None
none_more most value k byte field read inside is fails =
    grind (arith, nat_tests, at_drop_more (list_all is_digit) field k 0 inside, passed most value field k inside)

-- all bytes
pub all_read : (most value k : ℕ) (field : List ℕ) → AreRead most value k field → k ≡ length field
    → number_of most field ≡ (if k == 0 || (nat_lt 1 k && get_or field 0 0 == 48) then None else Some value)
all_read most value k field read all = grind (arith, nat_tests, drop_all k field)

-- what stands before the first space, or that space
pub in_field : (rest : List ℕ) (n k : ℕ) → n ≡ position_or_len is_space rest → k ≤ n → k < length rest → (get_or rest k 0 ≡ 32 → ⊥)
    → (k < length (take n rest)) × (get_or rest k 0 ≡ get_or (take n rest) k 0)
in_field rest n k is before inside other = grind (arith, nat_tests, passes_at_first is_space rest 0, length-take-le n rest, get_or-take n rest k 0, prefix_len-le-length)

pub at_space : (rest : List ℕ) (n k : ℕ) → n ≡ position_or_len is_space rest → k ≤ n → get_or rest k 0 ≡ 32 → k ≡ n
at_space rest n k is before space = grind (arith, nat_tests, fails_before_first is_space rest k 0)
