-- What is written of a number is a field, and reading it gives the number back.
use Rattle.std.proofs.Common.{◌≡◌, ℕ, zero, suc, ◌+◌, ◌/◌, ◌^◌, ◌<◌, ◌≤◌, nat_lt, true, false, List, [], length, get_or, decimal, Some, arith, rules, mod-lt}
use Rattle.std.proofs.lemmas.Bool.{cond_both}
use Rattle.std.proofs.lemmas.List.Elements.{All-nil, All-cons}
use Rattle.std.proofs.lemmas.Fmt.{decimal_digit, decimal_nonempty, first_decimal, digits_decimal, digits_value-decimal}
use Rattle.std.proofs.lemmas.Str.Parse.{IsNumeralModel, numerals_by_fold}
use Rattle.std.specs.Fmt.{digits, digits_onto, digit_glyph}
use Rattle.std.specs.List.{list_all}
use Rattle.std.proofs.lemmas.Bool.Decides.{nat_tests}
use Rattle.tc_units.specs.Decimal.{is_digit, value_from, number_of}
use Rattle.trace_text.specs.Joined.{IsFieldByte, IsField, DecimalsAreRead}

-- our words for digits and for what they spell
own : IsNumeralModel (λ ds. list_all is_digit ds ≡ true) (value_from 0)
own = numerals_by_fold (λ ds. list_all is_digit ds ≡ true) (search rules) value_from (search rules)

-- digits without a zero in front are read as what they spell
number_of-digits : (most : ℕ) (ds : List ℕ) → list_all is_digit ds ≡ true → 0 < length ds → (get_or ds 0 0 ≡ 48 → length ds ≡ 1) → value_from 0 ds ≤ most → number_of most ds ≡ Some (value_from 0 ds)
number_of-digits most ds digits some canonical fits = grind (arith)

-- a number below 2 ^ 64 is read back; of one with more than 64 digits `decimal` writes only the last 64
pub number_of_decimal : (most n : ℕ) → n ≤ most → n < 2 ^ 64 → number_of most (decimal n) ≡ Some n
number_of_decimal most n fits small =
    grind (arith, nat_tests, digits_value-decimal, own, first_decimal, decimal_digit, number_of-digits, digits_decimal, decimal_nonempty)

-- a byte above a space may stand in a field
pub above_space : (b : ℕ) → 32 < b → IsFieldByte b
above_space b h = ((λ e. omega arith), (λ e. omega arith), (λ e. omega arith))

-- a decimal is a field, of any number
glyph_above_space : (d : ℕ) → d < 10 → 32 < digit_glyph false d
glyph_above_space d h = cond_both (nat_lt d 10) (48 + d) (87 + d) (λ b. 32 < b) (λ yes_. omega arith) (λ no_. omega arith)

digits_are_field : (k n : ℕ) (acc : List ℕ) → IsField acc → IsField (digits_onto k 10 false n acc)
digits_are_field zero n acc h = h
digits_are_field (suc k) n acc h = grind (arith, digits_are_field k (n / 10), All-cons, above_space, glyph_above_space, mod-lt, cond_both)

pub decimal_is_field : (n : ℕ) → IsField (decimal n)
unfolding digits
decimal_is_field n = digits_are_field 64 n [] (All-nil IsFieldByte)

pub decimals_are_read : DecimalsAreRead
decimals_are_read n = (decimal_is_field n, λ most fits small. number_of_decimal most n fits small)
