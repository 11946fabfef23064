-- Giving from the greatest number down, place by place, is a walk that adds up what was given.
use Rattle.std.proofs.Common.{◌≡◌, ℕ, zero, suc, ◌+◌, ◌*◌, ◌<◌, ◌≤◌, ◌⊎◌, Bool, false, cond, List, length, get_or, drop, count_by, sym}
use Rattle.std.proofs.Common.{ap, ◌∙◌, inl, arith}
use Rattle.std.specs.List.{range_with_len}
use Rattle.std.proofs.lemmas.Bool.{and_left}
use Rattle.std.proofs.lemmas.List.{drop_more, drop_all}
use Rattle.std.proofs.lemmas.Bool.Decides.{nat_tests}
use Rattle.heap_rules.specs.GiveUp.{gives_whole}
use Rattle.heap_rules.proofs.Numbered.{at_number-place}
use Rattle.tc_units.proofs.Counts.{count-cons, one-true, one-false}

-- what a walk has given when hugepages h + 1 to h + m are behind it
abbrev pub given_behind : List Bool → ℕ → ℕ → ℕ → ℕ
given_behind flags n h m = 256 * count_by (gives_whole flags n) (range_with_len (h + 1) m)

abbrev flagged_behind : List Bool → ℕ → ℕ
flagged_behind flags h = 256 * count_by (λ b. b) (drop h flags)

-- All that have the flag have given, or enough was given.
step_flag : (flags : List Bool) (h : ℕ) → h < length flags → count_by (λ b. b) (drop h flags) ≡ cond (get_or flags h false) 1 0 + count_by (λ b. b) (drop (h + 1) flags)
step_flag flags h l = ap (count_by (λ b. b)) (drop_more flags h false l) ∙ count-cons (λ b. b) (get_or flags h false) (drop (h + 1) flags)

pub all_or_enough : (flags : List Bool) (n h m : ℕ) → h + m ≡ length flags
    → (given_behind flags n h m ≡ flagged_behind flags h) ⊎ ((n ≤ given_behind flags n h m) × (n ≤ flagged_behind flags h))
all_or_enough flags n h zero e = inl (ap (λ xs. 256 * count_by (λ b. b) xs) (sym (drop_all h flags (omega arith))))
all_or_enough flags n h (suc m) e =
    let rest = all_or_enough flags n (h + 1) m (omega arith) in
    let flag = step_flag flags h (omega arith) in
    let one = count-cons (gives_whole flags n) (h + 1) (range_with_len (h + 1 + 1) m) in
    grind (
      arith,
      nat_tests,
      at_number-place false flags (h + 1),
      one-false (gives_whole flags n (h + 1)),
      and_left,
      one-false (get_or flags h false),
      one-true (get_or flags h false),
      one-true (gives_whole flags n (h + 1)),
    )
