-- The span that serves next: the choice by looking at every span, and the first of the greatest weights, are one.
use Rattle.std.proofs.Common.{◌≡◌, ℕ, zero, suc, ◌<◌, ◌≤◌, ◌⊎◌, true, false, ◌==◌, List, [], ◌∷◌}
use Rattle.std.proofs.Common.{length, get_or, set, map, MatchOption, Option, Some, None, refl, sym, ◌∙◌, ap, arith}
use Rattle.std.specs.Prelude.{AllPairs, All}
use Rattle.std.proofs.lemmas.List.{get_or-map}
use Rattle.std.proofs.lemmas.List.Sums.{position_or_len_is}
use Rattle.std.proofs.lemmas.Option.{none-some, same_Some}
use Rattle.std.proofs.lemmas.Bool.{cond-true, cond-false, eq-eqb, ne_eqb}
use Rattle.std.proofs.lemmas.Bool.Decides.{nat_tests}
use Rattle.tc_units.specs.declared.units.Addr.{Addr}
use Rattle.span_list.specs.Span.{SpanState, free_count, taken_count, least, taken_from, after_take}
use Rattle.span_list.proofs.SpanFacts.{count_none}
use Rattle.central_free.specs.Central.{has_free, goes_before, preferred, chosen, place_at, taken_one, IsBefore}
use Rattle.central_free.specs.Slots.{weight}

-- the preferred one is the span or the best of the others
preferred_cases : (s : SpanState) (o : Option SpanState) (c : SpanState) → preferred s o ≡ c → (s ≡ c) ⊎ (o ≡ Some c)
preferred_cases s o c e = grind (arith)

preferred_first : (s : SpanState) (o : Option SpanState) → ((c : SpanState) → o ≡ Some c → goes_before s c ≡ true) → preferred s o ≡ s
preferred_first s None all = refl
preferred_first s (Some t) all = cond-true (goes_before s t) s t (all t refl)

-- of a span and others: which is chosen
module _ (s : SpanState) (others : List SpanState) where
  chosen_free : has_free s ≡ true → chosen (s ∷ others) ≡ Some (preferred s (chosen others))
  chosen_free free = cond-true (has_free s) (Some (preferred s (chosen others))) (chosen others) free

  chosen_full : has_free s ≡ false → chosen (s ∷ others) ≡ chosen others
  chosen_full full = cond-false (has_free s) (Some (preferred s (chosen others))) (chosen others) full

-- the chosen span is one of them, with a free object
pub record IsAmong (spans : List SpanState) (c : SpanState) : Type 0 where
  pub place : ℕ
  pub within : place < length spans
  pub at : (d : SpanState) → get_or spans place d ≡ c
  pub free : has_free c ≡ true

later_among : (s : SpanState) (others : List SpanState) (c : SpanState) → IsAmong others c → IsAmong (s ∷ others) c
later_among s others c m = record { place = suc m.place; within = omega (arith, m.within); at = m.at; free = m.free }

pub chosen_among : (spans : List SpanState) (c : SpanState) → chosen spans ≡ Some c → IsAmong spans c
chosen_among [] c e = absurd (none-some c e)
chosen_among (s ∷ others) c e = grind (arith, nat_tests, chosen_among others c, preferred_cases, same_Some, chosen_free, later_among, chosen_full)

-- a place whose span has a free object and goes before every other such span
record GoesFirst (spans : List SpanState) (k : ℕ) : Type 0 where
  free : (d : SpanState) → has_free (get_or spans k d) ≡ true
  early : (j : ℕ) (d : SpanState) → j < k → has_free (get_or spans j d) ≡ true → goes_before (get_or spans j d) (get_or spans k d) ≡ false
  late : (j : ℕ) (d : SpanState) → k < j → j < length spans → has_free (get_or spans j d) ≡ true → goes_before (get_or spans k d) (get_or spans j d) ≡ true

chosen_is : (spans : List SpanState) (k : ℕ) (d : SpanState) → k < length spans → GoesFirst spans k → chosen spans ≡ Some (get_or spans k d)
chosen_is [] k d within first = absurd (omega arith)
chosen_is (s ∷ others) zero d within first =
    chosen_free s others (first.free d) ∙ ap (λ v. Some v) (preferred_first s (chosen others) (λ c e.
    let m = chosen_among others c e in
    ap (goes_before s) (sym (m.at s)) ∙ first.late (suc m.place) s (omega arith) (omega (arith, m.within)) (ap has_free (m.at s) ∙ m.free)))
chosen_is (s ∷ others) (suc k) d within first =
    let t = get_or others k d in
    let rest : chosen others ≡ Some t = chosen_is others k d (omega arith) (record {
      free = first.free;
      early = λ j e less. first.early (suc j) e (omega arith);
      late = λ j e less inside. first.late (suc j) e (omega arith) (omega arith);
    }) in
    grind (arith, nat_tests, chosen_free s others, first.early 0 d, chosen_full s others)

pub chosen_none : (spans : List SpanState) → ((j : ℕ) (d : SpanState) → j < length spans → has_free (get_or spans j d) ≡ false) → chosen spans ≡ None
chosen_none [] full = refl
chosen_none (s ∷ others) full = chosen_full s others (full 0 s (omega arith)) ∙ chosen_none others (λ j d less. full (suc j) d (omega arith))

pub chosen_some : (spans : List SpanState) (k : ℕ) (d : SpanState) → k < length spans → has_free (get_or spans k d) ≡ true → chosen spans ≡ None → ⊥
chosen_some [] k d within free none = omega arith
chosen_some (s ∷ others) zero d within free none = none-some (preferred s (chosen others)) (sym none ∙ chosen_free s others free)
chosen_some (s ∷ others) (suc k) d within free none = grind (arith, nat_tests, chosen_some others k d, none-some, chosen_free, chosen_full)

-- a place has the first of the greatest weights
abbrev pub IsBestPlace : List ℕ → ℕ → Type 0
IsBestPlace weights place =
    (0 < get_or weights place 0) × ((k : ℕ) → get_or weights k 0 ≤ get_or weights place 0) × ((k : ℕ) → k < place → get_or weights k 0 < get_or weights place 0)

-- what a weight says
pub weight-free : (s : SpanState) → 0 < free_count s → weight s ≡ taken_count s
weight-free s some = grind (arith, nat_tests)

has_free-weight : (s : SpanState) → 0 < weight s → has_free s ≡ true
has_free-weight s some = grind (arith, nat_tests)

pub no_free-weight : (s : SpanState) → 0 < taken_count s → weight s ≡ 0 → has_free s ≡ false
no_free-weight s some zero_weight = grind (arith, nat_tests)

-- which of two goes before
before_by_taken : (s t : SpanState) → taken_count t ≤ taken_count s → s.span.first.0 ≤ t.span.first.0 → goes_before s t ≡ true
before_by_taken s t more low = grind (arith, nat_tests)

behind_by_taken : (s t : SpanState) → taken_count s < taken_count t → goes_before s t ≡ false
behind_by_taken s t less = grind (arith, nat_tests)

-- spans in the order of first pages, and the place of the first of the greatest weights
module _ (spans : List SpanState) (k : ℕ) (within : k < length spans) (apart : AllPairs IsBefore spans) where
  -- it is the choice
  GoesFirst-from_best : IsBestPlace (map weight spans) k → GoesFirst spans k
  GoesFirst-from_best best =
      let read : (j : ℕ) (d : SpanState) → j < length spans → get_or (map weight spans) j 0 ≡ weight (get_or spans j d) = λ j d less. get_or-map weight spans j d 0 less in
      grind (arith, nat_tests, has_free-weight, read k, weight-free, behind_by_taken, best.2, before_by_taken, best.1)

  -- where a span stands, by its first page
  pub place_at-is : (d : SpanState) → All (λ s. 0 < s.span.pages) spans → place_at (get_or spans k d).span.first.0 spans ≡ k
  place_at-is d pages =
      let first = (get_or spans k d).span.first.0 in
      position_or_len_is (λ s. s.span.first.0 == first) spans k d (omega arith) (λ j less.
      let before : IsBefore (get_or spans j d) (get_or spans k d) = apart j k d less within in
      let some : 0 < (get_or spans j d).span.pages = pages j d (omega arith) in
      ne_eqb (get_or spans j d).span.first.0 first (λ same. omega arith)) (λ _. eq-eqb first first refl)

-- one object is taken: from the chosen span, which stands at its place
took_one : (A R : Type 0) → R → (spans : List SpanState) (k : ℕ) (s t : SpanState) (result : Option Addr) (at : Option ℕ)
    → least s ≡ at → 0 < free_count s → result ≡ taken_from s at → t ≡ after_take s at → chosen spans ≡ Some s → place_at s.span.first.0 spans ≡ k
    → MatchOption result A (λ a. (taken_one spans ≡ Some (a, set spans k t)) × R)
took_one A R also spans k s t result at is free gives after pick place = grind (arith, count_none)

pub taken_one-is : (A R : Type 0) → R → (spans : List SpanState) (k : ℕ) (s t : SpanState) (result : Option Addr) → AllPairs IsBefore spans → All (λ u. 0 < u.span.pages) spans
    → IsBestPlace (map weight spans) k → k < length spans → s ≡ get_or spans k s → result ≡ taken_from s (least s) → t ≡ after_take s (least s)
    → MatchOption result A (λ a. (taken_one spans ≡ Some (a, set spans k t)) × R)
taken_one-is A R also spans k s t result apart pages best within read gives after =
    grind (arith, nat_tests, GoesFirst-from_best, place_at-is, took_one, chosen_is)
