-- The first key of those that give is that of the candidate.
use Rattle.std.proofs.lemmas.Bool.Decides.{nat_tests}
use Rattle.std.proofs.Common.{◌≡◌, ℕ, ◌+◌, ◌<◌, Bool, true, false, not, nat_lt, List, [], length, get_or, Option, Some, None, sym, ap, ◌∙◌, arith, eq-eqb}
use Rattle.huge_filler.proofs.Common.{cases_Bool, cases_lt, ne_eqb, All-contains, at_number-next, by_first, last_is, IsFirst, Giver, Measures}
use Rattle.huge_filler.proofs.Common.{measures_at, spare_row, IsCandidate, comes_before, giver_of, Lists, total}
use Rattle.heap_rules.specs.GiveUp.{gives_before}
use Rattle.huge_filler.proofs.Listed.{key_of_it, place_of}

-- a key that has pages to give is that of a hugepage of the filler with spare pages
giving : (h : ℕ) (o : Option Measures) (giver : Giver) → giver_of h o ≡ giver → giver.spent ≡ false → (its : Measures) × (o ≡ Some its) × (0 < its.spare)
giving h o giver e some = grind (arith, nat_tests, cases_lt, eq-eqb)

-- of two that give, the order of giving decides
gives_is : (g : ℕ) (a : Measures) (h : ℕ) (b : Measures) → 0 < a.spare → 0 < b.spare → gives_before (spare_row h b) (spare_row g a) ≡ comes_before (giver_of g (Some a)) (giver_of h (Some b))
gives_is g a h b some also = grind (arith, nat_tests, ne_eqb, by_first, last_is, nat_lt)

module _ (rows : List (Option Measures)) (keys : List Giver) (lists : Lists giver_of rows keys) where
  pub candidate_is : (giver : Giver) → IsFirst comes_before keys giver → giver.spent ≡ false → IsCandidate rows giver.huge
  candidate_is giver is some =
      let at = place_of giver_of comes_before total rows keys lists giver is.held in
      let its = giving (1 + at.0) (get_or rows at.0 None) giver at.2 some in
      let same : giver_of (1 + at.0) (Some its.0) ≡ giver = ap (giver_of (1 + at.0)) (sym its.1) ∙ at.2 in
      let h : 1 + at.0 ≡ giver.huge.0 = ap (λ (k : Giver). k.huge.0) same in
      record {
        measures = its.0;
        from = omega (arith, h);
        to = omega (arith, h, at.1);
        row = ap (measures_at rows) (sym h) ∙ at_number-next None rows at.0 ∙ its.1;
        some = its.2;
        first = λ g b e also other.
            let k : Giver = giver_of g (Some b) in
            let late : comes_before k giver ≡ false = All-contains (λ x. comes_before x giver ≡ false) keys k is.first (key_of_it giver_of comes_before total rows keys lists g b e) in
            grind (arith, nat_tests, cases_Bool, comes_before, gives_is);
      }

  -- where the first has none to give, none has, nor where there is no key
  pub none_spare : (giver : Giver) → IsFirst comes_before keys giver → giver.spent ≡ true → (h : ℕ) (its : Measures) → measures_at rows h ≡ Some its → its.spare ≡ 0
  none_spare giver is spent h its e = grind (arith, nat_tests, key_of_it giver_of comes_before total rows keys lists h its e)

  pub no_givers : keys ≡ [] → (h : ℕ) (its : Measures) → measures_at rows h ≡ Some its → its.spare ≡ 0
  no_givers none h its e =
      absurd (omega (arith, (key_of_it giver_of comes_before total rows keys lists h its e).1, ap (λ (ks : List Giver). length ks) none))

pub turned : (b : Bool) → not b ≡ false → b ≡ true
turned b e = grind (arith, nat_tests)
