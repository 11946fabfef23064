-- The lists and the count follow what a hugepage measures.
use Rattle.std.proofs.lemmas.Bool.Decides.{nat_tests}
use Rattle.std.proofs.Common.{◌≡◌, ℕ, ◌+◌, ◌-◌, ◌<◌, ◌≤◌, Bool, List, [], ◌∷◌, ◌++◌, length, get_or, set, replicate, Option, Some, None, IfSome, Contains}
use Rattle.std.proofs.Common.{IsPermutation, sym, ap, subst, ◌∙◌, inl, inr, arith}
use Rattle.huge_filler.proofs.Common.{cases_eq, length-set, get_or-set_same, get_or-set_other, get_or-replicate, length-replicate, sum_by-set}
use Rattle.huge_filler.proofs.Common.{sum_by-le, get_or-le-sum_by, at_number-place, IsOrder, Key, Measures, measures_at, free_of_donated, donated_free, key_of}
use Rattle.huge_filler.proofs.Common.{Lists, IsKept}
use Rattle.std.proofs.lemmas.List.Folds.{sum_by-replicate}
use Rattle.huge_filler.proofs.Listed.{stands, listed_more, listed_set, key_at}

free_le : (o : Option Measures) → free_of_donated o ≤ 256
free_le o = grind (arith, nat_tests)

pub free_bound : (rows : List (Option Measures)) (o : Option Measures) → length rows ≤ 4096 → donated_free rows + free_of_donated o ≤ 1048832
free_bound rows o few = omega (arith, free_le o, sum_by-le free_of_donated 256 rows (λ k d l. free_le (get_or rows k d)))

-- hugepage h with what it measured
module _ (rows : List (Option Measures)) (h : ℕ) (o : Option Measures) (some : 0 < h) (within : h ≤ length rows) (is : o ≡ measures_at rows h) where
  inside : h - 1 < length rows
  inside = omega arith

  number : 1 + (h - 1) ≡ h
  number = omega arith

  here : get_or rows (h - 1) None ≡ o
  here = sym (at_number-place None rows h some) ∙ sym is

  pub is_held : {K : Type 0} (key : ℕ → Option Measures → K) (before : K → K → Bool) (total : IsOrder K before) (keys : List K) (k : K) → Lists key rows keys → k ≡ key h o → Contains keys k
  is_held {K} key before total keys k lists e =
      subst (λ (x : K). Contains keys x) (ap (key (1 + (h - 1))) here ∙ ap (λ (n : ℕ). key n o) number ∙ sym e) (key_at key before total rows keys lists (h - 1) inside)

  pub moved : {K : Type 0} (key : ℕ → Option Measures → K) (after : Option Measures) (keys keys' : List K) (k k' : K) → Lists key rows keys → k ≡ key h o → k' ≡ key h after → IsPermutation (k' ∷ keys) (k ∷ keys') → Lists key (set rows (h - 1) after) keys'
  moved {K} key after keys keys' k k' lists e e' turn =
      listed_set key rows (h - 1) after keys keys' inside lists
      (grind (arith, nat_tests, number, here))

  pub kept_set : (index index' : List Key) (donated m n : ℕ) (after : Option Measures) (k k' : Key) → IsKept rows index donated → IfSome after (λ its. its.tier ≤ 2) → k ≡ key_of h o → k' ≡ key_of h after → IsPermutation (k' ∷ index) (k ∷ index') → m ≡ free_of_donated o → n ≡ free_of_donated after → IsKept (set rows (h - 1) after) index' (donated - m + n)
  kept_set index index' donated m n after k k' kept tier e e' turn less more =
      record {
        arena = omega (arith, length-set rows (h - 1) after, kept.arena);
        tiers = λ x its there.
            let now = stands (set rows (h - 1) after) x its there in
            elim (cases_eq (x - 1) (h - 1)) [
              | inl same ↦
                  (let got : after ≡ Some its = sym (get_or-set_same rows (h - 1) after None inside) ∙ ap (λ (j : ℕ). get_or (set rows (h - 1) after) j None) (sym same) ∙ now.2 in
                  subst (λ (x : Option Measures). IfSome x (λ y. y.tier ≤ 2)) got tier)
              | inr other ↦ kept.tiers x its (at_number-place None rows x now.0 ∙ sym (get_or-set_other rows (h - 1) (x - 1) after None other) ∙ now.2)
            ];
        keys = moved key_of after index index' k k' kept.keys e e' turn;
        counted = omega (arith, kept.counted, ap free_of_donated here, get_or-le-sum_by free_of_donated rows (h - 1) None inside, sum_by-set free_of_donated rows (h - 1) after None inside);
      }

-- a hugepage more at the opening
pub listed_next : {K : Type 0} (key : ℕ → Option Measures → K) (rows rows' : List (Option Measures)) (place : ℕ) (keys keys' : List K) (k : K) → rows ≡ replicate place None → rows' ≡ rows ++ None ∷ [] → Lists key rows keys → k ≡ key (place + 1) None → IsPermutation (k ∷ keys) keys' → Lists key rows' keys'
listed_next {K} key rows rows' place keys keys' k is more lists e turn =
    let size : place + 1 ≡ 1 + length rows = omega (arith, ap length is, length-replicate {A = Option Measures} place None) in
    subst (λ (r : List (Option Measures)). Lists key r keys') (sym more)
    (listed_more key rows None keys keys' lists (subst (λ (x : K). IsPermutation (x ∷ keys) keys') (e ∙ ap (λ (n : ℕ). key n None) size) turn))

pub kept_none : (rows : List (Option Measures)) (huge : ℕ) (index : List Key) → huge ≤ 4096 → rows ≡ replicate huge None → Lists key_of rows index → IsKept rows index 0
kept_none rows huge index most is keys =
    grind (arith, nat_tests, length-replicate, stands, get_or-replicate, donated_free, sum_by-replicate, free_of_donated)
