-- A key that was read at a place, and those before and behind it.
use Rattle.std.proofs.Common.{◌≡◌, ℕ, ◌+◌, ◌<◌, ◌≤◌, Bool, false, List, length, get_or, Some, Contains, sym, ap, ◌∙◌, inl, inr, arith}
use Rattle.sorted_list.proofs.Common.{nat_tests, slice_get, cases_lt, get_or_from_slice_get, slice_get_within, IsOrder, IsInOrder, IsFirstFrom, IsFirst, IsLast}
use Rattle.sorted_list.proofs.Common.{IsPlaceOf}
use Rattle.sorted_list.proofs.Changes.{not_itself}

module _ {K : Type 0} (before : K → K → Bool) (total : IsOrder K before) (keys : List K) (order : IsInOrder before keys) (place : ℕ) (key : K) (found : slice_get keys place ≡ Some key) where
  read : (d : K) → get_or keys place d ≡ key
  read d = get_or_from_slice_get keys place key d found

  held : Contains keys key
  held = (place, slice_get_within keys place key found, read key)

  at_place : (i : ℕ) (d : K) → place ≡ i → get_or keys i d ≡ key
  at_place i d e = ap (λ (j : ℕ). get_or keys j d) (sym e) ∙ read d

  -- those behind it don't come before it
  behind : (i : ℕ) (d : K) → place ≤ i → i < length keys → before (get_or keys i d) key ≡ false
  behind i d from inside = grind (arith, nat_tests, read d, at_place i d, not_itself before total key)

  pub first_is : place ≡ 0 → IsFirst before keys key
  first_is e = record { held = held; first = λ i d l. behind i d (omega arith) l }

  pub last_is : place + 1 ≡ length keys → IsLast before keys key
  last_is e =
      record {
        held = held;
        last = λ i d l.
            elim (cases_lt i place) [
              | inl early ↦ ap (λ (k : K). before k (get_or keys i d)) (sym (read d)) ∙ order i place d early (omega arith)
              | inr here ↦ ap (before key) (at_place i d (omega arith)) ∙ not_itself before total key
            ];
      }

  pub first_from_is : (from : K) → IsPlaceOf before keys from place → IsFirstFrom before keys from key
  first_from_is from at = grind (arith, nat_tests, read, behind, held, slice_get_within)
