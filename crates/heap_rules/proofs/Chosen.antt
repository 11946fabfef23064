-- What the choices of free hugepages give, and where there is none.
use Rattle.std.proofs.Common.{◌≡◌, ℕ, ◌+◌, ◌-◌, ◌<◌, ◌≤◌, ◌⊎◌, Bool, true, not, List, length, get_or, map, Option, Some, None, option_map, refl, sym, ap}
use Rattle.std.proofs.Common.{subst, ◌∙◌, inl, inr, arith}
use Rattle.std.specs.Option.{option_or}
use Rattle.std.proofs.lemmas.Bool.{and_parts, not-false}
use Rattle.std.proofs.lemmas.List.{length-map, get_or-map}
use Rattle.std.proofs.lemmas.Option.{none-some, same_Some}
use Rattle.range_bits.specs.Ranges.{best, longest}
use Rattle.heap_rules.specs.Heap.{Heap, Hugepage, hugepage, untouched, is_free, is_free_backed}
use Rattle.heap_rules.specs.Choice.{taken_row, unready_row, run_choice}
use Rattle.heap_rules.proofs.Places.{at-place}
use Rattle.range_bits.proofs.RangeLemmas.{best-at, free_fits, free_at}
use Rattle.range_bits.proofs.RangeFacts.{longest_is_short}

-- from the value of a mapped option, the value
pub mapped : {X Y : Type 0} (f : X → Y) (o : Option X) (y : Y) → option_map f o ≡ Some y → (x : X) × (o ≡ Some x) × (f x ≡ y)
mapped f None y e = absurd (none-some y e)
mapped f (Some x) y e = (x, refl, same_Some _ _ e)

pub or_cases : (a b : Option ℕ) (s : ℕ) → option_or a b ≡ Some s → (a ≡ Some s) ⊎ (b ≡ Some s)
or_cases None b s e = inr e
or_cases (Some x) b s e = inl e

-- adjacent places of a list that pass a test
pub record ArePassing (p : Hugepage → Bool) (xs : List Hugepage) (s m : ℕ) : Type 0 where
  pub to : s + m ≤ length xs
  pub pass : (k : ℕ) → k < m → p (get_or xs (s + k) untouched) ≡ true

pub passing : (p : Hugepage → Bool) (xs : List Hugepage) (m s : ℕ) → 0 < m → best (map (λ x. not (p x)) xs) m ≡ Some s → ArePassing p xs s m
passing p xs m s some e =
    let row = map (λ x. not (p x)) xs in
    let is = best-at row m s e in
    let len = length-map xs (λ x. not (p x)) in
    let fits : s + m ≤ length row = free_fits row s m some is.1 in
    record {
      to = omega arith;
      pass = λ k l. not-false (p (get_or xs (s + k) untouched)) (sym (get_or-map (λ x. not (p x)) xs (s + k) untouched true (omega arith)) ∙ free_at row s m k true is.1 l);
    }

-- the run choice: so many adjacent free hugepages of the arena
pub record AreFree (heap : Heap) (h m : ℕ) : Type 0 where
  pub from : 0 < h
  pub to : h + m ≤ length heap.hugepages + 1
  pub free : (k : ℕ) → h ≤ k → k < h + m → is_free (hugepage heap k) ≡ true

free_run : (heap : Heap) (m s : ℕ) → ArePassing is_free heap.hugepages s m → AreFree heap (s + 1) m
free_run heap m s are = record {
  from = omega arith;
  to = omega (arith, are.to);
  free = λ k a b.
      (let e : s + (k - 1 - s) ≡ k - 1 = omega arith in
      ap is_free (at-place heap.hugepages k (omega arith)) ∙ subst (λ j. is_free (get_or heap.hugepages j untouched) ≡ true) e (are.pass (k - 1 - s) (omega arith)));
}

pub run_choice_free : (heap : Heap) (m h : ℕ) → 0 < m → run_choice heap m ≡ Some h → AreFree heap h m
run_choice_free heap m h some e =
    let of = mapped (λ place. place + 1) (option_or (best (unready_row heap) m) (best (taken_row heap) m)) h e in
    let s = of.0 in
    let are : ArePassing is_free heap.hugepages s m = elim (or_cases (best (unready_row heap) m) (best (taken_row heap) m) s of.1) [
      | inl ready ↦ (let are = passing is_free_backed heap.hugepages m s some ready in record { to = are.to; pass = λ k l. (and_parts _ _ (are.pass k l)).0 })
      | inr free ↦ passing is_free heap.hugepages m s some free
    ] in
    subst (λ k. AreFree heap k m) of.2 (free_run heap m s are)

-- there is none exactly where too few adjacent hugepages are free
or_none : (a b : Option ℕ) → option_or a b ≡ None → b ≡ None
or_none None b e = e
or_none (Some x) b e = absurd (none-some x (sym e))

mapped_none : {X Y : Type 0} (f : X → Y) (o : Option X) → option_map f o ≡ None → o ≡ None
mapped_none f None e = refl
mapped_none f (Some x) e = absurd (none-some (f x) (sym e))

pub run_choice_none : (heap : Heap) (m : ℕ) → 0 < m → run_choice heap m ≡ None → longest (taken_row heap) < m
run_choice_none heap m some e = longest_is_short (taken_row heap) m some (or_none (best (unready_row heap) m) _ (mapped_none (λ place. place + 1) _ e))
