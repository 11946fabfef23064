-- The victim has most unused bytes of all other classes, and is the least such class.
use Rattle.std.proofs.Common.{◌≡◌, ◌≢◌, ℕ, zero, suc, ◌+◌, ◌-◌, ◌<◌, ◌≤◌, eqb, List, [], ◌∷◌, length, get_or, Option, Some, None, refl, arith}
use Rattle.std.proofs.lemmas.Bool.{cond_both, eqb-true, eqb-false}
use Rattle.cpu_slab.specs.declared.marks.Unused.{Unused}
use Rattle.cpu_slab.specs.Growth.{preferred, victim, IsVictim, VictimsAreBest}

-- a victim among the classes from i on, with these bytes
record IsBest (k i : ℕ) (ns : List ℕ) (best : Unused) : Type 0 where
  pub low : i ≤ best.class
  pub there : best.class < i + length ns
  pub other : best.class ≢ k
  pub is : get_or ns (best.class - i) 0 ≡ best.bytes
  pub most : (j : ℕ) → j < length ns → i + j ≢ k → get_or ns j 0 ≤ best.bytes
  pub least : (j : ℕ) → j < length ns → i + j < best.class → i + j ≢ k → get_or ns j 0 < best.bytes

abbrev IsBestIf : ℕ → ℕ → List ℕ → Option Unused → Type 0
IsBestIf k i ns None = (j : ℕ) → j < length ns → i + j ≡ k
IsBestIf k i ns (Some best) = IsBest k i ns best

none_at : (k i n : ℕ) (ns : List ℕ) → i ≡ k → ((j : ℕ) → j < length ns → (i + 1) + j ≡ k) → (j : ℕ) → j < length (n ∷ ns) → i + j ≡ k
none_at k i n ns here later zero low = omega arith
none_at k i n ns here later (suc j) low = omega (arith, later j (omega arith))

most_at : (k i n m : ℕ) (ns : List ℕ) → (i ≢ k → n ≤ m) → ((j : ℕ) → j < length ns → (i + 1) + j ≢ k → get_or ns j 0 ≤ m)
    → (j : ℕ) → j < length (n ∷ ns) → i + j ≢ k → get_or (n ∷ ns) j 0 ≤ m
most_at k i n m ns here later zero low apart = here (λ e. apart (omega arith))
most_at k i n m ns here later (suc j) low apart = later j (omega arith) (λ e. apart (omega arith))

least_at : (k i n m c : ℕ) (ns : List ℕ) → (i ≢ k → n < m) → ((j : ℕ) → j < length ns → (i + 1) + j < c → (i + 1) + j ≢ k → get_or ns j 0 < m)
    → (j : ℕ) → j < length (n ∷ ns) → i + j < c → i + j ≢ k → get_or (n ∷ ns) j 0 < m
least_at k i n m c ns here later zero low before apart = here (λ e. apart (omega arith))
least_at k i n m c ns here later (suc j) low before apart = later j (omega arith) (omega arith) (λ e. apart (omega arith))

-- a later class, seen from one class more
get_later : (n i c : ℕ) (ns : List ℕ) → i + 1 ≤ c → get_or (n ∷ ns) (c - i) 0 ≡ get_or ns (c - (i + 1)) 0
get_later n i c ns low = let e : c - i ≡ suc (c - (i + 1)) = omega arith in rw e refl

later_best : (k i n : ℕ) (ns : List ℕ) (best : Unused) → (i ≢ k → n < best.bytes) → IsBest k (i + 1) ns best → IsBest k i (n ∷ ns) best
later_best k i n ns best here is = grind (arith, get_later, most_at, least_at)

skipped : (k i n : ℕ) (ns : List ℕ) (o : Option Unused) → i ≡ k → IsBestIf k (i + 1) ns o → IsBestIf k i (n ∷ ns) o
skipped k i n ns None here is = none_at k i n ns here is
skipped k i n ns (Some best) here is = later_best k i n ns best (λ e. absurd (e here)) is

chosen : (k i n : ℕ) (ns : List ℕ) (o : Option Unused) → i ≢ k → IsBestIf k (i + 1) ns o → IsBestIf k i (n ∷ ns) (preferred (Some (record { class = i; bytes = n })) o)
chosen k i n ns o apart is = grind (arith)

best_from : (k i : ℕ) (ns : List ℕ) → IsBestIf k i ns (victim k i ns)
best_from k i [] = λ j low. absurd (omega arith)
best_from k i (n ∷ ns) = grind (arith, chosen, cond_both, eqb, eqb-false, eqb-true, skipped, (best_from k (i + 1) ns))

best_of : (k : ℕ) (ns : List ℕ) (o : Option Unused) (best : Unused) → IsBestIf k 0 ns o → o ≡ Some best → IsVictim k ns best
best_of k ns o best is e = grind (arith)

none_of : (k : ℕ) (ns : List ℕ) (o : Option Unused) → IsBestIf k 0 ns o → o ≡ None → (j : ℕ) → j < length ns → j ≡ k
none_of k ns None is e j low = omega (arith, is j low)
none_of k ns (Some best) is e j low = absurd (cc)

pub victims_best : VictimsAreBest
victims_best k ns = (λ best e. best_of k ns (victim k 0 ns) best (best_from k 0 ns) e, λ e. none_of k ns (victim k 0 ns) (best_from k 0 ns) e)
