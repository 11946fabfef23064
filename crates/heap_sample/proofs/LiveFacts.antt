-- Live samples with one more and one fewer: their rows, and what they stand for.
use Rattle.std.proofs.Common.{refl, ◌≡◌, ℕ, ◌+◌, ◌≤◌, ◌==◌, Bool, true, false, not, List, [], ◌∷◌, cond, sym, ap, ◌∙◌, inl, inr, subst, arith, Option, Some}
use Rattle.std.proofs.Common.{None, nat_eq, Result, Ok, Err, is_err, IfOk}
use Rattle.std.specs.List.{sum_by, filter, IsDistinct, AllByRecursion}
use Rattle.std.specs.Map.{keys_of, lookup, remove_entry}
use Rattle.std.proofs.lemmas.Bool.{cases_Bool, true≢false, eqb-true}
use Rattle.std.proofs.lemmas.Option.{none-some}
use Rattle.std.proofs.lemmas.List.Sums.{sum_by-cons, sum_by-le-sum_by}
use Rattle.std.proofs.lemmas.List.Sorted.{sum_by-IsPermutation}
use Rattle.std.proofs.lemmas.Map.Views.{Contains-from_lookup, exact_unsigned_eq}
use Rattle.std.specs.HashMap.{HashMap, PutsEntry, get}
use Rattle.std.proofs.lemmas.Map.Keys.{IsDistinct-head, IsDistinct-tail}
use Rattle.std.proofs.lemmas.Bool.Decides.{nat_tests}
use Rattle.heap_sample.specs.declared.sample.Sample.{Sample}
use Rattle.heap_sample.specs.declared.sample.ProfileRow.{ProfileRow}
use Rattle.heap_sample.specs.Samples.{weight_in, HasLabel}
use Rattle.heap_sample.specs.Rows.{count_of, bytes_of, blocks_at, bytes_at, CountSamples}

-- some samples with one more are others, in any order
abbrev pub IsOneMore : List (ℕ × Sample) → ℕ × Sample → List (ℕ × Sample) → Type 0
IsOneMore fewer s more = (f : ℕ × Sample → ℕ) → sum_by f fewer + f s ≡ sum_by f more

pub at_most : (b : Bool) (n : ℕ) → cond b n 0 ≤ n
at_most true n = omega arith
at_most false n = omega arith

-- what stands for the samples of a length is a part of all, and nothing where there is none
pub part : (len : ℕ) (live : List (ℕ × Sample)) → bytes_of len live ≤ weight_in live
part len live = sum_by-le-sum_by (λ (s : ℕ × Sample). cond (s.1.len == len) s.1.weight 0) (λ (s : ℕ × Sample). s.1.weight) live (λ s. at_most (s.1.len == len) s.1.weight)

pub none_of : (len : ℕ) (live : List (ℕ × Sample)) → count_of len live ≡ 0 → bytes_of len live ≡ 0
none_of len [] none = refl
none_of len (s ∷ live) none =
    let c = sum_by-cons (λ (t : ℕ × Sample). cond (t.1.len == len) 1 0) s live in
    grind (arith, nat_tests, none_of len live, sum_by-cons (λ (t : ℕ × Sample). cond (t.1.len == len) t.1.weight 0) s live)

-- the rows of samples with one more, and with one fewer
pub noted : (fewer more : List (ℕ × Sample)) (label : ℕ) (s : Sample) (rows now : List ProfileRow) → IsOneMore fewer (label, s) more → CountSamples fewer rows
    → ((len : ℕ) → blocks_at len now ≡ blocks_at len rows + cond (s.len == len) 1 0)
    → ((len : ℕ) → bytes_at len now ≡ bytes_at len rows + cond (s.len == len) s.weight 0) → CountSamples more now
noted fewer more label s rows now one is blocks bytes = grind arith

pub forgotten : (fewer more : List (ℕ × Sample)) (label : ℕ) (s : Sample) (rows now : List ProfileRow) → IsOneMore fewer (label, s) more → CountSamples more rows
    → ((len : ℕ) → blocks_at len now + cond (s.len == len) 1 0 ≡ blocks_at len rows)
    → ((len : ℕ) → bytes_at len now + cond (s.len == len) s.weight 0 ≡ bytes_at len rows) → CountSamples fewer now
forgotten fewer more label s rows now one is blocks bytes = grind arith

-- the entry that a label has, taken out
pub taken_out : (label : ℕ) (s : Sample) (es : List (ℕ × Sample)) → lookup (nat_eq label) es ≡ Some s → IsOneMore (remove_entry (nat_eq label) es) (label, s) es
taken_out label s [] there f = absurd (none-some s there)
taken_out label s (e ∷ es) there f = grind (arith, nat_tests, taken_out label s es, sum_by-cons)

-- no entry of a label is left
none_left : (label : ℕ) (es : List (ℕ × Sample)) → AllByRecursion (λ k. nat_eq label k ≡ false) (keys_of es) → filter (λ e. not (label == e.0)) es ≡ es
none_left label [] none = refl
none_left label (e ∷ es) none = rw none.0 (ap (λ ts. e ∷ ts) (none_left label es none.1))

-- in a map, an entry taken out is a filter
pub as_filter : (label : ℕ) (es : List (ℕ × Sample)) → IsDistinct nat_eq (keys_of es) → (f : ℕ × Sample → ℕ)
    → sum_by f (filter (λ e. not (label == e.0)) es) ≡ sum_by f (remove_entry (nat_eq label) es)
as_filter label [] distinct f = refl
as_filter label (e ∷ es) distinct f =
    elim (cases_Bool (label == e.0)) [
      | inl is ↦
          (let none = subst (λ (k : ℕ). AllByRecursion (λ (y : ℕ). nat_eq k y ≡ false) (keys_of es)) (sym (eqb-true label e.0 is)) (IsDistinct-head nat_eq e.0 (keys_of es) distinct) in
          rw is (ap (sum_by f) (none_left label es none)))
      | inr other ↦
          (let rest = as_filter label es (IsDistinct-tail nat_eq e.0 (keys_of es) distinct) f in
          rw other (rw (sum_by-cons f e (filter (λ (t : ℕ × Sample). not (label == t.0)) es), sum_by-cons f e (remove_entry (nat_eq label) es), rest) refl))
    ]

-- a label that no sample has isn't in the map
none_by : (label : ℕ) (es : List (ℕ × Sample)) (found : Option Sample) → lookup (nat_eq label) es ≡ found → (HasLabel es label → ⊥) → lookup (nat_eq label) es ≡ None
none_by label es None e fresh = e
none_by label es (Some s) e fresh =
    let there = Contains-from_lookup exact_unsigned_eq label s es e in
    absurd (fresh (there.0, (label, s), there.1, there.2, refl))

pub not_there : (label : ℕ) (es : List (ℕ × Sample)) → (HasLabel es label → ⊥) → lookup (nat_eq label) es ≡ None
not_there label es fresh = none_by label es (lookup (nat_eq label) es) refl fresh

-- what a map that took a new label has
module _ {S : Type 0} (m n : HashMap ℕ Sample S) (label : ℕ) (s : Sample) where
  put_one : (old : Option Sample) → old ≡ None → PutsEntry nat_eq m n label s old → IsOneMore m.entries (label, s) n.entries
  put_one None e put f = omega (arith, sum_by-IsPermutation f ((label, s) ∷ m.entries) n.entries put, sum_by-cons f (label, s) m.entries)
  put_one (Some old) e put f = absurd (none-some old (sym e))

  pub put : {E : Type 0} (r : Result (Option Sample) E) → is_err r ≡ false → IfOk r (PutsEntry nat_eq m n label s)
      → IfOk r (λ old. old ≡ get nat_eq m label) → (HasLabel m.entries label → ⊥) → IsOneMore m.entries (label, s) n.entries
  put (Ok old) ok came was fresh = put_one old (was ∙ not_there label m.entries fresh) came
  put (Err e) ok came was fresh = absurd (true≢false ok)
