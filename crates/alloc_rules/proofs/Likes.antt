-- What is counted in the heap's sorted runs and in the map's sorted spans, as one comes or goes.
use Rattle.std.proofs.Common.{◌≡◌, ℕ, zero, suc, ◌+◌, ◌<◌, ◌≤◌, Bool, true, eqb, List, [], ◌∷◌, count_by, Contains, sym, ap, ◌∙◌, inl, inr, arith}
use Rattle.alloc_rules.proofs.Common.{cases_Bool, Run, SpanRef, count-with_item, count-without, bit, same_run, same_span, runs_like, spans_like}
use Rattle.alloc_rules.proofs.Common.{Counts, like, like_span, same_run_is, same_run_refl, same_span_is, same_span_refl}
use Rattle.tc_units.specs.Sorted.{with_item, without_key}
use Rattle.alloc_rules.proofs.Counting.{bit_cond, runs_count, spans_count}
use Rattle.std.proofs.lemmas.Bool.Decides.{nat_tests}

-- what is counted is there, and what is there is counted
module _ {X : Type 0} (same : X → X → Bool) (is : (x y : X) → same x y ≡ true → x ≡ y) (one : (x : X) → same x x ≡ true)
    {often : X → List X → ℕ} (counts : (x : X) → Counts (often x) (λ (y : X). bit (same y x))) where
  there : (x : X) (xs : List X) → 0 < often x xs → Contains xs x
  there x [] some = absurd (omega (arith, some, (counts x).none))
  there x (y ∷ ys) some =
      elim (cases_Bool (same y x)) [
        | inl hit ↦ (0, omega arith, is y x hit)
        | inr miss ↦ (let z : bit (same y x) ≡ 0 = ap bit miss in let at = there x ys (omega (arith, some, z, (counts x).more y ys)) in (suc at.0, omega (arith, at.1), at.2))
      ]

  often_there : (x : X) (xs : List X) → Contains xs x → 0 < often x xs
  often_there x [] at = absurd (omega (arith, at.1))
  often_there x (y ∷ ys) (zero, l, e) =
      let hit : bit (same y x) ≡ 1 = ap bit (ap (λ z. same y z) (sym e) ∙ one y) in
      omega (arith, hit, (counts x).more y ys)
  often_there x (y ∷ ys) (suc i, l, e) = let rest = often_there x ys (i, omega (arith, l), e) in omega (arith, rest, (counts x).more y ys)

pub counted_there : (r : Run) (xs : List Run) → 0 < runs_like r xs → Contains xs r
counted_there r xs some = there same_run same_run_is same_run_refl like r xs some

pub there_counted : (r : Run) (xs : List Run) → Contains xs r → 0 < runs_like r xs
there_counted r xs at = often_there same_run same_run_is same_run_refl like r xs at

pub span_there : (s : SpanRef) (xs : List SpanRef) → 0 < spans_like s xs → Contains xs s
span_there s xs some = there same_span same_span_is same_span_refl like_span s xs some

pub span_counted : (s : SpanRef) (xs : List SpanRef) → Contains xs s → 0 < spans_like s xs
span_counted s xs at = often_there same_span same_span_is same_span_refl like_span s xs at

-- one more, and one less, which alone has its first page
module _ {X : Type 0} (same : X → X → Bool) (key : X → ℕ) {often : X → List X → ℕ} (count : (r : X) (xs : List X) → count_by (λ (y : X). same y r) xs ≡ often r xs) where
  with_one : (x : X) (xs : List X) (r : X) → often r (with_item key x xs) ≡ bit (same x r) + often r xs
  with_one x xs r = omega (arith, count r (with_item key x xs), count r xs, count-with_item key (λ y. same y r) x xs, bit_cond (same x r))

  without_one : (x : X) (xs : List X) (r : X) → (at : Contains xs x) → count_by (λ y. eqb (key y) (key x)) xs ≤ 1 → often r (without_key key (key x) xs) + bit (same x r) ≡ often r xs
  without_one x xs r at most = grind (arith, nat_tests, count-without (λ y. same y r) (λ y. eqb (key y) (key x)) xs at.0 x at.1, bit_cond (same x r))

pub like-with_run : (x : Run) (xs : List Run) (r : Run) → runs_like r (with_item (λ y. y.first.0) x xs) ≡ bit (same_run x r) + runs_like r xs
like-with_run x xs r = with_one same_run (λ y. y.first.0) runs_count x xs r

pub like-with_span : (x : SpanRef) (xs : List SpanRef) (s : SpanRef) → spans_like s (with_item (λ y. y.first.0) x xs) ≡ bit (same_span x s) + spans_like s xs
like-with_span x xs s = with_one same_span (λ y. y.first.0) spans_count x xs s

pub like-without_run : (x : Run) (xs : List Run) (r : Run) → (at : Contains xs x) → count_by (λ y. eqb y.first.0 x.first.0) xs ≤ 1
    → runs_like r (without_key (λ y. y.first.0) x.first.0 xs) + bit (same_run x r) ≡ runs_like r xs
like-without_run x xs r at most = without_one same_run (λ y. y.first.0) runs_count x xs r at most

pub like-without_span : (x : SpanRef) (xs : List SpanRef) (s : SpanRef) → (at : Contains xs x) → count_by (λ y. eqb y.first.0 x.first.0) xs ≤ 1
    → spans_like s (without_key (λ y. y.first.0) x.first.0 xs) + bit (same_span x s) ≡ spans_like s xs
like-without_span x xs s at most = without_one same_span (λ y. y.first.0) spans_count x xs s at most
