-- Lists in which each item is as often have equal counts.
use Rattle.std.proofs.Common.{◌≡◌, ℕ, ◌+◌, ◌<◌, Bool, true, List, [], ◌∷◌, refl, sym, ap, ◌∙◌, arith, sum_by}
use Rattle.alloc_rules.proofs.Common.{sum_by-cons, Run, SpanRef, bit, same_run, same_span, runs_like, spans_like, runs_at, spans_of_run, less, without}
use Rattle.alloc_rules.proofs.Common.{Counts, like, like_span, starting, of_run, less_counts, without_counts, same_run_refl, same_span_refl}

-- over a test of items, how often one is in a list, and the list without it
module _ {X : Type 0} (same : X → X → Bool) (often : X → List X → ℕ) (rest : X → List X → List X)
    (one : (x : X) → same x x ≡ true) (counts : (x : X) → Counts (often x) (λ (y : X). bit (same y x)))
    (taken : (x : X) (xs : List X) → 0 < often x xs → (g : List X → ℕ) (q : X → ℕ) → Counts g q → g (rest x xs) + q x ≡ g xs) where
  first_there : (x : X) (xs : List X) → 0 < often x (x ∷ xs)
  first_there x xs = let e : bit (same x x) ≡ 1 = ap bit (one x) in omega (arith, (counts x).more x xs, e)

  none_there : (xs : List X) → ((x : X) → often x xs ≡ 0) → xs ≡ []
  none_there [] none = refl
  none_there (x ∷ xs) none = absurd (omega (arith, none x, first_there x xs))

  same_counts : (xs ys : List X) → ((x : X) → often x xs ≡ often x ys) → {f : List X → ℕ} {p : X → ℕ} → Counts f p → f xs ≡ f ys
  same_counts [] ys alike {f} {p} c = ap f (sym (none_there ys (λ x. sym (alike x) ∙ (counts x).none)))
  same_counts (x ∷ xs) ys alike {f} {p} c =
      let there : 0 < often x ys = omega (arith, alike x, first_there x xs) in
      let others = same_counts xs (rest x ys) (λ y. omega (arith, alike y, (counts y).more x xs, taken x ys there (often y) (λ (z : X). bit (same z y)) (counts y))) c in
      omega (arith, others, c.more x xs, taken x ys there f p c)

abbrev pages_in : List Run → ℕ
pages_in rs = sum_by (λ (r : Run). r.pages) rs

module _ (xs ys : List Run) (alike : (r : Run) → runs_like r xs ≡ runs_like r ys) where
  pub same_starts : (n : ℕ) → runs_at n xs ≡ runs_at n ys
  same_starts n = same_counts same_run runs_like less same_run_refl like (λ x rs some g q c. less_counts x rs some c) xs ys alike (starting n)

  pub same_pages : pages_in xs ≡ pages_in ys
  same_pages =
      same_counts same_run runs_like less same_run_refl like (λ x rs some g q c. less_counts x rs some c) xs ys alike
      (record { none = refl; more = λ r rs. sum_by-cons (λ (x : Run). x.pages) r rs })

pub same_spans : (xs ys : List SpanRef) → ((s : SpanRef) → spans_like s xs ≡ spans_like s ys) → (r : Run) → spans_of_run r xs ≡ spans_of_run r ys
same_spans xs ys alike r = same_counts same_span spans_like without same_span_refl like_span (λ x ss some g q c. without_counts x ss some c) xs ys alike (of_run r)
