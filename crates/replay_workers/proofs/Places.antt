-- What holds of two lists at each place, when one place is written or comes.
use Rattle.std.proofs.Common.{◌≡◌, ℕ, ◌<◌, ◌+◌, List, [], ◌∷◌, ◌++◌, length, get_or, sym, ap, subst, ◌∙◌, below_more, arith, length-append}
use Rattle.std.specs.List.{slice_set}
use Rattle.std.proofs.Math.ListN.{get_or-append}
use Rattle.std.proofs.Math.Seq.{get_or-append_seam}
use Rattle.std.proofs.lemmas.List.{get_or_default, get_or-set_same, get_or-set_other}

module _ {A : Type 0} (R : A → A → Type 0) where
  -- up to a place that is written now, where that one was the same before
  pub each_set : (xs ys : List A) (i : ℕ) (e y : A) → i < length ys → ((d : A) → get_or xs i d ≡ get_or ys i d) → R (get_or ys i e) y → ((k : ℕ) (d : A) → k < i → R (get_or xs k d) (get_or ys k d))
      → (k : ℕ) (d : A) → k < i + 1 → R (get_or xs k d) (get_or (slice_set ys i y) k d)
  each_set xs ys i e y less same at below k d k_less =
      below_more (λ (k : ℕ). R (get_or xs k d) (get_or (slice_set ys i y) k d)) i (λ k low. subst (R (get_or xs k d)) (sym (get_or-set_other ys i k y d (omega arith))) (below k d low))
      (rw (get_or-set_same ys i y d less) (rw (same d ∙ get_or_default ys i d e less) at)) k k_less

  -- with one place more behind each
  pub each_snoc : (xs ys zs ws : List A) (x y : A) → zs ≡ xs ++ x ∷ [] → ws ≡ ys ++ y ∷ [] → length ys ≡ length xs → R x y → ((k : ℕ) (d : A) → k < length xs → R (get_or xs k d) (get_or ys k d))
      → (k : ℕ) (d : A) → k < length zs → R (get_or zs k d) (get_or ws k d)
  each_snoc xs ys zs ws x y a b long at below k d k_less =
      rw a (rw b (below_more (λ (k : ℕ). R (get_or (xs ++ x ∷ []) k d) (get_or (ys ++ y ∷ []) k d)) (length xs) (λ k low. rw (get_or-append xs (x ∷ []) d k low) (rw (get_or-append ys (y ∷ []) d k (omega arith)) (below k d low)))
      (rw (get_or-append_seam xs x [] d) (subst (λ (n : ℕ). R x (get_or (ys ++ y ∷ []) n d)) long (rw (get_or-append_seam ys y [] d) at))) k (omega (arith, ap length a, length-append xs (x ∷ [])))))
