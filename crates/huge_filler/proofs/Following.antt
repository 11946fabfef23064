-- The list for the order of giving, before and after it is told.
use Rattle.std.proofs.lemmas.Bool.Decides.{nat_tests}
use Rattle.std.proofs.Common.{◌≡◌, ℕ, ◌+◌, ◌-◌, ◌*◌, ◌/◌, ◌<◌, ◌≤◌, Bool, false, List, ◌∷◌, IsPermutation, Contains, length, get_or, set, replicate, Option, None, sym, subst, ◌∙◌, inl, inr, arith}
use Rattle.huge_filler.proofs.Common.{cases_eq, cases_lt, length-set, get_or-set_same, get_or-set_other, get_or_default, get_or_past, get_or-replicate, length-replicate}
use Rattle.huge_filler.proofs.Common.{Giver, Measures, measures_at, at_number-place, comes_before, total, giver_of, Lists, IsFollowed}
use Rattle.std.proofs.lemmas.List.{same_lists}
use Rattle.huge_filler.proofs.Kept.{is_held, moved}

module _ (rows told : List (Option Measures)) (order : List Giver) (stale : List Bool) where
  pub followed_none : (huge : ℕ) → huge ≤ 4096 → told ≡ replicate huge None → rows ≡ told → Lists giver_of told order → stale ≡ replicate (64 * (huge / 64 + 1)) false → IsFollowed rows told order stale
  followed_none huge most none same lists free = grind (arith, nat_tests, length-replicate, get_or-replicate, get_or_past, cases_lt)

  module _ (was : IsFollowed rows told order stale) (i : ℕ) (inside : i < length rows) (o : Option Measures) (is : o ≡ get_or told i o) where
    at : o ≡ measures_at told (i + 1)
    at = grind (arith, nat_tests, was, get_or_default, at_number-place)

    -- the list is told of one
    pub told_held : (k : Giver) → k ≡ giver_of (i + 1) o → Contains order k
    told_held k e = is_held told (i + 1) o (omega arith) (omega (arith, was.size)) at giver_of comes_before total order k was.givers e

    pub told_one : (after : Option Measures) (k k' : Giver) (order' : List Giver) → after ≡ get_or rows i after → k ≡ giver_of (i + 1) o → k' ≡ giver_of (i + 1) after → IsPermutation (k' ∷ order) (k ∷ order') → IsFollowed rows (set told i after) order' (set stale i false)
    told_one after k k' order' now e e' turn =
        let lists = moved told (i + 1) o (omega arith) (omega (arith, was.size)) at giver_of after order order' k k' was.givers e e' turn in
        record {
          arena = was.arena;
          size = omega (arith, was.size, length-set told i after);
          givers = subst (λ (p : ℕ). Lists giver_of (set told p after) order') (let e : i + 1 - 1 ≡ i = omega arith in e) lists;
          room = omega (arith, was.room, length-set stale i false);
          inside = λ k there. elim (cases_eq k i) [ inl same ↦ omega (arith, same) | inr other ↦ was.inside k (sym (get_or-set_other stale i k false false other) ∙ there) ];
          current = λ k there.
              elim (cases_eq k i) [
                | inl same ↦ grind (arith, nat_tests, was, get_or-set_same, get_or_default)
                | inr other ↦ get_or-set_other told i k after None other ∙ was.current k (sym (get_or-set_other stale i k false false other) ∙ there)
              ];
        }

  -- where no place is stale it follows
  pub followed_now : IsFollowed rows told order stale → ((k : ℕ) → get_or stale k false ≡ false) → Lists giver_of rows order
  followed_now was none =
      subst (λ (r : List (Option Measures)). Lists giver_of r order)
      (same_lists told rows was.size (λ k d l. get_or_default told k d None l ∙ was.current k (none k) ∙ get_or_default rows k None d (omega (arith, was.size)))) was.givers
