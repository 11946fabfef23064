-- The first key that serves is that of the preferred hugepage.
use Rattle.std.proofs.lemmas.Bool.Decides.{nat_tests}
use Rattle.std.proofs.Common.{◌≡◌, ℕ, ◌+◌, ◌<◌, ◌≤◌, false, List, get_or, Option, Some, None, All, sym, ap, ◌∙◌, arith}
use Rattle.huge_filler.proofs.Common.{cases_Bool, at_number-next, by_first, last_is, Key, Serves, IsFirstOf, Measures}
use Rattle.huge_filler.proofs.Common.{measures_at, prefers, IsPreferred, key_of, Lists}
use Rattle.tc_units.specs.declared.units.Huge.{Huge}
use Rattle.huge_index.specs.Order.{comes_before}
use Rattle.huge_index.specs.Total.{total}
use Rattle.huge_filler.proofs.Listed.{key_of_it, place_of}

-- The two orders are one.
prefers_is : (g : ℕ) (a : Measures) (h : ℕ) (b : Measures) → prefers g a h b ≡ comes_before (key_of g (Some a)) (key_of h (Some b))
prefers_is g a h b = by_first a.tier b.tier _ _ (by_first a.longest b.longest _ _ (by_first b.allocs a.allocs _ _ (last_is _ _)))

-- a key of a tier that serves is that of a hugepage of the filler
serving : (h : ℕ) (o : Option Measures) (key : Key) → key_of h o ≡ key → key.tier < 3 → (its : Measures) × (o ≡ Some its)
serving h o key e few = grind (arith, nat_tests)

module _ (rows : List (Option Measures)) (keys : List Key) (n : ℕ) (lists : Lists key_of rows keys) where
  -- no lower tier serves
  abbrev pub NoneBelow : ℕ → Type 0
  NoneBelow tier = (t : ℕ) → t < tier → All (λ key. ¬ (Serves t n key)) keys

  none_before : (tier : ℕ) (key : Key) (h : ℕ) (its : Measures) → NoneBelow tier → IsFirstOf keys tier n key → measures_at rows h ≡ Some its → n ≤ its.longest → comes_before (key_of h (Some its)) key ≡ false
  none_before tier key h its lower is e long = grind (arith, nat_tests, key_of_it key_of comes_before total rows keys lists h its e)

  pub preferred_is : (tier : ℕ) (huge : Huge) (key : Key) → tier < 3 → NoneBelow tier → key.huge ≡ huge → IsFirstOf keys tier n key → IsPreferred rows n huge
  preferred_is tier huge key few lower number is =
      let at = place_of key_of comes_before total rows keys lists key is.held in
      let its = serving (1 + at.0) (get_or rows at.0 None) key at.2 (omega (arith, is.serves.0)) in
      let same : key_of (1 + at.0) (Some its.0) ≡ key = ap (key_of (1 + at.0)) (sym its.1) ∙ at.2 in
      let h : 1 + at.0 ≡ huge.0 = ap (λ (k : Key). k.huge.0) same ∙ ap (λ (x : Huge). x.0) number in
      record {
        measures = its.0;
        from = omega (arith, h);
        to = omega (arith, h, at.1);
        row = ap (measures_at rows) (sym h) ∙ at_number-next None rows at.0 ∙ its.1;
        room = omega (arith, is.serves.1, ap (λ (k : Key). k.longest) same);
        first = λ g b e long other.
            let k : Key = key_of g (Some b) in
            let late = none_before tier key g b lower is e long in
            grind (arith, nat_tests, cases_Bool, prefers_is);
      }

  pub none_has_room : ((h : ℕ) (its : Measures) → measures_at rows h ≡ Some its → its.tier ≤ 2) → NoneBelow 3 → (h : ℕ) (its : Measures) → measures_at rows h ≡ Some its → its.longest < n
  none_has_room tiers lower h its e = grind (arith, nat_tests, lower its.tier, tiers h its e, key_of_it key_of comes_before total rows keys lists h its e)
