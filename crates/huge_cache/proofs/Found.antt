-- The place that is found for adjacent hugepages.
use Rattle.std.proofs.Common.{◌≡◌, ℕ, suc, ◌+◌, ◌<◌, ◌≤◌, ◌↔◌, Bool, true, false, not, List, [], ◌∷◌, length, get_or, drop, Option, Some, None, IsNone, IfSome}
use Rattle.std.proofs.Common.{refl, sym, subst, ◌∙◌, arith}
use Rattle.std.specs.Option.{option_or}
use Rattle.huge_cache.proofs.Common.{prefix_len, length-drop, get_or-drop, free_from, used_from, longest, best, best_is_fit, free_fits, greatest-ge, nat_tests}
use Rattle.huge_cache.proofs.Common.{none_exactly, Cache, IsSound}

-- stretches of two rows of which the second is used where the first is
used_prefix : (xs ys : List Bool) → length xs ≡ length ys → ((k : ℕ) → get_or xs k true ≡ true → get_or ys k true ≡ true) → prefix_len (λ used. used) xs ≤ prefix_len (λ used. used) ys
used_prefix [] ys size h = omega arith
used_prefix (x ∷ xs) [] size h = absurd (omega arith)
used_prefix (false ∷ xs) (y ∷ ys) size h = omega arith
used_prefix (true ∷ xs) (true ∷ ys) size h = omega (arith, used_prefix xs ys (omega arith) (λ k. h (suc k)))
used_prefix (true ∷ xs) (false ∷ ys) size h = absurd (let c : false ≡ true = h 0 refl in cc)

free_prefix : (xs ys : List Bool) → length xs ≡ length ys → ((k : ℕ) → get_or xs k true ≡ true → get_or ys k true ≡ true) → prefix_len not ys ≤ prefix_len not xs
free_prefix xs [] size h = omega arith
free_prefix [] (y ∷ ys) size h = absurd (omega arith)
free_prefix (x ∷ xs) (true ∷ ys) size h = omega arith
free_prefix (false ∷ xs) (false ∷ ys) size h = omega (arith, free_prefix xs ys (omega arith) (λ k. h (suc k)))
free_prefix (true ∷ xs) (false ∷ ys) size h = absurd (let c : false ≡ true = h 0 refl in cc)

behind : (c : Cache) (p k : ℕ) → IsSound c → get_or (drop p c.taken) k true ≡ true → get_or (drop p c.unready) k true ≡ true
behind c p k h used = get_or-drop p c.unready k true ∙ h.unready (p + k) (sym (get_or-drop p c.taken k true) ∙ used)

pub used_too : (c : Cache) (p : ℕ) → IsSound c → used_from c.taken p ≤ used_from c.unready p
used_too c p h = used_prefix (drop p c.taken) (drop p c.unready) (omega (arith, length-drop p c.taken, length-drop p c.unready, h.lengths)) (λ k. behind c p k h)

pub free_too : (c : Cache) (p : ℕ) → IsSound c → free_from c.unready p ≤ free_from c.taken p
free_too c p h = free_prefix (drop p c.taken) (drop p c.unready) (omega (arith, length-drop p c.taken, length-drop p c.unready, h.lengths)) (λ k. behind c p k h)

-- what is found
pub record FoundPlace (c : Cache) (n : ℕ) (result : Option ℕ) : Type 0 where
  pub place : result ≡ option_or (best c.unready n) (best c.taken n)
  pub none : IsNone result ↔ (longest c.taken < n)
  pub free : IfSome result (λ place. n ≤ free_from c.taken place)
  pub inside : IfSome result (λ place. place + n ≤ 4096)

fits_there : (c : Cache) (n place : ℕ) → IsSound c → 0 < n → place < length c.taken → n ≤ free_from c.taken place → (n ≤ longest c.taken) × (place + n ≤ 4096)
fits_there c n place h some inside far = grind (arith, greatest-ge (free_from c.taken) 0 (length c.taken) place, free_fits c.taken place n some far)

pub found_backed : (c : Cache) (n place : ℕ) → IsSound c → 0 < n → best c.unready n ≡ Some place → FoundPlace c n (Some place)
found_backed c n place h some e =
    let fit = best_is_fit c.unready n place e in
    let far : n ≤ free_from c.taken place = omega (arith, fit.1, free_too c place h) in
    let there = fits_there c n place h some (omega (arith, fit.0, h.lengths)) far in
    grind (arith, nat_tests, option_or)

none_is : (r : Option ℕ) → IsNone r → r ≡ None
none_is r h = grind (arith, nat_tests)

is_none : (r : Option ℕ) → r ≡ None → IsNone r
is_none r e = subst (λ (o : Option ℕ). IsNone o) (sym e) refl

some_free : (c : Cache) (n : ℕ) (r : Option ℕ) → IsSound c → 0 < n → r ≡ best c.taken n → IfSome r (λ place. n ≤ free_from c.taken place) × IfSome r (λ place. place + n ≤ 4096)
some_free c n None h some e = (tt, tt)
some_free c n (Some place) h some e = grind (arith, best_is_fit c.taken n place (sym e), fits_there c n place h some)

pub found_free : (c : Cache) (n : ℕ) (r : Option ℕ) → IsSound c → 0 < n → best c.unready n ≡ None → r ≡ best c.taken n → FoundPlace c n r
found_free c n r h some none e =
    let exactly = none_exactly c.taken n r some e in
    let free = some_free c n r h some e in
    grind (arith, nat_tests, option_or, none_is, is_none)
