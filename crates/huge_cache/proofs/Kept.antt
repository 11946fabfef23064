-- What isn't free stays not free and backed, through each change of both rows.
use Rattle.std.proofs.Common.{◌≡◌, ℕ, ◌+◌, ◌-◌, ◌<◌, ◌≤◌, Bool, true, false, not, cond, map, count_by, List, [], ◌∷◌, length, get_or, refl, ap, arith}
use Rattle.huge_cache.proofs.Common.{nat_tests, get_or_head, get_or_past, sum_by-cons, with_places, free_count, length-with_places}
use Rattle.huge_cache.proofs.Common.{get_or-with_places, at_number-place, Cache, is_backed, IsSound}
use Rattle.range_bits.proofs.BitFacts.{is_between}

abbrev pub cache_of : Cache → List Bool → List Bool → Cache
cache_of c taken unready = record { most = c.most; window = c.window; taken = taken; unready = unready; counts = c.counts }

one_state : (inside a b t u : Bool) → (a ≡ true → b ≡ true) → (t ≡ true → u ≡ true) → cond inside a t ≡ true → cond inside b u ≡ true
one_state inside a b t u change before h = grind (arith, nat_tests)

module _ (c : Cache) (sound : IsSound c) where
  pub sound_put : (taken unready : List Bool) (start n : ℕ) (a b : Bool) → start + n ≤ length c.taken → (a ≡ true → b ≡ true) → taken ≡ with_places c.taken start n a → unready ≡ with_places c.unready start n b → IsSound (cache_of c taken unready)
  sound_put taken unready start n a b inside change is also = grind (arith, nat_tests, get_or-with_places, is_between, length-with_places, one_state)

  -- more that isn't backed
  pub sound_more : (unready : List Bool) (start n : ℕ) → start + n ≤ length c.unready → unready ≡ with_places c.unready start n true → IsSound (cache_of c c.taken unready)
  sound_more unready start n inside is = grind (arith, nat_tests, get_or-with_places, is_between, length-with_places, one_state)

-- the flags 'free and backed' of a row
pub ready_is : (v : List Bool) → count_by (λ b. b) (map not v) ≡ free_count v
ready_is [] = refl
ready_is (x ∷ v) = omega (arith, sum_by-cons (λ (b : Bool). cond b 1 0) (not x) (map not v), sum_by-cons (λ (b : Bool). cond (not b) 1 0) x v, ready_is v)

-- a hugepage is backed where its place isn't used in the row
pub backed_at : (c : Cache) (h : ℕ) → 0 < h → is_backed c h ≡ not (get_or c.unready (h - 1) true)
backed_at c h some = ap not (at_number-place true c.unready h some)

pub none_at : (c : Cache) (h : ℕ) → h ≡ 0 → is_backed c h ≡ false
none_at c h none = ap not (get_or_head true c.unready h true none)

-- and it is one of the arena
pub backed_inside : (c : Cache) (h : ℕ) → is_backed c h ≡ true → (0 < h) × (h ≤ length c.unready)
backed_inside c h e = grind (arith, nat_tests, none_at, backed_at, get_or_past)

pub backed_span : (c : Cache) (first many : ℕ) → 0 < many → ((h : ℕ) → first ≤ h → h < first + many → is_backed c h ≡ true) → (0 < first) × (first - 1 + many ≤ length c.unready)
backed_span c first many some all = grind (arith, backed_inside)
