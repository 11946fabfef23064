use Rattle.std.proofs.Common.{◌≡◌, ℕ, ◌+◌, ◌-◌, ◌<◌, ◌≤◌, length, true, ap, ◌∙◌, arith}
use Rattle.huge_cache.proofs.Common.{nat_tests, with_places, Cache, is_backed}
use Rattle.huge_cache.proofs.Kept.{cache_of, sound_more, backed_span}
use Rattle.huge_cache.proofs.cache.HugeCache.unback.Goals as goal

within : (old now : Cache) (first many : ℕ) → old ≡ now → 0 < many → ((h : ℕ) → first ≤ h → h < first + many → is_backed now h ≡ true) →
    (0 < first) × (first - 1 + many ≤ length old.unready)
within old now first many e some all = let at = backed_span now first many some all in (at.0, omega (arith, at.1, ap (λ (v : Cache). length v.unready) e))

pub place_of-requires : goal.place_of-requires
place_of-requires c = (within _ _ _ _ c.self.view_is c.requires.some c.requires.backed).0

pub put-requires-clause-inside : goal.put-requires-clause-inside
put-requires-clause-inside c = omega (arith, (within _ _ _ _ c.self.view_is c.requires.some c.requires.backed).1, c.place_of.ensures)

unready_is : (c : goal.After-put) → c.put.new.self ≡ with_places c.self.inside.unready (c.args.first.0 - 1) c.args.many true
unready_is c = c.put.ensures ∙ ap (λ (p : ℕ). with_places c.self.inside.unready p c.args.many true) c.place_of.ensures

pub invariant_of-self : goal.invariant_of-self
invariant_of-self c =
    sound_more _ c.self.invariant c.put.new.self (c.args.first.0 - 1) c.args.many (within _ _ _ _ c.self.view_is c.requires.some c.requires.backed).1 (unready_is c)

pub returns : goal.returns
returns c = grind (arith, nat_tests, unready_is, cache_of)
