use Rattle.std.proofs.Common.{◌≡◌, ℕ, ◌-◌, length, ap, ◌∙◌, arith}
use Rattle.huge_cache.proofs.Common.{cases_Bool, nat_tests, with_places, Cache}
use Rattle.huge_cache.proofs.Found.{used_too}
use Rattle.huge_cache.proofs.Kept.{cache_of, sound_put}
use Rattle.huge_cache.proofs.cache.HugeCache.put.Goals as goal

pub put-requires-clause-inside : goal.put-requires-clause-inside
put-requires-clause-inside c = omega (arith, c.requires.inside, c.place_of-place.ensures, ap (λ (v : Cache). length v.taken) c.self.view_is)

pub put-requires-clause-taken : goal.put-requires-clause-taken
put-requires-clause-taken c free = grind (arith, c.requires.out free)

pub put-requires-2-clause-inside : goal.put-requires-2-clause-inside
put-requires-2-clause-inside c = omega (arith, c.requires.inside, c.place_of-place.ensures, ap (λ (v : Cache). length v.taken) c.self.view_is, c.self.invariant.lengths)

pub put-requires-2-clause-taken : goal.put-requires-2-clause-taken
put-requires-2-clause-taken c free = grind (arith, nat_tests, cases_Bool, used_too)

taken_is : (c : goal.After-put-2) → c.put.new.self ≡ with_places c.self.inside.taken (c.args.first.0 - 1) c.args.many c.args.taken
taken_is c = c.put.ensures ∙ ap (λ (p : ℕ). with_places c.self.inside.taken p c.args.many c.args.taken) c.place_of-place.ensures

unready_is : (c : goal.After-put-2) → c.put-2.new.self ≡ with_places c.self.inside.unready (c.args.first.0 - 1) c.args.many c.args.unready
unready_is c = c.put-2.ensures ∙ ap (λ (p : ℕ). with_places c.self.inside.unready p c.args.many c.args.unready) c.place_of-place.ensures

pub invariant_of-self : goal.invariant_of-self
invariant_of-self c =
    sound_put _ c.self.invariant c.put.new.self c.put-2.new.self (c.args.first.0 - 1) c.args.many c.args.taken c.args.unready
    (omega (arith, c.requires.inside, ap (λ (v : Cache). length v.taken) c.self.view_is)) c.requires.sound (taken_is c) (unready_is c)

pub returns-clause-run : goal.returns-clause-run
returns-clause-run c = grind (arith, nat_tests, unready_is, taken_is, cache_of)

pub returns-clause-lengths : goal.returns-clause-lengths
returns-clause-lengths c = omega (arith, c.self.invariant.lengths, ap (λ (v : Cache). length v.taken) c.self.view_is, ap (λ (v : Cache). length v.unready) c.self.view_is)
