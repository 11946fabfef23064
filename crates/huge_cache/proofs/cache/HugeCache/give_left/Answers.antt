use Rattle.std.proofs.Common.{◌≡◌, ℕ, ◌+◌, ◌-◌, ◌<◌, ◌≤◌, List, Bool, false, length, set, arith}
use Rattle.huge_cache.proofs.Common.{nat_tests, at_number-place, used_from, with_places, Cache}
use Rattle.huge_cache.specs.Cache.{holds}
use Rattle.huge_cache.proofs.Padded.{place_more, used_more}
use Rattle.huge_cache.proofs.cache.HugeCache.give_left.Goals as goal

used_last : (cache : Cache) (first many last : ℕ) → 0 < first → first + many ≡ last → last ≤ length cache.taken → many ≤ used_from cache.taken (first - 1) →
    holds cache last ≡ false → many + 1 ≤ used_from cache.taken (first - 1)
used_last cache first many last low behind high out held = grind (arith, at_number-place, used_more)

last_place : (row : List Bool) (first many last : ℕ) → 0 < first → first + many ≡ last → last ≤ length row →
    with_places row (first - 1) (many + 1) false ≡ set (with_places row (first - 1) many false) (last - 1) false
last_place row first many last low behind high = grind (arith, place_more)

pub give_run-requires-clause-out : goal.give_run-requires-clause-out
give_run-requires-clause-out c = used_last c.args.self.now c.args.first.0 c.args.many c.args.last.0 c.requires.low c.requires.behind c.requires.high c.requires.out c.requires.last

pub returns-then-backed : goal.returns-then-backed
returns-then-backed c = grind (arith, nat_tests, last_place, c.in_use.ensures.sound.lengths)
