-- What holds of the caches and of each thread as they see it, between any two picks.
use Rattle.std.specs.Prelude.{◌≡◌, ◌≢◌, ℕ, ◌+◌, ◌*◌, ◌%◌, ◌<◌, ◌≤◌, List, [], ◌∷◌, length, map, sum_by, All, Some, slice_get}
use Rattle.tc_units.specs.declared.spans.ClassRow.{ClassRow}
use Rattle.tc_model.specs.declared.config.Config.{Config}
use Rattle.rseq_core.specs.declared.regs.Regs.{Regs}
use Rattle.size_classes.specs.Rows.{sizes_of}
use Rattle.alloc_rules.specs.Standings.{At, Here, Later, Away, Standing}
use Rattle.thread_cache.specs.declared.row.CacheRow.{CacheRow}
use Rattle.thread_cache.specs.declared.row.CacheRow.TheVariants.{Pop, Stock, Add, Ask, Raise, AddAgain, Trim}
use Rattle.thread_cache.specs.declared.seat.CacheSeat.{CacheSeat}
use Rattle.thread_cache.specs.Cache.{Stack, Cache, bytes}

-- the bytes of limit that a thread has on the way: its victim gave them up, and its own cache is to be raised by them
abbrev pub given_at : At CacheRow → ℕ
given_at (Here (Raise f n)) = n
given_at (Later k (Raise f n)) = n
given_at other = 0

-- all limits, and all bytes of limit that are on the way
abbrev pub all_limits : List Cache → List (Standing CacheSeat CacheRow) → ℕ
all_limits ps us = sum_by (λ (p : Cache). p.limit) ps + sum_by (λ (s : Standing CacheSeat CacheRow). given_at s.at) us

-- A free has its object in hand, and nothing else; and no row of theirs comes behind acts elsewhere.
abbrev pub HandAt : Regs → At CacheRow → Type 0
HandAt g (Here (Pop a)) = Unit {0}
HandAt g (Here (Stock s)) = Unit {0}
HandAt g (Here (Add f)) = g.hand.items ≡ f.addr ∷ []
HandAt g (Here (Ask f)) = g.hand.items ≡ f.addr ∷ []
HandAt g (Here (Raise f n)) = g.hand.items ≡ f.addr ∷ []
HandAt g (Here (AddAgain f)) = g.hand.items ≡ f.addr ∷ []
HandAt g (Here (Trim f)) = g.hand.items ≡ f.addr ∷ []
HandAt g (Later k row) = ⊥
HandAt g Away = Unit {0}

-- a thread has its own cache, and its victim is another one, where there is one
pub record IsSeated (c : Config) (t : ℕ) (s : Standing CacheSeat CacheRow) : Type 0 where
  pub own : s.seat.own ≡ t % c.threads
  pub caches : s.seat.caches ≡ c.threads
  pub victim : s.seat.victim < c.threads
  pub apart : 1 < c.threads → s.seat.victim ≢ s.seat.own
  pub hand : HandAt s.regs s.at

-- a cache has the table's sizes, and no more bytes than its limit
pub record IsCacheOf (rows : List ClassRow) (p : Cache) : Type 0 where
  pub sizes : map (λ (s : Stack). s.size) p.stacks ≡ sizes_of rows
  pub within : bytes p ≤ p.limit

-- There are as many caches as threads, and however limits moved between them, none is lost and none is made.
pub record CachesHold (rows : List ClassRow) (c : Config) (n : ℕ) (ps : List Cache) (us : List (Standing CacheSeat CacheRow)) : Type 0 where
  pub many : length ps ≡ c.threads
  pub caches : All (IsCacheOf rows) ps
  pub threads : (t : ℕ) (s : Standing CacheSeat CacheRow) → slice_get us t ≡ Some s → IsSeated c t s
  pub limits : all_limits ps us ≡ c.threads * c.percpu
