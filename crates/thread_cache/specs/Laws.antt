-- That the caches of threads meet the law of a front-end, and what holds of the allocator over them in every order.
use Rattle.std.specs.Prelude.{◌≡◌, ℕ, ◌*◌, ◌<◌, ◌≤◌, List, length, map, All, Some, slice_get}
use Rattle.tc_units.specs.declared.spans.ClassRow.{ClassRow}
use Rattle.tc_model.specs.declared.config.Config.{Config}
use Rattle.tc_model.specs.Input.{Input}
use Rattle.call_steps.specs.Local.{Local}
use Rattle.call_steps.specs.Shapes.{AreRows}
use Rattle.alloc_rules.specs.FrontLaw.{IsNotOwn, IsLawful}
use Rattle.alloc_rules.specs.Standings.{standing_of}
use Rattle.alloc_rules.specs.Inputs.{IsValidInput, is_common, not_taken}
use Rattle.alloc_rules.specs.Law as allocator
use Rattle.thread_cache.specs.declared.row.CacheRow.{CacheRow}
use Rattle.thread_cache.specs.declared.seat.CacheSeat.{CacheSeat}
use Rattle.thread_cache.specs.Rows.{about_row, cache_front}
use Rattle.thread_cache.specs.Fits.{FitsCache}
use Rattle.thread_cache.specs.Holds.{all_limits, IsSeated, IsCacheOf, CachesHold}

-- the heads of a trace that the caches can serve
pub record AreCacheLimits (c : Config) : Type 0 where
  pub threads : 0 < c.threads
  pub few : c.threads ≤ 64
  pub percpu : c.percpu ≤ 268435456

abbrev pub CachesAreLawful : Type 0
CachesAreLawful = (rows : List ClassRow) (c : Config) → AreRows rows → AreCacheLimits c
    → IsLawful (cache_front rows c) about_row IsNotOwn (CachesHold rows c) (FitsCache rows)

-- After the picks of an order: what holds over any front-end; there are as many caches as threads; none has more bytes than its
-- limit; each thread has its own cache and asks others; and the sum of all limits and of what victims gave up and isn't raised yet
-- is as at the start.
pub record HoldsAfter (input : Input) (order : List ℕ) : Type 0 where
  pub all : allocator.HoldsAfter (cache_front input.rows input.asked.config) about_row (CachesHold input.rows input.asked.config) input.asked order
  pub many : length all.parts.fronts ≡ input.asked.config.threads
  pub caches : All (IsCacheOf input.rows) all.parts.fronts
  pub seats : (t : ℕ) (l : Local CacheSeat CacheRow) → slice_get all.locals t ≡ Some l → IsSeated input.asked.config t (standing_of l)
  pub limits : all_limits all.parts.fronts (map standing_of all.locals) ≡ input.asked.config.threads * input.asked.config.percpu

abbrev pub InEveryOrder : Type 0
InEveryOrder = (input : Input) → IsValidInput input → not_taken is_common input.asked.calls ≡ 0
    → allocator.AreLawful (cache_front input.rows input.asked.config) about_row input.asked (FitsCache input.rows) (HoldsAfter input)
