-- What an act at a cache needs: each condition of a call of the cache, by the row.
use Rattle.std.specs.Prelude.{◌+◌, ◌<◌, ◌^◌, List, length}
use Rattle.tc_units.specs.declared.spans.ClassRow.{ClassRow}
use Rattle.rseq_core.specs.declared.regs.Regs.{Regs}
use Rattle.call_steps.specs.Fits.{FitsBatch}
use Rattle.thread_cache.specs.declared.row.CacheRow.{CacheRow}
use Rattle.thread_cache.specs.declared.row.CacheRow.TheVariants.{Pop, Stock, Add, Ask, Raise, AddAgain, Trim}
use Rattle.thread_cache.specs.declared.seat.CacheSeat.{CacheSeat}
use Rattle.thread_cache.specs.Cache.{Cache}

abbrev pub FitsRow : List ClassRow → Cache → Regs → CacheRow → Type 0
FitsRow rows p g (Pop a) = 0 < g.hand.spare
FitsRow rows p g (Stock s) = length g.hand.items < 2 ^ 32
FitsRow rows p g (Add f) = length g.hand.items < 2 ^ 32
FitsRow rows p g (Ask f) = Unit {0}
FitsRow rows p g (Raise f n) = p.limit + n < 2 ^ 64
FitsRow rows p g (AddAgain f) = length g.hand.items < 2 ^ 32
FitsRow rows p g (Trim f) = FitsBatch rows g

-- the thread's class is in the table and at the cache, and the row's own condition holds, whatever the seat
pub record FitsCache (rows : List ClassRow) (p : Cache) (v : CacheSeat) (g : Regs) (row : CacheRow) : Type 0 where
  pub class : g.class.0 < length rows
  pub there : g.class.0 < length p.stacks
  pub fit : FitsRow rows p g row
