-- The allocator over the caches of threads as a machine: its rules, its law for an order, and what a run tells.
use Rattle.std.specs.Prelude.{ℕ, List}
use Rattle.tc_model.specs.declared.answers.Finished.{Finished}
use Rattle.tc_model.specs.Input.{Input}
use Rattle.tc_model.specs.Run.{Rules}
use Rattle.call_steps.specs.Local.{Local}
use Rattle.call_steps.specs.Fronts.{FrontRules}
use Rattle.alloc_rules.specs.declared.part.Part.{Part as AnyPart}
use Rattle.alloc_rules.specs.Law.{AreLawful}
use Rattle.alloc_rules.specs.Lawful.{IsLawfulOrder}
use Rattle.alloc_rules.specs.Machine as machine
use Rattle.tc_machine.specs.Finish as finish
use Rattle.thread_cache.specs.declared.row.CacheRow.{CacheRow}
use Rattle.thread_cache.specs.declared.seat.CacheSeat.{CacheSeat}
use Rattle.thread_cache.specs.Cache.{Cache}
use Rattle.thread_cache.specs.Fits.{FitsCache}
use Rattle.thread_cache.specs.Laws.{HoldsAfter}
use Rattle.thread_cache.specs.Rows.{about_row, cache_front}

-- its parts, and its threads
abbrev pub Part : Type 0
Part = AnyPart Cache

abbrev pub CacheLocal : Type 0
CacheLocal = Local CacheSeat CacheRow

-- the caches of an input, as a front-end
abbrev pub front_of : Input → FrontRules Cache CacheSeat CacheRow
front_of input = cache_front input.rows input.asked.config

abbrev pub rules : Input → Rules Part CacheLocal
rules input = machine.rules (front_of input) about_row input.asked

-- The law for an order: its picks move, and they are few; the rules are lawful; and what holds in every order holds behind
-- each beginning of it.
abbrev pub IsLawful : Input → List ℕ → Type 0
IsLawful input order =
    IsLawfulOrder (rules input) (AreLawful (front_of input) about_row input.asked (FitsCache input.rows) (HoldsAfter input)) (HoldsAfter input) input.asked.config.events order

-- what the run of an order tells
abbrev pub finished_in : Input → List ℕ → Finished
finished_in input order = finish.finished_in (front_of input) about_row input.asked order
