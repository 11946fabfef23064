-- The allocator over the per-CPU caches as a machine: its law for an order, and what a run tells.
use Rattle.std.specs.Prelude.{ℕ, List}
use Rattle.tc_model.specs.declared.answers.Finished.{Finished}
use Rattle.tc_model.specs.Input.{Input}
use Rattle.alloc_rules.specs.Lawful.{IsLawfulOrder}
use Rattle.cpu_rows.specs.CpuRows.{about_row}
use Rattle.cpu_rows.specs.Law.{AreLawful, HoldsAfter}
use Rattle.cpu_rows.specs.Machine.{front_of, rules}
use Rattle.tc_machine.specs.Finish as machine

-- The law for an order: its picks move, and they are few; the rules are lawful; and what holds in every order holds behind
-- each beginning of it.
abbrev pub IsLawful : Input → List ℕ → Type 0
IsLawful input order = IsLawfulOrder (rules input) (AreLawful input) (HoldsAfter input) input.asked.config.events order

-- what the run of an order tells
abbrev pub finished_in : Input → List ℕ → Finished
finished_in input order = machine.finished_in (front_of input) about_row input.asked order
