-- What the calls of a trace did with its labels.
use Rattle.std.specs.Prelude.{ℕ, Bool, List}
use Rattle.std.specs.List.{list_any}
use Rattle.tc_model.specs.Blocks.{allocates, frees}
use Rattle.tc_model.specs.Input.{ThreadCall}

-- whether some call allocates under a label, and whether some call frees it
abbrev pub is_allocated : ℕ → List ThreadCall → Bool
is_allocated label calls = list_any (λ c. allocates label c.planned.call) calls

abbrev pub is_freed : ℕ → List ThreadCall → Bool
is_freed label calls = list_any (λ c. frees label c.planned.call) calls
