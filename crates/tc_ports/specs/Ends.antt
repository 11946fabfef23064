-- What the ends of a program show at a moment: what they tell, the calls that failed so far, and the calls so far, as far as a
-- u64 counts.
use Rattle.std.specs.Prelude.{ℕ, List, Option}
use Rattle.tc_ports.specs.Shelves.{Files}

-- a source: the bytes that reads will give from here on, where it tells them
pub record Reading : Type 0 where
  pub left : Option (List ℕ)
  pub faults : ℕ
  pub reads : ℕ

-- a shelf: its files, where it tells them
pub record Shelving : Type 0 where
  pub files : Option Files
  pub faults : ℕ
  pub loads : ℕ

-- a sink: the bytes that it has taken so far, where it tells them
pub record Writing : Type 0 where
  pub taken : Option (List ℕ)
  pub faults : ℕ
  pub puts : ℕ
