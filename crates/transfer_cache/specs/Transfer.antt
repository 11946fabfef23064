-- A transfer cache as contracts see it, and what is taken from it.
use Rattle.std.specs.Prelude.{ℕ, ◌-◌, List, length, take, drop, reverse}
use Rattle.tc_units.specs.declared.units.Addr.{Addr}

-- the objects that a transfer cache holds, oldest first, and how many it has room for
pub record Transfer : Type 0 where
  pub objects : List Addr
  pub room : ℕ

-- the last n of a list, or all of it where it has fewer, last first
abbrev pub last_first : ℕ → List Addr → List Addr
last_first n objects = reverse (drop (length objects - n) objects)

-- a list without its last n, or nothing of it where it has fewer
abbrev pub without_last : ℕ → List Addr → List Addr
without_last n objects = take (length objects - n) objects
