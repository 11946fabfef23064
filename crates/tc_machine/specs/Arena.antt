-- How large the arena of a machine is at most.
use Rattle.std.specs.Prelude.{ℕ}

-- the hugepages of all memory nodes together: at most 8 nodes, each with at most 4096
abbrev pub most_huge_of_nodes : ℕ
most_huge_of_nodes = 32768
