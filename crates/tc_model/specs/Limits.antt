-- How many CPUs, threads and picks a run has at most. These numbers are the project's own rule.
use Rattle.std.specs.Prelude.{ℕ}

-- the most modelled CPUs, and the most domains of them
abbrev pub most_cpus : ℕ
most_cpus = 64

-- the most threads
abbrev pub most_threads : ℕ
most_threads = 64

-- the most picks of an order, and so the most that may move
abbrev pub most_picks : ℕ
most_picks = 40000000
