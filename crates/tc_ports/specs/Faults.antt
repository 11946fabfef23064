-- Counts of faults and of calls, which stop at the greatest u64.
use Rattle.std.specs.Prelude.{ℕ, ◌+◌, ◌-◌, ◌^◌, ◌<◌, ◌≤◌, min}

-- the last value of a count
abbrev pub last_count : ℕ
last_count = 2 ^ 64 - 1

-- a count after one more call, which stays at its last value
abbrev pub one_more : ℕ → ℕ
one_more n = min (n + 1) last_count

-- a count of faults rose: it is greater, unless it stands at its last value
abbrev pub Rose : ℕ → ℕ → Type 0
Rose old new = (old ≤ new) × (new < last_count → old < new)
