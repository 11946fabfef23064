-- The numbers that are drawn behind a seed.
use Rattle.std.specs.Prelude.{ℕ, zero, suc, ◌+◌, ◌*◌, ◌/◌, ◌%◌}

-- the number behind a number
unfoldable pub next_number : ℕ → ℕ
next_number x = (x * 1103515245 + 12345) % 2147483648

-- the number after n draws
abbrev pub number_after : ℕ → ℕ → ℕ
number_after zero x = x
number_after (suc n) x = number_after n (next_number x)

-- what the draw behind n draws gives: 0 to 32767
abbrev pub draw : ℕ → ℕ → ℕ
draw n x = next_number (number_after n x) / 65536
