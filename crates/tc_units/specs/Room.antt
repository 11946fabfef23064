-- The room of a vector to which one more comes.
use Rattle.std.specs.Prelude.{ℕ, ◌+◌, max, nat_lt, if◌then◌else◌}

-- the room of so many items, where it has to be enough for one more
abbrev pub room_after : ℕ → ℕ → ℕ
room_after len room = if nat_lt len room then room else len + max len 4
