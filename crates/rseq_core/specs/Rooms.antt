-- How many objects the registers of a thread have room for.
use Rattle.std.specs.Prelude.{ℕ}

-- in hand: an answer, a batch of 128, and the 2,048 slots of a class
abbrev pub hand_room : ℕ
hand_room = 2177

-- loaded by a sequence: a batch of 128
abbrev pub loaded_room : ℕ
loaded_room = 128
