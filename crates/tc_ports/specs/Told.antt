-- What an end tells of its bytes, before a call and after. `None` tells nothing, and stays so.
use Rattle.std.specs.Io.KnownBytes.{Appends}
use Rattle.std.specs.Prelude.{◌≡◌, ℕ, ◌≤◌, List, Option, ◌++◌, length, take, drop, None, Some}

-- the front of a buffer has the first n bytes of what was left, and the rest of that is left then
abbrev pub Gave : Option (List ℕ) → Option (List ℕ) → ℕ → List ℕ → Type 0
Gave None new n buffer = new ≡ None
Gave (Some bytes) new n buffer =
    (n ≤ length bytes) × (take n buffer ≡ take n bytes) × (new ≡ Some (drop n bytes))

-- some bytes were taken after those that were taken before
abbrev pub Took : Option (List ℕ) → Option (List ℕ) → List ℕ → Type 0
Took None new piece = new ≡ None
Took (Some bytes) new piece = new ≡ Some (bytes ++ piece)

-- a prefix of a piece was taken after what was taken before
abbrev pub TookPart : Option (List ℕ) → Option (List ℕ) → List ℕ → Type 0
TookPart old new piece = (k : ℕ) × (k ≤ length piece) × Took old new (take k piece)

-- at most this many of the bytes that were left are gone, from the front
abbrev pub LostAtMost : Option (List ℕ) → Option (List ℕ) → ℕ → Type 0
LostAtMost None new most = new ≡ None
LostAtMost (Some bytes) new most = (k : ℕ) × (k ≤ most) × (new ≡ Some (drop k bytes))

-- the bytes of a writer, where they are known, grew by a prefix of a piece
abbrev pub AppendsPart : Option (List ℕ) → Option (List ℕ) → List ℕ → Type 0
AppendsPart old new piece = (k : ℕ) × (k ≤ length piece) × Appends old new (take k piece)
