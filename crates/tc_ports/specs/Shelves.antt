-- What a shelf answers for a file, and how its count of faults goes with the answer.
use Rattle.std.specs.Prelude.{◌≡◌, ℕ, ◌<◌, List, Option, length, None, IsSomeAnd}
use Rattle.std.specs.Ordering.{nat_cmp}
use Rattle.std.specs.Cmp.Lexicographic.{slice_cmp}
use Rattle.std.specs.FinMap.{FinMap}
use Rattle.tc_ports.specs.declared.shelf.LoadFault.{LoadFault}
use Rattle.tc_ports.specs.declared.shelf.LoadFault.TheVariants.{Failed, Missing, TooLong, Memory}
use Rattle.tc_ports.specs.Faults.{Rose}

-- from the bytes of names to the bytes of files
abbrev pub Files : Type 0
Files = FinMap (slice_cmp nat_cmp) (List ℕ)

-- a fault that is of the file, and not of the call: it is missing, or longer than the limit
abbrev pub Refused : Option (List ℕ) → ℕ → LoadFault → Type 0
Refused file limit Failed = Unit {0}
Refused file limit Missing = file ≡ None
Refused file limit TooLong = IsSomeAnd file (λ bytes. limit < length bytes)
Refused file limit Memory = Unit {0}

-- only a failed call raises the count of faults
abbrev pub LoadCounted : LoadFault → ℕ → ℕ → Type 0
LoadCounted Failed old new = Rose old new
LoadCounted Missing old new = new ≡ old
LoadCounted TooLong old new = new ≡ old
LoadCounted Memory old new = new ≡ old
