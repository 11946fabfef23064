-- What reading a whole source says of a refusal.
use Rattle.std.specs.Prelude.{◌≡◌, ℕ, ◌+◌, ◌<◌, List, Option, length, drop, None, Some}
use Rattle.tc_ports.specs.declared.whole.ReadAllFault.{ReadAllFault}
use Rattle.tc_ports.specs.declared.whole.ReadAllFault.TheVariants.{ReadFault, TooLong, Memory}
use Rattle.tc_ports.specs.Faults.{Rose}
use Rattle.tc_ports.specs.Told.{LostAtMost}

-- only a read that failed raises the count of faults
abbrev pub ReadAllCounted : ReadAllFault → ℕ → ℕ → Type 0
ReadAllCounted ReadFault old new = Rose old new
ReadAllCounted TooLong old new = new ≡ old
ReadAllCounted Memory old new = new ≡ old

-- more bytes than the limit were left, and the limit and one more are gone
abbrev pub PassedLimit : Option (List ℕ) → Option (List ℕ) → ℕ → Type 0
PassedLimit None new limit = new ≡ None
PassedLimit (Some bytes) new limit =
    (limit < length bytes) × (new ≡ Some (drop (limit + 1) bytes))

-- what a refusal leaves: where it is that of the limit, the limit was passed; else no more than the limit is gone
abbrev pub ReadAllRefused : ReadAllFault → Option (List ℕ) → Option (List ℕ) → ℕ → Type 0
ReadAllRefused ReadFault old new limit = LostAtMost old new limit
ReadAllRefused TooLong old new limit = PassedLimit old new limit
ReadAllRefused Memory old new limit = LostAtMost old new limit
