-- What a load from the system's files says of the file that was opened.
use Rattle.std.specs.Prelude.{◌≡◌, ℕ, ◌<◌, ◌⊎◌, List, Option, length, ⊤, None, Some, Ok, Err, Result, IfSome, Vec}
use Rattle.std.specs.Global.{Global}
use Rattle.tc_ports.specs.declared.whole.ReadAllFault.{ReadAllFault}
use Rattle.tc_ports.specs.declared.whole.ReadAllFault.TheVariants as read
use Rattle.tc_ports.specs.declared.shelf.LoadFault.{LoadFault}
use Rattle.tc_ports.specs.declared.shelf.LoadFault.TheVariants.{Failed, Missing, TooLong, Memory}

-- the fault of a load whose file could not be read to its end
abbrev pub load_fault : ReadAllFault → LoadFault
load_fault read.ReadFault = Failed
load_fault read.TooLong = TooLong
load_fault read.Memory = Memory

-- bytes that were known at first are known
abbrev pub StaysKnown : Option (List ℕ) → Option (List ℕ) → Type 0
StaysKnown None now = ⊤
StaysKnown (Some bytes) None = ⊥
StaysKnown (Some bytes) (Some rest) = ⊤

-- the bytes now, if they were known at first
abbrev pub known_since : Option (List ℕ) → Option (List ℕ) → Option (List ℕ)
known_since None now = None
known_since (Some bytes) now = now

-- what is answered over a file whose bytes are known: just these, or that there are more than the limit
abbrev pub IsLoadOf : Option (List ℕ) → ℕ → Result (Vec ℕ Global) LoadFault → Type 0
IsLoadOf known limit (Ok loaded) = IfSome known (λ bytes. loaded.items ≡ bytes)
IsLoadOf known limit (Err Failed) = ⊤
IsLoadOf known limit (Err Missing) = ⊥
IsLoadOf known limit (Err TooLong) = IfSome known (λ bytes. limit < length bytes)
IsLoadOf known limit (Err Memory) = ⊤

-- the call failed, or a file was opened and this is answered over its bytes
abbrev pub Loads : {F : Type 0} → (F → Option (List ℕ)) → ℕ → Result (Vec ℕ Global) LoadFault → Type 0
Loads {F} known limit result = (result ≡ Err Failed) ⊎ ((file : F) × IsLoadOf (known file) limit result)
