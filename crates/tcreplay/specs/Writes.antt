-- What a call writes, and at which ends.
use Rattle.std.specs.Prelude.{◌≡◌, ℕ, ◌⊎◌, List, []}
use Rattle.tc_ports.specs.Faults.{one_more, Rose}
use Rattle.tc_ports.specs.Told.{Took, TookPart}
use Rattle.tc_ports.specs.Ends.{Reading, Shelving, Writing}
use Rattle.tcreplay.specs.declared.outcome.End.{End}
use Rattle.tcreplay.specs.declared.outcome.End.TheVariants.{Done, WriteFault, Full}
use Rattle.tcreplay.specs.Notes.{note_of}
use Rattle.tcreplay.specs.Verdict.{Verdict}

-- all ends of a program, at a moment
pub record Ends : Type 0 where
  pub trace : Reading
  pub files : Shelving
  pub out : Writing
  pub notes : Writing

-- by one put, a sink took a whole text; or that put failed, and it took a part of it
pub record TookText (text : List ℕ) (before after : Writing) : Type 0 where
  pub taken : Took before.taken after.taken text
  pub once : after.puts ≡ one_more before.puts
  pub count : after.faults ≡ before.faults

pub record TookPartOf (text : List ℕ) (before after : Writing) : Type 0 where
  pub taken : TookPart before.taken after.taken text
  pub once : after.puts ≡ one_more before.puts
  pub rose : Rose before.faults after.faults

-- `out` took the whole text where the work is done, and a part of it at a write fault; else it is untouched
abbrev pub IsWritten : End → List ℕ → Writing → Writing → Type 0
IsWritten Done text before after = TookText text before after
IsWritten WriteFault text before after = TookPartOf text before after
IsWritten end text before after = after ≡ before

-- `notes` took the line of every end but `Done`, or a part of it where that put failed
abbrev pub IsNoted : End → Writing → Writing → Type 0
IsNoted Done before after = after ≡ before
IsNoted end before after = TookText (note_of end) before after ⊎ TookPartOf (note_of end) before after

-- a run has ended, or it stands at its limit
abbrev pub IsRunEnd : End → Type 0
IsRunEnd Done = Unit {0}
IsRunEnd (Full ticket) = Unit {0}
IsRunEnd end = ⊥

-- the end of a run stays, unless its text couldn't be written
abbrev pub IsLastEnd : End → End → Type 0
IsLastEnd ran end = (end ≡ ran) ⊎ ((end ≡ WriteFault) × (ran ≡ Done))

-- The answer is the verdict; or something cut the work off before a run; or a text that was to be written wasn't taken.
abbrev pub IsAnswer : Verdict → Type 0 → End → List ℕ → Type 0
IsAnswer verdict cut_off end order =
    ((end ≡ verdict.end) × (order ≡ verdict.order))
    ⊎ (((order ≡ []) × cut_off)
    ⊎ ((end ≡ WriteFault) × (order ≡ verdict.order) × (verdict.end ≡ Done)))
