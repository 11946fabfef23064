-- Which ends are told, and by what put.
use Rattle.std.proofs.Common.{◌≡◌, ◌⊎◌, ℕ, List, Result, Ok, Err, inl, inr, refl, subst}
use Rattle.std.specs.Prelude.{OnOk, OnErr}
use Rattle.tc_ports.specs.declared.fault.Failed.{Failed}
use Rattle.tc_ports.specs.Faults.{one_more, Rose}
use Rattle.tc_ports.specs.Told.{Took, TookPart}
use Rattle.tc_ports.specs.Ends.{Writing}
use Rattle.tcreplay.specs.declared.outcome.End.{End}
use Rattle.tcreplay.specs.declared.outcome.End.TheVariants.{Done}
use Rattle.tcreplay.specs.Notes.{note_of}
use Rattle.tcreplay.specs.Writes.{TookText, TookPartOf, IsNoted}

-- one put of a piece
pub put_is : (piece : List ℕ) (before after : Writing) (result : Result (Unit {0}) Failed) → OnOk result (Took before.taken after.taken piece)
    → OnErr result (TookPart before.taken after.taken piece) → after.puts ≡ one_more before.puts → OnErr result (Rose before.faults after.faults)
    → OnOk result (after.faults ≡ before.faults) → TookText piece before after ⊎ TookPartOf piece before after
put_is piece before after (Ok u) whole part once cause count = inl (record { taken = whole; once = once; count = count })
put_is piece before after (Err f) whole part once cause count = inr (record { taken = part; once = once; rose = cause })

told : (end : End) (before after : Writing) → (end ≡ Done → ⊥) → TookText (note_of end) before after ⊎ TookPartOf (note_of end) before after → IsNoted end before after
told Done before after other took = absurd (other refl)
told end before after other took = took

pub noted : (end : End) (line : List ℕ) (before after : Writing) → (end ≡ Done → ⊥) → line ≡ note_of end → TookText line before after ⊎ TookPartOf line before after → IsNoted end before after
noted end line before after other is took = told end before after other (subst (λ l. TookText l before after ⊎ TookPartOf l before after) is took)
