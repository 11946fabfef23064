-- What the rows of calls are about.
use Rattle.std.specs.Prelude.{Option, Some, None}
use Rattle.tc_model.specs.declared.calls.Call.{Call}
use Rattle.tc_model.specs.declared.calls.Call.TheVariants.{Malloc, Free}
use Rattle.call_steps.specs.declared.step.Asking.{Asking}
use Rattle.call_steps.specs.declared.step.Serving.{Serving}
use Rattle.call_steps.specs.declared.step.Freeing.{Freeing}
use Rattle.call_steps.specs.declared.step.Giving.{Giving}
use Rattle.call_steps.specs.declared.step.Giving.TheVariants as giving
use Rattle.call_steps.specs.declared.step.Onward.{Onward}
use Rattle.call_steps.specs.declared.step.Onward.TheVariants as onward

-- What a row is about that may have objects in hand: an allocation that isn't decided, one that is to be published, a free
-- that isn't decided, or a call without a label, with that call while it isn't decided.
pub data About : Type 0 where
  Asks : Asking → About
  Publishes : Serving → About
  Frees : Freeing → About
  Other : Option Call → About

-- what is given away, and what comes then, by what the rows of the front-end are about
abbrev pub about_giving : {R : Type 0} → (R → About) → Giving R → About
about_giving about (giving.Rest s) = Publishes s
about_giving about (giving.Freed f) = Frees f
about_giving about (giving.Row k row) = about row
about_giving about giving.End = Other None

abbrev pub about_onward : {R : Type 0} → (R → About) → Onward R → About
about_onward about (onward.Publish s) = Publishes s
about_onward about (onward.Row k row) = about row
about_onward about onward.End = Other None

-- a call without a label
abbrev pub HasNoLabel : About → Type 0
HasNoLabel (Other o) = Unit {0}
HasNoLabel about = ⊥

-- the call that a row is about, while it isn't decided
abbrev pub call_about : About → Option Call
call_about (Asks a) = Some (Malloc a.label a.size)
call_about (Publishes s) = None
call_about (Frees f) = Some (Free f.label)
call_about (Other o) = o
