-- What holds of each local by its step, whatever the front-end: its class, its hand, and the spans that it has to give back.
use Rattle.std.specs.Prelude.{◌≡◌, ℕ, ◌+◌, ◌<◌, ◌≤◌, List, [], length, All, Some, None}
use Rattle.tc_units.specs.Classes.{class_of}
use Rattle.tc_units.specs.declared.units.Addr.{Addr}
use Rattle.tc_units.specs.declared.units.Class.{Class}
use Rattle.tc_units.specs.declared.spans.ClassRow.{ClassRow}
use Rattle.tc_model.specs.declared.calls.Planned.{Planned}
use Rattle.rseq_core.specs.declared.regs.Regs.{Regs}
use Rattle.rseq_core.specs.declared.regs.TheConstants.{HAND_ROOM}
use Rattle.rseq_core.specs.Bags.{room}
use Rattle.call_steps.specs.declared.step.Asking.{Asking}
use Rattle.call_steps.specs.declared.step.Giving.{Giving}
use Rattle.call_steps.specs.declared.step.Giving.TheVariants as giving
use Rattle.call_steps.specs.declared.step.Onward.{Onward}
use Rattle.call_steps.specs.declared.step.Onward.TheVariants as onward
use Rattle.call_steps.specs.declared.step.Step.{Step}
use Rattle.call_steps.specs.Local.{Local}
use Rattle.call_steps.specs.Calls.{About, Asks, Publishes, Frees, Other, HasNoLabel}
use Rattle.call_steps.specs.Rows.{InHand, step_rule}
use Rattle.call_steps.specs.Rows as has
use Rattle.call_steps.specs.Shapes.{BeginsWith, most_slots}

-- what an allocation asks for has the registers' class
abbrev pub IsAsked : List ClassRow → Regs → Asking → Type 0
IsAsked rows g a = class_of rows a.size ≡ Some g.class

-- at most so many objects are in hand, with no span to give back
pub record HasHand {V R : Type 0} (most : ℕ) (l : Local V R) : Type 0 where
  pub few : length l.regs.hand.items ≤ most
  pub freed : l.freed.items ≡ []

-- nothing is in hand
pub record HasNone {V R : Type 0} (l : Local V R) : Type 0 where
  pub hand : l.regs.hand.items ≡ []
  pub freed : l.freed.items ≡ []

-- spans are to be given back, and nothing else is in hand
pub record HasSpans {V R : Type 0} (l : Local V R) : Type 0 where
  pub hand : l.regs.hand.items ≡ []
  pub some : 0 < length l.freed.items

-- What is in hand where a row is about this: an allocation that isn't decided has nothing yet, and a free has its object first.
abbrev pub HandAbout : List ClassRow → Regs → About → Type 0
HandAbout rows g (Asks a) = IsAsked rows g a × (g.hand.items ≡ [])
HandAbout rows g (Publishes s) = length g.hand.items ≤ most_slots
HandAbout rows g (Frees f) = BeginsWith f.addr g.hand.items × (length g.hand.items ≤ most_slots)
HandAbout rows g (Other call) = length g.hand.items ≤ most_slots

-- a row that comes once a hand is given away, for a class of the table, is of a call without a label
abbrev pub IsLater : {R : Type 0} → List ClassRow → (R → About) → Class → R → Type 0
IsLater rows about k row = (k.0 < length rows) × HasNoLabel (about row)

-- what is given away, and what comes then
abbrev pub IsGiving : {R : Type 0} → List ClassRow → (R → About) → List Addr → Giving R → Type 0
IsGiving rows about hand (giving.Freed f) = BeginsWith f.addr hand
IsGiving rows about hand (giving.Row k row) = IsLater rows about k row
IsGiving rows about hand other = Unit {0}

abbrev pub IsOnward : {R : Type 0} → List ClassRow → (R → About) → Onward R → Type 0
IsOnward rows about (onward.Row k row) = IsLater rows about k row
IsOnward rows about other = Unit {0}

-- by what the row at its step has in hand
abbrev pub HasInHand : {V R : Type 0} → List ClassRow → (R → About) → Local V R → InHand R → Type 0
HasInHand rows about l has.Nothing = HasNone l
HasInHand rows about l (has.ForClass a) = HasNone l × IsAsked rows l.regs a
HasInHand rows about l (has.ForPages size) = HasNone l × (class_of rows size ≡ None)
HasInHand rows about l (has.Gives g) = HasHand most_slots l × IsGiving rows about l.regs.hand.items g
HasInHand rows about l (has.GivesSpans next) = HasSpans l × IsOnward rows about next
HasInHand rows about l (has.OfFront row) = HandAbout rows l.regs (about row) × (l.freed.items ≡ [])

abbrev pub StepShape : {V R : Type 0} → List ClassRow → (R → About) → Local V R → Step R → Type 0
StepShape rows about l s = HasInHand rows about l (step_rule s).hand

-- A local of thread t: its registers are the thread's, its class is there, its bags have their room, the calls behind are as
-- the front-end takes them, and its step has its shape.
pub record IsShaped {V R : Type 0} (rows : List ClassRow) (about : R → About) (planned : Planned → Type 0) (t : ℕ) (l : Local V R) : Type 0 where
  pub thread : l.regs.thread.0 ≡ t
  pub class : l.regs.class.0 < length rows
  pub hand : room l.regs.hand ≡ HAND_ROOM
  pub freed : length l.freed.items + l.freed.spare ≡ HAND_ROOM
  pub rest : All planned l.rest
  pub step : StepShape rows about l l.step
