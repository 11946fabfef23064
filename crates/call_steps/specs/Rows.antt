-- The rows of the calls, in one table, which all that speaks of a step reads: of which call it is while that isn't decided, what
-- that is about with its label, what is in hand, and whether it may tell that there is no room. The part is in the step's name;
-- rows of a front-end's own are in its table.
use Rattle.std.specs.Prelude.{◌≡◌, ℕ, Bool, true, false, Option, Some, None}
use Rattle.tc_model.specs.declared.calls.Call.{Call}
use Rattle.tc_model.specs.declared.calls.Call.TheVariants.{Malloc, Free, Release}
use Rattle.holdings.specs.Runs.{address_of}
use Rattle.holdings.specs.Accounts as does
use Rattle.holdings.specs.Accounts.{Doing}
use Rattle.call_steps.specs.declared.step.Asking.{Asking}
use Rattle.call_steps.specs.declared.step.Giving.{Giving}
use Rattle.call_steps.specs.declared.step.Onward.{Onward}
use Rattle.call_steps.specs.declared.step.Step.{Step}
use Rattle.call_steps.specs.declared.step.Step.TheVariants as step
use Rattle.call_steps.specs.declared.step.ShardStep.TheVariants.{Fetch, AddFetch, Give}
use Rattle.call_steps.specs.declared.step.HeapStep.TheVariants.{New, NewSpan, GiveBack, FreeSpan, Unback}
use Rattle.call_steps.specs.declared.step.MapStep.TheVariants.{Set, SetSpan, Lookup, Clear, ClearSpan}
use Rattle.call_steps.specs.declared.step.NamesStep.TheVariants.{Publish, Take}
use Rattle.call_steps.specs.Calls.{About, Asks, Publishes, Frees, Other, about_giving, about_onward, call_about}

-- What is in hand: nothing, and then the class may be that of what is asked for, or there is none; objects that are given away,
-- and what comes then; spans to give back, and what comes then; or what a row of the front-end has.
pub data InHand (R : Type 0) : Type 0 where
  Nothing : InHand R
  ForClass : Asking → InHand R
  ForPages : ℕ → InHand R
  Gives : Giving R → InHand R
  GivesSpans : Onward R → InHand R
  OfFront : R → InHand R

-- a row, by what the front-end's rows are about
pub record StepRule (R : Type 0) : Type 0 where
  pub call : (R → About) → Option Call
  pub doing : (R → About) → Doing
  pub hand : InHand R
  pub refuses : Bool

-- what is about this has this label and these addresses
abbrev pub doing_about : About → Doing
doing_about (Asks a) = does.Asks a.label a.size
doing_about (Publishes s) = does.Publishes s.label (Some s.addr)
doing_about (Frees f) = does.Frees f.label f.addr
doing_about (Other call) = does.Other

-- a row that is about what rows of the front-end may be about, and one that is not
abbrev pub about_rule : {R : Type 0} → ((R → About) → About) → InHand R → StepRule R
about_rule what hand = record { call = λ about. call_about (what about); doing = λ about. doing_about (what about); hand = hand; refuses = false }

abbrev pub plain_rule : {R : Type 0} → Option Call → Doing → InHand R → StepRule R
plain_rule call doing hand = record { call = λ about. call; doing = λ about. doing; hand = hand; refuses = false }

-- and one that may tell that there is no room
abbrev pub or_no_room : {R : Type 0} → StepRule R → StepRule R
or_no_room r = record r { refuses = true }

abbrev pub step_rule : {R : Type 0} → Step R → StepRule R
step_rule (step.Front row) = about_rule (λ about. about row) (OfFront row)
step_rule (step.Shard (Fetch a)) = about_rule (λ about. Asks a) (ForClass a)
step_rule (step.Shard (AddFetch a run)) = about_rule (λ about. Asks a) (ForClass a)
step_rule (step.Shard (Give g)) = about_rule (λ about. about_giving about g) (Gives g)
step_rule (step.Heap (New label size)) = or_no_room (plain_rule (Some (Malloc label size)) (does.Asks label size) (ForPages size))
step_rule (step.Heap (NewSpan a)) = or_no_room (about_rule (λ about. Asks a) (ForClass a))
step_rule (step.Heap (GiveBack label run)) = plain_rule (Some (Free label)) (does.Holds label (address_of run)) Nothing
step_rule (step.Heap (FreeSpan next)) = about_rule (λ about. about_onward about next) (GivesSpans next)
step_rule (step.Heap (Unback pages)) = plain_rule (Some (Release pages)) does.Other Nothing
step_rule (step.Map (Set label run)) = plain_rule None (does.Publishes label (Some (address_of run))) Nothing
step_rule (step.Map (SetSpan a run)) = about_rule (λ about. Asks a) (ForClass a)
step_rule (step.Map (Lookup label addr)) = plain_rule (Some (Free label)) (does.Holds label addr) Nothing
step_rule (step.Map (Clear label run)) = plain_rule (Some (Free label)) (does.Holds label (address_of run)) Nothing
step_rule (step.Map (ClearSpan next)) = about_rule (λ about. about_onward about next) (GivesSpans next)
step_rule (step.Names (Publish label value)) = plain_rule None (does.Publishes label value) Nothing
step_rule (step.Names (Take label)) = plain_rule (Some (Free label)) (does.Takes label) Nothing
step_rule step.Ended = plain_rule None does.Other Nothing

-- the call under way, while it isn't decided
abbrev pub undecided : {R : Type 0} → (R → About) → Step R → Option Call
undecided about s = (step_rule s).call about

-- how many calls are under way and decided
abbrev pub without_call : Option Call → ℕ
without_call None = 1
without_call (Some call) = 0

abbrev pub under : {R : Type 0} → (R → About) → Step R → ℕ
under about step.Ended = 0
under about other = without_call (undecided about other)

-- a step is of this call, where it isn't decided
abbrev pub IsOf : {R : Type 0} → (R → About) → Step R → Option Call → Type 0
IsOf about s call = (c : Call) → undecided about s ≡ Some c → call ≡ Some c
