-- What comes behind an act of the front-end: how the call under way goes on, is decided or ends.
use Rattle.std.specs.Prelude.{◌≡◌, ◌<◌, Bool, true, List, length, Option, Some, None}
use Rattle.tc_units.specs.declared.spans.ClassRow.{ClassRow}
use Rattle.tc_model.specs.declared.calls.Call.{Call}
use Rattle.tc_model.specs.declared.calls.Call.TheVariants.{Free}
use Rattle.tc_model.specs.declared.answers.Answer.{Answer}
use Rattle.tc_model.specs.declared.answers.Answer.TheVariants.{Freed}
use Rattle.rseq_core.specs.declared.regs.Regs.{Regs}
use Rattle.holdings.specs.Moves.{IsOther}
use Rattle.call_steps.specs.declared.step.Came.{Came}
use Rattle.call_steps.specs.declared.step.Came.TheVariants as came
use Rattle.call_steps.specs.declared.step.Next.{Next}
use Rattle.call_steps.specs.declared.step.Step.{Step}
use Rattle.call_steps.specs.declared.step.Next.TheVariants as next
use Rattle.call_steps.specs.declared.step.Step.TheVariants as step
use Rattle.call_steps.specs.declared.step.ShardStep.TheVariants as shard
use Rattle.call_steps.specs.Fronts.{FrontCalls}
use Rattle.call_steps.specs.Local.{Local, decided, goes, ends}
use Rattle.call_steps.specs.Calls.{About, Asks, Publishes, Frees, Other, about_giving}
use Rattle.call_steps.specs.Refusals.{is_refusal}
use Rattle.call_steps.specs.Hands.{publishes, serves, gave}

-- A call without a label is decided with an answer of its own.
abbrev pub MayDecide : About → Answer → Type 0
MayDecide (Other (Some call)) answer = IsOther call answer
MayDecide about answer = ⊥

-- a row that may come next in a call that was decided
abbrev pub MayGoOnDecided : {R : Type 0} → (R → About) → Option R → Type 0
MayGoOnDecided about None = Unit {0}
MayGoOnDecided about (Some row) = about row ≡ Other None

-- What may come next behind a row, where rows are about these calls and may refuse them so, and registers that serve an
-- allocation are like this: the same call goes on, or it is decided as it may.
abbrev pub ComesWith : {R : Type 0} → (R → About) → (R → Answer → Bool) → (Regs → Type 0) → R → Regs → Next R → Type 0
ComesWith about refuses Serves row r (next.Row to) = about to ≡ about row
ComesWith about refuses Serves row r (next.Serve asking) = (about row ≡ Asks asking) × Serves r
ComesWith about refuses Serves row r (next.Fetch asking) = about row ≡ Asks asking
ComesWith about refuses Serves row r (next.Give g) = about row ≡ about_giving about g
ComesWith about refuses Serves row r (next.Gave g) = about row ≡ about_giving about g
ComesWith about refuses Serves row r (next.Publish s) = about row ≡ Publishes s
ComesWith about refuses Serves row r (next.Freed f) = about row ≡ Frees f
ComesWith about refuses Serves row r (next.Decide answer to) = MayDecide (about row) answer × (is_refusal answer ≡ true → refuses row answer ≡ true) × MayGoOnDecided about to
ComesWith about refuses Serves row r next.End = about row ≡ Other None

-- what comes next, where a row stands behind the act and this was put beside it
abbrev pub next_of : {R : Type 0} → Came → R → Next R → Next R
next_of came.Row row put = next.Row row
next_of came.Next row put = put

-- the row that was done stands unless another one comes
abbrev pub Stays : {R : Type 0} → Came → R → R → Type 0
Stays came.Row old new = Unit {0}
Stays came.Next old new = new ≡ old

-- an object is in hand, of a class of the table
abbrev pub HasObject : List ClassRow → Regs → Type 0
HasObject rows r = (0 < length r.hand.items) × (r.class.0 < length rows)

-- what may come next at a step, which is a row of the front-end
abbrev pub MayFollow : {R : Type 0} → (R → About) → (R → Answer → Bool) → List ClassRow → Step R → Regs → Next R → Type 0
MayFollow about refuses rows (step.Front row) r n = ComesWith about refuses (HasObject rows) row r n
MayFollow about refuses rows other r n = ⊥

-- the call under way is decided, where it isn't
abbrev pub says : {V R : Type 0} → Local V R → Option Call → Answer → Local V R
says l None answer = l
says l (Some call) answer = decided l call answer

-- what comes next in the call under way, which may be undecided
abbrev pub follows : {V R : Type 0} → FrontCalls V R → Local V R → Option Call → Next R → Local V R
follows e l call (next.Row row) = goes l (step.Front row)
follows e l call (next.Serve asking) = serves e l asking
follows e l call (next.Fetch asking) = goes l (step.Shard (shard.Fetch asking))
follows e l call (next.Give g) = goes l (step.Shard (shard.Give g))
follows e l call (next.Gave g) = gave e l g l.freed.items
follows e l call (next.Publish s) = publishes l s
follows e l call (next.Freed f) = ends e (decided l (Free f.label) (Freed f.addr))
follows e l call (next.Decide answer None) = ends e (says l call answer)
follows e l call (next.Decide answer (Some row)) = goes (says l call answer) (step.Front row)
follows e l call next.End = ends e l
