-- How a call goes on with the objects that it has in hand.
use Rattle.std.specs.Prelude.{List, [], ◌∷◌, Some}
use Rattle.tc_units.specs.Bag.{Contents}
use Rattle.tc_units.specs.declared.units.Addr.{Addr}
use Rattle.tc_units.specs.declared.spans.SpanRef.{SpanRef}
use Rattle.tc_model.specs.declared.calls.Call.TheVariants.{Malloc, Free}
use Rattle.tc_model.specs.declared.answers.Answer.TheVariants.{Block, Freed}
use Rattle.rseq_core.specs.declared.regs.Regs.{Regs}
use Rattle.rseq_core.specs.Bags.{emptied, without_first}
use Rattle.call_steps.specs.declared.step.Asking.{Asking}
use Rattle.call_steps.specs.declared.step.Serving.{Serving}
use Rattle.call_steps.specs.declared.step.Giving.{Giving}
use Rattle.call_steps.specs.declared.step.Onward.{Onward}
use Rattle.call_steps.specs.declared.step.Giving.TheVariants as giving
use Rattle.call_steps.specs.declared.step.Onward.TheVariants as onward
use Rattle.call_steps.specs.declared.step.Step.{Step}
use Rattle.call_steps.specs.declared.step.Step.TheVariants as step
use Rattle.call_steps.specs.declared.step.ShardStep.TheVariants as shard
use Rattle.call_steps.specs.declared.step.MapStep.TheVariants as map
use Rattle.call_steps.specs.declared.step.NamesStep.TheVariants as names
use Rattle.call_steps.specs.Fronts.{FrontCalls}
use Rattle.call_steps.specs.Local.{Local, step_or, decided, goes, ends, class_row}

-- a local with another hand
abbrev pub with_hand : {V R : Type 0} → Local V R → Contents Addr → Local V R
with_hand l hand = record l { regs = record l.regs { hand = hand } }

-- an allocation publishes its object
abbrev pub publishes : {V R : Type 0} → Local V R → Serving → Local V R
publishes l s = goes l (step.Names (names.Publish s.label (Some s.addr)))

-- with what it fetched besides it stocks the front-end first
abbrev pub stock_step : {V R : Type 0} → FrontCalls V R → V → Serving → List Addr → Step R
stock_step e v s [] = step.Names (names.Publish s.label (Some s.addr))
stock_step e v s (a ∷ others) = step_or (step.Shard (shard.Give (giving.Rest s))) (e.rest v s)

abbrev pub stock_regs : {V R : Type 0} → FrontCalls V R → Regs → List Addr → Regs
stock_regs e r [] = r
stock_regs e r (a ∷ others) = e.to_rest r

-- An allocation is decided by the objects that came to its hand: the first is its answer, and the others stock the front-end.
abbrev pub serves_first : {V R : Type 0} → FrontCalls V R → Local V R → Asking → List Addr → Local V R
serves_first e l asking [] = l
serves_first e l asking (a ∷ others) =
    let block = Block a (class_row e.rows l).size in
    let answered = decided (with_hand l (without_first 1 l.regs.hand)) (Malloc asking.label asking.size) block in
    let next = stock_step e l.seat (record { label = asking.label; addr = a }) others in
    goes (record answered { regs = stock_regs e answered.regs others }) next

abbrev pub serves : {V R : Type 0} → FrontCalls V R → Local V R → Asking → Local V R
serves e l asking = serves_first e l asking l.regs.hand.items

-- How a call goes on with these spans left to give back, or none.
abbrev pub clears : {V R : Type 0} → FrontCalls V R → Local V R → Onward R → List SpanRef → Local V R
clears e l next (s ∷ others) = goes l (step.Map (map.ClearSpan next))
clears e l (onward.Publish s) [] = publishes l s
clears e l (onward.Row k row) [] = goes (record l { regs = record l.regs { class = k } }) (step.Front row)
clears e l onward.End [] = ends e l

-- The hand was given, which decides a free, with these spans left to give back.
abbrev pub gave : {V R : Type 0} → FrontCalls V R → Local V R → Giving R → List SpanRef → Local V R
gave e l (giving.Rest s) spans = clears e l (onward.Publish s) spans
gave e l (giving.Freed f) spans = clears e (decided l (Free f.label) (Freed f.addr)) onward.End spans
gave e l (giving.Row k row) spans = clears e l (onward.Row k row) spans
gave e l giving.End spans = clears e l onward.End spans

-- it was given to the shard, which these spans left
abbrev pub given_back : {V R : Type 0} → FrontCalls V R → Local V R → Giving R → Contents SpanRef → Local V R
given_back e l g freed = gave e (record (with_hand l (emptied l.regs.hand)) { freed = freed }) g freed.items
