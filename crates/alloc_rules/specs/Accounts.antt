-- The account of a thread: what its local has in hand and is about to do.
use Rattle.std.specs.Prelude.{List, [], ◌∷◌, drop, map, take}
use Rattle.tc_units.specs.declared.units.Class.{Class}
use Rattle.tc_units.specs.declared.spans.Run.{Run}
use Rattle.tc_units.specs.declared.spans.SpanRef.{SpanRef}
use Rattle.holdings.specs.Runs.{run_of, large, small}
use Rattle.holdings.specs.Accounts.{Account}
use Rattle.call_steps.specs.declared.step.Step.{Step}
use Rattle.call_steps.specs.declared.step.Step.TheVariants as does
use Rattle.call_steps.specs.declared.step.ShardStep.TheVariants as shard
use Rattle.call_steps.specs.declared.step.HeapStep.TheVariants as heap
use Rattle.call_steps.specs.declared.step.MapStep.TheVariants as mapped
use Rattle.call_steps.specs.Local.{Local}
use Rattle.call_steps.specs.Calls.{About}
use Rattle.call_steps.specs.Rows.{step_rule}

-- the live runs that it holds off the map
abbrev pub off_of : {R : Type 0} → List SpanRef → Step R → List Run
off_of freed (does.Heap (heap.GiveBack label run)) = run ∷ []
off_of freed (does.Heap (heap.FreeSpan next)) = map run_of (take 1 freed)
off_of freed (does.Map (mapped.Set label run)) = run ∷ []
off_of freed (does.Map (mapped.SetSpan a run)) = run ∷ []
off_of freed other = []

-- the spans of classes that it holds, and those of them that the map has
abbrev pub apart_of : {R : Type 0} → Class → List SpanRef → Step R → List SpanRef
apart_of class freed (does.Shard (shard.AddFetch a run)) = small class run ∷ []
apart_of class freed (does.Heap (heap.FreeSpan next)) = freed
apart_of class freed (does.Map (mapped.SetSpan a run)) = small class run ∷ []
apart_of class freed (does.Map (mapped.ClearSpan next)) = freed
apart_of class freed other = []

abbrev pub mapped_of : {R : Type 0} → Class → List SpanRef → Step R → List SpanRef
mapped_of class freed (does.Shard (shard.AddFetch a run)) = small class run ∷ []
mapped_of class freed (does.Heap (heap.FreeSpan next)) = drop 1 freed
mapped_of class freed (does.Map (mapped.ClearSpan next)) = freed
mapped_of class freed other = []

-- the spans of large blocks that it is to clear
abbrev pub clears_of : {R : Type 0} → Step R → List SpanRef
clears_of (does.Map (mapped.Clear label run)) = large run ∷ []
clears_of other = []

-- what its step is about with a label, its class, its hand, all of these, and the calls behind
abbrev pub account_of : {V R : Type 0} → (R → About) → Local V R → Account
account_of about l =
    record {
      doing = (step_rule l.step).doing about;
      class = l.regs.class.0;
      hand = l.regs.hand.items;
      off = off_of l.freed.items l.step;
      apart = apart_of l.regs.class l.freed.items l.step;
      mapped = mapped_of l.regs.class l.freed.items l.step;
      clears = clears_of l.step;
      todo = l.rest;
    }
