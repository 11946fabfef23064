-- What an act needs of its part, which is the one that its step wants: each condition of a lower call, by the row.
use Rattle.std.specs.Prelude.{◌≡◌, ◌≢◌, ◌<◌, ◌≤◌, ◌*◌, ◌/◌, ◌^◌, List, [], length, find, slice_get, All, Contains, Some, IsSomeAnd}
use Rattle.tc_units.specs.Units.{page_bytes, huge_bytes, pages_holding}
use Rattle.tc_units.specs.declared.spans.Run.{Run}
use Rattle.tc_units.specs.declared.spans.SpanRef.{SpanRef}
use Rattle.tc_units.specs.declared.spans.ClassRow.{ClassRow}
use Rattle.page_map.specs.Spans.{SpanMap, holds, IsInside, AreApart}
use Rattle.name_table.specs.declared.table.NameState.{NameState}
use Rattle.name_table.specs.declared.table.NameState.TheVariants as name
use Rattle.name_table.specs.Names.{state_of}
use Rattle.heap_rules.specs.Heap as heaps
use Rattle.rseq_core.specs.declared.regs.Regs.{Regs}
use Rattle.central_free.specs.Central.{IsTakenIn, AreDifferent, IsApartFrom}
use Rattle.class_shard.specs.Shard.{Shard}
use Rattle.call_steps.specs.declared.step.Step.{Step}
use Rattle.call_steps.specs.declared.step.ShardStep.TheVariants.{Fetch, AddFetch, Give}
use Rattle.call_steps.specs.declared.step.HeapStep.TheVariants.{New, NewSpan, GiveBack, FreeSpan, Unback}
use Rattle.call_steps.specs.declared.step.MapStep.TheVariants.{Set, SetSpan, Lookup, Clear, ClearSpan}
use Rattle.call_steps.specs.declared.step.NamesStep.TheVariants.{Publish, Take}
use Rattle.call_steps.specs.declared.step.Step.TheVariants as step
use Rattle.call_steps.specs.Local.{Local, row_of, class_row}
use Rattle.holdings.specs.Runs.{large, small, run_of}

-- The thread's class is in the table, and there is room in its hand for a batch, which has an object.
pub record FitsBatch (rows : List ClassRow) (r : Regs) : Type 0 where
  pub class : r.class.0 < length rows
  pub some : 0 < (row_of rows r.class).batch
  pub room : (row_of rows r.class).batch ≤ r.hand.spare

-- The step is a row of the front-end and fits its part.
abbrev pub FitsFront : {P V R : Type 0} → (P → V → Regs → R → Type 0) → P → Local V R → Step R → Type 0
FitsFront fits p l (step.Front row) = fits p l.seat l.regs row
FitsFront fits p l other = ⊥

-- It is on the names: a label is published once, and taken once.
abbrev pub FitsNames : {R : Type 0} → List NameState → Step R → Type 0
FitsNames names (step.Names (Publish label value)) = (label.0 < length names) × (state_of names label.0 ≡ name.Unpublished)
FitsNames names (step.Names (Take label)) = (label.0 < length names) × (state_of names label.0 ≢ name.Taken)
FitsNames names other = ⊥

module _ {V R : Type 0} where
  -- A new span is of the shard's class and has no page of another, and what is given was taken from the shard's spans.
  pub record FitsAdd (rows : List ClassRow) (s : Shard) (l : Local V R) (run : Run) : Type 0 where
    pub batch : FitsBatch rows l.regs
    pub pages : run.pages ≡ s.central.row.pages
    pub apart : All (IsApartFrom (small l.regs.class run)) s.central.spans

  pub record FitsGive (s : Shard) (l : Local V R) : Type 0 where
    pub taken : All (IsTakenIn s.central.spans) l.regs.hand.items
    pub different : AreDifferent l.regs.hand.items
    pub room : length l.regs.hand.items ≤ l.freed.spare

  abbrev pub FitsShard : List ClassRow → Shard → Local V R → Step R → Type 0
  FitsShard rows s l (step.Shard (Fetch a)) = FitsBatch rows l.regs × (l.regs.hand.items ≡ [])
  FitsShard rows s l (step.Shard (AddFetch a run)) = FitsAdd rows s l run × (l.regs.hand.items ≡ [])
  FitsShard rows s l (step.Shard (Give g)) = FitsGive s l
  FitsShard rows s l other = ⊥

  -- New asks for pages of 1 to 2^40 bytes, a run that is given back lives, and any number of pages may be unbacked
  abbrev pub FitsHeap : List ClassRow → heaps.Heap → Local V R → Step R → Type 0
  FitsHeap rows heap l (step.Heap (New label size)) = (0 < pages_holding size) × (size ≤ 2 ^ 40)
  FitsHeap rows heap l (step.Heap (NewSpan a)) = (l.regs.class.0 < length rows) × (0 < (class_row rows l).pages)
  FitsHeap rows heap l (step.Heap (GiveBack label run)) = Contains heap.runs run
  FitsHeap rows heap l (step.Heap (FreeSpan next)) = IsSomeAnd (slice_get l.freed.items 0) (λ s. Contains heap.runs (run_of s))
  FitsHeap rows heap l (step.Heap (Unback pages)) = Unit {0}
  FitsHeap rows heap l other = ⊥

  -- A span that is set lies in the arena and meets no span, one that is looked up is there, and so is one that is cleared.
  abbrev pub FitsMap : SpanMap → Local V R → Step R → Type 0
  FitsMap map l (step.Map (Set label run)) = IsInside map.huge (large run) × All (AreApart (large run)) map.spans
  FitsMap map l (step.Map (SetSpan a run)) = IsInside map.huge (small l.regs.class run) × All (AreApart (small l.regs.class run)) map.spans
  FitsMap map l (step.Map (Lookup label addr)) =
      (span : SpanRef) × (find (holds (addr.0 / page_bytes)) map.spans ≡ Some span) × (addr.0 < 4097 * huge_bytes) × (0 < l.regs.hand.spare)
  FitsMap map l (step.Map (Clear label run)) = Contains map.spans (large run)
  FitsMap map l (step.Map (ClearSpan next)) = IsSomeAnd (slice_get l.freed.items 0) (Contains map.spans)
  FitsMap map l other = ⊥
