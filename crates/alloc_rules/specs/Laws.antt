-- What each act does, by the kind of its part: the statements that the law stands on.
use Rattle.std.specs.Prelude.{◌≡◌, ℕ, ◌+◌, ◌^◌, ◌<◌, ◌≤◌, ◌/◌, false, List, length, find, Some, slice_get, slice_set}
use Rattle.tc_units.specs.Units.{page_bytes}
use Rattle.tc_units.specs.declared.spans.ClassRow.{ClassRow}
use Rattle.tc_units.specs.declared.spans.SpanRef.{SpanRef}
use Rattle.tc_units.specs.declared.spans.SpanKind.{SpanKind}
use Rattle.tc_units.specs.declared.spans.SpanKind.TheVariants.{Small, Large}
use Rattle.tc_model.specs.declared.calls.Planned.{Planned}
use Rattle.tc_model.specs.declared.answers.CallLine.{CallLine}
use Rattle.tc_model.specs.Limits.{most_picks}
use Rattle.page_map.specs.Spans.{SpanMap, holds}
use Rattle.name_table.specs.declared.table.NameState.{NameState}
use Rattle.central_free.specs.Central.{IsSound, opening}
use Rattle.holdings.specs.Runs.{small}
use Rattle.class_shard.specs.Shard.{Shard}
use Rattle.heap_rules.specs.Heap as heaps
use Rattle.heap_rules.specs.declared.config.HeapConfig.{HeapConfig}
use Rattle.holdings.specs.Books.{Books}
use Rattle.call_steps.specs.declared.step.Step.TheVariants as does
use Rattle.call_steps.specs.declared.step.ShardStep.{ShardStep}
use Rattle.call_steps.specs.declared.step.ShardStep.TheVariants as shard
use Rattle.call_steps.specs.declared.step.HeapStep.{HeapStep}
use Rattle.call_steps.specs.declared.step.MapStep.{MapStep}
use Rattle.call_steps.specs.declared.step.MapStep.TheVariants as map
use Rattle.call_steps.specs.declared.step.NamesStep.{NamesStep}
use Rattle.call_steps.specs.Local.{Local, class_row}
use Rattle.call_steps.specs.Calls.{About}
use Rattle.call_steps.specs.Acts.{shard_after, heap_after, map_after, names_after, waits_for, front_after}
use Rattle.call_steps.specs.Fits.{FitsNames, FitsShard, FitsHeap, FitsMap}
use Rattle.call_steps.specs.Shapes.{AreRows}
use Rattle.alloc_rules.specs.Standings.{Standing, standing_of}
use Rattle.alloc_rules.specs.Shapes.{IsShaped}
use Rattle.alloc_rules.specs.FrontLaw.{IsAct}
use Rattle.call_steps.specs.Fronts.{FrontRules}
use Rattle.alloc_rules.specs.Machine.{Parts}
use Rattle.alloc_rules.specs.Stocks.{Does}
use Rattle.alloc_rules.specs.Acts.{setup, IsBefore}

-- the first page of a new span is a number of 32 bits
abbrev pub IsLowRun : {R : Type 0} → ShardStep R → Type 0
IsLowRun (shard.AddFetch a run) = run.first.0 < 2 ^ 32
IsLowRun other = Unit {0}

-- a new span brings an object at least
abbrev pub AddsSome : {V R : Type 0} → List ClassRow → Shard → Local V R → ShardStep R → Type 0
AddsSome rows s l (shard.AddFetch a run) = 0 < length (opening (small l.regs.class run) s.central.row.size (class_row rows l).batch)
AddsSome rows s l other = Unit {0}

-- a span that is found is of a class of the table, or of a large block
abbrev pub IsKindThere : List ClassRow → SpanKind → Type 0
IsKindThere rows Large = Unit {0}
IsKindThere rows (Small k) = k.0 < length rows

abbrev pub IsFoundClass : {R : Type 0} → List ClassRow → SpanMap → MapStep R → Type 0
IsFoundClass rows x (map.Lookup label addr) = (span : SpanRef) → find (holds (addr.0 / page_bytes)) x.spans ≡ Some span → IsKindThere rows span.kind
IsFoundClass rows x other = Unit {0}

module _ {P V R : Type 0} (r : FrontRules P V R) (about : R → About) (planned : Planned → Type 0) (Holds : ℕ → List P → List (Standing V R) → Type 0) where
  -- An act elsewhere leaves the local its shape, and the front-end's invariant holds of the thread as it stands then.
  pub record IsKept (t : ℕ) (l new : Local V R) : Type 0 where
    pub shaped : IsShaped r.calls.rows about planned t new
    pub stands : (n : ℕ) (ps : List P) (us : List (Standing V R)) → Holds n ps (slice_set us t (standing_of l)) → Holds n ps (slice_set us t (standing_of new))

  abbrev pub ShardActsKeep : Type 0
  ShardActsKeep = (t : ℕ) (s : Shard) (l : Local V R) (row : ShardStep R) → AreRows r.calls.rows → IsShaped r.calls.rows about planned t l
      → l.step ≡ does.Shard row → IsSound s.central → s.central.row ≡ class_row r.calls.rows l → IsLowRun row → FitsShard r.calls.rows s l (does.Shard row)
      → IsKept t l (shard_after r.calls s l (does.Shard row)).1

  abbrev pub HeapActsKeep : Type 0
  HeapActsKeep = (t : ℕ) (h : heaps.Heap) (l : Local V R) (row : HeapStep R) → AreRows r.calls.rows → IsShaped r.calls.rows about planned t l
      → l.step ≡ does.Heap row → FitsHeap r.calls.rows h l (does.Heap row) → IsKept t l (heap_after r.calls h l (does.Heap row)).1

  abbrev pub MapActsKeep : Type 0
  MapActsKeep = (t : ℕ) (x : SpanMap) (l : Local V R) (row : MapStep R) → AreRows r.calls.rows → IsShaped r.calls.rows about planned t l
      → l.step ≡ does.Map row → FitsMap x l (does.Map row) → IsFoundClass r.calls.rows x row → IsKept t l (map_after r.calls x l (does.Map row)).1

  abbrev pub NamesActsKeep : Type 0
  NamesActsKeep = (t : ℕ) (names : List NameState) (l : Local V R) (row : NamesStep) → AreRows r.calls.rows → IsShaped r.calls.rows about planned t l
      → l.step ≡ does.Names row → FitsNames {R = R} names (does.Names row) → IsKept t l (names_after r.calls names l (does.Names row)).1

  -- An act of the front-end does too, and its own parts are as it leaves them.
  pub record FrontKept (n t : ℕ) (ps : List P) (us : List (Standing V R)) (l : Local V R) (p : P) (row : R) : Type 0 where
    pub shaped : IsShaped r.calls.rows about planned t (front_after r about p l (does.Front row)).1
    pub stands : Holds (n + 1) (slice_set ps (r.place l.seat l.regs row) (front_after r about p l (does.Front row)).0) (slice_set us t (standing_of (front_after r about p l (does.Front row)).1))

  abbrev pub FrontActsKeep : Type 0
  FrontActsKeep = (n t : ℕ) (ps : List P) (us : List (Standing V R)) (l : Local V R) (p : P) (row : R) → AreRows r.calls.rows
      → IsShaped r.calls.rows about planned t l → l.step ≡ does.Front row → n ≤ most_picks → l.acts ≤ n → Holds n ps us
      → slice_get us t ≡ Some (standing_of l) → slice_get ps (r.place l.seat l.regs row) ≡ Some p → FrontKept n t ps us l p row

-- What acts do to the books.
module _ {P V R : Type 0} (r : FrontRules P V R) (about : R → About) (planned : Planned → Type 0) where
  -- The acts at the front-end's parts:
  abbrev pub FrontActsMove : Type 0
  FrontActsMove = (huge labels : ℕ) (limits : HeapConfig) (p : Parts P) (locals : List (Local V R)) (b : Books) (calls : List CallLine) (t : ℕ) (l : Local V R) (i : ℕ) (q : P) (row : R)
      → IsBefore r about planned huge labels limits p locals b calls t l → l.step ≡ does.Front row → slice_get p.fronts i ≡ Some q
      → IsAct r about q l.regs row (r.acts q l.seat l.regs row)
      → Does r about (setup r huge labels) (record p { fronts = slice_set p.fronts i (front_after r about q l (does.Front row)).0 }) b l (front_after r about q l (does.Front row)).1

  -- at the shard of the thread's class, which the act fits
  abbrev pub ShardActsMove : Type 0
  ShardActsMove = (huge labels : ℕ) (limits : HeapConfig) (p : Parts P) (locals : List (Local V R)) (b : Books) (calls : List CallLine) (t : ℕ) (l : Local V R) (x : Shard) (row : ShardStep R)
      → IsBefore r about planned huge labels limits p locals b calls t l → l.step ≡ does.Shard row → slice_get p.shards l.regs.class.0 ≡ Some x
      → Does r about (setup r huge labels) (record p { shards = slice_set p.shards l.regs.class.0 (shard_after r.calls x l (does.Shard row)).0 }) b l (shard_after r.calls x l (does.Shard row)).1

  abbrev pub ShardActsFit : Type 0
  ShardActsFit = (huge labels : ℕ) (limits : HeapConfig) (p : Parts P) (locals : List (Local V R)) (b : Books) (calls : List CallLine) (t : ℕ) (l : Local V R) (x : Shard) (row : ShardStep R)
      → IsBefore r about planned huge labels limits p locals b calls t l → l.step ≡ does.Shard row → slice_get p.shards l.regs.class.0 ≡ Some x
      → FitsShard r.calls.rows x l (does.Shard row)

  -- and at the heap, the map and the names
  abbrev pub HeapActsMove : Type 0
  HeapActsMove = (huge labels : ℕ) (limits : HeapConfig) (p : Parts P) (locals : List (Local V R)) (b : Books) (calls : List CallLine) (t : ℕ) (l : Local V R) (row : HeapStep R)
      → IsBefore r about planned huge labels limits p locals b calls t l → l.step ≡ does.Heap row → FitsHeap r.calls.rows p.heap l (does.Heap row)
      → Does r about (setup r huge labels) (record p { heap = (heap_after r.calls p.heap l (does.Heap row)).0 }) b l (heap_after r.calls p.heap l (does.Heap row)).1

  abbrev pub MapActsMove : Type 0
  MapActsMove = (huge labels : ℕ) (limits : HeapConfig) (p : Parts P) (locals : List (Local V R)) (b : Books) (calls : List CallLine) (t : ℕ) (l : Local V R) (row : MapStep R)
      → IsBefore r about planned huge labels limits p locals b calls t l → l.step ≡ does.Map row → FitsMap p.map l (does.Map row)
      → Does r about (setup r huge labels) (record p { map = (map_after r.calls p.map l (does.Map row)).0 }) b l (map_after r.calls p.map l (does.Map row)).1

  abbrev pub NamesActsMove : Type 0
  NamesActsMove = (huge labels : ℕ) (limits : HeapConfig) (p : Parts P) (locals : List (Local V R)) (b : Books) (calls : List CallLine) (t : ℕ) (l : Local V R) (row : NamesStep)
      → IsBefore r about planned huge labels limits p locals b calls t l → l.step ≡ does.Names row → FitsNames {R = R} p.names (does.Names row)
      → waits_for {R = R} p.names (does.Names row) ≡ false
      → Does r about (setup r huge labels) (record p { names = (names_after r.calls p.names l (does.Names row)).0 }) b l (names_after r.calls p.names l (does.Names row)).1
