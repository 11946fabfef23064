-- The acts of a local, at each kind of part.
use Rattle.std.specs.Prelude.{ℕ, ◌+◌, ◌*◌, ◌/◌, Bool, true, false, List, [], ◌∷◌, find, Option, Some, None, slice_get, slice_set}
use Rattle.std.specs.Option.{option_map_or}
use Rattle.tc_units.specs.Units.{page_bytes, pages_holding}
use Rattle.tc_units.specs.declared.units.Addr.{Addr}
use Rattle.tc_units.specs.declared.units.Label.{Label}
use Rattle.tc_units.specs.declared.spans.SpanRef.{SpanRef}
use Rattle.tc_units.specs.declared.spans.SpanKind.{SpanKind}
use Rattle.tc_units.specs.declared.spans.SpanKind.TheVariants.{Small, Large}
use Rattle.tc_model.specs.declared.calls.Call.TheVariants.{Malloc, Free, Release}
use Rattle.tc_model.specs.declared.answers.Answer.TheVariants.{Block, NoBlock, Freed, FreedNull, Released}
use Rattle.rseq_core.specs.Bags.{appended}
use Rattle.rseq_core.specs.declared.regs.Regs.{Regs}
use Rattle.class_shard.specs.Shard.{Shard, fetched, after_fetch, after_give, freed_by}
use Rattle.page_map.specs.Spans.{SpanMap, holds, with_span, without_span}
use Rattle.name_table.specs.declared.table.NameState.{NameState}
use Rattle.name_table.specs.declared.table.NameState.TheVariants as name
use Rattle.name_table.specs.Names.{state_of}
use Rattle.heap_rules.specs.Heap as heaps
use Rattle.holdings.specs.Runs.{large, small, run_of, address_of}
use Rattle.holdings.specs.Accounts.{is_unpublished}
use Rattle.heap_rules.specs.New.{Placed, new}
use Rattle.heap_rules.specs.Free.{freed}
use Rattle.heap_rules.specs.Release.{release}
use Rattle.call_steps.specs.declared.step.Asking.{Asking}
use Rattle.call_steps.specs.declared.step.Freeing.{Freeing}
use Rattle.call_steps.specs.declared.step.Giving.TheVariants as giving
use Rattle.call_steps.specs.declared.step.Onward.{Onward}
use Rattle.call_steps.specs.declared.step.Step.{Step}
use Rattle.call_steps.specs.declared.step.Step.TheVariants as step
use Rattle.call_steps.specs.declared.step.ShardStep.TheVariants as shard
use Rattle.call_steps.specs.declared.step.HeapStep.TheVariants.{New, NewSpan, GiveBack, FreeSpan, Unback}
use Rattle.call_steps.specs.declared.step.MapStep.TheVariants.{Set, SetSpan, Lookup, Clear, ClearSpan}
use Rattle.call_steps.specs.declared.step.NamesStep.TheVariants.{Publish, Take}
use Rattle.call_steps.specs.Calls.{About, call_about}
use Rattle.call_steps.specs.Fronts.{FrontCalls, FrontRules}
use Rattle.call_steps.specs.Local.{Local, step_or, decided, goes, ends, class_row}
use Rattle.call_steps.specs.Hands.{clears, given_back}
use Rattle.call_steps.specs.ShardActs.{fetches, adds}
use Rattle.call_steps.specs.Follows.{follows}

-- The acts at the shard of the thread's class. A local is at the part that its step wants; at another it does nothing.
abbrev pub shard_after : {V R : Type 0} → FrontCalls V R → Shard → Local V R → Step R → Shard × Local V R
shard_after e s l (step.Shard (shard.Fetch asking)) =
    (after_fetch (class_row e.rows l).batch s, fetches e l asking (fetched (class_row e.rows l).batch s))
shard_after e s l (step.Shard (shard.AddFetch asking run)) = adds e s l asking (small l.regs.class run)
shard_after e s l (step.Shard (shard.Give g)) =
    (after_give l.regs.hand.items s, given_back e l g (appended l.freed (freed_by l.regs.hand.items s)))
shard_after e s l other = (s, l)

-- New decides an allocation: its block is the new run, or there is none.
abbrev pub after_new : {V R : Type 0} → heaps.Heap → Local V R → Label → ℕ → Option Placed → heaps.Heap × Local V R
after_new heap l label size None = (heap, goes (decided l (Malloc label size) NoBlock) (step.Names (Publish label None)))
after_new heap l label size (Some p) = (p.heap, goes (decided l (Malloc label size) (Block (address_of p.run) (p.run.pages * page_bytes))) (step.Map (Set label p.run)))

-- The run of a new span: where there is none, that decides the allocation.
abbrev pub after_new_span : {V R : Type 0} → heaps.Heap → Local V R → Asking → Option Placed → heaps.Heap × Local V R
after_new_span heap l asking None = (heap, goes (decided l (Malloc asking.label asking.size) NoBlock) (step.Names (Publish asking.label None)))
after_new_span heap l asking (Some p) = (p.heap, goes l (step.Map (SetSpan asking p.run)))

-- the first of the spans that left a shard is given back, and the others are left
abbrev pub frees_span : {V R : Type 0} → FrontCalls V R → heaps.Heap → Local V R → Onward R → List SpanRef → heaps.Heap × Local V R
frees_span e heap l next [] = (heap, l)
frees_span e heap l next (s ∷ others) =
    (freed heap (run_of s), clears e (record l { freed = record { items = others; spare = l.freed.spare + 1 } }) next others)

-- the acts at the page heap
abbrev pub heap_after : {V R : Type 0} → FrontCalls V R → heaps.Heap → Local V R → Step R → heaps.Heap × Local V R
heap_after e heap l (step.Heap (New label size)) = after_new heap l label size (new heap (pages_holding size))
heap_after e heap l (step.Heap (NewSpan asking)) = after_new_span heap l asking (new heap (class_row e.rows l).pages)
heap_after e heap l (step.Heap (GiveBack label run)) = (freed heap run, ends e (decided l (Free label) (Freed (address_of run))))
heap_after e heap l (step.Heap (FreeSpan next)) = frees_span e heap l next l.freed.items
heap_after e heap l (step.Heap (Unback pages)) =
    ((release heap pages).heap, ends e (decided l (Release pages) (Released (release heap pages).pages)))
heap_after e heap l other = (heap, l)

-- Lookup finds the span that holds the address: an object is to be pushed, and a large block's span is to be cleared.
abbrev pub found : {V R : Type 0} → FrontCalls V R → Local V R → Label → Addr → SpanRef → SpanKind → Local V R
found e l label addr span (Small k) =
    let f : Freeing = record { label = label; addr = addr } in
    let regs : Regs = e.to_free (record l.regs { class = k; hand = appended l.regs.hand (addr ∷ []) }) in
    goes (record l { regs = regs }) (step_or (step.Shard (shard.Give (giving.Freed f))) (e.free l.seat f))
found e l label addr span Large = goes l (step.Map (Clear label (run_of span)))

-- the acts at the page map: of the spans that left a shard the first is cleared
abbrev pub map_after : {V R : Type 0} → FrontCalls V R → SpanMap → Local V R → Step R → SpanMap × Local V R
map_after e map l (step.Map (Set label run)) =
    (record map { spans = with_span (large run) map.spans }, goes l (step.Names (Publish label (Some (address_of run)))))
map_after e map l (step.Map (SetSpan asking run)) =
    (record map { spans = with_span (small l.regs.class run) map.spans }, goes l (step.Shard (shard.AddFetch asking run)))
map_after e map l (step.Map (Lookup label addr)) =
    (map, option_map_or (λ (s : SpanRef). found e l label addr s s.kind) (find (holds (addr.0 / page_bytes)) map.spans) l)
map_after e map l (step.Map (Clear label run)) =
    (record map { spans = without_span (large run) map.spans }, goes l (step.Heap (GiveBack label run)))
map_after e map l (step.Map (ClearSpan next)) =
    let first = slice_get l.freed.items 0 in
    option_map_or (λ s. (record map { spans = without_span s map.spans }, goes l (step.Heap (FreeSpan next)))) first (map, l)
map_after e map l other = (map, l)

-- Take gives what the label was published with: null decides and ends the free.
abbrev pub after_take : {V R : Type 0} → FrontCalls V R → List NameState → Local V R → Label → NameState → List NameState × Local V R
after_take e names l label name.Unpublished = (names, l)
after_take e names l label name.Taken = (names, l)
after_take e names l label (name.Published None) = (slice_set names label.0 name.Taken, ends e (decided l (Free label) FreedNull))
after_take e names l label (name.Published (Some addr)) = (slice_set names label.0 name.Taken, goes l (step.Map (Lookup label addr)))

-- the acts at the names
abbrev pub names_after : {V R : Type 0} → FrontCalls V R → List NameState → Local V R → Step R → List NameState × Local V R
names_after e names l (step.Names (Publish label value)) = (slice_set names label.0 (name.Published value), ends e l)
names_after e names l (step.Names (Take label)) = after_take e names l label (state_of names label.0)
names_after e names l other = (names, l)

-- A local waits where its next act takes a label that isn't published.
abbrev pub waits_for : {R : Type 0} → List NameState → Step R → Bool
waits_for names (step.Names (Take label)) = is_unpublished (state_of names label.0)
waits_for names other = false

module _ {P V R : Type 0} (r : FrontRules P V R) where
  -- an act of the front-end, with what comes behind it by what its row is about
  module _ (about : R → About) where
    abbrev pub front_after : P → Local V R → Step R → P × Local V R
    front_after p l (step.Front row) =
        let x = r.acts p l.seat l.regs row in
        (x.part, follows r.calls (record l { seat = x.seat; regs = x.regs }) (call_about (about row)) x.next)
    front_after p l other = (p, l)

  -- whether it is polite
  abbrev pub front_yields : P → Local V R → Step R → Bool
  front_yields p l (step.Front row) = r.yields p l.seat l.regs row
  front_yields p l other = true
