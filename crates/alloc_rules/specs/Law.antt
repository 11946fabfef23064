-- What holds of the allocator over any front-end that meets its law, between any two picks, in every order of its threads' picks.
use Rattle.std.specs.Prelude.{◌≡◌, ℕ, ◌+◌, ◌*◌, ◌<◌, ◌≤◌, ◌⊎◌, ◌↔◌, true, false, List, [], ◌∷◌, ◌++◌, length, map, sum_by, All, None, Some, slice_get, slice_set}
use Rattle.tc_units.specs.Units.{page_bytes}
use Rattle.tc_units.specs.Classes.{length_of}
use Rattle.tc_units.specs.declared.units.Addr.{Addr}
use Rattle.tc_units.specs.declared.spans.Run.{Run}
use Rattle.tc_model.specs.declared.answers.CallLine.{CallLine}
use Rattle.tc_model.specs.Blocks.{IsBlockRun, blocks_after, live_bytes}
use Rattle.tc_model.specs.declared.calls.Planned.{Planned}
use Rattle.tc_model.specs.Input.{Asked, script_of}
use Rattle.tc_model.specs.Run.{world_of, run}
use Rattle.tc_model.specs.Sound.{IsOrder, IsSound}
use Rattle.tc_model.specs.Calls.{picks_of, calls_of, AreRising}
use Rattle.tc_model.specs.Replays.{HaveEnded}
use Rattle.tc_model.specs.Serial.{AreThreads, NeverWaits, Rises, Ends}
use Rattle.page_map.specs.Spans.{IsWellFormed}
use Rattle.name_table.specs.declared.table.NameState.TheVariants as name
use Rattle.name_table.specs.Names.{state_of}
use Rattle.class_shard.specs.Shard.{Shard}
use Rattle.heap_rules.specs.Sound as heaps
use Rattle.heap_rules.specs.New.{new, none_fits}
use Rattle.rseq_core.specs.declared.regs.Regs.{Regs}
use Rattle.holdings.specs.Runs.{bit, small, runs_like, runs_at, spans_like, spans_of_run, spans_at, objects_at}
use Rattle.holdings.specs.Accounts.{Account, loose, in_hand, unpublished, untaken, named_at, is_out, is_taken}
use Rattle.holdings.specs.Books.{Books, class_number, over_classes}
use Rattle.holdings.specs.Facts.{IsStanding}
use Rattle.call_steps.specs.declared.step.Step.TheVariants as does
use Rattle.call_steps.specs.Local.{Local, Decided, told}
use Rattle.call_steps.specs.Calls.{About}
use Rattle.call_steps.specs.Rows.{under}
use Rattle.call_steps.specs.Kept.{call_at}
use Rattle.alloc_rules.specs.Machine.{heap_config, Parts, parts_of, place_of, waits, after, rules, turns}
use Rattle.alloc_rules.specs.declared.part.Part.{Part}
use Rattle.tc_model.specs.declared.machine.PartNo.{PartNo}
use Rattle.alloc_rules.specs.Heads.{HasRoom, AreAsMany}
use Rattle.alloc_rules.specs.Told.{lines_by, TellsFirst, TellsScript}
use Rattle.alloc_rules.specs.Accounts.{account_of}
use Rattle.alloc_rules.specs.Stocks.{IsShardOf, stock_of}
use Rattle.alloc_rules.specs.Standings.{Standing, standing_of}
use Rattle.call_steps.specs.Fronts.{FrontRules}
use Rattle.alloc_rules.specs.Fits.{Fits}
use Rattle.alloc_rules.specs.Answers.{AnswersNone, RefusesThere}
use Rattle.alloc_rules.specs.Effects.{ReleasesThere, FindsThere}

-- the calls of a run: those that the picks of an order decided, in their order
abbrev pub calls : {V R : Type 0} → List (Local V R) → List ℕ → List CallLine
calls locals order = calls_of (λ l. l.answers) (λ (d : Decided). d.act) told locals order

-- The decided calls of a local are the first ones of its script: those that ended, and the one under way once it is decided.
-- A local that has ended stands at its script's end.
pub record IsAmong {V R : Type 0} (about : R → About) (script : List Planned) (l : Local V R) : Type 0 where
  pub count : length l.answers ≡ l.ended + under about l.step
  pub each : (j : ℕ) (d : Decided) → slice_get l.answers j ≡ Some d → call_at script j ≡ Some d.call
  pub over : l.step ≡ does.Ended → call_at script l.ended ≡ None

-- The act of thread t's next pick goes on within its call, or ends it, and then no call of it is under way that was decided; it
-- decides at most one call, which is told behind all that was told before, and all that is told is still a run on disjoint blocks.
pub record IsPick {P V R : Type 0} (r : FrontRules P V R) (about : R → About) (asked : Asked) (locals : List (Local V R)) (order : List ℕ) (t : ℕ)
    (l after : Local V R) : Type 0 where
  pub new : List Decided
  pub answers : after.answers ≡ l.answers ++ new
  pub few : length new ≤ 1
  pub ended : (after.ended ≡ l.ended) ⊎ ((after.ended ≡ l.ended + 1) × (under about after.step ≡ 0))
  pub told : calls (slice_set locals t after) (order ++ t ∷ []) ≡ calls locals order ++ map (told t) new
  pub blocks : IsBlockRun asked.config.huge (length_of r.calls.rows) (calls (slice_set locals t after) (order ++ t ∷ []))

-- over all accounts of locals
abbrev pub over_locals : {V R : Type 0} → (R → About) → List (Local V R) → (Account → ℕ) → ℕ
over_locals about locals f = sum_by f (map (account_of about) locals)

module _ {P V R : Type 0} (r : FrontRules P V R) (about : R → About) (Holds : ℕ → List P → List (Standing V R) → Type 0) (asked : Asked) where
  -- all that parts and locals hold
  abbrev pub books_of : Parts P → List (Local V R) → Books
  books_of p locals = record { stock = stock_of r about p; heap = p.heap.runs; spans = p.map.spans; names = p.names; accounts = map (account_of about) locals }

  -- After the picks of an order, each of which moved.
  pub record HoldsAfter (order : List ℕ) : Type 0 where
    pub parts : Parts P
    pub locals : List (Local V R)
    pub is : run (rules r about asked) order ≡ world_of (parts_of r.split parts) locals
    -- there are as many parts, mapped hugepages, names and threads as the front-end, the table and the trace say
    pub counts : AreAsMany r asked parts locals
    -- the decided calls are a run on a set of disjoint blocks, of the requests' rounded lengths
    pub blocks : IsBlockRun asked.config.huge (length_of r.calls.rows) (calls locals order)
    -- each block that stands then is that of a live run that is no span of a class, or an object of that block's length
    pub blocks_are_live : All (IsStanding r.calls.rows (books_of parts locals)) (blocks_after (calls locals order))
    -- and their bytes are among those of the live runs
    pub covered : live_bytes (calls locals order) ≤ sum_by (λ (x : Run). x.pages) parts.heap.runs * page_bytes
    -- each thread's decided calls are the first ones of its script, each once; a call that has ended was decided
    pub decided : (t : ℕ) (l : Local V R) → slice_get locals t ≡ Some l → IsAmong about (script_of t asked.calls) l
    -- the lines that are told of a thread are its decided calls with their answers, each once, in their order
    pub answers_are_told : (t : ℕ) (l : Local V R) → slice_get locals t ≡ Some l → lines_by t (calls locals order) ≡ map (told t) l.answers
    -- so the calls that are told of it are the first ones of its script: those that ended, and the one under way once it is decided
    pub told_first : (t : ℕ) (l : Local V R) → slice_get locals t ≡ Some l → TellsFirst asked t (l.ended + under about l.step) (calls locals order)
    -- and where its script has ended they are its whole script
    pub told_all : (t : ℕ) (l : Local V R) → slice_get locals t ≡ Some l → l.step ≡ does.Ended → TellsScript asked t (calls locals order)
    -- where all scripts have ended, the calls that are told of each thread are its whole script
    pub all_told : HaveEnded (rules r about asked) (run (rules r about asked) order) → (t : ℕ) → t < asked.config.threads → TellsScript asked t (calls locals order)
    -- each local is its thread's
    pub threads : (t : ℕ) (l : Local V R) → slice_get locals t ≡ Some l → l.regs.thread.0 ≡ t
    -- which has done as many acts as it was picked
    pub acts : (t : ℕ) (l : Local V R) → slice_get locals t ≡ Some l → l.acts ≡ picks_of t order
    -- its answers stand in the order of the acts that decided them
    pub rising : (t : ℕ) (l : Local V R) → slice_get locals t ≡ Some l → AreRising (λ (d : Decided). d.act) 0 l.answers
    -- each object of a shard's span is at one place: a hand, a published name, a part of the front-end, a transfer list, its span's free set
    pub object_is_once : (k n : ℕ) → 0 < (stock_of r about parts).objects k n
        → over_locals about locals (λ (a : Account). loose n a.doing + objects_at n a.hand) + sum_by (named_at n) parts.names + over_classes r.calls.rows (λ j. (stock_of r about parts).stored j n) ≡ 1
    -- and the places of a class have no other object
    pub places_have_objects : (k n : ℕ) → over_locals about locals (in_hand k n) + (stock_of r about parts).stored k n ≤ (stock_of r about parts).objects k n
    -- each shard is its class's, with spans that are cut as the class's row says and have a taken object
    pub shard_is_of_class : (k : ℕ) (x : Shard) → slice_get parts.shards k ≡ Some x → IsShardOf r.calls.rows k x
    -- live runs are disjoint, inside the arena and backed, and each hugepage serves what its runs say
    pub heap : heaps.IsSound parts.heap
    -- the heap has the limits that the heads name
    pub config : parts.heap.config ≡ heap_config asked.config
    -- the heap has no run of so many pages to give exactly where, by a look at every place, none fits
    pub none_where_none_fits : (n : ℕ) → 0 < n → (new parts.heap n ≡ None) ↔ (none_fits parts.heap n ≡ true)
    -- an act that asks it for a run answers none exactly there
    pub answers_none : (t : ℕ) (l : Local V R) → slice_get locals t ≡ Some l → AnswersNone r about parts.heap l
    -- an act that releases pages unbacks as many as are asked for, or all that it may, and tells how many
    pub releases_there : (t : ℕ) (l : Local V R) → slice_get locals t ≡ Some l → ReleasesThere r about parts.heap l
    -- an act that fetches misses exactly where the transfer list and the spans of its shard have nothing to give
    pub finds_there : (t : ℕ) (l : Local V R) (x : Shard) → slice_get locals t ≡ Some l → slice_get parts.shards l.regs.class.0 ≡ Some x → FindsThere r about x l
    -- no other act refuses a call
    pub refuses_there : (t : ℕ) (l : Local V R) → slice_get locals t ≡ Some l → RefusesThere r about l
    -- a shard's span, and one that a call holds, begins where a live run does
    pub spans_are_runs : (n : ℕ) → (stock_of r about parts).begins n + over_locals about locals (λ (a : Account). spans_at n a.apart) ≤ runs_at n parts.heap.runs
    -- a live run at whose begin no object lies is at one place: a shard's span, one that a call holds, loose in a hand, or a published name
    pub run_is_once : (n : ℕ) → ((k : ℕ) → (stock_of r about parts).objects k n ≡ 0)
        → over_locals about locals (λ (a : Account). loose n a.doing + spans_at n a.apart) + sum_by (named_at n) parts.names + (stock_of r about parts).begins n ≡ runs_at n parts.heap.runs
    -- no two live runs begin at one page
    pub run_begins_once : (n : ℕ) → runs_at n parts.heap.runs ≤ 1
    -- the page map's spans are disjoint and inside the arena
    pub map_spans_are_apart : IsWellFormed parts.map
    -- they are the live runs, pages and all, but for those between an act that gets and one that sets a run, or that clears and gives it back
    pub map_has_runs : (x : Run) → spans_of_run x parts.map.spans + over_locals about locals (λ (a : Account). runs_like x a.off) ≡ runs_like x parts.heap.runs
    -- of them those of a class are its shard's, pages and all, but for those that a call holds
    pub map_has_spans : (k : ℕ) (x : Run) → (let s = small (class_number k) x in
        (stock_of r about parts).owned s + over_locals about locals (λ (a : Account). spans_like s a.mapped) ≡ spans_like s parts.map.spans)
    -- a published label that isn't taken is null or names an object or a live run
    pub name_is_live : (label : ℕ) (addr : Addr) → state_of parts.names label ≡ name.Published (Some addr)
        → ((k : ℕ) × (0 < (stock_of r about parts).objects k addr.0)) ⊎ (runs_at addr.0 parts.heap.runs ≡ 1)
    -- each label is published once
    pub name_is_published_once : (label : ℕ) → over_locals about locals (unpublished label) + bit (is_out (state_of parts.names label)) ≤ 1
    -- and taken once
    pub name_is_taken_once : (label : ℕ) → over_locals about locals (untaken label) + bit (is_taken (state_of parts.names label)) ≤ 1
    -- each transfer list has the room that the heads name, and no more objects
    pub transfer_has_room : All (λ (x : Shard). HasRoom asked.config.transfer x.transfer) parts.shards
    -- the front-end keeps its own invariant, of its parts and of the threads as it sees them
    pub front : Holds (length order) parts.fronts (map standing_of locals)

-- The laws of the rules: every pair that a pick takes fits; in every run the thread of the earliest call that hasn't ended
-- moves, and where each call has ended each script has; no pick lowers a number of ended calls; what one pick makes of its
-- thread; and what holds between any two picks.
pub record AreLawful {P V R : Type 0} (r : FrontRules P V R) (about : R → About) (asked : Asked) (fits : P → V → Regs → R → Type 0) (After : List ℕ → Type 0) : Type 0 where
  pub sound : IsSound (rules r about asked) (Fits r.calls.rows fits)
  pub threads : AreThreads (rules r about asked) (turns asked)
  pub never_waits : NeverWaits (rules r about asked) (turns asked)
  pub rises : Rises (rules r about asked)
  pub ends : Ends (rules r about asked) (turns asked)
  pub picks : (order : List ℕ) (t : ℕ) (l : Local V R) (place : PartNo) (part : Part P) → IsOrder (rules r about asked) order
      → slice_get (run (rules r about asked) order).locals t ≡ Some l → place_of r about l ≡ Some place
      → slice_get (run (rules r about asked) order).parts place.0 ≡ Some part → waits part l ≡ false
      → IsPick r about asked (run (rules r about asked) order).locals order t l (after r about part l).1
  pub holds : (order : List ℕ) → IsOrder (rules r about asked) order → After order
