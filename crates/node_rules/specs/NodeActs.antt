-- That a node's parts are what was asked of them makes of them: what a thread asks, and how it goes on by the reply alone; the
-- acts of a run; and that the run's parts and replies are those of its acts.
use Rattle.std.specs.Prelude.{◌≡◌, ℕ, ◌+◌, ◌*◌, List, [], ◌∷◌, ◌++◌, length, drop, Option, Some, None, option_map, slice_get, slice_set}
use Rattle.std.specs.Option.{option_and_then, option_map_or, option_or, option_to_list}
use Rattle.tc_units.specs.Units.{page_bytes, pages_holding}
use Rattle.tc_units.specs.declared.spans.ClassRow.{ClassRow}
use Rattle.tc_units.specs.declared.spans.SpanRef.{SpanRef}
use Rattle.tc_model.specs.declared.calls.Call.TheVariants.{Malloc, Free, Release}
use Rattle.tc_model.specs.declared.answers.Answer.TheVariants.{Block, NoBlock, Freed, Released}
use Rattle.tc_model.specs.Input.{Input}
use Rattle.tc_model.specs.Run.{Rules, World, start, pick, run}
use Rattle.tc_model.specs.Sound.{IsOrder}
use Rattle.class_shard.specs.Shard.{Shard}
use Rattle.heap_rules.specs.Heap as heaps
use Rattle.page_map.specs.Spans.{SpanMap}
use Rattle.name_table.specs.declared.table.NameState.{NameState}
use Rattle.rseq_core.specs.Bags.{appended}
use Rattle.holdings.specs.Runs.{large, small, run_of, address_of}
use Rattle.call_steps.specs.declared.step.Step.{Step}
use Rattle.call_steps.specs.declared.step.Step.TheVariants as does
use Rattle.call_steps.specs.declared.step.ShardStep.TheVariants as shard
use Rattle.call_steps.specs.declared.step.HeapStep.TheVariants as heap
use Rattle.call_steps.specs.declared.step.MapStep.TheVariants as map
use Rattle.call_steps.specs.declared.step.NamesStep.TheVariants.{Publish}
use Rattle.call_steps.specs.Fronts.{FrontCalls}
use Rattle.call_steps.specs.Local.{Local, class_row, decided, goes, ends}
use Rattle.call_steps.specs.Hands.{serves, given_back, clears}
use Rattle.call_steps.specs.ShardActs.{with_more, fetches}
use Rattle.call_steps.specs.Acts.{found, shard_after, heap_after, map_after}
use Rattle.alloc_rules.specs.FrontLaw.{IsNotOwn}
use Rattle.alloc_rules.specs.Machine.{parts_of, rules}
use Rattle.alloc_rules.specs.Valid.{IsValid}
use Rattle.no_caches.specs.NoCaches.{no_calls, no_caches, about_none}
use Rattle.node_rules.specs.Numa.{NodePart, NodeLocal}
use Rattle.node_rules.specs.OneNode.{Node, empty_node, ShardAsk, Fetch, Add, Give, HeapAsk, New, GiveBack, Unback, MapAsk, Set, Find, Clear}
use Rattle.node_rules.specs.OneNode.{Ask, OfShard, OfHeap, OfMap, Reply, Objects, Left, Got, Pages, Found, shard_answer, heap_answer, map_answer, Made, node}

module _ {V R : Type 0} where
  -- What a thread's next act asks of its class's shard, by its step,
  abbrev pub shard_asked : List ClassRow → Local V R → Step R → Option ShardAsk
  shard_asked rows l (does.Shard (shard.Fetch asking)) = Some (Fetch (class_row rows l).batch)
  shard_asked rows l (does.Shard (shard.AddFetch asking run)) = Some (Add (small l.regs.class run) (class_row rows l).batch)
  shard_asked rows l (does.Shard (shard.Give giving)) = Some (Give l.regs.hand.items)
  shard_asked rows l other = None

  -- of the heap,
  abbrev pub heap_asked : List ClassRow → Local V R → Step R → Option HeapAsk
  heap_asked rows l (does.Heap (heap.New label size)) = Some (New (pages_holding size))
  heap_asked rows l (does.Heap (heap.NewSpan asking)) = Some (New (class_row rows l).pages)
  heap_asked rows l (does.Heap (heap.GiveBack label run)) = Some (GiveBack run)
  heap_asked rows l (does.Heap (heap.FreeSpan next)) = option_map (λ s. GiveBack (run_of s)) (slice_get l.freed.items 0)
  heap_asked rows l (does.Heap (heap.Unback pages)) = Some (Unback pages)
  heap_asked rows l other = None

  -- and of the map.
  abbrev pub map_asked : Local V R → Step R → Option MapAsk
  map_asked l (does.Map (map.Set label run)) = Some (Set (large run))
  map_asked l (does.Map (map.SetSpan asking run)) = Some (Set (small l.regs.class run))
  map_asked l (does.Map (map.Lookup label addr)) = Some (Find addr)
  map_asked l (does.Map (map.Clear label run)) = Some (Clear (large run))
  map_asked l (does.Map (map.ClearSpan next)) = option_map Clear (slice_get l.freed.items 0)
  map_asked l other = None

  -- what it asks, of whichever part: at the names nothing
  abbrev pub asked_by : List ClassRow → Local V R → Option Ask
  asked_by rows l =
      option_or (option_map (OfShard l.regs.class) (shard_asked rows l l.step))
      (option_or (option_map OfHeap (heap_asked rows l l.step)) (option_map OfMap (map_asked l l.step)))

  -- How the thread goes on by the reply alone: it doesn't see the part.
  abbrev pub resumed : FrontCalls V R → Local V R → Step R → Reply → Local V R
  resumed e l (does.Shard (shard.Fetch asking)) (Objects objects) = fetches e l asking objects
  resumed e l (does.Shard (shard.AddFetch asking run)) (Objects objects) = serves e (with_more l objects) asking
  resumed e l (does.Shard (shard.Give giving)) (Left spans) = given_back e l giving (appended l.freed spans)
  resumed e l (does.Heap (heap.New label size)) (Got None) = goes (decided l (Malloc label size) NoBlock) (does.Names (Publish label None))
  resumed e l (does.Heap (heap.New label size)) (Got (Some run)) =
      goes (decided l (Malloc label size) (Block (address_of run) (run.pages * page_bytes))) (does.Map (map.Set label run))
  resumed e l (does.Heap (heap.NewSpan a)) (Got None) = goes (decided l (Malloc a.label a.size) NoBlock) (does.Names (Publish a.label None))
  resumed e l (does.Heap (heap.NewSpan a)) (Got (Some run)) = goes l (does.Map (map.SetSpan a run))
  resumed e l (does.Heap (heap.GiveBack label run)) reply = ends e (decided l (Free label) (Freed (address_of run)))
  resumed e l (does.Heap (heap.FreeSpan next)) reply =
      let others = drop 1 l.freed.items in clears e (record l { freed = record { items = others; spare = l.freed.spare + 1 } }) next others
  resumed e l (does.Heap (heap.Unback pages)) (Pages given) = ends e (decided l (Release pages) (Released given))
  resumed e l (does.Map (map.Set label run)) reply = goes l (does.Names (Publish label (Some (address_of run))))
  resumed e l (does.Map (map.SetSpan asking run)) reply = goes l (does.Shard (shard.AddFetch asking run))
  resumed e l (does.Map (map.Lookup label addr)) (Found span) = option_map_or (λ (s : SpanRef). found e l label addr s s.kind) span l
  resumed e l (does.Map (map.Clear label run)) reply = goes l (does.Heap (heap.GiveBack label run))
  resumed e l (does.Map (map.ClearSpan next)) reply = goes l (does.Heap (heap.FreeSpan next))
  resumed e l step reply = l

  -- What is left of a part and the thread: both as they were where nothing is asked, and else the part as it answers, and the
  -- thread as the reply says.
  abbrev pub left_by : {X A : Type 0} → FrontCalls V R → Local V R → Step R → X → (A → X × Reply) → Option A → X × Local V R
  left_by e l step part answer None = (part, l)
  left_by e l step part answer (Some a) = ((answer a).0, resumed e l step (answer a).1)

  -- An act is what its thread asks, at each kind of part.
  pub record ActsAreAsked (e : FrontCalls V R) : Type 0 where
    pub shard : (s : Shard) (l : Local V R) → shard_after e s l l.step ≡ left_by e l l.step s (shard_answer s) (shard_asked e.rows l l.step)
    pub heap : (h : heaps.Heap) (l : Local V R) → heap_after e h l l.step ≡ left_by e l l.step h (heap_answer h) (heap_asked e.rows l l.step)
    pub map : (m : SpanMap) (l : Local V R) → map_after e m l l.step ≡ left_by e l l.step m (map_answer m) (map_asked l l.step)

-- the shards, the heap and the map of a world are a node's
pub record HasNode (w : World NodePart NodeLocal) (n : Node) : Type 0 where
  pub names : List NameState
  pub is : w.parts ≡ parts_of 0 (record { fronts = []; shards = n.shards; heap = n.heap; map = n.map; names = names })

-- The runs of an input.
module _ (input : Input) where
  abbrev pub node_rules : Rules NodePart NodeLocal
  node_rules = rules (no_caches input.rows) about_none input.asked

  -- what the picks of an order ask from a world on, each what its thread does
  abbrev pub acts_from : World NodePart NodeLocal → List ℕ → List Ask
  acts_from w [] = []
  acts_from w (t ∷ order) = option_to_list (option_and_then (asked_by input.rows) (slice_get w.locals t)) ++ acts_from (pick node_rules w t) order

  -- the acts of a run: what was asked, in order
  abbrev pub acts_of : List ℕ → List Ask
  acts_of order = acts_from (start node_rules) order

  -- The parts of a run are these, and so are the replies to its acts: behind the earlier picks, thread t goes on by the reply
  -- whose place is that of its act, and no other thread changes.
  pub record IsRunOf (order : List ℕ) (made : Made) : Type 0 where
    pub parts : HasNode (run node_rules order) made.parts
    pub many : length made.replies ≡ length (acts_of order)
    pub replies : (earlier : List ℕ) (t : ℕ) (later : List ℕ) (l : NodeLocal) (a : Ask) → earlier ++ t ∷ later ≡ order
        → slice_get (run node_rules earlier).locals t ≡ Some l → asked_by input.rows l ≡ Some a
        → (reply : Reply) × (slice_get made.replies (length (acts_of earlier)) ≡ Some reply)
        × ((run node_rules (earlier ++ t ∷ [])).locals ≡ slice_set (run node_rules earlier).locals t (resumed (no_calls input.rows) l l.step reply))

  -- a valid trace of calls that the allocator without caches takes, and an order of picks that move
  pub record IsNodeRun (order : List ℕ) : Type 0 where
    pub valid : IsValid input.rows IsNotOwn input.asked
    pub moves : IsOrder node_rules order

-- A node's parts are what was asked of them makes of them.
pub record NodeIsItsActs : Type 0 where
  -- each act is what its thread asks
  pub acts : (rows : List ClassRow) → ActsAreAsked (no_calls rows)
  -- so the parts and the replies of a run are those of its acts
  pub runs : (input : Input) (order : List ℕ) → IsNodeRun input order → IsRunOf input order (node input.rows input.asked.config (acts_of input order))
  -- and two runs on nodes that begin alike, whose acts agree, have the same parts and replies, whatever else differs
  pub alone : (one two : Input) (first second : List ℕ) → IsNodeRun one first → IsNodeRun two second
      → empty_node one.rows one.asked.config ≡ empty_node two.rows two.asked.config → acts_of one first ≡ acts_of two second
      → (made : Made) × IsRunOf one first made × IsRunOf two second made
