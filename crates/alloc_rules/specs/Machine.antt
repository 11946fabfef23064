-- The allocator over a front-end as a machine: its parts by their numbers, its start, and its acts.
use Rattle.std.specs.Prelude.{ℕ, ◌+◌, nat_lt, if◌then◌else◌, Bool, true, false, List, [], ◌∷◌, ◌++◌, length, map, replicate, Option, option_map, take, drop}
use Rattle.std.specs.List.{range_with_len}
use Rattle.tc_units.specs.declared.spans.ClassRow.{ClassRow}
use Rattle.tc_model.specs.declared.config.Config.{Config}
use Rattle.tc_model.specs.declared.machine.PartNo.{PartNo}
use Rattle.tc_model.specs.Input.{ThreadCall, script_of, labels_of, Asked}
use Rattle.tc_model.specs.Run.{Rules}
use Rattle.page_map.specs.Spans.{SpanMap}
use Rattle.name_table.specs.declared.table.NameState.{NameState}
use Rattle.name_table.specs.declared.table.NameState.TheVariants as name
use Rattle.heap_rules.specs.declared.config.HeapConfig.{HeapConfig}
use Rattle.heap_rules.specs.Heap as heaps
use Rattle.class_shard.specs.Shard.{Shard}
use Rattle.call_steps.specs.declared.step.Target.{Target}
use Rattle.call_steps.specs.declared.step.Target.TheVariants as target
use Rattle.call_steps.specs.Local.{first_local, Local}
use Rattle.call_steps.specs.Kept.{target_at}
use Rattle.call_steps.specs.Acts.{front_after, front_yields, shard_after, heap_after, map_after, names_after, waits_for}
use Rattle.alloc_rules.specs.declared.part.Part.TheVariants.{Front, Shard as OfClass, Heap, Map, Names}
use Rattle.call_steps.specs.Calls.{About}
use Rattle.alloc_rules.specs.declared.part.Part.{Part}
use Rattle.call_steps.specs.Fronts.{FrontRules}

-- the number of a part that an act is on, where so many parts of the front-end stand before the shards of so many classes
abbrev pub number : ℕ → PartNo
number i = record { 0 = i }

abbrev pub number_of : ℕ → ℕ → Target → PartNo
number_of split classes (target.Front i) = number (if nat_lt i split then i else i + classes + 3)
number_of split classes (target.Shard k) = number (split + k.0)
number_of split classes target.Heap = number (split + classes)
number_of split classes target.Map = number (split + classes + 1)
number_of split classes target.Names = number (split + classes + 2)

-- the limits of the heap of a trace
abbrev pub heap_config : Config → HeapConfig
heap_config config = record { huge = config.huge; cache = config.cache; region = config.region; slack = config.slack; window = config.window }

abbrev pub first_shard : ℕ → ℕ → ClassRow → Shard
first_shard room k row = record { class = record { 0 = k }; transfer = record { objects = []; room = room }; central = record { row = row; spans = [] } }

-- the shards of these rows, which are those of classes from k on
abbrev pub first_shards : ℕ → ℕ → List ClassRow → List Shard
first_shards room k [] = []
first_shards room k (row ∷ rows) = first_shard room k row ∷ first_shards room (k + 1) rows

-- all parts by their types: those of the front-end, the shards by classes, the heap, the map and the names
pub record Parts (P : Type 0) : Type 0 where
  pub fronts : List P
  pub shards : List Shard
  pub heap : heaps.Heap
  pub map : SpanMap
  pub names : List NameState

-- in the order of their numbers: so many of the front-end come first, and the others last
abbrev pub middle_of : {P : Type 0} → Parts P → List (Part P)
middle_of p = Heap p.heap ∷ Map p.map ∷ Names p.names ∷ []

abbrev pub parts_of : {P : Type 0} → ℕ → Parts P → List (Part P)
parts_of split p = map Front (take split p.fronts) ++ (map OfClass p.shards ++ (middle_of p ++ map Front (drop split p.fronts)))

-- whether an act waits
abbrev pub waits : {P V R : Type 0} → Part P → Local V R → Bool
waits (Names names) l = waits_for names l.step
waits other l = false

module _ {P V R : Type 0} (r : FrontRules P V R) (about : R → About) where
  -- the part that an act is on
  abbrev pub place_of : Local V R → Option PartNo
  place_of l = option_map (number_of r.split (length r.calls.rows)) (target_at r.place l l.step)

  -- the pair that an act leaves
  abbrev pub after : Part P → Local V R → Part P × Local V R
  after (Front p) l = (Front (front_after r about p l l.step).0, (front_after r about p l l.step).1)
  after (OfClass s) l = (OfClass (shard_after r.calls s l l.step).0, (shard_after r.calls s l l.step).1)
  after (Heap heap) l = (Heap (heap_after r.calls heap l l.step).0, (heap_after r.calls heap l l.step).1)
  after (Map m) l = (Map (map_after r.calls m l l.step).0, (map_after r.calls m l l.step).1)
  after (Names names) l = (Names (names_after r.calls names l l.step).0, (names_after r.calls names l l.step).1)

  -- whether it is polite
  abbrev pub yields : Part P → Local V R → Bool
  yields (Front p) l = front_yields r p l l.step
  yields other l = true

  -- a thread of a trace
  abbrev pub first_of : Asked → ℕ → Local V R
  first_of asked t = first_local r.calls (record { 0 = t }) (r.seats t) (script_of t asked.calls)

  -- the parts at the start
  abbrev pub first_parts : Asked → Parts P
  first_parts asked =
      record {
        fronts = r.parts;
        shards = first_shards asked.config.transfer 0 r.calls.rows;
        heap = heaps.opened (heap_config asked.config);
        map = record { huge = asked.config.huge; spans = [] };
        names = replicate (labels_of asked) name.Unpublished;
      }

  -- the allocator's rules
  abbrev pub rules : Asked → Rules (Part P) (Local V R)
  rules asked =
      record {
        parts = parts_of r.split (first_parts asked);
        locals = map (first_of asked) (range_with_len 0 asked.config.threads);
        want = place_of;
        done = λ l. l.ended;
        waits = waits;
        yields = yields;
        after = after;
      }

-- the threads of the calls, in trace order
abbrev pub turns : Asked → List ℕ
turns asked = map (λ (c : ThreadCall). c.thread.0) asked.calls
