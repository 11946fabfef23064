-- What a node makes of a list of acts: what may be asked of its parts, what they reply, and how they stand then. A node is one
-- allocator without caches: its shards, its page heap and its page map, with nothing of the threads that ask.
use Rattle.std.specs.Prelude.{ℕ, ◌/◌, List, [], ◌∷◌, find, fold, Option, Some, None, slice_set}
use Rattle.std.specs.Option.{option_map_or}
use Rattle.tc_units.specs.Units.{page_bytes}
use Rattle.tc_units.specs.declared.units.Addr.{Addr}
use Rattle.tc_units.specs.declared.units.Class.{Class}
use Rattle.tc_units.specs.declared.spans.Run.{Run}
use Rattle.tc_units.specs.declared.spans.SpanRef.{SpanRef}
use Rattle.tc_units.specs.declared.spans.ClassRow.{ClassRow}
use Rattle.tc_model.specs.declared.config.Config.{Config}
use Rattle.central_free.specs.Central.{opened, opening, with_span as with_new}
use Rattle.class_shard.specs.Shard.{Shard, after_fetch, fetched, with_spans, after_give, freed_by}
use Rattle.heap_rules.specs.Heap as heaps
use Rattle.heap_rules.specs.New.{Placed, new}
use Rattle.heap_rules.specs.Free.{freed}
use Rattle.heap_rules.specs.Release.{release}
use Rattle.page_map.specs.Spans.{SpanMap, holds, with_span, without_span}
use Rattle.alloc_rules.specs.Machine.{first_shards, heap_config}
use Rattle.alloc_rules.specs.Stocks.{shard_at}

-- the parts of a node: its shards by classes, its heap and its map
pub record Node : Type 0 where
  pub shards : List Shard
  pub heap : heaps.Heap
  pub map : SpanMap

-- before the first act: by the table and the heads
abbrev pub empty_node : List ClassRow → Config → Node
empty_node rows config =
    record { shards = first_shards config.transfer 0 rows; heap = heaps.opened (heap_config config); map = record { huge = config.huge; spans = [] } }

-- What may be asked. Of a shard: up to so many objects; to take a new span in, and up to so many objects of that; and to
-- take these objects back.
pub data ShardAsk : Type 0 where
  Fetch : ℕ → ShardAsk
  Add : SpanRef → ℕ → ShardAsk
  Give : List Addr → ShardAsk

-- of the heap: a run of so many pages, to take a run back, and to unback so many pages
pub data HeapAsk : Type 0 where
  New : ℕ → HeapAsk
  GiveBack : Run → HeapAsk
  Unback : ℕ → HeapAsk

-- of the map: to set a span, which span holds an address, and to clear a span
pub data MapAsk : Type 0 where
  Set : SpanRef → MapAsk
  Find : Addr → MapAsk
  Clear : SpanRef → MapAsk

pub data Ask : Type 0 where
  OfShard : Class → ShardAsk → Ask
  OfHeap : HeapAsk → Ask
  OfMap : MapAsk → Ask

-- what is replied: objects, the spans that left a shard, a run or none, how many pages, a span or none, or nothing
pub data Reply : Type 0 where
  Objects : List Addr → Reply
  Left : List SpanRef → Reply
  Got : Option Run → Reply
  Pages : ℕ → Reply
  Found : Option SpanRef → Reply
  Nothing : Reply

-- What a part makes of it, by its own rules: how it stands then, and its reply.
abbrev pub shard_answer : Shard → ShardAsk → Shard × Reply
shard_answer s (Fetch n) = (after_fetch n s, Objects (fetched n s))
shard_answer s (Add span n) = (with_spans s (with_new (opened span s.central.row.size n) s.central.spans), Objects (opening span s.central.row.size n))
shard_answer s (Give objects) = (after_give objects s, Left (freed_by objects s))

abbrev pub heap_answer : heaps.Heap → HeapAsk → heaps.Heap × Reply
heap_answer h (New n) = option_map_or (λ (placed : Placed). (placed.heap, Got (Some placed.run))) (new h n) (h, Got None)
heap_answer h (GiveBack run) = (freed h run, Nothing)
heap_answer h (Unback n) = ((release h n).heap, Pages (release h n).pages)

abbrev pub map_answer : SpanMap → MapAsk → SpanMap × Reply
map_answer m (Set span) = (record m { spans = with_span span m.spans }, Nothing)
map_answer m (Find addr) = (m, Found (find (holds (addr.0 / page_bytes)) m.spans))
map_answer m (Clear span) = (record m { spans = without_span span m.spans }, Nothing)

abbrev pub answer : Node → Ask → Node × Reply
answer n (OfShard k a) = let x = shard_answer (shard_at n.shards k.0) a in (record n { shards = slice_set n.shards k.0 x.0 }, x.1)
answer n (OfHeap a) = let x = heap_answer n.heap a in (record n { heap = x.0 }, x.1)
answer n (OfMap a) = let x = map_answer n.map a in (record n { map = x.0 }, x.1)

-- a list of acts: the node behind it, and the replies in their order
abbrev pub node_after : Node → List Ask → Node
node_after n acts = fold (λ m a. (answer m a).0) n acts

abbrev pub replies : Node → List Ask → List Reply
replies n [] = []
replies n (a ∷ acts) = (answer n a).1 ∷ replies (answer n a).0 acts

-- what acts make of a node
pub record Made : Type 0 where
  pub parts : Node
  pub replies : List Reply

abbrev pub node : List ClassRow → Config → List Ask → Made
node rows config acts = record { parts = node_after (empty_node rows config) acts; replies = replies (empty_node rows config) acts }
