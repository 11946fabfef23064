-- All that the allocator holds, as numbers: objects by class and address, spans, runs, labels, and the threads' accounts.
use Rattle.std.specs.Prelude.{◌≡◌, ℕ, ◌+◌, ◌*◌, ◌<◌, ◌≤◌, List, length, sum_by}
use Rattle.std.specs.List.{slice_index_or, range_with_len}
use Rattle.tc_units.specs.Units.{page_bytes}
use Rattle.tc_units.specs.declared.units.Class.{Class}
use Rattle.tc_units.specs.declared.spans.ClassRow.{ClassRow}
use Rattle.tc_units.specs.declared.spans.Run.{Run}
use Rattle.tc_units.specs.declared.spans.SpanRef.{SpanRef}
use Rattle.tc_units.specs.declared.spans.SpanKind.TheVariants.{Small}
use Rattle.name_table.specs.declared.table.NameState.{NameState}
use Rattle.holdings.specs.Runs.{first_byte, run_of}
use Rattle.holdings.specs.Accounts.{Account}

-- what a run is of: the arena's hugepages, the labels, and the class table's rows
pub record Setup : Type 0 where
  pub huge : ℕ
  pub labels : ℕ
  pub rows : List ClassRow

-- The shards' spans cut into objects, and where these are: how many objects of a class are at an address, how many of them
-- are in slabs, caches, transfer lists and the free sets of spans, how often a span is in a shard, and how many of the
-- shards' spans begin at an address.
pub record Stock : Type 0 where
  pub objects : ℕ → ℕ → ℕ
  pub stored : ℕ → ℕ → ℕ
  pub owned : SpanRef → ℕ
  pub begins : ℕ → ℕ

-- the stock, the live runs of the heap and the map's spans, both in any order, the labels' meanings, and the accounts
pub record Books : Type 0 where
  pub stock : Stock
  pub heap : List Run
  pub spans : List SpanRef
  pub names : List NameState
  pub accounts : List Account

-- a class's number; a row without objects, for a class that isn't there; and the bytes of a class's objects and the pages of
-- its spans
abbrev pub class_number : ℕ → Class
class_number k = record { 0 = k }

abbrev pub no_class : ClassRow
no_class = record { size = 0; pages = 0; batch = 0 }

abbrev pub size_of : List ClassRow → ℕ → ℕ
size_of rows k = (slice_index_or rows k no_class).size

abbrev pub pages_of : List ClassRow → ℕ → ℕ
pages_of rows k = (slice_index_or rows k no_class).pages

-- over all classes
abbrev pub over_classes : List ClassRow → (ℕ → ℕ) → ℕ
over_classes rows f = sum_by f (range_with_len 0 (length rows))

-- an object lies in a span of its class that a shard has
pub record LiesIn (rows : List ClassRow) (g : Stock) (k a : ℕ) : Type 0 where
  pub span : SpanRef
  pub owned : 0 < g.owned span
  pub kind : span.kind ≡ Small (class_number k)
  pub from : first_byte (run_of span) ≤ a
  pub to : a + size_of rows k ≤ (span.first.0 + span.pages) * page_bytes

-- an address is that of the first object of a shard's span
pub record Begins (rows : List ClassRow) (g : Stock) (a : ℕ) : Type 0 where
  pub class : ℕ
  pub span : SpanRef
  pub owned : 0 < g.owned span
  pub start : first_byte (run_of span) ≡ a
  pub object : 0 < g.objects class a

-- a span is one of a class
pub record IsOfClass (rows : List ClassRow) (s : SpanRef) : Type 0 where
  pub class : ℕ
  pub kind : s.kind ≡ Small (class_number class)
  pub there : class < length rows
  pub pages : s.pages ≡ pages_of rows class
  pub some : 0 < s.pages

-- How a stock is cut: no two objects of a class are at one address, and none meets another; each is of a class of the
-- table and lies in a span of a shard; and a span's first object is at its begin.
pub record IsCut (rows : List ClassRow) (g : Stock) : Type 0 where
  pub once : (k a : ℕ) → g.objects k a ≤ 1
  pub apart : (k a b : ℕ) → 0 < g.objects k a → 0 < g.objects k b → a < b → a + size_of rows k ≤ b
  pub class : (k a : ℕ) → 0 < g.objects k a → k < length rows
  pub some : (k a : ℕ) → 0 < g.objects k a → 0 < size_of rows k
  pub lies : (k a : ℕ) → 0 < g.objects k a → LiesIn rows g k a
  pub kinds : (s : SpanRef) → 0 < g.owned s → IsOfClass rows s
  pub started : (s : SpanRef) → g.owned s ≤ g.begins (first_byte (run_of s))
  pub begun : (a : ℕ) → 0 < g.begins a → Begins rows g a
