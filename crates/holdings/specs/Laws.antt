-- The laws of the books: what holds at the start, what each act keeps, and what acts may rely on.
use Rattle.std.specs.Prelude.{◌≡◌, ℕ, ◌+◌, ◌*◌, ◌/◌, ◌<◌, ◌≤◌, ◌⊎◌, true, List, [], ◌++◌, replicate, Option, Some, slice_get, sum_by, All}
use Rattle.tc_units.specs.Units.{page_bytes}
use Rattle.tc_units.specs.declared.units.Addr.{Addr}
use Rattle.tc_units.specs.declared.units.Label.{Label}
use Rattle.tc_units.specs.declared.spans.Run.{Run}
use Rattle.tc_units.specs.declared.spans.SpanRef.{SpanRef}
use Rattle.tc_units.specs.declared.spans.SpanKind.TheVariants.{Small}
use Rattle.tc_model.specs.declared.answers.CallLine.{CallLine}
use Rattle.tc_model.specs.Blocks.{live_bytes}
use Rattle.name_table.specs.declared.table.NameState.{NameState}
use Rattle.name_table.specs.declared.table.NameState.TheVariants as name
use Rattle.name_table.specs.Names.{state_of}
use Rattle.page_map.specs.Spans as map
use Rattle.holdings.specs.Runs.{address_of, large, runs_like, runs_at, spans_like, objects_at}
use Rattle.holdings.specs.Accounts.{Account, Holds, named_at, loose, holding, mentions, pending, untaken}
use Rattle.holdings.specs.Books.{Setup, Stock, Books, class_number, over_classes, IsOfClass}
use Rattle.holdings.specs.Facts.{Facts, IsRun}
use Rattle.holdings.specs.Moves.{Said, Move, books_with, lines}

-- an account that has nothing in hand
pub record HasNothing (a : Account) : Type 0 where
  pub value : (x : ℕ) (v : Option Addr) → holding x v a ≡ 0
  pub hand : a.hand ≡ []
  pub off : a.off ≡ []
  pub apart : a.apart ≡ []
  pub mapped : a.mapped ≡ []
  pub clears : a.clears ≡ []

-- The start: nothing is stocked, no run lives, no label is published, and calls allocate each label once and free it once.
pub record IsFirst (m : Setup) (b : Books) : Type 0 where
  pub objects : (k n : ℕ) → b.stock.objects k n ≡ 0
  pub stored : (k n : ℕ) → b.stock.stored k n ≡ 0
  pub owned : (s : SpanRef) → b.stock.owned s ≡ 0
  pub begins : (n : ℕ) → b.stock.begins n ≡ 0
  pub heap : b.heap ≡ []
  pub spans : b.spans ≡ []
  pub names : b.names ≡ replicate m.labels name.Unpublished
  pub accounts : All HasNothing b.accounts
  pub labels : (x : ℕ) → m.labels ≤ x → sum_by (mentions x) b.accounts ≡ 0
  pub once : (x : ℕ) → sum_by (pending x) b.accounts ≤ 1
  pub taken : (x : ℕ) → sum_by (untaken x) b.accounts ≤ 1

abbrev pub FirstHolds : Type 0
FirstHolds = (m : Setup) (b : Books) → IsFirst m b → Facts m b []

-- each act keeps what holds
abbrev pub MovesKeep : Type 0
MovesKeep = (m : Setup) (b : Books) (calls : List CallLine) (t : ℕ) (a a' : Account) (stock : Stock) (heap : List Run) (spans : List SpanRef) (names : List NameState) (new : List Said) → Facts m b calls → slice_get b.accounts t ≡ Some a → Move m b a stock heap spans names a' new
    → Facts m (books_with b stock heap spans names t a') (calls ++ lines t new)

-- a free that took an address finds the span of a class there, of which it is an object, or the span of a large block that begins there
pub record Found (m : Setup) (b : Books) (o : Addr) : Type 0 where
  pub span : SpanRef
  pub there : 0 < spans_like span b.spans
  pub holds : map.holds (o.0 / page_bytes) span ≡ true
  pub is : ((k : ℕ) × (span.kind ≡ Small (class_number k)) × (0 < b.stock.objects k o.0)) ⊎ ((r : Run) × (span ≡ large r) × (o ≡ address_of r))

abbrev pub Finds : Type 0
Finds = (m : Setup) (b : Books) (calls : List CallLine) (t : ℕ) (a : Account) (label : Label) (o : Addr) → Facts m b calls → slice_get b.accounts t ≡ Some a → a.doing ≡ Holds label o → a.off ≡ [] → Found m b o

-- objects in hand are at no other place, and are objects of the hand's class
pub record IsTaken (b : Books) (class n : ℕ) (hand : List Addr) : Type 0 where
  pub once : objects_at n hand ≡ 1
  pub object : 0 < b.stock.objects class n
  pub free : b.stock.stored class n ≡ 0

abbrev pub HandsAreTaken : Type 0
HandsAreTaken = (m : Setup) (b : Books) (calls : List CallLine) (t : ℕ) (a : Account) (n : ℕ) → Facts m b calls → slice_get b.accounts t ≡ Some a → 0 < objects_at n a.hand → IsTaken b a.class n a.hand

-- an object is at one place: loose, in a hand, under a published name, or in the stock
abbrev pub ObjectsAreOnce : Type 0
ObjectsAreOnce = (m : Setup) (b : Books) (calls : List CallLine) (k n : ℕ) → Facts m b calls → 0 < b.stock.objects k n
    → sum_by (λ (a : Account). loose n a.doing + objects_at n a.hand) b.accounts + sum_by (named_at n) b.names + over_classes m.rows (λ j. b.stock.stored j n) ≡ 1

-- runs that a call holds off the map live, and meet no span of the map
pub record IsOff (m : Setup) (b : Books) (r : Run) : Type 0 where
  pub live : 0 < runs_like r b.heap
  pub run : IsRun m.huge r
  pub apart : (s : SpanRef) → 0 < spans_like s b.spans → (r.first.0 + r.pages ≤ s.first.0) ⊎ (s.first.0 + s.pages ≤ r.first.0)

abbrev pub OffsLive : Type 0
OffsLive = (m : Setup) (b : Books) (calls : List CallLine) (t : ℕ) (a : Account) (r : Run) → Facts m b calls → slice_get b.accounts t ≡ Some a → 0 < runs_like r a.off → IsOff m b r

-- spans that a call holds and that the map has are of classes, live, and meet no span of a shard
pub record IsMapped (m : Setup) (b : Books) (s : SpanRef) : Type 0 where
  pub there : 0 < spans_like s b.spans
  pub class : IsOfClass m.rows s
  pub apart : (x : SpanRef) → 0 < b.stock.owned x → (s.first.0 + s.pages ≤ x.first.0) ⊎ (x.first.0 + x.pages ≤ s.first.0)

abbrev pub MappedAreThere : Type 0
MappedAreThere = (m : Setup) (b : Books) (calls : List CallLine) (t : ℕ) (a : Account) (s : SpanRef) → Facts m b calls → slice_get b.accounts t ≡ Some a → 0 < spans_like s a.mapped → IsMapped m b s

-- a span of a large block that a call is to clear is in the map
abbrev pub ClearsAreThere : Type 0
ClearsAreThere = (m : Setup) (b : Books) (calls : List CallLine) (t : ℕ) (a : Account) (r : Run) → Facts m b calls → slice_get b.accounts t ≡ Some a → 0 < spans_like (large r) a.clears → 0 < spans_like (large r) b.spans

-- an address that a label names is of an object, or a live run begins there
abbrev pub NamesAreLive : Type 0
NamesAreLive = (m : Setup) (b : Books) (calls : List CallLine) (x : ℕ) (o : Addr) → Facts m b calls → state_of b.names x ≡ name.Published (Some o) → ((k : ℕ) × (0 < b.stock.objects k o.0)) ⊎ (runs_at o.0 b.heap ≡ 1)

-- the bytes of live blocks are among those of the live runs
abbrev pub BytesWithin : Type 0
BytesWithin = (m : Setup) (b : Books) (calls : List CallLine) → Facts m b calls → live_bytes calls ≤ sum_by (λ (r : Run). r.pages) b.heap * page_bytes
