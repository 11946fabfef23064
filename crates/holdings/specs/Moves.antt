-- What one act does to the books: each moving pick is one of these, and has one account changed.
use Rattle.std.specs.Prelude.{◌≡◌, ◌≢◌, ℕ, ◌+◌, ◌*◌, ◌/◌, ◌<◌, ◌≤◌, true, List, [], ◌∷◌, ◌++◌, length, Option, Some, None, slice_set}
use Rattle.tc_units.specs.Units.{page_bytes, pages_holding}
use Rattle.tc_units.specs.Classes.{class_of, length_of}
use Rattle.tc_units.specs.declared.units.Addr.{Addr}
use Rattle.tc_units.specs.declared.units.Label.{Label}
use Rattle.tc_units.specs.declared.spans.Run.{Run}
use Rattle.tc_units.specs.declared.spans.SpanRef.{SpanRef}
use Rattle.tc_units.specs.declared.spans.SpanKind.TheVariants.{Small}
use Rattle.tc_model.specs.declared.calls.Call.{Call}
use Rattle.tc_model.specs.declared.calls.Call.TheVariants.{Malloc, Free, Release, Drain, Resize}
use Rattle.tc_model.specs.declared.answers.Answer.{Answer}
use Rattle.tc_model.specs.declared.answers.Answer.TheVariants.{Block, NoBlock, Freed, FreedNull, Released, Drained, Busy, CapSet, OverLimit, OverStatic}
use Rattle.tc_model.specs.declared.answers.CallLine.{CallLine}
use Rattle.name_table.specs.declared.table.NameState.{NameState}
use Rattle.name_table.specs.declared.table.NameState.TheVariants as name
use Rattle.name_table.specs.Names.{state_of}
use Rattle.page_map.specs.Spans as map
use Rattle.holdings.specs.Runs.{address_of, run_of, large, small, less, spans_like, spans_at, spans_of_run, without, objects_at, IsPlaced}
use Rattle.holdings.specs.Accounts.{Doing, Asks, Publishes, Takes, Holds, Frees, Other, Account, WeighSame}
use Rattle.holdings.specs.Books.{Setup, Stock, Books, class_number, size_of, pages_of, IsCut}

-- a decided call of a thread, as it is told without the thread
pub record Said : Type 0 where
  pub call : Call
  pub answer : Answer

-- answers to calls that allocate no label and free none
abbrev pub IsOther : Call → Answer → Type 0
IsOther (Release pages) (Released n) = Unit {0}
IsOther (Drain cpu) (Drained n) = Unit {0}
IsOther (Drain cpu) (Busy owner) = Unit {0}
IsOther (Resize cpu class cap) (Busy owner) = Unit {0}
IsOther (Resize cpu class cap) CapSet = Unit {0}
IsOther (Resize cpu class cap) (OverLimit sum) = Unit {0}
IsOther (Resize cpu class cap) (OverStatic most) = Unit {0}
IsOther call answer = ⊥

-- what is decided beside labels: nothing, or a release, a drain or a resize
pub data SaysOther : List Said → Type 0 where
  Nothing : SaysOther []
  One : (said : Said) → IsOther said.call said.answer → SaysOther (said ∷ [])

-- Objects of one class move between the stock and a hand, and spans may leave their shard for the call: those that left
-- were cut into objects of the class, all of them in the stock.
pub record MoveObjects (g g' : Stock) (class : ℕ) (hand hand' : List Addr) (freed : List SpanRef) : Type 0 where
  pub others : (k n : ℕ) → k ≢ class → (g'.stored k n ≡ g.stored k n) × (g'.objects k n ≡ g.objects k n)
  pub moves : (n : ℕ) → g'.stored class n + objects_at n hand' + g.objects class n ≡ g.stored class n + objects_at n hand + g'.objects class n
  pub fewer : (n : ℕ) → g'.objects class n ≤ g.objects class n
  pub spans : (s : SpanRef) → g'.owned s + spans_like s freed ≡ g.owned s
  pub starts : (n : ℕ) → g'.begins n + spans_at n freed ≡ g.begins n

-- A span that a call holds joins the shards, with all its objects in the stock or in the hand then.
pub record AddSpan (g g' : Stock) (class : ℕ) (span : SpanRef) (came : List Addr) : Type 0 where
  pub others : (k n : ℕ) → k ≢ class → (g'.stored k n ≡ g.stored k n) × (g'.objects k n ≡ g.objects k n)
  pub moves : (n : ℕ) → g'.stored class n + objects_at n came + g.objects class n ≡ g.stored class n + g'.objects class n
  pub more : (n : ℕ) → g.objects class n ≤ g'.objects class n
  pub spans : (s : SpanRef) → g'.owned s ≡ g.owned s + spans_like s (span ∷ [])
  pub starts : (n : ℕ) → g'.begins n ≡ g.begins n + spans_at n (span ∷ [])

-- what an account is after an act, but for calls that are begun by it
abbrev pub Becomes : Account → Account → Type 0
Becomes wanted a = WeighSame wanted a

-- an account that is about something else then, and one whose hand changes with spans coming to it
abbrev pub about : Account → Doing → Account
about a doing = record a { doing = doing }

abbrev pub with_hand : Account → List Addr → List SpanRef → Account
with_hand a hand freed = record a { hand = hand; apart = freed ++ a.apart; mapped = freed ++ a.mapped }

pub data Move (m : Setup) (b : Books) (a : Account) : Stock → List Run → List SpanRef → List NameState → Account → List Said → Type 0 where
  -- nothing of this changes, or a call is begun
  Rests : (a' : Account) (new : List Said) → Becomes a a' → SaysOther new → Move m b a b.stock b.heap b.spans b.names a' new
  -- an allocation is decided: there is no run, its block is a new run, or it is an object that comes to its hand
  GetsNone : (label : Label) (size : ℕ) (a' : Account) → a.doing ≡ Asks label size → Becomes (about a (Publishes label None)) a' → Move m b a b.stock b.heap b.spans b.names a' (record { call = Malloc label size; answer = NoBlock } ∷ [])
  GetsRun : (label : Label) (size : ℕ) (r : Run) (a' : Account) → a.doing ≡ Asks label size → a.off ≡ [] → IsPlaced m.huge b.heap (pages_holding size) r → length_of m.rows size ≡ r.pages * page_bytes → Becomes (record (about a (Publishes label (Some (address_of r)))) { off = r ∷ [] }) a'
      → Move m b a b.stock (r ∷ b.heap) b.spans b.names a' (record { call = Malloc label size; answer = Block (address_of r) (r.pages * page_bytes) } ∷ [])
  GetsObject : (label : Label) (size : ℕ) (g : Stock) (o : Addr) (rest : List Addr) (a' : Account) → a.doing ≡ Asks label size → class_of m.rows size ≡ Some (class_number a.class) → a.hand ≡ [] → MoveObjects b.stock g a.class [] (o ∷ rest) [] → IsCut m.rows g
      → Becomes (record (about a (Publishes label (Some o))) { hand = rest }) a' → Move m b a g b.heap b.spans b.names a' (record { call = Malloc label size; answer = Block o (size_of m.rows a.class) } ∷ [])
  GetsFirst : (label : Label) (size : ℕ) (g : Stock) (r : Run) (o : Addr) (rest : List Addr) (apart mapped : List SpanRef) (a' : Account) → a.doing ≡ Asks label size → a.off ≡ [] → class_of m.rows size ≡ Some (class_number a.class) → a.hand ≡ [] → a.apart ≡ small (class_number a.class) r ∷ apart → a.mapped ≡ small (class_number a.class) r ∷ mapped
      → AddSpan b.stock g a.class (small (class_number a.class) r) (o ∷ rest) → IsCut m.rows g → Becomes (record (about a (Publishes label (Some o))) { hand = rest; apart = apart; mapped = mapped }) a' → Move m b a g b.heap b.spans b.names a' (record { call = Malloc label size; answer = Block o (size_of m.rows a.class) } ∷ [])
  -- the run of a new span
  GetsSpan : (r : Run) (a' : Account) → a.class < length m.rows → a.off ≡ [] → IsPlaced m.huge b.heap (pages_of m.rows a.class) r → Becomes (record a { off = r ∷ []; apart = small (class_number a.class) r ∷ a.apart }) a' → Move m b a b.stock (r ∷ b.heap) b.spans b.names a' []
  -- the page map
  SetsRun : (r : Run) (a' : Account) → a.off ≡ r ∷ [] → spans_of_run r a.apart ≡ 0 → Becomes (record a { off = [] }) a' → Move m b a b.stock b.heap (large r ∷ b.spans) b.names a' []
  SetsSpan : (r : Run) (apart : List SpanRef) (a' : Account) → a.off ≡ r ∷ [] → a.apart ≡ small (class_number a.class) r ∷ apart → a.mapped ≡ [] → Becomes (record a { off = []; mapped = small (class_number a.class) r ∷ [] }) a' → Move m b a b.stock b.heap (small (class_number a.class) r ∷ b.spans) b.names a' []
  FindsObject : (label : Label) (o : Addr) (span : SpanRef) (k : ℕ) (a' : Account) → a.doing ≡ Holds label o → a.hand ≡ [] → a.off ≡ [] → a.clears ≡ [] → 0 < spans_like span b.spans → map.holds (o.0 / page_bytes) span ≡ true → span.kind ≡ Small (class_number k) → Becomes (record (about a (Frees label o)) { class = k; hand = o ∷ [] }) a'
      → Move m b a b.stock b.heap b.spans b.names a' []
  FindsRun : (label : Label) (r : Run) (a' : Account) → a.doing ≡ Holds label (address_of r) → 0 < spans_like (large r) b.spans → a.clears ≡ [] → Becomes (record a { clears = large r ∷ [] }) a' → Move m b a b.stock b.heap b.spans b.names a' []
  ClearsRun : (label : Label) (r : Run) (a' : Account) → a.doing ≡ Holds label (address_of r) → a.clears ≡ large r ∷ [] → a.off ≡ [] → Becomes (record a { clears = []; off = r ∷ [] }) a' → Move m b a b.stock b.heap (without (large r) b.spans) b.names a' []
  ClearsSpan : (s : SpanRef) (mapped : List SpanRef) (a' : Account) → a.mapped ≡ s ∷ mapped → a.off ≡ [] → Becomes (record a { mapped = mapped; off = run_of s ∷ [] }) a' → Move m b a b.stock b.heap (without s b.spans) b.names a' []
  -- the page heap
  FreesRun : (label : Label) (r : Run) (a' : Account) → a.doing ≡ Holds label (address_of r) → a.off ≡ r ∷ [] → a.apart ≡ [] → a.clears ≡ [] → Becomes (record (about a Other) { off = [] }) a' → Move m b a b.stock (less r b.heap) b.spans b.names a' (record { call = Free label; answer = Freed (address_of r) } ∷ [])
  FreesSpan : (s : SpanRef) (apart : List SpanRef) (a' : Account) → a.off ≡ run_of s ∷ [] → a.apart ≡ s ∷ apart → a.mapped ≡ apart → Becomes (record a { off = []; apart = apart }) a' → Move m b a b.stock (less (run_of s) b.heap) b.spans b.names a' []
  -- objects move between the hand and the stock, and spans may leave; with that a free may be decided
  MovesHand : (g : Stock) (hand : List Addr) (freed : List SpanRef) (a' : Account) → MoveObjects b.stock g a.class a.hand hand freed → IsCut m.rows g → ((label : Label) (o : Addr) → a.doing ≡ Frees label o → 0 < objects_at o.0 hand) → (a.apart ≡ a.mapped) → Becomes (with_hand a hand freed) a' → Move m b a g b.heap b.spans b.names a' []
  FreesObject : (label : Label) (o : Addr) (g : Stock) (freed : List SpanRef) (a' : Account) → a.doing ≡ Frees label o → MoveObjects b.stock g a.class a.hand [] freed → IsCut m.rows g → (a.apart ≡ a.mapped) → Becomes (with_hand (about a Other) [] freed) a' → Move m b a g b.heap b.spans b.names a' (record { call = Free label; answer = Freed o } ∷ [])
  -- the names
  Names : (label : Label) (value : Option Addr) (a' : Account) → a.doing ≡ Publishes label value → a.off ≡ [] → a.clears ≡ [] → state_of b.names label.0 ≡ name.Unpublished → Becomes (about a Other) a' → Move m b a b.stock b.heap b.spans (slice_set b.names label.0 (name.Published value)) a' []
  TakesNull : (label : Label) (a' : Account) → a.doing ≡ Takes label → state_of b.names label.0 ≡ name.Published None → Becomes (about a Other) a' → Move m b a b.stock b.heap b.spans (slice_set b.names label.0 name.Taken) a' (record { call = Free label; answer = FreedNull } ∷ [])
  TakesAddr : (label : Label) (o : Addr) (a' : Account) → a.doing ≡ Takes label → state_of b.names label.0 ≡ name.Published (Some o) → Becomes (about a (Holds label o)) a' → Move m b a b.stock b.heap b.spans (slice_set b.names label.0 name.Taken) a' []

-- the books behind it, with the account of thread i
abbrev pub books_with : Books → Stock → List Run → List SpanRef → List NameState → ℕ → Account → Books
books_with b stock heap spans names i a = record { stock = stock; heap = heap; spans = spans; names = names; accounts = slice_set b.accounts i a }

-- what a thread said
abbrev pub lines : ℕ → List Said → List CallLine
lines t [] = []
lines t (s ∷ more) = record { thread = record { 0 = t }; call = s.call; answer = s.answer } ∷ lines t more
