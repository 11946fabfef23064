-- What holds of the books between any two acts, after the calls that were decided.
use Rattle.std.specs.Prelude.{◌≡◌, ℕ, ◌+◌, ◌<◌, ◌≤◌, ◌⊎◌, Bool, false, is_some, List, length, Option, if◌then◌else◌, Some, None, slice_get, sum_by, All}
use Rattle.tc_units.specs.Units.{huge_bytes}
use Rattle.tc_units.specs.Arena.{IsInArena}
use Rattle.tc_units.specs.Classes.{length_of}
use Rattle.tc_units.specs.declared.units.Addr.{Addr}
use Rattle.tc_units.specs.declared.units.Label.{Label}
use Rattle.tc_units.specs.declared.spans.ClassRow.{ClassRow}
use Rattle.tc_units.specs.declared.spans.Run.{Run}
use Rattle.tc_units.specs.declared.spans.SpanRef.{SpanRef}
use Rattle.tc_model.specs.declared.answers.Answer.{Answer}
use Rattle.tc_model.specs.declared.answers.CallLine.{CallLine}
use Rattle.tc_model.specs.Blocks.{Extent, meets, blocks_after, answer_to, freed_in}
use Rattle.name_table.specs.Names.{state_of}
use Rattle.holdings.specs.Runs.{bit, same_run, first_byte, large, small, block_of, runs_like, runs_at, spans_like, spans_of_run, spans_at, objects_at}
use Rattle.holdings.specs.Accounts.{Account, Frees, pending, unpublished, untaken, mentions, holding, same_value, held_at, loose, in_hand, off_map, transit, clearing, is_out, is_taken, means, named_at}
use Rattle.holdings.specs.Books.{Setup, Books, class_number, size_of, over_classes, IsOfClass, IsCut}
use Rattle.holdings.specs.Kept.{AreKept, value_of}

-- what a label's allocation got, of decided calls, where it wasn't freed
abbrev pub value_by : Option Answer → Option (Option Addr)
value_by None = None
value_by (Some answer) = Some (value_of answer)

abbrev pub value_after : List CallLine → ℕ → Option (Option Addr)
value_after calls x = if freed_in x calls then None else value_by (answer_to x calls)

abbrev pub has_value : Option (Option Addr) → Option Addr → Bool
has_value None v = false
has_value (Some u) v = same_value u v

abbrev pub standing : ℕ → Option Addr → List CallLine → ℕ
standing x v calls = bit (has_value (value_after calls x) v)

-- A block is that of a live run that is no span of a class, in the map or in a hand, or it is an object of a shard's span.
pub record IsLarge (b : Books) (x : Extent) : Type 0 where
  pub run : Run
  pub is : x ≡ block_of run
  pub live : 0 < runs_like run b.heap
  pub unmapped : (k : ℕ) → spans_like (small (class_number k) run) b.spans ≡ 0
  pub unheld : (i : ℕ) (a : Account) → slice_get b.accounts i ≡ Some a → spans_of_run run a.apart ≡ 0

pub record IsObject (rows : List ClassRow) (b : Books) (x : Extent) : Type 0 where
  pub class : ℕ
  pub object : 0 < b.stock.objects class x.addr
  pub size : x.len ≡ size_of rows class

abbrev pub IsStanding : List ClassRow → Books → Extent → Type 0
IsStanding rows b x = IsLarge b x ⊎ IsObject rows b x

-- What one account keeps of itself: what it frees is in its hand, its spans are of classes, each of them the map's or off
-- the map, and a run off the map is a span's or what its label holds, as is a run that it is to clear.
pub record IsSelf (m : Setup) (a : Account) : Type 0 where
  pub freeing : (label : Label) (addr : Addr) → a.doing ≡ Frees label addr → 0 < objects_at addr.0 a.hand
  pub spans : All (IsOfClass m.rows) a.apart
  pub mapped : (s : SpanRef) → spans_like s a.mapped ≤ spans_like s a.apart
  pub whole : (r : Run) → spans_of_run r a.apart ≤ spans_of_run r a.mapped + runs_like r a.off
  pub offs : (n : ℕ) → runs_at n a.off ≤ loose n a.doing + spans_at n a.apart
  pub cleared : (r : Run) → spans_like (large r) a.clears ≤ loose (first_byte r) a.doing

-- a run has a page, and its bytes lie in the arena
pub record IsRun (huge : ℕ) (r : Run) : Type 0 where
  pub some : 0 < r.pages
  pub inside : IsInArena huge_bytes huge (block_of r).addr (block_of r).len

-- What holds between any two acts, after these decided calls.
pub record Facts (m : Setup) (b : Books) (calls : List CallLine) : Type 0 where
  -- the calls are a run on disjoint blocks, each of which is a live run's or an object
  pub kept : AreKept (length_of m.rows) m.huge calls
  pub live : All (IsStanding m.rows b) (blocks_after calls)
  -- live runs lie in the arena, no two of them meet, and no two begin at one address
  pub inside : (r : Run) → 0 < runs_like r b.heap → IsRun m.huge r
  pub disjoint : (r x : Run) → 0 < runs_like r b.heap → 0 < runs_like x b.heap → same_run r x ≡ false → meets (block_of r) (block_of x) ≡ false
  pub starts : (a : ℕ) → runs_at a b.heap ≤ 1
  -- the shards' spans are cut into objects
  pub cut : IsCut m.rows b.stock
  pub selves : (i : ℕ) (a : Account) → slice_get b.accounts i ≡ Some a → IsSelf m a
  -- labels are numbers of names
  pub names : length b.names ≡ m.labels
  pub labels : (x : ℕ) → m.labels ≤ x → sum_by (mentions x) b.accounts ≡ 0
  -- each label is allocated once, published once and taken once
  pub once : (x : ℕ) → sum_by (pending x) b.accounts + bit (is_some (answer_to x calls)) ≤ 1
  pub published : (x : ℕ) → sum_by (unpublished x) b.accounts + bit (is_out (state_of b.names x)) ≤ 1
  pub taken : (x : ℕ) → sum_by (untaken x) b.accounts + bit (is_taken (state_of b.names x)) ≤ 1
  -- a label that was allocated and not freed is at one place, with what its allocation got
  pub tie : (x : ℕ) (v : Option Addr) → sum_by (holding x v) b.accounts + bit (means v (state_of b.names x)) ≡ standing x v calls
  -- the map's spans are the live runs, but for those that a call holds off the map
  pub map : (r : Run) → spans_of_run r b.spans + sum_by (off_map r) b.accounts ≡ runs_like r b.heap
  -- of these, the spans of classes are the shards', but for those that a call holds
  pub own : (k : ℕ) (r : Run) → b.stock.owned (small (class_number k) r) + sum_by (transit (small (class_number k) r)) b.accounts ≡ spans_like (small (class_number k) r) b.spans
  pub clear : (r : Run) → sum_by (clearing (large r)) b.accounts ≤ spans_like (large r) b.spans
  -- each object, and each live run, is at one place: loose or in a hand, under a published name, or in the stock; a run
  -- may be a shard's span or one that a call holds
  pub places : (n : ℕ) → sum_by (held_at n) b.accounts + sum_by (named_at n) b.names + over_classes m.rows (λ k. b.stock.stored k n) + b.stock.begins n
      ≡ over_classes m.rows (λ k. b.stock.objects k n) + runs_at n b.heap
  pub begins : (n : ℕ) → b.stock.begins n + sum_by (λ (a : Account). spans_at n a.apart) b.accounts ≤ runs_at n b.heap
  -- and each place of a class has objects of that class
  pub classes : (k n : ℕ) → sum_by (in_hand k n) b.accounts + b.stock.stored k n ≤ b.stock.objects k n
