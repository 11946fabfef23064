-- The books of all parts and locals: the stock that the front-end and shards hold, and how the books stand to the parts.
use Rattle.std.specs.Prelude.{◌≡◌, ℕ, ◌+◌, List, [], ◌∷◌, ◌++◌, length, map, sum_by, All, Some, slice_get}
use Rattle.std.specs.List.{slice_index_or}
use Rattle.tc_units.specs.declared.spans.Run.{Run}
use Rattle.tc_units.specs.declared.spans.SpanRef.{SpanRef}
use Rattle.tc_units.specs.declared.spans.SpanKind.TheVariants.{Small}
use Rattle.tc_units.specs.declared.spans.ClassRow.{ClassRow}
use Rattle.page_map.specs.Spans.{IsWellFormed}
use Rattle.heap_rules.specs.declared.config.HeapConfig.{HeapConfig}
use Rattle.heap_rules.specs.Sound as heaps_sound
use Rattle.central_free.specs.Central.{IsSound}
use Rattle.class_shard.specs.Shard.{Shard, places}
use Rattle.class_shard.specs.Laws.{spans_in, objects_in_spans}
use Rattle.holdings.specs.Runs.{runs_like, spans_like, spans_at, objects_at}
use Rattle.holdings.specs.Books.{Setup, Stock, Books, class_number, no_class}
use Rattle.holdings.specs.Moves.{Said, Move}
use Rattle.call_steps.specs.Local.{Decided, Local}
use Rattle.alloc_rules.specs.Machine.{Parts, first_shard}
use Rattle.call_steps.specs.Calls.{About}
use Rattle.alloc_rules.specs.Accounts.{account_of}
use Rattle.call_steps.specs.Fronts.{FrontRules}

-- the shard of a class; of a class that isn't there, one without anything
abbrev pub shard_at : List Shard → ℕ → Shard
shard_at shards k = slice_index_or shards k (first_shard 0 0 no_class)

-- a shard is that of a class: it has the class's row, and spans of that class alone
pub record IsShardOf (rows : List ClassRow) (k : ℕ) (x : Shard) : Type 0 where
  pub class : x.class ≡ class_number k
  pub row : slice_get rows k ≡ Some x.central.row
  pub sound : IsSound x.central
  pub kinds : All (λ (s : SpanRef). s.kind ≡ Small (class_number k)) (spans_in x)

-- calls that an act decides, as a local has them
abbrev pub decided_at : ℕ → List Said → List Decided
decided_at n [] = []
decided_at n (s ∷ more) = record { act = n; call = s.call; answer = s.answer } ∷ decided_at n more

-- the parts alone, but for the front-end's
pub record ArePartsOk {P : Type 0} (rows : List ClassRow) (limits : HeapConfig) (p : Parts P) : Type 0 where
  pub classes : length p.shards ≡ length rows
  pub shards : (k : ℕ) (x : Shard) → slice_get p.shards k ≡ Some x → IsShardOf rows k x
  pub heap : heaps_sound.IsSound p.heap
  pub config : p.heap.config ≡ limits
  pub map : IsWellFormed p.map
  pub huge : p.map.huge ≡ limits.huge

module _ {P V R : Type 0} (r : FrontRules P V R) (about : R → About) where
  -- what is stocked: the objects of the shards' spans, and those that the front-end's parts and the shards hold
  abbrev pub stock_of : Parts P → Stock
  stock_of p =
      record {
        objects = λ k n. objects_at n (objects_in_spans (shard_at p.shards k));
        stored = λ k n. sum_by (λ (q : P). r.stored q k n) p.fronts + objects_at n (places (shard_at p.shards k));
        owned = λ s. sum_by (λ (x : Shard). spans_like s (spans_in x)) p.shards;
        begins = λ n. sum_by (λ (x : Shard). spans_at n (spans_in x)) p.shards;
      }

  -- the books are those of the parts and locals: live runs and the map's spans in any order
  pub record AreBooksOf (p : Parts P) (locals : List (Local V R)) (b : Books) : Type 0 where
    pub stock : b.stock ≡ stock_of p
    pub heap : (x : Run) → runs_like x b.heap ≡ runs_like x p.heap.runs
    pub spans : (s : SpanRef) → spans_like s b.spans ≡ spans_like s p.map.spans
    pub names : b.names ≡ p.names
    pub accounts : b.accounts ≡ map (account_of about) locals

  -- What an act does, which leaves these parts and this local: one move of the books, with what it decides.
  pub record Does (m : Setup) (new : Parts P) (b : Books) (l after : Local V R) : Type 0 where
    pub heap : List Run
    pub spans : List SpanRef
    pub said : List Said
    pub move : Move m b (account_of about l) (stock_of new) heap spans new.names (account_of about after) said
    pub like_heap : (x : Run) → runs_like x heap ≡ runs_like x new.heap.runs
    pub like_spans : (s : SpanRef) → spans_like s spans ≡ spans_like s new.map.spans
    pub acts : after.acts ≡ l.acts + 1
    pub answers : after.answers ≡ l.answers ++ decided_at l.acts said
