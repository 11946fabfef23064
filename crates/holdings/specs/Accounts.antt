-- What a thread's call has in hand and is about to do, as far as objects, spans, runs and labels go.
use Rattle.std.specs.Prelude.{◌≡◌, ℕ, ◌+◌, Bool, true, false, ◌==◌, ◌&&◌, not, List, [], ◌∷◌, Option, Some, None, if◌then◌else◌}
use Rattle.tc_units.specs.declared.units.Addr.{Addr}
use Rattle.tc_units.specs.declared.units.Label.{Label}
use Rattle.tc_units.specs.declared.spans.Run.{Run}
use Rattle.tc_units.specs.declared.spans.SpanRef.{SpanRef}
use Rattle.tc_model.specs.declared.calls.Call.{Call}
use Rattle.tc_model.specs.declared.calls.Call.TheVariants.{Malloc, Free}
use Rattle.tc_model.specs.declared.calls.Planned.{Planned}
use Rattle.name_table.specs.declared.table.NameState.{NameState}
use Rattle.name_table.specs.declared.table.NameState.TheVariants as name
use Rattle.holdings.specs.Runs.{bit, runs_like, spans_like, spans_at, objects_at}

-- What a call is about with a label: it asks for a block, is to publish what it got, is to take a label, or frees what it
-- took, which is among the objects in hand or not; or none of these.
pub data Doing : Type 0 where
  Asks : (label : Label) (size : ℕ) → Doing
  Publishes : (label : Label) (value : Option Addr) → Doing
  Takes : (label : Label) → Doing
  Holds : (label : Label) (addr : Addr) → Doing
  Frees : (label : Label) (addr : Addr) → Doing
  Other : Doing

-- A thread's account: what its call is about; the objects in hand, all of one class; live runs that the page map hasn't
-- yet, or no longer; spans of classes that are in no shard, and those of them that the map has; spans of large blocks that
-- it is to clear; and the calls that it hasn't begun.
pub record Account : Type 0 where
  pub doing : Doing
  pub class : ℕ
  pub hand : List Addr
  pub off : List Run
  pub apart : List SpanRef
  pub mapped : List SpanRef
  pub clears : List SpanRef
  pub todo : List Planned

-- how often a call, and calls, allocate a label, or free it
abbrev pub got : ℕ → Call → ℕ
got x (Malloc label size) = bit (label.0 == x)
got x _ = 0

abbrev pub put : ℕ → Call → ℕ
put x (Free label) = bit (label.0 == x)
put x _ = 0

abbrev pub gets : ℕ → List Planned → ℕ
gets x [] = 0
gets x (p ∷ rest) = got x p.call + gets x rest

abbrev pub puts : ℕ → List Planned → ℕ
puts x [] = 0
puts x (p ∷ rest) = put x p.call + puts x rest

-- whether it asks for a block of a label, is to publish it, or is to take it
abbrev pub asking : ℕ → Doing → ℕ
asking x (Asks label size) = bit (label.0 == x)
asking x _ = 0

abbrev pub publishing : ℕ → Doing → ℕ
publishing x (Publishes label value) = bit (label.0 == x)
publishing x _ = 0

abbrev pub taking : ℕ → Doing → ℕ
taking x (Takes label) = bit (label.0 == x)
taking x _ = 0

-- what an account still has to do with a label
abbrev pub pending : ℕ → Account → ℕ
pending x a = asking x a.doing + gets x a.todo

abbrev pub unpublished : ℕ → Account → ℕ
unpublished x a = asking x a.doing + publishing x a.doing + gets x a.todo

abbrev pub untaken : ℕ → Account → ℕ
untaken x a = taking x a.doing + puts x a.todo

abbrev pub mentions : ℕ → Account → ℕ
mentions x a = asking x a.doing + publishing x a.doing + taking x a.doing + gets x a.todo + puts x a.todo

-- whether two values of labels are one
abbrev pub same_value : Option Addr → Option Addr → Bool
same_value None None = true
same_value (Some a) (Some b) = a.0 == b.0
same_value _ _ = false

-- whether it holds this value of a label: an answer on its way to be published, or what it took, on its way back
abbrev pub holds : ℕ → Option Addr → Doing → ℕ
holds x v (Publishes label value) = bit (label.0 == x && same_value value v)
holds x v (Holds label addr) = bit (label.0 == x && same_value (Some addr) v)
holds x v (Frees label addr) = bit (label.0 == x && same_value (Some addr) v)
holds x v _ = 0

abbrev pub holding : ℕ → Option Addr → Account → ℕ
holding x v a = holds x v a.doing

-- whether a label's meaning names an address
abbrev pub named_at : ℕ → NameState → ℕ
named_at a (name.Published (Some b)) = bit (b.0 == a)
named_at a _ = 0

-- whether it holds an address beside the objects in hand: one that it is to publish under a label, or that it took
abbrev pub loose : ℕ → Doing → ℕ
loose a (Publishes label value) = named_at a (name.Published value)
loose a (Holds label addr) = bit (addr.0 == a)
loose a _ = 0

-- what an account holds at an address: loose, among the objects in hand, or as the begin of a span
abbrev pub held_at : ℕ → Account → ℕ
held_at a x = loose a x.doing + objects_at a x.hand + spans_at a x.apart

-- the objects of a class in hand that are at an address
abbrev pub in_hand : ℕ → ℕ → Account → ℕ
in_hand k a x = if x.class == k then objects_at a x.hand else 0

-- how often a run is held off the map, and a span that the map has, and one that is to be cleared
abbrev pub off_map : Run → Account → ℕ
off_map r x = runs_like r x.off

abbrev pub transit : SpanRef → Account → ℕ
transit s x = spans_like s x.mapped

abbrev pub clearing : SpanRef → Account → ℕ
clearing s x = spans_like s x.clears

-- of a label's meaning
abbrev pub is_unpublished : NameState → Bool
is_unpublished name.Unpublished = true
is_unpublished _ = false

abbrev pub is_out : NameState → Bool
is_out state = not (is_unpublished state)

abbrev pub is_taken : NameState → Bool
is_taken name.Taken = true
is_taken _ = false

abbrev pub means : Option Addr → NameState → Bool
means v (name.Published value) = same_value value v
means v _ = false

-- accounts that weigh the same in all this: a call was begun, or nothing of this changed
pub record WeighSame (a b : Account) : Type 0 where
  pub asks : (x : ℕ) → pending x b ≡ pending x a
  pub publishes : (x : ℕ) → unpublished x b ≡ unpublished x a
  pub takes : (x : ℕ) → untaken x b ≡ untaken x a
  pub mentioned : (x : ℕ) → mentions x b ≡ mentions x a
  pub value : (x : ℕ) (v : Option Addr) → holding x v b ≡ holding x v a
  pub loosely : (n : ℕ) → loose n b.doing ≡ loose n a.doing
  pub objects : b.hand ≡ a.hand
  pub classes : (k n : ℕ) → in_hand k n b ≡ in_hand k n a
  pub off : b.off ≡ a.off
  pub apart : b.apart ≡ a.apart
  pub mapped : b.mapped ≡ a.mapped
  pub clears : b.clears ≡ a.clears
