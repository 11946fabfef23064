-- The shard of a class: a transfer cache before a central free list.
use Rattle.std.specs.Prelude.{◌≡◌, ℕ, ◌+◌, ◌==◌, Bool, nat_le, List, [], ◌++◌, length, All, if◌then◌else◌}
use Rattle.tc_units.specs.declared.units.Addr.{Addr}
use Rattle.tc_units.specs.declared.units.Class.{Class}
use Rattle.tc_units.specs.declared.spans.SpanRef.{SpanRef}
use Rattle.span_list.specs.Span.{SpanState, free_count}
use Rattle.central_free.specs.Central.{Central, taken, put_all, IsTakenIn, AreDifferent, free_in}
use Rattle.transfer_cache.specs.Transfer.{Transfer, last_first, without_last}

-- a shard as contracts see it: its class, its transfer cache, and its spans
pub record Shard : Type 0 where
  pub class : Class
  pub transfer : Transfer
  pub central : Central

-- the shard with these objects in its transfer cache, or these spans
abbrev pub with_objects : Shard → List Addr → Shard
with_objects s objects = record s { transfer = record { objects = objects; room = s.transfer.room } }

abbrev pub with_spans : Shard → List SpanState → Shard
with_spans s spans = record s { central = record { row = s.central.row; spans = spans } }

-- whether the transfer cache holds nothing
abbrev pub is_idle : Shard → Bool
is_idle s = length s.transfer.objects == 0

-- what a fetch of n gives: the last of the transfer cache, last first, where it holds something, and else objects of the spans, one by one
abbrev pub fetched : ℕ → Shard → List Addr
fetched n s = if is_idle s then (taken n s.central.spans).objects else last_first n s.transfer.objects

-- the shard behind it
abbrev pub after_fetch : ℕ → Shard → Shard
after_fetch n s =
    if is_idle s then with_spans s (taken n s.central.spans).spans else with_objects s (without_last n s.transfer.objects)

-- neither the transfer cache nor a span has a free object
pub record IsEmpty (s : Shard) : Type 0 where
  pub no_transfer : s.transfer.objects ≡ []
  pub no_free : All (λ span. free_count span ≡ 0) s.central.spans

-- whether a whole list fits into the transfer cache
abbrev pub fits_in : Shard → List Addr → Bool
fits_in s list = nat_le (length s.transfer.objects + length list) s.transfer.room

-- the shard once a list is given to it: the whole list into the transfer cache where it fits, and else each object to its span
abbrev pub after_give : List Addr → Shard → Shard
after_give list s =
    if fits_in s list then with_objects s (s.transfer.objects ++ list) else with_spans s (put_all list s.central.spans).spans

-- the spans that leave then, in their order
abbrev pub freed_by : List Addr → Shard → List SpanRef
freed_by list s = if fits_in s list then [] else (put_all list s.central.spans).freed

-- the objects that a shard has: those of its transfer cache and the free ones of its spans
abbrev pub places : Shard → List Addr
places s = s.transfer.objects ++ free_in s.central.spans

-- objects are out of a shard: with those of its transfer cache they are taken objects of its spans, all different
pub record IsOut (s : Shard) (objects : List Addr) : Type 0 where
  pub taken : All (IsTakenIn s.central.spans) (s.transfer.objects ++ objects)
  pub different : AreDifferent (s.transfer.objects ++ objects)
