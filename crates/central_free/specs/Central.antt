-- A central free list: which span an object is taken from, what a new span adds, and where an object that is put back goes.
use Rattle.std.specs.Prelude.{◌≡◌, ◌≢◌, ℕ, zero, suc, ◌+◌, ◌-◌, ◌*◌, ◌<◌, ◌≤◌, ◌⊎◌, Bool, true, false, ◌==◌, ◌&&◌, ◌||◌, nat_lt, nat_le, min, List, []}
use Rattle.std.specs.Prelude.{◌∷◌, ◌++◌, map, replicate, All, AllPairs, Any, Option, Some, None, slice_get, slice_set, if◌then◌else◌}
use Rattle.std.specs.List.{position_or_len, range_with_len, remove, flat_map}
use Rattle.std.specs.Option.{option_and_then, option_map, option_map_or}
use Rattle.tc_units.specs.Units.{page_bytes}
use Rattle.tc_units.specs.Sorted.{with_item}
use Rattle.tc_units.specs.declared.units.Addr.{Addr}
use Rattle.tc_units.specs.declared.spans.SpanRef.{SpanRef}
use Rattle.tc_units.specs.declared.spans.ClassRow.{ClassRow}
use Rattle.span_list.specs.Span.{SpanState, IsCut, IsTaken, address, objects_in, first_byte, least, taken_from, after_take, after_put, free_count, taken_count, free_objects}

-- a central free list as contracts see it: the row of its class, and its spans in the order of first pages
pub record Central : Type 0 where
  pub row : ClassRow
  pub spans : List SpanState

-- Taking. Whether a span has a free object
abbrev pub has_free : SpanState → Bool
has_free s = nat_lt 0 (free_count s)

-- whether a span is taken from before another: it has more taken objects, or as many and a lower first page
abbrev pub goes_before : SpanState → SpanState → Bool
goes_before s t =
    nat_lt (taken_count t) (taken_count s) || (taken_count s == taken_count t && nat_le s.span.first.0 t.span.first.0)

-- a span or the best of the others, whichever goes before
abbrev pub preferred : SpanState → Option SpanState → SpanState
preferred s None = s
preferred s (Some t) = if goes_before s t then s else t

-- of the spans with a free object the one that goes before all others
abbrev pub chosen : List SpanState → Option SpanState
chosen [] = None
chosen (s ∷ others) = if has_free s then Some (preferred s (chosen others)) else chosen others

-- where the span that begins at a page stands
abbrev pub place_at : ℕ → List SpanState → ℕ
place_at first spans = position_or_len (λ s. s.span.first.0 == first) spans

-- one object: the least free one of the chosen span, and the spans without it
abbrev pub taken_one : List SpanState → Option (Addr × List SpanState)
taken_one spans =
    let without : SpanState → List SpanState = λ s. slice_set spans (place_at s.span.first.0 spans) (after_take s (least s)) in
    option_and_then (λ s. option_map (λ a. (a, without s)) (taken_from s (least s))) (chosen spans)

-- what several takes give: the objects in their order, and the spans without them
pub record Took : Type 0 where
  pub objects : List Addr
  pub spans : List SpanState

-- up to n objects, one by one
abbrev pub taken : ℕ → List SpanState → Took
taken zero spans = record { objects = []; spans = spans }
taken (suc n) spans =
    let with_more : Addr × List SpanState → Took = λ one. record { objects = one.0 ∷ (taken n one.1).objects; spans = (taken n one.1).spans } in
    option_map_or with_more (taken_one spans) (record { objects = []; spans = spans })

-- Adding. A span whose first n objects are taken, or all where it has fewer
abbrev pub opened : SpanRef → ℕ → ℕ → SpanState
opened span size n =
    record {
      span = span;
      size = size;
      free = replicate (min n (objects_in span.pages size)) false ++ replicate (objects_in span.pages size - n) true;
    }

-- these objects, in the order of addresses
abbrev pub opening : SpanRef → ℕ → ℕ → List Addr
opening span size n = map (address (opened span size n)) (range_with_len 0 (min n (objects_in span.pages size)))

-- the spans with one more, which stands before the first span that begins behind it
abbrev pub with_span : SpanState → List SpanState → List SpanState
with_span s spans = with_item (λ t. first_byte t.span) s spans

-- Putting. Whether an address lies in a span's pages
abbrev pub holds : Addr → SpanState → Bool
holds a s = nat_le (first_byte s.span) a.0 && nat_lt a.0 (first_byte s.span + s.span.pages * page_bytes)

-- what puts give: the spans that stay, and those that became all free and left, in that order
pub record Put : Type 0 where
  pub spans : List SpanState
  pub freed : List SpanRef

-- an object goes to the span that holds it; where that has no taken object then, it leaves
abbrev pub put_at : Addr → List SpanState → ℕ → Option SpanState → Put
put_at a spans place None = record { spans = spans; freed = [] }
put_at a spans place (Some s) =
    if taken_count (after_put s a) == 0 then record { spans = remove spans place; freed = s.span ∷ [] } else record { spans = slice_set spans place (after_put s a); freed = [] }

abbrev pub put_one : Addr → List SpanState → Put
put_one a spans =
    put_at a spans (position_or_len (holds a) spans) (slice_get spans (position_or_len (holds a) spans))

-- a list of objects, one by one
abbrev pub put_all : List Addr → List SpanState → Put
put_all [] spans = record { spans = spans; freed = [] }
put_all (a ∷ others) spans =
    record {
      spans = (put_all others (put_one a spans).spans).spans;
      freed = (put_one a spans).freed ++ (put_all others (put_one a spans).spans).freed;
    }

-- an address is that of a taken object of one of the spans
abbrev pub IsTakenIn : List SpanState → Addr → Type 0
IsTakenIn spans a = Any (λ s. IsTaken s a) spans

-- no two of these objects are one
abbrev pub AreDifferent : List Addr → Type 0
AreDifferent objects = AllPairs (λ a b. a ≢ b) objects

-- the pages of a span end before those of another begin
abbrev pub IsBefore : SpanState → SpanState → Type 0
IsBefore s t = s.span.first.0 + s.span.pages ≤ t.span.first.0

-- a span has no page of another
abbrev pub IsApartFrom : SpanRef → SpanState → Type 0
IsApartFrom span s = (span.first.0 + span.pages ≤ s.span.first.0) ⊎ (s.span.first.0 + s.span.pages ≤ span.first.0)

-- a span is cut as a row says, and has a taken object
pub record IsOfRow (row : ClassRow) (s : SpanState) : Type 0 where
  pub cut : IsCut s
  pub size : s.size ≡ row.size
  pub pages : s.span.pages ≡ row.pages
  pub taken : 0 < taken_count s

-- an object fits into the row's spans, each span is one of the row, and each ends before the later ones begin
pub record IsSound (central : Central) : Type 0 where
  pub some : 0 < central.row.size
  pub fits : central.row.size ≤ central.row.pages * page_bytes
  pub of_row : All (IsOfRow central.row) central.spans
  pub apart : AllPairs IsBefore central.spans

-- the free objects of all spans
abbrev pub free_in : List SpanState → List Addr
free_in spans = flat_map free_objects spans
