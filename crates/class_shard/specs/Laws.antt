-- The laws of a shard as a value: what a fetch, a new span and a giving leave, and how its spans are cut into objects.
use Rattle.std.specs.Prelude.{◌≡◌, ℕ, ◌+◌, ◌*◌, ◌<◌, ◌≤◌, ◌^◌, Bool, true, ◌==◌, List, [], ◌∷◌, length, map, All, count_by}
use Rattle.std.specs.List.{flat_map}
use Rattle.tc_units.specs.Units.{page_bytes}
use Rattle.tc_units.specs.declared.units.Addr.{Addr}
use Rattle.tc_units.specs.declared.spans.SpanRef.{SpanRef}
use Rattle.span_list.specs.Span.{first_byte, objects_of}
use Rattle.central_free.specs.Central.{opened, opening, with_span, IsTakenIn, AreDifferent, IsApartFrom, IsSound}
use Rattle.class_shard.specs.Shard.{Shard, with_spans, fetched, after_fetch, after_give, freed_by, places}

-- the spans of a shard, the objects that these are cut into, and how many objects, and spans, are at an address
abbrev pub spans_in : Shard → List SpanRef
spans_in s = map (λ x. x.span) s.central.spans

abbrev pub objects_in_spans : Shard → List Addr
objects_in_spans s = flat_map (objects_of s.central.row.size) (spans_in s)

abbrev pub found_at : ℕ → List Addr → ℕ
found_at a objects = count_by (λ (x : Addr). x.0 == a) objects

abbrev pub begun_at : ℕ → List SpanRef → ℕ
begun_at a spans = count_by (λ (x : SpanRef). first_byte x == a) spans

-- a shard of the same class and row, with a transfer list of the same room, which is sound
pub record IsSame (old new : Shard) : Type 0 where
  pub class : new.class ≡ old.class
  pub row : new.central.row ≡ old.central.row
  pub room : new.transfer.room ≡ old.transfer.room
  pub sound : IsSound new.central

-- A fetch moves objects, no more than are asked for, and keeps the spans.
pub record IsFetched (n : ℕ) (s : Shard) : Type 0 where
  pub same : IsSame s (after_fetch n s)
  pub few : length (fetched n s) ≤ n
  pub spans : spans_in (after_fetch n s) ≡ spans_in s
  pub moves : (test : Addr → Bool) → count_by test (places (after_fetch n s)) + count_by test (fetched n s) ≡ count_by test (places s)

abbrev pub FetchMoves : Type 0
FetchMoves = (n : ℕ) (s : Shard) → 0 < n → IsSound s.central → IsFetched n s

-- A new span brings its objects, the first of which, and no more than are asked for, leave the shard.
abbrev pub with_new : ℕ → Shard → SpanRef → Shard
with_new n s span = with_spans s (with_span (opened span s.central.row.size n) s.central.spans)

pub record IsAdded (n : ℕ) (s : Shard) (span : SpanRef) : Type 0 where
  pub same : IsSame s (with_new n s span)
  pub some : 0 < length (opening span s.central.row.size n)
  pub few : length (opening span s.central.row.size n) ≤ n
  pub spans : (test : SpanRef → Bool) → count_by test (spans_in (with_new n s span)) ≡ count_by test (spans_in s) + count_by test (span ∷ [])
  pub moves : (test : Addr → Bool) → count_by test (places (with_new n s span)) + count_by test (opening span s.central.row.size n) ≡ count_by test (places s) + count_by test (objects_of s.central.row.size span)
  pub objects : (test : Addr → Bool) → count_by test (objects_in_spans (with_new n s span)) ≡ count_by test (objects_in_spans s) + count_by test (objects_of s.central.row.size span)

abbrev pub AddMoves : Type 0
AddMoves = (n : ℕ) (s : Shard) (span : SpanRef) → 0 < n → IsSound s.central → span.pages ≡ s.central.row.pages → span.first.0 < 2 ^ 32 → s.central.row.size < 2 ^ 32 → span.pages ≤ 255 → All (IsApartFrom span) s.central.spans → IsAdded n s span

-- A giving moves objects into the shard; spans that are all free then leave with all their objects, no more than were given.
pub record IsGiven (list : List Addr) (s : Shard) : Type 0 where
  pub same : IsSame s (after_give list s)
  pub few : length (freed_by list s) ≤ length list
  pub spans : (test : SpanRef → Bool) → count_by test (spans_in (after_give list s)) + count_by test (freed_by list s) ≡ count_by test (spans_in s)
  pub moves : (test : Addr → Bool) → count_by test (places (after_give list s)) + count_by test (flat_map (objects_of s.central.row.size) (freed_by list s)) ≡ count_by test (places s) + count_by test list
  pub objects : (test : Addr → Bool) → count_by test (objects_in_spans (after_give list s)) + count_by test (flat_map (objects_of s.central.row.size) (freed_by list s)) ≡ count_by test (objects_in_spans s)

abbrev pub GiveMoves : Type 0
GiveMoves = (list : List Addr) (s : Shard) → IsSound s.central → All (IsTakenIn s.central.spans) list → AreDifferent list → IsGiven list s

-- an object lies in a span of the shard
pub record LiesInSpan (s : Shard) (a : ℕ) : Type 0 where
  pub span : SpanRef
  pub there : 0 < count_by (λ (x : SpanRef). (x.first.0 == span.first.0)) (spans_in s)
  pub member : (test : SpanRef → Bool) → test span ≡ true → 0 < count_by test (spans_in s)
  pub pages : span.pages ≡ s.central.row.pages
  pub from : first_byte span ≤ a
  pub to : a + s.central.row.size ≤ (span.first.0 + span.pages) * page_bytes

-- How the spans are cut: objects are at different addresses and don't meet, each lies in a span, each span begins with an
-- object, and an object that is in no place of the shard is taken.
pub record IsCutInto (s : Shard) : Type 0 where
  pub once : (a : ℕ) → found_at a (objects_in_spans s) ≤ 1
  pub apart : (a b : ℕ) → 0 < found_at a (objects_in_spans s) → 0 < found_at b (objects_in_spans s) → a < b → a + s.central.row.size ≤ b
  pub lies : (a : ℕ) → 0 < found_at a (objects_in_spans s) → LiesInSpan s a
  pub begun : (a : ℕ) → 0 < begun_at a (spans_in s) → 0 < found_at a (objects_in_spans s)
  pub taken : (a : Addr) → 0 < found_at a.0 (objects_in_spans s) → found_at a.0 (places s) ≡ 0 → IsTakenIn s.central.spans a

abbrev pub SpansAreCut : Type 0
SpansAreCut = (s : Shard) → IsSound s.central → IsCutInto s

-- a list with no object twice has different ones
abbrev pub DifferByCount : Type 0
DifferByCount = (list : List Addr) → ((a : ℕ) → found_at a list ≤ 1) → AreDifferent list
