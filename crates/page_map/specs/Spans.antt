-- The spans of an arena, in the order of their first pages, and the pages that they hold.
use Rattle.std.specs.Prelude.{ℕ, ◌+◌, ◌<◌, ◌≤◌, ◌⊎◌, Bool, ◌&&◌, nat_lt, nat_le, List, All, AllPairs}
use Rattle.tc_units.specs.Units.{huge_pages, most_huge}
use Rattle.tc_units.specs.Arena.{IsInArena}
use Rattle.tc_units.specs.Sorted.{with_item, without_key}
use Rattle.tc_units.specs.declared.spans.SpanRef.{SpanRef}

-- a page map as contracts see it: how many hugepages the arena has, and its spans in the order of their first pages
pub record SpanMap : Type 0 where
  pub huge : ℕ
  pub spans : List SpanRef

-- whether a span holds a page
abbrev pub holds : ℕ → SpanRef → Bool
holds page span = nat_le span.first.0 page && nat_lt page (span.first.0 + span.pages)

-- the spans with one more, which stands before the first span that begins behind it
abbrev pub with_span : SpanRef → List SpanRef → List SpanRef
with_span span spans = with_item (λ s. s.first.0) span spans

-- the spans without those that begin where the given one does
abbrev pub without_span : SpanRef → List SpanRef → List SpanRef
without_span span spans = without_key (λ s. s.first.0) span.first.0 spans

-- a span has a page at least, and its pages lie in the arena
abbrev pub IsInside : ℕ → SpanRef → Type 0
IsInside huge span = IsInArena huge_pages huge span.first.0 span.pages

-- the pages of a span end before those of another begin
abbrev pub IsBefore : SpanRef → SpanRef → Type 0
IsBefore s t = s.first.0 + s.pages ≤ t.first.0

-- two spans have no page in common
abbrev pub AreApart : SpanRef → SpanRef → Type 0
AreApart s t = IsBefore s t ⊎ IsBefore t s

-- the arena has a size that the units allow, each span is inside it, and each ends before the later ones begin
pub record IsWellFormed (map : SpanMap) : Type 0 where
  pub some : 0 < map.huge
  pub few : map.huge ≤ most_huge
  pub inside : All (IsInside map.huge) map.spans
  pub apart : AllPairs IsBefore map.spans
