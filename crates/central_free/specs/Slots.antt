-- How a central free list is kept: each span in a slot, the slot of each by its first byte, and how each slot stands.
use Rattle.std.specs.Prelude.{◌≡◌, ℕ, ◌≤◌, ◌==◌, List, [], map, length, All, Any, Option, Some, None, unwrap_or, if◌then◌else◌}
use Rattle.std.specs.List.{slice_index_or}
use Rattle.tc_units.specs.declared.spans.SpanKind.TheVariants.{Large}
use Rattle.span_list.specs.Span.{SpanState, first_byte, free_count, taken_count}
use Rattle.central_free.specs.declared.ranking.Standing.{Standing}
use Rattle.central_free.specs.Ranking.{no_standing, standing_at}

-- the least number of slots by which their room grows
abbrev pub least_room : ℕ
least_room = 4

-- how much a span is to be emptied: its taken objects, and 0 where none is free
abbrev pub weight : SpanState → ℕ
weight s = if free_count s == 0 then 0 else taken_count s

-- how a span stands, and a slot
abbrev pub standing_of : SpanState → Standing
standing_of s = record { weight = weight s; first = s.span.first }

abbrev pub standing_in : Option SpanState → Standing
standing_in None = no_standing
standing_in (Some s) = standing_of s

-- what a slot has
abbrev pub slot_at : List (Option SpanState) → ℕ → Option SpanState
slot_at slots k = slice_index_or slots k None

-- no span, for slots without one
abbrev pub no_span : SpanState
no_span = record { span = record { first = record { 0 = 0 }; pages = 0; kind = Large }; size = 0; free = [] }

abbrev pub span_at : List (Option SpanState) → ℕ → SpanState
span_at slots k = unwrap_or (slot_at slots k) no_span

-- the spans in the order of first bytes: each entry has a first byte and the slot of the span that it begins
abbrev pub spans_of : List (Option SpanState) → List (ℕ × ℕ) → List SpanState
spans_of slots entries = map (λ e. span_at slots e.1) entries

-- an entry's slot has a span that begins by the entry's byte
pub record IsFiled (slots : List (Option SpanState)) (e : ℕ × ℕ) : Type 0 where
  pub has : slot_at slots e.1 ≡ Some (span_at slots e.1)
  pub begins : first_byte (span_at slots e.1).span ≡ e.0

-- each entry is filed, each slot with a span has an entry, and each stands as its span does
pub record IsKept (slots : List (Option SpanState)) (entries : List (ℕ × ℕ)) (standings : List Standing) : Type 0 where
  pub filed : All (IsFiled slots) entries
  pub placed : (k : ℕ) (s : SpanState) → slot_at slots k ≡ Some s → Any (λ e. e.1 ≡ k) entries
  pub room : (k : ℕ) → length standings ≤ k → slot_at slots k ≡ None
  pub ranked : (k : ℕ) → standing_at standings k ≡ standing_in (slot_at slots k)

-- a slot is that of the last entry that begins by an address
abbrev pub IsLastBegun : List (ℕ × ℕ) → ℕ → ℕ → Type 0
IsLastBegun entries address slot =
    Any (λ e. (e.1 ≡ slot) × (e.0 ≤ address) × All (λ other. other.0 ≤ address → other.0 ≤ e.0) entries) entries
