-- A span cut into objects of one size, each free or taken.
use Rattle.std.specs.Prelude.{◌≡◌, ℕ, ◌+◌, ◌-◌, ◌*◌, ◌/◌, ◌^◌, ◌<◌, ◌≤◌, Bool, true, false, not, List, [], ◌∷◌, length, replicate, count_by, position, Option, Some, None, slice_get, slice_set}
use Rattle.std.specs.Option.{option_map}
use Rattle.tc_units.specs.Units.{page_bytes}
use Rattle.tc_units.specs.declared.units.Addr.{Addr}
use Rattle.tc_units.specs.declared.spans.SpanRef.{SpanRef}

-- a span as contracts see it: its pages, the bytes of an object, and for each object in the order of addresses whether it is free
pub record SpanState : Type 0 where
  pub span : SpanRef
  pub size : ℕ
  pub free : List Bool

-- how many objects of a size lie in a number of pages: those that end inside them
abbrev pub objects_in : ℕ → ℕ → ℕ
objects_in pages size = pages * page_bytes / size

-- the address of a span's first byte
abbrev pub first_byte : SpanRef → ℕ
first_byte span = span.first.0 * page_bytes

-- the address of an object by its index
abbrev pub address : SpanState → ℕ → Addr
address s i = record { 0 = first_byte s.span + i * s.size }

-- the index of the object at an address
abbrev pub index_of : SpanState → Addr → ℕ
index_of s a = (a.0 - first_byte s.span) / s.size

-- a span all of whose objects are free
abbrev pub all_free : SpanRef → ℕ → SpanState
all_free span size = record { span = span; size = size; free = replicate (objects_in span.pages size) true }

-- a span that is cut into objects, within the limits of a class table
pub record IsCut (s : SpanState) : Type 0 where
  pub some : 0 < s.size
  pub sizes : s.size < 2 ^ 32
  pub first : s.span.first.0 < 2 ^ 32
  pub pages : s.span.pages ≤ 255
  pub objects : length s.free ≡ objects_in s.span.pages s.size

-- how many objects are free, and how many are taken
abbrev pub free_count : SpanState → ℕ
free_count s = count_by (λ free. free) s.free

abbrev pub taken_count : SpanState → ℕ
taken_count s = count_by not s.free

-- the free object of least index
abbrev pub least : SpanState → Option ℕ
least s = position (λ free. free) s.free

-- the span where an object is taken, or free
abbrev pub with_object : SpanState → ℕ → Bool → SpanState
with_object s i free = record s { free = slice_set s.free i free }

-- what a take gives, and the span behind it
abbrev pub taken_from : SpanState → Option ℕ → Option Addr
taken_from s at = option_map (address s) at

abbrev pub after_take : SpanState → Option ℕ → SpanState
after_take s None = s
after_take s (Some i) = with_object s i false

-- the span once the object at an address is free again
abbrev pub after_put : SpanState → Addr → SpanState
after_put s a = with_object s (index_of s a) true

-- an address is that of a taken object
pub record IsTaken (s : SpanState) (a : Addr) : Type 0 where
  pub index : ℕ
  pub at : a ≡ address s index
  pub taken : slice_get s.free index ≡ Some false

-- the addresses of those that are free, by what stands at each index from k on
abbrev pub free_from : (ℕ → Addr) → ℕ → List Bool → List Addr
free_from addr k [] = []
free_from addr k (true ∷ others) = addr k ∷ free_from addr (k + 1) others
free_from addr k (false ∷ others) = free_from addr (k + 1) others

-- the free objects of a span, in the order of addresses
abbrev pub free_objects : SpanState → List Addr
free_objects s = free_from (address s) 0 s.free

-- all objects of a span that is cut into objects of a size
abbrev pub objects_of : ℕ → SpanRef → List Addr
objects_of size span = free_objects (all_free span size)
