-- Runs and spans as they are counted, in lists of any order.
use Rattle.std.specs.Prelude.{◌≡◌, ℕ, ◌+◌, ◌*◌, ◌<◌, Bool, true, false, ◌==◌, ◌&&◌, List, [], ◌∷◌, if◌then◌else◌}
use Rattle.tc_units.specs.Units.{page_bytes, huge_bytes}
use Rattle.tc_units.specs.Arena.{IsInArena}
use Rattle.tc_units.specs.declared.units.Addr.{Addr}
use Rattle.tc_units.specs.declared.units.Class.{Class}
use Rattle.tc_units.specs.declared.spans.Run.{Run}
use Rattle.tc_units.specs.declared.spans.SpanRef.{SpanRef}
use Rattle.tc_units.specs.declared.spans.SpanKind.{SpanKind}
use Rattle.tc_units.specs.declared.spans.SpanKind.TheVariants.{Small, Large}
use Rattle.tc_model.specs.Blocks.{Extent, meets}

-- a number for a test
abbrev pub bit : Bool → ℕ
bit true = 1
bit false = 0

-- the first byte of a run, its address, and the block of its bytes
abbrev pub first_byte : Run → ℕ
first_byte r = r.first.0 * page_bytes

abbrev pub address_of : Run → Addr
address_of r = record { 0 = first_byte r }

abbrev pub block_of : Run → Extent
block_of r = record { addr = first_byte r; len = r.pages * page_bytes }

-- the run of a span, and a run as the span of a large block or of a class
abbrev pub run_of : SpanRef → Run
run_of s = record { first = s.first; pages = s.pages }

abbrev pub large : Run → SpanRef
large r = record { first = r.first; pages = r.pages; kind = Large }

abbrev pub small : Class → Run → SpanRef
small k r = record { first = r.first; pages = r.pages; kind = Small k }

-- whether two runs, kinds and spans are one
abbrev pub same_run : Run → Run → Bool
same_run a b = a.first.0 == b.first.0 && a.pages == b.pages

abbrev pub same_kind : SpanKind → SpanKind → Bool
same_kind Large Large = true
same_kind (Small j) (Small k) = j.0 == k.0
same_kind _ _ = false

abbrev pub same_span : SpanRef → SpanRef → Bool
same_span a b = same_run (run_of a) (run_of b) && same_kind a.kind b.kind

-- how often a run is among runs, how many of these begin at an address, and the runs without one
abbrev pub runs_like : Run → List Run → ℕ
runs_like r [] = 0
runs_like r (x ∷ xs) = bit (same_run x r) + runs_like r xs

abbrev pub runs_at : ℕ → List Run → ℕ
runs_at a [] = 0
runs_at a (x ∷ xs) = bit (first_byte x == a) + runs_at a xs

abbrev pub less : Run → List Run → List Run
less r [] = []
less r (x ∷ xs) = if same_run x r then xs else x ∷ less r xs

-- the same of spans
abbrev pub spans_like : SpanRef → List SpanRef → ℕ
spans_like s [] = 0
spans_like s (x ∷ xs) = bit (same_span x s) + spans_like s xs

abbrev pub spans_of_run : Run → List SpanRef → ℕ
spans_of_run r [] = 0
spans_of_run r (x ∷ xs) = bit (same_run (run_of x) r) + spans_of_run r xs

abbrev pub spans_at : ℕ → List SpanRef → ℕ
spans_at a [] = 0
spans_at a (x ∷ xs) = bit (first_byte (run_of x) == a) + spans_at a xs

abbrev pub without : SpanRef → List SpanRef → List SpanRef
without s [] = []
without s (x ∷ xs) = if same_span x s then xs else x ∷ without s xs

-- how many objects in a list are at an address
abbrev pub objects_at : ℕ → List Addr → ℕ
objects_at a [] = 0
objects_at a (x ∷ xs) = bit (x.0 == a) + objects_at a xs

-- A new run may be placed so: it has n pages inside the arena, and meets no live run.
pub record IsPlaced (huge : ℕ) (runs : List Run) (n : ℕ) (r : Run) : Type 0 where
  pub pages : r.pages ≡ n
  pub some : 0 < r.pages
  pub inside : IsInArena huge_bytes huge (block_of r).addr (block_of r).len
  pub apart : (b : Run) → 0 < runs_like b runs → meets (block_of r) (block_of b) ≡ false
  pub fresh : runs_at (first_byte r) runs ≡ 0
