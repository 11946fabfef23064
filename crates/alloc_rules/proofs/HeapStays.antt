-- The heap stays sound, with its limits, and the map stays well formed, at each act there.
use Rattle.std.proofs.Common.{◌≡◌, ℕ, ◌<◌, ◌≤◌, List, [], ◌∷◌, Option, Some, None, refl, slice_get, Contains}
use Rattle.alloc_rules.proofs.Common.{pages_holding, Label, SpanRef, ClassRow, SpanMap, IsWellFormed, with_span-well_formed, without_span-well_formed, Placed, without_span, goes}
use Rattle.alloc_rules.proofs.Common.{new, IsSound, new_gives, free_leaves, release_keeps, large, small, run_of, Asking, New, NewSpan, GiveBack, FreeSpan}
use Rattle.alloc_rules.proofs.Common.{Unback, Set, SetSpan, Lookup, Clear, ClearSpan, class_row, Local, after_new, after_new_span, frees_span, heap_after}
use Rattle.alloc_rules.proofs.Common.{map_after, Onward, HeapStep, MapStep, FrontCalls, FitsHeap, FitsMap, IsSomeAnd, option_map_or}
use Rattle.heap_rules.specs.Heap as heaps
use Rattle.call_steps.specs.declared.step.Step.TheVariants as does
use Rattle.alloc_rules.proofs.Placing.{given_at}

-- a heap of the same limits, which is sound
pub record HeapStays (old new : heaps.Heap) : Type 0 where
  pub sound : IsSound new
  pub config : new.config ≡ old.config

-- a map of the same arena, which is well formed
pub record MapStays (old new : SpanMap) : Type 0 where
  pub well : IsWellFormed new
  pub huge : new.huge ≡ old.huge

module _ {V R : Type 0} (e : FrontCalls V R) where
  heap_same : (h : heaps.Heap) → IsSound h → HeapStays h h
  heap_same h sound = record { sound = sound; config = refl }

  new_stays : (h : heaps.Heap) (n : ℕ) (x : Placed) → IsSound h → 2 ≤ h.config.region → 0 < n → new h n ≡ Some x → HeapStays h x.heap
  new_stays h n x sound region some is = let given = given_at h n x is (new_gives h n sound region some) in record { sound = given.sound; config = given.config }

  by_new : (h : heaps.Heap) (l : Local V R) (label : Label) (size : ℕ) (o : Option Placed) → IsSound h → 2 ≤ h.config.region
      → 0 < pages_holding size → new h (pages_holding size) ≡ o → HeapStays h (after_new h l label size o).0
  by_new h l label size None sound region some is = heap_same h sound
  by_new h l label size (Some x) sound region some is = new_stays h (pages_holding size) x sound region some is

  by_span : (rows : List ClassRow) (h : heaps.Heap) (l : Local V R) (a : Asking) (o : Option Placed) → IsSound h → 2 ≤ h.config.region
      → 0 < (class_row rows l).pages → new h (class_row rows l).pages ≡ o → HeapStays h (after_new_span h l a o).0
  by_span rows h l a None sound region some is = heap_same h sound
  by_span rows h l a (Some x) sound region some is = new_stays h (class_row rows l).pages x sound region some is

  by_freed : (h : heaps.Heap) (l : Local V R) (next : Onward R) (xs : List SpanRef) → IsSound h → IsSomeAnd (slice_get xs 0) (λ (x : SpanRef). Contains h.runs (run_of x)) → HeapStays h (frees_span e h l next xs).0
  by_freed h l next [] sound lives = absurd lives
  by_freed h l next (s ∷ others) sound lives = let rid = free_leaves h (run_of s) sound lives in record { sound = rid.sound; config = rid.config }

  pub heap_stays : (h : heaps.Heap) (l : Local V R) (row : HeapStep R) → IsSound h → 2 ≤ h.config.region → FitsHeap e.rows h l (does.Heap row) → HeapStays h (heap_after e h l (does.Heap row)).0
  heap_stays h l (New label size) sound region fits = by_new h l label size (new h (pages_holding size)) sound region fits.0 refl
  heap_stays h l (NewSpan a) sound region fits = by_span e.rows h l a (new h (class_row e.rows l).pages) sound region fits.1 refl
  heap_stays h l (GiveBack label run) sound region fits = let rid = free_leaves h run sound fits in record { sound = rid.sound; config = rid.config }
  heap_stays h l (FreeSpan next) sound region fits = by_freed h l next l.freed.items sound fits
  heap_stays h l (Unback pages) sound region fits = let kept = release_keeps h pages sound in record { sound = kept.sound; config = kept.config }

  by_clear : (x : SpanMap) (l : Local V R) (next : Onward R) (xs : List SpanRef) → IsWellFormed x → MapStays x (option_map_or {U = SpanMap × Local V R} (λ (s : SpanRef). (record x { spans = without_span s x.spans }, goes l (does.Heap (FreeSpan next)))) (slice_get xs 0) (x, l)).0
  by_clear x l next [] well = record { well = well; huge = refl }
  by_clear x l next (s ∷ others) well = record { well = without_span-well_formed x.huge s x.spans well; huge = refl }

  pub map_stays : (x : SpanMap) (l : Local V R) (row : MapStep R) → IsWellFormed x → FitsMap x l (does.Map row) → MapStays x (map_after e x l (does.Map row)).0
  map_stays x l (Set label run) well fits = record { well = with_span-well_formed x.huge (large run) x.spans fits.0 fits.1 well; huge = refl }
  map_stays x l (SetSpan a run) well fits = record { well = with_span-well_formed x.huge (small l.regs.class run) x.spans fits.0 fits.1 well; huge = refl }
  map_stays x l (Lookup label addr) well fits = record { well = well; huge = refl }
  map_stays x l (Clear label run) well fits = record { well = without_span-well_formed x.huge (large run) x.spans well; huge = refl }
  map_stays x l (ClearSpan next) well fits = by_clear x l next l.freed.items well
