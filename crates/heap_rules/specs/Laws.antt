-- What a new run, a free and a release do to a sound heap.
use Rattle.std.specs.Prelude.{◌≡◌, ℕ, ◌+◌, ◌<◌, ◌≤◌, ◌↔◌, true, false, MatchOption, Contains}
use Rattle.tc_units.specs.declared.spans.Run.{Run}
use Rattle.heap_rules.specs.Heap.{Heap, holds, is_used, is_backed, backed_pages, with_run, without_run}
use Rattle.heap_rules.specs.New.{Placed, new, none_fits}
use Rattle.heap_rules.specs.Free.{freed}
use Rattle.heap_rules.specs.Release.{Released, release, givable_pages}
use Rattle.heap_rules.specs.Sound.{IsInside, IsSound}

-- a run of n pages that were unused and lie in the arena, and the heap with it
pub record IsGiven (heap : Heap) (n : ℕ) (p : Placed) : Type 0 where
  pub pages : p.run.pages ≡ n
  pub inside : IsInside heap.config.huge p.run
  pub unused : (page : ℕ) → holds page p.run ≡ true → is_used heap.runs page ≡ false
  pub runs : p.heap.runs ≡ with_run p.run heap.runs
  pub config : p.heap.config ≡ heap.config
  pub sound : IsSound p.heap

abbrev pub NewGives : Type 0
NewGives = (heap : Heap) (n : ℕ) → IsSound heap → 2 ≤ heap.config.region → 0 < n → MatchOption (new heap n) (none_fits heap n ≡ true) (λ p. IsGiven heap n p × (none_fits heap n ≡ false))

-- the heap without a run
pub record IsRid (heap : Heap) (run : Run) (after : Heap) : Type 0 where
  pub runs : after.runs ≡ without_run run heap.runs
  pub config : after.config ≡ heap.config
  pub sound : IsSound after

abbrev pub FreeLeaves : Type 0
FreeLeaves = (heap : Heap) (run : Run) → IsSound heap → Contains heap.runs run → IsRid heap run (freed heap run)

-- the same runs, no page of a live run is unbacked, and the answer counts the pages that are
pub record IsReleased (heap : Heap) (r : Released) : Type 0 where
  pub runs : r.heap.runs ≡ heap.runs
  pub config : r.heap.config ≡ heap.config
  pub sound : IsSound r.heap
  pub used : (page : ℕ) → is_used heap.runs page ≡ true → is_backed r.heap page ≡ true
  pub counted : backed_pages r.heap + r.pages ≡ backed_pages heap

abbrev pub ReleaseKeeps : Type 0
ReleaseKeeps = (heap : Heap) (n : ℕ) → IsSound heap → IsReleased heap (release heap n)

-- each page that is backed afterwards was backed before
abbrev pub BacksNone : Heap → Heap → Type 0
BacksNone heap after = (page : ℕ) → is_backed after page ≡ true → is_backed heap page ≡ true

-- neither a free nor a release backs a page
pub record NoneIsBacked : Type 0 where
  pub by_free : (heap : Heap) (run : Run) → IsSound heap → Contains heap.runs run → BacksNone heap (freed heap run)
  pub by_release : (heap : Heap) (n : ℕ) → BacksNone heap (release heap n).heap

-- a release answers at least n exactly where so many pages may be given
abbrev pub ReleaseIsEnough : Type 0
ReleaseIsEnough = (heap : Heap) (n : ℕ) → IsSound heap → n ≤ (release heap n).pages ↔ n ≤ givable_pages heap
