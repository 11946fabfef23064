-- Who loses backing next, as a heap settles or a release goes on.
use Rattle.std.specs.Prelude.{◌≡◌, ◌≢◌, ℕ, ◌+◌, ◌-◌, ◌<◌, ◌≤◌, Bool, true, false, count_by}
use Rattle.tc_units.specs.declared.units.Huge.{Huge}
use Rattle.huge_cache.specs.declared.stretch.Stretch.{Stretch}
use Rattle.heap_rules.specs.Heap.{Heap, hugepage, is_filler, is_free_backed}
use Rattle.heap_rules.specs.CacheFlags.{limit}
use Rattle.heap_rules.specs.Settle.{counted}
use Rattle.heap_rules.specs.GiveUp.{gives_before}
use Rattle.heap_rules.specs.Release.{Released, free_given, is_idle, idle_given, spare_given, spare_pages, spare_row}
use Rattle.heap_rules.specs.Sound.{IsHugepageOf}
use Rattle.page_heap.specs.declared.source.Source.{Source}
use Rattle.page_heap.specs.declared.source.Source.TheVariants as source

-- the heap with its use count, and how many free hugepages are backed above the limit
abbrev pub noted : Heap → Heap
noted heap = record heap { counts = counted heap }

abbrev pub over_limit : Heap → ℕ
over_limit heap = count_by is_free_backed heap.hugepages - limit heap.config.cache heap.counts

-- what is released, behind some pages that were unbacked before
abbrev pub behind : ℕ → Released → Released
behind pages r = record { heap = r.heap; pages = pages + r.pages }

-- the hugepage of greatest number that passes a test
pub record IsLast (heap : Heap) (test : ℕ → Bool) (huge : Huge) : Type 0 where
  pub own : IsHugepageOf heap.config.huge huge.0
  pub passes : test huge.0 ≡ true
  pub behind : (h : ℕ) → huge.0 < h → test h ≡ false

-- the last hugepages that pass a test, as far as they follow each other or fewer
pub record AreLast (heap : Heap) (test : ℕ → Bool) (stretch : Stretch) : Type 0 where
  pub from : 0 < stretch.first.0
  pub some : 0 < stretch.many
  pub to : stretch.first.0 + stretch.many ≤ heap.config.huge + 1
  pub pass : (h : ℕ) → stretch.first.0 ≤ h → h < stretch.first.0 + stretch.many → test h ≡ true
  pub behind : (h : ℕ) → stretch.first.0 + stretch.many ≤ h → test h ≡ false

-- the hugepage of the filler that has spare pages and gives before each other one that has some
pub record IsFirstGiver (heap : Heap) (huge : Huge) : Type 0 where
  pub own : IsHugepageOf heap.config.huge huge.0
  pub filler : is_filler (hugepage heap huge.0) ≡ true
  pub some : 0 < spare_pages heap huge.0
  pub first : (h : ℕ) → is_filler (hugepage heap h) ≡ true → 0 < spare_pages heap h → h ≢ huge.0 → gives_before (spare_row heap h) (spare_row heap huge.0) ≡ true

-- What a source gives while n pages are wanted, and which of its hugepages give next: free ones together, others alone.
abbrev pub given_by : Source → Heap → ℕ → Released
given_by source.Free heap n = free_given heap n
given_by source.Regions heap n = idle_given heap n
given_by source.Filler heap n = spare_given heap n

abbrev pub IsNext : Source → Heap → Stretch → Type 0
IsNext source.Free heap givers = AreLast heap (λ h. is_free_backed (hugepage heap h)) givers
IsNext source.Regions heap givers = IsLast heap (is_idle heap) givers.first
IsNext source.Filler heap givers = IsFirstGiver heap givers.first

-- none of the regions' hugepages behind a number gives any more
abbrev pub IsPast : Source → Heap → ℕ → Type 0
IsPast source.Free heap above = Unit
IsPast source.Regions heap above = (h : ℕ) → above < h → is_idle heap h ≡ false
IsPast source.Filler heap above = Unit
