-- A change of each hugepage, place by place.
use Rattle.std.proofs.Common.{◌≡◌, ℕ, ◌+◌, ◌-◌, ◌*◌, ◌/◌, ◌%◌, ◌<◌, ◌≤◌, Bool, false, List, length, get_or, map, filter, sym, ap, ◌∙◌, arith}
use Rattle.std.specs.List.{enumerate_from}
use Rattle.std.proofs.lemmas.List.{same_lists, get_or_default, length-map, get_or-map, get_or-replicate}
use Rattle.std.proofs.lemmas.List.FromFn.{length-enumerate_from, get_or-enumerate_from, get_or-map-range_with_len}
use Rattle.heap_rules.specs.Heap.{Heap, Hugepage, hugepage, numbers, untouched, each, whole, pages_of, is_filler, tier, allocation_count, used_row, region_row}
use Rattle.heap_rules.specs.FillerRows.{FillerRow}
use Rattle.heap_rules.specs.RegionRows.{RegionRow}
use Rattle.heap_rules.specs.Numbered.{at_number}
use Rattle.heap_rules.specs.GiveUp.{SpareRow}
use Rattle.heap_rules.specs.Release.{is_idle, spare_row}
use Rattle.heap_rules.specs.Sound.{IsPageOf}
use Rattle.heap_rules.proofs.Numbered.{at_number-place, at_number-next}

-- a row of the filler, one of the regions, and the filler's rows as they give pages up
abbrev pub filler_row : Heap → ℕ → FillerRow
filler_row heap h = record { number = h; tier = tier (hugepage heap h); allocs = allocation_count heap.runs h; used = used_row heap.runs h }

abbrev pub region_row_of : Heap → ℕ → RegionRow
region_row_of heap r = record { first = r; used = region_row heap.runs heap.config.region r }

abbrev pub spare_rows : Heap → List SpareRow
spare_rows heap = map (spare_row heap) (filter (λ h. is_filler (hugepage heap h)) (numbers heap))

-- hugepage h of a list, as a heap has it; from 1 on it is what stands at place h - 1
abbrev pub at : List Hugepage → ℕ → Hugepage
at xs h = at_number untouched xs h

pub at-place : (xs : List Hugepage) (h : ℕ) → 0 < h → at xs h ≡ get_or xs (h - 1) untouched
at-place xs h some = at_number-place untouched xs h some

pub at-next : (xs : List Hugepage) (k : ℕ) → at xs (1 + k) ≡ get_or xs k untouched
at-next xs k = at_number-next untouched xs k

-- what a map of the list has there, by place and by number
pub map-place : {X : Type 0} (f : Hugepage → X) (xs : List Hugepage) (h : ℕ) (d : X) → 0 < h → h ≤ length xs → get_or (map f xs) (h - 1) d ≡ f (at xs h)
map-place f xs h d some inside = get_or-map f xs (h - 1) untouched d (omega arith) ∙ ap f (sym (at-place xs h some))

pub map-at : {X : Type 0} (f : Hugepage → X) (xs : List Hugepage) (h : ℕ) (d : X) → 0 < h → h ≤ length xs → at_number d (map f xs) h ≡ f (at xs h)
map-at f xs h d some inside = at_number-place d (map f xs) h some ∙ map-place f xs h d some inside

pub idle_at : (heap : Heap) (h : ℕ) → 0 < h → h ≤ length heap.hugepages → at_number false (map (is_idle heap) (numbers heap)) h ≡ is_idle heap h
idle_at heap h some inside =
    at_number-place false (map (is_idle heap) (numbers heap)) h some ∙ get_or-map-range_with_len (is_idle heap) 1 (length heap.hugepages) (h - 1) h false (omega arith) (omega arith)

pub length-each : (f : ℕ → Hugepage → Hugepage) (xs : List Hugepage) → length (each f xs) ≡ length xs
length-each f xs = length-map (enumerate_from 1 xs) (λ (p : ℕ × Hugepage). f p.0 p.1) ∙ length-enumerate_from 1 xs

pub at-each : (f : ℕ → Hugepage → Hugepage) (xs : List Hugepage) (h : ℕ) → 0 < h → h ≤ length xs → at (each f xs) h ≡ f h (at xs h)
at-each f xs h some inside =
    let len = length-enumerate_from 1 xs in
    let e : 1 + (h - 1) ≡ h = omega arith in
    at-place (each f xs) h some ∙ get_or-map (λ (p : ℕ × Hugepage). f p.0 p.1) (enumerate_from 1 xs) (h - 1) (0, untouched) untouched (omega arith)
    ∙ ap (λ (p : ℕ × Hugepage). f p.0 p.1) (get_or-enumerate_from 1 xs (h - 1) (0, untouched) (omega arith)) ∙ ap (λ k. f k (get_or xs (h - 1) untouched)) e
    ∙ ap (f h) (sym (at-place xs h some))

-- lists of hugepages that are alike at each number
pub same_pages : (xs ys : List Hugepage) → length xs ≡ length ys → ((h : ℕ) → 0 < h → h ≤ length xs → at xs h ≡ at ys h) → xs ≡ ys
same_pages xs ys size same = same_lists xs ys size (λ k d l.
    get_or_default xs k d untouched l ∙ sym (at-next xs k) ∙ same (1 + k) (omega arith) (omega arith) ∙ at-next ys k ∙ get_or_default ys k untouched d (omega arith))

-- what a change makes of a list, by what it makes of each hugepage
pub each_is : (f : ℕ → Hugepage → Hugepage) (xs ys : List Hugepage) → length ys ≡ length xs → ((h : ℕ) → 0 < h → h ≤ length xs → f h (at xs h) ≡ at ys h) → each f xs ≡ ys
each_is f xs ys size same =
    let size' = length-each f xs in
    same_pages (each f xs) ys (size' ∙ sym size) (λ h some l. at-each f xs h some (omega arith) ∙ same h some (omega arith))

pub each_where : (f g : ℕ → Hugepage → Hugepage) (xs : List Hugepage) → ((h : ℕ) → 0 < h → h ≤ length xs → f h (at xs h) ≡ g h (at xs h)) → each f xs ≡ each g xs
each_where f g xs same = each_is f xs (each g xs) (length-each g xs) (λ h some l. same h some l ∙ sym (at-each g xs h some l))

-- a change after a change
pub each_each : (f g : ℕ → Hugepage → Hugepage) (xs : List Hugepage) → each f (each g xs) ≡ each (λ h x. f h (g h x)) xs
each_each f g xs =
    let size = length-each g xs in
    each_is f (each g xs) (each (λ h x. f h (g h x)) xs) (length-each (λ h x. f h (g h x)) xs ∙ sym size)
    (λ h some l. ap (f h) (at-each g xs h some (omega arith)) ∙ sym (at-each (λ h x. f h (g h x)) xs h some (omega arith)))

-- the hugepage of a page
pub own : (h page : ℕ) → IsPageOf h page → page / 256 ≡ h
own h page is = omega (arith, is.from, is.to)

pub page_of : (page : ℕ) → IsPageOf (page / 256) page
page_of page = record { from = omega arith; to = omega arith }

-- a test of the pages of hugepage h, read at one of them
pub backs-map : (f : ℕ → Bool) (h page : ℕ) → IsPageOf h page → get_or (map f (pages_of h)) (page % 256) false ≡ f page
backs-map f h page is = get_or-map-range_with_len f (256 * h) 256 (page % 256) page false (omega arith) (omega (arith, is.from, is.to))

pub backs-whole : (b : Bool) (page : ℕ) → get_or (whole b) (page % 256) false ≡ b
backs-whole b page = get_or-replicate 256 (page % 256) b false (omega arith)
