-- A release answers at least what is asked exactly where so many pages may be given.
use Rattle.std.proofs.Common.{◌≡◌, ℕ, zero, suc, ◌+◌, ◌-◌, ◌*◌, ◌<◌, ◌≤◌, ◌⊎◌, Bool, true, false, not, ◌&&◌, ◌||◌, ◌==◌, cond, List, length}
use Rattle.std.proofs.Common.{get_or, map, filter, count_by, sum_by, replicate, refl, sym, ap, subst, ◌∙◌, arith}
use Rattle.std.specs.List.{list_all}
use Rattle.std.proofs.lemmas.Bool.{and_right, eqb-true}
use Rattle.std.proofs.lemmas.List.{length-map, get_or-replicate, length-replicate}
use Rattle.std.proofs.lemmas.List.Folds.{list_all_at}
use Rattle.std.proofs.lemmas.List.FromFn.{length-map-range_with_len, get_or-map-range_with_len}
use Rattle.std.proofs.lemmas.Bool.Decides.{nat_tests}
use Rattle.tc_units.specs.declared.spans.Run.{Run}
use Rattle.tc_units.specs.declared.rows.RowKind.{RowKind}
use Rattle.tc_units.specs.declared.rows.RowKind.TheVariants as kind
use Rattle.heap_rules.specs.Heap.{Heap, Hugepage, hugepage, numbers, backs, backed_count, is_used, is_free, is_filler, is_region, is_free_backed}
use Rattle.heap_rules.specs.Heap.{is_kind, used_count, pages_of}
use Rattle.heap_rules.specs.Numbered.{at_number}
use Rattle.heap_rules.specs.Settle.{unbacked}
use Rattle.heap_rules.specs.GiveUp.{gives_whole}
use Rattle.heap_rules.specs.Release.{Released, whole_given, free_given, is_idle, idle_given, spare_pages, spare_row, spare_given, release, may_give, givable_pages}
use Rattle.heap_rules.specs.Sound.{IsHugepageOf, IsPageOf, HasNoUsed, IsBackedEvenly, IsFit, IsSound}
use Rattle.heap_rules.specs.Laws.{ReleaseIsEnough}
use Rattle.range_bits.proofs.RangeLemmas.{range-within}
use Rattle.tc_units.proofs.Counts.{count_none}
use Rattle.heap_rules.proofs.Places.{at, length-each, at-each, map-at, idle_at, spare_rows}
use Rattle.heap_rules.proofs.Fits.{serves_at, is_Free, is_Region}
use Rattle.heap_rules.proofs.Accounts.{sum-filter, sum-adds, sum-map', self, own_backs, both, scaled, all_counted, same_sums}
use Rattle.heap_rules.proofs.GiveUps as walk
use Rattle.heap_rules.proofs.Released.{none_used}
use Rattle.heap_rules.proofs.Spared as spared

-- The pages that hugepage h, which is x, may give: as a free one, as an unused one of a region, as one of the filler.
abbrev free_part : ℕ → Hugepage → ℕ
free_part h x = cond (is_free_backed x) 256 0

abbrev idle_part : List Run → ℕ → Hugepage → ℕ
idle_part runs h x = cond (is_region x && used_count runs h == 0 && list_all (λ b. b) x.backed) 256 0

abbrev pub spare_of : List Run → ℕ → Hugepage → ℕ
spare_of runs h x = count_by (λ page. backs x page && not (is_used runs page)) (pages_of h)

abbrev spare_part : List Run → ℕ → Hugepage → ℕ
spare_part runs h x = cond (is_filler x) (spare_of runs h x) 0

-- all together
abbrev pub total : (ℕ → Hugepage → ℕ) → Heap → ℕ
total part heap = sum_by (λ h. part h (hugepage heap h)) (numbers heap)

-- of a hugepage without used pages, which is backed whole or not at all
all_same : (n : ℕ) → list_all (λ b. b) (replicate n true) ≡ true
all_same zero = refl
all_same (suc n) = all_same n

even_count : (x : Hugepage) → IsBackedEvenly x → backed_count x ≡ cond (list_all (λ b. b) x.backed) 256 0
even_count x (true, is) = grind (arith, all_counted, all_same, length-replicate)
even_count x (false, is) = grind (arith, count_none, get_or-replicate, length-replicate, list_all_at)

-- sums of which all numbers but one are 0
second_alone : (a b c : ℕ) → a ≡ 0 → a + b ≡ c → b ≡ c
second_alone a b c none all = omega arith

only_first : (a b : ℕ) → b ≡ a → a + (0 + 0) ≡ b
only_first a b same = omega arith

only_second : (a b : ℕ) → b ≡ a → 0 + (a + 0) ≡ b
only_second a b same = omega arith

only_third : (a : ℕ) → 0 + (0 + a) ≡ a
only_third a = omega arith

pub none_spared : (runs : List Run) (h : ℕ) (x : Hugepage) → length x.backed ≡ 256 → HasNoUsed runs h → spare_of runs h x ≡ backed_count x
none_spared runs h x size none =
    let test : ℕ → Bool = λ p. backs x p && is_used runs p in
    let len = length-map-range_with_len test (256 * h) 256 in
    let used : count_by (λ b. b) (map test (pages_of h)) ≡ 0 = count_none (λ b. b) (map test (pages_of h))
    (λ k d l.
    let short : k < 256 = omega (arith, l, len) in
    let own : IsPageOf h (256 * h + k) = record { from = omega arith; to = omega (arith, short) } in
    get_or-map-range_with_len test (256 * h) 256 k (256 * h + k) d short refl ∙ and_right (backs x (256 * h + k)) _ (none (256 * h + k) own)) in
    second_alone _ _ _ used (both x.backed (is_used runs) (pages_of h) (backs x) (own_backs h x size))

even_spare : (runs : List Run) (h : ℕ) (x : Hugepage) → length x.backed ≡ 256 → HasNoUsed runs h → IsBackedEvenly x → spare_of runs h x ≡ cond (list_all (λ b. b) x.backed) 256 0
even_spare runs h x size none even = none_spared runs h x size none ∙ even_count x even

-- The three parts make up what a hugepage may give.
region_parts : (idle all : Bool) (spare : ℕ) → (idle ≡ true → spare ≡ cond all 256 0) → 0 + (cond (true && idle && all) 256 0 + 0) ≡ cond (false || false || (true && idle)) spare 0
region_parts true all spare same = only_second (cond all 256 0) spare (same refl)
region_parts false all spare same = refl

parts_of : (runs : List Run) (regions : List ℕ) (width h : ℕ) (x : Hugepage) (k : RowKind) → x.kind ≡ k → IsFit runs regions width h x
    → free_part h x + (idle_part runs h x + spare_part runs h x) ≡ cond (is_free x || is_filler x || (is_region x && used_count runs h == 0)) (spare_of runs h x) 0
parts_of runs regions width h x kind.Free e fit = grind (arith, serves_at, only_first, even_spare)
parts_of runs regions width h x kind.Filler e fit = rw e (only_third (spare_of runs h x))
parts_of runs regions width h x kind.Run e fit = rw e refl
parts_of runs regions width h x kind.Region e fit =
    let serves = serves_at runs regions width h x kind.Region e fit in
    rw e (region_parts (used_count runs h == 0) (list_all (λ b. b) x.backed) (spare_of runs h x) (λ idle. even_spare runs h x fit.size (none_used runs h (eqb-true _ 0 idle)) serves.1))

-- a number of the arena
numbered : (heap : Heap) → IsSound heap → (k d : ℕ) → k < length (numbers heap) → IsHugepageOf heap.config.huge (get_or (numbers heap) k d)
numbered heap sound k d l = let inside = range-within 1 (length heap.hugepages) k d l in record { from = inside.0; to = omega (arith, inside.1, sound.runs.arena) }

givable_is : (heap : Heap) → IsSound heap → givable_pages heap ≡ total free_part heap + (total (idle_part heap.runs) heap + total (spare_part heap.runs) heap)
givable_is heap sound =
    let rest : ℕ → ℕ = λ h. idle_part heap.runs h (hugepage heap h) + spare_part heap.runs h (hugepage heap h) in
    let two = sum-adds (λ h. idle_part heap.runs h (hugepage heap h)) (λ h. spare_part heap.runs h (hugepage heap h)) rest (numbers heap) (λ k d l. refl) in
    let three = sum-adds (λ h. free_part h (hugepage heap h)) rest (λ h. cond (may_give heap h) (spare_pages heap h) 0) (numbers heap)
    (λ k d l.
    let h : ℕ = get_or (numbers heap) k d in
    parts_of heap.runs heap.regions heap.config.region h (hugepage heap h) (hugepage heap h).kind refl (sound.runs.fit h (numbered heap sound k d l))) in
    sum-filter (spare_pages heap) (may_give heap) (numbers heap) ∙ sym three ∙ ap (λ n. total free_part heap + n) (sym two)

-- What some hugepages give whole changes no other part.
if_given : (g : Bool) (v : Hugepage → ℕ) (x : Hugepage) → (g ≡ true → v (unbacked x) ≡ v x) → v (cond g (unbacked x) x) ≡ v x
if_given true v x same = same refl
if_given false v x same = refl

whole_keeps : (flags : List Bool) (heap : Heap) (n : ℕ) (part : ℕ → Hugepage → ℕ)
    → ((h : ℕ) → 0 < h → h ≤ length heap.hugepages → at_number false flags h ≡ true → part h (unbacked (hugepage heap h)) ≡ part h (hugepage heap h))
    → total part (whole_given flags heap n).heap ≡ total part heap
whole_keeps flags heap n part same =
    let f : ℕ → Hugepage → Hugepage = λ h x. cond (gives_whole flags n h) (unbacked x) x in
    grind (arith, nat_tests, part, length-each f heap.hugepages, same_sums, range-within 1 (length heap.hugepages), at-each f heap.hugepages, if_given, same)

-- a hugepage that is no filler's, or no region's, has none of their parts
no_spare : (runs : List Run) (h : ℕ) (x : Hugepage) (k : RowKind) → x.kind ≡ k → is_kind kind.Filler k ≡ false → spare_part runs h (unbacked x) ≡ spare_part runs h x
no_spare runs h x k e other = let none : is_filler x ≡ false = ap (is_kind kind.Filler) e ∙ other in rw none refl

no_idle : (runs : List Run) (h : ℕ) (x : Hugepage) (k : RowKind) → x.kind ≡ k → is_kind kind.Region k ≡ false → idle_part runs h (unbacked x) ≡ idle_part runs h x
no_idle runs h x k e other = let none : is_region x ≡ false = ap (is_kind kind.Region) e ∙ other in rw none refl

pub free_kind : (heap : Heap) (h : ℕ) → 0 < h → h ≤ length heap.hugepages → at_number false (map is_free_backed heap.hugepages) h ≡ true → (hugepage heap h).kind ≡ kind.Free
free_kind heap h from to flag = grind (arith, nat_tests, map-at, is_Free)

pub idle_kind : (heap : Heap) (h : ℕ) → 0 < h → h ≤ length heap.hugepages → at_number false (map (is_idle heap) (numbers heap)) h ≡ true → (hugepage heap h).kind ≡ kind.Region
idle_kind heap h from to flag = grind (arith, nat_tests, idle_at, is_Region)

-- Each step gives all its part, or as many as are wanted.
abbrev Gives : ℕ → ℕ → ℕ → Type 0
Gives n given part = (given ≡ part) ⊎ ((n ≤ given) × (n ≤ part))

whole_gives : (flags : List Bool) (heap : Heap) (n part : ℕ) → length flags ≡ length heap.hugepages → 256 * count_by (λ b. b) flags ≡ part → Gives n (whole_given flags heap n).pages part
whole_gives flags heap n part size is = subst (λ p. Gives n (whole_given flags heap n).pages p) is (walk.all_or_enough flags n 0 (length heap.hugepages) (omega (arith, size)))

free_gives : (heap : Heap) (n : ℕ) → Gives n (free_given heap n).pages (total free_part heap)
free_gives heap n =
    let flags : List Bool = map is_free_backed heap.hugepages in
    whole_gives flags heap n (total free_part heap) (length-map heap.hugepages is_free_backed)
    (sym (scaled (λ b. b) flags) ∙ sum-map' (λ b. cond b 256 0) is_free_backed heap.hugepages
    ∙ ap (sum_by (free_part 0)) (self heap.hugepages) ∙ sum-map' (free_part 0) (at heap.hugepages) (numbers heap))

idle_gives : (heap : Heap) (n : ℕ) → Gives n (idle_given heap n).pages (total (idle_part heap.runs) heap)
idle_gives heap n =
    let flags : List Bool = map (is_idle heap) (numbers heap) in
    whole_gives flags heap n (total (idle_part heap.runs) heap) (length-map-range_with_len (is_idle heap) 1 (length heap.hugepages))
    (sym (scaled (λ b. b) flags) ∙ sum-map' (λ b. cond b 256 0) (is_idle heap) (numbers heap))

spare_gives : (heap : Heap) (n : ℕ) → Gives n (spare_given heap n).pages (total (spare_part heap.runs) heap)
spare_gives heap n =
    let all : spared.all_spare (spare_rows heap) n ≡ total (spare_part heap.runs) heap =
    sum-map' (λ r. r.spare) (spare_row heap) (filter (λ h. is_filler (hugepage heap h)) (numbers heap)) ∙ sum-filter (spare_pages heap) (λ h. is_filler (hugepage heap h)) (numbers heap) in
    subst (λ p. Gives n (spare_given heap n).pages p) all (spared.all_or_enough (spare_rows heap) n)

-- So all three do; and where they give fewer than are wanted, they give all.
pub record AreGiven (n pages givable : ℕ) : Type 0 where
  pub needs : n ≤ pages → n ≤ givable
  pub gives : n ≤ givable → n ≤ pages
  pub all : pages < n → pages ≡ givable

three_steps : (n a b c x y z : ℕ) → Gives n a x → Gives (n - a) b y → Gives (n - (a + b)) c z → AreGiven n (a + b + c) (x + (y + z))
three_steps n a b c x y z x7 second third = grind (arith)

pub release_gives : (heap : Heap) (n : ℕ) → IsSound heap → AreGiven n (release heap n).pages (givable_pages heap)
release_gives heap n sound =
    let a : Released = free_given heap n in
    let b : Released = idle_given a.heap (n - a.pages) in
    let runs : List Run = heap.runs in
    let free : List Bool = map is_free_backed heap.hugepages in
    let idle : List Bool = map (is_idle a.heap) (numbers a.heap) in
    let idle_same : total (idle_part runs) a.heap ≡ total (idle_part runs) heap =
    whole_keeps free heap n (idle_part runs) (λ h from to flag. no_idle runs h (hugepage heap h) kind.Free (free_kind heap h from to flag) refl) in
    let spare_same : total (spare_part runs) b.heap ≡ total (spare_part runs) heap =
    whole_keeps idle a.heap (n - a.pages) (spare_part runs) (λ h from to flag. no_spare runs h (hugepage a.heap h) kind.Region (idle_kind a.heap h from to flag) refl)
    ∙ whole_keeps free heap n (spare_part runs) (λ h from to flag. no_spare runs h (hugepage heap h) kind.Free (free_kind heap h from to flag) refl) in
    subst (λ m. AreGiven n (release heap n).pages m) (sym (givable_is heap sound))
    (three_steps n a.pages b.pages (spare_given b.heap (n - (a.pages + b.pages))).pages (total free_part heap) (total (idle_part runs) heap) (total (spare_part runs) heap)
    (free_gives heap n) (subst (λ p. Gives (n - a.pages) b.pages p) idle_same (idle_gives a.heap (n - a.pages)))
    (subst (λ p. Gives (n - (a.pages + b.pages)) (spare_given b.heap (n - (a.pages + b.pages))).pages p) spare_same (spare_gives b.heap (n - (a.pages + b.pages)))))

pub release_is_enough : ReleaseIsEnough
release_is_enough heap n sound = let given = release_gives heap n sound in (given.needs, given.gives)
