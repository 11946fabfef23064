-- What a free and a release make of each hugepage backs no page of it.
use Rattle.std.proofs.Common.{◌≡◌, ℕ, ◌+◌, ◌-◌, ◌*◌, ◌/◌, ◌%◌, ◌<◌, ◌≤◌, Bool, true, false, ◌&&◌, ◌==◌, cond, List, length, get_or, map}
use Rattle.std.proofs.Common.{Contains, refl, sym, ap, ◌∙◌, arith}
use Rattle.std.specs.List.{list_all}
use Rattle.std.proofs.lemmas.Bool.{cases_Bool, cases_lt, false≢true}
use Rattle.std.proofs.lemmas.Grind.{get_or_head}
use Rattle.std.proofs.lemmas.List.{get_or_past}
use Rattle.std.proofs.lemmas.List.Folds.{list_all_at}
use Rattle.std.proofs.lemmas.List.FromFn.{get_or-map-range_with_len}
use Rattle.std.proofs.lemmas.Bool.Decides.{nat_tests}
use Rattle.tc_units.specs.declared.spans.Run.{Run}
use Rattle.tc_units.specs.declared.rows.RowKind.{RowKind}
use Rattle.tc_units.specs.declared.rows.RowKind.TheVariants as kind
use Rattle.heap_rules.specs.Heap.{Heap, Hugepage, hugepage, each, backs, is_used, is_filler, is_free_backed, allocation_count, numbers}
use Rattle.heap_rules.specs.Settle.{unbacked, settled}
use Rattle.heap_rules.specs.GiveUp.{gives_spare}
use Rattle.heap_rules.specs.Free.{emptied, left_by, left, without_unused_regions, freed}
use Rattle.heap_rules.specs.Release.{Released, whole_given, free_given, is_idle, idle_given, spare_row, only_used, spare_given, release}
use Rattle.heap_rules.specs.Sound.{Serves, IsSound}
use Rattle.heap_rules.specs.Laws.{BacksNone}
use Rattle.heap_rules.proofs.Places.{at, at-place, length-each, at-each, backs-whole, spare_rows}

-- a hugepage that backs no page more than another
abbrev Unbacks : Hugepage → Hugepage → Type 0
Unbacks x y = (page : ℕ) → backs y page ≡ true → backs x page ≡ true

-- of two changes that unback, the one that a test says
unbacks_if : (b : Bool) (x y z : Hugepage) → (b ≡ true → Unbacks x y) → (b ≡ false → Unbacks x z) → Unbacks x (cond b y z)
unbacks_if true x y z one other = one refl
unbacks_if false x y z one other = other refl

unbacks_unbacked : (x : Hugepage) → Unbacks x (unbacked x)
unbacks_unbacked x page e = absurd (false≢true (sym (backs-whole false page) ∙ e))

unbacks_same : (x : Hugepage) → Unbacks x x
unbacks_same x page e = e

-- a change of each hugepage that unbacks
each_unbacks : (f : ℕ → Hugepage → Hugepage) (xs : List Hugepage) → ((h : ℕ) → 0 < h → h ≤ length xs → Unbacks (at xs h) (f h (at xs h)))
    → (h page : ℕ) → backs (at (each f xs) h) page ≡ true → backs (at xs h) page ≡ true
each_unbacks f xs unbacks h page e = grind (arith, at, at-each, at-place, backs-whole, cases_lt, false≢true, get_or_head, get_or_past, length-each)

-- what a run leaves of a hugepage
all_backed : (x : Hugepage) (page : ℕ) → length x.backed ≡ 256 → list_all (λ b. b) x.backed ≡ true → backs x page ≡ true
all_backed x page size all = grind (arith, cases_Bool, false≢true, list_all_at)

left_unbacks : (runs rest : List Run) (regions : List ℕ) (width h : ℕ) (x : Hugepage) (k : RowKind) → length x.backed ≡ 256
    → Serves runs regions width h x k → Unbacks x (left_by k rest h x)
left_unbacks runs rest regions width h x kind.Free size serves = unbacks_same x
left_unbacks runs rest regions width h x kind.Region size serves = unbacks_same x
left_unbacks runs rest regions width h x kind.Run size serves = λ page e. ap (λ bs. get_or bs (page % 256) false) serves.1 ∙ backs-whole true page
left_unbacks runs rest regions width h x kind.Filler size serves =
    unbacks_if (allocation_count rest h == 0) x (emptied x) x (λ _ page e. all_backed x page size (sym (backs-whole (list_all (λ b. b) x.backed) page) ∙ e))
    (λ _. unbacks_same x)

left_backs_none : (heap : Heap) (run : Run) → IsSound heap → BacksNone heap (left heap run)
left_backs_none heap run sound page = grind (arith, each_unbacks, left_unbacks, unbacks_if, unbacks_same)

ended_backs_none : (heap : Heap) → BacksNone heap (without_unused_regions heap)
ended_backs_none heap page = grind (arith, each_unbacks, unbacks_if, unbacks_same)

settled_backs_none : (heap : Heap) → BacksNone heap (settled heap)
settled_backs_none heap page = grind (arith, each_unbacks, unbacks_if, unbacks_same, unbacks_unbacked)

pub freed_backs_none : (heap : Heap) (run : Run) → IsSound heap → Contains heap.runs run → BacksNone heap (freed heap run)
freed_backs_none heap run sound live page e =
    let gone = left heap run in
    left_backs_none heap run sound page (ended_backs_none gone page (settled_backs_none (without_unused_regions gone) page e))

-- what a step of a release leaves
whole_backs_none : (flags : List Bool) (heap : Heap) (n : ℕ) → BacksNone heap (whole_given flags heap n).heap
whole_backs_none flags heap n page = grind (arith, each_unbacks, unbacks_if, unbacks_unbacked, unbacks_same)

only_used_unbacks : (runs : List Run) (h : ℕ) (x : Hugepage) → Unbacks x (only_used runs h x)
only_used_unbacks runs h x page e =
    let test : ℕ → Bool = λ p. backs x p && is_used runs p in
    let own : ℕ = 256 * h + page % 256 in
    grind (arith, nat_tests, get_or-map-range_with_len test (256 * h) 256 (page % 256) own false)

spare_backs_none : (heap : Heap) (n : ℕ) → BacksNone heap (spare_given heap n).heap
spare_backs_none heap n page =
    let asked : ℕ → Hugepage → Bool = λ h x. is_filler x && gives_spare (spare_rows heap) n (spare_row heap h) in
    each_unbacks (λ h x. cond (asked h x) (only_used heap.runs h x) x) heap.hugepages
    (λ h from to. let x = hugepage heap h in unbacks_if (asked h x) x (only_used heap.runs h x) x (λ _. only_used_unbacks heap.runs h x) (λ _. unbacks_same x))
    (page / 256) page

pub release_backs_none : (heap : Heap) (n : ℕ) → BacksNone heap (release heap n).heap
release_backs_none heap n page e =
    let a : Released = free_given heap n in
    let b : Released = idle_given a.heap (n - a.pages) in
    whole_backs_none (map is_free_backed heap.hugepages) heap n page (whole_backs_none (map (is_idle a.heap) (numbers a.heap)) a.heap (n - a.pages) page
    (spare_backs_none b.heap (n - (a.pages + b.pages)) page e))
