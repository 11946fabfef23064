-- A release tells how many pages lost their backing, and where it unbacks fewer than are wanted none is left that it may unback.
use Rattle.std.proofs.Common.{◌≡◌, ℕ, zero, suc, ◌+◌, ◌-◌, ◌*◌, ◌/◌, ◌%◌, ◌<◌, ◌≤◌, Bool, true, false, not, ◌&&◌, ◌||◌, ◌==◌, cond, List, length, get_or}
use Rattle.std.proofs.Common.{map, count_by, sum_by, refl, sym, ap, subst, ◌∙◌, inl, inr, arith}
use Rattle.std.specs.List.{range_with_len}
use Rattle.std.proofs.lemmas.Bool.{cases_lt, and_parts, eqb-true, false≢true, false_from_ne_true}
use Rattle.std.proofs.lemmas.List.{get_or_past, length-replicate}
use Rattle.std.proofs.lemmas.List.FromFn.{get_or-range_with_len, length-range_with_len}
use Rattle.std.proofs.lemmas.List.Sums.{get_or-le-sum_by}
use Rattle.tc_units.specs.declared.spans.Run.{Run}
use Rattle.heap_rules.specs.Heap.{Heap, Hugepage, hugepage, numbers, untouched, each, backs, backed_count, backed_pages, is_used, is_backed, is_free, is_filler}
use Rattle.heap_rules.specs.Heap.{is_region, is_free_backed, used_count, pages_of}
use Rattle.heap_rules.specs.Settle.{unbacked}
use Rattle.heap_rules.specs.GiveUp.{gives_whole, gives_spare}
use Rattle.heap_rules.specs.Release.{Released, free_given, is_idle, idle_given, spare_row, only_used, spare_given, release, givable_pages, may_give, spare_pages}
use Rattle.heap_rules.specs.ReleaseDoes.{may_unback, lost_backing, unbacked_pages, Unbacks, ReleaseDoes}
use Rattle.heap_rules.specs.Sound.{IsHugepageOf, IsPageOf, HasNoUsed, IsSound}
use Rattle.range_bits.proofs.RangeLemmas.{range-within}
use Rattle.tc_units.proofs.Counts.{count_none, count_some}
use Rattle.heap_rules.proofs.Places.{at, at-place, length-each, at-each, map-at, idle_at, spare_rows, backs-map, backs-whole}
use Rattle.heap_rules.proofs.Fits.{serves_at, is_Free}
use Rattle.heap_rules.proofs.Accounts.{sum-filter, sum-adds, sum-map', self, own_backs, both, same_sums}
use Rattle.heap_rules.proofs.NoneBacked.{release_backs_none}
use Rattle.heap_rules.proofs.Enough.{spare_of, total, none_spared, release_gives}
use Rattle.heap_rules.proofs.Released.{none_used, release_keeps, free_sound, idle_sound}

-- Whether hugepage h, which is x, may give its unused pages, and how many of these are backed.
abbrev gives_up : List Run → ℕ → Hugepage → Bool
gives_up runs h x = is_free x || is_filler x || (is_region x && used_count runs h == 0)

abbrev left_in : List Run → ℕ → Hugepage → ℕ
left_in runs h x = cond (gives_up runs h x) (spare_of runs h x) 0

-- What a hugepage loses of its backing it loses of what it may give.
abbrev Balances : List Run → ℕ → Hugepage → Hugepage → Type 0
Balances runs h x y = left_in runs h y + backed_count x ≡ left_in runs h x + backed_count y

balance_if : (runs : List Run) (h : ℕ) (x y : Hugepage) (b : Bool) → (b ≡ true → Balances runs h x y) → Balances runs h x (cond b y x)
balance_if runs h x y true balance = balance refl
balance_if runs h x y false balance = refl

turned : (a b c d : ℕ) → a ≡ b → c ≡ d → a + d ≡ c + b
turned a b c d e f = omega arith

-- one without used pages that gives all
balance_idle : (runs : List Run) (h : ℕ) (x : Hugepage) → gives_up runs h x ≡ true → length x.backed ≡ 256 → HasNoUsed runs h → Balances runs h x (unbacked x)
balance_idle runs h x may size none =
    let y : Hugepage = unbacked x in
    let before = none_spared runs h x size none in
    let after = none_spared runs h y (length-replicate 256 false) none in
    rw may (turned (spare_of runs h y) (backed_count y) (spare_of runs h x) (backed_count x) after before)

-- one of the filler that gives what isn't used
unused_twice : (a b : Bool) → (a && b) && not b ≡ false
unused_twice true true = refl
unused_twice true false = refl
unused_twice false b = refl

none_spare : (runs : List Run) (h : ℕ) (x : Hugepage) → spare_of runs h (only_used runs h x) ≡ 0
none_spare runs h x =
    let y : Hugepage = only_used runs h x in
    let test : ℕ → Bool = λ page. backs y page && not (is_used runs page) in
    let own : ℕ → Bool = λ page. backs x page && is_used runs page in
    count_none test (pages_of h) (λ k d l.
    let page : ℕ = get_or (pages_of h) k d in
    let inside = range-within (256 * h) 256 k d l in
    let there : IsPageOf h page = record { from = inside.0; to = inside.1 } in
    ap (λ b. b && not (is_used runs page)) (backs-map own h page there) ∙ unused_twice (backs x page) (is_used runs page))

moved : (s y a x : ℕ) → s ≡ 0 → y + a ≡ x → s + x ≡ a + y
moved s y a x none all = omega arith

balance_spare : (runs : List Run) (h : ℕ) (x : Hugepage) → is_filler x ≡ true → length x.backed ≡ 256 → Balances runs h x (only_used runs h x)
balance_spare runs h x filler size =
    let y : Hugepage = only_used runs h x in
    let all = both x.backed (is_used runs) (pages_of h) (backs x) (own_backs h x size) in
    let may : gives_up runs h x ≡ true = grind (arith) in
    rw may (moved (spare_of runs h y) (backed_count y) (spare_of runs h x) (backed_count x) (none_spare runs h x) all)

-- A change of each hugepage that balances.
abbrev with_each : Heap → (ℕ → Hugepage → Hugepage) → Heap
with_each heap f = record heap { hugepages = each f heap.hugepages }

total_each : (heap : Heap) (f : ℕ → Hugepage → Hugepage) (part : ℕ → Hugepage → ℕ) → total part (with_each heap f) ≡ sum_by (λ h. part h (f h (hugepage heap h))) (numbers heap)
total_each heap f part =
    let new : List Hugepage = each f heap.hugepages in
    ap (λ n. sum_by (λ h. part h (at new h)) (range_with_len 1 n)) (length-each f heap.hugepages)
    ∙ same_sums (λ h. part h (at new h)) (λ h. part h (f h (hugepage heap h))) (numbers heap)
    (λ k d l. let inside = range-within 1 (length heap.hugepages) k d l in ap (part (get_or (numbers heap) k d)) (at-each f heap.hugepages (get_or (numbers heap) k d) inside.0 (omega (arith, inside.1))))

backed_total : (heap : Heap) → backed_pages heap ≡ total (λ h x. backed_count x) heap
backed_total heap = ap (sum_by backed_count) (self heap.hugepages) ∙ sum-map' backed_count (hugepage heap) (numbers heap)

sums_balance : (a b c d k : ℕ) → a + d ≡ k → c + b ≡ k → a + d ≡ c + b
sums_balance a b c d k e f = omega arith

step_balances : (heap : Heap) (f : ℕ → Hugepage → Hugepage) → ((h : ℕ) → 0 < h → h ≤ length heap.hugepages → Balances heap.runs h (hugepage heap h) (f h (hugepage heap h)))
    → total (left_in heap.runs) (with_each heap f) + backed_pages heap ≡ total (left_in heap.runs) heap + backed_pages (with_each heap f)
step_balances heap f each_balances =
    let part : ℕ → Hugepage → ℕ = left_in heap.runs in
    let k : ℕ → ℕ = λ h. part h (f h (hugepage heap h)) + backed_count (hugepage heap h) in
    let one = sum-adds (λ h. part h (f h (hugepage heap h))) (λ h. backed_count (hugepage heap h)) k (numbers heap) (λ j d l. refl) in
    let two = sum-adds (λ h. part h (hugepage heap h)) (λ h. backed_count (f h (hugepage heap h))) k (numbers heap)
    (λ j d l. let inside = range-within 1 (length heap.hugepages) j d l in sym (each_balances (get_or (numbers heap) j d) inside.0 (omega (arith, inside.1)))) in
    let first = total_each heap f part in
    let second = backed_total (with_each heap f) ∙ total_each heap f (λ h x. backed_count x) in
    rw (first, second, backed_total heap) (sums_balance _ _ _ _ (sum_by k (numbers heap)) one two)

last_true : (other a b : Bool) → a ≡ true → b ≡ true → other || (a && b) ≡ true
last_true true a b e f = refl
last_true false a b e f = rw (e, f) refl

-- the three steps
module _ (heap : Heap) (sound : IsSound heap) where
  own : (h : ℕ) → 0 < h → h ≤ length heap.hugepages → IsHugepageOf heap.config.huge h
  own h from to = let len = sound.runs.arena in record { from = from; to = omega arith }

  free_balances : (n : ℕ) → total (left_in heap.runs) (free_given heap n).heap + backed_pages heap ≡ total (left_in heap.runs) heap + backed_pages (free_given heap n).heap
  free_balances n =
      let flags : List Bool = map is_free_backed heap.hugepages in
      step_balances heap (λ h x. cond (gives_whole flags n h) (unbacked x) x) (λ h from to.
      let x = hugepage heap h in
      balance_if heap.runs h x (unbacked x) (gives_whole flags n h) (λ gives.
      let flag = (and_parts _ _ gives).0 in
      let ready : is_free_backed x ≡ true = sym (map-at is_free_backed heap.hugepages h false from to) ∙ flag in
      let free = (and_parts _ _ ready).0 in
      let fit = sound.runs.fit h (own h from to) in
      let may : gives_up heap.runs h x ≡ true = grind (arith) in
      balance_idle heap.runs h x may fit.size (serves_at heap.runs heap.regions heap.config.region h x _ (is_Free x.kind free) fit).0))

  idle_balances : (n : ℕ) → total (left_in heap.runs) (idle_given heap n).heap + backed_pages heap ≡ total (left_in heap.runs) heap + backed_pages (idle_given heap n).heap
  idle_balances n =
      let flags : List Bool = map (is_idle heap) (numbers heap) in
      step_balances heap (λ h x. cond (gives_whole flags n h) (unbacked x) x) (λ h from to.
      let x = hugepage heap h in
      balance_if heap.runs h x (unbacked x) (gives_whole flags n h) (λ gives.
      let idle : is_idle heap h ≡ true = sym (idle_at heap h from to) ∙ (and_parts _ _ gives).0 in
      let parts = and_parts _ _ (and_parts _ _ idle).0 in
      let fit = sound.runs.fit h (own h from to) in
      let may : gives_up heap.runs h x ≡ true = last_true (is_free x || is_filler x) (is_region x) (used_count heap.runs h == 0) parts.0 parts.1 in
      balance_idle heap.runs h x may fit.size (none_used heap.runs h (eqb-true (used_count heap.runs h) 0 parts.1))))

  spare_balances : (n : ℕ) → total (left_in heap.runs) (spare_given heap n).heap + backed_pages heap ≡ total (left_in heap.runs) heap + backed_pages (spare_given heap n).heap
  spare_balances n =
      let asked : ℕ → Hugepage → Bool = λ h x. is_filler x && gives_spare (spare_rows heap) n (spare_row heap h) in
      step_balances heap (λ h x. cond (asked h x) (only_used heap.runs h x) x) (λ h from to.
      let x = hugepage heap h in
      balance_if heap.runs h x (only_used heap.runs h x) (asked h x) (λ gives.
      balance_spare heap.runs h x (and_parts _ _ gives).0 (sound.runs.fit h (own h from to)).size))

-- what a page's hugepage has
outside : (xs : List Hugepage) (h page : ℕ) → (0 < h → h ≤ length xs → ⊥) → backs (at xs h) page ≡ false
outside xs zero page out = backs-whole false page
outside xs (suc h) page out =
    let past : length xs ≤ h = elim (cases_lt h (length xs)) [ inl low ↦ absurd (out (omega arith) (omega (arith, low))) | inr high ↦ high ] in
    ap (λ x. backs x page) (at-place xs (suc h) (omega arith) ∙ get_or_past xs (suc h - 1) untouched (omega (arith, past))) ∙ backs-whole false page

page_at : (page d : ℕ) → get_or (pages_of (page / 256)) (page % 256) d ≡ page
page_at page d = get_or-range_with_len (256 * (page / 256)) 256 (page % 256) d (omega arith) ∙ omega arith

numbered : (n h d : ℕ) → 0 < h → h ≤ n → get_or (range_with_len 1 n) (h - 1) d ≡ h
numbered n h d from to = get_or-range_with_len 1 n (h - 1) d (omega arith) ∙ omega arith

low_not : {a b : ℕ} → a ≤ b → b < a → ⊥
low_not low high = omega arith

before : (n h m : ℕ) → 0 < h → h ≤ n → m ≡ n → h - 1 < m
before n h m from to same = omega arith

in_row : (page : ℕ) → page % 256 < 256
in_row page = omega arith

none_there : (a b s all : ℕ) → a ≤ all → a ≡ b → b ≡ s → 0 < s → all ≡ 0 → ⊥
none_there a b s all least here opened some none = omega arith

-- where no hugepage may give a page, none may be unbacked
none_left : (heap : Heap) → total (left_in heap.runs) heap ≡ 0 → (page : ℕ) → may_unback heap page ≡ false
none_left heap none page =
    let h : ℕ = page / 256 in
    let x : Hugepage = hugepage heap h in
    let part : ℕ → ℕ = λ j. left_in heap.runs j (hugepage heap j) in
    let test : ℕ → Bool = λ p. backs x p && not (is_used heap.runs p) in
    false_from_ne_true (may_unback heap page) (λ may.
    let parts = and_parts _ _ may in
    let backed = and_parts _ _ parts.0 in
    elim (cases_lt 0 h) [
      | inr low ↦ false≢true (sym (outside heap.hugepages h page (λ from to. absurd (low_not low from))) ∙ backed.0)
      | inl from ↦ (elim (cases_lt (length heap.hugepages) h) [
        | inl high ↦ false≢true (sym (outside heap.hugepages h page (λ _from to. absurd (low_not to high))) ∙ backed.0)
        | inr to ↦
            (let len = length-range_with_len 1 (length heap.hugepages) in
            let least = get_or-le-sum_by part (numbers heap) (h - 1) 0 (before (length heap.hugepages) h (length (numbers heap)) from to len) in
            let here = ap part (numbered (length heap.hugepages) h 0 from to) in
            let opened : left_in heap.runs h x ≡ spare_of heap.runs h x = ap (λ b. cond b (spare_of heap.runs h x) 0) parts.1 in
            let size = length-range_with_len (256 * h) 256 in
            let some = count_some test (pages_of h) (page % 256) 0 (subst (λ m. page % 256 < m) (sym size) (in_row page)) (ap test (page_at page 0) ∙ parts.0) in
            absurd (none_there (part (get_or (numbers heap) (h - 1) 0)) (part h) (spare_of heap.runs h x) (total (left_in heap.runs) heap) least here opened some none))
      ])
    ])

-- A page that is backed before, and afterwards or not.
one_lost : (a b : Bool) → (b ≡ true → a ≡ true) → cond (a && not b) 1 0 + cond b 1 0 ≡ cond a 1 0
one_lost true true was = refl
one_lost true false was = refl
one_lost false false was = refl
one_lost false true was = absurd (false≢true (was refl))

backed_in : (h : ℕ) (x : Hugepage) → length x.backed ≡ 256 → backed_count x ≡ sum_by (λ p. cond (backs x p) 1 0) (pages_of h)
backed_in h x size = ap (count_by (λ b. b)) (own_backs h x size) ∙ sum-map' (λ b. cond b 1 0) (backs x) (pages_of h)

in_hugepage : (h page : ℕ) → 256 * h ≤ page → page < 256 * h + 256 → page / 256 ≡ h
in_hugepage h page from to = omega arith

module _ (heap after : Heap) (same : length after.hugepages ≡ length heap.hugepages) (none : (page : ℕ) → is_backed after page ≡ true → is_backed heap page ≡ true)
    (size : (h : ℕ) → 0 < h → h ≤ length heap.hugepages → length (hugepage heap h).backed ≡ 256)
    (size' : (h : ℕ) → 0 < h → h ≤ length heap.hugepages → length (hugepage after h).backed ≡ 256) where
  lost_here : (h : ℕ) → 0 < h → h ≤ length heap.hugepages → count_by (lost_backing heap after) (pages_of h) + backed_count (hugepage after h) ≡ backed_count (hugepage heap h)
  lost_here h from to =
      let x = hugepage heap h in
      let y = hugepage after h in
      let all = sum-adds (λ p. cond (lost_backing heap after p) 1 0) (λ p. cond (backs y p) 1 0) (λ p. cond (backs x p) 1 0) (pages_of h) (λ k d l.
      let page : ℕ = get_or (pages_of h) k d in
      let inside = range-within (256 * h) 256 k d l in
      let is : page / 256 ≡ h = in_hugepage h page inside.0 inside.1 in
      let before : is_backed heap page ≡ backs x page = ap (λ j. backs (hugepage heap j) page) is in
      let now : is_backed after page ≡ backs y page = ap (λ j. backs (hugepage after j) page) is in
      subst (λ b. cond (lost_backing heap after page) 1 0 + cond b 1 0 ≡ cond (backs x page) 1 0) now
      (subst (λ b. cond (lost_backing heap after page) 1 0 + cond (is_backed after page) 1 0 ≡ cond b 1 0) before (one_lost (is_backed heap page) (is_backed after page) (none page)))) in
      rw (backed_in h x (size h from to), backed_in h y (size' h from to)) all

  lost_all : unbacked_pages heap after + backed_pages after ≡ backed_pages heap
  lost_all =
      let all = sum-adds (λ h. count_by (lost_backing heap after) (pages_of h)) (λ h. backed_count (hugepage after h)) (λ h. backed_count (hugepage heap h)) (numbers heap)
      (λ k d l. let inside = range-within 1 (length heap.hugepages) k d l in lost_here (get_or (numbers heap) k d) inside.0 (omega (arith, inside.1))) in
      let now = backed_total after ∙ ap (λ n. sum_by (λ h. backed_count (hugepage after h)) (range_with_len 1 n)) same in
      rw (now, backed_total heap) all

balance_three : (g0 g1 g2 g3 b0 b1 b2 b3 pages : ℕ) → g1 + b0 ≡ g0 + b1 → g2 + b1 ≡ g1 + b2 → g3 + b2 ≡ g2 + b3 → b3 + pages ≡ b0 → g3 + pages ≡ g0
balance_three g0 g1 g2 g3 b0 b1 b2 b3 pages e f g all = omega arith

-- what a release leaves, and what it unbacked, is what it may unback
left_over : (heap : Heap) (n : ℕ) → IsSound heap → total (left_in heap.runs) (release heap n).heap + (release heap n).pages ≡ givable_pages heap
left_over heap n sound =
    let a : Released = free_given heap n in
    let b : Released = idle_given a.heap (n - a.pages) in
    let c : Released = spare_given b.heap (n - (a.pages + b.pages)) in
    let first = free_sound heap n sound in
    let second = idle_sound a.heap (n - a.pages) first in
    balance_three (total (left_in heap.runs) heap) (total (left_in heap.runs) a.heap) (total (left_in heap.runs) b.heap) (total (left_in heap.runs) c.heap)
    (backed_pages heap) (backed_pages a.heap) (backed_pages b.heap) (backed_pages c.heap) (release heap n).pages
    (free_balances heap sound n) (idle_balances a.heap first (n - a.pages)) (spare_balances b.heap second (n - (a.pages + b.pages))) (release_keeps heap n sound).counted
    ∙ sym (sum-filter (spare_pages heap) (may_give heap) (numbers heap))

pub release_does : ReleaseDoes
release_does heap n sound =
    let r : Released = release heap n in
    let kept = release_keeps heap n sound in
    let given = release_gives heap n sound in
    let left = left_over heap n sound in
    let same : length r.heap.hugepages ≡ length heap.hugepages = kept.sound.runs.arena ∙ sym sound.runs.arena in
    let lost = lost_all heap r.heap same (release_backs_none heap n)
    (λ h from to. (sound.runs.fit h (own heap sound h from to)).size)
    (λ h from to. (kept.sound.runs.fit h (own heap sound h from to)).size) in
    record {
      enough = elim (cases_lt r.pages n) [
        | inl fewer ↦ inr (none_left r.heap (omega (arith, left, given.all fewer)))
        | inr many ↦ inl many
      ];
      counted = omega (arith, lost, kept.counted);
      used = kept.used;
    }

-- A rule by which a release unbacks nothing does less, where a page is wanted that it may unback.
pub never_unbacks : (heap : Heap) (n page : ℕ) → 0 < n → may_unback heap page ≡ true → Unbacks heap n (record { heap = heap; pages = 0 }) → ⊥
never_unbacks heap n page some may does = elim does.enough [ inl enough ↦ omega (arith, some, enough) | inr none ↦ false≢true (sym (none page) ∙ may) ]

-- One by which it tells another number than it unbacked.
pub tells_another : (heap : Heap) (n : ℕ) (r : Released) (other : ℕ) → (other ≡ unbacked_pages heap r.heap → ⊥) → Unbacks heap n (record r { pages = other }) → ⊥
tells_another heap n r other apart does = apart does.counted
