-- A release keeps the runs, and unbacks no page that one of them holds.
use Rattle.std.proofs.Common.{◌≡◌, ℕ, ◌+◌, ◌-◌, ◌*◌, ◌<◌, ◌≤◌, Bool, true, false, ◌&&◌, cond, List, length, map, count_by, refl, sym, subst, ◌∙◌, inl, inr}
use Rattle.std.proofs.Common.{arith}
use Rattle.std.specs.List.{list_all}
use Rattle.std.proofs.lemmas.Bool.{cases_Bool, and_parts, eqb-true, false≢true, false_from_ne_true}
use Rattle.std.proofs.lemmas.List.{length-replicate}
use Rattle.std.proofs.lemmas.List.FromFn.{length-map-range_with_len, get_or-map-range_with_len}
use Rattle.std.proofs.lemmas.Bool.Decides.{nat_tests}
use Rattle.tc_units.specs.declared.spans.Run.{Run}
use Rattle.tc_units.specs.declared.rows.RowKind.TheVariants as kind
use Rattle.heap_rules.specs.Heap.{Heap, Hugepage, hugepage, numbers, backed_count, backed_pages, is_used, is_free_backed, is_filler, is_region, backs, used_from, used_count}
use Rattle.heap_rules.specs.Numbered.{at_number}
use Rattle.heap_rules.specs.Settle.{unbacked}
use Rattle.heap_rules.specs.GiveUp.{gives_whole, gives_spare}
use Rattle.heap_rules.specs.Release.{Released, whole_given, free_given, is_idle, idle_given, spare_row, only_used, spare_given, release}
use Rattle.heap_rules.specs.Sound.{IsHugepageOf, HasNoUsed, IsFit, IsSound}
use Rattle.heap_rules.specs.Laws.{ReleaseKeeps}
use Rattle.tc_units.proofs.Counts.{count_some}
use Rattle.heap_rules.proofs.Places.{backs-map, map-at, idle_at, spare_rows}
use Rattle.heap_rules.proofs.Fits.{serves_at, is_Region}
use Rattle.heap_rules.proofs.Accounts.{all_counted, whole_counts, spare_counts}
use Rattle.heap_rules.proofs.Fillers.{is_Filler}
use Rattle.heap_rules.proofs.Remade.{IsRemade, Remakes, remade_same}
use Rattle.heap_rules.proofs.Settled.{remade_unbacked, remade_not}

-- a range of pages of which none is counted as used
none_counted : (runs : List Run) (first many p : ℕ) → first ≤ p → p < first + many → count_by (λ b. b) (used_from runs first many) ≡ 0 → is_used runs p ≡ false
none_counted runs first many p a b e =
    let len = length-map-range_with_len (is_used runs) first many in
    false_from_ne_true (is_used runs p) (λ t.
    let at = get_or-map-range_with_len (is_used runs) first many (p - first) p false (omega arith) (omega arith) in
    let some = count_some (λ b. b) (used_from runs first many) (p - first) false (omega arith) (at ∙ t) in
    omega arith)

-- a hugepage without used pages
pub none_used : (runs : List Run) (h : ℕ) → used_count runs h ≡ 0 → HasNoUsed runs h
none_used runs h e p own = none_counted runs (256 * h) 256 p own.from own.to e

-- the filler's hugepages back their used pages alone
remade_used : (runs : List Run) (regions : List ℕ) (width h : ℕ) (x : Hugepage) → is_filler x ≡ true → IsFit runs regions width h x → IsRemade runs regions width h x (only_used runs h x)
remade_used runs regions width h x filler fit =
    let test : ℕ → Bool = λ page. backs x page && is_used runs page in
    let k = is_Filler x.kind filler in
    grind (arith, nat_tests, length-map-range_with_len test (256 * h) 256, serves_at runs regions width h x kind.Filler k fit, backs-map test h)

pub spare_sound : (heap : Heap) (n : ℕ) → IsSound heap → IsSound (spare_given heap n).heap
spare_sound heap n sound =
    let asked : ℕ → Hugepage → Bool = λ h x. is_filler x && gives_spare (spare_rows heap) n (spare_row heap h) in
    remade_same heap (λ h x. cond (asked h x) (only_used heap.runs h x) x) heap.counts sound (λ h is.
    let x = hugepage heap h in
    let fit = sound.runs.fit h is in
    let P : Bool → Type 0 = λ b. IsRemade heap.runs heap.regions heap.config.region h x (cond b (only_used heap.runs h x) x) in
    elim (cases_Bool (asked h x)) [
      | inl t ↦ subst P (sym t) (remade_used heap.runs heap.regions heap.config.region h x (and_parts _ _ t).0 fit)
      | inr s ↦ subst P (sym s) (remade_not heap.runs heap.regions heap.config.region h x fit)
    ]) (λ h x e. elim (asked h x) as (λ b. is_region (cond b (only_used heap.runs h x) x) ≡ true) [ true ↦ e | false ↦ e ])

-- A hugepage without used pages gives all of them.
remade_idle : (runs : List Run) (regions : List ℕ) (width h : ℕ) (x : Hugepage) → is_region x ≡ true → HasNoUsed runs h → IsFit runs regions width h x
    → IsRemade runs regions width h x (unbacked x)
remade_idle runs regions width h x region none fit = grind (arith, false≢true, is_Region, length-replicate, serves_at)

-- hugepages that give whole, where what the flag says suffices
whole_sound : (flags : List Bool) (heap : Heap) (n : ℕ) → IsSound heap → ((h : ℕ) → IsHugepageOf heap.config.huge h → at_number false flags h ≡ true → Remakes heap h (hugepage heap h) (unbacked (hugepage heap h)))
    → IsSound (whole_given flags heap n).heap
whole_sound flags heap n sound flagged =
    remade_same heap (λ h x. cond (gives_whole flags n h) (unbacked x) x) heap.counts sound (λ h is.
    let x = hugepage heap h in
    let P : Bool → Type 0 = λ b. Remakes heap h x (cond b (unbacked x) x) in
    elim (cases_Bool (gives_whole flags n h)) [
      | inl t ↦ subst P (sym t) (flagged h is (and_parts _ _ t).0)
      | inr s ↦ subst P (sym s) (remade_not heap.runs heap.regions heap.config.region h x (sound.runs.fit h is))
    ]) (λ h x e. elim (gives_whole flags n h) as (λ b. is_region (cond b (unbacked x) x) ≡ true) [ true ↦ e | false ↦ e ])

pub free_sound : (heap : Heap) (n : ℕ) → IsSound heap → IsSound (free_given heap n).heap
free_sound heap n sound =
    whole_sound (map is_free_backed heap.hugepages) heap n sound (λ h is e.
    let len = sound.runs.arena in
    let ready : is_free_backed (hugepage heap h) ≡ true = sym (map-at is_free_backed heap.hugepages h false is.from (omega (arith, is.to))) ∙ e in
    remade_unbacked heap.runs heap.regions heap.config.region h (hugepage heap h) (and_parts _ _ ready).0 (sound.runs.fit h is))

pub idle_sound : (heap : Heap) (n : ℕ) → IsSound heap → IsSound (idle_given heap n).heap
idle_sound heap n sound =
    whole_sound (map (is_idle heap) (numbers heap)) heap n sound (λ h is e.
    let len = sound.runs.arena in
    let idle : is_idle heap h ≡ true = sym (idle_at heap h is.from (omega (arith, is.to))) ∙ e in
    let parts = and_parts _ _ (and_parts _ _ idle).0 in
    remade_idle heap.runs heap.regions heap.config.region h (hugepage heap h) parts.0 (none_used heap.runs h (eqb-true (used_count heap.runs h) 0 parts.1)) (sound.runs.fit h is))

-- the pages of each step
full : (x : Hugepage) → length x.backed ≡ 256 → list_all (λ b. b) x.backed ≡ true → backed_count x ≡ 256
full x size all = all_counted x.backed all ∙ size

pub free_counts : (heap : Heap) (n : ℕ) → IsSound heap → backed_pages (free_given heap n).heap + (free_given heap n).pages ≡ backed_pages heap
free_counts heap n sound =
    whole_counts (map is_free_backed heap.hugepages) heap n (λ h from to e.
    let len = sound.runs.arena in
    let ready : is_free_backed (hugepage heap h) ≡ true = sym (map-at is_free_backed heap.hugepages h false from (omega arith)) ∙ e in
    full (hugepage heap h) (sound.runs.fit h (record { from = from; to = omega arith })).size (and_parts _ _ ready).1)

pub idle_counts : (heap : Heap) (n : ℕ) → IsSound heap → backed_pages (idle_given heap n).heap + (idle_given heap n).pages ≡ backed_pages heap
idle_counts heap n sound =
    whole_counts (map (is_idle heap) (numbers heap)) heap n (λ h from to e.
    let len = sound.runs.arena in
    let idle : is_idle heap h ≡ true = sym (idle_at heap h from (omega arith)) ∙ e in
    full (hugepage heap h) (sound.runs.fit h (record { from = from; to = omega arith })).size (and_parts _ _ idle).1)

within : (heap : Heap) (h : ℕ) → length heap.hugepages ≡ heap.config.huge → h < 1 + length heap.hugepages → h ≤ heap.config.huge
within heap h e l = omega arith

add_up : (x y z w a b c : ℕ) → x + a ≡ w → y + b ≡ x → z + c ≡ y → z + (a + b + c) ≡ w
add_up x y z w a b c e f g = omega arith

pub release_keeps : ReleaseKeeps
release_keeps heap n sound =
    let a : Released = free_given heap n in
    let b : Released = idle_given a.heap (n - a.pages) in
    let c : Released = spare_given b.heap (n - (a.pages + b.pages)) in
    let first = free_sound heap n sound in
    let second = idle_sound a.heap (n - a.pages) first in
    let after : IsSound (release heap n).heap = spare_sound b.heap (n - (a.pages + b.pages)) second in
    let len = second.runs.arena in
    record {
      runs = refl;
      config = refl;
      sound = after;
      used = λ p e. after.runs.backed p e;
      counted = add_up (backed_pages a.heap) (backed_pages b.heap) (backed_pages c.heap) (backed_pages heap) a.pages b.pages c.pages (free_counts heap n sound) (idle_counts a.heap (n - a.pages) first)
          (spare_counts b.heap (n - (a.pages + b.pages)) (λ h from to. (second.runs.fit h (record { from = from; to = within b.heap h len to })).size));
    }
