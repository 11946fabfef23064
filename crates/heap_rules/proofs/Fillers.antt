-- The filler's route.
use Rattle.std.proofs.Common.{◌≡◌, ℕ, ◌+◌, ◌-◌, ◌*◌, ◌<◌, ◌≤◌, true, false, ◌||◌, List, length, get_or, filter, All, Contains, Some, refl, sym, subst, ◌∙◌}
use Rattle.std.proofs.Common.{arith}
use Rattle.std.proofs.lemmas.Bool.{or_left, or_right, false≢true}
use Rattle.std.proofs.lemmas.List.{length-map, get_or-map}
use Rattle.std.proofs.lemmas.List.FromFn.{length-map-range_with_len, get_or-map-range_with_len}
use Rattle.std.proofs.lemmas.List.Elements.{All-filter, filter_passes, Contains-get_or}
use Rattle.tc_units.specs.declared.spans.Run.{Run}
use Rattle.tc_units.specs.declared.rows.RowKind.{RowKind}
use Rattle.tc_units.specs.declared.rows.RowKind.TheVariants as kind
use Rattle.range_bits.specs.Ranges.{best}
use Rattle.heap_rules.specs.Heap.{Heap, Hugepage, hugepage, numbers, holds, is_used, is_filler, is_kind, run_at, backs, used_from}
use Rattle.heap_rules.specs.FillerRows.{FillerRow, has_room}
use Rattle.heap_rules.specs.Choice.{filler_rows}
use Rattle.heap_rules.specs.New.{placed, more_backed}
use Rattle.heap_rules.specs.Sound.{IsFit, IsSound}
use Rattle.heap_rules.specs.Laws.{IsGiven}
use Rattle.range_bits.proofs.RangeLemmas.{range-within, best-at, free_fits, free_at}
use Rattle.heap_rules.proofs.Places.{backs-map, filler_row}
use Rattle.heap_rules.proofs.Fits.{holds_parts, reaches_parts, used_more, serves_at}
use Rattle.heap_rules.proofs.Grown.{IsTurned}
use Rattle.heap_rules.proofs.Routes.{given_by}

-- unused pages at a place among pages
pub record AreUnused (runs : List Run) (first many s n : ℕ) : Type 0 where
  pub to : s + n ≤ many
  pub unused : (p : ℕ) → first + s ≤ p → p < first + s + n → is_used runs p ≡ false

pub unused_at : (runs : List Run) (first many n s : ℕ) → 0 < n → best (used_from runs first many) n ≡ Some s → AreUnused runs first many s n
unused_at runs first many n s some e =
    let row = used_from runs first many in
    let is = best-at row n s e in
    let len = length-map-range_with_len (is_used runs) first many in
    let fits' : s + n ≤ length row = free_fits row s n some is.1 in
    record {
      to = omega arith;
      unused = λ p a b.
          (let k : ℕ = p - (first + s) in
          sym (get_or-map-range_with_len (is_used runs) first many (s + k) p true (omega arith) (omega arith)) ∙ free_at row s n k true is.1 (omega arith));
    }

pub is_Filler : (k : RowKind) → is_kind kind.Filler k ≡ true → k ≡ kind.Filler
is_Filler kind.Filler e = refl
is_Filler k e = absurd (false≢true e)

-- a row of the filler, with room
pub record IsFitting (heap : Heap) (n h : ℕ) : Type 0 where
  pub from : 0 < h
  pub to : h ≤ length heap.hugepages
  pub filler : is_filler (hugepage heap h) ≡ true

pub record IsRowWithRoom (heap : Heap) (n : ℕ) (row : FillerRow) : Type 0 where
  pub number : ℕ
  pub row_is : row ≡ filler_row heap number
  pub fitting : IsFitting heap n number
  pub room : has_room n row ≡ true
  pub known : Contains (filler_rows heap) row

pub rows_fit : (heap : Heap) (n : ℕ) → All (IsRowWithRoom heap n) (filter (has_room n) (filler_rows heap))
rows_fit heap n k d l =
    let fillers : List ℕ = filter (λ h. is_filler (hugepage heap h)) (numbers heap) in
    let row = get_or (filter (has_room n) (filler_rows heap)) k d in
    let known : Contains (filler_rows heap) row = All-filter (has_room n) (Contains (filler_rows heap)) (filler_rows heap) (λ i c j. Contains-get_or (filler_rows heap) i c j) k d l in
    let len = length-map fillers (filler_row heap) in
    let short : known.0 < length fillers = omega (arith, known.1) in
    let number = get_or fillers known.0 0 in
    let near = All-filter (λ h. is_filler (hugepage heap h)) (λ h. (1 ≤ h) × (h < 1 + length heap.hugepages)) (numbers heap) (range-within 1 (length heap.hugepages)) known.0 0 short in
    record {
      number = number;
      row_is = sym known.2 ∙ get_or-map (filler_row heap) fillers known.0 0 row short;
      fitting = record { from = omega (arith, near.0); to = omega (arith, near.1); filler = filter_passes (λ h. is_filler (hugepage heap h)) (numbers heap) known.0 0 short };
      room = filter_passes (has_room n) (filler_rows heap) k d l;
      known = known;
    }

module _ (heap : Heap) (n h s : ℕ) (sound : IsSound heap) (some : 0 < n) (is : IsFitting heap n h) (are : AreUnused heap.runs (256 * h) 256 s n) where
  abbrev run : Run
  run = run_at (256 * h + s) n

  turned_own : (x : Hugepage) → is_filler x ≡ true → IsFit heap.runs heap.regions heap.config.region h x → IsTurned heap.runs heap.regions heap.config.region run h x (more_backed run h x)
  turned_own x filler fit =
      grind (
        arith,
        is_Filler x.kind filler,
        length-map-range_with_len (λ page. backs x page || holds page run) (256 * h) 256,
        used_more run heap.runs h,
        serves_at heap.runs heap.regions heap.config.region h x kind.Filler,
        backs-map (λ page. backs x page || holds page run) h,
        or_right,
        or_left,
      )

  pub given_filler : IsGiven heap n (placed heap (256 * h + s) n (more_backed run))
  given_filler =
      let len = sound.runs.arena in
      given_by heap (256 * h + s) n (more_backed run) sound (record { some = some; from = omega (arith, is.from); to = omega (arith, is.to, are.to) })
      (λ p e. let parts = holds_parts p run e in are.unused p parts.0 parts.1) (λ k in_arena e.
      let parts = reaches_parts k run e in
      let same : h ≡ k = omega (arith, are.to) in
      let P : ℕ → Type 0 = λ j. IsTurned heap.runs heap.regions heap.config.region run j (hugepage heap j) (more_backed run j (hugepage heap j)) in
      subst P same (turned_own (hugepage heap h) is.filler (sound.runs.fit h (record { from = is.from; to = omega (arith, is.to) }))))
