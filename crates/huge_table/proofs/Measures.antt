-- The measures of a hugepage.
use Rattle.std.proofs.Common.{◌≡◌, ℕ, ◌+◌, ◌*◌, ◌<◌, ◌≤◌, Bool, true, false, length, get_or, count_by, max, sym, ap, ◌∙◌, arith}
use Rattle.huge_table.proofs.Common.{false≢true, false_from_ne_true, length-replicate, RowKind, count_le, count_some, longest, Heap, hugepage, whole}
use Rattle.huge_table.proofs.Common.{holds, reaches, is_used, is_kind, used_row, allocation_count, row_of, HasOneRun, IsSound}
use Rattle.huge_table.proofs.Common.{backs-whole, serves_at, holds_from, reaches_parts, reaches_from, same_member, is_run, nat_tests}
use Rattle.std.proofs.lemmas.List.Elements.{Contains-get_or}
use Rattle.tc_units.specs.declared.rows.RowKind.TheVariants as kind
use Rattle.tc_units.specs.declared.rows.RowView.{RowView}
use Rattle.heap_rules.proofs.Live.{counts_used}
use Rattle.huge_table.proofs.Pages.{row_is}
use Rattle.huge_table.proofs.Leaves.{is_Run}

made : RowKind → ℕ → ℕ → ℕ → ℕ → Bool → RowView
made kind used allocs backed longest donated = record { kind = kind; used = used; allocs = allocs; backed = backed; longest = longest; donated = donated }

pub same_view : (a b : RowView) → a.kind ≡ b.kind → a.used ≡ b.used → a.allocs ≡ b.allocs → a.backed ≡ b.backed → a.longest ≡ b.longest → a.donated ≡ b.donated → a ≡ b
unfolding made
same_view a b p q r s t u = grind (arith, nat_tests)

module _ (heap : Heap) (sound : IsSound heap) (h : ℕ) (one : HasOneRun heap.runs h) where
  holds_all : (page : ℕ) → 256 * h ≤ page → page < 256 * h + 256 → holds page one.run ≡ true
  holds_all page a b = holds_from page one.run (omega (arith, one.from)) (omega (arith, one.to))

  pub all_used : used_row heap.runs h ≡ whole true
  all_used = row_is (is_used heap.runs) h (whole true) (length-replicate 256 true) (λ page own.
      counts_used heap.runs page (count_some (holds page) heap.runs one.live.0 one.run one.live.1 (ap (holds page) one.live.2 ∙ holds_all page own.from own.to))
      ∙ sym (backs-whole true page))

  -- the one run is the only one that reaches the hugepage
  pub one_alloc : allocation_count heap.runs h ≡ 1
  one_alloc =
      let le = count_le (reaches h) (holds (256 * h)) heap.runs (λ k d l e. (let r = get_or heap.runs k d in
      let parts = reaches_parts h r e in
      let q : ℕ = max r.first.0 (256 * h) in
      let its : holds q r ≡ true = holds_from q r (omega arith) (omega (arith, (sound.runs.inside k d l).some)) in
      let mine : holds q one.run ≡ true = holds_all q (omega arith) (omega arith) in
      let is = same_member (holds q) heap.runs one.run r one.live (Contains-get_or heap.runs k d l) mine its (sound.runs.disjoint q) in
      ap (holds (256 * h)) (sym is) ∙ holds_all (256 * h) (omega arith) (omega arith))) in
      let most = sound.runs.disjoint (256 * h) in
      grind (arith, nat_tests, count_some, reaches_from)

-- A hugepage that one run has whole.
pub run_row_is : (heap : Heap) (h : ℕ) (row : RowView) → IsSound heap → 0 < h → h ≤ length heap.hugepages → is_run (hugepage heap h) ≡ true →
    row ≡ record { kind = kind.Run; used = 256; allocs = 1; backed = 256; longest = 0; donated = false } → row ≡ row_of heap h
run_row_is heap h row sound some inside run e =
    let x = hugepage heap h in
    let of_run = is_Run x.kind run in
    let fit = sound.runs.fit h (record { from = some; to = omega arith }) in
    let serves = serves_at heap.runs heap.regions heap.config.region h x kind.Run of_run fit in
    e ∙ same_view _ (row_of heap h) (sym of_run)
    (sym (ap (λ r. count_by (λ b. b) r) (all_used heap sound h serves.0)))
    (sym (one_alloc heap sound h serves.0))
    (sym (ap (λ r. count_by (λ b. b) r) serves.1))
    (sym (ap longest (all_used heap sound h serves.0)))
    (sym (false_from_ne_true x.donated (λ d. false≢true (sym (ap (is_kind kind.Filler) of_run) ∙ fit.donated d))))
