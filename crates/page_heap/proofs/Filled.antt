-- Runs below a hugepage's pages, in a hugepage of the filler that has room.
use Rattle.std.proofs.Common.{◌≡◌, ℕ, ◌+◌, ◌*◌, ◌/◌, ◌%◌, ◌^◌, ◌<◌, ◌≤◌, true, false, cond, filter, length, Option, Some, None, IfSome, option_map, option_and_then, refl, sym, ap}
use Rattle.std.proofs.Common.{subst, ◌∙◌, inl, inr, arith}
use Rattle.tc_units.specs.declared.rows.RowKind.TheVariants as kind
use Rattle.page_heap.proofs.Common.{none-some, Run, best, first_least, first_least-all, Heap, Hugepage, hugepage, reaches, run_at, used_row, is_free}
use Rattle.page_heap.proofs.Common.{is_filler, is_region, is_kind, FillerRow, filler_place, filler_rows}
use Rattle.page_heap.proofs.Common.{more_backed, in_filler, IsHugepageOf, IsSound, IsGiven, mapped, IsFitting, IsRowWithRoom, rows_fit, AreUnused}
use Rattle.page_heap.proofs.Common.{unused_at, given_filler, is_Filler, at, here, reaches_parts, is_Free, IsSpan, Inside, IsRouted, remeasured}
use Rattle.heap_rules.specs.FillerRows.{is_preferred, has_room}
use Rattle.page_heap.proofs.Steps.{came}
use Rattle.page_heap.proofs.Frames.{measures_step, cache_step, regions_away}
use Rattle.page_heap.proofs.Routed.{routed_with}
use Rattle.page_heap.proofs.Results.{IsHeap, IsMade, fits_used, came_made}

-- A place in the filler: its hugepage, and the run that lies there.
pub record IsFilled (heap : Heap) (n page : ℕ) : Type 0 where
  pub fitting : IsFitting heap n (page / 256)
  pub fits : page % 256 + n ≤ 256
  pub given : IsGiven heap n (in_filler heap n page)

filled_at : (heap : Heap) (n page h s : ℕ) → IsSound heap → 0 < n → IsFitting heap n h → AreUnused heap.runs (256 * h) 256 s n → 256 * h + s ≡ page → IsFilled heap n page
filled_at heap n page h s sound some fit are e =
    let huge : h ≡ page / 256 = omega (arith, are.to) in
    record {
      fitting = subst (IsFitting heap n) huge fit;
      fits = omega (arith, are.to);
      given = subst (λ p. IsGiven heap n (in_filler heap n p)) e (given_filler heap n h s sound some fit are);
    }

filled_by : (heap : Heap) (n page : ℕ) → IsSound heap → 0 < n → (o : Option FillerRow) → IfSome o (IsRowWithRoom heap n)
    → option_and_then (λ (row : FillerRow). option_map (λ start. 256 * row.number + start) (best row.used n)) o ≡ Some page → IsFilled heap n page
filled_by heap n page sound some None is e = absurd (none-some page e)
filled_by heap n page sound some (Some row) is e =
    let of = mapped (λ start. 256 * row.number + start) (best row.used n) page e in let s : ℕ = of.0 in
    let h : ℕ = is.number in let at : row.number ≡ h = ap (λ (r : FillerRow). r.number) is.row_is in
    let place : best (used_row heap.runs h) n ≡ Some s = ap (λ (r : FillerRow). best r.used n) (sym is.row_is) ∙ of.1 in
    filled_at heap n page h s sound some is.fitting (unused_at heap.runs (256 * h) 256 n s some place) (ap (λ k. 256 * k + s) (sym at) ∙ of.2)

filled : (heap : Heap) (n page : ℕ) → IsSound heap → 0 < n → filler_place (filler_rows heap) n ≡ Some page → IsFilled heap n page
filled heap n page sound some e = filled_by heap n page sound some (first_least is_preferred (filter (has_room n) (filler_rows heap)))
    (first_least-all (IsRowWithRoom heap n) is_preferred (filter (has_room n) (filler_rows heap)) (rows_fit heap n)) e

pub filler_not_free : (x : Hugepage) → is_filler x ≡ true → is_free x ≡ false
filler_not_free x e = ap (is_kind kind.Free) (is_Filler x.kind e)

filler_not_region : (x : Hugepage) → is_filler x ≡ true → is_region x ≡ false
filler_not_region x e = ap (is_kind kind.Region) (is_Filler x.kind e)

pub free_not_filler : (x : Hugepage) → is_free x ≡ true → is_filler x ≡ false
free_not_filler x e = ap (is_kind kind.Filler) (is_Free x.kind e)

-- What the calls ask as a run comes there, and what it makes.
pub record IsJoining (old : Inside) (heap : Heap) (n page : ℕ) : Type 0 where
  pub own : IsHugepageOf heap.config.huge (page / 256)
  pub near : page < 1048832
  pub span : IsSpan old.table (page / 256) 1 is_filler
  pub ends : page % 256 + n ≤ 256
  pub fits : old.used + n < 2 ^ 64
  pub sound : IsSound (in_filler heap n page).heap
  pub makes : IsMade (in_filler heap n page).heap old.config (remeasured old.filler (in_filler heap n page).heap (page / 256)) old.cache old.regions (old.used + n)

near_of : (page huge : ℕ) → page / 256 ≤ huge → huge ≤ 4096 → page < 1048832
near_of page huge a b = omega arith

module _ (old : Inside) (heap : Heap) (is : IsHeap old heap) (n page : ℕ) (some : 0 < n) (below : n < 256) (place : filler_place (filler_rows heap) n ≡ Some page) where
  sound : IsSound heap
  sound = is.well.sound

  is_filled : IsFilled heap n page
  is_filled = filled heap n page sound some place

  abbrev h : ℕ
  h = page / 256

  abbrev run : Run
  run = run_at page n

  abbrev g : ℕ → Hugepage → Hugepage
  g k x = more_backed run k x

  abbrev f : ℕ → Hugepage → Hugepage
  f k x = cond (reaches k run) (g k x) x

  abbrev after : Heap
  after = (in_filler heap n page).heap

  own : IsHugepageOf heap.config.huge h
  own = let arena = sound.runs.arena in record { from = is_filled.fitting.from; to = omega (arith, is_filled.fitting.to) }

  -- it reaches no other hugepage
  only : (k : ℕ) → reaches k run ≡ true → k ≡ h
  only k e = let parts = reaches_parts k run e in omega (arith, is_filled.fits, parts.0, parts.1)

  filler_there : (k : ℕ) → reaches k run ≡ true → is_filler (hugepage heap k) ≡ true
  filler_there k e = ap (λ i. is_filler (hugepage heap i)) (only k e) ∙ is_filled.fitting.filler

  same_kind : (k : ℕ) → (f k (hugepage heap k)).kind ≡ (hugepage heap k).kind
  same_kind k = elim (reaches k run) as (λ b. (cond b (g k (hugepage heap k)) (hugepage heap k)).kind ≡ (hugepage heap k).kind) [ true ↦ refl | false ↦ refl ]

  own_route : IsRouted after run
  own_route = inl (record {
    filler = ap (λ (x : Hugepage). x.kind) (here heap after.runs heap.regions f heap.counts sound.runs h own) ∙ same_kind h ∙ is_Filler (hugepage heap h).kind is_filled.fitting.filler;
    ends = is_filled.fits;
    below = below;
  })

  pub joining : IsJoining old heap n page
  joining =
      let step = came run heap.runs in let given = is_filled.given in
      record {
        own = own;
        near = near_of _ _ own.to is.well.limits.huge_to;
        span = record {
          from = own.from;
          to = (let size = ap length is.shows.means.pages in omega (arith, is_filled.fitting.to));
          all = λ k a b. (let same : h ≡ k = omega arith in ap (λ xs. is_filler (at xs k)) is.shows.means.pages ∙ subst (λ i. is_filler (hugepage heap i) ≡ true) same is_filled.fitting.filler);
        };
        ends = is_filled.fits;
        fits = fits_used old heap is n (in_filler heap n page) some given;
        sound = given.sound;
        makes = came_made old heap is n (in_filler heap n page) some given _ _ _
            (routed_with heap after.runs heap.regions heap.counts run sound is.well.routed f (λ r known. known) (λ k _. inr (same_kind k)) own_route)
            (ap (λ rows. remeasured rows after h) is.shows.filler ∙ measures_step heap after.runs g run sound.runs step h own (λ k _ ne e. absurd (ne (only k e))))
            (is.shows.cache ∙ cache_step heap after.runs g run sound.runs step (λ k _ e. (let none = filler_not_free (hugepage heap k) (filler_there k e) in (none, none))))
            (is.shows.regions ∙ regions_away heap after.runs g run sound.runs step sound.regions (λ k e. filler_not_region (hugepage heap k) (filler_there k e)));
      }
