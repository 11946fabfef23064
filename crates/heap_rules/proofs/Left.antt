-- A run leaves a sound heap.
use Rattle.std.proofs.Common.{◌≡◌, ℕ, zero, suc, ◌+◌, ◌*◌, ◌<◌, ◌≤◌, ◌==◌, Bool, true, false, not, cond, max, List, [], ◌∷◌, length, get_or, count_by}
use Rattle.std.proofs.Common.{Contains, refl, sym, ap, subst, ◌∙◌, inl, inr, arith}
use Rattle.std.specs.List.{list_all}
use Rattle.std.proofs.lemmas.Bool.{cases_Bool, cases_eq, lt-ltb, ne_eqb, eqb-true, false≢true, not_from_false}
use Rattle.std.proofs.lemmas.List.{length-replicate, get_or_default}
use Rattle.std.proofs.lemmas.List.Elements.{All-filter, All-contains}
use Rattle.std.proofs.lemmas.List.Folds.{Any-from_list_any}
use Rattle.std.proofs.lemmas.Bool.Decides.{nat_tests}
use Rattle.tc_units.specs.declared.spans.Run.{Run}
use Rattle.tc_units.specs.declared.rows.RowKind.{RowKind}
use Rattle.tc_units.specs.declared.rows.RowKind.TheVariants as kind
use Rattle.heap_rules.specs.Heap.{Heap, Hugepage, hugepage, holds, is_used, is_region, is_kind, without_run, reaches, allocation_count, spans}
use Rattle.heap_rules.specs.Free.{emptied, left_by, left}
use Rattle.heap_rules.specs.Sound.{IsInside, HasNoUsed, HasUsed, HasOneRun, Serves, IsFit, IsRegion, AreRunsSound, IsSound}
use Rattle.tc_units.proofs.Counts.{count-cons, count_some, count_le, any_is_count, one-true, one-false}
use Rattle.heap_rules.proofs.Places.{backs-whole}
use Rattle.heap_rules.proofs.Live.{used_counts, counts_used, unused_counts, counts_unused, count-without, Contains-filter}
use Rattle.heap_rules.proofs.Fits.{holds_from, reaches_parts, reaches_from, holds_reaches, unreached_unheld, serves_at}
use Rattle.heap_rules.proofs.Remade.{AreRemade, IsRemade, AreFewer, remade_sound, region_kinds}
use Rattle.heap_rules.proofs.Settled.{remade_not}

-- two elements that pass a test that at most one passes are one
same_one : {X : Type 0} (p : X → Bool) (xs : List X) (i j : ℕ) (d : X) → i < length xs → j < length xs → p (get_or xs i d) ≡ true → p (get_or xs j d) ≡ true
    → count_by p xs ≤ 1 → get_or xs i d ≡ get_or xs j d
same_one p [] i j d a b s t most = absurd (omega arith)
same_one p (x ∷ xs) zero zero d a b s t most = refl
same_one p (x ∷ xs) zero (suc j) d a b s t most =
    let e = count-cons p x xs in let one = one-true (p x) s in let more = count_some p xs j d (omega arith) t in absurd (omega arith)
same_one p (x ∷ xs) (suc i) zero d a b s t most =
    let e = count-cons p x xs in let one = one-true (p x) t in let more = count_some p xs i d (omega arith) s in absurd (omega arith)
same_one p (x ∷ xs) (suc i) (suc j) d a b s t most = let e = count-cons p x xs in same_one p xs i j d (omega arith) (omega arith) s t (omega arith)

-- a member of a list at its place, by any other read
member : {X : Type 0} (P : X → Type 0) (xs : List X) (x d : X) → (has : Contains xs x) → P x → get_or xs has.0 x ≡ get_or xs has.0 d → P (get_or xs has.0 d)
member P xs x d has h e = subst P (sym has.2 ∙ e) h

pub same_member : {X : Type 0} (p : X → Bool) (xs : List X) (x y : X) → Contains xs x → Contains xs y → p x ≡ true → p y ≡ true → count_by p xs ≤ 1 → x ≡ y
same_member p xs x y a b s t most = grind (arith, get_or_default xs b.0 x y b.1, p (get_or xs b.0 x), p (get_or xs a.0 x), same_one p xs a.0 b.0 x a.1 b.1)

module _ (heap : Heap) (run : Run) (sound : IsSound heap) (live : Contains heap.runs run) where
  abbrev pub rest : List Run
  rest = without_run run heap.runs

  abbrev width : ℕ
  width = heap.config.region

  pub live_inside : IsInside heap.config.huge run
  live_inside = All-contains (IsInside heap.config.huge) heap.runs run sound.runs.inside live

  -- a run begins at a page that it holds
  begins : (r : Run) → IsInside heap.config.huge r → holds r.first.0 r ≡ true
  begins r inside = holds_from r.first.0 r (omega arith) (omega (arith, inside.some))

  one_begins : count_by (λ r. r.first.0 == run.first.0) heap.runs ≤ 1
  one_begins =
      let le = count_le (λ (r : Run). r.first.0 == run.first.0) (holds run.first.0) heap.runs
      (λ k d l e. subst (λ p. holds p (get_or heap.runs k d) ≡ true) (eqb-true _ run.first.0 e) (begins (get_or heap.runs k d) (sound.runs.inside k d l))) in
      let most = sound.runs.disjoint run.first.0 in
      omega arith

  pub count_rest : (p : Run → Bool) → count_by p rest + cond (p run) 1 0 ≡ count_by p heap.runs
  count_rest p = grind (arith, nat_tests, p, count-without p (λ (r : Run). r.first.0 == run.first.0) heap.runs live.0 run live.1, one_begins)

  pub fewer : AreFewer heap rest
  fewer = record {
    disjoint = λ p. (let a = count_rest (holds p) in let b = sound.runs.disjoint p in omega arith);
    inside = All-filter (λ r. not (r.first.0 == run.first.0)) (IsInside heap.config.huge) heap.runs sound.runs.inside;
    used = λ p e. (let a = count_rest (holds p) in let b = used_counts rest p e in counts_used heap.runs p (omega arith));
  }

  -- a page that the run held is unused, and others stay used
  pub unused_rest : (p : ℕ) → holds p run ≡ true → is_used rest p ≡ false
  unused_rest p e = let a = count_rest (holds p) in let b = sound.runs.disjoint p in let one = one-true (holds p run) e in counts_unused rest p (omega arith)

  pub used_rest : (p : ℕ) → holds p run ≡ false → is_used heap.runs p ≡ true → is_used rest p ≡ true
  used_rest p f e = let a = count_rest (holds p) in let b = used_counts heap.runs p e in let none = one-false (holds p run) f in counts_used rest p (omega arith)

  pub still_unused : (p : ℕ) → is_used heap.runs p ≡ false → is_used rest p ≡ false
  still_unused p e = let a = count_rest (holds p) in let b = unused_counts heap.runs p e in counts_unused rest p (omega arith)

  none_rest : (h : ℕ) → HasNoUsed heap.runs h → HasNoUsed rest h
  none_rest h none p own = still_unused p (none p own)

  -- The hugepages that the run does not reach.
  one_rest : (h : ℕ) → reaches h run ≡ false → HasOneRun heap.runs h → HasOneRun rest h
  one_rest h e one =
      let other = one.run in
      let away : (other.first.0 ≡ run.first.0) → ⊥ = (λ same.
      (let inside = All-contains (IsInside heap.config.huge) heap.runs other sound.runs.inside one.live in
      let P : ℕ → Type 0 = λ p. holds p other ≡ true in
      let is : other ≡ run = same_member (holds run.first.0) heap.runs other run one.live live (subst P same (begins other inside)) (begins run live_inside) (sound.runs.disjoint run.first.0) in
      let there : reaches h other ≡ true = reaches_from h other (omega (arith, one.from, one.to)) (omega (arith, one.from, one.to)) in
      false≢true (sym e ∙ ap (reaches h) (sym is) ∙ there))) in
      let at : get_or heap.runs one.live.0 other ≡ other = one.live.2 in
      let pass = ap (λ (r : Run). not (r.first.0 == run.first.0)) at ∙ not_from_false _ (ne_eqb other.first.0 run.first.0 away) in
      record {
        run = other;
        live = subst (Contains rest) at (Contains-filter (λ r. not (r.first.0 == run.first.0)) heap.runs one.live.0 other one.live.1 pass);
        from = one.from;
        to = one.to;
      }

  serves_rest : (h : ℕ) (x : Hugepage) (k : RowKind) → reaches h run ≡ false → Serves heap.runs heap.regions width h x k → Serves rest heap.regions width h x k
  serves_rest h x kind.Free e s = (none_rest h s.0, s.1)
  serves_rest h x kind.Filler e s = record { page = s.page; own = s.own; used = used_rest s.page (unreached_unheld h s.page run s.own e) s.used }
  serves_rest h x kind.Run e s = (one_rest h e s.0, s.1)
  serves_rest h x kind.Region e s = s

  -- The hugepages that it reaches, by what they serve.
  pub none_reach : (h : ℕ) → allocation_count rest h ≡ 0 → HasNoUsed rest h
  none_reach h e p own = grind (arith, count_le, holds_reaches, counts_unused)

  pub some_reach : (h : ℕ) → 0 < allocation_count rest h → HasUsed rest h
  some_reach h some =
      let any = Any-from_list_any (reaches h) rest (any_is_count (reaches h) rest ∙ lt-ltb 0 (count_by (reaches h) rest) some) in
      let r = any.1 in
      let inside : IsInside heap.config.huge r = All-contains (IsInside heap.config.huge) rest r fewer.inside (any.0, any.2, any.3) in
      let parts = reaches_parts h r any.4 in
      let p : ℕ = max r.first.0 (256 * h) in
      let held : holds p r ≡ true = holds_from p r (omega arith) (omega (arith, inside.some)) in
      let at : get_or rest any.0 r ≡ r = any.3 in
      record {
        page = p;
        own = record { from = omega arith; to = omega arith };
        used = counts_used rest p (count_some (holds p) rest any.0 r any.2 (ap (holds p) at ∙ held));
      }

  -- a run that holds all pages of a hugepage is the one that reaches it
  pub own_run : (h : ℕ) → reaches h run ≡ true → HasOneRun heap.runs h → HasNoUsed rest h
  own_run h e one p own =
      let parts = reaches_parts h run e in
      let q : ℕ = max run.first.0 (256 * h) in
      let mine : holds q run ≡ true = holds_from q run (omega arith) (omega (arith, live_inside.some)) in
      let other : holds q one.run ≡ true = holds_from q one.run (omega (arith, one.from)) (omega (arith, one.to)) in
      let is : one.run ≡ run = same_member (holds q) heap.runs one.run run one.live live other mine (sound.runs.disjoint q) in
      unused_rest p (subst (λ r. holds p r ≡ true) is (holds_from p one.run (omega (arith, one.from, own.from)) (omega (arith, one.to, own.to))))

  emptied_fit : (h : ℕ) (x : Hugepage) → HasNoUsed rest h → IsFit rest heap.regions width h (emptied x)
  emptied_fit h x none = record { size = length-replicate 256 (list_all (λ b. b) x.backed); serves = (none, (list_all (λ b. b) x.backed, refl)); donated = λ e. absurd (false≢true e) }

  left_made : (h : ℕ) (x : Hugepage) (k : RowKind) → x.kind ≡ k → reaches h run ≡ true → IsFit heap.runs heap.regions width h x
      → IsRemade rest heap.regions width h x (left_by k rest h x)
  left_made h x kind.Free k e fit =
      let s = serves_at heap.runs heap.regions width h x kind.Free k fit in
      remade_not rest heap.regions width h x (record { size = fit.size; serves = subst (λ j. Serves rest heap.regions width h x j) (sym k) (none_rest h s.0, s.1); donated = fit.donated })
  left_made h x kind.Filler k e fit =
      let P : Bool → Type 0 = λ b. IsRemade rest heap.regions width h x (cond b (emptied x) x) in
      elim (cases_eq (allocation_count rest h) 0) [
        | inl none ↦ grind (arith, nat_tests, none_reach h none, emptied_fit h x)
        | inr more ↦ grind (arith, nat_tests, remade_not rest heap.regions width h x, some_reach h)
      ]
  left_made h x kind.Run k e fit =
      let s = serves_at heap.runs heap.regions width h x kind.Run k fit in
      record {
        fit = record { size = length-replicate 256 true; serves = (own_run h e s.0, (true, refl)); donated = λ d. absurd (false≢true d) };
        kept = λ p own u b. backs-whole true p;
      }
  left_made h x kind.Region k e fit = grind (arith, serves_at, remade_not)

  left_each : AreRemade heap rest heap.regions (λ h x. cond (reaches h run) (left_by x.kind rest h x) x)
  left_each h is =
      let x = hugepage heap h in
      let fit = sound.runs.fit h is in
      let P : Bool → Type 0 = λ b. IsRemade rest heap.regions width h x (cond b (left_by x.kind rest h x) x) in
      elim (cases_Bool (reaches h run)) [
        | inl t ↦ subst P (sym t) (left_made h x x.kind refl t fit)
        | inr f ↦ subst P (sym f) (remade_not rest heap.regions width h x (record { size = fit.size; serves = serves_rest h x x.kind f fit.serves; donated = fit.donated }))
      ]

  pub left_runs : AreRunsSound (left heap run)
  left_runs = remade_sound heap rest heap.regions (λ h x. cond (reaches h run) (left_by x.kind rest h x) x) heap.counts sound.runs fewer sound.runs.apart left_each

  -- a region's hugepage stays of the region
  region_left : (h : ℕ) (x : Hugepage) (k : RowKind) → x.kind ≡ k → is_kind kind.Region k ≡ true → is_region (left_by k rest h x) ≡ true
  region_left h x kind.Region k e = ap (is_kind kind.Region) k
  region_left h x j k e = absurd (false≢true e)

  pub left_kinds : (r : ℕ) → IsRegion heap r → (h : ℕ) → spans width h r ≡ true → is_region (hugepage (left heap run) h) ≡ true
  left_kinds r is = region_kinds heap rest heap.regions (λ h x. cond (reaches h run) (left_by x.kind rest h x) x) heap.counts sound.runs r is.from is.to
      (λ h e.
      let x = hugepage heap h in
      elim (reaches h run) as (λ b. is_region (cond b (left_by x.kind rest h x) x) ≡ true) [ true ↦ region_left h x x.kind refl (is.kinds h e) | false ↦ is.kinds h e ])
