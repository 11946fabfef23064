-- The runs that a table notes are those of its heap.
use Rattle.std.proofs.Common.{◌≡◌, ℕ, zero, suc, ◌+◌, ◌-◌, ◌*◌, ◌<◌, ◌≤◌, ◌==◌, Bool, true, false, ◌||◌, not, cond, List, [], ◌∷◌, length, get_or, drop, filter}
use Rattle.std.proofs.Common.{map, All, Contains, refl, sym, subst, ap, ◌∙◌, inl, inr, arith}
use Rattle.huge_table.proofs.Common.{list_any, range_with_len, prefix_len, cases_lt, cases_eq, eqb-true, eq-eqb, ne_eqb, lt-ltb, false≢true}
use Rattle.huge_table.proofs.Common.{false_from_ne_true, get_or-drop, length-drop, prefix_len_passes, Run, Heap, run_at, holds, with_run, without_run}
use Rattle.huge_table.proofs.Common.{IsInside, IsSound, holds_from, same_member, Table, bit, Means, begins_on, ends_on, nat_tests}
use Rattle.std.proofs.lemmas.Bool.{or_parts}
use Rattle.std.proofs.lemmas.List.Elements.{All-head, All-tail, All-contains, Contains-get_or}
use Rattle.std.proofs.lemmas.List.Folds.{Any-from_list_any, list_any_at}
use Rattle.heap_rules.proofs.Longest.{prefix_long}
use Rattle.huge_table.specs.Runs.{run_from, runs_of, AreInOrderFrom, AreInOrder, TellsRuns}

-- Runs in order.
later : (a b : ℕ) (runs : List Run) → a ≤ b → AreInOrderFrom b runs → AreInOrderFrom a runs
later a b [] h o = tt
later a b (r ∷ runs) h o = (omega (arith, o.0), o.1)

none_before : (a page : ℕ) (runs : List Run) → page < a → AreInOrderFrom a runs → list_any (begins_on page) runs ≡ false
none_before a page [] h o = refl
none_before a page (r ∷ runs) h o =
    rw (ne_eqb r.first.0 page (λ e. absurd (omega (arith, o.0)))) (none_before (r.first.0 + 1) page runs (omega (arith, o.0)) o.1)

with_one : (a : ℕ) (run : Run) (runs : List Run) → a ≤ run.first.0 → AreInOrderFrom a runs → list_any (begins_on run.first.0) runs ≡ false → AreInOrderFrom a (with_run run runs)
with_one a run [] h o none = (h, tt)
with_one a run (r ∷ runs) h o none = elim (cases_lt run.first.0 r.first.0) [
  | inl before ↦ subst (λ b. AreInOrderFrom a (cond b (run ∷ r ∷ runs) (r ∷ with_run run runs))) (sym (lt-ltb run.first.0 r.first.0 before)) (h, (before_next before, o.1))
  | inr behind ↦ grind (arith, nat_tests, with_one (r.first.0 + 1) run runs (past behind) o.1 (rest none))
] where
  before_next : run.first.0 < r.first.0 → run.first.0 + 1 ≤ r.first.0
  before_next l = omega arith

  rest : list_any (begins_on run.first.0) (r ∷ runs) ≡ false → list_any (begins_on run.first.0) runs ≡ false
  rest e = (or_parts (r.first.0 == run.first.0) (list_any (begins_on run.first.0) runs) e).1

  past : r.first.0 ≤ run.first.0 → r.first.0 + 1 ≤ run.first.0
  past l = grind (arith)

without_one : (a : ℕ) (run : Run) (runs : List Run) → AreInOrderFrom a runs → AreInOrderFrom a (without_run run runs)
without_one a run [] o = tt
without_one a run (r ∷ runs) o = grind (arith, without_one (r.first.0 + 1) run runs o.1, later)

-- The pages where runs begin, and the runs from there.
told : (ends : List Bool) (test : ℕ → Bool) (runs : List Run) (a n : ℕ) → AreInOrderFrom a runs → All (λ r. r.first.0 < a + n) runs →
    All (λ r. run_from ends r.first.0 ≡ r) runs → ((page : ℕ) → a ≤ page → test page ≡ list_any (begins_on page) runs) →
    map (run_from ends) (filter test (range_with_len a n)) ≡ runs
told ends test [] a zero o low is same = refl
told ends test (r ∷ runs) a zero o low is same = let l = All-head (λ x. x.first.0 < a + 0) r runs low in absurd (omega (arith, o.0))
told ends test [] a (suc n) o low is same =
    rw (same a (omega arith))
    (told ends test [] (a + 1) n tt (λ k d l. absurd (omega arith)) (λ k d l. absurd (omega arith)) (λ page h. same page (omega arith)))
told ends test (r ∷ runs) a (suc n) o low is same = elim (cases_eq r.first.0 a) [
  | inl here ↦
      rw (same a (omega arith) ∙ ap (λ b. b || list_any (begins_on a) runs) (eq-eqb r.first.0 a here))
      (ap (λ x. x ∷ map (run_from ends) (filter test (range_with_len (a + 1) n))) (ap (run_from ends) (sym here) ∙ All-head (λ x. run_from ends x.first.0 ≡ x) r runs is)
      ∙ ap (λ xs. r ∷ xs) (told ends test runs (a + 1) n (later (a + 1) (r.first.0 + 1) runs (omega arith) o.1)
      (λ k d l. next _ (All-tail (λ x. x.first.0 < a + suc n) r runs low k d l)) (All-tail (λ x. run_from ends x.first.0 ≡ x) r runs is)
      (λ page h. same page (omega arith) ∙ ap (λ b. b || list_any (begins_on page) runs) (ne_eqb r.first.0 page (λ e. absurd (omega arith))))))
  | inr other ↦ grind (arith, told ends test (r ∷ runs) (a + 1) n, same a, none_before (a + 1) a (r ∷ runs), low)
] where
  next : (f : ℕ) → f < a + suc n → f < a + 1 + n
  next f h = omega arith

-- there are bits for where runs begin and end on each page of the arena
pub record HasPlaces (table : Table) : Type 0 where
  pub begins : 256 * (length table.pages + 1) ≤ length table.begins
  pub ends : 256 * (length table.pages + 1) ≤ length table.ends

-- A live run by its begin and the first end from there on.
module _ (table : Table) (heap : Heap) (sound : IsSound heap) (places : HasPlaces table) (means : Means table heap) where
  run_is : (r : Run) → Contains heap.runs r → run_from table.ends r.first.0 ≡ r
  run_is r live =
      let inside = All-contains (IsInside heap.config.huge) heap.runs r sound.runs.inside live in
      let rest = drop r.first.0 table.ends in
      let same_size = ap length means.pages in
      let size = length-drop r.first.0 table.ends in
      let far : r.pages - 1 ≤ prefix_len not rest = prefix_long not rest (r.pages - 1) false (omega (arith, inside.to, places.ends)) (λ k h.
      ap not (get_or-drop r.first.0 table.ends k false ∙ means.ends (r.first.0 + k) ∙ false_from_ne_true _ (λ t. (let any = Any-from_list_any (ends_on (r.first.0 + k)) heap.runs t in
      let other : Run = any.1 in
      let its = All-contains (IsInside heap.config.huge) heap.runs other sound.runs.inside (any.0, any.2, any.3) in
      let end = eqb-true (other.first.0 + other.pages) (r.first.0 + k + 1) any.4 in
      let same = same_member (holds (r.first.0 + k)) heap.runs other r (any.0, any.2, any.3) live
      (holds_from (r.first.0 + k) other (omega (arith, its.some)) (omega arith)) (holds_from (r.first.0 + k) r (omega arith) (omega arith))
      (sound.runs.disjoint (r.first.0 + k)) in
      let first = ap (λ (x : Run). x.first.0) same in
      let pages = ap (λ (x : Run). x.pages) same in
      absurd (omega arith))))) in
      let stops : prefix_len not rest ≤ r.pages - 1 = elim (cases_lt (r.pages - 1) (prefix_len not rest)) [
        | inr few ↦ few
        | inl more ↦
            (let last : r.first.0 + (r.pages - 1) + 1 ≡ r.first.0 + r.pages = omega (arith, inside.some) in
            let free = prefix_len_passes not rest (r.pages - 1) false more in
            let used : get_or rest (r.pages - 1) false ≡ true = get_or-drop r.first.0 table.ends (r.pages - 1) false
            ∙ means.ends (r.first.0 + (r.pages - 1)) ∙ list_any_at (ends_on (r.first.0 + (r.pages - 1))) heap.runs live.0 r live.1
            (ap (ends_on (r.first.0 + (r.pages - 1))) live.2 ∙ eq-eqb _ _ (sym last)) in
            absurd (false≢true (sym (ap not used) ∙ free)))
      ] in
      let count : prefix_len not rest + 1 ≡ r.pages = omega (arith, inside.some) in
      ap (run_at r.first.0) count

  runs_are : AreInOrder heap.runs → runs_of table ≡ heap.runs
  runs_are order = told table.ends (bit table.begins) heap.runs 0 (length table.begins) order
      (λ k d l. (let inside = sound.runs.inside k d l in let arena = sound.runs.arena in let size = ap length means.pages in omega (arith, inside.some, inside.to, places.begins)))
      (λ k d l. run_is (get_or heap.runs k d) (Contains-get_or heap.runs k d l))
      (λ page _. means.begins page)

pub tells : (table : Table) → HasPlaces table → TellsRuns table
tells table places = grind (arith, nat_tests, told, runs_are, with_one, without_one)
