-- Members of lists: which pass a test, that one alone begins at a page, and that the one holder of a page is found.
use Rattle.std.proofs.Common.{◌≡◌, ℕ, suc, ◌+◌, ◌<◌, ◌≤◌, Bool, true, false, eqb, ltb, nat_le, cond, List, [], ◌∷◌, length, get_or, count_by, AllPairs}
use Rattle.std.proofs.Common.{Contains, Some, refl, ap, ◌∙◌, inl, inr, arith, find}
use Rattle.alloc_rules.proofs.Common.{cases_Bool, ltb-true, leb-true, eqb-true, and_parts, false≢true, get_or_default, sum_by-cons, false_from_ne_true, Run}
use Rattle.alloc_rules.proofs.Common.{SpanRef, one-true, one-false, count_none, count_le, IsWellFormed, IsSound, IsInside, holds_from}
use Rattle.page_map.specs.Spans.{IsBefore}
use Rattle.page_map.specs.Spans as spans
use Rattle.heap_rules.specs.Heap as heaps
use Rattle.std.proofs.lemmas.Bool.Decides.{nat_tests}

-- fewer pass a test that another follows from
count_fewer : {X : Type 0} (q h : X → Bool) (xs : List X) → ((k : ℕ) (d : X) → k < length xs → q (get_or xs k d) ≡ true → h (get_or xs k d) ≡ true)
    → count_by h xs ≤ 1 → count_by q xs ≤ 1
count_fewer q h xs follows few = omega (arith, few, count_le q h xs follows)

-- at most one item passes a test of which two can't
most_one : {X : Type 0} (q : X → Bool) (xs : List X) → ((i j : ℕ) (d : X) → i < j → j < length xs → q (get_or xs i d) ≡ true → q (get_or xs j d) ≡ true → ⊥)
    → count_by q xs ≤ 1
most_one q [] two = omega arith
most_one q (x ∷ xs) two =
    let c : count_by q (x ∷ xs) ≡ cond (q x) 1 0 + count_by q xs = sum_by-cons (λ y. cond (q y) 1 0) x xs in
    elim (cases_Bool (q x)) [
      | inl hit ↦
          let none : count_by q xs ≡ 0 = count_none q xs (λ j d within. false_from_ne_true (q (get_or xs j d)) (λ pass. two 0 (suc j) d (omega arith) (omega arith) hit pass)) in
          let e : cond (q x) 1 0 ≡ 1 = one-true (q x) hit in
          omega (arith, c, e, none)
      | inr miss ↦
          let rest = most_one q xs (λ i j d less within. two (suc i) (suc j) d (omega arith) (omega arith)) in
          let e : cond (q x) 1 0 ≡ 0 = one-false (q x) miss in
          omega (arith, c, e, rest)
    ]

-- one span begins at a page, and one live run
pub one_first : (huge : ℕ) (xs : List SpanRef) (page : ℕ) → IsWellFormed (record { huge = huge; spans = xs }) → count_by (λ y. eqb y.first.0 page) xs ≤ 1
one_first huge xs page well = grind (arith, eqb-true, most_one)

pub one_run : (heap : heaps.Heap) (r : Run) → IsSound heap → Contains heap.runs r → count_by (λ y. eqb y.first.0 r.first.0) heap.runs ≤ 1
one_run heap r sound at = count_fewer (λ y. eqb y.first.0 r.first.0) (heaps.holds r.first.0) heap.runs (λ k d within same.
    let inside : IsInside heap.config.huge (get_or heap.runs k d) = sound.runs.inside k d within in
    let e = eqb-true (get_or heap.runs k d).first.0 r.first.0 same in
    holds_from r.first.0 (get_or heap.runs k d) (omega arith) (omega (arith, inside.some, e))) (sound.runs.disjoint r.first.0)

-- what is in a list and passes, where its head fails, is behind it
later_one : {X : Type 0} (q : X → Bool) (z : X) (zs : List X) (x : X) → Contains (z ∷ zs) x → q x ≡ true → q z ≡ false → Contains zs x
later_one q z zs x given holds miss = grind (arith, false≢true)

-- the one span that holds a page is found
pub find_only : {X : Type 0} (q : X → Bool) (xs : List X) (x : X) → Contains xs x → q x ≡ true → ((y : X) → Contains xs y → q y ≡ true → y ≡ x) → find q xs ≡ Some x
find_only q [] x at holds only = absurd (omega (arith, at.1))
find_only q (z ∷ zs) x at holds only =
    elim (cases_Bool (q z)) [
      | inl hit ↦ rw hit (ap (λ y. Some y) (only z (0, omega arith, refl) hit))
      | inr miss ↦ rw miss (find_only q zs x (later_one q z zs x at holds miss) holds (λ y yt. only y (suc yt.0, omega (arith, yt.1), yt.2)))
    ]

pub holds_parts : (page : ℕ) (s : SpanRef) → spans.holds page s ≡ true → (s.first.0 ≤ page) × (page < s.first.0 + s.pages)
holds_parts page s held = let parts = and_parts (nat_le s.first.0 page) (ltb page (s.first.0 + s.pages)) held in (leb-true s.first.0 page parts.0, ltb-true page (s.first.0 + s.pages) parts.1)

pub only_holder : (page : ℕ) (xs : List SpanRef) (x y : SpanRef) → AllPairs IsBefore xs → Contains xs x → Contains xs y
    → spans.holds page x ≡ true → spans.holds page y ≡ true → y ≡ x
only_holder page xs x y apart xt yt hx hy =
    let px = holds_parts page x hx in
    let py = holds_parts page y hy in
    let ex : get_or xs xt.0 y ≡ x = get_or_default xs xt.0 y x xt.1 ∙ xt.2 in
    grind (arith, nat_tests, apart xt.0 yt.0 y, apart yt.0 xt.0 y)
