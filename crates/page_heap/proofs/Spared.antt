-- The filler's hugepages give what they spare, one after another.
use Rattle.std.proofs.Common.{◌≡◌, ◌≢◌, ℕ, zero, suc, zero-add, ◌+◌, ◌-◌, ◌*◌, ◌<◌, ◌≤◌, ◌⊎◌, Bool, true, false, not, ◌&&◌, cond, nat_lt}
use Rattle.std.proofs.Common.{List, [], ◌∷◌, length, get_or, map, filter, count_by, sum_by, All, Some, refl, sym, ap, subst, ◌∙◌, inl, inr, arith}
use Rattle.page_heap.proofs.Common.{range_with_len, cases_Bool, cases_lt, cases_eq, and_left, and_right, lt-ltb, le-ltb, false≢true, false_from_ne_true}
use Rattle.page_heap.proofs.Common.{get_or_past, sum_by-cons, All-head, All-tail, length-map-range_with_len, length-range_with_len, get_or-range_with_len}
use Rattle.page_heap.proofs.Common.{Huge, Run, count_none, count_some, range-within, Heap, Hugepage, hugepage, numbers, spans, backs, is_used}
use Rattle.page_heap.proofs.Common.{is_filler, is_free, is_free_backed, Released, is_idle, spare_pages, spare_row, spare_rows, only_used, spare_given}
use Rattle.page_heap.proofs.Common.{IsHugepageOf, IsSound, sum-filter, sum-adds, sum-map', own_backs, spare_counts, at, at-each, length-each, each_is}
use Rattle.page_heap.proofs.Common.{each_where, each_each, backs-map, spare_sound, IsSpan, used_alone, Measures, measures_at, IsCandidate, Inside}
use Rattle.page_heap.proofs.Common.{spare_of, measured, measures_of, measures, behind, IsFirstGiver, given_by, remeasured, nat_tests}
use Rattle.heap_rules.specs.GiveUp.{SpareRow, gives_before, gives_spare}
use Rattle.page_heap.specs.declared.source.Source.{Source}
use Rattle.page_heap.specs.declared.source.Source.TheVariants as source
use Rattle.page_heap.proofs.Numbered.{one_is, one_not}
use Rattle.page_heap.proofs.Steps.{over_range}
use Rattle.page_heap.proofs.Frames.{length-measures, measures_there, measures_set, measured_some, cache_same}
use Rattle.page_heap.proofs.Choices.{its_there}
use Rattle.page_heap.proofs.Filled.{filler_not_free}
use Rattle.page_heap.proofs.Backed.{backed_most}
use Rattle.page_heap.proofs.Gives.{released_is, whole_zero, whole_few}
use Rattle.page_heap.proofs.Results.{IsHeap, IsMade, same_made}

-- A hugepage that spares nothing backs its used pages alone, and one that does so spares nothing.
no_count : (f : ℕ → Bool) (first many : ℕ) → ((p : ℕ) → first ≤ p → p < first + many → f p ≡ false) → count_by f (range_with_len first many) ≡ 0
no_count f first many none = count_none f (range_with_len first many) (λ k d l. let in' = range-within first many k d l in none (get_or (range_with_len first many) k d) in'.0 in'.1)

spares_each : (f : ℕ → Bool) (first many : ℕ) → count_by f (range_with_len first many) ≡ 0 → (p : ℕ) → first ≤ p → p < first + many → f p ≡ false
spares_each f first many none p a b =
    false_from_ne_true (f p) (λ t.
    (let len = length-range_with_len first many in
    let at : first + (p - first) ≡ p = omega arith in
    let some = count_some f (range_with_len first many) (p - first) p (omega arith) (ap f (get_or-range_with_len first many (p - first) p (omega arith) ∙ at) ∙ t) in
    absurd (omega arith)))

kept_backing : (b u : Bool) → (b && not u) ≡ false → (b && u) ≡ b
kept_backing b u e = grind (arith, nat_tests)

pub spares_none : (runs : List Run) (h : ℕ) (x : Hugepage) → length x.backed ≡ 256 → spare_of runs h x ≡ 0 → only_used runs h x ≡ x
spares_none runs h x size none =
    ap (λ row. record x { backed = row })
    (over_range (λ p. backs x p && is_used runs p) (backs x) (256 * h) 256
    (λ p a b. kept_backing (backs x p) (is_used runs p) (spares_each (λ q. backs x q && not (is_used runs q)) (256 * h) 256 none p a b))
    ∙ sym (own_backs h x size))

gone : (b u : Bool) → ((b && u) && not u) ≡ false
gone b u = grind (arith, nat_tests)

pub spent_then : (runs : List Run) (h : ℕ) (x : Hugepage) → spare_of runs h (only_used runs h x) ≡ 0
spent_then runs h x =
    no_count (λ p. backs (only_used runs h x) p && not (is_used runs p)) (256 * h) 256
    (λ p a b. ap (λ t. t && not (is_used runs p)) (backs-map (λ q. backs x q && is_used runs q) h p (record { from = a; to = b })) ∙ gone (backs x p) (is_used runs p))

-- No two each give before the other.
pub one_way : (a b : SpareRow) → gives_before b a ≡ true → gives_before a b ≡ false
one_way a b e = grind (arith, nat_tests)

itself : (a : SpareRow) → gives_before a a ≡ false
itself a = elim (cases_Bool (gives_before a a)) [ inl t ↦ one_way a a t | inr f ↦ f ]

-- Sums over all hugepages.
sum_zero : (f : ℕ → ℕ) (xs : List ℕ) → All (λ x. f x ≡ 0) xs → sum_by f xs ≡ 0
sum_zero f [] all = refl
sum_zero f (x ∷ xs) all =
    let a = sum_by-cons f x xs in let rest = sum_zero f xs (All-tail (λ y. f y ≡ 0) x xs all) in let head : f x ≡ 0 = All-head (λ y. f y ≡ 0) x xs all in omega arith

zero_term : (f q : Bool) (spare : ℕ) → (f ≡ true → 0 < spare → q ≡ false) → cond f (cond q spare 0) 0 ≡ 0
zero_term f q spare none = grind (arith, nat_tests, cases_lt)

nested : (heap : Heap) (p : SpareRow → Bool) → sum_by (λ r. r.spare) (filter p (spare_rows heap)) ≡ sum_by
    (λ j. cond (is_filler (hugepage heap j)) (cond (p (spare_row heap j)) (spare_pages heap j) 0) 0) (numbers heap)
nested heap p = grind (arith, nat_tests, sum-filter, sum-map')

sum_none : (h s first many : ℕ) → h < first → sum_by (λ j. cond (spans 1 j h) s 0) (range_with_len first many) ≡ 0
sum_none h s first zero l = refl
sum_none h s first (suc n) l =
    let a = sum_by-cons (λ j. cond (spans 1 j h) s 0) first (range_with_len (first + 1) n) in
    let out = ap (λ b. cond b s 0) (one_not first h (λ e. absurd (omega arith))) in
    let rest = sum_none h s (first + 1) n (omega arith) in
    omega arith

sum_one : (h s first many : ℕ) → first ≤ h → h < first + many → sum_by (λ j. cond (spans 1 j h) s 0) (range_with_len first many) ≡ s
sum_one h s first zero a b = absurd (omega arith)
sum_one h s first (suc n) a b =
    let c = sum_by-cons (λ j. cond (spans 1 j h) s 0) first (range_with_len (first + 1) n) in
    elim (cases_eq first h) [
      | inl same ↦ grind (arith, nat_tests, one_is, sum_none)
      | inr other ↦
          (let out = ap (λ t. cond t s 0) (one_not first h other) in
          let rest = sum_one h s (first + 1) n (omega arith) (omega arith) in
          omega arith)
    ]

shifted : (a b s n : ℕ) → a ≡ s + b → nat_lt a n ≡ nat_lt b (n - s)
shifted a b s n e = grind (arith, nat_tests)

module _ (heap : Heap) (n : ℕ) (huge : Huge) (sound : IsSound heap) (some : 0 < n) (is : IsFirstGiver heap huge) where
  abbrev h : ℕ
  h = huge.0

  abbrev s : ℕ
  s = spare_pages heap h

  abbrev runs : List Run
  runs = heap.runs

  abbrev after : Heap
  after = used_alone heap h

  abbrev u : ℕ → Hugepage → Hugepage
  u k x = cond (spans 1 k h) (only_used runs k x) x

  number : (k : ℕ) → 0 < k → k ≤ length heap.hugepages → IsHugepageOf heap.config.huge k
  number k from to = let arena = sound.runs.arena in record { from = from; to = omega arith }

  arena_own : h ≤ length heap.hugepages
  arena_own = let arena = sound.runs.arena in omega (arith, is.own.to)

  -- What each hugepage is after this one has given.
  other : (k : ℕ) → 0 < k → k ≤ length heap.hugepages → k ≢ h → hugepage after k ≡ hugepage heap k
  other k from to ne = at-each u heap.hugepages k from to ∙ ap (λ b. cond b (only_used runs k (hugepage heap k)) (hugepage heap k)) (one_not k h ne)

  mine : hugepage after h ≡ only_used runs h (hugepage heap h)
  mine = at-each u heap.hugepages h is.own.from arena_own ∙ ap (λ b. cond b (only_used runs h (hugepage heap h)) (hugepage heap h)) (one_is h h refl)

  spent : spare_pages after h ≡ 0
  spent = ap (spare_of runs h) mine ∙ spent_then runs h (hugepage heap h)

  less : (q q' : ℕ → Bool) (c : Bool) → q h ≡ c →
      ((k : ℕ) → k ≢ h → 0 < k → k ≤ length heap.hugepages → is_filler (hugepage heap k) ≡ true → 0 < spare_pages heap k → q k ≡ q' k) →
      sum_by (λ j. cond (is_filler (hugepage heap j)) (cond (q j) (spare_pages heap j) 0) 0) (numbers heap) ≡ cond c s 0 + sum_by
      (λ j. cond (is_filler (hugepage after j)) (cond (q' j) (spare_pages after j) 0) 0) (numbers after)
  less q q' c own_is same =
      let left : ℕ → ℕ = λ j. cond (is_filler (hugepage heap j)) (cond (q j) (spare_pages heap j) 0) 0 in
      let right : ℕ → ℕ = λ j. cond (is_filler (hugepage after j)) (cond (q' j) (spare_pages after j) 0) 0 in
      let size = length-each u heap.hugepages in
      let all = sum-adds (λ j. cond (spans 1 j h) (cond c s 0) 0) right left (numbers heap)
      (λ i d l.
      (let j : ℕ = get_or (numbers heap) i d in
      let in' = range-within 1 (length heap.hugepages) i d l in
      elim (cases_eq j h) [
        | inl e ↦
            subst (λ k. cond (spans 1 k h) (cond c s 0) 0 + right k ≡ left k) (sym e)
            (own_term (is_filler (hugepage after h)) (q' h) (spare_pages after h) (cond (spans 1 h h) (cond c s 0) 0) (left h) spent
            (grind (arith, nat_tests, one_is)))
        | inr ne ↦
            (ap (λ b. cond b (cond c s 0) 0 + right j) (one_not j h ne)
            ∙ ap (λ (x : Hugepage). 0 + cond (is_filler x) (cond (q' j) (spare_of runs j x) 0) 0) (other j in'.0 (omega (arith, in'.1)) ne)
            ∙ other_term (is_filler (hugepage heap j)) (q j) (q' j) (spare_pages heap j) (same j ne in'.0 (omega (arith, in'.1))))
      ])) in
      let one = sum_one h (cond c s 0) 1 (length heap.hugepages) is.own.from (inside _ _ arena_own) in
      sym all ∙ ap (λ m. m + sum_by right (numbers heap)) one ∙ ap (λ m. cond c s 0 + sum_by right (range_with_len 1 m)) (sym size)
    where
      inside : (a b : ℕ) → a ≤ b → a < 1 + b
      inside a b l = omega arith

      own_term : (f q' : Bool) (spare a b : ℕ) → spare ≡ 0 → a ≡ b → a + cond f (cond q' spare 0) 0 ≡ b
      own_term true true spare a b z e = omega arith
      own_term true false spare a b z e = omega arith
      own_term false q' spare a b z e = omega arith

      other_term : (f q q' : Bool) (spare : ℕ) → (f ≡ true → 0 < spare → q ≡ q') → 0 + cond f (cond q' spare 0) 0 ≡ cond f (cond q spare 0) 0
      other_term false q q' spare same = refl
      other_term true true true spare same = zero-add spare
      other_term true false false spare same = refl
      other_term true true false spare same = elim (cases_lt 0 spare) [ inl some ↦ absurd (false≢true (sym (same refl some))) | inr none ↦ omega arith ]
      other_term true false true spare same = elim (cases_lt 0 spare) [ inl some ↦ absurd (false≢true (same refl some)) | inr none ↦ omega arith ]

  -- Who gives: this one, and of the others those that would then.
  gives_then : (k : ℕ) → k ≢ h → is_filler (hugepage heap k) ≡ true → 0 < spare_pages heap k →
      gives_spare (spare_rows heap) n (spare_row heap k) ≡ gives_spare (spare_rows after) (n - s) (spare_row after k)
  gives_then k ne filler spare =
      let q : ℕ → Bool = λ j. gives_before (spare_row heap k) (spare_row heap j) in
      shifted _ _ s n
      (nested heap (gives_before (spare_row heap k))
      ∙ less q (λ j. gives_before (spare_row after k) (spare_row after j)) true (is.first k filler spare ne) (λ j _ _ _ _ _. refl)
      ∙ ap (λ m. s + m) (sym (nested after (gives_before (spare_row after k)))))

  gives_own : gives_spare (spare_rows heap) n (spare_row heap h) ≡ true
  gives_own =
      let none : sum_by (λ r. r.spare) (filter (gives_before (spare_row heap h)) (spare_rows heap)) ≡ 0 = nested heap (gives_before (spare_row heap h))
      ∙ sum_zero (λ j. cond (is_filler (hugepage heap j)) (cond (gives_before (spare_row heap h) (spare_row heap j)) (spare_pages heap j) 0) 0) (numbers heap)
      (λ i d l. (let j : ℕ = get_or (numbers heap) i d in zero_term (is_filler (hugepage heap j)) (gives_before (spare_row heap h) (spare_row heap j)) (spare_pages heap j)
      (λ f z. elim (cases_eq j h) [
        | inl e ↦ ap (λ i. gives_before (spare_row heap h) (spare_row heap i)) e ∙ itself (spare_row heap h)
        | inr ne ↦ one_way (spare_row heap h) (spare_row heap j) (is.first j f z ne)
      ]))) in
      ap (λ m. nat_lt m n) none ∙ lt-ltb 0 n some

  same_page : (k : ℕ) (y : Hugepage) (b : Bool) → only_used runs k y ≡ y → cond b (only_used runs k y) y ≡ y
  same_page k y true e = e
  same_page k y false e = refl

  at_other : (k : ℕ) (x : Hugepage) (g g' : Bool) → (is_filler x ≡ true → (g ≡ g') ⊎ (only_used runs k x ≡ x)) →
      cond (is_filler x && g) (only_used runs k x) x ≡ cond (is_filler x && g') (only_used runs k x) x
  at_other k x g g' h' = elim (cases_Bool (is_filler x)) [
    | inr f ↦ ap (λ b. cond b (only_used runs k x) x) (and_left _ _ f ∙ sym (and_left _ _ f))
    | inl t ↦ elim (h' t) [
      | inl e ↦ ap (λ b. cond (is_filler x && b) (only_used runs k x) x) e
      | inr e ↦ same_page k x (is_filler x && g) e ∙ sym (same_page k x (is_filler x && g') e)
    ]
  ]

  pub spare_next : spare_given heap n ≡ behind s (spare_given after (n - s))
  spare_next =
      let gives : ℕ → Bool = λ k. gives_spare (spare_rows heap) n (spare_row heap k) in
      let gives' : ℕ → Bool = λ k. gives_spare (spare_rows after) (n - s) (spare_row after k) in
      let next : ℕ → Hugepage → Hugepage = λ k y. cond (is_filler y && gives' k) (only_used runs k y) y in
      released_is (spare_given heap n) _ _
      (ap (λ xs. record heap { hugepages = xs }) (each_where (λ k x. cond (is_filler x && gives k) (only_used runs k x) x) (λ k x. next k (u k x)) heap.hugepages
      (λ k from to. (let x = hugepage heap k in
      let size = (sound.runs.fit k (number k from to)).size in
      elim (cases_eq k h) [
        | inl e ↦
            subst (λ i. cond (is_filler (hugepage heap i) && gives i) (only_used runs i (hugepage heap i)) (hugepage heap i) ≡ next i (u i (hugepage heap i))) (sym e)
            (let y : Hugepage = only_used runs h (hugepage heap h) in
            ap (λ b. cond (b && gives h) y (hugepage heap h)) is.filler ∙ ap (λ b. cond b y (hugepage heap h)) gives_own
            ∙ sym (ap (λ b. next h (cond b y (hugepage heap h))) (one_is h h refl)
            ∙ same_page h y (is_filler y && gives' h)
            (spares_none runs h y (length-map-range_with_len (λ p. backs (hugepage heap h) p && is_used runs p) (256 * h) 256)
            (spent_then runs h (hugepage heap h)))))
        | inr ne ↦
            at_other k x (gives k) (gives' k) (λ filler. elim (cases_lt 0 (spare_pages heap k)) [
              | inl more ↦ inl (gives_then k ne filler more)
              | inr none ↦ inr (spares_none runs k x size (nothing _ none))
            ])
            ∙ ap (next k) (sym (ap (λ b. cond b (only_used runs k x) x) (one_not k h ne)))
      ]))
      ∙ sym (each_each next u heap.hugepages)))
      (nested heap (gives_spare (spare_rows heap) n)
      ∙ less gives gives' true gives_own (λ k ne _ _ filler more. gives_then k ne filler more)
      ∙ ap (λ m. s + m) (sym (nested after (gives_spare (spare_rows after) (n - s)))))
    where
      nothing : (a : ℕ) → a ≤ 0 → a ≡ 0
      nothing a l = omega arith

-- Where none gives, or none has anything to give.
pub spare_still : (heap : Heap) (n : ℕ) →
    ((k : ℕ) → 0 < k → k ≤ length heap.hugepages → is_filler (hugepage heap k) ≡ true → (gives_spare (spare_rows heap) n (spare_row heap k) ≡ false) ⊎
    ((spare_pages heap k ≡ 0) × (only_used heap.runs k (hugepage heap k) ≡ hugepage heap k))) → spare_given heap n ≡ record { heap = heap; pages = 0 }
spare_still heap n none =
    let gives : ℕ → Bool = λ k. gives_spare (spare_rows heap) n (spare_row heap k) in
    released_is (spare_given heap n) heap 0
    (ap (λ xs. record heap { hugepages = xs }) (each_is (λ k x. cond (is_filler x && gives k) (only_used heap.runs k x) x) heap.hugepages heap.hugepages refl
    (λ k from to. (let x = hugepage heap k in
    elim (cases_Bool (is_filler x)) [
      | inr no_filler ↦ ap (λ b. cond b (only_used heap.runs k x) x) (and_left _ _ no_filler)
      | inl t ↦ elim (none k from to t) [
        | inl no_one ↦ ap (λ b. cond b (only_used heap.runs k x) x) (and_right (is_filler x) _ no_one)
        | inr nothing ↦ elim (is_filler x && gives k) as (λ b. cond b (only_used heap.runs k x) x ≡ x) [ true ↦ nothing.1 | false ↦ refl ]
      ]
    ]))))
    (nested heap (gives_spare (spare_rows heap) n)
    ∙ sum_zero (λ j. cond (is_filler (hugepage heap j)) (cond (gives j) (spare_pages heap j) 0) 0) (numbers heap)
    (λ i d l. (let j : ℕ = get_or (numbers heap) i d in
    let in' = range-within 1 (length heap.hugepages) i d l in
    zero_term (is_filler (hugepage heap j)) (gives j) (spare_pages heap j) (λ t more. elim (none j in'.0 (upto _ _ in'.1) t) [
      | inl no_one ↦ no_one
      | inr nothing ↦ absurd (contradict _ more nothing.0)
    ]))))
  where
    contradict : (a : ℕ) → 0 < a → a ≡ 0 → ⊥
    contradict a x y = omega arith

    upto : (a b : ℕ) → a < 1 + b → a ≤ b
    upto a b l = omega arith

pub spare_zero : (heap : Heap) (n : ℕ) → n ≡ 0 → spare_given heap n ≡ record { heap = heap; pages = 0 }
spare_zero heap n e = spare_still heap n (λ k _ _ t. inl (le-ltb (sum_by (λ r. r.spare) (filter (gives_before (spare_row heap k)) (spare_rows heap))) n (none _ n e)))
  where
    none : (a n : ℕ) → n ≡ 0 → n ≤ a
    none a n e = omega arith

pub spare_nothing : (heap : Heap) (n : ℕ) → IsSound heap → ((h : ℕ) → is_filler (hugepage heap h) ≡ true → spare_pages heap h ≡ 0) → spare_given heap n ≡ record { heap = heap; pages = 0 }
spare_nothing heap n sound none =
    spare_still heap n (λ k from to t. inr (
      none k t,
      spares_none heap.runs k (hugepage heap k) (sound.runs.fit k (record { from = from; to = subst (λ m. k ≤ m) sound.runs.arena to })).size
          (none k t),
    ))

-- one step leaves a sound heap
pub one_spared : (heap : Heap) (huge : Huge) → IsSound heap → IsFirstGiver heap huge → IsSound (used_alone heap huge.0)
one_spared heap huge sound is =
    subst IsSound (ap (λ (r : Released). r.heap) (spare_next heap 1 huge sound (omega arith) is)
    ∙ ap (λ (r : Released). r.heap) (spare_zero (used_alone heap huge.0) (1 - spare_pages heap huge.0) (less _ is.some))) (spare_sound heap 1 sound)
  where
    less : (a : ℕ) → 0 < a → 1 - a ≡ 0
    less a l = omega arith

-- a hugepage of the filler is one of the arena
filler_in : (heap : Heap) (h : ℕ) → is_filler (hugepage heap h) ≡ true → (0 < h) × (h ≤ length heap.hugepages)
filler_in heap h e = grind (arith, nat_tests, get_or_past)

measured_there : (heap : Heap) (h : ℕ) → is_filler (hugepage heap h) ≡ true → measures_at (measures heap) h ≡ Some (measures_of heap.runs h (hugepage heap h))
measured_there heap h filler = (let in' = filler_in heap h filler in measures_there heap h in'.0 in'.1 ∙ measured_some heap.runs h (hugepage heap h) filler)

-- One of the filler backs its used pages alone: what that asks, and what it makes.
module _ (old : Inside) (heap : Heap) (whole : IsHeap old heap) (huge : Huge) (is : IsFirstGiver heap huge) where
  sound : IsSound heap
  sound = whole.well.sound

  abbrev then : Heap
  then = used_alone heap huge.0

  abbrev change : ℕ → Hugepage → Hugepage
  change k x = cond (spans 1 k huge.0) (only_used heap.runs k x) x

  pub spared_span : IsSpan old.table huge.0 1 is_filler
  spared_span =
      let size = ap length whole.shows.means.pages ∙ sound.runs.arena in
      record {
        from = is.own.from;
        to = omega (arith, is.own.to);
        all = λ k a b. (let same : huge.0 ≡ k = omega arith in ap (λ xs. is_filler (at xs k)) whole.shows.means.pages ∙ subst (λ i. is_filler (hugepage heap i) ≡ true) same is.filler);
      }

  still_busy : (x : Hugepage) (b : Bool) (y : Hugepage) → is_free x ≡ false → is_free y ≡ false → (is_free x ≡ is_free (cond b y x)) × (is_free_backed x ≡ is_free_backed (cond b y x))
  still_busy x b y e f = grind (arith, nat_tests, and_left)

  pub spared_made : IsMade then old.config (remeasured old.filler then huge.0) old.cache old.regions old.used
  spared_made = same_made old heap whole change
      (λ k x. elim (spans 1 k huge.0) as (λ b. (cond b (only_used heap.runs k x) x).kind ≡ x.kind) [ true ↦ refl | false ↦ refl ])
      (one_spared heap huge sound is) _ _
      (ap (λ rows. remeasured rows then huge.0) whole.shows.filler
      ∙ measures_set heap heap.runs change sound.runs huge.0 is.own
      (λ k _ ne. ap (λ b. measured heap.runs k (cond b (only_used heap.runs k (hugepage heap k)) (hugepage heap k))) (sym (one_not k huge.0 ne))))
      (whole.shows.cache ∙ cache_same heap change sound.runs
      (λ k _. (let x = hugepage heap k in elim (cases_eq k huge.0) [
        | inl e ↦ grind (arith, nat_tests, filler_not_free, still_busy)
        | inr ne ↦ grind (arith, nat_tests, one_not)
      ])))

-- What the filler says of the first to give.
pub first_is : (t : Inside) (heap : Heap) → IsHeap t heap → (huge : Huge) → IsCandidate t.filler huge → IsFirstGiver heap huge
first_is t heap whole huge given =
    let is = subst (λ rows. IsCandidate rows huge) whole.shows.filler given in
    let to : huge.0 ≤ length heap.hugepages = subst (λ m. huge.0 ≤ m) (length-measures heap) is.to in
    let its = its_there heap huge.0 is.measures is.from to is.row in
    let spare : is.measures.spare ≡ spare_pages heap huge.0 = ap (λ (m : Measures). m.spare) its.1 in
    record {
      own = record { from = is.from; to = subst (λ m. huge.0 ≤ m) whole.well.sound.runs.arena to };
      filler = its.0;
      some = subst (λ m. 0 < m) spare is.some;
      first = λ h filler more ne.
          (subst (λ (m : Measures). gives_before (spare_row heap h) (record { number = huge.0; used = m.used; spare = m.spare }) ≡ true) its.1
          (is.first h (measures_of heap.runs h (hugepage heap h)) (measured_there heap h filler) more ne));
    }

pub none_is : (t : Inside) (heap : Heap) → IsHeap t heap → ((h : ℕ) (its : Measures) → measures_at t.filler h ≡ Some its → its.spare ≡ 0) → (h : ℕ) →
    is_filler (hugepage heap h) ≡ true → spare_pages heap h ≡ 0
none_is t heap is none h filler = none h (measures_of heap.runs h (hugepage heap h)) (ap (λ rows. measures_at rows h) is.shows.filler ∙ measured_there heap h filler)

spare_few : (heap : Heap) (n : ℕ) → IsSound heap → heap.config.huge ≤ 4096 → (spare_given heap n).pages ≤ 1048576
spare_few heap n sound few = bounded _ _ _ _ (spare_counts heap n (λ h from to. (sound.runs.fit h (record { from = from; to = below _ _ _ to sound.runs.arena })).size)) (backed_most heap sound) few
  where
    bounded : (a b c d : ℕ) → a + b ≡ c → c ≤ 256 * d → d ≤ 4096 → b ≤ 1048576
    bounded a b c d e f g = omega arith

    below : (h a b : ℕ) → h < 1 + a → a ≡ b → h ≤ b
    below h a b l e = omega arith

-- Each source gives nothing where none is wanted, and no more than the arena has.
pub given_zero : (source : Source) (heap : Heap) (n : ℕ) → n ≡ 0 → given_by source heap n ≡ record { heap = heap; pages = 0 }
given_zero source heap n e = grind (arith, nat_tests, whole_zero, is_free_backed, is_idle, spare_zero)

most_pages : (a b : ℕ) → a ≤ 256 * b → (c : ℕ) → b ≡ c → c ≤ 4096 → a ≤ 1048576
most_pages a b l c e f = omega arith

pub given_few : (source : Source) (heap : Heap) (n : ℕ) → IsSound heap → heap.config.huge ≤ 4096 → (given_by source heap n).pages ≤ 1048576
given_few source.Free heap n sound few = most_pages _ _ (whole_few (map is_free_backed heap.hugepages) heap n) _ sound.runs.arena few
given_few source.Regions heap n sound few = most_pages _ _ (whole_few (map (is_idle heap) (numbers heap)) heap n) _ sound.runs.arena few
given_few source.Filler heap n sound few = spare_few heap n sound few
