-- A heap settles or releases pages by one hugepage after another.
use Rattle.std.proofs.Common.{◌≡◌, ℕ, zero, suc, zero-add, ◌+◌, ◌-◌, ◌*◌, ◌<◌, ◌≤◌, Bool, true, false, ◌&&◌, ◌||◌, ◌==◌, cond, nat_lt, List, []}
use Rattle.std.proofs.Common.{◌∷◌, length, get_or, set, drop, take, map, count_by, refl, sym, ap, subst, ◌∙◌, inl, inr, arith}
use Rattle.page_heap.proofs.Common.{list_all, range_with_len, cases_lt, cases_eq, and_left, and_right, le-ltb}
use Rattle.page_heap.proofs.Common.{length-map, length-set, length-drop, get_or-drop, get_or_default, get_or_past, length-range_with_len}
use Rattle.page_heap.proofs.Common.{length-map-range_with_len, count_by-le-length, Huge, count-cons, count_none, one-true, range-within, Heap, Hugepage}
use Rattle.page_heap.proofs.Common.{hugepage, numbers, spans, run_at, used_count, is_free, is_region, is_free_backed, unbacked, counted}
use Rattle.page_heap.proofs.Common.{settled, Released, whole_given, free_given, is_idle, idle_given, spare_given, release}
use Rattle.page_heap.proofs.Common.{IsHugepageOf, IsSound, at_number-place, at_number-next, at, length-each, each_is, each_where, each_each, map-at}
use Rattle.page_heap.proofs.Common.{idle_at, free_sound, idle_sound, here, sum-adds, unbacked_span, over_limit, behind, AreLast, IsLast, nat_tests}
use Rattle.heap_rules.specs.Numbered.{at_number}
use Rattle.heap_rules.specs.CacheFlags.{is_over, limit}
use Rattle.heap_rules.specs.GiveUp.{gives_whole}
use Rattle.page_heap.specs.Gives.{noted}
use Rattle.page_heap.proofs.Numbered.{same_numbered, one_is, one_not, numbered-set}
use Rattle.page_heap.proofs.Steps.{count-map}
use Rattle.page_heap.proofs.Frames.{flags_set}
use Rattle.page_heap.proofs.Counted.{held_count}

pub released_is : (r : Released) (heap : Heap) (pages : ℕ) → r.heap ≡ heap → r.pages ≡ pages → ◌≡◌ {A = Released} r (record { heap = heap; pages = pages })
released_is r heap pages e f = ap (λ h. record { heap = h; pages = r.pages }) e ∙ ap (λ n. record { heap = heap; pages = n }) f

pub behind_none : (a : ℕ) (heap : Heap) (r : Released) → r ≡ record { heap = heap; pages = 0 } → behind a r ≡ record { heap = heap; pages = a }
behind_none a heap r e = let same : a + 0 ≡ a = omega arith in ap (behind a) e ∙ ap (λ n. record { heap = heap; pages = n }) same

-- Where none gives.
pub whole_none : (flags : List Bool) (heap : Heap) (n : ℕ) → ((k : ℕ) → 0 < k → k ≤ length heap.hugepages → gives_whole flags n k ≡ false) →
    whole_given flags heap n ≡ record { heap = heap; pages = 0 }
whole_none flags heap n none = grind (arith, nat_tests, count_none, range-within, released_is, each_is)

pub whole_few : (flags : List Bool) (heap : Heap) (n : ℕ) → (whole_given flags heap n).pages ≤ 256 * length heap.hugepages
whole_few flags heap n = grind (arith, nat_tests, count_by-le-length, length-range_with_len)

-- One flag less.
cleared_behind : (flags : List Bool) (j k : ℕ) → j < length flags → get_or flags j false ≡ true → k ≤ j → count_by (λ b. b) (drop k flags) ≡ count_by (λ b. b) (drop k (set flags j false)) + 1
cleared_behind [] j k l t a = absurd (omega arith)
cleared_behind (x ∷ xs) zero zero l t a =
    let one = one-true x t in let b = count-cons (λ b. b) x xs in let c = count-cons (λ b. b) false xs in omega arith
cleared_behind (x ∷ xs) zero (suc k) l t a = absurd (omega arith)
cleared_behind (x ∷ xs) (suc j) zero l t a = grind (arith, cleared_behind xs j zero, count-cons (λ b. b) x xs, count-cons (λ b. b) x (set xs j false))
cleared_behind (x ∷ xs) (suc j) (suc k) l t a = cleared_behind xs j k (omega arith) t (omega arith)

shifted : (a b n : ℕ) → a ≡ b + 1 → nat_lt (256 * a) n ≡ nat_lt (256 * b) (n - 256)
shifted a b n e = grind (arith, nat_tests)

module _ (flags : List Bool) (n h : ℕ) (some : 0 < n) (from : 0 < h) (to : h ≤ length flags) (flag : at_number false flags h ≡ true) (last : (i : ℕ) → h < i → at_number false flags i ≡ false) where
  abbrev cleared : List Bool
  cleared = set flags (h - 1) false

  none_behind : count_by (λ b. b) (drop h flags) ≡ 0
  none_behind = count_none (λ b. b) (drop h flags) (λ i d l. (let len = length-drop h flags in
      get_or_default (drop h flags) i d false l ∙ get_or-drop h flags i false ∙ sym (at_number-next false flags (h + i)) ∙ last (1 + (h + i)) (omega arith)))

  next_gives : (k : ℕ) → 0 < k → gives_whole flags n k ≡ (spans 1 k h || gives_whole cleared (n - 256) k)
  next_gives k pos = grind (arith, nat_tests, none_behind, one_is, numbered-set, one_not, shifted, cleared_behind, at_number-place)

  module _ (heap : Heap) (size : length flags ≡ length heap.hugepages) where
    next_page : (s g : Bool) (x : Hugepage) → cond (s || g) (unbacked x) x ≡ cond g (unbacked (cond s (unbacked x) x)) (cond s (unbacked x) x)
    next_page s g x = grind (arith, nat_tests)

    counted_apart : (p s q : Bool) → p ≡ (s || q) → (s ≡ true → q ≡ false) → cond s 1 0 + cond q 1 0 ≡ cond p 1 0
    counted_apart p s q e apart = grind (arith, nat_tests, zero-add)

    own_off : gives_whole cleared (n - 256) h ≡ false
    own_off = and_left _ _ (numbered-set flags h false h false from to from ∙ ap (λ b. cond b false (at_number false flags h)) (one_is h h refl))

    one_here : count_by (λ k. spans 1 k h) (numbers heap) ≡ 1
    one_here = held_count (run_at h 1) 1 (length heap.hugepages) ∙ omega arith

    -- the last that has the flag gives, and then so do the others
    pub whole_next : whole_given flags heap n ≡ behind 256 (whole_given cleared (unbacked_span heap h 1) (n - 256))
    whole_next =
        let next : ℕ → Hugepage → Hugepage = λ k x. cond (gives_whole cleared (n - 256) k) (unbacked x) x in
        let one : ℕ → Hugepage → Hugepage = λ k x. cond (spans 1 k h) (unbacked x) x in
        let sum = sum-adds (λ k. cond (spans 1 k h) 1 0) (λ k. cond (gives_whole cleared (n - 256) k) 1 0) (λ k. cond (gives_whole flags n k) 1 0) (numbers heap)
        (λ i d l. grind (arith, nat_tests, range-within, counted_apart, next_gives, own_off, one_not)) in
        released_is (whole_given flags heap n) _ _
        (ap (λ xs. record heap { hugepages = xs }) (each_where (λ k x. cond (gives_whole flags n k) (unbacked x) x) (λ k x. next k (one k x)) heap.hugepages
        (λ k pos inside. (let x = at heap.hugepages k in ap (λ b. cond b (unbacked x) x) (next_gives k pos) ∙ next_page (spans 1 k h) (gives_whole cleared (n - 256) k) x))
        ∙ sym (each_each next one heap.hugepages)))
        (pages_next _ _ _ sum one_here ∙ ap (λ m. 256 + 256 * count_by (gives_whole cleared (n - 256)) (range_with_len 1 m)) (sym (length-each one heap.hugepages)))
      where
        pages_next : (a b c : ℕ) → a + b ≡ c → a ≡ 1 → 256 * c ≡ 256 + 256 * b
        pages_next a b c e f = omega arith

-- Free hugepages.
flag_at : (heap : Heap) (k : ℕ) → at_number false (map is_free_backed heap.hugepages) k ≡ is_free_backed (hugepage heap k)
flag_at heap k = grind (arith, nat_tests, cases_lt, map-at, is_free_backed, length-map, get_or_past)

unbacked_there : (x : Hugepage) → is_free_backed (unbacked x) ≡ false
unbacked_there x = and_right (is_free x) false refl

pub free_next : (heap : Heap) (n : ℕ) (huge : Huge) → IsSound heap → 0 < n → IsLast heap (λ h. is_free_backed (hugepage heap h)) huge →
    free_given heap n ≡ behind 256 (free_given (unbacked_span heap huge.0 1) (n - 256))
free_next heap n huge sound some is =
    let h : ℕ = huge.0 in
    let arena = sound.runs.arena in
    let flags = map is_free_backed heap.hugepages in
    let len = length-map heap.hugepages is_free_backed in
    whole_next flags n h some is.own.from (omega arith) (flag_at heap h ∙ is.passes) (λ i past. flag_at heap i ∙ is.behind i past) heap len
    ∙ ap (λ all. behind 256 (whole_given all (unbacked_span heap h 1) (n - 256)))
    (grind (arith, nat_tests, flags_set, unbacked_there, is.own.from))

still_backed : (heap : Heap) (k h : ℕ) → IsSound heap → 0 < k → k ≤ heap.config.huge → 0 < h →
    is_free_backed (hugepage (unbacked_span heap k 1) h) ≡ cond (spans 1 h k) false (is_free_backed (hugepage heap h))
still_backed heap k h sound from to some =
    let arena = sound.runs.arena in
    let flags = map is_free_backed heap.hugepages in
    let len = length-map heap.hugepages is_free_backed in
    grind (arith, flags_set, unbacked_there, flag_at (unbacked_span heap k 1) h, numbered-set flags k false h false from, flag_at heap h)

two_spans : (heap : Heap) (first m : ℕ) → unbacked_span (unbacked_span heap (first + suc m) 1) first (suc m) ≡ unbacked_span heap first (suc (suc m))
two_spans heap first m = grind (arith, each_each, each_where)

pub free_none : (heap : Heap) (n : ℕ) → ((h : ℕ) → is_free_backed (hugepage heap h) ≡ false) → free_given heap n ≡ record { heap = heap; pages = 0 }
free_none heap n none = whole_none (map is_free_backed heap.hugepages) heap n (λ k from to. and_left _ _ (flag_at heap k ∙ none k))

-- none gives where none are wanted
pub whole_zero : (flags : List Bool) (heap : Heap) (n : ℕ) → n ≡ 0 → whole_given flags heap n ≡ record { heap = heap; pages = 0 }
whole_zero flags heap n e = whole_none flags heap n (λ k from to. and_right (at_number false flags k) _ (le-ltb (256 * count_by (λ b. b) (drop k flags)) n (omega arith)))

-- Unused hugepages of regions.
idle_there : (heap : Heap) (k : ℕ) → at_number false (map (is_idle heap) (numbers heap)) k ≡ is_idle heap k
idle_there heap zero = refl
idle_there heap (suc k) = elim (cases_lt k (length heap.hugepages)) [
  | inl inside ↦ idle_at heap (suc k) (omega arith) (omega arith)
  | inr past ↦ grind (arith, nat_tests, length-map-range_with_len, get_or_past)
]

module _ (heap : Heap) (huge : Huge) (sound : IsSound heap) (is : IsLast heap (is_idle heap) huge) where
  abbrev idle_row : List Bool
  idle_row = map (is_idle heap) (numbers heap)

  abbrev unidle : Heap
  unidle = unbacked_span heap huge.0 1

  idle_to : huge.0 ≤ length idle_row
  idle_to = let len = length-map-range_with_len (is_idle heap) 1 (length heap.hugepages) in let arena = sound.runs.arena in omega (arith, is.own.to)

  idle_flags : set idle_row (huge.0 - 1) false ≡ map (is_idle unidle) (numbers unidle)
  idle_flags =
      let f : ℕ → Hugepage → Hugepage = λ k x. cond (spans 1 k huge.0) (unbacked x) x in
      let len = length-map-range_with_len (is_idle heap) 1 (length heap.hugepages) in
      let len' = length-map-range_with_len (is_idle unidle) 1 (length unidle.hugepages) in
      let size = length-each f heap.hugepages in
      same_numbered false (set idle_row (huge.0 - 1) false) (map (is_idle unidle) (numbers unidle)) (length-set idle_row (huge.0 - 1) false ∙ len ∙ sym size ∙ sym len')
      (λ k pos l.
      (let own : IsHugepageOf heap.config.huge k = record { from = pos; to = (let s = length-set idle_row (huge.0 - 1) false in omega arith) } in
      let x = hugepage heap k in
      let test : Hugepage → Bool = λ y. is_region y && used_count heap.runs k == 0 && list_all (λ b. b) y.backed in
      numbered-set idle_row huge.0 false k false is.own.from idle_to pos
      ∙ ap (cond (spans 1 k huge.0) false) (idle_there heap k)
      ∙ (elim (spans 1 k huge.0) as (λ b. cond b false (test x) ≡ test (cond b (unbacked x) x)) [ true ↦ sym (and_right (is_region x && used_count heap.runs k == 0) false refl) | false ↦ refl ])
      ∙ ap test (sym (here heap heap.runs heap.regions f heap.counts sound.runs k own))
      ∙ sym (idle_there unidle k)))

  pub idle_next : (n : ℕ) → 0 < n → idle_given heap n ≡ behind 256 (idle_given unidle (n - 256))
  idle_next n some =
      let len = length-map-range_with_len (is_idle heap) 1 (length heap.hugepages) in
      whole_next idle_row n huge.0 some is.own.from idle_to (idle_there heap huge.0 ∙ is.passes) (λ i past. idle_there heap i ∙ is.behind i past) heap len
      ∙ ap (λ all. behind 256 (whole_given all unidle (n - 256))) idle_flags

  -- none behind it, nor it, gives any more
  pub idle_then : (k : ℕ) → huge.0 - 1 < k → is_idle unidle k ≡ false
  idle_then k l =
      sym (idle_there unidle k) ∙ ap (λ row. at_number false row k) (sym idle_flags)
      ∙ numbered-set idle_row huge.0 false k false is.own.from idle_to (omega arith)
      ∙ elim (cases_eq k huge.0) [
        | inl e ↦ ap (λ b. cond b false (at_number false idle_row k)) (one_is k huge.0 e)
        | inr ne ↦ ap (λ b. cond b false (at_number false idle_row k)) (one_not k huge.0 ne) ∙ idle_there heap k ∙ is.behind k (omega (arith, ne))
      ]

pub idle_none : (heap : Heap) (n : ℕ) → ((h : ℕ) → is_idle heap h ≡ false) → idle_given heap n ≡ record { heap = heap; pages = 0 }
idle_none heap n none = whole_none (map (is_idle heap) (numbers heap)) heap n (λ k from to. and_left _ _ (idle_there heap k ∙ none k))

-- So one step of a release is sound.
pub one_free : (heap : Heap) (huge : Huge) → IsSound heap → IsLast heap (λ h. is_free_backed (hugepage heap h)) huge → IsSound (unbacked_span heap huge.0 1)
one_free heap huge sound is =
    subst IsSound (ap (λ (r : Released). r.heap) (free_next heap 1 huge sound (omega arith) is)
    ∙ ap (λ (r : Released). r.heap)
    (whole_zero (map is_free_backed (unbacked_span heap huge.0 1).hugepages) (unbacked_span heap huge.0 1) (1 - 256) refl)) (free_sound heap 1 sound)

pub one_idle : (heap : Heap) (huge : Huge) → IsSound heap → IsLast heap (is_idle heap) huge → IsSound (unbacked_span heap huge.0 1)
one_idle heap huge sound is =
    let after : Heap = unbacked_span heap huge.0 1 in
    subst IsSound (ap (λ (r : Released). r.heap) (idle_next heap huge sound is 1 (omega arith))
    ∙ ap (λ (r : Released). r.heap) (whole_zero (map (is_idle after) (numbers after)) after (1 - 256) refl)) (idle_sound heap 1 sound)

-- Adjacent free ones give together, as one after another from the last one down.
together : (give : ℕ → Released) (a b c n : ℕ) → a + b ≡ c → behind a (behind b (give (n - a - b))) ≡ behind c (give (n - c))
together give a b c n e = grind (arith)

pub free_stretch : (heap : Heap) (n first many : ℕ) → IsSound heap → AreLast heap (λ h. is_free_backed (hugepage heap h)) (record { first = record { 0 = first }; many = many }) →
    256 * (many - 1) < n → free_given heap n ≡ behind (256 * many) (free_given (unbacked_span heap first many) (n - 256 * many))
free_stretch heap n first zero sound are wanted = absurd (omega (arith, are.some))
free_stretch heap n first (suc zero) sound are wanted =
    free_next heap n (record { 0 = first }) sound (omega arith) (record {
      own = record { from = are.from; to = omega (arith, are.to) };
      passes = are.pass first (omega arith) (omega arith);
      behind = λ h past. are.behind h (omega arith);
    })
free_stretch heap n first (suc (suc m)) sound are wanted =
    let last : ℕ = first + suc m in
    let huge : Huge = record { 0 = last } in
    let to : last ≤ heap.config.huge = omega (arith, are.to) in
    let is : IsLast heap (λ h. is_free_backed (hugepage heap h)) huge = grind (arith, are.pass last, are.behind) in
    let after : Heap = unbacked_span heap last 1 in
    let rest = free_stretch after (n - 256) first (suc m) (one_free heap huge sound is) (record {
      from = are.from;
      some = omega arith;
      to = omega arith;
      pass = λ h low high. (still_backed heap last h sound (omega arith) to (omega (arith, are.from))
          ∙ ap (λ b. cond b false (is_free_backed (hugepage heap h))) (one_not h last (omega arith)) ∙ are.pass h low (omega arith));
      behind = λ h low. (still_backed heap last h sound (omega arith) to (omega (arith, are.from)) ∙ elim (cases_eq h last) [
        | inl e ↦ ap (λ b. cond b false (is_free_backed (hugepage heap h))) (one_is h last e)
        | inr ne ↦ ap (λ b. cond b false (is_free_backed (hugepage heap h))) (one_not h last ne) ∙ are.behind h (omega (arith, ne))
      ]);
    }) (omega arith) in
    free_next heap n huge sound (omega arith) is ∙ ap (behind 256) rest
    ∙ ap (λ x. behind 256 (behind (256 * suc m) (free_given x (n - 256 - 256 * suc m)))) (two_spans heap first m)
    ∙ together (free_given (unbacked_span heap first (suc (suc m)))) 256 (256 * suc m) (256 * suc (suc m)) n (omega arith)

pub stretch_sound : (heap : Heap) (first many : ℕ) → IsSound heap → AreLast heap (λ h. is_free_backed (hugepage heap h)) (record { first = record { 0 = first }; many = many }) →
    IsSound (unbacked_span heap first many)
stretch_sound heap first many sound are =
    let after : Heap = unbacked_span heap first many in
    let n : ℕ = 256 * (many - 1) + 1 in
    subst IsSound (ap (λ (r : Released). r.heap) (free_stretch heap n first many sound are (omega arith))
    ∙ ap (λ (r : Released). r.heap) (whole_zero (map is_free_backed after.hugepages) after (n - 256 * many) (omega (arith, are.some)))) (free_sound heap n sound)

-- A heap settles as it would release what is above its limit.
take_drop : (xs : List Bool) (k : ℕ) → k < length xs → get_or xs k false ≡ true → count_by (λ b. b) (take k xs) + 1 + count_by (λ b. b) (drop (suc k) xs) ≡ count_by (λ b. b) xs
take_drop [] k l t = absurd (omega arith)
take_drop (x ∷ xs) zero l t = let a = count-cons (λ b. b) x xs in let one = one-true x t in omega arith
take_drop (x ∷ xs) (suc k) l t =
    let a = count-cons (λ b. b) x xs in let b = count-cons (λ b. b) x (take k xs) in let rest = take_drop xs k (omega arith) t in omega arith

over_is : (xs : List Bool) (limit k : ℕ) → 0 < k → k ≤ length xs → is_over limit xs k ≡ gives_whole xs (256 * (count_by (λ b. b) xs - limit)) k
over_is xs limit k from to = grind (arith, nat_tests, take_drop, at_number-place)

pub settled_is : (heap : Heap) → settled heap ≡ (free_given (noted heap) (256 * over_limit (noted heap))).heap
settled_is heap =
    let flags = map is_free_backed heap.hugepages in
    let len = length-map heap.hugepages is_free_backed in
    let m : ℕ = limit heap.config.cache (counted heap) in
    let count : count_by (λ b. b) flags ≡ count_by is_free_backed heap.hugepages = count-map is_free_backed heap.hugepages in
    ap (λ xs. record heap { hugepages = xs; counts = counted heap })
    (each_where (λ k x. cond (is_over m flags k) (unbacked x) x)
    (λ k x. cond (gives_whole flags (256 * (count_by is_free_backed heap.hugepages - m)) k) (unbacked x) x) heap.hugepages
    (λ k from to. (let x = at heap.hugepages k in ap (λ b. cond b (unbacked x) x) (over_is flags m k from (omega arith) ∙ ap (λ c. gives_whole flags (256 * (c - m)) k) count))))

-- A release from its three steps.
pub released_by : (given first second third : Heap) (n m k a b c : ℕ) → m ≡ n - a → k ≡ n - (a + b) →
    free_given given n ≡ record { heap = first; pages = a } → idle_given first m ≡ record { heap = second; pages = b } →
    spare_given second k ≡ record { heap = third; pages = c } → release given n ≡ record { heap = third; pages = a + b + c }
released_by given first second third n m k a b c p q e f g =
    ap (λ (x : Released). (let y = idle_given x.heap (n - x.pages) in let z = spare_given y.heap (n - (x.pages + y.pages)) in record z { pages = x.pages + y.pages + z.pages })) e
    ∙ (ap (λ (y : Released). (let z = spare_given y.heap (n - (a + y.pages)) in record z { pages = a + y.pages + z.pages })) (ap (idle_given first) (sym p) ∙ f)
    ∙ ap (λ (z : Released). record z { pages = a + b + z.pages }) (ap (spare_given second) (sym q) ∙ g))

-- A loop that gives until enough was given, by what one step makes of what is left to give.
module _ (give : Heap → ℕ → Released) where
  pub loop_begins : (heap : Heap) (n : ℕ) → give heap n ≡ behind 0 (give heap (n - 0))
  loop_begins heap n = grind (arith, nat_tests)

  pub loop_ends : (first heap : Heap) (n given : ℕ) → give first n ≡ behind given (give heap (n - given)) →
      give heap (n - given) ≡ record { heap = heap; pages = 0 } → give first n ≡ record { heap = heap; pages = given }
  loop_ends first heap n given so_far done = so_far ∙ behind_none given heap (give heap (n - given)) done

  pub loop_few : (first heap : Heap) (n given most : ℕ) → give first n ≡ behind given (give heap (n - given)) → (give first n).pages ≤ most → given ≤ most
  loop_few first heap n given most so_far few = grind (arith, nat_tests)
