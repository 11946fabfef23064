-- Rows of regions in their order: which one has a hugepage, and what stays where one changes, comes or leaves.
use Rattle.std.proofs.Common.{◌≡◌, ℕ, zero, suc, ◌+◌, ◌-◌, ◌*◌, ◌<◌, ◌≤◌, Bool, true, false, cond, ◌==◌, not, List, [], ◌∷◌, length, get_or, set}
use Rattle.std.proofs.Common.{insert, remove, map, filter, Option, Some, None, All, Contains, refl, sym, ap, ◌∙◌, inl, inr, arith}
use Rattle.huge_region.proofs.Common.{get_or_default, find, suc-mul, cases_Bool, cases_lt, lt-ltb, le-ltb, eq-eqb, ne_eqb, nat_tests, none-some}
use Rattle.huge_region.proofs.Common.{same_Some, All-head, All-tail, spans, RegionRow, AreApartFrom}
use Rattle.tc_units.specs.Sorted.{with_item, without_key}
use Rattle.heap_rules.proofs.Fits.{spans_from}

-- a row that has a hugepage, or hasn't
pub spans_below : (w h first : ℕ) → h < first → spans w h first ≡ false
spans_below w h first low = grind (arith, nat_tests)

pub spans_behind : (w h first : ℕ) → first + w ≤ h → spans w h first ≡ false
spans_behind w h first high = grind (arith, nat_tests)

-- what a search finds, and what it passes by
pub found_parts : {X : Type 0} (p : X → Bool) (xs : List X) (x : X) → find p xs ≡ Some x → (p x ≡ true) × Contains xs x
found_parts p [] x e = absurd (none-some x e)
found_parts p (y ∷ ys) x e =
    elim (cases_Bool (p y)) [
      | inl t ↦ (let same : y ≡ x = same_Some y x (sym (ap (λ (b : Bool). cond b (Some y) (find p ys)) t) ∙ e) in (ap p (sym same) ∙ t, (0, omega arith, same)))
      | inr f ↦ (let rest = found_parts p ys x (sym (ap (λ (b : Bool). cond b (Some y) (find p ys)) f) ∙ e) in (rest.0, (suc rest.1.0, omega (arith, rest.1.1), rest.1.2)))
    ]

-- where a row begins that was read
pub read_first : (rows : List RegionRow) (i j : ℕ) (d r : RegionRow) → r ≡ get_or rows j r → i ≡ j → i < length rows → (get_or rows i d).first ≡ r.first
read_first rows i j d r is same inside =
    ap (λ (x : RegionRow). x.first) (get_or_default rows i d r inside ∙ ap (λ (k : ℕ). get_or rows k r) same ∙ sym is)

module _ (w : ℕ) where
  abbrev with_huge : ℕ → List RegionRow → Option RegionRow
  with_huge h rows = find (λ (r : RegionRow). spans w h r.first) rows

  -- no row begins before the limit, and a lower limit holds too
  pub begins : (from : ℕ) (rows : List RegionRow) (i : ℕ) (d : RegionRow) → AreApartFrom w from rows → i < length rows → from ≤ (get_or rows i d).first
  begins from [] i d apart l = absurd (omega arith)
  begins from (r ∷ rows) zero d apart l = apart.0
  begins from (r ∷ rows) (suc i) d apart l = omega (arith, apart.0, begins (r.first + w) rows i d apart.1 (omega arith))

  lower : (from low : ℕ) (rows : List RegionRow) → low ≤ from → AreApartFrom w from rows → AreApartFrom w low rows
  lower from low [] l apart = tt
  lower from low (r ∷ rows) l apart = (omega (arith, apart.0), apart.1)

  -- the row at a place has its hugepages, and none has one between two rows
  pub found_there : (from h : ℕ) (rows : List RegionRow) (i : ℕ) (d : RegionRow) → AreApartFrom w from rows → i < length rows → (get_or rows i d).first ≤ h
      → h < (get_or rows i d).first + w → with_huge h rows ≡ Some (get_or rows i d)
  found_there from h [] i d apart l low high = absurd (omega arith)
  found_there from h (r ∷ rows) zero d apart l low high = rw (spans_from w h r.first low high) refl
  found_there from h (r ∷ rows) (suc i) d apart l low high =
      rw (spans_behind w h r.first (omega (arith, begins (r.first + w) rows i d apart.1 (omega arith)))) (found_there (r.first + w) h rows i d apart.1 (omega arith) low high)

  found_nowhere : (from h : ℕ) (rows : List RegionRow) → AreApartFrom w from rows → ((i : ℕ) (d : RegionRow) → i < length rows
      → (get_or rows i d).first ≤ h → (get_or rows i d).first + w ≤ h) → with_huge h rows ≡ None
  found_nowhere from h [] apart none = refl
  found_nowhere from h (r ∷ rows) apart none =
      let rest = found_nowhere (r.first + w) h rows apart.1 (λ i d l. none (suc i) d (omega arith)) in
      elim (cases_lt h r.first) [
        | inl before ↦ rw (spans_below w h r.first before) rest
        | inr from_there ↦ rw (spans_behind w h r.first (none 0 r (omega arith) from_there)) rest
      ]

  apart_by : (from : ℕ) (rows : List RegionRow) (i j : ℕ) (d : RegionRow) → AreApartFrom w from rows → i < j → j < length rows → (get_or rows i d).first + w ≤ (get_or rows j d).first
  apart_by from [] i j d apart l k = absurd (omega arith)
  apart_by from (r ∷ rows) i zero d apart l k = absurd (omega arith)
  apart_by from (r ∷ rows) zero (suc j) d apart l k = begins (r.first + w) rows j d apart.1 (omega arith)
  apart_by from (r ∷ rows) (suc i) (suc j) d apart l k = apart_by (r.first + w) rows i j d apart.1 (omega arith) (omega arith)

  pub in_order : (from : ℕ) (rows : List RegionRow) (i j : ℕ) (d : RegionRow) → AreApartFrom w from rows → i < j → j < length rows → (get_or rows i d).first ≤ (get_or rows j d).first
  in_order from rows i j d apart l k = omega (arith, apart_by from rows i j d apart l k)

  -- so where all begin behind it from a place on, and the one before that place ends before it
  pub none_behind : (from h b : ℕ) (rows : List RegionRow) → AreApartFrom w from rows → b ≤ length rows → ((i : ℕ) (d : RegionRow) → b ≤ i
      → i < length rows → h < (get_or rows i d).first) → ((i : ℕ) (d : RegionRow) → i + 1 ≡ b → (get_or rows i d).first + w ≤ h) → with_huge h rows ≡ None
  none_behind from h b rows apart inside behind before =
      found_nowhere from h rows apart (λ i d l first.
      elim (cases_lt i b) [
        | inr late ↦ absurd (omega (arith, behind i d late l))
        | inl early ↦ elim (cases_lt (i + 1) b) [
          | inl earlier ↦ omega (arith, apart_by from rows i (b - 1) d apart (omega arith) (omega arith), before (b - 1) d (omega arith))
          | inr last ↦ before i d (omega arith)
        ]
      ])

  -- A row changes, by its first hugepage.
  pub at_place : (from : ℕ) (rows : List RegionRow) (i : ℕ) (change : RegionRow → RegionRow) (d : RegionRow) → AreApartFrom w from rows → 0 < w
      → i < length rows → map (λ r. cond (r.first == (get_or rows i d).first) (change r) r) rows ≡ set rows i (change (get_or rows i d))
  at_place from [] i change d apart some l = absurd (omega arith)
  at_place from (r ∷ rows) zero change d apart some l =
      rw (eq-eqb r.first r.first refl) (ap (λ rs. change r ∷ rs) (others (r.first + w) r.first rows change apart.1 (omega arith)))
    where
      others : (from first : ℕ) (rows : List RegionRow) (change : RegionRow → RegionRow) → AreApartFrom w from rows → first < from → map (λ r. cond (r.first == first) (change r) r) rows ≡ rows
      others from first [] change apart l = refl
      others from first (r ∷ rows) change apart l = rw (ne_eqb r.first first (λ e. omega (arith, apart.0))) (ap (λ rs. r ∷ rs) (others (r.first + w) first rows change apart.1 (omega (arith, apart.0))))
  at_place from (r ∷ rows) (suc i) change d apart some l = grind (arith, nat_tests, ne_eqb, begins, at_place (r.first + w) rows i change d apart.1 some (omega arith))

  pub apart_set : (from : ℕ) (rows : List RegionRow) (i : ℕ) (r d : RegionRow) → r.first ≡ (get_or rows i d).first → AreApartFrom w from rows → AreApartFrom w from (set rows i r)
  apart_set from [] i r d same apart = tt
  apart_set from (x ∷ rows) zero r d same apart = rw same apart
  apart_set from (x ∷ rows) (suc i) r d same apart = (apart.0, apart_set (x.first + w) rows i r d same apart.1)

  -- A row comes, whose hugepages no other one has: behind all that begin before it.
  pub inserted_is : (rows : List RegionRow) (b : ℕ) (r d : RegionRow) → b ≤ length rows → ((i : ℕ) (d : RegionRow) → i < b
      → (get_or rows i d).first ≤ r.first) → ((i : ℕ) (d : RegionRow) → b ≤ i → i < length rows → r.first < (get_or rows i d).first)
      → with_item (λ (x : RegionRow). x.first) r rows ≡ insert rows b r
  inserted_is [] zero r d inside before behind = refl
  inserted_is [] (suc b) r d inside before behind = absurd (omega arith)
  inserted_is (x ∷ rows) zero r d inside before behind = rw (lt-ltb r.first x.first (behind 0 d (omega arith) (omega arith))) refl
  inserted_is (x ∷ rows) (suc b) r d inside before behind =
      rw (le-ltb r.first x.first (before 0 d (omega arith))) (ap (λ rs. x ∷ rs) (inserted_is rows b r d (omega arith) (λ i e l. before (suc i) e (omega arith)) (λ i e l k. behind (suc i) e (omega arith) (omega arith))))

  pub apart_with : (from : ℕ) (rows : List RegionRow) (r : RegionRow) → AreApartFrom w from rows → 0 < w → from ≤ r.first
      → ((h : ℕ) → r.first ≤ h → h < r.first + w → with_huge h rows ≡ None) → AreApartFrom w from (with_item (λ (x : RegionRow). x.first) r rows)
  apart_with from [] r apart some low free = (low, tt)
  apart_with from (x ∷ rows) r apart some low free =
      let passed : (h : ℕ) → r.first ≤ h → h < r.first + w → x.first ≤ h → x.first + w ≤ h =
      λ h a b l. elim (cases_lt h (x.first + w)) [
        | inl in_it ↦ absurd (none-some x (sym (free h a b)
            ∙ rw (spans_from w h x.first l in_it) refl))
        | inr past ↦ past
      ] in
      grind (arith, nat_tests, apart_with (x.first + w) rows r apart.1 some, passed x.first, passed r.first, spans_behind w, free)

  -- A row leaves.
  pub removed_is : (from : ℕ) (rows : List RegionRow) (i : ℕ) (d : RegionRow) → AreApartFrom w from rows → 0 < w → i < length rows
      → without_key (λ (x : RegionRow). x.first) (get_or rows i d).first rows ≡ remove rows i
  removed_is from [] i d apart some l = absurd (omega arith)
  removed_is from (r ∷ rows) zero d apart some l =
      rw (eq-eqb r.first r.first refl) (others (r.first + w) r.first rows apart.1 (omega arith))
    where
      others : (from first : ℕ) (rows : List RegionRow) → AreApartFrom w from rows → first < from → filter (λ (x : RegionRow). not (x.first == first)) rows ≡ rows
      others from first [] apart l = refl
      others from first (r ∷ rows) apart l = rw (ne_eqb r.first first (λ e. omega (arith, apart.0))) (ap (λ rs. r ∷ rs) (others (r.first + w) first rows apart.1 (omega (arith, apart.0))))
  removed_is from (r ∷ rows) (suc i) d apart some l = grind (arith, nat_tests, ne_eqb, begins, removed_is (r.first + w) rows i d apart.1 some (omega arith))

  pub apart_filter : (p : RegionRow → Bool) (from : ℕ) (rows : List RegionRow) → AreApartFrom w from rows → AreApartFrom w from (filter p rows)
  apart_filter p from [] apart = tt
  apart_filter p from (r ∷ rows) apart = grind (arith, apart_filter p (r.first + w) rows apart.1, lower)

  -- The arena has room for so many.
  pub they_fit : (from huge : ℕ) (rows : List RegionRow) → AreApartFrom w from rows → All (λ r. r.first + w ≤ huge + 1) rows → from ≤ huge + 1 → from + length rows * w ≤ huge + 1
  they_fit from huge [] apart high low = omega arith
  they_fit from huge (r ∷ rows) apart high low =
      let P : RegionRow → Type 0 = λ x. x.first + w ≤ huge + 1 in
      omega (arith, apart.0, they_fit (r.first + w) huge rows apart.1 (All-tail P r rows high) (All-head P r rows high), suc-mul (length rows) w)
