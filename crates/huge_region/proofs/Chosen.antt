-- The region whose key is found is the preferred one, and the place in it.
use Rattle.std.proofs.Common.{◌≡◌, ℕ, ◌+◌, ◌*◌, ◌/◌, ◌<◌, ◌≤◌, true, false, not, nat_lt, nat_eq, List, get_or, filter, Some, None, All, Contains, refl, sym, ap, subst, ◌∙◌, inl, inr, arith}
use Rattle.huge_region.proofs.Common.{list_all, cases_Bool, cases_lt, le-leb, lt-leb, leb-true, not_from_false, not-true, nat_tests, All-contains, All-filter}
use Rattle.huge_region.proofs.Common.{All-contains_itself, filter_passes, Contains-get_or, none-some, longest, best, first_least, best_is_fit}
use Rattle.huge_region.proofs.Common.{RegionRow, is_preferred, has_room, region_place, row_held, key_held, RegionKey, Inside, comes_before}
use Rattle.huge_region.proofs.Common.{total, IsSound, IsInside, regions_of, key_of, Regions, region_with, start_in, AreFreeIn}
use Rattle.std.proofs.lemmas.List.Sums.{list_all-from_AllPass, AllPass-from_list_all}
use Rattle.range_bits.proofs.RangeLemmas.{filter-none}
use Rattle.range_bits.proofs.Least.{IsBehind, least_is_first}
use Rattle.heap_rules.proofs.Orders.{by_first, last_is}
use Rattle.heap_rules.proofs.Live.{filter_holds}
use Rattle.sorted_list.specs.Measures.{not_yes}
use Rattle.sorted_list.specs.Order.{IsFirstFrom}
use Rattle.sorted_list.specs.Rows.{IsIndexOf}
use Rattle.huge_region.proofs.Kept.{held_has, one_region, HasHuge, has_huge}

-- the key before which no region comes that has n adjacent unused pages
abbrev pub least_of : ℕ → RegionKey
least_of n = record { longest = n; first = record { 0 = 0 } }

-- The two orders are one.
preferred_is : (a b : RegionRow) → is_preferred a b ≡ comes_before (key_of a) (key_of b)
preferred_is a b = by_first (longest a.used) (longest b.used) _ _ (last_is (nat_lt a.first b.first) (nat_eq a.first b.first))

long_enough : (n : ℕ) (key : RegionKey) → comes_before key (least_of n) ≡ false → n ≤ key.longest
long_enough n key h = elim (not_yes key.longest n (nat_lt key.first.0 0) h) [ inl l ↦ omega arith | inr e ↦ omega (arith, e.0) ]

not_before : (n : ℕ) (key : RegionKey) → n ≤ key.longest → comes_before key (least_of n) ≡ false
not_before n key l = grind (arith, nat_tests)

-- the region whose key is the first that is long enough
pub record IsChosen (all : Regions) (n h : ℕ) (r : RegionRow) : Type 0 where
  pub first : r.first ≡ h
  pub room : n ≤ longest r.used
  pub found : region_with all h ≡ Some r
  pub has : HasHuge all h r
  pub least : first_least is_preferred (filter (has_room n) all.rows) ≡ Some r

pub chosen : (all : Regions) (keys : List RegionKey) (n : ℕ) (key : RegionKey) → IsSound all → IsIndexOf key_of all.rows keys
    → IsFirstFrom comes_before keys (least_of n) key → (r : RegionRow) × IsChosen all n key.first.0 r
chosen all keys n key sound index is =
    let there = row_held comes_before total key_of all.rows keys key index is.held in
    let r : RegionRow = there.0 in
    let held : Contains all.rows r = there.1 in
    let same : r.first ≡ key.first.0 = ap (λ (k : RegionKey). k.first.0) there.2 in
    let long : longest r.used ≡ key.longest = ap (λ (k : RegionKey). k.longest) there.2 in
    let room : n ≤ longest r.used = omega (arith, long_enough n key is.behind) in
    let at : region_with all key.first.0 ≡ Some r = held_has all key.first.0 r sound held (omega arith) (omega (arith, sound.wide)) in
    let behind : All (IsBehind is_preferred r) (filter (has_room n) all.rows) = λ i d l.
    let x : RegionRow = get_or (filter (has_room n) all.rows) i d in
    let in_rows : Contains all.rows x = All-filter (has_room n) (Contains all.rows) all.rows (All-contains_itself all.rows) i d l in
    let long_too : n ≤ longest x.used = leb-true n (longest x.used) (filter_passes (has_room n) all.rows i d l) in
    let after : comes_before (key_of x) (key_of r) ≡ false =
    subst (λ (k : RegionKey). comes_before (key_of x) k ≡ false) (sym there.2) (All-contains (λ k. comes_before k (least_of n) ≡ false
    → comes_before k key ≡ false) keys (key_of x) is.first (key_held comes_before total key_of all.rows keys x index in_rows) (not_before n (key_of x) long_too)) in
    elim (cases_Bool (comes_before (key_of r) (key_of x))) [
      | inl before ↦ inr (preferred_is r x ∙ before, preferred_is x r ∙ after)
      | inr level ↦ inl (one_region all x r sound in_rows held (ap (λ (k : RegionKey). k.first.0) (total.same (key_of x) (key_of r) after level)))
    ] in (
      r,
      record {
        first = same;
        room = room;
        found = at;
        has = has_huge all key.first.0 r sound at;
        least = least_is_first is_preferred r (filter (has_room n) all.rows) (filter_holds (has_room n) all.rows r held (le-leb n (longest r.used) room)) behind;
      },
    )

-- as it is found in what is kept
pub chosen_by : (t : Inside) (now : Regions) (n : ℕ) (key : RegionKey) → IsInside t → regions_of t ≡ now
    → IsFirstFrom comes_before t.keys.keys (least_of n) key → (r : RegionRow) × IsChosen now n key.first.0 r
chosen_by t now n key kept view is = subst (λ (x : Regions). (r : RegionRow) × IsChosen x n key.first.0 r) view (chosen (regions_of t) t.keys.keys n key kept.0.sound kept.0.keys_are is)

-- where no key is long enough, no region has room, and none is placed in
pub none_chosen : (all : Regions) (keys : List RegionKey) (n : ℕ) → IsIndexOf key_of all.rows keys → All (λ k. comes_before k (least_of n) ≡ true) keys
    → list_all (λ row. not (has_room n row)) all.rows ≡ true
none_chosen all keys n index none =
    list_all-from_AllPass (λ row. not (has_room n row)) all.rows (λ i d l.
    let r : RegionRow = get_or all.rows i d in
    let before = All-contains (λ k. comes_before k (least_of n) ≡ true) keys (key_of r) none (key_held comes_before total key_of all.rows keys r index (Contains-get_or all.rows i d l)) in
    grind (arith, nat_tests, cases_lt, not_from_false, has_room, lt-leb, not_before, key_of))

no_place : (rows : List RegionRow) (n : ℕ) → list_all (λ row. not (has_room n row)) rows ≡ true → first_least is_preferred (filter (has_room n) rows) ≡ None
no_place rows n all = ap (first_least is_preferred) (filter-none (has_room n) rows (λ i d l. not-true (has_room n (get_or rows i d)) (AllPass-from_list_all (λ row. not (has_room n row)) rows all i d l)))

pub placed_nowhere : (rows : List RegionRow) (n : ℕ) → list_all (λ row. not (has_room n row)) rows ≡ true → region_place rows n ≡ None
placed_nowhere rows n all = rw (no_place rows n all) refl

pub some_has_room : (all : Regions) (n h : ℕ) (r : RegionRow) → IsChosen all n h r → list_all (λ row. not (has_room n row)) all.rows ≡ true → ⊥
some_has_room all n h r is none = none-some r (sym (no_place all.rows n none) ∙ is.least)

-- the place that is chosen
pub record IsPlaced (all : Regions) (n page : ℕ) : Type 0 where
  pub place : region_place all.rows n ≡ Some page
  pub region : RegionRow
  pub free : AreFreeIn all page n region
  pub small : page < 4294967296

pub placed : (all : Regions) (n h start : ℕ) (r : RegionRow) → IsSound all → 0 < n → IsChosen all n h r → best r.used n ≡ Some start → IsPlaced all n (256 * h + start)
placed all n h start r sound some is e =
    let fit = best_is_fit r.used n start e in
    let first : 256 * r.first + start ≡ 256 * h + start = ap (λ (x : ℕ). 256 * x + start) is.first in
    let huge : (256 * h + start) / 256 ≡ h + start / 256 = omega arith in
    let offset : start_in r (256 * h + start) ≡ start = omega (arith, is.first) in
    grind (arith, held_has all (h + start / 256) r sound is.has.held)
