-- What is kept of regions and beside them, where one changes, comes or leaves.
use Rattle.std.proofs.Common.{◌≡◌, ℕ, ◌+◌, ◌*◌, ◌/◌, ◌<◌, ◌≤◌, Bool, true, false, ◌==◌, not, cond, List, [], ◌∷◌, ◌++◌, length, get_or, set, insert}
use Rattle.std.proofs.Common.{remove, filter, replicate, Some, None, Contains, IsPermutation, refl, sym, ap, subst, ◌∙◌, arith}
use Rattle.huge_region.proofs.Common.{nat_tests, eqb-true, same_Some, length-set, length-replicate, length_push, All-contains}
use Rattle.huge_region.proofs.Common.{All-set, All-push, All-pop, All-filter, huge_pages, used_count, with_places, RegionRow, index_more, index_fewer}
use Rattle.huge_region.proofs.Common.{index_changed, key_held, RegionKey, Inside, comes_before, total, IsSound, IsKept, IsSpare, IsInside, regions_of, key_of}
use Rattle.huge_region.proofs.Common.{Regions, region_with, with_changed, with_region, without_region, unused, is_unused, start_in}
use Rattle.std.proofs.lemmas.List.Edits.{length-insert, length-remove}
use Rattle.std.proofs.lemmas.List.Sums.{sum_by-cons, sum_by-set, sum_by-insert, sum_by-remove}
use Rattle.tc_units.specs.Sorted.{without_key}
use Rattle.tc_units.proofs.SortedFacts.{All-with_item, length-with_item}
use Rattle.sorted_list.specs.Contents.{Contents}
use Rattle.huge_region.proofs.Apart.{begins, found_parts, found_there, at_place, apart_set, inserted_is, apart_with, removed_is, apart_filter, they_fit}
use Rattle.heap_rules.proofs.Fits.{spans_parts}

abbrev pub with_rows : Regions → List RegionRow → Regions
with_rows all rows = record { huge = all.huge; width = all.width; rows = rows }

-- a region of which n pages from a start on become used or unused
abbrev pub put_in : ℕ → ℕ → Bool → RegionRow → RegionRow
put_in start n b r = record { first = r.first; used = with_places r.used start n b }

-- the region of a hugepage
pub record HasHuge (all : Regions) (h : ℕ) (r : RegionRow) : Type 0 where
  pub low : r.first ≤ h
  pub high : h < r.first + all.width
  pub held : Contains all.rows r
  pub size : length r.used ≡ huge_pages * all.width
  pub some : 0 < r.first
  pub arena : r.first + all.width ≤ all.huge + 1

pub has_huge : (all : Regions) (h : ℕ) (r : RegionRow) → IsSound all → region_with all h ≡ Some r → HasHuge all h r
has_huge all h r sound e = grind (arith, nat_tests, begins, found_parts, All-contains, spans_parts)

-- a region that is held has all its hugepages, and is told by its first
pub held_has : (all : Regions) (h : ℕ) (r : RegionRow) → IsSound all → Contains all.rows r → r.first ≤ h → h < r.first + all.width → region_with all h ≡ Some r
held_has all h r sound held low high = grind (arith, found_there all.width 1 h all.rows held.0 r sound.apart held.1)

pub one_region : (all : Regions) (a b : RegionRow) → IsSound all → Contains all.rows a → Contains all.rows b → a.first ≡ b.first → a ≡ b
one_region all a b sound in_a in_b same = grind (arith, held_has all a.first a sound in_a, held_has all a.first b sound in_b)

-- a region at its place in the list, as it is found by one of its hugepages
pub record Stands (v : Regions) (h place : ℕ) (r : RegionRow) : Type 0 where
  pub inside : place < length v.rows
  pub is : get_or v.rows place r ≡ r
  pub found : region_with v h ≡ Some r
  pub has : HasHuge v h r

pub stands : (v now : Regions) (h place : ℕ) (r : RegionRow) → v ≡ now → IsSound v → place < length now.rows
    → ((d : RegionRow) → region_with now h ≡ Some (get_or now.rows place d)) → r ≡ get_or v.rows place r → Stands v h place r
stands v now h place r same sound inside found value = grind (arith, nat_tests, region_with, has_huge)

-- the key of a region that stands there is held
pub held_key : (v : Regions) (keys : Contents RegionKey) (spare : List RegionRow) (h place : ℕ) (r : RegionRow) (key : RegionKey) → IsKept v keys spare
    → Stands v h place r → key ≡ key_of r → Contains keys.keys key
held_key v keys spare h place r key kept at is = subst (λ (k : RegionKey). Contains keys.keys k) (sym is) (key_held comes_before total key_of v.rows keys.keys r kept.keys_are at.has.held)

abbrev passing : (RegionKey → Bool) → RegionRow → ℕ
passing test r = cond (test (key_of r)) 1 0

-- what is kept then, and that the regions are those that are wanted
pub record Became (v : Regions) (keys : Contents RegionKey) (spare rows : List RegionRow) (goal : Regions) : Type 0 where
  pub kept : IsKept (with_rows v rows) keys spare
  pub view : with_rows v rows ≡ goal

-- what is answered of a region that was read, and by which the pages of one are in the arena
pub read_there : (t : Inside) (now : Regions) (h place : ℕ) (r x : RegionRow) → regions_of t ≡ now → region_with now h ≡ Some r
    → ((d : RegionRow) → region_with now h ≡ Some (get_or now.rows place d)) → x ≡ get_or t.regions.items place x → r ≡ x
read_there t now h place r x view found all value = same_Some r x (sym found ∙ all x ∙ ap (λ (y : Regions). Some (get_or y.rows place x)) (sym view) ∙ ap (λ (y : RegionRow). Some y) (sym value))

pub in_arena : (t : Inside) (now : Regions) (page : ℕ) (r : RegionRow) → IsInside t → regions_of t ≡ now → region_with now (page / huge_pages) ≡ Some r → page < 1048832
in_arena t now page r kept view found =
    let has = has_huge (regions_of t) (page / huge_pages) r kept.0.sound (ap (λ (y : Regions). region_with y (page / huge_pages)) view ∙ found) in
    omega (arith, has.high, has.arena, kept.0.sound.small)

-- Some pages of a region become used, or unused, and its key another one.
pub record IsPut (t : Inside) (now : Regions) (keys : Contents RegionKey) (place page n : ℕ) (b : Bool) (new : RegionRow) : Type 0 where
  pub kept : IsKept (with_rows (regions_of t) (set t.regions.items place new)) keys t.spare.items
  pub view : (r : RegionRow) → region_with now (page / huge_pages) ≡ Some r → with_rows (regions_of t) (set t.regions.items place new) ≡ with_changed now r.first (put_in (start_in r page) n b)

pub put : (t : Inside) (now : Regions) (keys' : Contents RegionKey) (h place page n : ℕ) (b : Bool) (old new : RegionRow) (before after : RegionKey)
    → IsInside t → regions_of t ≡ now → Stands (regions_of t) h place old → h ≡ page / huge_pages → new ≡ put_in (start_in old page) n b old
    → length new.used ≡ length old.used → before ≡ key_of old → after ≡ key_of new → IsPermutation (after ∷ t.keys.keys) (before ∷ keys'.keys)
    → keys'.spare ≡ t.keys.spare → IsPut t now keys' place page n b new
put t now keys' h place page n b old new before after inside same at there is size from to moved room =
    let v : Regions = regions_of t in
    let rows = v.rows in
    let kept = inside.0 in
    let sound = kept.sound in
    let here : (get_or rows place old).first ≡ old.first = ap (λ (r : RegionRow). r.first) at.is in
    let first : new.first ≡ old.first = ap (λ (r : RegionRow). r.first) is in
    let change : RegionRow → RegionRow = put_in (start_in old page) n b in
    record {
      kept = record {
        sound = record {
          small = sound.small;
          wide = sound.wide;
          narrow = sound.narrow;
          apart = apart_set v.width 1 rows place new old (first ∙ sym here) sound.apart;
          high = All-set (λ (r : RegionRow). r.first + v.width ≤ v.huge + 1) rows place new (omega (arith, at.has.arena)) sound.high;
          sizes = All-set (λ (r : RegionRow). length r.used ≡ huge_pages * v.width) rows place new (size ∙ at.has.size) sound.sizes;
        };
        keys_are = index_changed key_of rows (set rows place new) t.keys.keys keys'.keys before after kept.keys_are moved (λ test. let x : passing test (get_or rows place old) ≡ cond (test before) 1 0 = rw (at.is, from) refl in let y : passing test new ≡ cond (test after) 1 0 = rw to refl in omega (arith, sum_by-set (passing test) rows place new old at.inside));
        room = room ∙ kept.room;
        rest = omega (arith, length-set rows place new, kept.rest);
        unused = kept.unused;
      };
      view = grind (arith, at_place v.width 1 rows place change old sound.apart);
    }

-- A region comes, on hugepages that none has.
pub record IsNew (v : Regions) (first b : ℕ) : Type 0 where
  pub low : 0 < first
  pub high : first + v.width ≤ v.huge + 1
  pub free : (h : ℕ) → first ≤ h → h < first + v.width → region_with v h ≡ None
  pub within : b ≤ length v.rows
  pub before : (i : ℕ) (d : RegionRow) → i < b → (get_or v.rows i d).first ≤ first
  pub behind : (i : ℕ) (d : RegionRow) → b ≤ i → i < length v.rows → first < (get_or v.rows i d).first

pub new_there : (v now : Regions) (first b : ℕ) (rows : List RegionRow) → v ≡ now → rows ≡ v.rows → 0 < first → first + now.width ≤ now.huge + 1
    → ((h : ℕ) → first ≤ h → h < first + now.width → region_with now h ≡ None) → b ≤ length rows → ((i : ℕ) (d : RegionRow) → i < b
    → (get_or rows i d).first ≤ first) → ((i : ℕ) (d : RegionRow) → b ≤ i → i < length rows → first < (get_or rows i d).first) → IsNew v first b
new_there v now first b rows view value low high free within before behind = grind (arith, nat_tests)

-- the regions with it are sound, and as many as there is room for
pub comes : (v : Regions) (first b : ℕ) → IsSound v → IsNew v first b → IsSound (with_region v first)
    × (with_region v first ≡ with_rows v (insert v.rows b (unused v.width first))) × (length v.rows + 1 ≤ v.huge / v.width)
comes v first b sound new =
    let w = v.width in
    let r : RegionRow = unused w first in
    let key : RegionRow → ℕ = λ x. x.first in
    let high : RegionRow → Type 0 = λ x. x.first + w ≤ v.huge + 1 in
    grind (
      arith,
      apart_with w 1 v.rows r sound.apart,
      All-with_item key high r v.rows new.high sound.high,
      All-with_item key (λ (x : RegionRow). length x.used ≡ huge_pages * w) r v.rows (length-replicate (huge_pages * w) false) sound.sizes,
      inserted_is w v.rows b r r new.within new.before new.behind,
      they_fit w 1 v.huge (with_region v first).rows,
      length-with_item key r v.rows,
    )

pub came : (v : Regions) (keys keys' : Contents RegionKey) (spare spare' rows' : List RegionRow) (first b : ℕ) (region new : RegionRow) (key : RegionKey)
    → IsKept v keys spare → IsNew v first b → spare ≡ spare' ++ region ∷ [] → new ≡ record region { first = first } → rows' ≡ insert v.rows b new
    → key ≡ key_of new → IsPermutation (key ∷ keys.keys) keys'.keys → keys'.spare + 1 ≡ keys.spare → Became v keys' spare' rows' (with_region v first)
came v keys keys' spare spare' rows' first b region new key kept there spared is inserted key_is moved room =
    let w = v.width in
    let parts = All-pop (IsSpare w) spare spare' (Some region) spared kept.unused in
    let new_is : new ≡ unused w first = is ∙ ap (λ (u : List Bool). let r : RegionRow = record { first = first; used = u } in r) parts.1 in
    let more = comes v first b kept.sound there in
    let rows_are : rows' ≡ insert v.rows b (unused w first) = inserted ∙ ap (insert v.rows b) new_is in
    let view : with_rows v rows' ≡ with_region v first = ap (with_rows v) rows_are ∙ sym more.1 in
    let fewer : length spare' + 1 ≡ length spare = omega (arith, ap (λ (l : List RegionRow). length l) spared, length_push spare' region) in
    grind (
      arith,
      index_more key_of v.rows rows' keys.keys keys'.keys key kept.keys_are moved,
      sum_by-insert,
      length-insert v.rows b (unused w first) there.within,
    )

-- A region without used pages leaves.
none_used : (row : List Bool) → used_count row ≡ 0 → row ≡ replicate (length row) false
none_used [] none = refl
none_used (u ∷ row) none = grind (arith, nat_tests, none_used row, sum_by-cons (λ (x : Bool). cond x 1 0) u row)

pub gone : (v : Regions) (keys keys' : Contents RegionKey) (spare spare' rows' : List RegionRow) (h place : ℕ) (old : RegionRow) (key : RegionKey)
    → IsKept v keys spare → Stands v h place old → is_unused old ≡ true → key ≡ key_of old → IsPermutation keys.keys (key ∷ keys'.keys)
    → keys'.spare ≡ keys.spare + 1 → rows' ≡ remove v.rows place → spare' ≡ spare ++ old ∷ [] → Became v keys' spare' rows' (without_region v old.first)
gone v keys keys' spare spare' rows' h place old key kept at empty key_is moved room removed spared =
    let w = v.width in
    let sound = kept.sound in
    let stays : RegionRow → Bool = λ x. not (x.first == old.first) in
    let rows_are : rows' ≡ filter stays v.rows = removed ∙ sym (removed_is w 1 v.rows place old sound.apart (omega (arith, sound.wide)) at.inside)
    ∙ ap (λ (r : RegionRow). without_key (λ (x : RegionRow). x.first) r.first v.rows) at.is in
    let high : RegionRow → Type 0 = λ x. x.first + w ≤ v.huge + 1 in
    let sized : RegionRow → Type 0 = λ x. length x.used ≡ huge_pages * w in
    record {
      kept = record {
        sound = record {
          small = sound.small;
          wide = sound.wide;
          narrow = sound.narrow;
          apart = rw rows_are (apart_filter w stays 1 v.rows sound.apart);
          high = rw rows_are (All-filter stays high v.rows sound.high);
          sizes = rw rows_are (All-filter stays sized v.rows sound.sizes);
        };
        keys_are = index_fewer key_of v.rows rows' keys.keys keys'.keys key kept.keys_are moved (λ test. let a : passing test (get_or v.rows place old) ≡ cond (test key) 1 0 = rw (at.is, key_is) refl in rw removed (omega (arith, sum_by-remove (passing test) v.rows place old at.inside)));
        room = omega (arith, kept.room, ap (λ (l : List RegionRow). length l) spared, length_push spare old);
        rest = omega (arith, ap (λ (l : List RegionRow). length l) removed, length-remove v.rows place at.inside, ap (λ (l : List RegionRow). length l) spared, length_push spare old, kept.rest);
        unused = rw spared (All-push (IsSpare w) spare old kept.unused (none_used old.used (eqb-true (used_count old.used) 0 empty) ∙ ap (λ (n : ℕ). replicate n false) at.has.size));
      };
      view = ap (with_rows v) rows_are;
    }
