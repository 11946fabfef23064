-- Searches and changes of a level, by those of the level above it.
use Rattle.std.proofs.lemmas.Grind.{common_steps}
use Rattle.std.proofs.Common.{◌≡◌, ℕ, ◌+◌, ◌-◌, ◌*◌, ◌/◌, ◌%◌, ◌^◌, ◌<◌, ◌≤◌, Bool, true, false, not, cond, ◌==◌, List, [], ◌∷◌, length}
use Rattle.std.proofs.Common.{get_or, set, take, drop, replicate, Option, None, refl, sym, ap, subst, ◌∙◌, inl, inr, arith, w64}
use Rattle.std.proofs.lemmas.Bool.Decides.{nat_tests}
use Rattle.std.proofs.lemmas.Bool.{cases_lt, cases_eq, eq-eqb, ne_eqb, false≢true, false_from_ne_true}
use Rattle.std.proofs.lemmas.List.{same_lists, take_all, drop_all, append-nil, length-set, length-replicate, get_or-replicate, get_or_default, get_or_past, get_or-set_same, get_or-set_other}
use Rattle.std.proofs.lemmas.Nat.Bits.{bit_at-zero, bit_at-trailing_zeros}
use Rattle.std.specs.Int.{trailing_zeros}
use borrow.Rule.Slice.PartMut.{put_mid}
use Rattle.range_bits.specs.Words.{is_one, is_marked}
use Rattle.range_bits.proofs.RowFacts.{length-row_of, get_or-row_of}
use Rattle.place_set.specs.declared.level.Level.{Level}
use Rattle.place_set.specs.Places.{HasAny, IsLast, IsLastAt, IsFirst, IsFirstAt}
use Rattle.place_set.specs.Tree.{has_at, places_of, row_at, IsTree}

-- a place that is in the set is one of the words'
pub marked_inside : (words : List ℕ) (k : ℕ) → is_marked words k ≡ true → k < 64 * length words
marked_inside words k e = grind (arith, nat_tests, false≢true, bit_at-zero, get_or_past)

-- the levels above the lowest
abbrev pub uppers : List Level → List Level
uppers levels = take (length levels - 1) (drop 1 levels)

uppers_are : (own : Level) (above : List Level) → uppers (own ∷ above) ≡ above
uppers_are own above = take_all (length (own ∷ above) - 1) above (omega arith)

module _ (own above : ℕ → Bool) (tells : (index : ℕ) → HasAny own index (above index)) where
  -- where a place above isn't in the set, none of its word below is
  none_below : (k : ℕ) → above (k / 64) ≡ false → own k ≡ false
  none_below k e = (subst (HasAny own (k / 64)) e (tells (k / 64))) k refl

  one_below : (index : ℕ) → above index ≡ true → HasAny own index true
  one_below index e = subst (HasAny own index) e (tells index)

  -- the last place, where the place's own word has none before it
  last_by : (place index : ℕ) (r : Option ℕ) → IsLast own (64 * (place / 64)) place None → IsLastAt above 0 (place / 64 - 1) index → 64 ≤ place → IsLast own (64 * ((index * 64 + 63) / 64)) (index * 64 + 63) r → IsLast own 0 place r
  last_by place index r here up some found = grind (arith, nat_tests, one_below, cases_lt, none_below)

  last_nowhere : (place : ℕ) → IsLast own (64 * (place / 64)) place None → IsLast above 0 (place / 64 - 1) None → 64 ≤ place → IsLast own 0 place None
  last_nowhere place here up some = grind (arith, nat_tests, none_below)

  -- and the first place
  first_by : (place high high' index : ℕ) (r : Option ℕ) → IsFirst own place (64 * (place / 64) + 63) None → IsFirstAt above (place / 64 + 1) high' index → ((k : ℕ) → own k ≡ true → k ≤ high) → IsFirst own (index * 64) (64 * (index * 64 / 64) + 63) r → IsFirst own place high r
  first_by place high high' index r here up most found = grind (arith, nat_tests, one_below, cases_lt, none_below)

  first_nowhere : (place high high' : ℕ) → IsFirst own place (64 * (place / 64) + 63) None → IsFirst above (place / 64 + 1) high' None → high / 64 ≤ high' → IsFirst own place high None
  first_nowhere place high high' here up most = grind (arith, nat_tests, none_below)

-- Whether a word has a place in the set, by its number.
pub any_of : (words : List ℕ) (index w : ℕ) → w ≡ get_or words index 0 → w < 2 ^ 64 → HasAny (is_marked words) index (not (w == 0))
any_of words index w is fits =
    elim (cases_eq w 0) [
      | inl none ↦
          subst (HasAny (is_marked words) index) (sym (ap not (eq-eqb w 0 none)))
          (λ k e. ap (λ (i : ℕ). is_one (get_or words i 0) (k % 64)) e ∙ ap (λ (v : ℕ). is_one v (k % 64)) (sym is ∙ none) ∙ ap (λ (b : ℕ). b == 1) (bit_at-zero (k % 64)))
      | inr other ↦
          (let some : 0 < w = omega (arith, other) in
          let at : ℕ = trailing_zeros w64 w in
          let found = bit_at-trailing_zeros w64 w some fits in
          let word : (64 * index + at) / 64 ≡ index = omega (arith, found.0) in
          grind (arith, nat_tests, ne_eqb))
    ]

-- One bit of a word changed is one place.
one_place : (k place : ℕ) → k / 64 ≡ place / 64 → (k % 64 == place % 64) ≡ (k == place)
one_place k place e = grind (arith, nat_tests, cases_eq)

pub put_place : (words : List ℕ) (place word w : ℕ) (is_in : Bool) → place < 64 * length words → word ≡ get_or words (place / 64) 0 → ((k : ℕ) → k < 64 → is_one w k ≡ cond (k == place % 64) is_in (is_one word k)) → (k : ℕ) → is_marked (set words (place / 64) w) k ≡ cond (k == place) is_in (is_marked words k)
put_place words place word w is_in inside is changed k = grind (arith, nat_tests, cases_eq (k / 64) (place / 64), one_place, ne_eqb, get_or-set_same, get_or-set_other)

-- The same of levels, of which `first` is the lowest.
pub places_are : (levels : List Level) (place : ℕ) (first : Level) → place < places_of levels → first ≡ get_or levels 0 first → places_of levels ≡ 64 * length first.words.items
places_are levels place first inside is = grind (arith, nat_tests)

pub last_none : (levels : List Level) (place : ℕ) (first : Level) (r : Option ℕ) → IsTree levels → place < places_of levels → first ≡ get_or levels 0 first → IsLast (is_marked first.words.items) (64 * (place / 64)) place None → 64 ≤ place → IsLast (has_at (uppers levels)) 0 (place / 64 - 1) None → r ≡ None → IsLast (has_at levels) 0 place r
last_none [] place first r tree inside is here some up e = absurd (omega arith)
last_none (own ∷ []) place first r tree inside is here some up e = absurd (omega (arith, tree))
last_none (own ∷ (above ∷ rest)) place first r tree inside is here some up e =
    subst (IsLast (is_marked own.words.items) 0 place) (sym e)
    (last_nowhere (is_marked own.words.items) (is_marked above.words.items) tree.0.tells place (subst (λ (level : Level). IsLast (is_marked level.words.items) (64 * (place / 64)) place None) is here) (subst (λ (ls : List Level). IsLast (has_at ls) 0 (place / 64 - 1) None) (uppers_are own (above ∷ rest)) up) some)

pub last_some : (levels : List Level) (place index : ℕ) (first again : Level) (r : Option ℕ) → IsTree levels → place < places_of levels → first ≡ get_or levels 0 first → again ≡ get_or levels 0 again → IsLast (is_marked first.words.items) (64 * (place / 64)) place None → 64 ≤ place → IsLastAt (has_at (uppers levels)) 0 (place / 64 - 1) index → IsLast (is_marked again.words.items) (64 * ((index * 64 + 63) / 64)) (index * 64 + 63) r → IsLast (has_at levels) 0 place r
last_some [] place index first again r tree inside is is' here some up found = absurd (omega arith)
last_some (own ∷ []) place index first again r tree inside is is' here some up found = absurd (omega (arith, tree))
last_some (own ∷ (above ∷ rest)) place index first again r tree inside is is' here some up found =
    last_by (is_marked own.words.items) (is_marked above.words.items) tree.0.tells place index r
    (subst (λ (level : Level). IsLast (is_marked level.words.items) (64 * (place / 64)) place None) is here) (subst (λ (ls : List Level). IsLastAt (has_at ls) 0 (place / 64 - 1) index) (uppers_are own (above ∷ rest)) up) some
    (subst (λ (level : Level). IsLast (is_marked level.words.items) (64 * ((index * 64 + 63) / 64)) (index * 64 + 63) r) is' found)

pub first_none : (levels : List Level) (place : ℕ) (first : Level) (r : Option ℕ) → IsTree levels → place < places_of levels → first ≡ get_or levels 0 first → IsFirst (is_marked first.words.items) place (64 * (place / 64) + 63) None → (64 * (place / 64 + 1) ≡ places_of levels → ⊥) → IsFirst (has_at (uppers levels)) (place / 64 + 1) (places_of (uppers levels) - 1) None → r ≡ None → IsFirst (has_at levels) place (places_of levels - 1) r
first_none [] place first r tree inside is here more up e = absurd (omega arith)
first_none (own ∷ []) place first r tree inside is here more up e = grind (arith, nat_tests)
first_none (own ∷ (above ∷ rest)) place first r tree inside is here more up e =
    subst (IsFirst (is_marked own.words.items) place (64 * length own.words.items - 1)) (sym e)
    (first_nowhere (is_marked own.words.items) (is_marked above.words.items) tree.0.tells place (64 * length own.words.items - 1) (64 * length above.words.items - 1) (subst (λ (level : Level). IsFirst (is_marked level.words.items) place (64 * (place / 64) + 63) None) is here) (subst (λ (ls : List Level). IsFirst (has_at ls) (place / 64 + 1) (places_of ls - 1) None) (uppers_are own (above ∷ rest)) up) (omega (arith, tree.0.size)))

pub first_some : (levels : List Level) (place index : ℕ) (first again : Level) (r : Option ℕ) → IsTree levels → place < places_of levels → first ≡ get_or levels 0 first → again ≡ get_or levels 0 again → IsFirst (is_marked first.words.items) place (64 * (place / 64) + 63) None → (64 * (place / 64 + 1) ≡ places_of levels → ⊥) → IsFirstAt (has_at (uppers levels)) (place / 64 + 1) (places_of (uppers levels) - 1) index → IsFirst (is_marked again.words.items) (index * 64) (64 * (index * 64 / 64) + 63) r → IsFirst (has_at levels) place (places_of levels - 1) r
first_some [] place index first again r tree inside is is' here more up found = absurd (omega arith)
first_some (own ∷ []) place index first again r tree inside is is' here more up found = grind (arith, nat_tests)
first_some (own ∷ (above ∷ rest)) place index first again r tree inside is is' here more up found =
    first_by (is_marked own.words.items) (is_marked above.words.items) tree.0.tells place (64 * length own.words.items - 1) (64 * length above.words.items - 1) index r
    (subst (λ (level : Level). IsFirst (is_marked level.words.items) place (64 * (place / 64) + 63) None) is here) (subst (λ (ls : List Level). IsFirstAt (has_at ls) (place / 64 + 1) (places_of ls - 1) index) (uppers_are own (above ∷ rest)) up)
    (λ k e. (let inside = marked_inside own.words.items k e in omega arith))
    (subst (λ (level : Level). IsFirst (is_marked level.words.items) (index * 64) (64 * (index * 64 / 64) + 63) r) is' found)

-- the word of a place above that is in the set is one of the level's
pub index_inside : (levels : List Level) (place index : ℕ) (again : Level) → IsTree levels → place < places_of levels → again ≡ get_or levels 0 again → (64 * (place / 64 + 1) ≡ places_of levels → ⊥) → IsFirstAt (has_at (uppers levels)) (place / 64 + 1) (places_of (uppers levels) - 1) index → index < length again.words.items
index_inside [] place index again tree inside is' more up = absurd (omega arith)
index_inside (own ∷ []) place index again tree inside is' more up = grind (arith, nat_tests)
index_inside (own ∷ (above ∷ rest)) place index again tree inside is' more up = grind (arith, nat_tests, common_steps, one_below, uppers_are, marked_inside)

-- a word where its places are as before
any_same : (own now : ℕ → Bool) (index : ℕ) (b : Bool) → ((k : ℕ) → k / 64 ≡ index → now k ≡ own k) → HasAny own index b → HasAny now index b
any_same own now index b same any = grind (arith, nat_tests)

-- the level above tells of the word that changed
tells_still : (own now above above' : ℕ → Bool) (place : ℕ) (is_in any : Bool) → ((index : ℕ) → HasAny own index (above index)) → ((k : ℕ) → now k ≡ cond (k == place) is_in (own k)) → HasAny now (place / 64) any → ((k : ℕ) → above' k ≡ cond (k == place / 64) any (above k)) → (index : ℕ) → HasAny now index (above' index)
tells_still own now above above' place is_in any tells changed has changed' index = grind (arith, nat_tests, eq-eqb, ne_eqb, any_same)

-- where a word has a place as before, the level above stays
any_one : (has : ℕ → Bool) (index : ℕ) (a b : Bool) → HasAny has index a → HasAny has index b → a ≡ b
any_one has index true true h k = refl
any_one has index false false h k = refl
any_one has index true false h k = absurd (false≢true (sym (k h.0 h.1) ∙ h.2))
any_one has index false true h k = absurd (false≢true (sym (h k.0 k.1) ∙ k.2))

pub put_low : (levels : List Level) (place : ℕ) (is_in any : Bool) (d e now : Level) → IsTree levels → length now.words.items ≡ length (get_or levels 0 d).words.items
    → ((k : ℕ) → is_marked now.words.items k ≡ cond (k == place) is_in (is_marked (get_or levels 0 d).words.items k)) → HasAny (is_marked now.words.items) (place / 64) any
    → HasAny (is_marked (get_or levels 0 e).words.items) (place / 64) any → IsTree (set levels 0 now)
put_low [] place is_in any d e now tree size changed has had = tree
put_low (own ∷ []) place is_in any d e now tree size changed has had = size ∙ tree
put_low (own ∷ (above ∷ rest)) place is_in any d e now tree size changed has had =
    let up : is_marked above.words.items (place / 64) ≡ any = any_one (is_marked own.words.items) (place / 64) _ any (tree.0.tells (place / 64)) had in (
      record {
        size = omega (arith, tree.0.size, size);
        tells = tells_still (is_marked own.words.items) (is_marked now.words.items) (is_marked above.words.items) (is_marked above.words.items) place is_in any
            tree.0.tells changed has (λ k. grind (arith, nat_tests, eq-eqb, ne_eqb, cases_eq));
      },
      tree.1,
    )

put_tail : (x : Level) (xs ys : List Level) → put_mid 1 (length (x ∷ xs) - 1) (x ∷ xs) ys ≡ x ∷ ys
put_tail x xs ys = grind (arith, nat_tests, drop_all, append-nil)

pub put_tree : (levels ys : List Level) (place : ℕ) (is_in any : Bool) (first now : Level) → IsTree levels → 1 < length levels → first ≡ get_or levels 0 first → length now.words.items ≡ length first.words.items → ((k : ℕ) → is_marked now.words.items k ≡ cond (k == place) is_in (is_marked first.words.items k)) → HasAny (is_marked now.words.items) (place / 64) any → place < places_of levels → IsTree ys → places_of ys ≡ places_of (uppers (set levels 0 now)) → ((k : ℕ) → has_at ys k ≡ cond (k == place / 64) any (has_at (uppers (set levels 0 now)) k)) → IsTree (put_mid 1 (length (set levels 0 now) - 1) (set levels 0 now) ys)
put_tree [] ys place is_in any first now tree more is size changed has inside tree' size' changed' = absurd (omega arith)
put_tree (own ∷ []) ys place is_in any first now tree more is size changed has inside tree' size' changed' = absurd (omega arith)
put_tree (own ∷ (above ∷ rest)) [] place is_in any first now tree more is size changed has inside tree' size' changed' = grind (arith, nat_tests, common_steps, uppers_are)
put_tree (own ∷ (above ∷ rest)) (y ∷ ys) place is_in any first now tree more is size changed has inside tree' size' changed' =
    let same : length first.words.items ≡ length own.words.items = ap (λ (level : Level). length level.words.items) is in
    let ups = uppers_are now (above ∷ rest) in
    subst IsTree (sym (put_tail now (above ∷ rest) (y ∷ ys))) (
      record {
        size = omega (arith, tree.0.size, size', ap places_of ups);
        tells = tells_still (is_marked own.words.items) (is_marked now.words.items) (is_marked above.words.items) (is_marked y.words.items) place is_in any tree.0.tells
            (λ k. changed k ∙ ap (λ (level : Level). cond (k == place) is_in (is_marked level.words.items k)) is) has (λ k. changed' k ∙ ap (λ (ls : List Level). cond (k == place / 64) any (has_at ls k)) ups);
      },
      tree',
    )

-- Levels none of whose places is in the set.
pub unmarked : (n k : ℕ) → is_marked (replicate n 0) k ≡ false
unmarked n k = grind (arith, nat_tests, get_or-replicate, length-replicate, bit_at-zero, get_or_past)

pub open_tree : (own : Level) (levels : List Level) (words : ℕ) → own.words.items ≡ replicate words 0 → 1 < words → IsTree levels → places_of levels ≡ 64 * ((words + 63) / 64) → ((place : ℕ) → has_at levels place ≡ false) → IsTree (own ∷ levels)
open_tree own [] words is more tree size none = absurd (omega arith)
open_tree own (above ∷ rest) words is more tree size none = grind (arith, nat_tests, length-replicate, unmarked)

-- The row of the lowest level, place by place.
pub row_size : (levels : List Level) → length (row_at levels) ≡ places_of levels
row_size levels = grind (arith, nat_tests, length-row_of)

pub get_or-row_at : (levels : List Level) (k : ℕ) → get_or (row_at levels) k false ≡ has_at levels k
get_or-row_at levels k = grind (arith, nat_tests, marked_inside, false_from_ne_true, get_or_past, get_or-row_of, length-row_of)

row_by : (levels : List Level) (row : List Bool) → length row ≡ places_of levels → ((k : ℕ) → k < length row → get_or row k false ≡ has_at levels k) → row_at levels ≡ row
row_by levels row size same =
    same_lists (row_at levels) row (row_size levels ∙ sym size)
    (λ k d l.
    let len = row_size levels in
    get_or_default (row_at levels) k d false l ∙ get_or-row_at levels k ∙ sym (same k (omega arith)) ∙ get_or_default row k false d (omega arith))

pub row_none : (levels : List Level) (n : ℕ) → places_of levels ≡ n → ((place : ℕ) → has_at levels place ≡ false) → row_at levels ≡ replicate n false
row_none levels n size none = row_by levels (replicate n false) (length-replicate n false ∙ sym size) (λ k l. get_or-replicate n k false false (omega (arith, length-replicate n false)) ∙ sym (none k))

pub row_put : (old new : List Level) (place : ℕ) (is_in : Bool) → place < places_of old → places_of new ≡ places_of old → ((k : ℕ) → has_at new k ≡ cond (k == place) is_in (has_at old k)) → row_at new ≡ set (row_at old) place is_in
row_put old new place is_in inside size changed =
    let len = row_size old in
    row_by new (set (row_at old) place is_in) (length-set (row_at old) place is_in ∙ len ∙ sym size)
    (grind (arith, nat_tests, cases_eq, get_or-set_same, eq-eqb, get_or-set_other, get_or-row_at, ne_eqb))

pub last_as : (has has' : ℕ → Bool) (low high : ℕ) (r : Option ℕ) → ((k : ℕ) → has' k ≡ has k) → IsLast has low high r → IsLast has' low high r
last_as has has' low high r same is = grind (arith, nat_tests)

pub first_as : (has has' : ℕ → Bool) (low high : ℕ) (r : Option ℕ) → ((k : ℕ) → has' k ≡ has k) → IsFirst has low high r → IsFirst has' low high r
first_as has has' low high r same is = grind (arith, nat_tests)

pub read_in : (levels : List Level) (row : List Bool) (k : ℕ) → row_at levels ≡ row → get_or row k false ≡ has_at levels k
read_in levels row k is = ap (λ (r : List Bool). get_or r k false) (sym is) ∙ get_or-row_at levels k
