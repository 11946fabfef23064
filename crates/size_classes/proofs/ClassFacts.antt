-- The class of a size, from the least place of a size that is enough.
use Rattle.std.proofs.Common.{◌≡◌, ℕ, zero, suc, Bool, false, inl, inr, ◌<◌, ◌≤◌, ◌+◌, ◌-◌, ◌*◌, ◌%◌, List, [], ◌∷◌, ◌++◌, length, get_or, Option, Some, None, refl, sym, ap, ◌∙◌, arith}
use Rattle.std.specs.Prelude.{◌↔◌, IfSome, IsNone, option_map}
use Rattle.std.specs.List.{slice_get, position, position_or_len}
use Rattle.std.proofs.lemmas.List.{get_or_default}
use Rattle.std.proofs.lemmas.List.Quantifiers.{position-Some}
use Rattle.std.proofs.lemmas.List.Sums.{position_or_len_is, fails_before_first}
use Rattle.std.proofs.lemmas.Bool.{lt-ltb, le-ltb, le-leb, lt-leb, leb-true, leb-false, cases_lt}
use Rattle.tc_units.specs.declared.spans.ClassRow.{ClassRow}
use Rattle.tc_units.specs.Classes.{serves, class_of}
use Rattle.tc_units.specs.declared.units.Class.{Class}
use Rattle.size_classes.specs.Rows.{AreRows, sizes_of}
use Rattle.size_classes.proofs.Sizes.{no_row, size_at, size_read, sizes_rise, row_at}

-- the place where the first row of enough size stands, or behind the last row
first_serves : (rows : List ClassRow) (size place : ℕ) → place ≤ length rows → ((k : ℕ) → k < place → get_or (sizes_of rows) k 0 < size) → ((k : ℕ) → place ≤ k → k < length rows → size ≤ get_or (sizes_of rows) k 0) → position_or_len (serves size) rows ≡ place
first_serves rows size place within below above =
    position_or_len_is (serves size) rows place no_row within
    (λ k less. lt-leb size (get_or rows k no_row).size (omega (arith, below k less, size_at rows k (omega arith))))
    (λ more. le-leb size (get_or rows place no_row).size (omega (arith, above place (omega arith) more, size_at rows place more)))

pub class_is : (rows : List ClassRow) (size place : ℕ) → place < length rows → ((k : ℕ) → k < place → get_or (sizes_of rows) k 0 < size) → ((k : ℕ) → place ≤ k → k < length rows → size ≤ get_or (sizes_of rows) k 0) → Some (record { 0 = place }) ≡ class_of rows size
class_is rows size place within below above =
    rw (first_serves rows size place (omega arith) below above, lt-ltb place (length rows) within) refl

pub class_none : (rows : List ClassRow) (size : ℕ) → ((k : ℕ) → k < length rows → get_or (sizes_of rows) k 0 < size) → None ≡ class_of rows size
class_none rows size below =
    rw (first_serves rows size (length rows) (omega arith) below (λ k h more. absurd (omega arith)), le-ltb (length rows) (length rows) (omega arith)) refl

-- What a class says of the sizes, and what it says that there is none.
abbrev class_no : ℕ → Class
class_no k = record { 0 = k }

said : (o : Option ℕ) (class : Class) → option_map class_no o ≡ Some class → o ≡ Some class.0
said None class is = absurd (cc)
said (Some k) class is = let same : class_no k ≡ class = cc in ap (λ (c : Class). Some c.0) same

unsaid : (o : Option ℕ) → option_map class_no o ≡ None → o ≡ None
unsaid None is = refl
unsaid (Some k) is = absurd (cc)

pub class_says : (rows : List ClassRow) (size : ℕ) (class : Class) → class_of rows size ≡ Some class
    → (class.0 < length rows) × (size ≤ get_or (sizes_of rows) class.0 0) × ((k : ℕ) → k < class.0 → get_or (sizes_of rows) k 0 < size)
class_says rows size class is =
    let at = position-Some (serves size) rows class.0 no_row (said (position (serves size) rows) class is) in
    (at.0, omega (arith, size_at rows class.0 at.0, leb-true size (get_or rows class.0 no_row).size at.1), λ k less. omega (arith, at.0, less, size_at rows k (omega (arith, at.0, less)), leb-false size (get_or rows k no_row).size (at.2 k less)))

none_passes : {X : Type 0} (p : X → Bool) (xs : List X) (k : ℕ) (d : X) → position p xs ≡ None → k < length xs → p (get_or xs k d) ≡ false
none_passes p xs k d is within = elim (cases_lt (position_or_len p xs) (length xs)) [
  | inl less ↦ absurd (let found : position p xs ≡ Some (position_or_len p xs) = rw (lt-ltb (position_or_len p xs) (length xs) less) refl in cc)
  | inr past ↦ fails_before_first p xs k d (omega (arith, past, within))
]

pub none_says : (rows : List ClassRow) (size : ℕ) → class_of rows size ≡ None → (k : ℕ) → k < length rows → get_or (sizes_of rows) k 0 < size
none_says rows size is k within =
    omega (arith, size_at rows k within, leb-false size (get_or rows k no_row).size (none_passes (serves size) rows k no_row (unsaid (position (serves size) rows) is) within))

-- what has a class is no more than the greatest size
pub has_most : (rows : List ClassRow) → AreRows 0 rows → (size : ℕ) (class : Class) → class_of rows size ≡ Some class → size ≤ 262144
has_most rows rise size class is =
    let says = class_says rows size class is in
    let at = get_or rows class.0 no_row in
    omega (arith, says.1, size_at rows class.0 says.0, (row_at 0 rows class.0 at rise says.0 (get_or_default rows class.0 no_row at says.0)).most_size)

-- no class holds more where none holds less
pub none_above : (rows : List ClassRow) (less more : ℕ) → class_of rows less ≡ None → less ≤ more → class_of rows more ≡ None
none_above rows less more none order = sym (class_none rows more (λ k h. omega (arith, none_says rows less none k h, order)))

aligned_at : (rows : List ClassRow) → AreRows 0 rows → (k : ℕ) → k < length rows → get_or (sizes_of rows) k 0 % 8 ≡ 0
aligned_at rows rise k within =
    let at = get_or rows k no_row in
    let same : at ≡ get_or rows k at = get_or_default rows k no_row at within in
    ap (λ n. n % 8) (size_read rows k at within same) ∙ (row_at 0 rows k at rise within same).aligned

-- sizes are multiples of 8, so that a size and the next such multiple have the same class
pub same_class : (rows : List ClassRow) → AreRows 0 rows → (size next : ℕ) → size ≤ 8 * next → 8 * next < size + 8 → (o : Option Class) → class_of rows (8 * next) ≡ o → o ≡ class_of rows size
same_class rows rise size next low high None is = class_none rows size (λ k h. omega (arith, none_says rows (8 * next) is k h, aligned_at rows rise k h, high))
same_class rows rise size next low high (Some class) is =
    let says = class_says rows (8 * next) class is in
    class_is rows size class.0 says.0
    (λ k h. omega (arith, says.2 k h, aligned_at rows rise k (omega (arith, says.0, h)), high))
    (λ k from h. omega (arith, says.1, sizes_rise 0 rows class.0 k rise from h, low))

-- one more value of a function, place by place
pub pushed : {X : Type 0} (f : ℕ → Option X) (xs : List X) (x : X) → ((k : ℕ) → k < length xs → slice_get xs k ≡ f k) → Some x ≡ f (length xs)
    → (k : ℕ) → k < length (xs ++ x ∷ []) → slice_get (xs ++ x ∷ []) k ≡ f k
pushed f [] x each at zero h = at
pushed f [] x each at (suc k) h = absurd (omega (arith, h))
pushed f (y ∷ ys) x each at zero h = each zero (omega arith)
pushed f (y ∷ ys) x each at (suc k) h = pushed (λ n. f (suc n)) ys x (λ n l. each (suc n) (omega (arith, l))) at k (omega (arith, h))

-- what an answer says that is the class of a size, or that there is none
module _ (rows : List ClassRow) (rise : AreRows 0 rows) (size : ℕ) where
  pub is_within : (o : Option Class) → o ≡ class_of rows size → IfSome o (λ class. class.0 < length rows)
  is_within None is = tt
  is_within (Some class) is = (class_says rows size class (sym is)).0

  pub is_enough : (o : Option Class) → o ≡ class_of rows size → IfSome o (λ class. size ≤ get_or (sizes_of rows) class.0 0)
  is_enough None is = tt
  is_enough (Some class) is = (class_says rows size class (sym is)).1

  pub is_least : (o : Option Class) → o ≡ class_of rows size → IfSome o (λ class. (k : ℕ) → k < class.0 → get_or (sizes_of rows) k 0 < size)
  is_least None is = tt
  is_least (Some class) is = (class_says rows size class (sym is)).2

  pub is_none : 0 < length rows → (o : Option Class) → o ≡ class_of rows size → IsNone o ↔ (get_or (sizes_of rows) (length rows - 1) 0 < size)
  is_none some None is = (λ none. none_says rows size (sym is) (length rows - 1) (omega (arith, some)), λ less. refl)
  is_none some (Some class) is =
      let says = class_says rows size class (sym is) in
      (λ none. absurd (cc), λ less. absurd (omega (arith, less, says.1, sizes_rise 0 rows class.0 (length rows - 1) rise (omega (arith, says.0)) (omega (arith, some)))))
