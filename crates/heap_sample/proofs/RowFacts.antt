-- Rows by rising length: with a row more, with one changed and with one fewer.
use Rattle.std.proofs.Common.{refl, ◌≡◌, ℕ, suc, ◌+◌, ◌-◌, ◌<◌, ◌≤◌, ◌==◌, nat_lt, List, [], ◌∷◌, length, get_or, cond, sym, ap, ◌∙◌, arith, insert, remove}
use Rattle.std.specs.List.{sum_by, AllPairs}
use Rattle.std.proofs.lemmas.Bool.{cases_lt, cases_eq, ne_eqb, eq-eqb, lt-ltb, ltb-true}
use Rattle.std.proofs.lemmas.List.Edits.{length-insert, get_or-insert_below, get_or-insert_at, get_or-insert_above, length-remove, get_or-remove_below, get_or-remove_above}
use Rattle.std.proofs.lemmas.List.Sums.{sum_by-cons, sum_by-remove}
use Rattle.std.specs.List.Sorted.{IsPartitionedBy}
use Rattle.std.proofs.lemmas.Bool.Decides.{nat_tests}
use Rattle.heap_sample.specs.declared.sample.ProfileRow.{ProfileRow}
use Rattle.heap_sample.specs.Rows.{blocks_at, AreRows, IsPlaceOf, IsRowAt}

-- a sum to which no item adds, and one to which a single item adds
pub sum_none : {X : Type 0} (f : X → ℕ) (xs : List X) (d : X) → ((k : ℕ) → k < length xs → f (get_or xs k d) ≡ 0) → sum_by f xs ≡ 0
sum_none f [] d none = refl
sum_none f (x ∷ xs) d none =
    let rest = sum_none f xs d (λ k l. none (suc k) (omega arith)) in
    let first : f x ≡ 0 = none 0 (omega arith) in
    omega (arith, sum_by-cons f x xs, first, rest)

sum_one : {X : Type 0} (f : X → ℕ) (xs : List X) (k : ℕ) (d : X) → k < length xs → ((i : ℕ) → i < length xs → (i ≡ k → ⊥) → f (get_or xs i d) ≡ 0)
    → sum_by f xs ≡ f (get_or xs k d)
sum_one f xs k d inside others =
    let left = sum_by-remove f xs k d inside in
    grind (arith, nat_tests, length-remove xs k inside, sum_none f (remove xs k) d, get_or-remove_below xs k d, others, get_or-remove_above xs k d)

abbrev pub Rising : List ProfileRow → Type 0
Rising rows = AllPairs (λ (a b : ProfileRow). a.len < b.len) rows

-- rows that rise are parted by a length
pub parted : (rows : List ProfileRow) (len : ℕ) → Rising rows → IsPartitionedBy (λ r. nat_lt r.len len) rows
parted rows len rising i j d le inside below = grind (arith, cases_lt, lt-ltb, ltb-true)

module _ (rows : List ProfileRow) (len place : ℕ) (rising : Rising rows) (at : IsPlaceOf rows len place) where
  -- at a length's place stands its row, if any
  pub found : (g : ProfileRow → ℕ) (d : ProfileRow) → 0 < sum_by (λ r. cond (r.len == len) (g r) 0) rows → (place < length rows) × ((get_or rows place d).len ≡ len)
  found g d some = grind (arith, nat_tests, sum_none (λ (r : ProfileRow). cond (r.len == len) (g r) 0) rows d, g)

  -- and that row is the only one of its length
  pub only_one : (g : ProfileRow → ℕ) (d : ProfileRow) → place < length rows → (get_or rows place d).len ≡ len → sum_by (λ r. cond (r.len == len) (g r) 0) rows ≡ g (get_or rows place d)
  only_one g d inside here = grind (arith, cases_lt, eq-eqb, ne_eqb, sum_one)

-- rows with a new one at its length's place
module _ (rows : List ProfileRow) (place : ℕ) (row : ProfileRow) (at : IsPlaceOf rows row.len place)
    (other : (d : ProfileRow) → place < length rows → (get_or rows place d).len ≡ row.len → ⊥) (are : AreRows rows) where
  abbrev now : List ProfileRow
  now = insert rows place row

  size : length now ≡ length rows + 1
  size = length-insert rows place row at.within

  below : (k : ℕ) (d : ProfileRow) → k < place → get_or now k d ≡ get_or rows k d
  below k d l = get_or-insert_below rows place row d k l at.within

  here : (k : ℕ) (d : ProfileRow) → k ≡ place → get_or now k d ≡ row
  here k d e = ap (λ (i : ℕ). get_or now i d) e ∙ get_or-insert_at rows place row d at.within

  above : (k : ℕ) (d : ProfileRow) → place < k → get_or now k d ≡ get_or rows (k - 1) d
  above k d l = let e : k - 1 + 1 ≡ k = omega (arith, l) in ap (λ (i : ℕ). get_or now i d) (sym e) ∙ get_or-insert_above rows place row d (k - 1) (omega (arith, l)) at.within

  less_by : {a b x y : ProfileRow} → a ≡ x → b ≡ y → x.len < y.len → a.len < b.len
  less_by {a} {b} {x} {y} e h l = omega (arith, ap (λ (r : ProfileRow). r.len) e, ap (λ (r : ProfileRow). r.len) h, l)

  -- the rows from the place on are longer
  longer : (k : ℕ) (d : ProfileRow) → place ≤ k → k < length rows → row.len < (get_or rows k d).len
  longer k d le l = grind (arith, cases_eq, cases_lt)

  pub inserted : 0 < row.blocks → AreRows now
  inserted some = grind (arith, above, below, cases_lt, here, less_by, longer, size)

-- a length that rows have stands at its place
pub row_at : (rows : List ProfileRow) (len place : ℕ) → AreRows rows → IsPlaceOf rows len place → 0 < blocks_at len rows → IsRowAt rows len place
row_at rows len place are at held =
    let stands = λ (d : ProfileRow). found rows len place are.rising at (λ r. r.blocks) d held in
    record {
      inside = (stands (record { len = 0; blocks = 0; bytes = 0 })).0;
      here = λ d. (stands d).1;
      blocks = λ d. only_one rows len place are.rising at (λ r. r.blocks) d (stands d).0 (stands d).1;
      bytes = λ d. only_one rows len place are.rising at (λ r. r.bytes) d (stands d).0 (stands d).1;
    }
