-- Live samples have the rows that are made of them, and no others.
use Rattle.std.proofs.Common.{refl, ◌≡◌, ℕ, zero, suc, ◌*◌, ◌<◌, ◌==◌, not, min, List, [], ◌∷◌, length, map, get_or, cond, sym, ap, ◌∙◌, inl, inr, arith}
use Rattle.std.specs.List.{sum_by, count_by, All, AllPairs}
use Rattle.std.proofs.lemmas.Bool.{cases_Bool, cases_lt, cases_order, eq-eqb, ne_eqb, le-ltb}
use Rattle.std.proofs.lemmas.List.{length-map, get_or-map}
use Rattle.std.proofs.lemmas.List.Elements.{All-nil, All-cons, All-tail, All-map, All-weaker}
use Rattle.std.proofs.lemmas.List.Kept.{AllPairs-cons, AllPairs-filter}
use Rattle.std.proofs.lemmas.List.Sums.{sum_by-cons}
use Rattle.std.proofs.lemmas.Bool.Decides.{nat_tests}
use Rattle.tc_units.specs.Sorted.{with_item, without_key}
use Rattle.tc_units.proofs.Counts.{count-cons, count_some, one-true, one-false}
use Rattle.tc_units.proofs.SortedFacts.{All-with_item, count-with_item}
use Rattle.heap_sample.specs.declared.sample.Sample.{Sample}
use Rattle.heap_sample.specs.declared.sample.ProfileRow.{ProfileRow}
use Rattle.heap_sample.specs.Samples.{AreSame}
use Rattle.heap_sample.specs.Rows.{count_of, bytes_of, lengths_of, row_of, rows_of, blocks_at, bytes_at, AreRows, IsRowsOf}
use Rattle.heap_sample.proofs.Bounds.{add_mul}
use Rattle.heap_sample.proofs.LiveFacts.{none_of}
use Rattle.heap_sample.proofs.RowFacts.{sum_none, Rising}

-- where each item is below all later ones, the first is below the others, and these are so too
below_rest : {X : Type 0} (n : X → ℕ) (x : X) (xs : List X) → AllPairs (λ a b. n a < n b) (x ∷ xs) → All (λ b. n x < n b) xs
below_rest n x xs rising k d inside = rising 0 (suc k) d (omega arith) (omega (arith, inside))

rest_rises : {X : Type 0} (n : X → ℕ) (x : X) (xs : List X) → AllPairs (λ a b. n a < n b) (x ∷ xs) → AllPairs (λ a b. n a < n b) xs
rest_rises n x xs rising i j d less inside = rising (suc i) (suc j) d (omega (arith, less)) (omega (arith, inside))

-- Each length once.
-- how often a number is in a list
abbrev times : ℕ → List ℕ → ℕ
times n lens = count_by (λ m. m == n) lens

abbrev Rise : List ℕ → Type 0
Rise lens = AllPairs (λ a b. a < b) lens

abbrev without : ℕ → List ℕ → List ℕ
without k lens = without_key (λ len. len) k lens

abbrev with_len : ℕ → List ℕ → List ℕ
with_len k lens = with_item (λ len. len) k lens

gone : (k : ℕ) (lens : List ℕ) → times k (without k lens) ≡ 0
gone k [] = refl
gone k (m ∷ lens) = grind (arith, cases_Bool, count-cons, one-false, (gone k lens))

others_stay : (n k : ℕ) (lens : List ℕ) → (k ≡ n → ⊥) → times n (without k lens) ≡ times n lens
others_stay n k [] apart = refl
others_stay n k (m ∷ lens) apart =
    let rest = others_stay n k lens apart in
    grind (arith, nat_tests, count-cons (λ i. i == n) m lens, one-false (m == n), apart, count-cons (λ i. i == n) m (without k lens))

-- a length stands once where there are samples of it
once : (n : ℕ) (live : List (ℕ × Sample)) → times n (lengths_of live) ≡ min 1 (count_of n live)
once n [] = refl
once n (s ∷ live) =
    let k = s.1.len in
    let new = count-with_item (λ len. len) (λ m. m == n) k (without k (lengths_of live)) in
    let all = count-cons (λ (t : ℕ × Sample). t.1.len == n) s live in
    grind (arith, nat_tests, once n live, one-true (k == n), gone k (lengths_of live), one-false (k == n), others_stay n k (lengths_of live))

rises_with : (k : ℕ) (lens : List ℕ) → Rise lens → times k lens ≡ 0 → Rise (with_len k lens)
rises_with k [] rises none = AllPairs-cons (λ a b. a < b) k [] (All-nil _) rises
rises_with k (m ∷ lens) rises none =
    let all = count-cons (λ i. i == k) m lens in
    let above = below_rest (λ i. i) m lens rises in
    elim (cases_lt k m) [
      | inl less ↦ grind (arith, nat_tests, All-weaker (λ b. m < b) (λ b. k < b), AllPairs-cons (λ a b. a < b) k (m ∷ lens), All-cons (λ b. k < b) m lens less)
      | inr from ↦
          (let apart : m ≡ k → ⊥ = λ e. (let one = one-true (m == k) (eq-eqb m k e) in omega (arith, none, all, one)) in
          let first = All-with_item (λ len. len) (λ b. m < b) k lens (omega (arith, from, apart)) above in
          let rest = rises_with k lens (rest_rises (λ i. i) m lens rises) (omega (arith, none, all)) in
          rw (le-ltb k m from) (AllPairs-cons (λ a b. a < b) m (with_len k lens) first rest))
    ]

rises : (live : List (ℕ × Sample)) → Rise (lengths_of live)
rises [] = λ i j d less inside. absurd (omega (arith, inside))
rises (s ∷ live) =
    let lens = lengths_of live in
    let left = AllPairs-filter (λ a b. a < b) (λ m. not (m == s.1.len)) lens (rises live) in
    rises_with s.1.len (without s.1.len lens) left (gone s.1.len lens)

-- The rows that are made of samples are theirs.
-- what rows have at a length, of blocks or of bytes
abbrev at_len : (ProfileRow → ℕ) → ℕ → List ProfileRow → ℕ
at_len g n rows = sum_by (λ r. cond (r.len == n) (g r) 0) rows

at_each : (g : ProfileRow → ℕ) (live : List (ℕ × Sample)) (n : ℕ) (lens : List ℕ) → at_len g n (map (row_of live) lens) ≡ times n lens * g (row_of live n)
at_each g live n [] = omega arith
at_each g live n (m ∷ lens) =
    let c = g (row_of live n) in
    let first = sum_by-cons (λ (r : ProfileRow). cond (r.len == n) (g r) 0) (row_of live m) (map (row_of live) lens) in
    grind (arith, nat_tests, at_each g live n lens, count-cons (λ i. i == n) m lens, add_mul (cond (m == n) 1 0) (times n lens) c, g (row_of live m))

some_times : (c b : ℕ) → (c ≡ 0 → b ≡ 0) → min 1 c * b ≡ b
some_times zero b none = omega (arith, none refl)
some_times (suc c) b none = let one : min 1 (suc c) ≡ 1 = omega arith in ap (λ t. t * b) one ∙ omega arith

once_at : (n : ℕ) (live : List (ℕ × Sample)) (b : ℕ) → (count_of n live ≡ 0 → b ≡ 0) → times n (lengths_of live) * b ≡ b
once_at n live b none = ap (λ t. t * b) (once n live) ∙ some_times (count_of n live) b none

pub made : (live : List (ℕ × Sample)) → IsRowsOf live (rows_of live)
made live =
    let lens = lengths_of live in
    let rows = rows_of live in
    let long = length-map lens (row_of live) in
    let len_at = λ (k : ℕ) (d : ProfileRow) (inside : k < length rows).
    ap (λ (r : ProfileRow). r.len) (get_or-map (row_of live) lens k 0 d (omega (arith, inside, long))) in
    let some = λ (k d : ℕ) (inside : k < length lens).
    count_some (λ m. m == get_or lens k d) lens k d inside (eq-eqb (get_or lens k d) (get_or lens k d) refl) in
    record {
      are = record {
        rising = λ i j d less inside.
            omega (arith, len_at i d (omega (arith, less, inside)), len_at j d inside, rises live i j 0 less (omega (arith, inside, long)));
        some = All-map (λ r. 0 < r.blocks) (row_of live) lens (λ k d inside. omega (arith, some k d inside, once (get_or lens k d) live));
      };
      counts = record {
        blocks = λ n. at_each (λ r. r.blocks) live n lens ∙ once_at n live (count_of n live) (λ e. e);
        bytes = λ n. at_each (λ r. r.bytes) live n lens ∙ once_at n live (bytes_of n live) (none_of n live);
      };
    }

-- Rows that have the same at each length are the same.
none_at : (g : ProfileRow → ℕ) (n : ℕ) (rows : List ProfileRow) → All (λ r. n < r.len) rows → at_len g n rows ≡ 0
none_at g n rows above =
    let d : ProfileRow = record { len = 0; blocks = 0; bytes = 0 } in
    let apart = λ (k : ℕ) (inside : k < length rows). ne_eqb (get_or rows k d).len n (λ e. omega (arith, e, above k d inside)) in
    sum_none (λ (r : ProfileRow). cond (r.len == n) (g r) 0) rows d (λ k inside. rw (apart k inside) refl)

module _ (g : ProfileRow → ℕ) (x : ProfileRow) (xs : List ProfileRow) (rising : Rising (x ∷ xs)) where
  at_first : at_len g x.len (x ∷ xs) ≡ g x
  at_first =
      let own : cond (x.len == x.len) (g x) 0 ≡ g x = rw (eq-eqb x.len x.len refl) refl in
      omega (arith, sum_by-cons (λ (r : ProfileRow). cond (r.len == x.len) (g r) 0) x xs, own, none_at g x.len xs (below_rest (λ r. r.len) x xs rising))

  at_less : (n : ℕ) → n < x.len → at_len g n (x ∷ xs) ≡ 0
  at_less n less =
      let above = All-weaker (λ (r : ProfileRow). x.len < r.len) (λ r. n < r.len) (λ r l. omega (arith, l, less)) xs (below_rest (λ r. r.len) x xs rising) in
      none_at g n (x ∷ xs) (All-cons (λ (r : ProfileRow). n < r.len) x xs less above)

some_first : (x : ProfileRow) (xs : List ProfileRow) → AreRows (x ∷ xs) → 0 < blocks_at x.len (x ∷ xs)
some_first x xs are = omega (arith, at_first (λ r. r.blocks) x xs are.rising, are.some 0 x (omega arith))

-- what two lists of rows have behind first ones that are the same
same_behind : (g : ProfileRow → ℕ) (x y : ProfileRow) (xs ys : List ProfileRow) → x ≡ y
    → ((n : ℕ) → at_len g n (x ∷ xs) ≡ at_len g n (y ∷ ys)) → (n : ℕ) → at_len g n xs ≡ at_len g n ys
same_behind g x y xs ys e all n =
    let f : ProfileRow → ℕ = λ r. cond (r.len == n) (g r) 0 in
    omega (arith, sum_by-cons f x xs, sum_by-cons f y ys, ap f e, all n)

rest_are : (x : ProfileRow) (xs : List ProfileRow) → AreRows (x ∷ xs) → AreRows xs
rest_are x xs are = record { rising = rest_rises (λ r. r.len) x xs are.rising; some = All-tail (λ (r : ProfileRow). 0 < r.blocks) x xs are.some }

-- at first lengths that are the same, first rows have the same
same_first : (g : ProfileRow → ℕ) (x y : ProfileRow) (xs ys : List ProfileRow) → Rising (x ∷ xs) → Rising (y ∷ ys) → x.len ≡ y.len
    → ((n : ℕ) → at_len g n (x ∷ xs) ≡ at_len g n (y ∷ ys)) → g x ≡ g y
same_first g x y xs ys a b e all = sym (at_first g x xs a) ∙ all x.len ∙ ap (λ n. at_len g n (y ∷ ys)) e ∙ at_first g y ys b

same_rows : (xs ys : List ProfileRow) → AreRows xs → AreRows ys
    → ((n : ℕ) → blocks_at n xs ≡ blocks_at n ys) → ((n : ℕ) → bytes_at n xs ≡ bytes_at n ys) → xs ≡ ys
same_rows [] [] a b blocks bytes = refl
same_rows [] (y ∷ ys) a b blocks bytes = absurd (omega (arith, blocks y.len, some_first y ys b))
same_rows (x ∷ xs) [] a b blocks bytes = absurd (omega (arith, blocks x.len, some_first x xs a))
same_rows (x ∷ xs) (y ∷ ys) a b blocks bytes = elim (cases_order x.len y.len) [
  | inr (inl less) ↦ absurd (omega (arith, blocks x.len, some_first x xs a, at_less (λ r. r.blocks) y ys b.rising x.len less))
  | inr (inr more) ↦ absurd (omega (arith, blocks y.len, some_first y ys b, at_less (λ r. r.blocks) x xs a.rising y.len more))
  | inl e ↦
      (let count = same_first (λ r. r.blocks) x y xs ys a.rising b.rising e blocks in
      let sum = same_first (λ r. r.bytes) x y xs ys a.rising b.rising e bytes in
      let first : x ≡ y = λ i. record { len = e i; blocks = count i; bytes = sum i } in
      let less_blocks = same_behind (λ r. r.blocks) x y xs ys first blocks in
      let less_bytes = same_behind (λ r. r.bytes) x y xs ys first bytes in
      let rest = same_rows xs ys (rest_are x xs a) (rest_are y ys b) less_blocks less_bytes in
      λ i. first i ∷ rest i)
]

pub only_rows : (live others : List (ℕ × Sample)) (rows : List ProfileRow) → IsRowsOf live rows → AreSame live others → rows ≡ rows_of others
only_rows live others rows is same = grind (arith, made others, same_rows rows (rows_of others) is.are, is.counts.blocks, same, is.counts.bytes)
