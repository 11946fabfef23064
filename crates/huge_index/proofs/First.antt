-- The first key from the least one on that could serve.
use Rattle.std.proofs.lemmas.Bool.Decides.{nat_tests}
use Rattle.std.proofs.Common.{◌≡◌, ◌≢◌, ℕ, ◌≤◌, true, nat_lt, List, ◌∷◌, IsPermutation, All, sym, subst, arith}
use Rattle.std.proofs.lemmas.Bool.{cases_lt}
use Rattle.std.proofs.lemmas.List.Elements.{All-cons, All-tail}
use Rattle.std.proofs.lemmas.List.Sorted.{All-permutation}
use Rattle.sorted_list.specs.Order.{IsFirstFrom}
use Rattle.huge_index.specs.declared.key.Key.{Key}
use Rattle.huge_index.specs.Contents.{AreCounted}
use Rattle.huge_index.specs.Order.{comes_before, least_of, Serves, IsFirstOf}

-- where it is of the tier, it is the first that serves
pub first_is : (keys : List Key) (tier n : ℕ) (key : Key) → AreCounted keys → IsFirstFrom comes_before keys (least_of tier n) key → key.tier ≡ tier → IsFirstOf keys tier n key
first_is keys tier n key few is same = grind (arith, nat_tests, nat_lt, cases_lt)

-- where it is of another tier, none serves
pub other_tier : (keys : List Key) (tier n : ℕ) (key : Key) → AreCounted keys → IsFirstFrom comes_before keys (least_of tier n) key → key.tier ≢ tier → All (λ k. ¬ (Serves tier n k)) keys
other_tier keys tier n key few is other i d l = grind (arith, nat_tests, nat_lt, cases_lt)

-- and where there is none
pub none_there : (keys : List Key) (tier n : ℕ) → AreCounted keys → All (λ key. comes_before key (least_of tier n) ≡ true) keys → All (λ k. ¬ (Serves tier n k)) keys
none_there keys tier n few all i d l = grind (arith, nat_tests, nat_lt, cases_lt)

-- one that serves first serves
pub some_serves : (keys : List Key) (tier n : ℕ) (key : Key) → IsFirstOf keys tier n key → All (λ k. ¬ (Serves tier n k)) keys → ⊥
some_serves keys tier n key is none = none is.held.0 key is.held.1 (subst (λ (k : Key). Serves tier n k) (sym is.held.2) is.serves)

-- Keys with one more, with one fewer, and with one in place of another one are counted still.
pub counted_more : (key : Key) (keys keys' : List Key) → key.allocs ≤ 4294967295 → AreCounted keys → IsPermutation (key ∷ keys) keys' → AreCounted keys'
counted_more key keys keys' few counted moved = All-permutation (λ k. k.allocs ≤ 4294967295) (key ∷ keys) keys' moved (All-cons (λ k. k.allocs ≤ 4294967295) key keys few counted)

counted_fewer : (key : Key) (keys keys' : List Key) → AreCounted keys → IsPermutation keys (key ∷ keys') → AreCounted keys'
counted_fewer key keys keys' counted moved = All-tail (λ k. k.allocs ≤ 4294967295) key keys' (All-permutation (λ k. k.allocs ≤ 4294967295) keys (key ∷ keys') moved counted)

pub counted_changed : (from to : Key) (keys keys' : List Key) → to.allocs ≤ 4294967295 → AreCounted keys → IsPermutation (to ∷ keys) (from ∷ keys') → AreCounted keys'
counted_changed from to keys keys' few counted moved = counted_fewer from (to ∷ keys) keys' (All-cons (λ k. k.allocs ≤ 4294967295) to keys few counted) moved
