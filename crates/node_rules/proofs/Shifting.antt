-- Blocks whose addresses are all greater by one number: what the set of them becomes and what is found in it are as before.
use Rattle.std.proofs.Common.{◌≡◌, ℕ, ◌+◌, List, [], ◌∷◌, map, refl, arith}
use Rattle.std.specs.Prelude.{◌==◌, find, option_map, sum_by}
use Rattle.std.specs.List.{list_any}
use Rattle.std.proofs.lemmas.Bool.Decides.{nat_tests}
use Rattle.std.proofs.lemmas.List.Sums.{sum_by-cons}
use Rattle.tc_model.specs.declared.answers.Answer.{Answer}
use Rattle.tc_model.specs.Blocks.{Extent, with_block, without_block, blocks_with, meets}
use Rattle.node_rules.specs.Joined.{shifted}

abbrev pub shift : ℕ → Extent → Extent
shift n b = record { addr = b.addr + n; len = b.len }

with_shift : (n : ℕ) (x : Extent) (bs : List Extent) → map (shift n) (with_block x bs) ≡ with_block (shift n x) (map (shift n) bs)
with_shift n x [] = refl
with_shift n x (b ∷ bs) = grind (arith, nat_tests, with_shift n x bs)

without_shift : (n a : ℕ) (bs : List Extent) → map (shift n) (without_block a bs) ≡ without_block (a + n) (map (shift n) bs)
without_shift n a [] = refl
without_shift n a (b ∷ bs) = grind (arith, nat_tests, without_shift n a bs)

-- what an answer makes of them
pub blocks_shift : (n : ℕ) (bs : List Extent) (answer : Answer)
    → map (shift n) (blocks_with bs answer) ≡ blocks_with (map (shift n) bs) (shifted n answer)
blocks_shift n bs answer = grind (arith, with_shift, without_shift)

pub bytes_shift : (n : ℕ) (bs : List Extent) → sum_by (λ b. b.len) (map (shift n) bs) ≡ sum_by (λ b. b.len) bs
bytes_shift n [] = refl
bytes_shift n (b ∷ bs) =
    omega (arith, bytes_shift n bs, sum_by-cons (λ (c : Extent). c.len) b bs, sum_by-cons (λ (c : Extent). c.len) (shift n b) (map (shift n) bs))

pub any_shift : (n : ℕ) (x : Extent) (bs : List Extent) → list_any (meets (shift n x)) (map (shift n) bs) ≡ list_any (meets x) bs
any_shift n x [] = refl
any_shift n x (b ∷ bs) = grind (arith, nat_tests, any_shift n x bs)

pub find_shift : (n a : ℕ) (bs : List Extent) → find (λ b. b.addr == a + n) (map (shift n) bs) ≡ option_map (shift n) (find (λ b. b.addr == a) bs)
find_shift n a [] = refl
find_shift n a (b ∷ bs) = grind (arith, nat_tests, find_shift n a bs)
