-- What one more decided call makes of a run on disjoint blocks.
use Rattle.std.proofs.Common.{◌≡◌, ℕ, false, ◌||◌, cond, List, [], ◌∷◌, ◌++◌, Option, Some, None, refl, arith, ◌⊎◌, inl, inr}
use Rattle.std.specs.Prelude.{◌==◌, find, All}
use Rattle.std.specs.List.{list_any}
use Rattle.std.proofs.lemmas.Bool.{eq-eqb, ne_eqb, cond-true, cond-false}
use Rattle.std.proofs.lemmas.Bool.Decides.{nat_tests}
use Rattle.std.proofs.lemmas.List.Sums.{fold_push}
use Rattle.std.proofs.lemmas.List.Recursion.{or_push}
use Rattle.std.proofs.lemmas.List.Elements.{All-head, All-tail}
use Rattle.tc_model.proofs.EachAfter.{each_of_none, each_of_push}
use Rattle.tc_model.specs.declared.answers.Answer.{Answer}
use Rattle.tc_model.specs.declared.answers.CallLine.{CallLine}
use Rattle.tc_model.specs.Blocks.{Extent, with_block, without_block, meets, blocks_with, blocks_after, allocates, frees, answer_to, freed_in, IsAllowed, IsBlockRun}

-- One call more.
pub blocks_after-push : (calls : List CallLine) (c : CallLine) → blocks_after (calls ++ c ∷ []) ≡ blocks_with (blocks_after calls) c.answer
blocks_after-push calls c = fold_push (λ blocks (d : CallLine). blocks_with blocks d.answer) [] calls c

pub freed_in-push : (label : ℕ) (calls : List CallLine) (c : CallLine) → freed_in label (calls ++ c ∷ []) ≡ (freed_in label calls || frees label c.call)
freed_in-push label calls c = or_push (list_any (λ (d : CallLine). frees label d.call)) (λ (d : CallLine). frees label d.call) refl (λ _ _. refl) calls c

-- the answer to a label that has one stays
pub answer_to-push_old : (label : ℕ) (calls : List CallLine) (c : CallLine) (answer : Answer) → answer_to label calls ≡ Some answer → answer_to label (calls ++ c ∷ []) ≡ Some answer
answer_to-push_old label [] c answer h = absurd (cc)
answer_to-push_old label (d ∷ ds) c answer h = grind (arith, nat_tests, answer_to-push_old label ds c answer)

-- a label without an answer has that of the call, where this is its allocation
pub answer_to-push_new : (label : ℕ) (calls : List CallLine) (c : CallLine) → answer_to label calls ≡ None
    → answer_to label (calls ++ c ∷ []) ≡ cond (allocates label c.call) (Some c.answer) None
answer_to-push_new label [] c h = refl
answer_to-push_new label (d ∷ ds) c h = grind (arith, nat_tests, answer_to-push_new label ds c)

-- an answer to a label, or none
pub answer_cases : (o : Option Answer) → (o ≡ None) ⊎ ((answer : Answer) × (o ≡ Some answer))
answer_cases None = inl refl
answer_cases (Some answer) = inr (answer, refl)

-- no call is a run, and a run goes on by an allowed call
pub IsBlockRun-none : (round : ℕ → ℕ) (huge : ℕ) → IsBlockRun huge round []
IsBlockRun-none round huge = each_of_none (λ earlier (c : CallLine). IsAllowed huge round earlier c.call c.answer)

pub IsBlockRun-push : (round : ℕ → ℕ) (huge : ℕ) (calls : List CallLine) (c : CallLine)
    → IsBlockRun huge round calls → IsAllowed huge round calls c.call c.answer → IsBlockRun huge round (calls ++ c ∷ [])
IsBlockRun-push round huge = each_of_push (λ earlier (c : CallLine). IsAllowed huge round earlier c.call c.answer)

-- Blocks by their addresses.
-- the block that is added is found, where none begins at its address
pub find-with_block_same : (block : Extent) (bs : List Extent) → find (λ b. b.addr == block.addr) bs ≡ None → find (λ b. b.addr == block.addr) (with_block block bs) ≡ Some block
find-with_block_same block [] h = cond-true _ (Some block) None (eq-eqb block.addr block.addr refl)
find-with_block_same block (b ∷ bs) h = grind (arith, nat_tests, find-with_block_same block bs)

-- and every other is found as before
pub find-with_block_other : (block : Extent) (addr : ℕ) (bs : List Extent) → (block.addr ≡ addr → ⊥) → find (λ b. b.addr == addr) (with_block block bs) ≡ find (λ b. b.addr == addr) bs
find-with_block_other block addr [] ne = cond-false _ (Some block) None (ne_eqb block.addr addr ne)
find-with_block_other block addr (b ∷ bs) ne = grind (arith, nat_tests, find-with_block_other block addr bs ne)

-- without a block, every other is found as before
pub find-without_block : (gone addr : ℕ) (bs : List Extent) → (gone ≡ addr → ⊥) → find (λ b. b.addr == addr) (without_block gone bs) ≡ find (λ b. b.addr == addr) bs
find-without_block gone addr [] ne = refl
find-without_block gone addr (b ∷ bs) ne = grind (arith, nat_tests, find-without_block gone addr bs ne)

-- a block that is found begins at its address, has what all have, and meets no block that meets none
pub find_all : (P : Extent → Type 0) (addr : ℕ) (bs : List Extent) (b : Extent) → All P bs → find (λ x. x.addr == addr) bs ≡ Some b → P b × (b.addr ≡ addr)
find_all P addr [] b all h = absurd (cc)
find_all P addr (x ∷ xs) b all h = grind (arith, nat_tests, find_all P addr xs b (All-tail P x xs all), All-head, All-tail)

pub find_apart : (block : Extent) (addr : ℕ) (bs : List Extent) (b : Extent) → list_any (meets block) bs ≡ false → find (λ x. x.addr == addr) bs ≡ Some b → meets block b ≡ false
find_apart block addr [] b apart h = absurd (cc)
find_apart block addr (x ∷ xs) b apart h = grind (arith, nat_tests, find_apart block addr xs b)
