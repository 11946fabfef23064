-- Decided calls that are a run on disjoint blocks.
use Rattle.std.specs.Prelude.{◌≡◌, ℕ, ◌<◌, true, false, List, Option, Some, None, is_some, All, find, ◌==◌}
use Rattle.tc_units.specs.declared.units.Addr.{Addr}
use Rattle.tc_model.specs.declared.answers.Answer.{Answer}
use Rattle.tc_model.specs.declared.answers.Answer.TheVariants.{Block, NoBlock}
use Rattle.tc_model.specs.declared.answers.CallLine.{CallLine}
use Rattle.tc_model.specs.Blocks.{Extent, IsBlockRun, blocks_after, answer_to, freed_in}

-- a label has a block that wasn't freed
pub record HasBlock (calls : List CallLine) (label : ℕ) (addr : Addr) (len : ℕ) : Type 0 where
  pub answered : answer_to label calls ≡ Some (Block addr len)
  pub kept : freed_in label calls ≡ false

-- an answer of an allocation
abbrev pub IsOfMalloc : Answer → Type 0
IsOfMalloc (Block addr len) = Unit {0}
IsOfMalloc NoBlock = Unit {0}
IsOfMalloc answer = ⊥

-- Decided calls are a run on disjoint blocks of rounded lengths, of which each label that wasn't freed has its own, and each is a label's.
pub record AreKept (round : ℕ → ℕ) (huge : ℕ) (calls : List CallLine) : Type 0 where
  pub run : IsBlockRun huge round calls
  pub some : All (λ b. 0 < b.len) (blocks_after calls)
  pub stands : (label : ℕ) (addr : Addr) (len : ℕ) → HasBlock calls label addr len → find (λ b. b.addr == addr.0) (blocks_after calls) ≡ Some (record { addr = addr.0; len = len })
  pub distinct : (l m : ℕ) (addr : Addr) (n k : ℕ) → HasBlock calls l addr n → HasBlock calls m addr k → l ≡ m
  pub answers : (label : ℕ) (answer : Answer) → answer_to label calls ≡ Some answer → IsOfMalloc answer
  pub labelled : All (λ (b : Extent). (label : ℕ) × HasBlock calls label (record { 0 = b.addr }) b.len) (blocks_after calls)
  pub known : (label : ℕ) → freed_in label calls ≡ true → is_some (answer_to label calls) ≡ true

-- what an answer gives to its label
abbrev pub value_of : Answer → Option Addr
value_of (Block addr len) = Some addr
value_of answer = None
