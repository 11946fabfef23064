-- How the calls of a run grow with its order.
use Rattle.std.specs.Prelude.{◌≡◌, ◌⊎◌, ℕ, ◌+◌, ◌-◌, List, [], ◌∷◌, ◌++◌, length, Option, Some, option_map, slice_get, slice_set}
use Rattle.tc_model.specs.declared.answers.CallLine.{CallLine}
use Rattle.tc_model.specs.Run.{Rules, run}
use Rattle.call_steps.specs.Local.{Local, told}

-- how many calls a thread of the allocator over a front-end decided, and how the last one is told
abbrev pub count_of : {V R : Type 0} → Local V R → ℕ
count_of l = length l.answers

abbrev pub last_of : {V R : Type 0} → Local V R → Option CallLine
last_of l = option_map (told l.regs.thread.0) (slice_get l.answers (length l.answers - 1))

module _ {L : Type 0} (count : L → ℕ) (last : L → Option CallLine) (calls : List ℕ → List CallLine) where
  -- a pick of thread t behind an order decides no call
  abbrev pub DecidesNone : List ℕ → ℕ → L → L → Type 0
  DecidesNone order t before after = (count after ≡ count before) × (calls (order ++ t ∷ []) ≡ calls order)

  -- it decides one, which its thread knows as the last one then, and which is told behind the others
  pub record DecidesOne (order : List ℕ) (t : ℕ) (before after : L) : Type 0 where
    pub line : CallLine
    pub count_is : count after ≡ count before + 1
    pub last_is : last after ≡ Some line
    pub told : calls (order ++ t ∷ []) ≡ calls order ++ line ∷ []

  -- it leaves this local of its thread, and the others as they were
  pub record IsToldNext {P : Type 0} (r : Rules P L) (order : List ℕ) (t : ℕ) : Type 0 where
    pub before : L
    pub after : L
    pub was : slice_get (run r order).locals t ≡ Some before
    pub is : (run r (order ++ t ∷ [])).locals ≡ slice_set (run r order).locals t after
    pub decides : DecidesNone order t before after ⊎ DecidesOne order t before after
