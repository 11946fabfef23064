-- What one more call makes of the values of labels.
use Rattle.std.proofs.Common.{◌≡◌, ℕ, ◌+◌, ◌<◌, Bool, true, false, ◌||◌, ◌&&◌, eqb, cond, List, [], ◌∷◌, ◌++◌, Option, Some, None, refl, ap, ◌∙◌, arith}
use Rattle.std.proofs.lemmas.Bool.{cases_eq, eq-eqb, ne_eqb}
use Rattle.tc_units.specs.declared.units.Addr.{Addr}
use Rattle.tc_units.specs.declared.units.Label.{Label}
use Rattle.tc_units.specs.declared.units.ThreadNo.{ThreadNo}
use Rattle.tc_model.specs.declared.calls.Call.TheVariants.{Malloc, Free}
use Rattle.tc_model.specs.declared.answers.Answer.{Answer}
use Rattle.tc_model.specs.declared.answers.Answer.TheVariants.{NoBlock}
use Rattle.tc_model.specs.declared.answers.CallLine.{CallLine}
use Rattle.tc_model.specs.Blocks.{answer_to, freed_in, allocates, frees, FreesNull}
use Rattle.holdings.specs.Kept.{HasBlock, IsOfMalloc, value_of}
use Rattle.holdings.specs.Runs.{bit}
use Rattle.holdings.specs.Accounts.{same_value}
use Rattle.holdings.specs.Facts.{value_by, value_after, has_value, standing}
use Rattle.holdings.proofs.CallFacts.{answer_cases, answer_to-push_new, answer_to-push_old, freed_in-push}
use Rattle.holdings.proofs.Sums.{bit_is}

or_false : (b : Bool) → (b || false) ≡ b
or_false true = refl
or_false false = refl

or_true : (b : Bool) → (b || true) ≡ true
or_true true = refl
or_true false = refl

-- the answer to a label stays where a call doesn't allocate it
pub answer_same : (calls : List CallLine) (c : CallLine) (x : ℕ) → allocates x c.call ≡ false → answer_to x (calls ++ c ∷ []) ≡ answer_to x calls
answer_same calls c x other = grind (arith, answer_cases, answer_to-push_new, answer_to-push_old)

pub freed_same : (calls : List CallLine) (c : CallLine) (x : ℕ) → frees x c.call ≡ false → freed_in x (calls ++ c ∷ []) ≡ freed_in x calls
freed_same calls c x other = freed_in-push x calls c ∙ (ap (λ b. freed_in x calls || b) other ∙ or_false (freed_in x calls))

pub value_same : (calls : List CallLine) (c : CallLine) (x : ℕ) → allocates x c.call ≡ false → frees x c.call ≡ false → value_after (calls ++ c ∷ []) x ≡ value_after calls x
value_same calls c x a f = rw (answer_same calls c x a, freed_same calls c x f) refl

-- an allocation gives its label a value
pub gain : (calls : List CallLine) (thread : ThreadNo) (label : Label) (size : ℕ) (answer : Answer) → answer_to label.0 calls ≡ None → freed_in label.0 calls ≡ false
    → (x : ℕ) (v : Option Addr)
    → standing x v (calls ++ record { thread = thread; call = Malloc label size; answer = answer } ∷ []) ≡ standing x v calls + bit (eqb label.0 x && same_value (value_of answer) v)
gain calls thread label size answer none unfreed x v = grind (arith, answer_to-push_new, cases_eq, eq-eqb, eqb, freed_same, ne_eqb, value_same)

-- and its free takes that away
pub lose : (calls : List CallLine) (thread : ThreadNo) (label : Label) (answer : Answer) (u : Option Addr) → value_after calls label.0 ≡ Some u
    → (x : ℕ) (v : Option Addr)
    → standing x v (calls ++ record { thread = thread; call = Free label; answer = answer } ∷ []) + bit (eqb label.0 x && same_value u v) ≡ standing x v calls
lose calls thread label answer u has x v = grind (arith, cases_eq, eq-eqb, eqb, freed_in-push, ne_eqb, or_true, value_same)

pub same_value_is : (u v : Option Addr) → same_value u v ≡ true → u ≡ v
same_value_is u v is = grind (arith)

pub same_value_refl : (v : Option Addr) → same_value v v ≡ true
same_value_refl None = refl
same_value_refl (Some a) = eq-eqb a.0 a.0 refl

value_by_cases : (o : Option (Option Addr)) (v : Option Addr) → 0 < bit (has_value o v) → o ≡ Some v
value_by_cases None v some = absurd (omega arith)
value_by_cases (Some u) v some = ap (λ w. Some w) (same_value_is u v (bit_is (same_value u v) some))

pub standing_is : (calls : List CallLine) (x : ℕ) (v : Option Addr) → 0 < standing x v calls → value_after calls x ≡ Some v
standing_is calls x v some = value_by_cases (value_after calls x) v some

-- a label's value, as an answer
pub record HasAnswer (calls : List CallLine) (x : ℕ) (v : Option Addr) : Type 0 where
  pub answer : Answer
  pub answered : answer_to x calls ≡ Some answer
  pub value : value_of answer ≡ v
  pub kept : freed_in x calls ≡ false

has_answer_by : (calls : List CallLine) (x : ℕ) (v : Option Addr) (b : Bool) → freed_in x calls ≡ b
    → (o : Option Answer) → answer_to x calls ≡ o → cond b None (value_by o) ≡ Some v → HasAnswer calls x v
has_answer_by calls x v b freed o is has = grind (arith)

pub has_answer : (calls : List CallLine) (x : ℕ) (v : Option Addr) → value_after calls x ≡ Some v → HasAnswer calls x v
has_answer calls x v has = has_answer_by calls x v (freed_in x calls) refl (answer_to x calls) refl has

pub has_block : (calls : List CallLine) (x : ℕ) (a : Addr) → value_after calls x ≡ Some (Some a) → (n : ℕ) × HasBlock calls x a n
has_block calls x a has = grind (arith)

null_by : (answer : Answer) → IsOfMalloc answer → value_of answer ≡ None → answer ≡ NoBlock
null_by answer of is = grind (arith)

pub has_null : (calls : List CallLine) (x : ℕ) → ((answer : Answer) → answer_to x calls ≡ Some answer → IsOfMalloc answer) → value_after calls x ≡ Some None → FreesNull calls x
has_null calls x of has =
    let h = has_answer calls x None has in
    record { answered = h.answered ∙ ap (λ (o : Answer). Some o) (null_by h.answer (of h.answer h.answered) h.value); once = h.kept }
