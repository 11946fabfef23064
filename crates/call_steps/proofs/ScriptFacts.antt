-- How a script goes on behind a call, and which calls its answers decide.
use Rattle.std.proofs.Common.{◌≡◌, refl, ℕ, zero, suc, List, [], ◌∷◌, ◌++◌, length, drop, ap, sym, arith, map, ◌+◌, ◌<◌, ◌≤◌, ◌∙◌, true}
use Rattle.std.specs.Prelude.{Option, Some, None, is_some, option_map, slice_get}
use Rattle.std.proofs.lemmas.List.{drop_all}
use Rattle.tc_units.specs.Bag.{Contents}
use Rattle.tc_model.specs.declared.answers.Answered.{Answered}
use Rattle.tc_model.specs.declared.calls.Call.{Call}
use Rattle.tc_model.specs.declared.calls.Planned.{Planned}
use Rattle.call_steps.specs.Local.{Decided, told}
use Rattle.call_steps.specs.Calls.{About}
use Rattle.call_steps.specs.Rows.{undecided, under, without_call}
use Rattle.call_steps.specs.declared.step.Step.{Step}
use Rattle.call_steps.specs.Kept.{decided_by, call_at, IsKept}

without : (o : Option Call) → is_some o ≡ true → without_call o ≡ 0
without None is = absurd (cc)
without (Some call) is = refl

module _ {R : Type 0} (about : R → About) where
  -- a call that isn't decided isn't counted as one that is
  pub undecided_under : (s : Step R) → is_some (undecided about s) ≡ true → under about s ≡ 0
  undecided_under s is = grind (arith)

-- one answer more decides the call behind those that were answered
decided_more : (script : List Planned) (answers : List Answered) (a : Answered) (call : Call) → call_at script (length answers) ≡ Some call
    → decided_by script (answers ++ a ∷ []) ≡ decided_by script answers ++ record { act = a.act; call = call; answer = a.answer } ∷ []
decided_more [] [] a call at = absurd (cc)
decided_more [] (b ∷ bs) a call at = absurd (cc)
decided_more (p ∷ ps) [] a call at = cc
decided_more (p ∷ ps) (b ∷ bs) a call at = ap (λ ds. record { act = b.act; call = p.call; answer = b.answer } ∷ ds) (decided_more ps bs a call at)

-- the answer to a call under way that isn't decided
pub answered_now : {R : Type 0} (about : R → About) (script : List Planned) (place : ℕ) (s : Step R) (answers : Contents Answered) → IsKept about script place s answers
    → (call : Call) → undecided about s ≡ Some call → (a : Answered)
    → decided_by script (answers.items ++ a ∷ []) ≡ decided_by script answers.items ++ record { act = a.act; call = call; answer = a.answer } ∷ []
answered_now about script place s answers kept call is a =
    let here : length answers.items ≡ place = omega (arith, kept.count, undecided_under about s (ap is_some is)) in
    decided_more script answers.items a call (ap (call_at script) here ∙ kept.call call is)

-- the decided calls are told by the answers and the script
pub acts_told : (script : List Planned) (answers : List Answered) → length answers ≤ length script → map (λ (a : Answered). a.act) answers ≡ map (λ (d : Decided). d.act) (decided_by script answers)
acts_told script [] few = refl
acts_told [] (a ∷ as') few = absurd (omega (arith, few))
acts_told (p ∷ ps) (a ∷ as') few = ap (λ xs. a.act ∷ xs) (acts_told ps as' (omega (arith, few)))

pub answers_told : (script : List Planned) (answers : List Answered) → length answers ≤ length script
    → map (λ (a : Answered). a.answer) answers ≡ map (λ (d : Decided). d.answer) (decided_by script answers)
answers_told script [] few = refl
answers_told [] (a ∷ as') few = absurd (omega (arith, few))
answers_told (p ∷ ps) (a ∷ as') few = ap (λ xs. a.answer ∷ xs) (answers_told ps as' (omega (arith, few)))

pub decided_at : (script : List Planned) (answers : List Answered) (i : ℕ) (p : Planned) (a : Answered) → slice_get script i ≡ Some p
    → slice_get answers i ≡ Some a → slice_get (decided_by script answers) i ≡ Some (record { act = a.act; call = p.call; answer = a.answer })
decided_at script [] i p a at there = absurd (cc)
decided_at [] (b ∷ bs) i p a at there = absurd (cc)
decided_at (q ∷ qs) (b ∷ bs) zero p a at there = cc
decided_at (q ∷ qs) (b ∷ bs) (suc i) p a at there = decided_at qs bs i p a at there

decided_length : (script : List Planned) (answers : List Answered) → length answers ≤ length script → length (decided_by script answers) ≡ length answers
decided_length script [] few = refl
decided_length [] (a ∷ as') few = absurd (omega (arith, few))
decided_length (p ∷ ps) (a ∷ as') few = ap (λ n. suc n) (decided_length ps as' (omega (arith, few)))

-- there are as many answers as decided calls
pub as_many : (script : List Planned) (answers : List Answered) (meant : List Decided) → length answers ≤ length script
    → decided_by script answers ≡ meant → length answers ≡ length meant
as_many script answers meant few is = sym (decided_length script answers few) ∙ ap length is

-- how the decided call at a place is told
pub told_at : (thread : ℕ) (script : List Planned) (answers : List Answered) (meant : List Decided) (i : ℕ) (p : Planned) (a : Answered) → decided_by script answers ≡ meant
    → slice_get script i ≡ Some p → slice_get answers i ≡ Some a
    → Some (record { thread = record { 0 = thread }; call = p.call; answer = a.answer }) ≡ option_map (told thread) (slice_get meant i)
told_at thread script answers meant i p a is at there = ap (option_map (told thread)) (sym (decided_at script answers i p a at there) ∙ ap (λ ds. slice_get ds i) is)

pub answered_within : (script : List Planned) (answers : List Answered) (meant : List Decided) (i : ℕ) → length answers ≤ length script
    → decided_by script answers ≡ meant → i < length meant → i < length answers
answered_within script answers meant i few is within = omega (arith, within, ap length is, decided_length script answers few)

-- the first of what is left behind n calls, and what is left behind that
pub first_left : (script : List Planned) (n : ℕ) → slice_get script n ≡ slice_get (drop n script) 0
first_left [] zero = refl
first_left [] (suc n) = refl
first_left (p ∷ ps) zero = refl
first_left (p ∷ ps) (suc n) = first_left ps n

pub left_behind : (script : List Planned) (n : ℕ) → drop (n + 1) script ≡ drop 1 (drop n script)
left_behind [] n = drop_all (n + 1) [] (omega arith) ∙ sym (ap (drop 1) (drop_all n [] (omega arith)))
left_behind (p ∷ ps) zero = refl
left_behind (p ∷ ps) (suc n) = ap (λ k. drop k (p ∷ ps)) (let e : suc n + 1 ≡ suc (n + 1) = omega arith in e) ∙ left_behind ps n
