-- Calls that are a run on disjoint blocks are first uses of their labels, where each label is allocated once and no request
-- is too large.
use Rattle.std.proofs.Common.{◌≡◌, ℕ, ◌≤◌, false, None, List, [], ◌∷◌, ◌++◌, length, get_or, cond, refl, subst, sym, ap, ◌∙◌, arith, append_assoc}
use Rattle.std.specs.List.{count_by, All}
use Rattle.std.proofs.lemmas.Bool.{cases_Bool, eq-eqb, eqb-true}
use Rattle.std.proofs.lemmas.List.{get_or_at, length-append}
use Rattle.std.proofs.lemmas.List.Sums.{sum_by-append}
use Rattle.std.proofs.lemmas.Bool.Decides.{nat_tests}
use Rattle.tc_units.specs.declared.units.Label.{Label}
use Rattle.tc_units.proofs.Counts.{count-cons, one-true}
use Rattle.tc_model.specs.Blocks.{allocates, frees, answer_to, freed_in, IsAllowed, IsBlockRun}
use Rattle.tc_model.specs.declared.calls.Call.{Call}
use Rattle.tc_model.specs.declared.calls.Call.TheVariants.{Malloc, Free}
use Rattle.tc_model.specs.declared.answers.Answer.{Answer}
use Rattle.tc_model.specs.declared.answers.CallLine.{CallLine}
use Rattle.heap_sample.specs.Samples.{IsFirstUse, most_size}
use Rattle.heap_sample.specs.Profiles.{AreFirstUses}

-- how many of some calls allocate under a label
abbrev pub got_among : ℕ → List CallLine → ℕ
got_among label calls = count_by (λ c. allocates label c.call) calls

-- no call asks for more than a request may
abbrev pub AsksFew : Call → Type 0
AsksFew call = (label : Label) (size : ℕ) → call ≡ Malloc label size → size ≤ most_size

-- a label that no call allocates has no answer
no_answer : (label : ℕ) (calls : List CallLine) → got_among label calls ≡ 0 → answer_to label calls ≡ None
no_answer label [] none = refl
no_answer label (c ∷ calls) none =
    grind (arith, nat_tests, no_answer label calls, count-cons (λ (d : CallLine). allocates label d.call) c calls, one-true (allocates label c.call))

module _ (huge : ℕ) (length_of : ℕ → ℕ) where
  -- and none frees it
  answered : (earlier : List CallLine) (l : Label) (answer : Answer) → IsAllowed huge length_of earlier (Free l) answer → answer_to l.0 earlier ≡ None → ⊥
  answered earlier l answer allowed none = grind (arith)

  frees_other : (label : ℕ) (earlier : List CallLine) (call : Call) (answer : Answer)
      → IsAllowed huge length_of earlier call answer → answer_to label earlier ≡ None → frees label call ≡ false
  frees_other label earlier (Free l) answer allowed none = grind (arith, answered, cases_Bool, eqb-true)
  frees_other label earlier call answer allowed none = refl

  not_freed : (label : ℕ) (earlier calls : List CallLine)
      → IsBlockRun huge length_of (earlier ++ calls) → got_among label (earlier ++ calls) ≡ 0 → freed_in label calls ≡ false
  not_freed label earlier [] run none = refl
  not_freed label earlier (c ∷ calls) run none = grind (arith, append_assoc, frees_other, no_answer, sum_by-append, (not_freed label (earlier ++ c ∷ []) calls))

  pub first_uses_of_run : (calls : List CallLine) → IsBlockRun huge length_of calls → ((label : ℕ) → got_among label calls ≤ 1)
      → All (λ c. AsksFew c.call) calls → AreFirstUses calls
  first_uses_of_run calls run once few earlier c later is = first_use c.call refl
    where
      here : get_or calls (length earlier) c ≡ c
      here = ap (λ (cs : List CallLine). get_or cs (length earlier) c) (sym is) ∙ get_or_at earlier c later c (length earlier) refl

      few_here : AsksFew c.call
      few_here = subst (λ (d : CallLine). AsksFew d.call) here (few (length earlier) c (omega (arith, ap length is, length-append earlier (c ∷ later))))

      before : IsBlockRun huge length_of earlier
      before es d ls same = run es d (ls ++ c ∷ later) (sym (append_assoc es (d ∷ ls) (c ∷ later)) ∙ ap (λ (cs : List CallLine). cs ++ c ∷ later) same ∙ is)

      first_use : (call : Call) → c.call ≡ call → IsFirstUse earlier call
      first_use (Malloc l n) e =
          let none : got_among l.0 earlier ≡ 0 =
          let parts = sum_by-append (λ (d : CallLine). cond (allocates l.0 d.call) 1 0) earlier (c ∷ later) in
          let all = count-cons (λ (d : CallLine). allocates l.0 d.call) c later in
          let one = one-true (allocates l.0 c.call) (ap (allocates l.0) e ∙ eq-eqb l.0 l.0 refl) in
          omega (arith, parts, all, one, ap (got_among l.0) is, once l.0) in
          (record { not_answered = no_answer l.0 earlier none; not_freed = not_freed l.0 [] earlier before none }, few_here l n e)
      first_use call e = tt
