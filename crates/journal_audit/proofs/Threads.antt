-- The calls of a thread, counted, and what holds of each thread.
use Rattle.std.proofs.Common.{◌≡◌, ℕ, zero, suc, ◌+◌, ◌<◌, ◌≤◌, Bool, true, false, ◌||◌, List, [], ◌∷◌, ◌++◌, length, filter, Some, refl, ap}
use Rattle.std.proofs.Common.{◌∙◌, arith, length-append}
use Rattle.std.specs.List.{list_any, range_with_len}
use Rattle.std.proofs.lemmas.Bool.{cases_lt}
use Rattle.std.proofs.lemmas.List.Elements.{filter-append}
use Rattle.std.proofs.lemmas.List.Sums.{length-filter, count_by-le-length}
use Rattle.std.proofs.lemmas.Option.{slice_get_past}
use Rattle.std.proofs.lemmas.Bool.Decides.{nat_tests}
use Rattle.tc_model.specs.declared.calls.Call.{Call}
use Rattle.tc_model.specs.declared.calls.Script.{Script}
use Rattle.tc_model.specs.declared.answers.CallLine.{CallLine}
use Rattle.journal_audit.specs.Rules.{is_by, count_of, next_call}

count_push : (t : ℕ) (calls : List CallLine) (c : CallLine) → count_of t (calls ++ c ∷ []) ≡ count_of t calls + count_of t (c ∷ [])
count_push t calls c = ap length (filter-append (is_by t) calls (c ∷ [])) ∙ length-append (filter (is_by t) calls) (filter (is_by t) (c ∷ []))

pub count_mine : (t : ℕ) (calls : List CallLine) (c : CallLine) → c.thread.0 ≡ t → count_of t (calls ++ c ∷ []) ≡ count_of t calls + 1
count_mine t calls c mine = grind (arith, nat_tests, count_push)

pub count_other : (t : ℕ) (calls : List CallLine) (c : CallLine) → (c.thread.0 ≡ t → ⊥) → count_of t (calls ++ c ∷ []) ≡ count_of t calls
count_other t calls c other = grind (arith, nat_tests, count_push)

pub count_within : (t : ℕ) (calls : List CallLine) → count_of t calls ≤ length calls
count_within t calls = omega (arith, length-filter (is_by t) calls, count_by-le-length (is_by t) calls)

-- a thread with a next call is there
pub has_script : (scripts : List Script) (calls : List CallLine) (t : ℕ) (call : Call) → next_call scripts calls t ≡ Some call → t < length scripts
has_script scripts calls t call next = grind (arith, cases_lt, slice_get_past)

-- what holds of each number of a range
pub none_below : (p : ℕ → Bool) (a n k : ℕ) → list_any p (range_with_len a n) ≡ false → a ≤ k → k < a + n → p k ≡ false
none_below p a zero k none from less = absurd (omega (arith, from, less))
none_below p a (suc n) k none from less = grind (arith, nat_tests, none_below p (a + 1) n k)

pub none_in : (p : ℕ → Bool) (a n : ℕ) → ((k : ℕ) → k < a + n → p k ≡ false) → list_any p (range_with_len a n) ≡ false
none_in p a zero none = refl
none_in p a (suc n) none =
    ap (λ b. b || list_any p (range_with_len (a + 1) n)) (none a (omega arith)) ∙ none_in p (a + 1) n (λ k less. none k (omega (arith, less)))

pub any_in : (p : ℕ → Bool) (n k : ℕ) → k < n → p k ≡ true → list_any p (range_with_len 0 n) ≡ true
any_in p n k less is = grind (arith, nat_tests, none_below p 0 n k)
