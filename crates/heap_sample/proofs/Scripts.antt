-- Calls that are the scripts of a trace's threads have of its threads, numbers, sizes and labels what the trace has.
use Rattle.std.proofs.Common.{◌≡◌, ℕ, zero, suc, ◌+◌, ◌<◌, ◌≤◌, ◌==◌, Bool, true, false, nat_lt, List, [], ◌∷◌, ◌++◌, length, map, get_or}
use Rattle.std.proofs.Common.{take, drop, cond, refl, subst, sym, ap, ◌∙◌, inl, inr, arith, append_assoc}
use Rattle.std.specs.List.{sum_by, count_by, filter, list_any, All}
use Rattle.std.proofs.lemmas.Bool.{cases_Bool, cases_eq, cases_lt, eq-eqb, ne_eqb, eqb-true, ltb-false, lt-ltb, le-ltb}
use Rattle.std.proofs.lemmas.List.{append-nil, drop_more, take-append-drop}
use Rattle.std.proofs.lemmas.List.Elements.{All-head, All-tail}
use Rattle.std.proofs.lemmas.List.Folds.{fold-map}
use Rattle.std.proofs.lemmas.List.Sums.{sum_by-cons, sum_by-append, length-filter}
use Rattle.tc_units.specs.declared.units.Label.{Label}
use Rattle.tc_units.proofs.Counts.{any_is_count, count_none, count_some, one-true, one-false}
use Rattle.tc_model.specs.Blocks.{allocates, IsBlockRun}
use Rattle.tc_model.specs.Input.{ThreadCall, Asked, script_of}
use Rattle.tc_model.specs.declared.calls.Call.{Call}
use Rattle.tc_model.specs.declared.calls.Call.TheVariants.{Malloc}
use Rattle.tc_model.specs.declared.calls.Planned.{Planned}
use Rattle.tc_model.specs.declared.answers.CallLine.{CallLine}
use Rattle.heap_sample.specs.Samples.{most_size}
use Rattle.heap_sample.specs.Profiles.{AreFirstUses}
use Rattle.heap_sample.proofs.BlockRuns.{AsksFew, first_uses_of_run}
use Rattle.heap_sample.proofs.Bounds.{counts}

-- What the items of each thread sum to.
module _ {X : Type 0} (thread : X → ℕ) (f : X → ℕ) where
  abbrev of_thread : ℕ → List X → ℕ
  of_thread t xs = sum_by f (filter (λ x. thread x == t) xs)

  abbrev below : ℕ → List X → ℕ
  below zero xs = 0
  below (suc t) xs = below t xs + of_thread t xs

  mine : (x : X) (xs : List X) (t : ℕ) → thread x ≡ t → of_thread t (x ∷ xs) ≡ f x + of_thread t xs
  mine x xs t e = rw (eq-eqb (thread x) t e) (sum_by-cons f x (filter (λ y. thread y == t) xs))

  other : (x : X) (xs : List X) (t : ℕ) → (thread x ≡ t → ⊥) → of_thread t (x ∷ xs) ≡ of_thread t xs
  other x xs t apart = rw (ne_eqb (thread x) t apart) refl

  stays : (x : X) (xs : List X) (n : ℕ) → n ≤ thread x → below n (x ∷ xs) ≡ below n xs
  stays x xs zero le = refl
  stays x xs (suc n) le = omega (arith, stays x xs n (omega (arith, le)), other x xs n (λ e. omega (arith, le, e)))

  comes : (x : X) (xs : List X) (n : ℕ) → thread x < n → below n (x ∷ xs) ≡ f x + below n xs
  comes x xs zero less = absurd (omega (arith, less))
  comes x xs (suc n) less = grind (arith, cases_eq, mine, other, stays, (comes x xs n))

  none : (n : ℕ) → below n [] ≡ 0
  none zero = refl
  none (suc n) = omega (arith, none n)

  within : (n : ℕ) (xs : List X) → below n xs ≤ sum_by f xs
  within n [] = omega (arith, none n)
  within n (x ∷ xs) = grind (arith, cases_lt, comes, stays, sum_by-cons, (within n xs))

  whole : (n : ℕ) (xs : List X) → All (λ x. thread x < n) xs → below n xs ≡ sum_by f xs
  whole n [] all = none n
  whole n (x ∷ xs) all = omega (arith, comes x xs n (All-head (λ y. thread y < n) x xs all), whole n xs (All-tail (λ y. thread y < n) x xs all), sum_by-cons f x xs)

-- whether a call asks for more than a request may
abbrev asks_more : Call → Bool
asks_more (Malloc label size) = nat_lt most_size size
asks_more call = false

asks_few : (call : Call) → AsksFew call → asks_more call ≡ false
asks_few (Malloc label size) few = le-ltb most_size size (few label size refl)
asks_few call few = refl

-- how many calls of a trace allocate under a label
abbrev pub planned_among : ℕ → List ThreadCall → ℕ
planned_among label calls = count_by (λ c. allocates label c.planned.call) calls

-- each allocation of a trace is small, and the first one of its label
abbrev pub KeepsLabels : List ThreadCall → Type 0
KeepsLabels calls = (earlier : List ThreadCall) (c : ThreadCall) (later : List ThreadCall) → earlier ++ c ∷ later ≡ calls
    → (label : Label) (size : ℕ) → c.planned.call ≡ Malloc label size → (size ≤ most_size) × (list_any (λ d. allocates label.0 d.planned.call) earlier ≡ false)

is_malloc : (label : ℕ) (call : Call) → allocates label call ≡ true → (l : Label) × (size : ℕ) × (call ≡ Malloc l size) × (l.0 ≡ label)
is_malloc label (Malloc l size) is = (l, size, refl, eqb-true l.0 label is)
is_malloc label call is = absurd (cc)

once_in : (calls : List ThreadCall) → KeepsLabels calls → (label : ℕ) (earlier later : List ThreadCall) → earlier ++ later ≡ calls
    → planned_among label earlier ≤ 1 → planned_among label calls ≤ 1
once_in calls keeps label earlier [] is few = subst (λ (cs : List ThreadCall). planned_among label cs ≤ 1) (sym (append-nil earlier) ∙ is) few
once_in calls keeps label earlier (c ∷ later) is few =
    let more = sum_by-append (λ (d : ThreadCall). cond (allocates label d.planned.call) 1 0) earlier (c ∷ []) in
    let next : planned_among label (earlier ++ c ∷ []) ≤ 1 = elim (cases_Bool (allocates label c.planned.call)) [
      | inl own ↦ (let m = is_malloc label c.planned.call own in
          let new = sym (any_is_count (λ (d : ThreadCall). allocates m.0.0 d.planned.call) earlier) ∙ (keeps earlier c later is m.0 m.1 m.2).1 in
          let none = ltb-false 0 (planned_among m.0.0 earlier) new in
          omega (arith, ap (λ l. planned_among l earlier) m.3, none, more, one-true (allocates label c.planned.call) own))
      | inr not_own ↦ omega (arith, few, more, one-false (allocates label c.planned.call) not_own)
    ] in
    once_in calls keeps label (earlier ++ c ∷ []) later (append_assoc earlier (c ∷ []) later ∙ is) next

few_in : (calls : List ThreadCall) → KeepsLabels calls → All (λ c. AsksFew c.planned.call) calls
few_in calls keeps k d inside label size e =
    let cut = ap (λ (rest : List ThreadCall). take k calls ++ rest) (sym (drop_more calls k d inside)) ∙ take-append-drop k calls in
    (keeps (take k calls) (get_or calls k d) (drop (k + 1) calls) cut label size e).0

module _ (asked : Asked) (calls : List CallLine)
    (each : (t : ℕ) → t < asked.config.threads
    → map (λ (c : CallLine). c.call) (filter (λ (c : CallLine). c.thread.0 == t) calls) ≡ map (λ (p : Planned). p.call) (script_of t asked.calls))
    (others : (t : ℕ) → asked.config.threads ≤ t → filter (λ (c : CallLine). c.thread.0 == t) calls ≡ []) where
  -- the threads are those of the trace
  pub threads_below : All (λ c. c.thread.0 < asked.config.threads) calls
  threads_below k d inside =
      let t = (get_or calls k d).thread.0 in
      elim (cases_lt t asked.config.threads) [
        | inl less ↦ less
        | inr from ↦ (let some = count_some (λ (c : CallLine). c.thread.0 == t) calls k d inside (eq-eqb t t refl) in
            absurd (omega (arith, some, length-filter (λ (c : CallLine). c.thread.0 == t) calls, ap length (others t from))))
      ]

  -- a thread's calls and its script sum to the same, so all calls to no more than those of the trace
  same_thread : (f : Call → ℕ) (t : ℕ) → t < asked.config.threads
      → of_thread (λ (c : CallLine). c.thread.0) (λ c. f c.call) t calls ≡ of_thread (λ (c : ThreadCall). c.thread.0) (λ c. f c.planned.call) t asked.calls
  same_thread f t less =
      sym (fold-map (λ n call. n + f call) (λ (c : CallLine). c.call) 0 (filter (λ (c : CallLine). c.thread.0 == t) calls)) ∙ ap (sum_by f) (each t less)
      ∙ fold-map (λ n call. n + f call) (λ (p : Planned). p.call) 0 (script_of t asked.calls)
      ∙ fold-map (λ n (p : Planned). n + f p.call) (λ (c : ThreadCall). c.planned) 0 (filter (λ (c : ThreadCall). c.thread.0 == t) asked.calls)

  same_below : (f : Call → ℕ) (n : ℕ) → n ≤ asked.config.threads
      → below (λ (c : CallLine). c.thread.0) (λ c. f c.call) n calls ≡ below (λ (c : ThreadCall). c.thread.0) (λ c. f c.planned.call) n asked.calls
  same_below f zero le = refl
  same_below f (suc n) le = omega (arith, same_below f n (omega (arith, le)), same_thread f n (omega (arith, le)))

  no_more : (f : Call → ℕ) → sum_by (λ c. f c.call) calls ≤ sum_by (λ c. f c.planned.call) asked.calls
  no_more f =
      let n = asked.config.threads in
      omega (
        arith,
        whole (λ (c : CallLine). c.thread.0) (λ c. f c.call) n calls threads_below,
        same_below f n (omega arith),
        within (λ (c : ThreadCall). c.thread.0) (λ c. f c.planned.call) n asked.calls,
      )

  pub few_calls : length calls ≤ length asked.calls
  few_calls = omega (arith, no_more (λ call. 1), counts calls, counts asked.calls)

  sizes : KeepsLabels asked.calls → All (λ c. AsksFew c.call) calls
  sizes keeps k d inside label size e = elim (cases_lt most_size size) [
    | inr few ↦ few
    | inl more ↦
        (let some = count_some (λ (c : CallLine). asks_more c.call) calls k d inside (ap asks_more e ∙ lt-ltb most_size size more) in
        let small = λ (i : ℕ) (x : ThreadCall) (l : i < length asked.calls). asks_few (get_or asked.calls i x).planned.call (few_in asked.calls keeps i x l) in
        let none = count_none (λ (c : ThreadCall). asks_more c.planned.call) asked.calls small in
        absurd (omega (arith, no_more (λ call. cond (asks_more call) 1 0), some, none)))
  ]

  -- and as a run on disjoint blocks they are first uses
  pub first_uses_of_scripts : (huge : ℕ) (length_of : ℕ → ℕ) → IsBlockRun huge length_of calls → KeepsLabels asked.calls → AreFirstUses calls
  first_uses_of_scripts huge length_of run keeps =
      let once = λ (label : ℕ). once_in asked.calls keeps label [] asked.calls refl (omega arith) in
      first_uses_of_run huge length_of calls run (λ label. omega (arith, no_more (λ call. cond (allocates label call) 1 0), once label)) (sizes keeps)
