-- All calls in trace order, from each thread's calls.
use Rattle.std.proofs.Common.{◌≡◌, ℕ, ◌<◌, ◌≤◌, ◌==◌, List, [], ◌∷◌, ◌++◌, length, get_or, set, take, map, reverse, ap, ◌∙◌, arith, if◌then◌else◌}
use Rattle.std.proofs.lemmas.List.{take_at, get_or_push, length_push, length-take-le, get_or-take, reverse-append, get_or-set_same, get_or-set_other, get_or-map, length-map}
use Rattle.std.proofs.lemmas.List.FromFn.{fill_by_all}
use Rattle.std.proofs.lemmas.Option.{slice_get-get_or}
use Rattle.std.specs.List.{range_with_len}
use Rattle.std.proofs.lemmas.Bool.Decides.{nat_tests}
use Rattle.tc_model.specs.declared.calls.Script.{Script}
use Rattle.tc_units.specs.declared.units.ThreadNo.{ThreadNo}
use Rattle.tc_model.specs.declared.calls.Planned.{Planned}
use Rattle.trace_reader.specs.declared.calls.Calls.{Calls}
use Rattle.trace_reader.specs.Kept.{last_of, all_but_last, joined, script_at, calls_of}

-- what precedes the last call, and the last call
all_but_last-push : (calls : List Planned) (p : Planned) → all_but_last (calls ++ p ∷ []) ≡ calls
all_but_last-push calls p = grind (arith, length_push, take_at)

last_of-push : (calls : List Planned) (p : Planned) → last_of (calls ++ p ∷ []) ≡ p
last_of-push calls p = grind (arith, length_push, get_or_push)

-- equal scripts are joined to equal calls
joined-same : (turns : List ThreadNo) (f g : ℕ → List Planned) → ((t : ℕ) → f t ≡ g t) → joined turns f ≡ joined turns g
joined-same turns f g e = grind (arith)

-- one call more of one thread
pub joined-push : (turns : List ThreadNo) (f g : ℕ → List Planned) (thread : ThreadNo) (p : Planned) → g thread.0 ≡ f thread.0 ++ p ∷ []
    → ((t : ℕ) → (t ≡ thread.0 → ⊥) → g t ≡ f t)
    → joined (reverse (turns ++ thread ∷ [])) g ≡ joined (reverse turns) f ++ record { thread = thread; planned = p } ∷ []
joined-push turns f g thread p here others = grind (arith, nat_tests, all_but_last-push, reverse-append, joined-same, last_of-push)

-- each thread's calls, where one thread has one call more
pub scripts-push : (scripts : List (List Planned)) (i : ℕ) (v w : List Planned) (p : Planned) → i < length scripts → w ≡ get_or scripts i w → v ≡ w ++ p ∷ []
    → (t : ℕ) → get_or (set scripts i v) t [] ≡ (if t == i then get_or scripts t [] ++ p ∷ [] else get_or scripts t [])
scripts-push scripts i v w p within was now t = grind (arith, nat_tests, get_or-set_same, get_or-set_other, slice_get-get_or scripts i)

-- all calls, where one thread has one call more
pub calls_of-push : (calls more : Calls) (thread : ThreadNo) (p : Planned) → more.turns.items ≡ calls.turns.items ++ thread ∷ []
    → ((t : ℕ) → script_at more t ≡ (if t == thread.0 then script_at calls t ++ p ∷ [] else script_at calls t))
    → calls_of more ≡ calls_of calls ++ record { thread = thread; planned = p } ∷ []
calls_of-push calls more thread p turns scripts = grind (arith, nat_tests, joined-push)

-- the same turns and scripts are the same calls
pub script_at-same : (a b : Calls) → a.scripts ≡ b.scripts → (t : ℕ) → script_at a t ≡ script_at b t
script_at-same a b scripts t = ap (λ ss. get_or ss.items t []) scripts

pub calls_of-same : (a b : Calls) → a.scripts ≡ b.scripts → a.turns ≡ b.turns → calls_of a ≡ calls_of b
calls_of-same a b scripts turns = ap (λ ts. joined (reverse ts.items) (script_at a)) turns ∙ joined-same (reverse b.turns.items) (script_at a) (script_at b) (script_at-same a b scripts)

-- the scripts of the first threads, from each thread's calls
pub scripts-first : (scripts : List (List Planned)) (script : ℕ → List Planned) (n : ℕ) → n ≤ length scripts → ((t : ℕ) → get_or scripts t [] ≡ script t)
    → map {B = Script} (λ v. record { calls = v }) (take n scripts) ≡ map {B = Script} (λ t. record { calls = script t }) (range_with_len 0 n)
scripts-first scripts script n room each =
    let as_script : List Planned → Script = λ calls. record { calls = calls } in
    let of_thread : ℕ → Script = λ t. record { calls = script t } in
    let first = take n scripts in
    let size : length first ≡ n = length-take-le n scripts (omega (arith, room)) in
    fill_by_all of_thread (map as_script first) n (as_script []) (length-map first as_script ∙ size) (λ k below.
    let inside : k < length first = omega arith in
    get_or-map as_script first k [] (as_script []) inside ∙ ap as_script (get_or-take n scripts k [] below ∙ each k))
