-- One call more keeps what is known of the calls that were read.
use Rattle.std.proofs.Common.{◌≡◌, ℕ, ◌==◌, ◌||◌, Bool, true, false, List, [], ◌∷◌, ◌++◌, Option, refl, sym, ap, ◌∙◌, if◌then◌else◌, map, max}
use Rattle.std.proofs.lemmas.Bool.{or_left, or_right, or_cases, both_ways, false_from_ne_true, false≢true}
use Rattle.std.proofs.lemmas.List.{map_push}
use Rattle.std.proofs.lemmas.List.Recursion.{or_push}
use Rattle.std.proofs.lemmas.List.Sums.{fold_push}
use Rattle.std.proofs.lemmas.List.Elements.{filter-append}
use Rattle.std.proofs.lemmas.List.{map-append, append-nil}
use Rattle.std.specs.List.{list_any}
use Rattle.std.proofs.lemmas.Bool.Decides.{nat_tests}
use Rattle.std.proofs.Common.{arith}
use Rattle.tc_units.specs.declared.units.ThreadNo.{ThreadNo}
use Rattle.tc_model.specs.declared.calls.Call.{Call}
use Rattle.tc_model.specs.declared.calls.MoveTo.{MoveTo}
use Rattle.tc_model.specs.declared.calls.Planned.{Planned}
use Rattle.tc_model.specs.Blocks.{allocates, frees}
use Rattle.tc_model.specs.Input.{ThreadCall, script_of, label_end}
use Rattle.trace_reader.specs.declared.calls.Calls.{Calls}
use Rattle.trace_reader.specs.Labels.{is_allocated, is_freed}
use Rattle.trace_reader.specs.Kept.{script_at, calls_of, label_use, use_at, label_bound, IsKept, MayFollow, marked}

-- one call more
is_allocated-push : (label : ℕ) (calls : List ThreadCall) (c : ThreadCall) → is_allocated label (calls ++ c ∷ []) ≡ (is_allocated label calls || allocates label c.planned.call)
is_allocated-push label calls c = or_push (list_any (λ (d : ThreadCall). allocates label d.planned.call)) (λ (d : ThreadCall). allocates label d.planned.call) refl (λ _ _. refl) calls c

is_freed-push : (label : ℕ) (calls : List ThreadCall) (c : ThreadCall) → is_freed label (calls ++ c ∷ []) ≡ (is_freed label calls || frees label c.planned.call)
is_freed-push label calls c = or_push (list_any (λ (d : ThreadCall). frees label d.planned.call)) (λ (d : ThreadCall). frees label d.planned.call) refl (λ _ _. refl) calls c

or_none : (x y : Bool) → y ≡ false → (x || y) ≡ x
or_none true y h = refl
or_none false y h = h

-- a call that does nothing with a label leaves what was done with it
label_use-same : (calls : List ThreadCall) (c : ThreadCall) (label : ℕ) → allocates label c.planned.call ≡ false → frees label c.planned.call ≡ false
    → label_use (calls ++ c ∷ []) label ≡ label_use calls label
label_use-same calls c label no_malloc no_free = grind (arith, is_allocated-push, or_none, is_freed-push)

-- what one call more makes of what was done with a label
label_use-push : (calls : List ThreadCall) (thread : ThreadNo) (line : ℕ) (what : Call) (moved : Option MoveTo) (label : ℕ)
    → ((l : ℕ) → is_freed l calls ≡ true → is_allocated l calls ≡ true) → MayFollow calls what
    → label_use (calls ++ record { thread = thread; planned = record { line = line; call = what; moved = moved } } ∷ []) label ≡ marked what label (label_use calls label)
label_use-push calls thread line what moved label order may =
    grind (arith, nat_tests, is_allocated-push, or_right, false_from_ne_true, both_ways, is_freed-push, or_none, label_use-same)

-- a freed label was allocated, behind one call more too
order-push : (calls : List ThreadCall) (thread : ThreadNo) (line : ℕ) (what : Call) (moved : Option MoveTo) (label : ℕ)
    → ((l : ℕ) → is_freed l calls ≡ true → is_allocated l calls ≡ true) → MayFollow calls what
    → is_freed label (calls ++ record { thread = thread; planned = record { line = line; call = what; moved = moved } } ∷ []) ≡ true
    → is_allocated label (calls ++ record { thread = thread; planned = record { line = line; call = what; moved = moved } } ∷ []) ≡ true
order-push calls thread line what moved label order may h = grind (arith, nat_tests, is_allocated-push, or_cases, is_freed-push, or_left, false≢true)

-- a thread's script, with one call more of some thread
script_of-push : (thread : ℕ) (calls : List ThreadCall) (c : ThreadCall)
    → script_of thread (calls ++ c ∷ []) ≡ (if thread == c.thread.0 then script_of thread calls ++ c.planned ∷ [] else script_of thread calls)
script_of-push thread calls c = grind (arith, nat_tests, filter-append, map-append, append-nil)

-- what is known of the calls, with one call more
pub keeps : (calls more : Calls) (thread : ThreadNo) (p : Planned) → IsKept calls → MayFollow (calls_of calls) p.call
    → calls_of more ≡ calls_of calls ++ record { thread = thread; planned = p } ∷ []
    → ((label : ℕ) → use_at more label ≡ marked p.call label (use_at calls label)) → more.labels ≡ max calls.labels (label_end p.call)
    → ((t : ℕ) → script_at more t ≡ (if t == thread.0 then script_at calls t ++ p ∷ [] else script_at calls t))
    → more.turns.items ≡ calls.turns.items ++ thread ∷ [] → IsKept more
keeps calls more thread p kept may is uses labels scripts turns =
    let all = calls_of calls in
    let c : ThreadCall = record { thread = thread; planned = p } in
    record {
      uses = λ label. uses label ∙ ap (marked p.call label) (kept.uses label) ∙ sym (label_use-push all thread p.line p.call p.moved label kept.order may) ∙ sym (ap (λ cs. label_use cs label) is);
      order = λ label h. ap (is_allocated label) is ∙ order-push all thread p.line p.call p.moved label kept.order may (sym (ap (is_freed label) is) ∙ h);
      labels = labels ∙ ap (λ (n : ℕ). max n (label_end p.call)) kept.labels ∙ sym (fold_push (λ (most : ℕ) (d : ThreadCall). max most (label_end d.planned.call)) 0 all c) ∙ sym (ap label_bound is);
      scripts = λ t. scripts t ∙ ap (λ (s : List Planned). if t == thread.0 then s ++ p ∷ [] else s) (kept.scripts t) ∙ sym (script_of-push t all c) ∙ sym (ap (script_of t) is);
      turns = turns ∙ ap (λ (ts : List ThreadNo). ts ++ thread ∷ []) kept.turns ∙ sym (map_push (λ (d : ThreadCall). d.thread) all c) ∙ sym (ap (map (λ (d : ThreadCall). d.thread)) is);
    }
