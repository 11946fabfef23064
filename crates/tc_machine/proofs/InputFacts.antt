-- A trace that was read gives back what it asks for, and its threads are those of the rules.
use Rattle.std.proofs.Common.{◌≡◌, ℕ, zero, suc, ◌<◌, cond, eqb, List, [], ◌∷◌, ◌++◌, map, length, refl, sym, ap, ◌∙◌, arith, append_assoc}
use Rattle.std.specs.List.{range_with_len}
use Rattle.std.proofs.lemmas.List.{length-map}
use Rattle.std.proofs.lemmas.List.FromFn.{length-range_with_len, get_or-map-range_with_len, map-range_with_len_more}
use Rattle.std.proofs.lemmas.Bool.Decides.{nat_tests}
use Rattle.tc_units.specs.declared.units.ThreadNo.{ThreadNo}
use Rattle.tc_units.specs.declared.spans.ClassRow.{ClassRow}
use Rattle.tc_model.specs.declared.calls.Planned.{Planned}
use Rattle.tc_model.specs.declared.calls.Script.{Script}
use Rattle.tc_model.specs.declared.config.Config.{Config}
use Rattle.tc_model.specs.Input.{Input, Asked, ThreadCall, script_of, scripts_of, labels_of}
use Rattle.trace_reader.specs.declared.trace.Trace.{Trace}
use Rattle.trace_reader.specs.Traces.{trace_of}
use Rattle.trace_reader.specs.Valid.{IsAsked, AreCalls}
use Rattle.tc_model.specs.Run.{world_of, start}
use Rattle.call_steps.specs.Calls.{About}
use Rattle.call_steps.specs.Fronts.{FrontRules}
use Rattle.alloc_rules.specs.Machine.{first_of, parts_of, rules, turns}
use Rattle.tc_machine.specs.Inputs.{IsRead, script_at, calls_by, asked_of, input_of}
use Rattle.tc_machine.specs.Opening.{local_at, locals_at, parts_at}

-- the script of a thread, by its place
pub script_at_is : (n : ℕ) (calls : List ThreadCall) (t : ℕ) → t < n → script_at (map (λ u. let s : Script = record { calls = script_of u calls } in s) (range_with_len 0 n)) t ≡ script_of t calls
script_at_is n calls t below = ap (λ (s : Script). s.calls) (get_or-map-range_with_len (λ u. let s : Script = record { calls = script_of u calls } in s) 0 n t t (record { calls = [] }) below (omega arith))

-- a script, call by call
script-cons : (t : ℕ) (c : ThreadCall) (cs : List ThreadCall) → script_of t (c ∷ cs) ≡ cond (eqb c.thread.0 t) (c.planned ∷ script_of t cs) (script_of t cs)
script-cons t c cs =
    let f : ThreadCall → Planned = λ (d : ThreadCall). d.planned in
    grind (arith)

-- all calls are made by threads below n
abbrev pub AreBelow : ℕ → List ThreadCall → Type 0
AreBelow n [] = Unit {0}
AreBelow n (c ∷ cs) = (c.thread.0 < n) × AreBelow n cs

below_from : (classes : ℕ) (config : Config) (all earlier calls : List ThreadCall) → AreCalls classes config all → earlier ++ calls ≡ all → AreBelow config.threads calls
below_from classes config all earlier [] valid is = tt
below_from classes config all earlier (c ∷ cs) valid is =
    ((valid earlier c cs is).thread, below_from classes config all (earlier ++ c ∷ []) cs valid (append_assoc earlier (c ∷ []) cs ∙ is))

pub below_read : (classes : ℕ) (asked : Asked) → IsAsked classes asked → AreBelow asked.config.threads asked.calls
below_read classes asked valid = below_from classes asked.config asked.calls [] asked.calls valid.calls refl

-- the calls in trace order, from the scripts
calls_are : (n : ℕ) (calls : List ThreadCall) (left : ℕ → List Planned) → ((u : ℕ) → u < n → left u ≡ script_of u calls) → AreBelow n calls
    → calls_by (map (λ (c : ThreadCall). c.thread) calls) left ≡ calls
calls_are n [] left same below = refl
calls_are n (c ∷ cs) left same below = grind (arith, nat_tests, calls_are n cs, script-cons)

asked_again : (classes : ℕ) (asked : Asked) → IsAsked classes asked → asked_of (trace_of asked) ≡ asked
asked_again classes asked valid =
    ap (λ cs. let a : Asked = record { config = asked.config; calls = cs } in a) (calls_are asked.config.threads asked.calls (script_at (scripts_of asked)) (λ u below. script_at_is asked.config.threads asked.calls u below) (below_read classes asked valid))

pub asked_is : (classes : ℕ) (trace : Trace) (asked : Asked) → IsRead classes trace asked → asked_of trace ≡ asked
asked_is classes trace asked read = ap asked_of read.is ∙ asked_again classes asked read.valid

pub input_is : (rows : List ClassRow) (classes : ℕ) (trace : Trace) (asked : Asked) → IsRead classes trace asked → input_of rows trace ≡ record { rows = rows; asked = asked }
input_is rows classes trace asked read = ap (λ a. let i : Input = record { rows = rows; asked = a } in i) (asked_is classes trace asked read)

-- Two functions that agree below n give the same list there.
pub same_below : {X : Type 0} (f g : ℕ → X) (n : ℕ) → ((t : ℕ) → t < n → f t ≡ g t) → map f (range_with_len 0 n) ≡ map g (range_with_len 0 n)
same_below f g zero same = refl
same_below {X} f g (suc n) same = grind (arith, same_below f g n, map-range_with_len_more f 0 n n, f n, same n, map-range_with_len_more g 0 n n)

map_twice : {X Y Z : Type 0} (f : X → Y) (g : Y → Z) (xs : List X) → map g (map f xs) ≡ map (λ x. g (f x)) xs
map_twice f g [] = refl
map_twice f g (x ∷ xs) = ap (λ ys. g (f x) ∷ ys) (map_twice f g xs)

scripts_count : (asked : Asked) → length (scripts_of asked) ≡ asked.config.threads
scripts_count asked = length-map (range_with_len 0 asked.config.threads) (λ t. let s : Script = record { calls = script_of t asked.calls } in s) ∙ length-range_with_len 0 asked.config.threads

pub threads_are : (classes : ℕ) (trace : Trace) (asked : Asked) → IsRead classes trace asked → length trace.scripts ≡ trace.config.threads
threads_are classes trace asked read =
    ap (λ (t : Trace). length t.scripts) read.is ∙ (scripts_count asked ∙ sym (ap (λ (t : Trace). t.config.threads) read.is))

-- the turns of the rules are those of the trace
pub turns_are : (rows : List ClassRow) (classes : ℕ) (trace : Trace) (asked : Asked) → IsRead classes trace asked → map (λ (t : ThreadNo). t.0) trace.turns ≡ turns (asked_of trace)
turns_are rows classes trace asked read =
    grind (arith, map_twice (λ (c : ThreadCall). c.thread) (λ (u : ThreadNo). u.0) asked.calls, asked_is classes trace asked read)

-- the threads at the start, and the whole start
module _ {P V R : Type 0} (r : FrontRules P V R) (about : R → About) where
  locals_are : (asked : Asked) → locals_at r about (scripts_of asked) ≡ (rules r about asked).locals
  locals_are asked =
      let n : ℕ = asked.config.threads in
      grind (arith, scripts_count asked, same_below (local_at r about (scripts_of asked)) (first_of r about asked) n, script_at_is n asked.calls)

  start_again : (asked : Asked) → world_of (parts_of r.split (parts_at r about asked.config (labels_of asked))) (locals_at r about (scripts_of asked)) ≡ start (rules r about asked)
  start_again asked = ap (λ ls. world_of (parts_of r.split (parts_at r about asked.config (labels_of asked))) ls) (locals_are asked)

  pub start_is : (classes : ℕ) (trace : Trace) (asked : Asked) → IsRead classes trace asked
      → world_of (parts_of r.split (parts_at r about trace.config trace.labels)) (locals_at r about trace.scripts) ≡ start (rules r about (asked_of trace))
  start_is classes trace asked read = grind (arith, start_again asked, asked_is classes trace asked read)
