-- The laws of the completion of an order: threads, rising counts of ended calls, no wait, and the end of each script.
use Rattle.std.proofs.Common.{◌≡◌, ℕ, zero, suc, ◌<◌, ◌≤◌, Bool, true, false, List, [], ◌∷◌, length, get_or, map, Option, Some, None, refl, sym, ap, ◌∙◌}
use Rattle.std.proofs.Common.{subst, arith, slice_index, option_map, slice_get, is_some}
use Rattle.alloc_rules.proofs.Common.{option_map_or, range_with_len, false≢true, length-map, length-range_with_len, slice_get-get_or, slice_get_past, Planned, Asked}
use Rattle.alloc_rules.proofs.Common.{ThreadCall, script_of, Rules, World, world_of, IsReady, stepped, done_in, HaveEnded, next_turn, AreThreads}
use Rattle.alloc_rules.proofs.Common.{NeverWaits, Rises, Ends, call_at, Regs, Step, Local, About, Part, Standing, IsLawful, FrontRules, Parts, parts_of}
use Rattle.alloc_rules.proofs.Common.{place_of, first_of, rules, turns, Fits, IsIn, is_under_way, IsValid}
use Rattle.tc_model.proofs.RisesBy.{rises_by, turns_none}
use Rattle.tc_model.specs.declared.steps.Stepped.TheVariants as step
use Rattle.alloc_rules.proofs.{Elsewhere.after_rises, Inputs.EachOf, Runs.served_order, Runs.sound, SerialGoes.script_length, SerialGoes.serial_goes, Serving.IsAtWork}

-- calls are made by threads that there are
pub thread_below : (n : ℕ) (cs : List ThreadCall) → EachOf cs (λ c. c.thread.0 < n)
    → (i : ℕ) → i < length (map (λ (c : ThreadCall). c.thread.0) cs) → slice_index (map (λ (c : ThreadCall). c.thread.0) cs) i < n
thread_below n [] below i within = absurd (omega arith)
thread_below n (c ∷ cs) below zero within = below [] c cs refl
thread_below n (c ∷ cs) below (suc i) within = thread_below n cs (λ earlier d later is. below (c ∷ earlier) d later (ap (λ xs. c ∷ xs) is)) i (omega arith)

module _ {P V R : Type 0} {r : FrontRules P V R} {about : R → About} {planned : Planned → Type 0} {Holds : ℕ → List P → List (Standing V R) → Type 0}
    {fits : P → V → Regs → R → Type 0} (law : IsLawful r about planned Holds fits) {asked : Asked} (valid : IsValid r.calls.rows planned asked) where
  pub are_threads : AreThreads (rules r about asked) (turns asked)
  are_threads i within =
      let n : ℕ = asked.config.threads in
      let count : length (rules r about asked).locals ≡ n = length-map (range_with_len 0 n) (first_of r about asked) ∙ length-range_with_len 0 n in
      let below = thread_below n asked.calls (λ earlier c later is. (valid.calls earlier c later is).thread) i within in
      omega (arith, below, count)

  pub rises : Rises (rules r about asked)
  rises = rises_by (rules r about asked) (after_rises r about law.refuses)

  -- the thread of the earliest call that hasn't ended moves
  pub never_waits : NeverWaits (rules r about asked) (turns asked)
  never_waits order t of =
      let h = served_order law valid order of in
      let rs : Rules (Part P) (Local V R) = rules r about asked in
      let Q : World (Part P) (Local V R) → Type 0 = λ w. ((u : ℕ) → IsReady rs (Fits r.calls.rows fits) w u)
      → next_turn (done_in rs w) [] (turns asked) ≡ Some t → stepped rs w t ≡ step.Moved in
      let split : r.split ≤ length h.parts.fronts = omega (arith, law.split, h.placed.fronts) in
      subst Q (sym h.is) (λ each. serial_goes r about planned Holds fits asked valid h.parts h.locals order h.placed split h.count h.works each t) (λ u. sound law valid order u of)

  -- where each call has ended, each script has
  ended_by : (l : Local V R) (s : Step R) → l.step ≡ s → is_under_way s ≡ false → place_of r about l ≡ None
  ended_by l s is way = grind arith

  -- a step of no call
  no_way : {X : Type 0} (b : Bool) (o : Option X) → o ≡ None → (b ≡ true → is_some o ≡ true) → b ≡ false
  no_way b o none some = grind (arith, false≢true)

  all_ended : (p : Parts P) (locals : List (Local V R)) (order : List ℕ) → ((t : ℕ) (l : Local V R) → slice_get locals t ≡ Some l → IsAtWork r about planned Holds asked p.names order t l)
      → next_turn (done_in (rules r about asked) (world_of (parts_of r.split p) locals)) [] (turns asked) ≡ None → HaveEnded (rules r about asked) (world_of (parts_of r.split p) locals)
  all_ended p locals order works next t d within =
      let l : Local V R = get_or locals t d in
      let local : slice_get locals t ≡ Some l = slice_get-get_or locals t d within in
      let inside : IsIn r.calls about p.names (script_of t asked.calls) l = (works t l local).inside in
      let few = turns_none (done_in (rules r about asked) (world_of (parts_of r.split p) locals)) [] (turns asked) next (λ u. omega arith) t in
      let done : done_in (rules r about asked) (world_of (parts_of r.split p) locals) t ≡ l.ended = ap (λ o. option_map_or (rules r about asked).done o 0) local in
      let script : List Planned = script_of t asked.calls in
      let none : call_at script l.ended ≡ None = ap (option_map (λ (q : Planned). q.call)) (slice_get_past script l.ended (omega (arith, few, done, script_length t asked.calls))) in
      ended_by l l.step refl (no_way (is_under_way l.step) (call_at script l.ended) none inside.some)

  pub ends : Ends (rules r about asked) (turns asked)
  ends order of =
      let h = served_order law valid order of in
      let Q : World (Part P) (Local V R) → Type 0 = λ w. next_turn (done_in (rules r about asked) w) [] (turns asked) ≡ None → HaveEnded (rules r about asked) w in
      subst Q (sym h.is) (all_ended h.parts h.locals order h.works)
