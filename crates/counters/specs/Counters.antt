-- The rules of the two counters, and their laws.
use Rattle.std.proofs.lemmas.Bool.Decides.{nat_tests}
use Rattle.std.proofs.lemmas.Bool.{ltb-true, ltb-false}
use Rattle.std.proofs.lemmas.List.Elements.{All-cons, All-nil}
use Rattle.std.proofs.Common.{arith, nat_lt, zero, suc, inl, inr, ◌⊎◌, cond, sym, ◌∙◌, ap, subst}
use Rattle.tc_model.specs.Law.{IsKept, sound_by, run_keeps}
use Rattle.std.specs.Prelude.{◌*◌, ◌≡◌, ℕ, ◌+◌, ◌-◌, ◌<◌, ◌≤◌, Bool, true, false, ◌==◌, ◌&&◌, List, [], ◌∷◌, Option, Some, None, if◌then◌else◌, slice_get, refl}
use Rattle.tc_model.specs.declared.machine.PartNo.{PartNo}
use Rattle.tc_model.specs.declared.steps.Stepped.TheVariants as step
use Rattle.tc_model.specs.Steps.{stepped}
use Rattle.tc_model.specs.Replays.{done_in, HaveEnded}
use Rattle.tc_model.specs.Serial.{next_turn, AreThreads, NeverWaits, Rises, Ends}
use Rattle.tc_model.proofs.RisesBy.{rises_by}
use Rattle.counters.specs.declared.machine.Counter.{Counter}
use Rattle.counters.specs.declared.machine.Worker.{Worker}
use Rattle.counters.specs.declared.machine.Counters.{Counters}
use Rattle.tc_model.specs.Run.{Rules, World, world_of, start, run, with_pair}
use Rattle.tc_model.specs.Sound.{FitsThere, IsReady, IsSound}

abbrev pub counter : ℕ → Counter
counter n = record { count = n }

abbrev pub part_no : ℕ → PartNo
part_no i = record { 0 = i }

abbrev pub counter_want : Worker → Option PartNo
counter_want l = if l.first == 0 then (if l.second == 0 then None else Some (part_no 1)) else Some (part_no 0)

abbrev pub counter_after : Counter → Worker → Counter × Worker
counter_after p l = (counter (p.count + 1), if l.first == 0 then record { first = l.first; second = l.second - 1 } else record { first = l.first - 1; second = l.second })

-- a worker's call has ended where no act is left to it
abbrev pub flag : Bool → ℕ
flag true = 1
flag false = 0

abbrev pub counter_done : Worker → ℕ
counter_done l = flag (l.first == 0 && l.second == 0)

abbrev pub counters_rules : Counters → Rules Counter Worker
counters_rules m =
    record {
      parts = counter 0 ∷ counter 0 ∷ [];
      locals = (record { first = m.each; second = m.each }) ∷ (record { first = m.each; second = m.each }) ∷ [];
      want = counter_want;
      done = counter_done;
      waits = λ p l. false;
      yields = λ p l. true;
      after = counter_after;
    }

pub record CounterFits (p : Counter) (l : Worker) : Type 0 where
  pub room : p.count < 2000
  pub work : 0 < l.first + l.second

-- what is done at a counter and what is left for it come to two times each
pub record CountersAre (m : Counters) (w : World Counter Worker) : Type 0 where
  pub one : Counter
  pub two : Counter
  pub left : Worker
  pub right : Worker
  pub parts : w.parts ≡ one ∷ two ∷ []
  pub locals : w.locals ≡ left ∷ right ∷ []
  pub first : one.count + left.first + right.first ≡ 2 * m.each
  pub second : two.count + left.second + right.second ≡ 2 * m.each

counters_first : (m : Counters) → CountersAre m (start (counters_rules m))
counters_first m = record { one = counter 0; two = counter 0; left = record { first = m.each; second = m.each }; right = record { first = m.each; second = m.each }; parts = refl; locals = refl; first = omega arith; second = omega arith }

-- one of two
pub one_of_two : {X : Type 0} (a b x : X) (t : ℕ) → slice_get (a ∷ b ∷ []) t ≡ Some x → ((t ≡ 0) × (a ≡ x)) ⊎ ((t ≡ 1) × (b ≡ x))
one_of_two a b x zero is = inl (refl, (cc))
one_of_two a b x (suc zero) is = inr (refl, (cc))
one_of_two a b x (suc (suc t)) is = absurd (cc)

-- where a worker goes
abbrev pub Goes : Worker → PartNo → Type 0
Goes l part = ((0 < l.first) × (part ≡ part_no 0)) ⊎ ((l.first ≡ 0) × (0 < l.second) × (part ≡ part_no 1))

goes_by : (l : Worker) (part : PartNo) (a b : Bool) → (l.first == 0) ≡ a → (l.second == 0) ≡ b → cond a (cond b None (Some (part_no 1))) (Some (part_no 0)) ≡ Some part → Goes l part
goes_by l part true true first second is = absurd (cc)
goes_by l part true false first second is = let f : l.first ≡ 0 = grind (arith, nat_tests) in let g : 0 < l.second = grind (arith, nat_tests) in let e : part ≡ part_no 1 = (cc) in inr (f, g, e)
goes_by l part false b first second is = let f : 0 < l.first = grind (arith, nat_tests) in let e : part ≡ part_no 0 = (cc) in inl (f, e)

pub goes : (l : Worker) (part : PartNo) → counter_want l ≡ Some part → Goes l part
goes l part want = goes_by l part (l.first == 0) (l.second == 0) refl refl want

-- the same, with the parts and locals written out
ready_of : (one two : Counter) (left right : Worker) (n : ℕ) → n ≤ 900 → one.count + left.first + right.first ≡ 2 * n → two.count + left.second + right.second ≡ 2 * n → (locals : List Worker) (l : Worker) (part : PartNo) → Goes l part → FitsThere CounterFits (record { parts = one ∷ two ∷ []; locals = locals }) part.0 l
ready_of one two left right n small first second locals l part (inl g) =
    let e : part.0 ≡ 0 = ap (λ (q : PartNo). q.0) g.1 in
    record { part = one; there = rw e refl; fit = record { room = omega arith; work = omega arith } }
ready_of one two left right n small first second locals l part (inr g) =
    let e : part.0 ≡ 1 = ap (λ (q : PartNo). q.0) g.2 in
    record { part = two; there = rw e refl; fit = record { room = omega arith; work = omega arith } }

counters_ready : (m : Counters) (w : World Counter Worker) (t : ℕ) → CountersAre m w → IsReady (counters_rules m) CounterFits w t
counters_ready m w t are l part local want =
    let Q : List Counter → Type 0 = λ ps. FitsThere CounterFits (record { parts = ps; locals = w.locals }) part.0 l in
    subst Q (sym are.parts) (ready_of are.one are.two are.left are.right m.each m.few are.first are.second w.locals l part (goes l part want))

-- what an act leaves of two workers, of which this is one
kept_of : (m : Counters) (one two : Counter) (left right : Worker) → one.count + left.first + right.first ≡ 2 * m.each → two.count + left.second + right.second ≡ 2 * m.each
    → (t : ℕ) (l : Worker) (part : PartNo) (p : Counter) → ((t ≡ 0) × (left ≡ l)) ⊎ ((t ≡ 1) × (right ≡ l)) → Goes l part → slice_get (one ∷ two ∷ []) part.0 ≡ Some p
    → CountersAre m (with_pair (record { parts = one ∷ two ∷ []; locals = left ∷ right ∷ [] }) part.0 t (counter_after p l))
kept_of m one two left right first second t l part p (inl is) (inl g) there =
    let e : part.0 ≡ 0 = ap (λ (q : PartNo). q.0) g.1 in
    let at : slice_get (one ∷ two ∷ []) 0 ≡ Some p = rw e at there in
    let o : one ≡ p = (cc) in
    let z : (l.first == 0) ≡ false = grind (arith, nat_tests) in
    let f : left.first ≡ l.first = ap (λ (x : Worker). x.first) is.1 in
    let h : left.second ≡ l.second = ap (λ (x : Worker). x.second) is.1 in
    let n : one.count ≡ p.count = ap (λ (x : Counter). x.count) o in
    rw (e, is.0, z) (record { one = counter (p.count + 1); two = two; left = record { first = l.first - 1; second = l.second }; right = right; parts = refl; locals = refl; first = omega arith; second = omega arith })
kept_of m one two left right first second t l part p (inl is) (inr g) there =
    let e : part.0 ≡ 1 = ap (λ (q : PartNo). q.0) g.2 in
    let at : slice_get (one ∷ two ∷ []) 1 ≡ Some p = rw e at there in
    let o : two ≡ p = (cc) in
    let z : (l.first == 0) ≡ true = grind (arith, nat_tests) in
    let f : left.first ≡ l.first = ap (λ (x : Worker). x.first) is.1 in
    let h : left.second ≡ l.second = ap (λ (x : Worker). x.second) is.1 in
    let n : two.count ≡ p.count = ap (λ (x : Counter). x.count) o in
    rw (e, is.0, z) (record { one = one; two = counter (p.count + 1); left = record { first = l.first; second = l.second - 1 }; right = right; parts = refl; locals = refl; first = omega arith; second = omega arith })
kept_of m one two left right first second t l part p (inr is) (inl g) there =
    let e : part.0 ≡ 0 = ap (λ (q : PartNo). q.0) g.1 in
    let at : slice_get (one ∷ two ∷ []) 0 ≡ Some p = rw e at there in
    let o : one ≡ p = (cc) in
    let z : (l.first == 0) ≡ false = grind (arith, nat_tests) in
    let f : right.first ≡ l.first = ap (λ (x : Worker). x.first) is.1 in
    let h : right.second ≡ l.second = ap (λ (x : Worker). x.second) is.1 in
    let n : one.count ≡ p.count = ap (λ (x : Counter). x.count) o in
    rw (e, is.0, z) (record { one = counter (p.count + 1); two = two; left = left; right = record { first = l.first - 1; second = l.second }; parts = refl; locals = refl; first = omega arith; second = omega arith })
kept_of m one two left right first second t l part p (inr is) (inr g) there =
    let e : part.0 ≡ 1 = ap (λ (q : PartNo). q.0) g.2 in
    let at : slice_get (one ∷ two ∷ []) 1 ≡ Some p = rw e at there in
    let o : two ≡ p = (cc) in
    let z : (l.first == 0) ≡ true = grind (arith, nat_tests) in
    let f : right.first ≡ l.first = ap (λ (x : Worker). x.first) is.1 in
    let h : right.second ≡ l.second = ap (λ (x : Worker). x.second) is.1 in
    let n : two.count ≡ p.count = ap (λ (x : Counter). x.count) o in
    rw (e, is.0, z) (record { one = one; two = counter (p.count + 1); left = left; right = record { first = l.first; second = l.second - 1 }; parts = refl; locals = refl; first = omega arith; second = omega arith })

counters_kept : (m : Counters) → IsKept (counters_rules m) (CountersAre m)
counters_kept m w t l part p are local want there waits =
    let local' : slice_get (are.left ∷ are.right ∷ []) t ≡ Some l = ap (λ (xs : List Worker). slice_get xs t) (sym are.locals) ∙ local in
    let there' : slice_get (are.one ∷ are.two ∷ []) part.0 ≡ Some p = ap (λ (xs : List Counter). slice_get xs part.0) (sym are.parts) ∙ there in
    let kept = kept_of m are.one are.two are.left are.right are.first are.second t l part p (one_of_two are.left are.right l t local') (goes l part want) there' in
    let Q : World Counter Worker → Type 0 = λ v. CountersAre m (with_pair v part.0 t (counter_after p l)) in
    let e : world_of (are.one ∷ are.two ∷ []) (are.left ∷ are.right ∷ []) ≡ w = ap (λ ps. world_of ps (are.left ∷ are.right ∷ [])) (sym are.parts) ∙ ap (λ ls. world_of w.parts ls) (sym are.locals) in
    subst Q e kept

pub counters_sound : (m : Counters) → IsSound (counters_rules m) CounterFits
counters_sound m = sound_by (counters_rules m) CounterFits (CountersAre m) (counters_first m) (counters_kept m) (counters_ready m)

-- The laws of its two calls, one a worker.
pub counters_run : (m : Counters) (order : List ℕ) → CountersAre m (run (counters_rules m) order)
counters_run m order = run_keeps (counters_rules m) (CountersAre m) (counters_kept m) (counters_first m) order

pub counters_threads : (m : Counters) → AreThreads (counters_rules m) (0 ∷ 1 ∷ [])
counters_threads m zero below = omega arith
counters_threads m (suc zero) below = omega arith
counters_threads m (suc (suc i)) below = absurd (omega arith)

done_after : (first second : ℕ) (a b : Bool) → (first == 0) ≡ a → (second == 0) ≡ b → flag (a && b) ≤ counter_done (if a then record { first = first; second = second - 1 } else record { first = first - 1; second = second })
done_after first second true true is also = let e : (second - 1 == 0) ≡ true = grind (arith, nat_tests) in rw (is, e) (omega arith)
done_after first second true false is also = omega arith
done_after first second false b is also = omega arith

pub counters_rise : (m : Counters) → Rises (counters_rules m)
counters_rise m = rises_by (counters_rules m) (λ p l. done_after l.first l.second (l.first == 0) (l.second == 0) refl refl)

-- a worker that hasn't ended moves, and one that has wants nothing
moves_by : (m : Counters) (one two : Counter) (locals : List Worker) (t : ℕ) (l : Worker) → slice_get locals t ≡ Some l → (a b : Bool) → (l.first == 0) ≡ a → (l.second == 0) ≡ b → flag (a && b) ≡ 0 → stepped (counters_rules m) (world_of (one ∷ two ∷ []) locals) t ≡ step.Moved
moves_by m one two locals t l local true true first second none = absurd (omega arith)
moves_by m one two locals t l local true false first second none = rw (local, first, second) refl
moves_by m one two locals t l local false b first second none = rw (local, first) refl

wants_none : (l : Worker) (a b : Bool) → (l.first == 0) ≡ a → (l.second == 0) ≡ b → 0 < flag (a && b) → counter_want l ≡ None
wants_none l true true first second some = rw (first, second) refl
wants_none l true false first second some = absurd (omega arith)
wants_none l false b first second some = absurd (omega arith)

same_some : (a b : ℕ) → Some a ≡ Some b → b ≡ a
same_some a b is = (cc)

-- the next turn, by whether either worker's call has ended
next_by : (d0 d1 t : ℕ) (a b : Bool) → nat_lt 0 d0 ≡ a → nat_lt 0 d1 ≡ b → cond a (cond b None (Some 1)) (Some 0) ≡ Some t → ((t ≡ 0) × (d0 ≡ 0)) ⊎ ((t ≡ 1) × (d1 ≡ 0))
next_by d0 d1 t true true first second is = absurd (cc)
next_by d0 d1 t true false first second is = let h = ltb-false 0 d1 second in inr (same_some 1 t is, omega arith)
next_by d0 d1 t false b first second is = let h = ltb-false 0 d0 first in inl (same_some 0 t is, omega arith)

none_by : (d0 d1 : ℕ) (a b : Bool) → nat_lt 0 d0 ≡ a → nat_lt 0 d1 ≡ b → cond {A = Option ℕ} a (cond b None (Some 1)) (Some 0) ≡ None → (0 < d0) × (0 < d1)
none_by d0 d1 true true first second is = (ltb-true 0 d0 first, ltb-true 0 d1 second)
none_by d0 d1 true false first second is = absurd (cc)
none_by d0 d1 false b first second is = absurd (cc)

goes_in : (m : Counters) (w : World Counter Worker) (t : ℕ) → CountersAre m w → next_turn (done_in (counters_rules m) w) [] (0 ∷ 1 ∷ []) ≡ Some t → stepped (counters_rules m) w t ≡ step.Moved
goes_in m w t are next =
    let v : World Counter Worker = world_of (are.one ∷ are.two ∷ []) (are.left ∷ are.right ∷ []) in
    let e : w ≡ v = ap (λ ps. world_of ps w.locals) are.parts ∙ ap (λ ls. world_of (are.one ∷ are.two ∷ []) ls) are.locals in
    let Q : World Counter Worker → Type 0 = λ u. next_turn (done_in (counters_rules m) u) [] (0 ∷ 1 ∷ []) ≡ Some t → stepped (counters_rules m) u t ≡ step.Moved in
    let here : Q v = λ is. elim (next_by (counter_done are.left) (counter_done are.right) t (nat_lt 0 (counter_done are.left)) (nat_lt 0 (counter_done are.right)) refl refl is) [
      | inl first ↦ subst (λ k. stepped (counters_rules m) v k ≡ step.Moved) (sym first.0) (moves_by m are.one are.two (are.left ∷ are.right ∷ []) 0 are.left refl (are.left.first == 0) (are.left.second == 0) refl refl first.1)
      | inr second ↦ subst (λ k. stepped (counters_rules m) v k ≡ step.Moved) (sym second.0) (moves_by m are.one are.two (are.left ∷ are.right ∷ []) 1 are.right refl (are.right.first == 0) (are.right.second == 0) refl refl second.1)
    ] in
    subst Q (sym e) here next

pub counters_never_wait : (m : Counters) → NeverWaits (counters_rules m) (0 ∷ 1 ∷ [])
counters_never_wait m order t of next = goes_in m (run (counters_rules m) order) t (counters_run m order) next

both_end : (m : Counters) (w : World Counter Worker) → CountersAre m w → next_turn (done_in (counters_rules m) w) [] (0 ∷ 1 ∷ []) ≡ None → HaveEnded (counters_rules m) w
both_end m w are next =
    let v : World Counter Worker = world_of (are.one ∷ are.two ∷ []) (are.left ∷ are.right ∷ []) in
    let e : w ≡ v = ap (λ ps. world_of ps w.locals) are.parts ∙ ap (λ ls. world_of (are.one ∷ are.two ∷ []) ls) are.locals in
    let Q : World Counter Worker → Type 0 = λ u. next_turn (done_in (counters_rules m) u) [] (0 ∷ 1 ∷ []) ≡ None → HaveEnded (counters_rules m) u in
    let here : Q v = λ is.
    let d = none_by (counter_done are.left) (counter_done are.right) (nat_lt 0 (counter_done are.left)) (nat_lt 0 (counter_done are.right)) refl refl is in
    All-cons (λ l. counter_want l ≡ None) are.left (are.right ∷ []) (wants_none are.left (are.left.first == 0) (are.left.second == 0) refl refl d.0)
    (All-cons (λ l. counter_want l ≡ None) are.right [] (wants_none are.right (are.right.first == 0) (are.right.second == 0) refl refl d.1) (All-nil (λ l. counter_want l ≡ None)))
    in
    subst Q (sym e) here next

pub counters_end : (m : Counters) → Ends (counters_rules m) (0 ∷ 1 ∷ [])
counters_end m order of next = both_end m (run (counters_rules m) order) (counters_run m order) next
