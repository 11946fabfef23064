-- The thread of the earliest call that hasn't ended never waits.
use Rattle.std.proofs.Common.{◌≡◌, ℕ, ◌+◌, ◌<◌, ◌≤◌, Bool, true, false, eqb, ltb, cond, List, [], ◌∷◌, ◌++◌, length, get_or, map, Option, Some}
use Rattle.std.proofs.Common.{None, refl, sym, ap, ◌∙◌, subst, arith, inl, inr, option_map, slice_get}
use Rattle.alloc_rules.proofs.Common.{option_map_or, cases_lt, cases_eq, eq-eqb, ltb-true, ltb-false, eqb-true, slice_get-get_or, append_snoc, Label, PartNo, Call, Free}
use Rattle.alloc_rules.proofs.Common.{Planned, Asked, ThreadCall, script_of, Rules, World, world_of, FitsThere, IsReady, stepped, done_in, picks_of}
use Rattle.alloc_rules.proofs.Common.{next_turn, picks-cons, picks-push_same, picks-push_other, NameState, state_of, got, is_out, bit_is, undecided, About}
use Rattle.alloc_rules.proofs.Common.{call_at, target_at, waits_for, Regs, Step, Local, Part, Names, number, number_of, Parts, parts_of, waits, first_of, rules}
use Rattle.alloc_rules.proofs.Common.{turns, got_in, IsInOrder, IsValid, Standing, FrontRules, Fits, IsIn, is_under_way}
use Rattle.tc_model.specs.declared.steps.Stepped.TheVariants as step
use Rattle.call_steps.specs.declared.step.Step.TheVariants as does
use Rattle.alloc_rules.proofs.{Inputs.got_push, Numbers.get_names, Serving.ArePlaced, Serving.IsAtWork}

-- a script, call by call
pub script-cons : (t : ℕ) (c : ThreadCall) (cs : List ThreadCall) → script_of t (c ∷ cs) ≡ cond (eqb c.thread.0 t) (c.planned ∷ script_of t cs) (script_of t cs)
script-cons t c cs = grind arith

abbrev pub turns_of : List ThreadCall → List ℕ
turns_of calls = map (λ (c : ThreadCall). c.thread.0) calls

script_step : (t : ℕ) (b : ThreadCall) (rest : List ThreadCall) (n : ℕ) (call : Planned) (k : Bool) → slice_get (script_of t rest) n ≡ Some call
    → slice_get (cond k (b.planned ∷ script_of t rest) (script_of t rest)) (cond k 1 0 + n) ≡ Some call
script_step t b rest n call k at = grind arith

script_at : (before : List ThreadCall) (c : ThreadCall) (after : List ThreadCall)
    → slice_get (script_of c.thread.0 (before ++ c ∷ after)) (picks_of c.thread.0 (turns_of before)) ≡ Some c.planned
script_at [] c after = grind (arith, eq-eqb, script-cons)
script_at (b ∷ bs) c after = search (arith, script_at bs c after, picks-cons, script-cons, script_step)

pub script_length : (t : ℕ) (calls : List ThreadCall) → length (script_of t calls) ≡ picks_of t (turns_of calls)
script_length t [] = refl
script_length t (c ∷ cs) = grind (arith, script_length t cs, script-cons t c cs, picks-cons t c.thread.0 (turns_of cs))

turns-push : (before : List ThreadCall) (c : ThreadCall) → turns_of (before ++ c ∷ []) ≡ turns_of before ++ c.thread.0 ∷ []
turns-push [] c = refl
turns-push (b ∷ bs) c = ap (λ r. b.thread.0 ∷ r) (turns-push bs c)

-- a pick moves where the part that is wanted is there, and isn't waited for
moves_there : {P L : Type 0} (r : Rules P L) (w : World P L) (t : ℕ) (l : L) (n : PartNo) (part : P) → slice_get w.locals t ≡ Some l → r.want l ≡ Some n
    → slice_get w.parts n.0 ≡ Some part → r.waits part l ≡ false → stepped r w t ≡ step.Moved
moves_there r w t l n part local wants there goes = rw (local, wants, there, goes) refl

-- a call under way wants a part
pub wants_by : {V R : Type 0} (place : V → Regs → R → ℕ) (split classes : ℕ) (l : Local V R) (s : Step R) → is_under_way s ≡ true
    → (n : PartNo) × (option_map (number_of split classes) (target_at place l s) ≡ Some n)
wants_by place split classes l does.Ended way = absurd (cc)
wants_by place split classes l s way = (_, refl)

-- only names are waited for
waits_at : {P V R : Type 0} (l : Local V R) (part : Part P) → ((ns : List NameState) → part ≡ Names ns → waits_for ns l.step ≡ false) → waits part l ≡ false
waits_at l part goes = grind arith

-- what a call frees is out
abbrev FreesOut : List NameState → Call → Type 0
FreesOut names c = (label : Label) → c ≡ Free label → is_out (state_of names label.0) ≡ true

module _ {P : Type 0} (split : ℕ) (p : Parts P) (few : split ≤ length p.fronts) (classes : ℕ) (many : length p.shards ≡ classes) (n : PartNo) (ns : List NameState)
    (there : slice_get (parts_of split p) n.0 ≡ Some (Names ns)) where
  -- the names that a step on names finds are those of the parts
  names_there : Some (number (split + classes + 2)) ≡ Some n → p.names ≡ ns
  names_there is = grind (arith, get_names)

  -- a step of a call whose label is out doesn't wait
  goes_by : {V R : Type 0} (about : R → About) (place : V → Regs → R → ℕ) (l : Local V R) (s : Step R) (c : Call) (o : Option Call)
      → option_map (number_of split classes) (target_at place l s) ≡ Some n → ((d : Call) → undecided about s ≡ Some d → o ≡ Some d) → o ≡ Some c → FreesOut p.names c → waits_for ns s ≡ false
  goes_by about place l s c o wants call is out = grind (arith, names_there)

-- a step is of a call, or its script has ended
way_by : {R : Type 0} (s : Step R) (o : Option Call) (c : Call) → o ≡ Some c → (is_under_way s ≡ false → o ≡ None) → is_under_way s ≡ true
way_by s o c is ended = grind arith

-- a free keeps the rules behind the calls before it: its label was allocated
free_after : (earlier : List ThreadCall) (call : Call) (label : Label) → IsInOrder earlier call → call ≡ Free label → 0 < got_in label.0 earlier
free_after earlier call label order is = (subst (IsInOrder earlier) is order).0

module _ {P V R : Type 0} (r : FrontRules P V R) (about : R → About) (planned : Planned → Type 0) (Holds : ℕ → List P → List (Standing V R) → Type 0)
    (fits : P → V → Regs → R → Type 0) (asked : Asked) (valid : IsValid r.calls.rows planned asked) (p : Parts P) (locals : List (Local V R)) (order : List ℕ)
    (placed : ArePlaced r asked p) (split_few : r.split ≤ length p.fronts)
    (count : length locals ≡ asked.config.threads) (works : (t : ℕ) (l : Local V R) → slice_get locals t ≡ Some l → IsAtWork r about planned Holds asked p.names order t l) where
  abbrev w : World (Part P) (Local V R)
  w = world_of (parts_of r.split p) locals

  abbrev done : ℕ → ℕ
  done u = done_in (rules r about asked) w u

  -- how many calls of its thread come before a call, those have ended, and the labels that they allocated are out
  abbrev due : List ThreadCall → ThreadCall → ℕ
  due before c = picks_of c.thread.0 (turns_of before)

  abbrev AreEnded : List ThreadCall → Type 0
  AreEnded before = (u : ℕ) → picks_of u (turns_of before) ≤ done u

  abbrev AreOut : List ThreadCall → Type 0
  AreOut before = (x : ℕ) → 0 < got_in x before → is_out (state_of p.names x) ≡ true

  abbrev Moves : ℕ → Type 0
  Moves t = stepped (rules r about asked) w t ≡ step.Moved

  -- a thread of the trace has a local and a script
  record Finds (before : List ThreadCall) (c : ThreadCall) : Type 0 where
    local : Local V R
    there : slice_get locals c.thread.0 ≡ Some local
    in_script : IsIn r.calls about p.names (script_of c.thread.0 asked.calls) local
    at : call_at (script_of c.thread.0 asked.calls) (picks_of c.thread.0 (turns_of before)) ≡ Some c.planned.call
    ended : done c.thread.0 ≡ local.ended

  finds : (before : List ThreadCall) (c : ThreadCall) (after : List ThreadCall) → asked.calls ≡ before ++ c ∷ after → Finds before c
  finds before c after is =
      let t : ℕ = c.thread.0 in
      let below : t < asked.config.threads = (valid.calls before c after (sym is)).thread in
      let nobody : Local V R = first_of r about asked 0 in
      let l : Local V R = get_or locals t nobody in
      let there : slice_get locals t ≡ Some l = slice_get-get_or locals t nobody (omega (arith, below, count)) in
      record {
        local = l;
        there = there;
        in_script = (works t l there).inside;
        at = ap (λ cs. call_at (script_of t cs) (picks_of t (turns_of before))) is ∙ ap (option_map (λ (q : Planned). q.call)) (script_at before c after);
        ended = ap (λ o. option_map_or (rules r about asked).done o 0) there;
      }

  module _ (ready : (t : ℕ) → IsReady (rules r about asked) (Fits r.calls.rows fits) w t) where
    -- the act of a local whose call is that of the trace
    goes : (t : ℕ) (l : Local V R) (c : Call) → slice_get locals t ≡ Some l → IsIn r.calls about p.names (script_of t asked.calls) l → call_at (script_of t asked.calls) l.ended ≡ Some c
        → FreesOut p.names c → Moves t
    goes t l c local inside at out =
        let classes : ℕ = length r.calls.rows in
        let way : is_under_way l.step ≡ true = way_by l.step (call_at (script_of t asked.calls) l.ended) c at inside.none in
        let wants = wants_by r.place r.split classes l l.step way in
        let h : FitsThere (Fits r.calls.rows fits) w wants.0.0 l = ready t l wants.0 local wants.1 in
        moves_there (rules r about asked) w t l wants.0 h.part local wants.1 h.there
        (waits_at l h.part (λ ns is. goes_by r.split p split_few classes placed.ok.classes wants.0 ns (h.there ∙ ap (λ x. Some x) is) about r.place l l.step c _ wants.1 inside.call at out))

    -- the call that comes next goes
    here : (before : List ThreadCall) (c : ThreadCall) (after : List ThreadCall) → asked.calls ≡ before ++ c ∷ after → AreEnded before → AreOut before
        → done c.thread.0 ≤ due before c → Moves c.thread.0
    here before c after is ended out late = grind (arith, call_at, finds, free_after, goes, picks_of, script_of)

    -- the labels that an ended call allocated are out
    out_more : (before : List ThreadCall) (c : ThreadCall) (after : List ThreadCall) → asked.calls ≡ before ++ c ∷ after → due before c < done c.thread.0
        → (x : ℕ) → (call : Call) → c.planned.call ≡ call → 0 < got x call → is_out (state_of p.names x) ≡ true
    out_more before c after is early x call call' some = grind (arith, bit_is, eqb-true, finds)

    walk : (before cs : List ThreadCall) → asked.calls ≡ before ++ cs → AreEnded before → AreOut before → (t : ℕ) → next_turn done (turns_of before) (turns_of cs) ≡ Some t → Moves t
    walk before [] is ended out t next = absurd (cc)
    walk before (c ∷ cs) is ended out t next =
        let later : Option ℕ = next_turn done (turns_of before ++ c.thread.0 ∷ []) (turns_of cs) in
        let P : Bool → Type 0 = λ k. ltb (due before c) (done c.thread.0) ≡ k → cond k later (Some c.thread.0) ≡ Some t → Moves t in
        let both : (k : Bool) → P k =
        λ k. elim k as P [
          | true ↦ λ test go.
              let early : due before c < done c.thread.0 = ltb-true (due before c) (done c.thread.0) test in
              walk (before ++ c ∷ []) cs (is ∙ sym (append_snoc before c cs))
              (λ u. subst (λ us. picks_of u us ≤ done u) (sym (turns-push before c))
              (elim (cases_eq c.thread.0 u) [
                | inl same ↦ subst (λ v. picks_of v (turns_of before ++ c.thread.0 ∷ []) ≤ done v) same (omega (arith, picks-push_same c.thread.0 (turns_of before), early))
                | inr apart ↦ omega (arith, picks-push_other u c.thread.0 (turns_of before) apart, ended u)
              ]))
              (λ x some. elim (cases_lt 0 (got_in x before)) [
                | inl old ↦ out x old
                | inr none ↦ out_more before c cs is early x c.planned.call refl (omega (arith, some, none, got_push x before c))
              ])
              t (ap (λ us. next_turn done us (turns_of cs)) (turns-push before c) ∙ go)
          | false ↦ λ test go.
              let e : c.thread.0 ≡ t = cc in
              subst Moves e (here before c cs is ended out (ltb-false (due before c) (done c.thread.0) test))
        ]
        in
        both (ltb (due before c) (done c.thread.0)) refl next

    -- In every such world the thread of the earliest call that hasn't ended moves.
    pub serial_goes : (t : ℕ) → next_turn done [] (turns asked) ≡ Some t → stepped (rules r about asked) w t ≡ step.Moved
    serial_goes t next = walk [] asked.calls refl (λ u. omega arith) (λ x some. absurd (omega arith)) t next
