-- The verdict is Yes exactly on the legal journals.
use Rattle.std.proofs.Common.{◌≡◌, ℕ, suc, ◌+◌, ◌<◌, ◌≤◌, Bool, false, nat_lt, cond, List, [], ◌∷◌, ◌++◌, length, map, filter, take, Option, Some, Result, Ok, Err, refl}
use Rattle.std.proofs.Common.{sym, ap, ◌∙◌, subst, inl, inr, arith, append_assoc, append-nil, length-append}
use Rattle.std.specs.Prelude.{slice_get, IfOk}
use Rattle.std.specs.List.{AllZip}
use Rattle.std.proofs.lemmas.Bool.{cases_Bool, cases_lt, ltb-false, eqb-true, eqb-false, cond-false}
use Rattle.std.specs.Option.{option_map_or}
use Rattle.std.proofs.lemmas.List.{length-map, take_more, take_all}
use Rattle.std.proofs.lemmas.List.Elements.{filter-append}
use Rattle.std.proofs.lemmas.Option.{slice_get-map, slice_get_within, slice_get_past, get_or_from_slice_get}
use Rattle.std.proofs.lemmas.Bool.Decides.{nat_tests}
use Rattle.tc_units.specs.Classes.{length_of}
use Rattle.tc_model.specs.declared.calls.Call.{Call}
use Rattle.tc_model.specs.declared.calls.Planned.{Planned}
use Rattle.tc_model.specs.declared.calls.Script.{Script}
use Rattle.tc_model.specs.declared.answers.CallLine.{CallLine}
use Rattle.tc_model.specs.Blocks.{IsAllowed, IsBlockRun}
use Rattle.journal_audit.specs.declared.told.Told.{Told}
use Rattle.journal_audit.specs.declared.verdict.AuditWhy.{AuditWhy}
use Rattle.journal_audit.specs.declared.verdict.Verdict.{Verdict}
use Rattle.journal_audit.specs.declared.verdict.Verdict.TheVariants.{Yes}
use Rattle.journal_audit.specs.Forms.{names}
use Rattle.journal_audit.specs.Rules.{Plan, script_at, is_by, count_of, next_call, line_of, judged, and_then, has_left, audited}
use Rattle.journal_audit.specs.Legal.{Tells, calls_of, calls_planned, IsYesOnLegal}
use Rattle.journal_audit.proofs.Passing.{Passes, passes, judged_ok}
use Rattle.journal_audit.proofs.Threads.{count_mine, count_other, none_below, none_in}
use Rattle.journal_audit.proofs.Sound.{IsSound, sound_none, sound_push, allowed_keeps}

-- The calls of a thread.
calls_append : (t : ℕ) (xs ys : List CallLine) → calls_of t (xs ++ ys) ≡ calls_of t xs ++ calls_of t ys
calls_append t xs ys = ap (map (λ (c : CallLine). c.call)) (filter-append (is_by t) xs ys) ∙ map_append (filter (is_by t) xs) (filter (is_by t) ys)
  where
    map_append : (as' bs : List CallLine) → map (λ (c : CallLine). c.call) (as' ++ bs) ≡ map (λ (c : CallLine). c.call) as' ++ map (λ (c : CallLine). c.call) bs
    map_append [] bs = refl
    map_append (a ∷ as') bs = ap (λ cs. a.call ∷ cs) (map_append as' bs)

count_is : (t : ℕ) (calls : List CallLine) → length (calls_of t calls) ≡ count_of t calls
count_is t calls = length-map (filter (is_by t) calls) (λ (c : CallLine). c.call)

-- a thread's calls so far are the first ones of its script
abbrev IsBegun : Plan → List CallLine → Type 0
IsBegun plan calls = (t : ℕ) → calls_of t calls ≡ take (count_of t calls) (calls_planned plan t)

planned_at : (plan : Plan) (calls : List CallLine) (t : ℕ) (call : Call) → next_call plan.scripts calls t ≡ Some call
    → slice_get (calls_planned plan t) (count_of t calls) ≡ Some call
planned_at plan calls t call next = slice_get-map (λ (p : Planned). p.call) (script_at plan.scripts t) (count_of t calls) ∙ next

begun_push : (plan : Plan) (calls : List CallLine) (c : CallLine) → IsBegun plan calls → next_call plan.scripts calls c.thread.0 ≡ Some c.call
    → IsBegun plan (calls ++ c ∷ [])
begun_push plan calls c begun next t =
    let n : ℕ = count_of t calls in
    let more : calls_of t (calls ++ c ∷ []) ≡ calls_of t calls ++ calls_of t (c ∷ []) = calls_append t calls (c ∷ []) in
    elim (cases_Bool (is_by t c)) [
      | inl mine ↦
          let t_is : c.thread.0 ≡ t = eqb-true c.thread.0 t mine in
          let there : slice_get (calls_planned plan t) n ≡ Some c.call =
          planned_at plan calls t c.call (subst (λ (u : ℕ). next_call plan.scripts calls u ≡ Some c.call) t_is next) in
          let call : calls_of t (c ∷ []) ≡ c.call ∷ [] = ap (λ b. map (λ (d : CallLine). d.call) (cond b (c ∷ []) [])) mine in
          let n' : count_of t (calls ++ c ∷ []) ≡ n + 1 = count_mine t calls c t_is in
          let at = ap (λ (x : Call). take n (calls_planned plan t) ++ x ∷ []) (get_or_from_slice_get (calls_planned plan t) n c.call c.call there) in
          let long = take_more (calls_planned plan t) n c.call (slice_get_within _ n c.call there) ∙ at in
          more ∙ ap (λ xs. calls_of t calls ++ xs) call ∙ ap (λ xs. xs ++ c.call ∷ []) (begun t) ∙ sym long ∙ ap (λ k. take k (calls_planned plan t)) (sym n')
      | inr other ↦ grind (arith, nat_tests, count_other t calls c (eqb-false c.thread.0 t other), append-nil (calls_of t calls), begun t)
    ]

-- no script has a call left exactly where each thread's calls are its script's
ended : (plan : Plan) (calls : List CallLine) → IsBegun plan calls → has_left plan.scripts calls ≡ false → (t : ℕ) → calls_of t calls ≡ calls_planned plan t
ended plan calls begun none t =
    let long : length (calls_planned plan t) ≡ length (script_at plan.scripts t) = length-map (script_at plan.scripts t) (λ (p : Planned). p.call) in
    let left : ℕ → Bool = λ u. nat_lt (count_of u calls) (length (script_at plan.scripts u)) in
    let all : length (script_at plan.scripts t) ≤ count_of t calls =
    elim (cases_lt t (length plan.scripts)) [
      | inl there ↦ ltb-false (count_of t calls) _ (none_below left 0 (length plan.scripts) t none (omega arith) (omega (arith, there)))
      | inr past ↦ (let e : length (script_at plan.scripts t) ≡ 0 = ap (λ o. length (option_map_or (λ (s : Script). s.calls) o [])) (slice_get_past plan.scripts t past) in omega (arith, e))
    ] in
    begun t ∙ take_all (count_of t calls) (calls_planned plan t) (omega (arith, long, all))

none_left : (plan : Plan) (calls : List CallLine) → ((t : ℕ) → calls_of t calls ≡ calls_planned plan t) → has_left plan.scripts calls ≡ false
none_left plan calls order = grind (arith, nat_tests, none_in, count_is, length-map)

-- What the lines that are left tell, where the verdict is Yes.
record Rest (plan : Plan) (earlier : List CallLine) (forms : List (Option Told)) (n : ℕ) : Type 0 where
  calls : List CallLine
  told : AllZip Tells forms calls
  order : (t : ℕ) → calls_of t (earlier ++ calls) ≡ calls_planned plan t
  run : IsBlockRun plan.huge (length_of plan.rows) (earlier ++ calls)
  count : length earlier + length forms ≡ n
  few : n ≤ 1000000

tells : (plan : Plan) (earlier : List CallLine) (form : Option Told) (c : CallLine) → Passes plan earlier form c → Tells form c
tells plan earlier form c p =
    record {
      told = p.told;
      form_is = p.form_is;
      thread = ap (λ (d : CallLine). d.thread.0) p.line;
      call = ap (λ (d : CallLine). names p.told.act d.call) p.line ∙ p.names_it;
      answer = ap (λ (d : CallLine). d.answer) p.line;
    }

sound_after : (plan : Plan) (earlier : List CallLine) (form : Option Told) (c : CallLine) → IsSound plan.huge (length_of plan.rows) earlier
    → Passes plan earlier form c → IsSound plan.huge (length_of plan.rows) (earlier ++ c ∷ [])
sound_after plan earlier form c sound p = grind (arith, sound_push plan earlier)

begun_after : (plan : Plan) (earlier : List CallLine) (form : Option Told) (c : CallLine) → IsBegun plan earlier → Passes plan earlier form c
    → IsBegun plan (earlier ++ c ∷ [])
begun_after plan earlier form c begun p = grind (arith, begun_push)

yes_from : (plan : Plan) (forms : List (Option Told)) (earlier : List CallLine) (n : ℕ) → IsSound plan.huge (length_of plan.rows) earlier
    → IsBegun plan earlier → length earlier ≤ 1000000 → audited plan earlier forms ≡ Yes n → Rest plan earlier forms n
yes_from plan [] earlier n sound begun few h = grind (arith, nat_tests, append-nil earlier, ended plan earlier begun)
yes_from plan (form ∷ forms) earlier n sound begun few h = by_line (λ c sound' begun' few'. yes_from plan forms (earlier ++ c ∷ []) n sound' begun' few') (judged plan earlier form) refl h
  where
    by_line : ((c : CallLine) → IsSound plan.huge (length_of plan.rows) (earlier ++ c ∷ []) → IsBegun plan (earlier ++ c ∷ []) → length (earlier ++ c ∷ []) ≤ 1000000
        → audited plan (earlier ++ c ∷ []) forms ≡ Yes n → Rest plan (earlier ++ c ∷ []) forms n) → (r : Result CallLine AuditWhy) → judged plan earlier form ≡ r
        → and_then (length earlier + 1) r (λ c. audited plan (earlier ++ c ∷ []) forms) ≡ Yes n → Rest plan earlier (form ∷ forms) n
    by_line more (Err reason) is h = absurd (cc)
    by_line more (Ok c) is h =
        let p = passes plan earlier form c is in
        let long : length (earlier ++ c ∷ []) ≡ length earlier + 1 = length-append earlier (c ∷ []) in
        let rest = more c (sound_after plan earlier form c sound p) (begun_after plan earlier form c begun p) (omega (arith, long, p.few)) h in
        let same : (earlier ++ c ∷ []) ++ rest.calls ≡ earlier ++ c ∷ rest.calls = append_assoc earlier (c ∷ []) rest.calls in
        record {
          calls = c ∷ rest.calls;
          told = (tells plan earlier form c p, rest.told);
          order = λ t. ap (calls_of t) (sym same) ∙ rest.order t;
          run = subst (IsBlockRun plan.huge (length_of plan.rows)) same rest.run;
          count = omega (arith, rest.count, long);
          few = rest.few;
        }

-- What is legal is judged Yes.
at_length : {X : Type 0} (xs ys : List X) (y : X) → slice_get (xs ++ y ∷ ys) (length xs) ≡ Some y
at_length [] ys y = refl
at_length (x ∷ xs) ys y = at_length xs ys y

line_is : (form : Option Told) (c : CallLine) (t : Tells form c) → c ≡ line_of t.told c.call
line_is form c t = grind (arith)

passes_legal : (plan : Plan) (earlier later : List CallLine) (form : Option Told) (c : CallLine) → Tells form c
    → calls_of c.thread.0 (earlier ++ c ∷ later) ≡ calls_planned plan c.thread.0 → IsAllowed plan.huge (length_of plan.rows) earlier c.call c.answer
    → length earlier < 1000000 → Passes plan earlier form c
passes_legal plan earlier later form c t order allowed few = grind (
  arith,
  nat_tests,
  calls_append,
  count_is,
  at_length,
  slice_get-map (λ (p : Planned). p.call),
  allowed_keeps plan earlier t.told.act c.call t.call (subst (IsAllowed plan.huge (length_of plan.rows) earlier c.call) t.answer allowed),
  line_is form c t,
)

legal_from : (plan : Plan) (forms : List (Option Told)) (earlier calls : List CallLine) → AllZip Tells forms calls
    → ((t : ℕ) → calls_of t (earlier ++ calls) ≡ calls_planned plan t) → IsBlockRun plan.huge (length_of plan.rows) (earlier ++ calls)
    → length (earlier ++ calls) ≤ 1000000 → audited plan earlier forms ≡ Yes (length (earlier ++ calls))
legal_from plan [] earlier [] told order run few = grind (arith, append-nil, calls_of, cond-false, length, none_left)
legal_from plan [] earlier (c ∷ calls) told order run few = absurd told
legal_from plan (form ∷ forms) earlier [] told order run few = absurd told
legal_from plan (form ∷ forms) earlier (c ∷ calls) told order run few =
    let same : (earlier ++ c ∷ []) ++ calls ≡ earlier ++ c ∷ calls = append_assoc earlier (c ∷ []) calls in
    let long : length (earlier ++ c ∷ calls) ≡ length earlier + length (c ∷ calls) = length-append earlier (c ∷ calls) in
    let p = passes_legal plan earlier calls form c told.0 (order c.thread.0) (run earlier c calls refl) (omega (arith, few, long)) in
    grind (arith, legal_from plan forms (earlier ++ c ∷ []) calls told.1 (λ t. ap (calls_of t) same ∙ order t), order, judged_ok plan earlier form c p)

yes_is_legal : (plan : Plan) (journal : List (Option Told)) → IsYesOnLegal plan journal (audited plan [] journal)
yes_is_legal plan journal n = (
  λ h.
      let rest = yes_from plan journal [] n (sound_none plan.huge (length_of plan.rows)) (λ t. refl) (omega arith) h in
      (record { calls = rest.calls; told = rest.told; order = rest.order; run = rest.run }, omega (arith, rest.count), rest.few),
  λ h.
      let long = same_length journal h.0.calls h.0.told in
      legal_from plan journal [] h.0.calls h.0.told h.0.order h.0.run (omega (arith, long, h.1, h.2)) ∙ ap (λ k. Yes k) (sym long ∙ h.1),
)
  where
    same_length : (forms : List (Option Told)) (calls : List CallLine) → AllZip Tells forms calls → length forms ≡ length calls
    same_length [] [] told = refl
    same_length [] (c ∷ calls) told = absurd told
    same_length (form ∷ forms) [] told = absurd told
    same_length (form ∷ forms) (c ∷ calls) told = ap (λ k. suc k) (same_length forms calls told.1)

-- so it is of an answer that is the verdict
pub yes_on_legal : {E : Type 0} (plan : Plan) (journal : List (Option Told)) (r : Result Verdict E)
    → IfOk r (λ verdict. verdict ≡ audited plan [] journal) → IfOk r (IsYesOnLegal plan journal)
yes_on_legal plan journal (Ok verdict) is = subst (IsYesOnLegal plan journal) (sym is) (yes_is_legal plan journal)
yes_on_legal plan journal (Err e) is = tt
