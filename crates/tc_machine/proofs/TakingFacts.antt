-- A trace of which no line is refused has calls alone that are taken.
use Rattle.std.proofs.Common.{◌≡◌, ℕ, ◌+◌, ◌<◌, take, true, eqb, cond, List, [], ◌∷◌, ◌++◌, drop, length, Option, None, refl, ap, ◌∙◌, arith}
use Rattle.std.specs.Prelude.{Bool, All, fold}
use Rattle.std.specs.List.{slice_index_or}
use Rattle.std.proofs.lemmas.List.Elements.{All-nil, All-cons, All-head, All-tail}
use Rattle.std.proofs.lemmas.List.Sums.{sum_by-cons, fold-append}
use Rattle.std.proofs.lemmas.List.{get_or_past, take_more}
use Rattle.std.proofs.lemmas.Bool.Decides.{nat_tests}
use Rattle.tc_units.specs.declared.units.ThreadNo.{ThreadNo}
use Rattle.tc_model.specs.declared.calls.Call.{Call}
use Rattle.tc_model.specs.declared.calls.Planned.{Planned}
use Rattle.tc_model.specs.declared.calls.Script.{Script}
use Rattle.tc_model.specs.Input.{ThreadCall}
use Rattle.trace_reader.specs.declared.trace.Trace.{Trace}
use Rattle.alloc_rules.specs.Inputs.{AreTaken, not_taken}
use Rattle.tc_machine.specs.Inputs.{script_at, next_call, calls_by, asked_of}
use Rattle.tc_machine.specs.Taken.{lesser, refused_at, refused_in, refused_line}

-- a fold over the first ones and one more, and over all
pub fold_more : {A X : Type 0} (f : A → X → A) (a : A) (xs : List X) (i : ℕ) (x : X) → i < length xs → fold f a (take (i + 1) xs) ≡ f (fold f a (take i xs)) (slice_index_or xs i x)
fold_more f a xs i x within = ap (fold f a) (take_more xs i x within) ∙ fold-append f a (take i xs) (slice_index_or xs i x ∷ [])

module _ (takes : Call → Bool) where
  abbrev weight : ThreadCall → ℕ
  weight c = cond (takes c.planned.call) 0 1

  -- the next call of a thread, before others
  first_taken : (t : ThreadNo) (ps : List Planned) (rest : List ThreadCall) → AreTaken takes ps → not_taken takes rest ≡ 0 → not_taken takes (next_call t ps ++ rest) ≡ 0
  first_taken t ps rest taken none = grind (arith, sum_by-cons, All-head)

  fewer : (ps : List Planned) → AreTaken takes ps → AreTaken takes (drop 1 ps)
  fewer [] taken = taken
  fewer (p ∷ ps) taken = All-tail (λ (q : Planned). takes q.call ≡ true) p ps taken

  left_taken : (left : ℕ → List Planned) (t u : ℕ) → ((v : ℕ) → AreTaken takes (left v)) → AreTaken takes (cond (eqb u t) (drop 1 (left u)) (left u))
  left_taken left t u taken = grind (arith, fewer)

  none_by : (turns : List ThreadNo) (left : ℕ → List Planned) → ((u : ℕ) → AreTaken takes (left u)) → not_taken takes (calls_by turns left) ≡ 0
  none_by [] left taken = refl
  none_by (t ∷ turns) left taken = grind (arith, none_by turns, first_taken, left_taken)

  script_taken : (scripts : List Script) (u : ℕ) → All (λ (s : Script). AreTaken takes s.calls) scripts → AreTaken takes (script_at scripts u)
  script_taken scripts u all = grind (arith, nat_tests, get_or_past, All-nil)

  -- where no line is found, each call is taken
  none_of_both : (line other : Option ℕ) → lesser line other ≡ None → (line ≡ None) × (other ≡ None)
  none_of_both line other is = grind (arith)

  not_refused : (p : Planned) → refused_at takes p ≡ None → takes p.call ≡ true
  not_refused p is = grind (arith)

  none_in : (script : List Planned) (least : Option ℕ) → fold (λ so (p : Planned). lesser so (refused_at takes p)) least script ≡ None → (least ≡ None) × AreTaken takes script
  none_in [] least is = (is, All-nil (λ (q : Planned). takes q.call ≡ true))
  none_in (p ∷ ps) least is = grind (arith, none_in ps (lesser least (refused_at takes p)) is, none_of_both, All-cons, not_refused)

  none_of : (scripts : List Script) (least : Option ℕ) → fold (λ so (s : Script). lesser so (refused_in takes s.calls)) least scripts ≡ None
      → (least ≡ None) × All (λ (s : Script). AreTaken takes s.calls) scripts
  none_of [] least is = (is, All-nil (λ (s : Script). AreTaken takes s.calls))
  none_of (s ∷ ss) least is =
      let later = none_of ss (lesser least (refused_in takes s.calls)) is in
      let here = none_of_both least (refused_in takes s.calls) later.0 in
      (here.0, All-cons (λ (t : Script). AreTaken takes t.calls) s ss (none_in s.calls None here.1).1 later.1)

  pub all_taken : (trace : Trace) → refused_line takes trace.scripts ≡ None → not_taken takes (asked_of trace).calls ≡ 0
  all_taken trace none = grind (arith, none_of trace.scripts None none, none_by trace.turns (script_at trace.scripts), script_taken trace.scripts)
