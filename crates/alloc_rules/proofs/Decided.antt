-- How the calls of a run over a front-end grow with its order.
use Rattle.std.proofs.Common.{◌≡◌, ◌⊎◌, ℕ, ◌-◌, ◌≤◌, None, List, [], ◌∷◌, ◌++◌, length, map, fold, replicate, Some, inl, inr, refl, ap, sym, subst, ◌∙◌, arith}
use Rattle.std.specs.Prelude.{option_map}
use Rattle.std.specs.List.{range_with_len, slice_get, slice_set}
use Rattle.std.proofs.lemmas.List.{append-nil, length-append}
use Rattle.std.proofs.lemmas.List.Sums.{fold-append}
use Rattle.std.proofs.lemmas.Option.{slice_get-get_or, slice_get_past}
use Rattle.std.proofs.lemmas.Bool.{ne_eqb}
use Rattle.std.proofs.lemmas.Bool.Decides.{nat_tests}
use Rattle.std.proofs.lemmas.List.Elements.{filter-append}
use Rattle.std.proofs.Math.Seq.{get_or-append_seam}
use Rattle.tc_units.specs.Classes.{length_of}
use Rattle.tc_units.specs.declared.spans.ClassRow.{ClassRow}
use Rattle.tc_model.specs.declared.answers.CallLine.{CallLine}
use Rattle.tc_model.specs.declared.steps.Stepped.TheVariants as step
use Rattle.tc_model.specs.Blocks.{IsBlockRun}
use Rattle.tc_model.specs.Calls.{calls_from, decided_by}
use Rattle.tc_model.specs.Input.{Asked, Input}
use Rattle.tc_model.specs.Replays.{HaveEnded}
use Rattle.tc_model.specs.Run.{Rules, World, start, pick, run, with_pair}
use Rattle.tc_model.specs.Sound.{IsOrder}
use Rattle.tc_model.specs.Steps.{stepped, AllMove}
use Rattle.tc_model.proofs.Lists.{set_here}
use Rattle.tc_model.proofs.MovingFacts.{front_moves, move_of, pick_moves}
use Rattle.rseq_core.specs.declared.regs.Regs.{Regs}
use Rattle.call_steps.specs.Calls.{About}
use Rattle.call_steps.specs.Fronts.{FrontRules}
use Rattle.call_steps.specs.Local.{Local, Decided, told}
use Rattle.alloc_rules.specs.declared.part.Part.{Part}
use Rattle.alloc_rules.specs.Decided.{count_of, last_of, DecidesNone, DecidesOne, IsToldNext}
use Rattle.alloc_rules.specs.Inputs.{IsValidInput}
use Rattle.alloc_rules.specs.Law.{calls, HoldsAfter, AreLawful}
use Rattle.alloc_rules.specs.Machine.{after, first_of, rules}
use Rattle.alloc_rules.specs.Standings.{Standing}
use Rattle.alloc_rules.specs.Told.{lines_by, TellsScripts}

-- nothing is told of a thread that isn't there
module _ {V R : Type 0} (locals : List (Local V R)) (t : ℕ) (none : slice_get locals t ≡ None) where
  abbrev decided : ℕ → ℕ → List CallLine
  decided = decided_by (λ (l : Local V R). l.answers) (λ (d : Decided). d.act) told locals

  others : (u : ℕ) → (u ≡ t → ⊥) → (ds : List Decided) → lines_by t (map (told u) ds) ≡ []
  others u apart [] = refl
  others u apart (d ∷ ds) = rw (ne_eqb u t apart) (others u apart ds)

  silent : (u n : ℕ) → lines_by t (decided u n) ≡ []
  silent u n = grind (arith, nat_tests, others)

  no_lines : (earlier order : List ℕ) → lines_by t (calls_from decided earlier order) ≡ []
  no_lines earlier [] = refl
  no_lines earlier (u ∷ us) = grind (arith, no_lines (u ∷ earlier) us, filter-append, silent)

-- the last pick of an order whose picks move does so
last_moves : {P L : Type 0} (r : Rules P L) (w : World P L) (order : List ℕ) (t : ℕ) → AllMove r w (order ++ t ∷ []) → stepped r (fold (pick r) w order) t ≡ step.Moved
last_moves r w [] t moves = moves.0
last_moves r w (u ∷ us) t moves = last_moves r (pick r w u) us t moves.1

none_told : {X L : Type 0} (f : L → ℕ) (g : X → L) → ((x : X) → f (g x) ≡ 0) → (xs : List X) → map f (map g xs) ≡ replicate (length (map g xs)) 0
none_told f g none [] = refl
none_told f g none (x ∷ xs) = rw (none x) (ap (λ ns. 0 ∷ ns) (none_told f g none xs))

last_here : {V R : Type 0} (l : Local V R) (ds : List Decided) (d : Decided) (t : ℕ) → l.answers ≡ ds ++ d ∷ [] → l.regs.thread.0 ≡ t → last_of l ≡ Some (told t d)
last_here l ds d t is thread =
    let place : length l.answers - 1 ≡ length ds = omega (arith, ap length is, length-append ds (d ∷ [])) in
    let at : slice_get (ds ++ d ∷ []) (length ds) ≡ Some d = slice_get-get_or (ds ++ d ∷ []) (length ds) d (omega (arith, length-append ds (d ∷ []))) ∙ ap (λ e. Some e) (get_or-append_seam ds d [] d) in
    ap (option_map (told l.regs.thread.0)) (ap (slice_get l.answers) place ∙ (ap (λ xs. slice_get xs (length ds)) is ∙ at)) ∙ ap (λ u. Some (told u d)) thread

-- what a pick decided by what is new among its thread's answers
decides_by : {V R : Type 0} (lines : List ℕ → List CallLine) (order : List ℕ) (t : ℕ) (l l' : Local V R) (new : List Decided) → length new ≤ 1 → l'.answers ≡ l.answers ++ new
    → lines (order ++ t ∷ []) ≡ lines order ++ map (told t) new → l'.regs.thread.0 ≡ t
    → DecidesNone count_of last_of lines order t l l' ⊎ DecidesOne count_of last_of lines order t l l'
decides_by lines order t l l' [] few is told_is thread = inl (ap length is ∙ ap length (append-nil l.answers), told_is ∙ append-nil (lines order))
decides_by lines order t l l' (d ∷ []) few is told_is thread =
    inr (record { line = told t d; count_is = ap length is ∙ length-append l.answers (d ∷ []); last_is = last_here l' l.answers d t is thread; told = told_is })
decides_by lines order t l l' (d ∷ e ∷ ds) few is told_is thread = absurd (omega (arith, few))

module _ {P V R : Type 0} (r : FrontRules P V R) (about : R → About) (asked : Asked) where
  -- at the start no thread has decided a call
  pub none_first : map count_of (rules r about asked).locals ≡ replicate (length (rules r about asked).locals) 0
  none_first = none_told count_of (first_of r about asked) (λ t. refl) (range_with_len 0 asked.config.threads)

  module _ {fits : P → V → Regs → R → Type 0} {After : List ℕ → Type 0} {Holds : ℕ → List P → List (Standing V R) → Type 0}
      (laws : AreLawful r about asked fits After) (shared : (order : List ℕ) → After order → HoldsAfter r about Holds asked order) where
    holds : (order : List ℕ) → IsOrder (rules r about asked) order → HoldsAfter r about Holds asked order
    holds order of = shared order (laws.holds order of)

    -- the next pick tells at most one call, behind the others
    pub tells_next : (order : List ℕ) (t : ℕ) → IsOrder (rules r about asked) (order ++ t ∷ [])
        → IsToldNext count_of last_of (λ o. calls (run (rules r about asked) o).locals o) (rules r about asked) order t
    tells_next order t of =
        let m = rules r about asked in
        let before : IsOrder m order = record { moves = front_moves m (start m) order (t ∷ []) of.moves; few = omega (arith, of.few, length-append order (t ∷ [])) } in
        let move = move_of m (run m order) t (last_moves m (start m) order t of.moves) in
        let l' = (after r about move.part move.local).1 in
        let next = laws.picks order t move.local move.place move.part before move.local_there move.wants move.part_there move.goes in
        let world : run m (order ++ t ∷ []) ≡ with_pair (run m order) move.place.0 t (after r about move.part move.local) = fold-append (pick m) (start m) order (t ∷ []) ∙ pick_moves m (run m order) t move in
        let is : (run m (order ++ t ∷ [])).locals ≡ slice_set (run m order).locals t l' = ap (λ (w : World (Part P) (Local V R)). w.locals) world in
        let h = holds (order ++ t ∷ []) of in
        let mine : slice_get h.locals t ≡ Some l' = ap (λ (w : World (Part P) (Local V R)). slice_get w.locals t) (sym h.is) ∙ (ap (λ ls. slice_get ls t) is ∙ set_here (run m order).locals t l' move.local move.local_there) in
        record {
          before = move.local;
          after = l';
          was = move.local_there;
          is = is;
          decides = decides_by (λ o. calls (run (rules r about asked) o).locals o) order t move.local l' next.new next.few next.answers (ap (λ ls. calls ls (order ++ t ∷ [])) is ∙ next.told) (h.threads t l' mine);
        }

    module _ (order : List ℕ) (of : IsOrder (rules r about asked) order) where
      -- what is told is a run on disjoint blocks
      pub blocks_there : {rows : List ClassRow} → r.calls.rows ≡ rows → IsBlockRun asked.config.huge (length_of rows) (calls (run (rules r about asked) order).locals order)
      blocks_there same =
          let h = holds order of in
          subst (λ rows. IsBlockRun asked.config.huge (length_of rows) (calls (run (rules r about asked) order).locals order)) same
          (subst (λ (w : World (Part P) (Local V R)). IsBlockRun asked.config.huge (length_of r.calls.rows) (calls w.locals order)) (sym h.is) h.blocks)

      -- and each thread's whole script, where all scripts have ended
      pub scripts_there : HaveEnded (rules r about asked) (run (rules r about asked) order) → TellsScripts asked (calls (run (rules r about asked) order).locals order)
      scripts_there ended =
          let h = holds order of in
          subst (λ (w : World (Part P) (Local V R)). TellsScripts asked (calls w.locals order)) (sym h.is) (record {
            each = h.all_told ended;
            others = λ t high. no_lines h.locals t (slice_get_past h.locals t (let n = h.counts.threads in omega (arith, n, high))) [] order;
          })

-- an arena is low
pub low_huge : {input : Input} → IsValidInput input → input.asked.config.huge ≤ 32768
low_huge valid = omega (arith, valid.limits.few)
