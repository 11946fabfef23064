-- What the acts at the names do to the books.
use Rattle.std.proofs.Common.{◌≡◌, ℕ, false, List, Option, Some, None, refl, sym, ap, ◌∙◌, subst, slice_set, arith}
use Rattle.alloc_rules.proofs.Common.{false≢true, append-nil, Addr, Label, Free, FreedNull, CallLine, NameState, state_of, HeapConfig, is_unpublished}
use Rattle.alloc_rules.proofs.Common.{Books, TakesNull, TakesAddr, NamesStep, decided, Local, names_after, after_take, waits_for, FitsNames, Planned, About}
use Rattle.alloc_rules.proofs.Common.{AreEntries, FrontRules, Parts, Does, setup, IsBefore, NamesActsMove}
use Rattle.call_steps.specs.declared.step.NamesStep.TheVariants.{Publish, Take}
use Rattle.holdings.specs.Moves.{Names}
use Rattle.name_table.specs.declared.table.NameState.TheVariants as name
use Rattle.call_steps.specs.declared.step.Step.TheVariants as does
use Rattle.alloc_rules.proofs.{Moved.leaves, Onwards.ends_silent, Weighing.weighs_same}

module _ {P V R : Type 0} (r : FrontRules P V R) (about : R → About) (planned : Planned → Type 0) (entries : AreEntries r.calls about) where
  module _ (huge labels : ℕ) (limits : HeapConfig) (p : Parts P) (locals : List (Local V R)) (b : Books) (calls : List CallLine) (t : ℕ) (l : Local V R) where
    abbrev at : NamesStep → Local V R
    at row = record l { step = does.Names row }

    abbrev Is : Local V R → Type 0
    Is = IsBefore r about planned huge labels limits p locals b calls t

    abbrev Before : NamesStep → Type 0
    Before row = Is (at row)

    abbrev Leaves : Local V R → List NameState × Local V R → Type 0
    Leaves x y = Does r about (setup r huge labels) (record p { names = y.0 }) b x y.1

    abbrev Goal : NamesStep → List NameState × Local V R → Type 0
    Goal row = Leaves (at row)

    state_in : (label : Label) (row : NamesStep) → Before row → (s : NameState) → state_of p.names label.0 ≡ s → state_of b.names label.0 ≡ s
    state_in label row before s is = ap (λ (ns : List NameState). state_of ns label.0) before.books.names ∙ is

    publishes : (label : Label) (value : Option Addr) → Before (Publish label value) → state_of p.names label.0 ≡ name.Unpublished
        → Goal (Publish label value) (names_after r.calls p.names (at (Publish label value)) (does.Names (Publish label value)))
    publishes label value before state =
        let ends = ends_silent r.calls about entries (at (Publish label value)) before.shaped.step.hand in
        leaves before.books p.heap p.map (λ ns. slice_set ns label.0 (name.Published value))
        (Names label value _ refl refl refl (state_in label (Publish label value) before name.Unpublished state) ends.weighs)
        before.books.heap before.books.spans ends.acts (ends.answers ∙ sym (append-nil l.answers))

    takes : (label : Label) → Before (Take label) → FitsNames {R = R} p.names (does.Names (Take label)) → is_unpublished (state_of p.names label.0) ≡ false
        → (s : NameState) → state_of p.names label.0 ≡ s → Goal (Take label) (after_take r.calls p.names (at (Take label)) label s)
    takes label before fits out name.Unpublished is = absurd (false≢true (sym out ∙ ap is_unpublished is))
    takes label before fits out name.Taken is = absurd (fits.1 is)
    takes label before fits out (name.Published None) is =
        let ends = ends_silent r.calls about entries (decided (at (Take label)) (Free label) FreedNull) before.shaped.step.hand in
        leaves before.books p.heap p.map (λ ns. slice_set ns label.0 name.Taken)
        (TakesNull label _ refl (state_in label (Take label) before (name.Published None) is) ends.weighs) before.books.heap before.books.spans ends.acts ends.answers
    takes label before fits out (name.Published (Some addr)) is =
        leaves before.books p.heap p.map (λ ns. slice_set ns label.0 name.Taken)
        (TakesAddr label addr _ refl (state_in label (Take label) before (name.Published (Some addr)) is) (weighs_same _))
        before.books.heap before.books.spans refl (sym (append-nil l.answers))

    by_row : (row : NamesStep) → Before row → FitsNames {R = R} p.names (does.Names row) → waits_for {R = R} p.names (does.Names row) ≡ false → Goal row (names_after r.calls p.names (at row) (does.Names row))
    by_row row before fits out = grind (arith, publishes, state_of, takes)

    by_step : (row : NamesStep) → Is l → l.step ≡ does.Names row → FitsNames {R = R} p.names (does.Names row) → waits_for {R = R} p.names (does.Names row) ≡ false → Leaves l (names_after r.calls p.names l (does.Names row))
    by_step row before step fits out =
        let is : at row ≡ l = ap (λ s. record l { step = s }) (sym step) in
        subst (λ (x : Local V R). Is x → Leaves x (names_after r.calls p.names x (does.Names row))) is (λ h. by_row row h fits out) before

  pub names_acts_move : NamesActsMove r about planned
  names_acts_move = by_step
