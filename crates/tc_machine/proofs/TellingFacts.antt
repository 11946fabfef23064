-- How the mark of a thread goes on.
use Rattle.std.proofs.Common.{◌≡◌, ℕ, zero, suc, ◌+◌, ◌<◌, true, false, get_or, List, [], ◌∷◌, ◌++◌, length, take, drop, map, Option, None, Some, refl, sym, ap, ◌∙◌, arith, inl, inr}
use Rattle.std.specs.Prelude.{option_map}
use Rattle.std.specs.List.{slice_get, slice_set}
use Rattle.std.proofs.lemmas.List.{append-nil, append_assoc, take_more, take-append-drop, length-map, length-set}
use Rattle.std.proofs.lemmas.Option.{slice_get_within, slice_get-get_or, slice_get-map}
use Rattle.tc_model.proofs.Lists.{set_here, set_elsewhere}
use Rattle.tc_model.proofs.CallSteps.{picks-push_same, picks-push_other, calls_from-push}
use Rattle.std.proofs.lemmas.Bool.{cases_eq, false≢true, eqb-true}
use Rattle.std.proofs.lemmas.Bool.Decides.{nat_tests}
use Rattle.tc_model.specs.declared.answers.CallLine.{CallLine}
use Rattle.tc_model.specs.Calls.{AreRising, first_at, picks_of, calls_of}
use Rattle.tc_model.proofs.Rising.{rising_first}
use Rattle.call_steps.specs.Local.{Decided, told}
use Rattle.tc_machine.specs.declared.telling.Mark.{Mark}
use Rattle.tc_machine.specs.Telling.{decided_at, due_at, first_mark, decides_next, IsMark}

abbrev pub act_of : Decided → ℕ
act_of d = d.act

-- what stands at a place stands first behind it
split_at : {X : Type 0} (xs : List X) (i : ℕ) (x : X) → slice_get xs i ≡ Some x → drop i xs ≡ x ∷ drop (i + 1) xs
split_at [] i x is = absurd (cc)
split_at (y ∷ ys) zero x is = let e : y ≡ x = cc in ap (λ z. z ∷ ys) e
split_at (y ∷ ys) (suc i) x is = split_at ys i x is ∙ ap (λ n. x ∷ drop n (y ∷ ys)) (let e : suc (i + 1) ≡ suc i + 1 = omega arith in e)

past_all : {X : Type 0} (xs : List X) (i : ℕ) → slice_get xs i ≡ None → drop i xs ≡ []
past_all [] zero is = refl
past_all [] (suc i) is = refl
past_all (y ∷ ys) zero is = absurd (cc)
past_all (y ∷ ys) (suc i) is = past_all ys i is

-- The next pick decided the answer at the place.
module _ (answers : List Decided) (m : Mark) (mark : IsMark answers m) where
  here : decided_at m.picks answers ≡ first_at act_of m.picks (drop m.told answers)
  here = mark.later m.picks (omega arith) ∙ rising_first act_of m.picks (drop m.told answers) mark.behind

  decides : (o : Option Decided) → slice_get answers m.told ≡ o → decides_next m.picks (option_map act_of o) ≡ true → (d : Decided) × (slice_get answers m.told ≡ Some d) × (d.act ≡ m.picks)
  decides None at is = absurd (cc)
  decides (Some d) at is = (d, at, eqb-true d.act m.picks is)

  due_here : decides_next m.picks m.due ≡ true → (d : Decided) × (slice_get answers m.told ≡ Some d) × (d.act ≡ m.picks)
  due_here is = decides (slice_get answers m.told) refl (sym (ap (decides_next m.picks) mark.due) ∙ is)

  pub line_told : (thread : ℕ) (line : CallLine) → Some line ≡ option_map (told thread) (slice_get answers m.told)
      → decides_next m.picks m.due ≡ true → line ∷ [] ≡ map (told thread) (decided_at m.picks answers)
  line_told thread line is decided = grind (arith, nat_tests, due_here, split_at, here)

  pub mark_told : {due : Option ℕ} → due ≡ due_at (m.told + 1) answers → decides_next m.picks m.due ≡ true → IsMark answers (record { picks = m.picks + 1; told = m.told + 1; due = due })
  mark_told next decided = grind (arith, nat_tests, due_here decided, split_at answers m.told, slice_get_within answers m.told)

  -- the next pick decided nothing
  first_behind : (o : Option Decided) → slice_get answers m.told ≡ o → decides_next m.picks (option_map act_of o) ≡ false
      → (first_at act_of m.picks (drop m.told answers) ≡ []) × AreRising act_of (m.picks + 1) (drop m.told answers)
  first_behind o at is = grind (arith, nat_tests, past_all, split_at, false≢true)

  module _ (undecided : decides_next m.picks m.due ≡ false) where
    behind_here : (first_at act_of m.picks (drop m.told answers) ≡ []) × AreRising act_of (m.picks + 1) (drop m.told answers)
    behind_here = first_behind (slice_get answers m.told) refl (sym (ap (decides_next m.picks) mark.due) ∙ undecided)

    pub nothing_told : (thread : ℕ) → [] ≡ map (told thread) (decided_at m.picks answers)
    nothing_told thread = sym (ap (map (told thread)) (here ∙ behind_here.0))

    pub mark_passed : IsMark answers (record { picks = m.picks + 1; told = m.told; due = m.due })
    mark_passed = record { within = mark.within; few = omega (arith, mark.few); due = mark.due; behind = behind_here.1; later = λ n from. mark.later n (omega (arith, from)) }

pub here_is : {X : Type 0} (xs : List X) (t : ℕ) (x : X) → t < length xs → x ≡ get_or xs t x → slice_get xs t ≡ Some x
here_is xs t x below is = slice_get-get_or xs t x below ∙ ap (λ y. Some y) (sym is)

module _ {L : Type 0} (answers : L → List Decided) where
  -- The marks of all threads, after some picks.
  pub record AreMarks (locals : List L) (marks : List Mark) (past : List ℕ) : Type 0 where
    pub count : length marks ≡ length locals
    pub each : (u : ℕ) (k : L) (m : Mark) → slice_get locals u ≡ Some k → slice_get marks u ≡ Some m → (m.picks ≡ picks_of u past) × IsMark (answers k) m

  pub first_marks : (locals : List L) (marks : List Mark) → marks ≡ map (λ l. first_mark (answers l)) locals
      → ((t : ℕ) (l : L) → slice_get locals t ≡ Some l → AreRising act_of 0 (answers l)) → AreMarks locals marks []
  first_marks locals marks is rising = grind (arith, length-map, slice_get-map)

  -- one pick more
  pub next_marks : (locals : List L) (marks : List Mark) (past : List ℕ) (t : ℕ) (k : L) (m m' : Mark) → AreMarks locals marks past
      → slice_get locals t ≡ Some k → slice_get marks t ≡ Some m → m'.picks ≡ m.picks + 1 → IsMark (answers k) m'
      → AreMarks locals (slice_set marks t m') (past ++ t ∷ [])
  next_marks locals marks past t k m m' are local mark picks next =
      record {
        count = length-set marks t m' ∙ are.count;
        each = λ u l x there at. elim (cases_eq t u) [
          | inl same ↦ grind (arith, set_here marks t m' m mark, picks-push_same t past, are.each t k m local mark)
          | inr apart ↦
              let old = are.each u l x there (sym (set_elsewhere marks t u m' apart) ∙ at) in
              (old.0 ∙ sym (picks-push_other u t past apart), old.1)
        ];
      }

  -- the calls of more picks stand behind those of fewer
  pub told_prefix : (locals : List L) (past more : List ℕ) → (later : List CallLine) × (calls_of answers act_of told locals (past ++ more) ≡ calls_of answers act_of told locals past ++ later)
  told_prefix locals past [] = ([], ap (calls_of answers act_of told locals) (append-nil past) ∙ sym (append-nil (calls_of answers act_of told locals past)))
  told_prefix locals past (t ∷ ts) = grind (arith, told_prefix locals (past ++ t ∷ []) ts, append_assoc, calls_from-push)

  -- what the next pick of thread t adds to the calls
  pub told_next : (locals : List L) (past : List ℕ) (t n : ℕ) (k : L) (added : List CallLine) → slice_get locals t ≡ Some k → n ≡ picks_of t past → added ≡ map (told t) (decided_at n (answers k)) →
      calls_of answers act_of told locals (past ++ t ∷ []) ≡ calls_of answers act_of told locals past ++ added
  told_next locals past t n k added local picks is = grind (arith, calls_from-push)

  -- a call that the next pick decided stands behind those before it, and before those of later picks
  pub told_split : (locals : List L) (order : List ℕ) (i : ℕ) (line : CallLine) → i < length order
      → calls_of answers act_of told locals (take i order ++ get_or order i 0 ∷ []) ≡ calls_of answers act_of told locals (take i order) ++ line ∷ []
      → (later : List CallLine) × (calls_of answers act_of told locals (take i order) ++ line ∷ later ≡ calls_of answers act_of told locals order)
  told_split locals order i line within added =
      let calls = calls_of answers act_of told locals in
      let past = take i order ++ get_or order i 0 ∷ [] in
      let whole : past ++ drop (i + 1) order ≡ order = ap (λ xs. xs ++ drop (i + 1) order) (sym (take_more order i 0 within)) ∙ take-append-drop (i + 1) order in
      let rest = told_prefix locals past (drop (i + 1) order) in
      (rest.0, sym (append_assoc (calls (take i order)) (line ∷ []) rest.0) ∙ (ap (λ xs. xs ++ rest.0) (sym added) ∙ (sym rest.1 ∙ ap calls whole)))
