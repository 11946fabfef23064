-- Each local stays in its script: its act goes on in its call, or the next call comes.
use Rattle.std.proofs.Common.{◌≡◌, ℕ, zero, suc, ◌+◌, ◌⊎◌, true, false, List, [], ◌∷◌, ◌++◌, length, drop, Option, Some, None, refl, sym, ap, ◌∙◌, inl, inr}
use Rattle.std.proofs.Common.{arith, is_some, option_map, slice_get}
use Rattle.alloc_rules.proofs.Common.{cases_lt, false≢true, append-nil, length-append, Call, Planned, NameState, state_of, asking, unpublished}
use Rattle.alloc_rules.proofs.Common.{is_out, Local, Decided, first_act, undecided, under, About, call_at, Step, FrontCalls, AreEntries, account_of}
use Rattle.alloc_rules.proofs.Common.{doing_of, IsIn, GoesOn, Closes, Path, is_under_way}
use Rattle.alloc_rules.proofs.ScriptFacts.{HasRow, asks_first, first_is_of, first_under, next_way, next_weighs, undecided_under}

-- Labels that are out stay out; and what a local is still to publish stays so, or is out.
abbrev pub StayOut : List NameState → List NameState → Type 0
StayOut names names' = (x : ℕ) → is_out (state_of names x) ≡ true → is_out (state_of names' x) ≡ true

abbrev pub KeepsUnpublished : {V R : Type 0} → (R → About) → List NameState → Local V R → Local V R → Type 0
KeepsUnpublished about names l after = (x : ℕ) → (unpublished x (account_of about after) ≡ unpublished x (account_of about l)) ⊎ (is_out (state_of names x) ≡ true)

pushed : {X : Type 0} (xs : List X) (x y : X) (j : ℕ) → slice_get (xs ++ x ∷ []) j ≡ Some y → (slice_get xs j ≡ Some y) ⊎ ((j ≡ length xs) × (x ≡ y))
pushed [] x y zero is = inr (refl, cc)
pushed [] x y (suc j) is = absurd (cc)
pushed (z ∷ zs) x y zero is = inl is
pushed (z ∷ zs) x y (suc j) is = elim (pushed zs x y j is) [ inl old ↦ inl old | inr new ↦ inr (ap (λ n. suc n) new.0, new.1) ]

rest_behind : (rest : List Planned) (j : ℕ) → slice_get (drop 1 rest) j ≡ slice_get rest (1 + j)
rest_behind rest j = grind arith

no_call : (o : Option Planned) → is_some (option_map (λ (p : Planned). p.call) o) ≡ false → option_map (λ (p : Planned). p.call) o ≡ None
no_call o is = grind (arith, false≢true)

-- what the answers are, as one comes
module _ {V R : Type 0} (e : FrontCalls V R) (about : R → About) (names : List NameState) (script : List Planned) (l : Local V R) (inside : IsIn e about names script l) where
  answered : (new answers : List Decided) → answers ≡ l.answers ++ new → ((d : Decided) → new ≡ d ∷ [] → (under about l.step ≡ 0) × (call_at script l.ended ≡ Some d.call))
      → (new ≡ []) ⊎ ((d : Decided) × (new ≡ d ∷ [])) → (j : ℕ) (d : Decided) → slice_get answers j ≡ Some d → call_at script j ≡ Some d.call
  answered new answers is one few j d at = grind (arith, append-nil, pushed)

  -- what a deciding act decides is the call here
  here : (d : Decided) → undecided about l.step ≡ Some d.call → (under about l.step ≡ 0) × (call_at script l.ended ≡ Some d.call)
  here d is = (undecided_under about l.step (ap is_some is), inside.call d.call is)

goes_few : {V R : Type 0} (e : FrontCalls V R) (about : R → About) (s next : Step R) (new : List Decided) → GoesOn e about s next new → (new ≡ []) ⊎ ((d : Decided) × (new ≡ d ∷ []))
goes_few e about s next new goes = grind arith

closes_few : {V R : Type 0} (e : FrontCalls V R) (about : R → About) (s : Step R) (new : List Decided) → Closes e about s new → (new ≡ []) ⊎ ((d : Decided) × (new ≡ d ∷ []))
closes_few e about s new closes = grind arith

module _ {V R : Type 0} (e : FrontCalls V R) (about : R → About) (entries : AreEntries e about) (names names' : List NameState) (script : List Planned)
    (l after : Local V R) (way : is_under_way l.step ≡ true) (inside : IsIn e about names script l)
    (stay : StayOut names names') (keeps : KeepsUnpublished about names' l after) (there : HasRow e after.seat (slice_get l.rest 0)) where
  -- within a call
  goes_call : (new : List Decided) → GoesOn e about l.step after.step new → (c : Call) → undecided about after.step ≡ Some c → undecided about l.step ≡ Some c
  goes_call new goes c is = grind arith

  goes_one : (new : List Decided) → GoesOn e about l.step after.step new → (d : Decided) → new ≡ d ∷ [] → (under about l.step ≡ 0) × (call_at script l.ended ≡ Some d.call)
  goes_one new goes d is = grind (arith, here)

  goes_count : (new : List Decided) → GoesOn e about l.step after.step new → length (l.answers ++ new) ≡ l.ended + under about after.step
  goes_count new goes = grind (arith, length-append, undecided_under)

  stays_in : (new : List Decided) → after.answers ≡ l.answers ++ new → after.ended ≡ l.ended → after.rest ≡ l.rest → is_under_way after.step ≡ true
      → GoesOn e about l.step after.step new → IsIn e about names' script after
  stays_in new answers ended rest on goes =
      let at : call_at script after.ended ≡ call_at script l.ended = ap (call_at script) ended in
      record {
        rest = λ j. ap (λ xs. slice_get xs j) rest ∙ (inside.rest j ∙ ap (λ n. slice_get script (n + 1 + j)) (sym ended));
        call = λ c is. at ∙ inside.call c (goes_call new goes c is);
        some = λ _w. ap is_some at ∙ inside.some way;
        none = λ off. absurd (false≢true (sym off ∙ on));
        out = λ j label size below is. stay label.0 (inside.out j label size (omega (arith, below, ended)) is);
        now = λ label size is. elim (inside.now label size (sym at ∙ is)) [
          | inl out ↦ inl (stay label.0 out)
          | inr due ↦ grind (arith)
        ];
        count = ap length answers ∙ (goes_count new goes ∙ ap (λ n. n + under about after.step) (sym ended));
        decided = λ j d is. answered e about names script l inside new after.answers answers (goes_one new goes) (goes_few e about l.step after.step new goes) j d is;
      }

  -- to the next call
  closes_one : (new : List Decided) → Closes e about l.step new → (d : Decided) → new ≡ d ∷ [] → (under about l.step ≡ 0) × (call_at script l.ended ≡ Some d.call)
  closes_one new closes d is = grind (arith, here)

  closes_count : (new : List Decided) → Closes e about l.step new → length (l.answers ++ new) ≡ l.ended + 1
  closes_count new closes = grind (arith, length-append, undecided_under)

  comes_in : (new : List Decided) → after.answers ≡ l.answers ++ new → after.ended ≡ l.ended + 1 → after.rest ≡ drop 1 l.rest
      → after.step ≡ first_act e after.seat (slice_get l.rest 0) → Closes e about l.step new → IsIn e about names' script after
  comes_in new answers ended rest step closes =
      let o : Option Planned = slice_get l.rest 0 in
      let first : l.ended + 1 ≡ l.ended + 1 + 0 = omega arith in
      let next = ap (call_at script) ended ∙ ap (option_map (λ (p : Planned). p.call)) (ap (slice_get script) first ∙ sym (inside.rest 0)) in
      let w = λ (x : ℕ). next_weighs e about entries after.seat x l.rest in
      record {
        rest = grind (arith, rest_behind l.rest);
        call = λ c is. next ∙ first_is_of e about entries after.seat o c (sym (ap (undecided about) step) ∙ is);
        some = λ on. ap is_some next ∙ (sym (next_way e about entries after.seat o there) ∙ (sym (ap is_under_way step) ∙ on));
        none = λ off. next ∙ no_call o (sym (next_way e about entries after.seat o there) ∙ (sym (ap is_under_way step) ∙ off));
        out = λ j label size below is. elim (cases_lt j l.ended) [
          | inl before ↦ stay label.0 (inside.out j label size before is)
          | inr last ↦
              (let e : j ≡ l.ended = omega (arith, below, last, ended) in
              elim (inside.now label size (ap (call_at script) (sym e) ∙ is)) [
                | inl out ↦ stay label.0 out
                | inr due ↦ grind (arith, w label.0)
              ])
        ];
        now = λ label size is. inr (omega (arith, asks_first e about entries after.seat o label size (sym next ∙ is), ap (λ s. asking label.0 (doing_of about s)) step));
        count = ap length answers ∙ (closes_count new closes ∙ omega (arith, ended, ap (under about) step, first_under e about entries after.seat o));
        decided = λ j d is. answered e about names script l inside new after.answers answers (closes_one new closes) (closes_few e about l.step new closes) j d is;
      }

  pub path_in : Path e about l after → IsIn e about names' script after
  path_in given = grind (arith, comes_in, stays_in)
