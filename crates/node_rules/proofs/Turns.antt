-- Turns of memory nodes: the earliest call that hasn't ended is, at its node, the earliest one of those that act there.
use Rattle.std.proofs.Common.{◌≡◌, ℕ, zero, suc, ◌<◌, ◌≤◌, Bool, eqb, ltb, List, [], ◌∷◌, ◌++◌, length, map}
use Rattle.std.proofs.Common.{take, filter, Some, refl, sym, ◌∙◌, subst, arith, inl, inr}
use Rattle.std.specs.Prelude.{slice_get, count_by}
use Rattle.std.proofs.lemmas.Bool.{cases_Bool, eq-eqb, ltb-true}
use Rattle.std.proofs.lemmas.List.{map-append}
use Rattle.std.proofs.Math.Seq.{append_snoc}
use Rattle.std.proofs.lemmas.Bool.Decides.{nat_tests}
use Rattle.tc_model.specs.Calls.{picks_of}
use Rattle.tc_model.specs.Input.{ThreadCall}
use Rattle.tc_model.specs.Serial.{next_turn}
use Rattle.tc_model.proofs.CallSteps.{picks-cons, picks-push_same, picks-push_other}
use Rattle.node_rules.proofs.Counted.{count_cons}

abbrev pub thread_of : ThreadCall → ℕ
thread_of c = c.thread.0

-- the thread of the call that is to come next, with the calls before it
pub record IsTurn (done : ℕ → ℕ) (calls : List ThreadCall) (t : ℕ) : Type 0 where
  pub before : List ThreadCall
  pub c : ThreadCall
  pub behind : List ThreadCall
  pub is : before ++ c ∷ behind ≡ calls
  pub thread : c.thread.0 ≡ t
  pub ended : (u : ℕ) → picks_of u (map thread_of before) ≤ done u
  pub next : done t ≤ picks_of t (map thread_of before)

-- behind calls that have ended
turn_of : (done : ℕ → ℕ) (calls earlier rest : List ThreadCall) (t : ℕ) → earlier ++ rest ≡ calls → ((u : ℕ) → picks_of u (map thread_of earlier) ≤ done u)
    → next_turn done (map thread_of earlier) (map thread_of rest) ≡ Some t → IsTurn done calls t
turn_of done calls earlier [] t is ended next = absurd (cc)
turn_of done calls earlier (c ∷ cs) t is ended next =
    let u : ℕ = c.thread.0 in
    let n : ℕ = picks_of u (map thread_of earlier) in
    let pushed : map thread_of (earlier ++ c ∷ []) ≡ map thread_of earlier ++ u ∷ [] = map-append thread_of earlier (c ∷ []) in
    let more : n < done u → (v : ℕ) → picks_of v (map thread_of (earlier ++ c ∷ [])) ≤ done v =
    λ under v. rw pushed (grind (arith, nat_tests, picks-push_same u (map thread_of earlier), picks-push_other v u (map thread_of earlier), ended v)) in
    let rest = turn_of done calls (earlier ++ c ∷ []) cs t (append_snoc earlier c cs ∙ is) in
    elim (cases_Bool (ltb n (done u))) [
      | inl low ↦ rest (more (ltb-true n (done u) low)) (rw pushed (rw low at next))
      | inr high ↦ grind (arith, nat_tests, done u)
    ]

pub turn_is : (done : ℕ → ℕ) (calls : List ThreadCall) (t : ℕ) → next_turn done [] (map thread_of calls) ≡ Some t → IsTurn done calls t
turn_is done calls t next = turn_of done calls [] calls t refl (λ u. omega arith) next

-- how many of these calls a thread makes
pub own_count : (t : ℕ) (calls : List ThreadCall) → length (filter (λ (c : ThreadCall). eqb c.thread.0 t) calls) ≡ picks_of t (map thread_of calls)
own_count t [] = refl
own_count t (c ∷ cs) = grind (arith, nat_tests, own_count t cs, picks-cons t c.thread.0 (map thread_of cs))

-- By a number of each call:
module _ (f : ThreadCall → ℕ) where
  abbrev Mine : ℕ → ThreadCall → Bool
  Mine t c = eqb c.thread.0 t

  -- a thread's call behind others stands in its own calls behind its own of those
  pub own_at : (t : ℕ) (before : List ThreadCall) (c : ThreadCall) (behind : List ThreadCall) → c.thread.0 ≡ t
      → slice_get (map f (filter (Mine t) (before ++ c ∷ behind))) (picks_of t (map thread_of before)) ≡ Some (f c)
  own_at t [] c behind mine = rw (eq-eqb c.thread.0 t mine) refl
  own_at t (b ∷ bs) c behind mine = grind (arith, nat_tests, own_at t bs c behind mine, picks-cons t b.thread.0 (map thread_of bs))

  -- of the calls of number k among the first ones a thread makes as many as its own first ones have of that number
  pub own_kept : (t k : ℕ) (before behind : List ThreadCall)
      → picks_of t (map thread_of (filter (λ (c : ThreadCall). eqb (f c) k) before))
      ≡ count_by (λ j. eqb j k) (take (picks_of t (map thread_of before)) (map f (filter (Mine t) (before ++ behind))))
  own_kept t k [] behind = refl
  own_kept t k (b ∷ bs) behind =
      let rest = own_kept t k bs behind in
      let more = picks-cons t b.thread.0 (map thread_of bs) in
      let kept = picks-cons t b.thread.0 (map thread_of (filter (λ (c : ThreadCall). eqb (f c) k) bs)) in
      let Is : ℕ → Type 0 = λ n. picks_of t (map thread_of (filter (λ (c : ThreadCall). eqb (f c) k) (b ∷ bs)))
      ≡ count_by (λ j. eqb j k) (take n (map f (filter (Mine t) (b ∷ (bs ++ behind))))) in
      let first = count_cons k (f b) (take (picks_of t (map thread_of bs)) (map f (filter (Mine t) (bs ++ behind)))) in
      elim (cases_Bool (eqb b.thread.0 t)) [
        | inl own ↦
            let n : picks_of t (map thread_of (b ∷ bs)) ≡ suc (picks_of t (map thread_of bs)) = omega (arith, rw own at more) in
            subst Is (sym n) (grind (arith, nat_tests, own, rest, kept, first))
        | inr other ↦ grind (arith, nat_tests)
      ]

-- more of a list has no fewer of a number
pub count_less : (k m n : ℕ) (js : List ℕ) → m ≤ n → count_by (λ j. eqb j k) (take m js) ≤ count_by (λ j. eqb j k) (take n js)
count_less k zero n js low = omega arith
count_less k (suc m) zero js low = absurd (omega arith)
count_less k (suc m) (suc n) [] low = omega arith
count_less k (suc m) (suc n) (j ∷ js) low = omega (arith, count_less k m n js (omega (arith, low)), count_cons k j (take m js), count_cons k j (take n js))
