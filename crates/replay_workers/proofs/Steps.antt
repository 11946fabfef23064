-- Turns put one after another.
use Rattle.std.proofs.Common.{◌≡◌, inl, inr, ℕ, zero, suc, ◌+◌, true, false, List, refl, sym, ap, subst, ◌∙◌, arith}
use Rattle.std.proofs.lemmas.Bool.{cases_Bool}
use Rattle.std.specs.Prelude.{min}
use Rattle.tc_model.specs.declared.board.Turn.{Turn}
use Rattle.tc_units.specs.declared.units.ThreadNo.{ThreadNo}
use Rattle.replay_workers.specs.declared.worker.Worker.{Worker}
use Rattle.replay_workers.specs.Runs.{is_over, Turns, Waited, IsStill, Ran, RanBelow, HasRun, more}

module _ {H : Type 0} (turns : H → Turn → H → Type 0) where
  pub turns_join : (m n : ℕ) (h j k : H) (a b c : Turn) → Turns turns m h a j b → Turns turns n j b k c → Turns turns (n + m) h a k c
  turns_join m zero h j k a b c p q = subst (λ (z : ℕ × (H × Turn)). Turns turns z.0 h a z.1.0 z.1.1) (λ i. (sym (let e : 0 + m ≡ m = omega arith in e) i, (q.0 i, q.1 i))) p
  turns_join m (suc n) h j k a b c p q = subst (λ (z : ℕ). Turns turns z h a k c) (let e : suc (n + m) ≡ suc n + m = omega arith in e) (q.0, q.1, turns_join m n h j q.0 a b q.1 p q.2, q.3, q.4)

more_join : (t m n : ℕ) → more (more t m) n ≡ more t (n + m)
more_join t m zero = ap (more t) (let e : m ≡ 0 + m = omega arith in e)
more_join t m (suc n) = ap (λ (k : ℕ). min (k + 1) 18446744073709551615) (more_join t m n) ∙ ap (more t) (let e : suc (n + m) ≡ suc n + m = omega arith in e)

module _ {B H : Type 0} (turns : H → Turn → H → Type 0) (thread_of : H → ThreadNo) where
  pub ran_join : (a b c : Worker B H) → Ran turns thread_of a b → Ran turns thread_of b c → Ran turns thread_of a c
  ran_join a b c p q = record {
    count = q.count + p.count;
    by_turns = turns_join turns p.count q.count a.hand b.hand c.hand a.last b.last c.last p.by_turns q.by_turns;
    counted = q.counted ∙ (ap (λ (k : ℕ). more k q.count) p.counted ∙ more_join a.turns p.count q.count);
    thread = q.thread ∙ p.thread;
  }

  pub ran_none : (a : Worker B H) → Ran turns thread_of a a
  ran_none a = record { count = 0; by_turns = (refl, refl); counted = refl; thread = refl }

  pub waited_none : (a b : Worker B H) → Ran turns thread_of a b → Waited turns 0 a b
  waited_none a b ran = record { before = ran.count; hand = b.hand; last = b.last; by_turns = ran.by_turns; idle = (refl, refl) }

  -- one round more of a worker, in which nothing moved
  pub waited_round : (n : ℕ) (a b c : Worker B H) → (is_over b.last ≡ false → Waited turns n a b) → IsStill turns b c → is_over c.last ≡ false → Waited turns (n + 1) a c
  waited_round n a b c waited still on = elim (cases_Bool (is_over b.last)) [
    | inl over ↦ absurd (let f : false ≡ true = sym on ∙ (ap (λ (w : Worker B H). is_over w.last) (sym (still.none over)) ∙ over) in cc)
    | inr goes ↦ let t = still.turn goes in let w = waited goes in
        let more : Waited turns (suc n) a c = record { before = w.before; hand = w.hand; last = w.last; by_turns = w.by_turns; idle = (b.hand, b.last, w.idle, goes, t.0, t.1) } in
        subst (λ (m : ℕ). Waited turns m a c) (let e : suc n ≡ n + 1 = omega arith in e) more
  ]

module _ {B H : Type 0} (turns : H → Turn → H → Type 0) (thread_of : H → ThreadNo) (fits : H → Type 0) where
  pub below_join : (n : ℕ) (xs ys zs : List (Worker B H)) → RanBelow turns thread_of fits n xs ys → RanBelow turns thread_of fits n ys zs → RanBelow turns thread_of fits n xs zs
  below_join n xs ys zs p q = λ i d less. let a = p i d less in let b = q i d less in (ran_join turns thread_of _ _ _ a.0 b.0, b.1)

  -- what a worker waited behind other turns of it, it has waited in all
  pub run_behind : (n : ℕ) (a b c : Worker B H) → Ran turns thread_of a b → HasRun turns thread_of fits n b c → HasRun turns thread_of fits n a c
  run_behind n a b c ran has = (
    ran_join turns thread_of a b c ran has.0,
    has.1,
    λ on. let g = has.2 on in let w = g.2 in (
      g.0,
      g.1,
      record { before = w.before + ran.count; hand = w.hand; last = w.last; by_turns = turns_join turns ran.count w.before a.hand b.hand w.hand a.last b.last w.last ran.by_turns w.by_turns; idle = w.idle },
    ),
  )
