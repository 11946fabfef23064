use Rattle.std.proofs.Common.{◌≡◌, ◌≢◌, ◌<◌, ◌↔◌, ℕ, inl, inr, Bool, true, false, IsTrue, List, [], ◌∷◌, length, get_or, refl, sym, ◌∙◌, arith}
use Rattle.tc_model.specs.declared.board.Turn.TheVariants.{Ended}
use Rattle.tc_model.specs.Turns.{is_halted}
use Rattle.replay_workers.specs.declared.worker.Worker.{Worker}
use Rattle.replay_workers.specs.Runs.{Done}
use Rattle.replay_workers.proofs.together.is_done.Goals as goal

some_of : {A : Type 0} (xs : List A) (i : ℕ) → i < length xs → A
some_of [] i less = absurd (omega arith)
some_of (x ∷ xs) i less = x

done_both : {B H : Type 0} (ws : List (Worker B H)) (n : ℕ) (all : Bool) → n ≡ length ws → (all ≡ true → (k : ℕ) (d : Worker B H) → k < n → (get_or ws k d).last ≡ Ended)
    → ((k : ℕ) (d : Worker B H) → k < n → is_halted (get_or ws k d).last ≡ false) → (all ≡ false → (k : ℕ) × (k < n) × ((d : Worker B H) → (get_or ws k d).last ≢ Ended)) → IsTrue all ↔ Done ws
done_both ws n true long ended going left = (λ is. inl (λ k d less. ended refl k d (omega arith)), λ is. refl)
done_both ws n false long ended going left =
    let k = left refl in let d = some_of ws k.0 (let less = k.1 in omega arith) in (
      λ is. absurd (let e : false ≡ true = is in (cc)),
      λ done. elim done [
        | inl over ↦ absurd (k.2 d (over k.0 d (let less = k.1 in omega arith)))
        | inr halted ↦ let e : false ≡ true = sym (going halted.0 d (let less = halted.1 in omega arith)) ∙ halted.2 d in absurd (cc)
      ],
    )

pub returns : goal.returns
returns g c = let v = c.loop-i.invariant in done_both c.args.workers.now c.loop-i.i c.loop-i.all (omega arith) v.ended v.going v.left
