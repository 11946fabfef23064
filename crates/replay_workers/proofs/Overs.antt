-- Where no worker was halted, each has ended.
use Rattle.std.proofs.Common.{◌≡◌, ℕ, ◌<◌, ◌⊎◌, inl, inr, Bool, true, false, cond, List, [], ◌∷◌, All, map, length, get_or, Some, None, refl, sym, ap, ◌∙◌, subst, arith}
use Rattle.std.proofs.Math.ListN.{get_or-map}
use Rattle.std.proofs.lemmas.List.{length-map}
use Rattle.std.proofs.lemmas.List.Elements.{All-map}
use Rattle.std.proofs.lemmas.List.Folds.{list_any_at}
use Rattle.tc_model.specs.declared.board.Halt.{Halt}
use Rattle.tc_model.specs.declared.board.Halt.TheVariants.{Memory, Full}
use Rattle.tc_model.specs.declared.board.Turn.{Turn}
use Rattle.tc_model.specs.declared.board.Turn.TheVariants.{Ended}
use Rattle.tc_model.specs.Turns.{is_halted}
use Rattle.replay_workers.specs.declared.worker.Worker.{Worker}
use Rattle.replay_workers.specs.Runs.{Done, is_halt_for, is_any_halted, halt_among, halt_of, lasts_of}

-- a turn that was halted was so for one of the causes
halted_for : (answer : Turn) → is_halted answer ≡ true → (is_halt_for Memory answer ≡ true) ⊎ (is_halt_for Full answer ≡ true)
halted_for x0 is = grind (arith)

no_cause : (memory full : Bool) → cond memory (Some Memory) (cond full (Some Full) None) ≡ None → (memory ≡ false) × (full ≡ false)
no_cause false false none = (refl, refl)
no_cause false true none = absurd (cc)
no_cause true full none = absurd (cc)

pub only_full : (memory full : Bool) → cond memory (Some Memory) (cond full (Some Full) None) ≡ Some Full → (memory ≡ false) × (full ≡ true)
only_full false false is = absurd (cc)
only_full false true is = (refl, refl)
only_full true full is = absurd (cc)

module _ {B H : Type 0} where
  any_last : (cause : Halt) (ws : List (Worker B H)) (i : ℕ) (d : Worker B H) → i < length ws → is_halt_for cause (get_or ws i d).last ≡ true → is_any_halted cause (lasts_of ws) ≡ true
  any_last cause ws i d less is =
      let last : Worker B H → Turn = λ w. w.last in let long = length-map ws last in
      list_any_at (is_halt_for cause) (map last ws) i d.last (omega arith) (subst (λ (t : Turn). is_halt_for cause t ≡ true) (sym (get_or-map last ws i d)) is)

  no_halt : (ws : List (Worker B H)) (i : ℕ) (d : Worker B H) → i < length ws → is_halted (get_or ws i d).last ≡ true → halt_of ws ≡ None → ⊥
  no_halt ws i d less halted none =
      let no = no_cause (is_any_halted Memory (lasts_of ws)) (is_any_halted Full (lasts_of ws)) none in
      elim (halted_for (get_or ws i d).last halted) [
        | inl memory ↦ let e : false ≡ true = sym no.0 ∙ any_last Memory ws i d less memory in cc
        | inr full ↦ let e : false ≡ true = sym no.1 ∙ any_last Full ws i d less full in cc
      ]

  -- where no worker was halted, each has ended
  pub over_all : (ws : List (Worker B H)) → Done ws → halt_of ws ≡ None → All (λ (w : Worker B H). w.last ≡ Ended) ws
  over_all ws (inl over) none = λ k d less. over k d less
  over_all [] (inr halted) none = λ k d less. absurd (omega arith)
  over_all (w ∷ ws) (inr halted) none = absurd (no_halt (w ∷ ws) halted.0 w halted.1 (halted.2 w) none)

  -- and so each last answer is that
  pub lasts_over : (ws : List (Worker B H)) (lasts : List Turn) → lasts ≡ lasts_of ws → (halt_of ws ≡ None → All (λ (w : Worker B H). w.last ≡ Ended) ws)
      → halt_among lasts ≡ None → All (λ last. last ≡ Ended) lasts
  lasts_over ws lasts is over none =
      subst (All (λ last. last ≡ Ended)) (sym is) (All-map (λ last. last ≡ Ended) (λ (w : Worker B H). w.last) ws (over (ap halt_among (sym is) ∙ none)))
