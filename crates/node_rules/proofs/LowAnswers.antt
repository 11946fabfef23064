-- Addresses that a node answers are low: its blocks lie in its arena.
use Rattle.std.proofs.Common.{◌≡◌, ℕ, ◌+◌, ◌<◌, ◌≤◌, List, [], ◌∷◌, ◌++◌, length, map, refl, ap, arith, All}
use Rattle.std.proofs.lemmas.List.Elements.{All-nil, All-cons}
use Rattle.tc_model.specs.declared.answers.Answer.{Answer}
use Rattle.tc_model.specs.declared.answers.Answer.TheVariants.{Block, NoBlock, Freed, FreedNull, Released, Drained, Busy, CapSet, OverLimit, OverStatic}
use Rattle.tc_model.specs.declared.answers.CallLine.{CallLine}
use Rattle.tc_model.specs.Blocks.{IsBlockRun}
use Rattle.call_steps.specs.Local.{Decided, told}
use Rattle.node_rules.specs.Joined.{NodeLine, AreJoined, bytes_before, lines_at, shifted}
use Rattle.node_rules.specs.NumaLaw.{IsLow}
use Rattle.node_rules.proofs.JoinedRun.{block_runs_join}

-- One node's calls, as those of nodes of which there is one.
abbrev alone : List CallLine → List NodeLine
alone cs = map (λ c. record { node = 0; line = c }) cs

alone_is : (cs : List CallLine) → lines_at 0 (alone cs) ≡ cs
alone_is [] = refl
alone_is (c ∷ cs) = ap (λ (ds : List CallLine). c ∷ ds) (alone_is cs)

each_alone : (Q : NodeLine → Type 0) → ((c : CallLine) → Q (record { node = 0; line = c })) → (cs : List CallLine) → All Q (alone cs)
each_alone Q each [] = All-nil Q
each_alone Q each (c ∷ cs) = All-cons Q (record { node = 0; line = c }) (alone cs) (each c) (each_alone Q each cs)

alone_both : (cs : List CallLine) (c : CallLine) (ds : List CallLine) → alone cs ++ record { node = 0; line = c } ∷ alone ds ≡ alone (cs ++ c ∷ ds)
alone_both [] c ds = refl
alone_both (e ∷ cs) c ds = ap (λ (xs : List NodeLine). record { node = 0; line = e } ∷ xs) (alone_both cs c ds)

module _ (huge : ℕ) (few : huge ≤ 4096) (round : ℕ → ℕ) where
  joined : (cs : List CallLine) → IsBlockRun huge round cs → AreJoined 1 huge round (alone cs)
  joined cs run = grind (arith, block_runs_join 1 huge round (λ label. 0) (alone cs), each_alone (λ (x : NodeLine). x.node < 1), alone_is cs)

  low_by : (cs : List CallLine) (c : CallLine) (ds : List CallLine) (answer : Answer) → IsBlockRun huge round (cs ++ c ∷ ds) → c.answer ≡ answer → IsLow answer
  low_by cs c ds (Block addr len) run is = grind (arith, joined (cs ++ c ∷ ds) run, alone_both cs c ds)
  low_by cs c ds (Freed addr) run is =
      let before : ℕ = bytes_before huge 0 in
      let freed = (joined (cs ++ c ∷ ds) run).freed (alone cs) (record { node = 0; line = c }) (alone ds) in
      let lies = freed (addr.0 + before) (alone_both cs c ds) (ap (shifted before) is) in
      omega (arith, lies.2.to, few)
  low_by cs c ds NoBlock run is = tt
  low_by cs c ds FreedNull run is = tt
  low_by cs c ds (Released pages) run is = tt
  low_by cs c ds (Drained objects) run is = tt
  low_by cs c ds (Busy owner) run is = tt
  low_by cs c ds CapSet run is = tt
  low_by cs c ds (OverLimit sum) run is = tt
  low_by cs c ds (OverStatic most) run is = tt

  -- what is told last
  pub low_last : (cs : List CallLine) (t : ℕ) (ds : List Decided) → length ds ≤ 1 → IsBlockRun huge round (cs ++ map (told t) ds)
      → All (λ (d : Decided). IsLow d.answer) ds
  low_last cs t [] few run = All-nil (λ (d : Decided). IsLow d.answer)
  low_last cs t (d ∷ []) few run =
      All-cons (λ (d : Decided). IsLow d.answer) d [] (low_by cs (told t d) [] d.answer run refl) (All-nil (λ (d : Decided). IsLow d.answer))
  low_last cs t (d ∷ e ∷ more) few run = absurd (omega (arith, few))
