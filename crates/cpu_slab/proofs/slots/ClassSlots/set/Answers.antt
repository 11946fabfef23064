use Rattle.std.proofs.Common.{◌≡◌, ℕ, suc, ◌-◌, ◌<◌, List, [], ◌∷◌, ◌++◌, length, length-append, append_assoc, replicate, ap, sym, ◌∙◌, arith}
use Rattle.std.proofs.lemmas.List.{length-set, set-append_left}
use Rattle.tc_units.specs.declared.units.Addr.{Addr}
use Rattle.cpu_slab.specs.Slots.{null}
use Rattle.cpu_slab.specs.Layout.{all_slots}
use Rattle.cpu_slab.proofs.slots.ClassSlots.set.Goals as goal

-- one more slot is written
one_more : (xs : List Addr) (n : ℕ) → length xs < n → all_slots (xs ++ null ∷ []) n ≡ all_slots xs n
one_more xs n low =
    let e : n - length xs ≡ suc (n - length (xs ++ null ∷ [])) = omega (arith, length-append xs (null ∷ [])) in
    append_assoc xs (null ∷ []) _ ∙ ap (λ k. xs ++ replicate k null) (sym e)

pub loop-self-preserved : goal.loop-self-preserved
loop-self-preserved c = grind (arith, one_more)

pub returns : goal.returns
returns c = grind (arith, set-append_left, length-set)
