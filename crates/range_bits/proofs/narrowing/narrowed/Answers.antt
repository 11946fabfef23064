use Rattle.std.proofs.Common.{ℕ, ◌+◌, get_or, arith, ◌∷◌, []}
use Rattle.std.proofs.lemmas.Grind.{get_or_default_zero}
use Rattle.range_bits.proofs.Common.{get_or_past}
use Rattle.range_bits.specs.Words.{IsJoined}
use Rattle.range_bits.proofs.Joined.{narrowed_words, of_four}
use Rattle.range_bits.proofs.narrowing.narrowed.Goals as goal

pub returns : goal.returns
returns c =
    let old = c.args.words in
    let new = c.joined.result ∷ c.joined-2.result ∷ c.joined-3.result ∷ c.joined-4.result ∷ [] in
    narrowed_words old new (omega arith) (λ i few.
    of_four (λ (i : ℕ). IsJoined (get_or old i 0) (get_or old (i + 1) 1) (get_or new i 0))
    (λ k small. grind (arith, c.joined.ensures k small, get_or_default_zero old 1 1))
    (λ k small. grind (arith, c.joined-2.ensures k small, get_or_default_zero old 2 1))
    (λ k small. grind (arith, c.joined-3.ensures k small, get_or_default_zero old 3 1))
    (λ k small. grind (arith, c.joined-4.ensures k small, get_or_past old 4 1)) i (omega arith))
