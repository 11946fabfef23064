-- What a run of writes has written of a piece so far.
use Rattle.std.proofs.Common.{◌≡◌, ℕ, ◌-◌, ◌≤◌, ◌+◌, List, ◌++◌, length, take, drop, sym, ap, ◌∙◌, subst, arith}
use Rattle.std.specs.Prelude.{Option}
use Rattle.std.specs.Io.KnownBytes.{Appends}
use Rattle.std.proofs.KnownBytes.{Appends-trans}
use Rattle.std.proofs.lemmas.List.{length-drop, drop-drop}
use Rattle.tc_ports.proofs.SoFar.{take_on}

-- all but the rest of a piece is written
pub record Written (start now : Option (List ℕ)) (piece rest : List ℕ) : Type 0 where
  pub shorter : length rest ≤ length piece
  pub tail : rest ≡ drop (length piece - length rest) piece
  pub written : Appends start now (take (length piece - length rest) piece)

pub written_more : (start now next : Option (List ℕ)) (piece rest : List ℕ) (n : ℕ) → n ≤ length rest
    → Written start now piece rest → Appends now next (take n rest) → Written start next piece (drop n rest)
written_more start now next piece rest n fits so more =
    let k = length piece - length rest in
    let left : length (drop n rest) ≡ length rest - n = length-drop n rest in
    let front : length rest ≤ length piece = so.shorter in
    let on : length piece - length (drop n rest) ≡ k + n = rw left (omega arith) in
    let later : drop n rest ≡ drop (k + n) piece = ap (drop n) so.tail ∙ drop-drop n k piece in
    let joined : take k piece ++ take n rest ≡ take (k + n) piece =
    ap (λ xs. take k piece ++ take n xs) so.tail ∙ take_on k n piece in
    record {
      shorter = omega arith;
      tail = later ∙ ap (λ (x : ℕ). drop x piece) (sym on);
      written = subst (Appends start next) (joined ∙ ap (λ (x : ℕ). take x piece) (sym on))
          (Appends-trans start now next (take k piece) (take n rest) so.written more);
    }
