use Rattle.std.proofs.Common.{◌≡◌, ◌-◌, ◌<◌, List, [], ◌∷◌, ◌++◌, length, get_or, Option, None, Some, refl, ap, sym, ◌∙◌, arith}
use Rattle.std.specs.List.{slice_get}
use Rattle.std.specs.Option.{option_to_list}
use Rattle.std.proofs.lemmas.List.{length-append}
use Rattle.std.proofs.lemmas.Option.{slice_get-get_or}
use Rattle.std.proofs.Math.Seq.{get_or-append_seam}
use Rattle.tc_units.specs.Bag.{Contents}
use Rattle.tc_units.proofs.tail.Tail.last.Goals as goal

-- what stands behind all others is the last one
last_is : {T : Type 0} (past : List T) (last : Option T) → (last ≡ None → past ≡ [])
    → last ≡ slice_get (past ++ option_to_list last) (length (past ++ option_to_list last) - 1)
last_is past None alone = rw (alone refl) refl
last_is past (Some x) alone =
    let all = past ++ x ∷ [] in
    let count = length-append past (x ∷ []) in
    let place : length all - 1 ≡ length past = omega (arith, count) in
    let below : length all - 1 < length all = omega (arith, count) in
    sym (slice_get-get_or all (length all - 1) x below ∙ ap (λ y. Some y) (ap (λ n. get_or all n x) place ∙ get_or-append_seam past x [] x))

pub returns : goal.returns
returns g c =
    let t = c.self.inside in
    last_is t.past.items t.last c.self.invariant.2 ∙ ap (λ (b : Contents _). slice_get b.items (length b.items - 1)) c.self.view_is
