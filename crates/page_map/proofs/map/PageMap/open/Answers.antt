use Rattle.std.proofs.Common.{[], List, Bool, false, length, get_or, ap, ◌∙◌, sym, is_some, ◌+◌, ◌*◌, arith}
use Rattle.std.proofs.lemmas.List.{length-replicate}
use Rattle.std.proofs.lemmas.List.Elements.{All-nil}
use Rattle.page_map.specs.Spans.{IsInside}
use Rattle.page_map.proofs.Meaning.{Means, means, unmarked}
use Rattle.page_map.proofs.map.PageMap.open.Goals as goal
use Rattle.page_map.proofs.map.PageMap.open.Goals.{In_ok-open-2}

meaning : (c : In_ok-open-2) → Means c.in_ok-open.field-0.leaves.items c.in_ok-open-2.field-0 (record { huge = c.args.huge; spans = [] })
meaning c =
    let words = 64 * (4 * (c.args.huge + 1)) in
    let marks : List Bool = c.in_ok-open-2.field-0 in
    means c.in_ok-open.field-0.leaves.items marks c.args.huge [] c.in_ok-open.ensures.size
    (record { some = c.requires.some; few = c.requires.few; inside = All-nil (IsInside c.args.huge); apart = λ i j d less within. absurd (omega arith) })
    c.in_ok-open.ensures.none
    (λ page. ap (λ (row : List Bool). get_or row page false) c.in_ok-open-2.ensures ∙ unmarked words page ∙ sym (ap is_some (c.in_ok-open.ensures.none page)))
    (ap (λ (row : List Bool). length row) c.in_ok-open-2.ensures ∙ length-replicate words false ∙ omega (arith, c.in_ok-open.ensures.size))

pub invariant_of-result : goal.invariant_of-result
invariant_of-result c = (meaning c).kept

pub returns-clause-empty : goal.returns-clause-empty
returns-clause-empty c = (meaning c).is

pub returns-clause-well_formed : goal.returns-clause-well_formed
returns-clause-well_formed c = (meaning c).kept.well_formed
