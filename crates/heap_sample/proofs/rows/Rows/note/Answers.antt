use Rattle.std.proofs.Common.{◌≡◌, ◌<◌, List, length, get_or, subst, sym, ap, ◌∙◌, arith}
use Rattle.std.proofs.lemmas.Bool.{both_ways}
use Rattle.std.proofs.lemmas.List.{get_or_default}
use Rattle.heap_sample.specs.declared.sample.ProfileRow.{ProfileRow}
use Rattle.heap_sample.specs.Rows.{AreRows, IsPlaceOf, HasRow}
use Rattle.heap_sample.proofs.RowFacts.{inserted}
use Rattle.heap_sample.proofs.rows.Rows.note.Goals as goal

-- src/rows.rt:70:5
pub invariant_of-self-2 : goal.invariant_of-self-2
invariant_of-self-2 c =
    let rows : List ProfileRow = c.self.inside.rows.items in
    let is = c.self.view_is in
    let at : IsPlaceOf rows c.args.sample.len c.place-place.result = subst (λ (rs : List ProfileRow). IsPlaceOf rs c.args.sample.len c.place-place.result) (sym is) c.place-place.ensures.place in
    let none = λ (d : ProfileRow) (inside : c.place-place.result < length rows) (same : (get_or rows c.place-place.result d).len ≡ c.args.sample.len).
    both_ways _ c.if-is_of.false (c.is_of.ensures.1 (subst (λ (rs : List ProfileRow). HasRow rs c.place-place.result c.args.sample.len) is
    (record { inside = inside; here = λ e. ap (λ (r : ProfileRow). r.len) (get_or_default rows c.place-place.result e d inside) ∙ same }))) in
    subst (λ (rs : List ProfileRow). AreRows rs) (sym c.in_ok-insert.ensures.items)
    (inserted rows c.place-place.result (record { len = c.args.sample.len; blocks = 1; bytes = c.args.sample.weight }) at none c.self.invariant (omega arith))
