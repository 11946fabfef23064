use Rattle.std.proofs.Common.{◌≡◌, ◌<◌, ◌*◌, List, ◌∷◌, [], subst, ℕ, length, Some, inl, inr, sym, ap, ◌∙◌, arith}
use Rattle.std.proofs.lemmas.Bool.{cases_lt}
use Rattle.std.proofs.lemmas.List.{length-append}
use Rattle.std.proofs.lemmas.Option.{slice_get_past}
use Rattle.std.specs.List.{slice_get}
use Rattle.tc_units.specs.Classes.{class_of}
use Rattle.tc_units.specs.declared.units.Class.{Class}
use Rattle.size_classes.proofs.ClassFacts.{has_most, none_above, pushed}
use Rattle.size_classes.proofs.table.classes_of.Goals as goal

pub overflow_add-size : goal.overflow_add-size
overflow_add-size c = grind (arith, has_most)

pub loop-class-smaller : goal.loop-class-smaller
loop-class-smaller c = grind (arith, has_most)

pub loop-class-preserved : goal.loop-class-preserved
loop-class-preserved c =
    let so = c.loop-class.invariant in
    let more = length-append c.loop-class.classes.items (c.in-Some.class ∷ []) in
    let class : Some c.in-Some.class ≡ class_of c.args.rows.now (8 * length c.loop-class.classes.items) =
    sym c.in-Some.is ∙ (c.class_in.ensures ∙ ap (class_of c.args.rows.now) so.size) in
    let items = c.in_ok-push.ensures.items in
    record {
      size = omega (arith, so.size, more, ap length items);
      each = subst (λ (xs : List Class). (k : ℕ) → k < length xs → slice_get xs k ≡ class_of c.args.rows.now (8 * k)) (sym items)
          (pushed (λ k. class_of c.args.rows.now (8 * k)) c.loop-class.classes.items c.in-Some.class so.each class);
    }

pub returns : goal.returns
returns c = λ k.
    let so = c.loop-class.invariant in
    let none = sym c.class_in.ensures ∙ c.in_default.is in
    elim (cases_lt k (length c.loop-class.classes.items)) [
      | inl less ↦ so.each k less
      | inr past ↦ slice_get_past c.loop-class.classes.items k past ∙ sym (none_above c.args.rows.now c.loop-class.size (8 * k) none (omega (arith, past, so.size)))
    ]
