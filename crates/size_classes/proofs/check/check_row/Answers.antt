use Rattle.std.proofs.Common.{◌∙◌, sym, arith}
use Rattle.size_classes.proofs.Fields.{three_numbers}
use Rattle.size_classes.proofs.check.check_row.Goals as goal

pub returns-in-Some-Some-Some-clause-checked : goal.returns-in-Some-Some-Some-clause-checked
returns-in-Some-Some-Some-clause-checked c =
    c.check_values.ensures.checked
    ∙ sym (three_numbers _ _ _ _ _ _ _ _ _ (omega arith) (grind arith) c.field.ensures c.field-2.ensures c.field-3.ensures
    (sym c.in-Some-Some-Some.is-0 ∙ c.number-size.ensures)
    (sym c.in-Some-Some-Some.is-1 ∙ c.number-pages.ensures)
    (sym c.in-Some-Some-Some.is-2 ∙ c.number-batch.ensures))

pub returns-in_default-clause-checked : goal.returns-in_default-clause-checked
returns-in_default-clause-checked c =
    sym (three_numbers _ _ _ _ _ _ _ _ _ (omega arith) (grind arith) c.field.ensures c.field-2.ensures c.field-3.ensures
    (sym c.in_default.is-0 ∙ c.number-size.ensures)
    (sym c.in_default.is-1 ∙ c.number-pages.ensures)
    (sym c.in_default.is-2 ∙ c.number-batch.ensures))

pub returns-in_default-2-clause-checked : goal.returns-in_default-2-clause-checked
returns-in_default-2-clause-checked c =
    sym (three_numbers _ _ _ _ _ _ _ _ _ (omega arith) (grind arith) c.field.ensures c.field-2.ensures c.field-3.ensures
    (sym c.in_default.is-0 ∙ c.number-size.ensures)
    (sym c.in_default.is-1 ∙ c.number-pages.ensures)
    c.number-batch.ensures)

pub returns-in_default-3-clause-checked : goal.returns-in_default-3-clause-checked
returns-in_default-3-clause-checked c =
    sym (three_numbers _ _ _ _ _ _ _ _ _ (omega arith) (grind arith) c.field.ensures c.field-2.ensures c.field-3.ensures
    (sym c.in_default.is-0 ∙ c.number-size.ensures)
    c.number-pages.ensures
    c.number-batch.ensures)
