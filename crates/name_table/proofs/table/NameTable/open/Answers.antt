use Rattle.std.proofs.Common.{ap, ◌∙◌}
use Rattle.name_table.specs.Names.{meanings}
use Rattle.name_table.proofs.Slots.{none_published}
use Rattle.name_table.proofs.table.NameTable.open.Goals as goal

pub returns : goal.returns
returns c =
    ap (λ slots. meanings slots c.in_ok-vec-2.field-0.items) (c.in_ok-vec.ensures.items_if_clones_equal (λ y is. is))
    ∙ (ap (meanings _) (c.in_ok-vec-2.ensures.items_if_clones_equal (λ y is. is)) ∙ none_published c.args.labels _)
