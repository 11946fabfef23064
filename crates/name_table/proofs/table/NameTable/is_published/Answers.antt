use Rattle.std.proofs.Common.{arith}
use Rattle.name_table.proofs.Slots.{has_slot, means}
use Rattle.name_table.proofs.table.NameTable.is_published.Goals as goal

pub index-requires : goal.index-requires
index-requires c = omega (arith, has_slot _ _ _ c.self.view_is c.self.invariant c.args.label.0 c.requires)

pub returns-clause-published : goal.returns-clause-published
returns-clause-published c =
    grind (arith, means _ _ _ c.self.view_is c.self.invariant c.args.label.0 c.requires c.index.result.now (record { 0 = 0 }), c.index.ensures)

pub returns-clause-unpublished : goal.returns-clause-unpublished
returns-clause-unpublished c =
    grind (arith, means _ _ _ c.self.view_is c.self.invariant c.args.label.0 c.requires c.index.result.now (record { 0 = 0 }), c.index.ensures)
