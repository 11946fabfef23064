use Rattle.std.proofs.Common.{ap, sym, ◌∙◌, arith}
use Rattle.std.specs.List.{slice_set}
use Rattle.name_table.specs.declared.table.NameState.TheVariants.{Published}
use Rattle.name_table.specs.declared.table.Slot.TheVariants.{At, Null}
use Rattle.name_table.proofs.Slots.{has_slot, has_addr, with_slot, with_both}
use Rattle.name_table.proofs.table.NameTable.publish.Goals as goal

pub index_mut-requires : goal.index_mut-requires
index_mut-requires c = omega (arith, has_addr _ _ _ c.self.view_is c.self.invariant c.args.label.0 c.requires.below)

pub index_mut-requires-in-Some : goal.index_mut-requires-in-Some
index_mut-requires-in-Some c = omega (arith, has_slot _ _ _ c.self.view_is c.self.invariant c.args.label.0 c.requires.below)

pub index_mut-requires-in-None : goal.index_mut-requires-in-None
index_mut-requires-in-None c = omega (arith, has_slot _ _ _ c.self.view_is c.self.invariant c.args.label.0 c.requires.below)

pub returns-in-Some : goal.returns-in-Some
returns-in-Some c =
    with_both _ _ _ c.self.view_is c.self.invariant c.args.label.0 c.requires.below At c.in-Some.addr
    ∙ ap (λ v. slice_set c.args.self.now c.args.label.0 (Published v)) (sym c.in-Some.is)

pub returns-in-None : goal.returns-in-None
returns-in-None c =
    with_slot _ _ _ c.self.view_is c.self.invariant c.args.label.0 c.requires.below Null (record { 0 = 0 })
    ∙ ap (λ v. slice_set c.args.self.now c.args.label.0 (Published v)) (sym c.in-None.is)
