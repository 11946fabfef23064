use Rattle.std.proofs.Common.{◌≡◌, Some, get_or, ap, sym, ◌∙◌, arith}
use Rattle.std.specs.List.{slice_set}
use Rattle.tc_units.specs.declared.units.Addr.{Addr}
use Rattle.name_table.specs.declared.table.NameState.TheVariants as state
use Rattle.name_table.specs.declared.table.NameState.TheVariants.{Published}
use Rattle.name_table.specs.declared.table.NameTable.TheInside.{Inside}
use Rattle.name_table.specs.declared.table.Slot.{Slot}
use Rattle.name_table.specs.Names.{meaning, meanings}
use Rattle.name_table.specs.declared.table.Slot.TheVariants.{At, Null, Taken}
use Rattle.name_table.proofs.Slots.{has_slot, has_addr, means, with_slot}
use Rattle.name_table.proofs.table.NameTable.take.Goals as goal
use Rattle.name_table.proofs.table.NameTable.take.Goals.{in-At, in-Null}

pub index-requires : goal.index-requires
index-requires c = omega (arith, has_slot _ _ _ c.self.view_is c.self.invariant c.args.label.0 c.requires.below)

pub index-requires-in-At : goal.index-requires-in-At
index-requires-in-At c = omega (arith, has_addr _ _ _ c.self.view_is c.self.invariant c.args.label.0 c.requires.below)

pub index_mut-requires : goal.index_mut-requires
index_mut-requires c = grind (arith, has_slot _ _ _ c.self.view_is c.self.invariant c.args.label.0 c.requires.below)

pub returns-in-Unpublished-clause-not_yet : goal.returns-in-Unpublished-clause-not_yet
returns-in-Unpublished-clause-not_yet c =
    grind (arith, means _ _ _ c.self.view_is c.self.invariant c.args.label.0 c.requires.below c.index.result.now (record { 0 = 0 }), c.index.ensures)

pub returns-in-Unpublished-clause-taken : goal.returns-in-Unpublished-clause-taken
returns-in-Unpublished-clause-taken c =
    grind (arith, means _ _ _ c.self.view_is c.self.invariant c.args.label.0 c.requires.below c.index.result.now (record { 0 = 0 }), c.index.ensures)

pub returns-clause-not_yet : goal.returns-clause-not_yet
returns-clause-not_yet c =
    grind (arith, means _ _ _ c.self.view_is c.self.invariant c.args.label.0 c.requires.below c.index.result.now (record { 0 = 0 }), c.index.ensures)

pub returns-clause-taken : goal.returns-clause-taken
returns-clause-taken c =
    let t = c.self.inside in
    let i = c.args.label.0 in
    let is = λ (s : Slot) (found : c.index.result.now ≡ s) (e : Addr). means _ _ _ c.self.view_is c.self.invariant i c.requires.below c.index.result.now e
    ∙ ap (λ (x : Slot). meaning x (get_or t.addrs.items i e)) (sym c.index.ensures ∙ found) in
    let left : (now : Inside) → now ≡ t → meanings (slice_set now.slots.items i Taken) now.addrs.items ≡ slice_set c.args.self.now i state.Taken =
    λ now same. ap (λ (x : Inside). meanings (slice_set x.slots.items i Taken) x.addrs.items) same
    ∙ with_slot _ _ _ c.self.view_is c.self.invariant i c.requires.below Taken (record { 0 = 0 }) in
    elim c.match-index.branch [
      | in-At w ↦ (is At w.in-At.is w.index-in-At.result.now ∙ (ap (λ (a : Addr). Published (Some a)) (sym w.index-in-At.ensures) ∙ sym (ap Published w.value-is)), left _ w.self-inside-is)
      | in-Null w ↦ (is Null w.in-Null.is (record { 0 = 0 }) ∙ sym (ap Published w.value-is), left _ w.self-inside-is)
    ]
