use Rattle.std.proofs.Common.{not, ap, ◌∙◌, arith}
use Rattle.tc_units.specs.declared.rows.RowKind.TheVariants as kind
use Rattle.huge_table.proofs.Common.{is_kind, shares}
use Rattle.huge_table.proofs.tests.are.Goals as goal

pub returns-clause-free : goal.returns-clause-free
returns-clause-free c _ e = record { from = omega arith; to = omega arith; all = λ h a b. ap (is_kind kind.Free) (c.loop-place.invariant h a (omega arith) ∙ e) }

pub returns-clause-filler : goal.returns-clause-filler
returns-clause-filler c _ e = record { from = omega arith; to = omega arith; all = λ h a b. ap (is_kind kind.Filler) (c.loop-place.invariant h a (omega arith) ∙ e) }

pub returns-clause-run : goal.returns-clause-run
returns-clause-run c _ e = record { from = omega arith; to = omega arith; all = λ h a b. ap (λ k. not (shares k)) (c.loop-place.invariant h a (omega arith) ∙ e) }

pub returns-clause-region : goal.returns-clause-region
returns-clause-region c _ e = record { from = omega arith; to = omega arith; all = λ h a b. ap (is_kind kind.Region) (c.loop-place.invariant h a (omega arith) ∙ e) }
