-- A thread as the front-end sees it: its seat there, its registers, and where it stands with a row.
use Rattle.std.specs.Prelude.{ℕ, Option, Some, None}
use Rattle.tc_units.specs.declared.units.Class.{Class}
use Rattle.rseq_core.specs.declared.regs.Regs.{Regs}
use Rattle.call_steps.specs.declared.step.Giving.{Giving}
use Rattle.call_steps.specs.declared.step.Giving.TheVariants as giving
use Rattle.call_steps.specs.declared.step.Onward.TheVariants as onward
use Rattle.call_steps.specs.declared.step.Next.{Next}
use Rattle.call_steps.specs.declared.step.Next.TheVariants as next
use Rattle.call_steps.specs.declared.step.Step.{Step}
use Rattle.call_steps.specs.Local.{Local}
use Rattle.call_steps.specs.Rows.{InHand, step_rule}
use Rattle.call_steps.specs.Rows as has

-- where a thread stands with a row of the front-end: that is its next act, or comes for a class behind acts elsewhere, or
-- there is none
pub data At (R : Type 0) : Type 0 where
  Here : R → At R
  Later : Class → R → At R
  Away : At R

-- a thread by its seat, its registers, how many acts it has done, and where it stands
pub record Standing (V R : Type 0) : Type 0 where
  pub seat : V
  pub regs : Regs
  pub acts : ℕ
  pub at : At R

abbrev pub stand : {V R : Type 0} → V → Regs → ℕ → At R → Standing V R
stand v g n at = record { seat = v; regs = g; acts = n; at = at }

-- at a row that comes next, if any
abbrev pub at_row : {R : Type 0} → Option R → At R
at_row None = Away
at_row (Some row) = Here row

-- by what the row at its step has in hand: one may come once a hand is given away, or once spans are given back
abbrev pub at_hand : {R : Type 0} → InHand R → At R
at_hand (has.OfFront row) = Here row
at_hand (has.Gives (giving.Row k row)) = Later k row
at_hand (has.GivesSpans (onward.Row k row)) = Later k row
at_hand other = Away

abbrev pub at_step : {R : Type 0} → Step R → At R
at_step s = at_hand (step_rule s).hand

abbrev pub standing_of : {V R : Type 0} → Local V R → Standing V R
standing_of l = record { seat = l.seat; regs = l.regs; acts = l.acts; at = at_step l.step }

-- Right behind an act of the front-end: a hand that it took itself lets the row come at once, for its class.
abbrev pub at_gave : {R : Type 0} → Giving R → At R
at_gave (giving.Row k row) = Here row
at_gave other = Away

abbrev pub at_next : {R : Type 0} → Next R → At R
at_next (next.Row row) = Here row
at_next (next.Give g) = at_hand (has.Gives g)
at_next (next.Gave g) = at_gave g
at_next (next.Decide answer row) = at_row row
at_next other = Away

abbrev pub regs_gave : {R : Type 0} → Regs → Giving R → Regs
regs_gave g (giving.Row k row) = record g { class = k }
regs_gave g other = g

abbrev pub regs_next : {R : Type 0} → Regs → Next R → Regs
regs_next g (next.Gave v) = regs_gave g v
regs_next g other = g
