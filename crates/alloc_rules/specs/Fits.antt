-- The part is the one that the next act is on, and fits it; and the thread has done few acts.
use Rattle.std.specs.Prelude.{◌≤◌, List}
use Rattle.tc_units.specs.declared.spans.ClassRow.{ClassRow}
use Rattle.tc_model.specs.Limits.{most_picks}
use Rattle.rseq_core.specs.declared.regs.Regs.{Regs}
use Rattle.call_steps.specs.Local.{Local}
use Rattle.alloc_rules.specs.declared.part.Part.{Part}
use Rattle.alloc_rules.specs.declared.part.Part.TheVariants as part
use Rattle.call_steps.specs.Fits.{FitsFront, FitsShard, FitsHeap, FitsMap, FitsNames}

module _ {P V R : Type 0} (rows : List ClassRow) (fits : P → V → Regs → R → Type 0) where
  abbrev pub fits_step : Part P → Local V R → Type 0
  fits_step (part.Front p) l = FitsFront fits p l l.step
  fits_step (part.Shard s) l = FitsShard rows s l l.step
  fits_step (part.Heap heap) l = FitsHeap rows heap l l.step
  fits_step (part.Map map) l = FitsMap map l l.step
  fits_step (part.Names names) l = FitsNames names l.step

  pub record Fits (p : Part P) (l : Local V R) : Type 0 where
    pub step : fits_step p l
    pub few : l.acts ≤ most_picks
