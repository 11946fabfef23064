-- The classes so far are those of the multiples of 8 bytes below this size.
use Rattle.std.proofs.Common.{◌≡◌, ◌*◌, ◌-◌, ◌<◌, ℕ, length}
use Rattle.std.specs.List.{slice_get}
use Rattle.tc_units.specs.Classes.{class_of}
use Rattle.size_classes.proofs.table.classes_of.Given as goal

abbrev pub invariant-loop-class : goal.invariant-loop-class
invariant-loop-class l = record {
  size : l.size ≡ 8 * length l.classes.items;
  each : (k : ℕ) → k < length l.classes.items → slice_get l.classes.items k ≡ class_of l.rows (8 * k);
}

abbrev pub decreases-loop-class : goal.decreases-loop-class
decreases-loop-class l = 262152 - l.size
