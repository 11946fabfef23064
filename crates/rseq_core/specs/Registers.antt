-- The registers of a thread before its first act, and as they are set for a sequence.
use Rattle.std.specs.Prelude.{[]}
use Rattle.tc_units.specs.declared.units.Class.{Class}
use Rattle.tc_units.specs.declared.units.ThreadNo.{ThreadNo}
use Rattle.rseq_core.specs.declared.sequence.Seq.{Seq}
use Rattle.rseq_core.specs.declared.sequence.Seq.TheVariants as seq
use Rattle.rseq_core.specs.declared.sequence.Pc.TheVariants.{Begin}
use Rattle.rseq_core.specs.declared.regs.Regs.{Regs}
use Rattle.rseq_core.specs.Rooms.{hand_room, loaded_room}

-- nothing is in hand, and a pop is at its begin
abbrev pub first_regs : ThreadNo → Regs
first_regs thread =
    record {
      thread = thread;
      class = record { 0 = 0 };
      seq = seq.Pop;
      pc = Begin;
      epoch = 0;
      top = 0;
      count = 0;
      ran = 0;
      hand = record { items = []; spare = hand_room };
      loaded = record { items = []; spare = loaded_room };
    }

-- registers that are set for a sequence of a class
abbrev pub set_for : Class → Seq → Regs → Regs
set_for class s r = record r { class = class; seq = s; pc = Begin }
