-- One instruction of a sequence: one cell of the table of Begin, Header, Test, Copy and Commit by pops and pushes. A pop is a batch of one, and so is a push.
use Rattle.std.specs.Prelude.{ℕ, ◌+◌, ◌-◌, Bool, true, false, ◌==◌, nat_lt, List, [], ◌∷◌, length, min, Option, Some, None, if◌then◌else◌}
use Rattle.std.specs.List.{slice_index_or}
use Rattle.tc_units.specs.declared.units.Addr.{Addr}
use Rattle.cpu_slab.specs.Slots.{SlabRow, null, slot_of, stored}
use Rattle.rseq_core.specs.declared.sequence.Seq.{Seq}
use Rattle.rseq_core.specs.declared.sequence.Seq.TheVariants.{Pop, Push, PopBatch, PushBatch}
use Rattle.rseq_core.specs.declared.sequence.Pc.{Pc}
use Rattle.rseq_core.specs.declared.sequence.Pc.TheVariants.{Begin, Header, Test, Copy, Commit}
use Rattle.rseq_core.specs.declared.sequence.Reply.{Reply}
use Rattle.rseq_core.specs.declared.sequence.Reply.TheVariants.{Popped, Pushed, Empty, Full, Stopped}
use Rattle.rseq_core.specs.declared.regs.Regs.{Regs}
use Rattle.rseq_core.specs.Bags.{appended, without_first, emptied}

-- what an instruction leaves of the row and the registers, and what the sequence replies, if it ends
pub record Cell : Type 0 where
  pub row : SlabRow
  pub regs : Regs
  pub reply : Option Reply

-- whether a sequence pops
abbrev pub is_pop : Seq → Bool
is_pop Pop = true
is_pop (PopBatch n) = true
is_pop Push = false
is_pop PushBatch = false

-- how many objects a sequence is for, with this hand
abbrev pub wanted : Seq → List Addr → ℕ
wanted Pop hand = 1
wanted (PopBatch n) hand = n
wanted Push hand = min 1 (length hand)
wanted PushBatch hand = length hand

-- the sequence goes on at this instruction
abbrev pub goes : SlabRow → Regs → Pc → Cell
goes row r pc = record { row = row; regs = record r { pc = pc; ran = r.ran + 1 }; reply = None }

-- an exit or a commit closes the sequence with its reply; then nothing is loaded
abbrev pub closes : SlabRow → Regs → Reply → Cell
closes row r reply = record { row = row; regs = record r { pc = Begin; loaded = emptied r.loaded; ran = r.ran + 1 }; reply = Some reply }

-- so many of so many are copied, and after the last comes the commit
abbrev pub copy_or_commit : ℕ → ℕ → Pc
copy_or_commit done count = if nat_lt done count then Copy done else Commit

-- so many are to be copied
abbrev pub counted : SlabRow → Regs → ℕ → Cell
counted row r k = goes row (record r { count = k }) (copy_or_commit 0 k)

-- The table, by whether the CPU is stopped, whether the sequence pops, and the instruction.
abbrev pub cell : Bool → Bool → SlabRow → Regs → Pc → Cell
cell stopped pops row r Begin = goes row r Header
cell true pops row r Header = closes row r Stopped
cell false pops row r Header = goes row (record r { top = row.top }) Test
cell stopped true row r Test = if r.top == 0 then closes row r Empty else counted row r (min (wanted r.seq r.hand.items) r.top)
cell stopped false row r Test = if r.top == row.cap then closes row r Full else counted row r (min (wanted r.seq r.hand.items) (row.cap - r.top))
cell stopped true row r (Copy done) =
    goes row (record r { loaded = appended r.loaded (slot_of row (r.top - (done + 1)) ∷ []) }) (copy_or_commit (done + 1) r.count)
cell stopped false row r (Copy done) = goes (stored row (r.top + done) (slice_index_or r.hand.items done null)) r (copy_or_commit (done + 1) r.count)
cell stopped true row r Commit = closes (record row { top = r.top - r.count }) (record r { hand = appended r.hand r.loaded.items }) Popped
cell stopped false row r Commit = closes (record row { top = r.top + r.count }) (record r { hand = without_first r.count r.hand }) (Pushed r.count)
