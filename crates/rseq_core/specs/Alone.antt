-- A sequence whose instructions all run with no act between them.
use Rattle.std.specs.Prelude.{◌≡◌, ℕ, zero, suc, ◌+◌, ◌-◌, ◌<◌, Bool, true, false, [], min, Option, Some, None}
use Rattle.cpu_slab.specs.Slots.{SlabRow}
use Rattle.cpu_slab.specs.Sound.{IsSoundRow}
use Rattle.rseq_core.specs.declared.sequence.Pc.{Pc}
use Rattle.rseq_core.specs.declared.sequence.Pc.TheVariants.{Begin}
use Rattle.rseq_core.specs.declared.sequence.Reply.{Reply}
use Rattle.rseq_core.specs.declared.sequence.Reply.TheVariants.{Popped, Pushed, Empty, Full, Stopped}
use Rattle.rseq_core.specs.declared.regs.Regs.{Regs}
use Rattle.rseq_core.specs.Tables.{Cell, is_pop, wanted, cell}
use Rattle.rseq_core.specs.Agrees.{IsSilent, IsPop, IsPush}

-- the later instruction's effect, unless the sequence has replied
abbrev pub unless_replied : Option Reply → Cell → Cell → Cell
unless_replied None c later = later
unless_replied (Some reply) c later = c

-- an instruction and up to n more after it, until one replies
abbrev pub alone : ℕ → Bool → Bool → SlabRow → Regs → Pc → Cell
alone zero stopped pops row r pc = cell stopped pops row r pc
alone (suc n) stopped pops row r pc = unless_replied (cell stopped pops row r pc).reply (cell stopped pops row r pc) (alone n stopped pops (cell stopped pops row r pc).row (cell stopped pops row r pc).regs (cell stopped pops row r pc).regs.pc)

-- a pop that finds objects takes as many as it wants, or all
abbrev pub PopsWhole : Type 0
PopsWhole = (row : SlabRow) (r : Regs) → IsSoundRow row → r.loaded.items ≡ [] → is_pop r.seq ≡ true → 0 < wanted r.seq r.hand.items → 0 < row.top
    → (n : ℕ) → n ≡ 3 + min (wanted r.seq r.hand.items) row.top → let c = alone n false true row r Begin in (c.reply ≡ Some Popped) × IsPop row r c

-- a push that finds capacity adds as many as it has, or as there is capacity for
abbrev pub PushesWhole : Type 0
PushesWhole = (row : SlabRow) (r : Regs) → IsSoundRow row → r.loaded.items ≡ [] → is_pop r.seq ≡ false → 0 < wanted r.seq r.hand.items → row.top < row.cap
    → (n : ℕ) → n ≡ 3 + min (wanted r.seq r.hand.items) (row.cap - row.top) → let c = alone n false false row r Begin in (c.reply ≡ Some (Pushed (min (wanted r.seq r.hand.items) (row.cap - row.top)))) × IsPush row r c (min (wanted r.seq r.hand.items) (row.cap - row.top))

-- a sequence that finds no object, no capacity or a stopper changes nothing
abbrev pub ExitsAlone : Type 0
ExitsAlone = (row : SlabRow) (r : Regs) → ((row.top ≡ 0 → let c = alone 2 false true row r Begin in (c.reply ≡ Some Empty) × IsSilent row r c)
    × (row.top ≡ row.cap → let c = alone 2 false false row r Begin in (c.reply ≡ Some Full) × IsSilent row r c)
    × ((pops : Bool) → let c = alone 1 true pops row r Begin in (c.reply ≡ Some Stopped) × IsSilent row r c))
