-- The laws: which objects an act moves, by its answer, and what else it keeps.
use Rattle.std.proofs.Common.{◌≡◌, ℕ, ◌+◌, ◌<◌, Bool, true, false, Option, Some, None, ap, ◌∙◌, arith}
use Rattle.std.specs.Option.{option_map_or}
use Rattle.std.proofs.lemmas.List.{length-take}
use Rattle.tc_units.specs.Bag.{Contents}
use Rattle.tc_units.specs.declared.units.Addr.{Addr}
use Rattle.cpu_slab.specs.Slots.{SlabRow, row_at, held}
use Rattle.cpu_slab.proofs.SlabFacts.{row_same, row_other, row_sound, row_slots}
use Rattle.rseq_core.specs.declared.sequence.Pc.{Pc}
use Rattle.rseq_core.specs.declared.sequence.Reply.{Reply}
use Rattle.rseq_core.specs.declared.sequence.Reply.TheVariants.{Popped, Pushed, Empty, Full, Stopped}
use Rattle.rseq_core.specs.declared.answers.Instructed.TheVariants.{Ran, Done}
use Rattle.rseq_core.specs.declared.regs.Regs.{Regs}
use Rattle.rseq_core.specs.declared.cpu_part.CpuPart.{CpuPart}
use Rattle.rseq_core.specs.Bags.{room, emptied}
use Rattle.rseq_core.specs.Tables.{Cell, is_pop, cell}
use Rattle.rseq_core.specs.Agrees.{Agrees, IsSilent, Does}
use Rattle.rseq_core.specs.Acts.{instruction, with_cell}
use Rattle.rseq_core.proofs.CellKept.{cell_ok}
use Rattle.rseq_core.proofs.Able.{KeepsRoom, able_from_agrees, cell_room}
use Rattle.cpu_drain.specs.Seats.{CpuOk}
use Rattle.cpu_drain.specs.Laws.{MovesNone, AnswerMoves, BeginsAfter, AreOfSame, Instructs, InstructDoes, Grows, GrowDoes, TakeDoes}
use Rattle.cpu_drain.proofs.Steps.{by_arrival}
use Rattle.cpu_drain.proofs.Lawful.{growth_keeps}

-- an instruction ends its sequence at the begin, and is counted
cell_begins : (stopped pops : Bool) (row : SlabRow) (r : Regs) (pc : Pc) → BeginsAfter (option_map_or Done (cell stopped pops row r pc).reply Ran) (cell stopped pops row r pc).regs
cell_begins x0 x1 row r x4 = grind (arith)

cell_ran : (stopped pops : Bool) (row : SlabRow) (r : Regs) (pc : Pc) → (cell stopped pops row r pc).regs.ran ≡ r.ran + 1
cell_ran x0 x1 row r x4 = grind (arith)

-- which sequence a reply is of
abbrev pub IsOfWay : Bool → Option Reply → Type 0
IsOfWay pops (Some Popped) = pops ≡ true
IsOfWay pops (Some (Pushed n)) = pops ≡ false
IsOfWay pops (Some Empty) = Unit {0}
IsOfWay pops (Some Full) = Unit {0}
IsOfWay pops (Some Stopped) = Unit {0}
IsOfWay pops None = Unit {0}

cell_way : (stopped pops : Bool) (row : SlabRow) (r : Regs) (pc : Pc) → IsOfWay pops (cell stopped pops row r pc).reply
cell_way x0 x1 row r x4 = grind (arith)

-- what its cell does moves the objects of its class's row
silent_moves : (old new : SlabRow) (r : Regs) (c : Cell) → new ≡ c.row → IsSilent old r c → MovesNone old new r c.regs
silent_moves old new r c is quiet = record { row = ap held is ∙ quiet.row; hand = quiet.hand }

cell_moves : (stopped : Bool) (old new : SlabRow) (r : Regs) (c : Cell) (o : Option Reply)
    → new ≡ c.row → IsOfWay (is_pop r.seq) o → Does stopped old r c o → AnswerMoves (option_map_or Done o Ran) old new r c.regs
cell_moves stopped old new r c x5 is way does = grind (arith)

room_emptied : (bag : Contents Addr) → room (emptied bag) ≡ room bag
room_emptied bag = omega arith

same_regs : (r after : Regs) → after.thread ≡ r.thread → after.class ≡ r.class → after.seq ≡ r.seq → KeepsRoom r after → AreOfSame r after
same_regs r after thread class seq rooms = record { thread = thread; class = class; seq = seq; hand_room = rooms.hand; loaded_room = rooms.loaded }

module _ (m : ℕ) (p : CpuPart) (r : Regs) (cpu : CpuOk m p) (low : r.class.0 < m) where
  goes_does : Agrees (is_pop r.seq) (row_at p.slab r.class.0) r r.pc
      → Instructs p r (record { cpu = with_cell p r (instruction p r); regs = (instruction p r).regs; answer = option_map_or Done (instruction p r).reply Ran })
  goes_does agrees = grind (
    arith,
    row_sound p.slab,
    cell_ok,
    row_other p.slab.rows,
    cell_moves,
    row_same p.slab.rows,
    cell_way,
    able_from_agrees,
    same_regs r,
    cell_room,
    cell_begins,
    cell_ran,
  )

pub instruct_does : InstructDoes
instruct_does m p r cpu low agrees = by_arrival (Instructs p r) _ _ _ p r (λ away. grind (arith, room_emptied)) (grind (arith, room_emptied)) (λ now. goes_does m p r cpu low (agrees now))

pub grow_does : GrowDoes
grow_does m p r cpu low = by_arrival (Grows p r) _ _ _ p r (λ away. grind (arith, room_emptied)) (grind (arith, room_emptied)) (λ now. grind (arith, growth_keeps p r.class.0 cpu.sound))

pub take_does : TakeDoes
take_does m k p out cpu low = grind (arith, row_sound, row_slots, length-take, row_other, row_same)
