-- The per-CPU caches as a front-end: with which of their rows calls begin and go on, and what their acts leave.
use Rattle.std.specs.Prelude.{Bool, true, List, Option, Some, None, option_and_then}
use Rattle.tc_units.specs.declared.spans.ClassRow.{ClassRow}
use Rattle.tc_model.specs.declared.calls.Call.{Call}
use Rattle.tc_model.specs.declared.calls.Call.TheVariants.{Drain, Resize}
use Rattle.tc_model.specs.declared.calls.MoveTo.{MoveTo}
use Rattle.tc_model.specs.declared.calls.Planned.{Planned}
use Rattle.rseq_core.specs.declared.cpu_part.CpuPart.{CpuPart}
use Rattle.rseq_core.specs.declared.regs.Regs.{Regs}
use Rattle.rseq_core.specs.declared.sequence.Seq.{Seq}
use Rattle.rseq_core.specs.declared.sequence.Seq.TheVariants as seq
use Rattle.cpu_rows.specs.declared.seat.CpuSeat.{CpuSeat}
use Rattle.cpu_rows.specs.declared.row.Stopping.TheVariants as stopping
use Rattle.call_steps.specs.declared.step.Step.TheVariants as step
use Rattle.cpu_rows.specs.declared.row.CpuRow.{CpuRow}
use Rattle.cpu_rows.specs.declared.row.CpuRow.TheVariants as front
use Rattle.cpu_rows.specs.declared.row.CpuStep.{CpuStep}
use Rattle.cpu_rows.specs.declared.row.CpuStep.TheVariants.{Pop, Stock, Push, Stop, Leave}
use Rattle.cpu_rows.specs.PerCpu.{CpuLocal, Step}
use Rattle.call_steps.specs.Fronts.{FrontCalls}
use Rattle.rseq_core.specs.Registers.{set_for}
use Rattle.call_steps.specs.Calls.{About, call_about}
use Rattle.call_steps.specs.Follows.{follows}
use Rattle.cpu_rows.specs.CpuRows.{about_cpu}
use Rattle.cpu_rows.specs.CpuActs.{Left, cpu_acts, yields_row}

-- the registers are set for a sequence of their class
abbrev pub to_sequence : Seq → Regs → Regs
to_sequence s r = set_for r.class s r

-- a call begins with the move that is planned with it
abbrev pub with_move : CpuSeat → Option Planned → CpuSeat
with_move v o = record v { moved = option_and_then (λ (p : Planned). p.moved) o }

-- a drain or a resize stops its CPU first
abbrev pub stop_row : Call → Option CpuRow
stop_row (Drain cpu) = Some (front.Cpu (Stop (stopping.Drain (record { cpu = cpu; taken = 0 }))))
stop_row (Resize cpu class cap) = Some (front.Cpu (Stop (stopping.Resize (record { cpu = cpu; class = class; cap = cap }))))
stop_row call = None

abbrev pub to_stop : Call → Regs → Regs
to_stop (Drain cpu) r = set_for (record { 0 = 0 }) seq.Pop r
to_stop (Resize cpu class cap) r = set_for class seq.Pop r
to_stop call r = r

-- with a move pending the thread is to leave before it comes to the next call
abbrev pub leave_row : Option MoveTo → Option CpuRow
leave_row None = None
leave_row (Some move) = Some (front.Cpu Leave)

abbrev pub cpu_calls : List ClassRow → FrontCalls CpuSeat CpuRow
cpu_calls rows =
    record {
      rows = rows;
      begins = with_move;
      first = λ v a. Some (front.Cpu (Pop a));
      to_first = to_sequence seq.Pop;
      rest = λ v s. Some (front.Cpu (Stock s));
      to_rest = to_sequence seq.PushBatch;
      free = λ v f. Some (front.Cpu (Push f));
      to_free = to_sequence seq.Push;
      other = λ v call. stop_row call;
      to_other = to_stop;
      last = λ v. leave_row v.moved;
    }

-- what an act of a row at a CPU leaves of it and its thread, with what comes behind it
abbrev pub with_next : {P : Type 0} → List ClassRow → CpuLocal → About → Left P → P × CpuLocal
with_next rows l about x = (x.part, follows (cpu_calls rows) (record l { seat = x.seat; regs = x.regs }) (call_about about) x.next)

abbrev pub cpu_row : List ClassRow → CpuPart → CpuLocal → CpuStep → CpuPart × CpuLocal
cpu_row rows p l row = with_next rows l (about_cpu row) (cpu_acts rows p l.seat l.regs row)

-- whether an act at a CPU is polite, by the step
abbrev pub yields_for : CpuPart → CpuLocal → Step → Bool
yields_for p l (step.Front (front.Cpu row)) = yields_row p l.seat l.regs row
yields_for p l other = true
