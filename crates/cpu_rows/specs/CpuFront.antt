-- The per-CPU caches as a front-end: its parts, what they hold, and its rules.
use Rattle.std.specs.Prelude.{ℕ, ◌%◌, ◌==◌, if◌then◌else◌, Bool, true, false, List, [], ◌++◌, length, map, replicate, None}
use Rattle.std.specs.List.{range_with_len, flat_map}
use Rattle.tc_units.specs.declared.spans.ClassRow.{ClassRow}
use Rattle.tc_model.specs.declared.config.Config.{Config}
use Rattle.cpu_slab.specs.Slots as slots
use Rattle.cpu_slab.specs.Slots.{row_at, held}
use Rattle.rseq_core.specs.declared.cpu_part.CpuPart.{CpuPart}
use Rattle.rseq_core.specs.declared.regs.Regs.{Regs}
use Rattle.holdings.specs.Runs.{objects_at}
use Rattle.cpu_rows.specs.declared.seat.CpuSeat.{CpuSeat}
use Rattle.cpu_rows.specs.declared.row.CpuRow.{CpuRow}
use Rattle.cpu_rows.specs.declared.row.CpuRow.TheVariants as front
use Rattle.call_steps.specs.declared.step.Next.TheVariants as next
use Rattle.cpu_rows.specs.CpuRows.{cpu_place}
use Rattle.cpu_rows.specs.CpuActs.{Left, cpu_acts, domain_acts, yields_row}
use Rattle.cpu_rows.specs.CpuCalls.{cpu_calls}
use Rattle.cpu_rows.specs.CpuRows.{cpu_refuses}
use Rattle.call_steps.specs.Fronts.{FrontRules, leaving}
pub use Rattle.cpu_rows.specs.declared.part.CpuFrontPart.{CpuFrontPart}
pub use Rattle.cpu_rows.specs.declared.part.CpuFrontPart.TheVariants.{Cpu, Domain}

-- how many objects of a class are at an address there
abbrev pub cpu_stored : CpuFrontPart → ℕ → ℕ → ℕ
cpu_stored (Cpu p) k n = objects_at n (held (row_at p.slab k))
cpu_stored (Domain c t) k n = if c.0 == k then objects_at n t.objects else 0

-- what an act leaves
abbrev pub front_acts : List ClassRow → CpuFrontPart → CpuSeat → Regs → CpuRow → Left CpuFrontPart
front_acts rows (Cpu p) v g (front.Cpu row) = let x = cpu_acts rows p v g row in leaving (Cpu x.part) x.seat x.regs x.next
front_acts rows (Domain c t) v g (front.Domain row) = let x = domain_acts rows t v g row in leaving (Domain c x.part) x.seat x.regs x.next
front_acts rows p v g row = leaving p v g (next.Row row)

-- whether it is polite
abbrev pub front_yields : CpuFrontPart → CpuSeat → Regs → CpuRow → Bool
front_yields (Cpu p) v g (front.Cpu row) = yields_row p v g row
front_yields p v g row = true

-- the parts at the start: the CPUs, and behind them for each domain its caches by classes
abbrev pub first_cpu : List ClassRow → Config → CpuPart
first_cpu rows c =
    record {
      running = None;
      epoch = 0;
      is_open = false;
      ran = 0;
      stopper = None;
      fenced = false;
      slab = slots.opened rows c.slab c.percpu;
    }

abbrev pub first_cache : Config → ℕ → CpuFrontPart
first_cache c k = Domain (record { 0 = k }) (record { objects = []; room = c.transfer })

abbrev pub domain_caches : List ClassRow → Config → List CpuFrontPart
domain_caches rows c = map (first_cache c) (range_with_len 0 (length rows))

abbrev pub all_caches : ℕ → List CpuFrontPart → List CpuFrontPart
all_caches domains caches = flat_map (λ (one : List CpuFrontPart). one) (replicate domains caches)

abbrev pub front_parts : List ClassRow → Config → List CpuFrontPart
front_parts rows c = replicate c.cpus (Cpu (first_cpu rows c)) ++ all_caches c.domains (domain_caches rows c)

-- the rules of the per-CPU caches, under a class table and the heads of a trace; thread t starts at CPU t mod cpus
abbrev pub cpu_front : List ClassRow → Config → FrontRules CpuFrontPart CpuSeat CpuRow
cpu_front rows c =
    record {
      parts = front_parts rows c;
      split = c.cpus;
      seats = λ t. record { cpu = record { 0 = t % c.cpus }; moved = None; domains = c.domains };
      calls = cpu_calls rows;
      place = cpu_place c.cpus (length rows);
      acts = front_acts rows;
      yields = front_yields;
      stored = cpu_stored;
      refuses = cpu_refuses;
    }
