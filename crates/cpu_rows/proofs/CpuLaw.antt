-- The per-CPU caches meet the law of a front-end.
use Rattle.std.proofs.Common.{◌≡◌, ℕ, ◌+◌, ◌*◌, ◌≤◌, List, length, Some, sym, ◌∙◌, subst, arith, slice_get, slice_set}
use Rattle.cpu_rows.proofs.Common.{ClassRow, Config, MOST_PICKS, Input, set_there, CpuPart, Regs, Transfer, CpuSeat, CpuRow, CpuStep, DomainStep, cpu_acts}
use Rattle.cpu_rows.proofs.Common.{domain_acts, at_cpu, domain_of, about_row, FitsDomain, AreRows, DomainShape, Here, Standing, stand, regs_next, at_next}
use Rattle.cpu_rows.proofs.Common.{IsReady, IsAct, IsLawful, CpuFrontPart, Cpu, Domain, front_acts, cpu_front, cpu_planned, cpu_fits, CpuHolds}
use Rattle.cpu_rows.proofs.Common.{IsValidInput, limits_of, AreCpuLimits, CpuIsLawful}
use Rattle.alloc_rules.specs.Valid.{AreLimits}
use Rattle.cpu_rows.specs.declared.row.CpuRow.TheVariants as front
use Rattle.cpu_rows.specs.declared.row.CpuStep.TheVariants as cpu
use Rattle.cpu_rows.proofs.Entries as entries
use Rattle.cpu_rows.proofs.{Anywhere.cpu_keeps, Anywhere.refuses, Entries.cpu_entries, Threads.comes}
use Rattle.cpu_rows.proofs.Acts.{Does, IsThere, Turn}
use Rattle.cpu_rows.proofs.Domains.{Leaves, domain_fits, domain_leaves}
use Rattle.cpu_rows.proofs.Parts.{cache_changes, cpu_changes, cpu_low, domain_low}
use Rattle.cpu_rows.proofs.Sequences.{batch_does, grow_does_all, pop_does, push_does, stock_does}
use Rattle.cpu_rows.proofs.Start.{holds_first, none_first, split_first}
use Rattle.cpu_rows.proofs.Stops.{fence_does, leave_does, set_cap_does, start_does, stop_does, take_does_all}

-- each act at a CPU
cpu_does : (turn : Turn) (row : CpuStep) → IsThere turn row → Does turn row
cpu_does turn (cpu.Pop a) there = pop_does turn a there
cpu_does turn (cpu.Grow a) there = grow_does_all turn a there
cpu_does turn (cpu.Stock s) there = stock_does turn s there
cpu_does turn (cpu.Push f) there = push_does turn f there
cpu_does turn (cpu.PopBatch f) there = batch_does turn f there
cpu_does turn (cpu.Stop s) there = stop_does turn s there
cpu_does turn (cpu.Fence s) there = fence_does turn s there
cpu_does turn (cpu.Take s) there = take_does_all turn s there
cpu_does turn (cpu.SetCap x) there = set_cap_does turn x there
cpu_does turn (cpu.Start s) there = start_does turn s there
cpu_does turn cpu.Leave there = leave_does turn there

module _ (rows : List ClassRow) (c : Config) where
  passes : (n : ℕ) (ps : List CpuFrontPart) (us : List (Standing CpuSeat CpuRow)) → CpuHolds rows c n ps us → CpuHolds rows c (n + 1) ps us
  passes n ps us h = grind arith

  module _ (are : AreRows rows) (n : ℕ) (ps : List CpuFrontPart) (us : List (Standing CpuSeat CpuRow)) (t : ℕ) (v : CpuSeat) (g : Regs) (count : ℕ)
      (few : n ≤ MOST_PICKS) (le : count ≤ n) (h : CpuHolds rows c n ps us) where
    abbrev after : CpuFrontPart → CpuRow → Standing CpuSeat CpuRow
    after p row = let x = front_acts rows p v g row in stand x.seat (regs_next x.regs x.next) (count + 1) (at_next x.next)

    -- the part of a row, and what its act there fits and does
    record Acted (i : ℕ) (row : CpuRow) : Type 0 where
      pub part : CpuFrontPart
      pub there : slice_get ps i ≡ Some part
      pub fit : cpu_fits rows part v g row
      pub act : IsAct (cpu_front rows c) about_row part g row (front_acts rows part v g row)
      pub holds : CpuHolds rows c (n + 1) (slice_set ps i (front_acts rows part v g row).part) (slice_set us t (after part row))

    cpu_acted : (row : CpuStep) → slice_get us t ≡ Some (stand v g count (Here (front.Cpu row))) → IsReady (cpu_front rows c) t g (about_row (front.Cpu row))
        → Acted (at_cpu v.cpu row).0 (front.Cpu row)
    cpu_acted row own ready =
        let i : ℕ = (at_cpu v.cpu row).0 in
        let s = h.threads t (stand v g count (Here (front.Cpu row))) own in
        let found = h.placed.cpu i (cpu_low (limits_of rows c) v g row s.home s.regs) in
        let p : CpuPart = found.0 in
        let low = h.epoch_is_within_picks i p found.1 in
        let w : Turn = record { rows = rows; config = c; thread = t; part = p; seat = v; regs = g; acts = count } in
        let there : IsThere w row =
        let pair = h.seats_agree i t p (stand v g count (Here (front.Cpu row))) found.1 own in
        record { are = are; sits = s; ready = ready; part = h.cpu_is_sound i p found.1; pair = pair; epoch = omega (arith, low, few); acts = omega (arith, le, few) } in
        let d : Does w row = cpu_does w row there in
        record {
          part = Cpu p;
          there = found.1;
          fit = (d.fits, let ran = s.ran in omega (arith, ran, le, few));
          act = d.acts.act;
          holds = cpu_changes rows c n i t ps us p (cpu_acts rows p v g row).part (stand v g count (Here (front.Cpu row))) (after (Cpu p) (front.Cpu row))
              found.1 own d.acts.keeps ((cpu_keeps rows c p v g row).slab (h.slab_is_of_heads i p found.1)) d.acts.epoch d.acts.sits h;
        }

    domain_acted : (row : DomainStep) → slice_get us t ≡ Some (stand v g count (Here (front.Domain row)))
        → IsReady (cpu_front rows c) t g (about_row (front.Domain row)) → Acted (c.cpus + domain_of v * length rows + g.class.0) (front.Domain row)
    domain_acted row own ready =
        let i : ℕ = c.cpus + domain_of v * length rows + g.class.0 in
        let was : Standing CpuSeat CpuRow = stand v g count (Here (front.Domain row)) in
        let s = h.threads t was own in
        let shape : DomainShape (limits_of rows c) v g row = s.regs in
        let found = h.placed.cache (domain_of v) g.class.0 (omega (arith, domain_low (limits_of rows c) v g row shape, s.domains)) ready.class in
        let q : Transfer = found.0 in
        let fits : FitsDomain rows g row = domain_fits rows c t q v g row shape ready.room ready.class are in
        let x = domain_acts rows q v g row in
        let leaves : Leaves rows c t q v g row x = domain_leaves rows c t q v g row shape fits ready.class are in
        let there : CpuHolds rows c n (slice_set ps i (Domain g.class x.part)) us = cache_changes rows c n ps us i g.class q x.part found.1
        (leaves.room (h.cache_has_room i g.class q found.1)) h in
        let back : CpuHolds rows c n (slice_set ps i (Domain g.class x.part)) (slice_set us t was) = subst
        (CpuHolds rows c n (slice_set ps i (Domain g.class x.part))) (sym (set_there us t was own)) there in
        let new = comes rows c n t (slice_set ps i (Domain g.class x.part)) us v g (regs_next x.regs x.next) count (count + 1) (Here (front.Domain row))
        (at_next x.next) (omega arith) leaves.keeps (λ r. leaves.comes) back in
        record {
          part = Domain g.class q;
          there = found.1;
          fit = fits;
          act = leaves.act;
          holds = passes n (slice_set ps i (Domain g.class x.part)) (slice_set us t (after (Domain g.class q) (front.Domain row)))
              (subst (λ (w : CpuSeat). CpuHolds rows c n (slice_set ps i (Domain g.class x.part))
              (slice_set us t (stand w (regs_next x.regs x.next) (count + 1) (at_next x.next)))) (sym leaves.seat) new);
        }

    acted : (row : CpuRow) → slice_get us t ≡ Some (stand v g count (Here row)) → IsReady (cpu_front rows c) t g (about_row row)
        → Acted ((cpu_front rows c).place v g row) row
    acted row own ready = grind (arith, cpu_acted, domain_acted)

    -- the part is the one that is there
    same_part : (i : ℕ) (row : CpuRow) (p : CpuFrontPart) (x : Acted i row) → slice_get ps i ≡ Some p → x.part ≡ p
    same_part i row p x at = let e : Some x.part ≡ Some p = sym x.there ∙ at in cc

pub cpu_law : CpuIsLawful
cpu_law rows c are limits =
    record {
      start = holds_first rows c are limits;
      none = none_first rows c;
      split = split_first rows c;
      ready = λ n ps us t v g count row few le h own ready. (let x = acted rows c are n ps us t v g count few le h row own ready in
          record { part = x.part; there = x.there; fit = x.fit });
      does = λ n ps us t p v g count row few le h own at ready.
          (let x = acted rows c are n ps us t v g count few le h row own ready in
          subst (λ (q : CpuFrontPart). IsAct (cpu_front rows c) about_row q g row (front_acts rows q v g row))
          (same_part rows c are n ps us t v g count few le h ((cpu_front rows c).place v g row) row p x at) x.act);
      acts = λ n ps us t p v g count row few le h own at ready.
          (let x = acted rows c are n ps us t v g count few le h row own ready in
          let i : ℕ = (cpu_front rows c).place v g row in
          subst (λ (q : CpuFrontPart). CpuHolds rows c (n + 1) (slice_set ps i (front_acts rows q v g row).part)
          (slice_set us t (let y = front_acts rows q v g row in stand y.seat (regs_next y.regs y.next) (count + 1) (at_next y.next))))
          (same_part rows c are n ps us t v g count few le h i row p x at) x.holds);
      passes = passes rows c;
      away = λ n ps us t v g count more k hand le low room h. entries.away rows c n ps us t v g count more k hand le h;
      waits = λ n ps us t v g count more j row hand le room h. entries.waits rows c n ps us t v g count more j row hand le h;
      back = λ n ps us t v g count more k row hand le room none h. entries.back rows c n ps us t v g count more k row hand le none h;
      begins = λ n ps us t v g count o planned none h. entries.begins rows c n ps us t v g count o planned h;
      restarts = entries.restarts rows c;
      firsts = entries.firsts rows c;
      rests = entries.rests rows c;
      frees = entries.frees rows c;
      others_begin = λ n ps us t v g count p planned own none h. entries.others_begin rows c n ps us t v g count p.call planned.call own none h;
      lasts = entries.lasts rows c;
      entries = cpu_entries rows c;
      other_class = λ p g planned own. (entries.other rows c p.call).class g are planned.call own;
      other_there = λ v p planned own. (entries.other rows c p.call).there own;
      refuses = refuses rows c;
    }

-- a valid input's heads are such
pub cpu_limits : (c : Config) → AreLimits c → AreCpuLimits c
cpu_limits c limits = record { cpus = limits.cpus; slab = limits.slab; slots = limits.slots; percpu = limits.percpu }

-- so they do under the table and the heads of a valid input
pub lawful_in : (input : Input) → IsValidInput input
    → IsLawful (cpu_front input.rows input.asked.config) about_row (cpu_planned input.rows input.asked.config) (CpuHolds input.rows input.asked.config) (cpu_fits input.rows)
lawful_in input valid = cpu_law input.rows input.asked.config valid.rows (cpu_limits input.asked.config valid.limits)
