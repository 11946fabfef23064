-- The part of a row is there, and a part changes with the standing of a thread.
use Rattle.std.proofs.Common.{◌≡◌, ℕ, ◌+◌, ◌*◌, ◌<◌, ◌≤◌, List, length, Some, refl, sym, ap, ◌∙◌, subst, arith, slice_get, slice_set}
use Rattle.std.proofs.lemmas.Bool.Decides.{nat_tests}
use Rattle.cpu_rows.proofs.Common.{mod-lt, cond_both, length-set, Class, ClassRow, Config, set_here, set_elsewhere, CpuPart, Regs, CpuOk, SeatOk, SeatKeeps}
use Rattle.cpu_rows.proofs.Common.{Transfer, CpuSeat, Stopping, CpuRow, CpuStep, DomainStep, at_cpu, cpu_of, domain_of, thread_no, IsStop, CpuShape}
use Rattle.cpu_rows.proofs.Common.{DomainShape, Limits, HasRoom, IsSlabOf, Standing, CpuFrontPart, Cpu, Domain, seat_at, IsSeated, ArePlaced, CpuHolds}
use Rattle.cpu_rows.proofs.Lists.{Here, IsSet, There, set_once}

-- the CPU of a row is there
stop_low : (m : Limits) (k : Class) (s : Stopping) → IsStop m k s → (cpu_of s).0 < m.cpus
stop_low m k s is = grind arith

pub cpu_low : (m : Limits) (v : CpuSeat) (g : Regs) (row : CpuStep) → v.cpu.0 < m.cpus → CpuShape m v g row → (at_cpu v.cpu row).0 < m.cpus
cpu_low m v g row home shape = grind (arith, stop_low)

-- and so is the domain
has_domain : (m : Limits) (v : CpuSeat) (g : Regs) (row : DomainStep) → DomainShape m v g row → 0 < v.domains
has_domain m v g row shape = grind arith

pub domain_low : (m : Limits) (v : CpuSeat) (g : Regs) (row : DomainStep) → DomainShape m v g row → domain_of v < v.domains
domain_low m v g row shape = grind (arith, cond_both, has_domain, mod-lt)

-- a part takes the place of one of its kind
abbrev IsSameKind : CpuFrontPart → CpuFrontPart → Type 0
IsSameKind (Cpu p) (Cpu q) = Unit {0}
IsSameKind (Domain k q) (Domain j r) = k ≡ j
IsSameKind p q = ⊥

cpu_kind : (p : CpuPart) (new : CpuFrontPart) → IsSameKind (Cpu p) new → (q : CpuPart) × (new ≡ Cpu q)
cpu_kind p new is = grind arith

domain_kind : (k : Class) (p : Transfer) (new : CpuFrontPart) → IsSameKind (Domain k p) new → (q : Transfer) × (new ≡ Domain k q)
domain_kind k p new is = grind arith

module _ (rows : List ClassRow) (c : Config) where
  -- what stands at a place where one part was set
  at_place : (ps : List CpuFrontPart) (i j : ℕ) (old new x : CpuFrontPart) (P : CpuFrontPart → Type 0) → slice_get ps i ≡ Some old → slice_get ps j ≡ Some x
      → (old ≡ x → P new) → P x → (y : CpuFrontPart) × (slice_get (slice_set ps i new) j ≡ Some y) × P y
  at_place ps i j old new x P at is here there = grind (arith, nat_tests, set_here ps i new old, here, set_elsewhere ps i j new)

  pub placed_set : (ps : List CpuFrontPart) (i : ℕ) (old new : CpuFrontPart) → slice_get ps i ≡ Some old → IsSameKind old new → ArePlaced rows c ps
      → ArePlaced rows c (slice_set ps i new)
  placed_set ps i old new at same h =
      record {
        many = length-set ps i new ∙ h.many;
        cpu = λ j low.
            (let was = h.cpu j low in
            let x = at_place ps i j old new (Cpu was.0) (λ y. (q : CpuPart) × (y ≡ Cpu q)) at was.1 (λ e. cpu_kind was.0 new (subst (λ y. IsSameKind y new) e same)) (was.0, refl) in
            (x.2.0, x.1 ∙ ap (λ z. Some z) x.2.1));
        cache = λ d k low within.
            (let was = h.cache d k low within in
            let x = at_place ps i (c.cpus + d * length rows + k) old new (Domain (record { 0 = k }) was.0) (λ y. (q : Transfer) × (y ≡ Domain (record { 0 = k }) q)) at was.1
            (λ e. domain_kind (record { 0 = k }) was.0 new (subst (λ y. IsSameKind y new) e same)) (was.0, refl) in
            (x.2.0, x.1 ∙ ap (λ z. Some z) x.2.1));
      }

  -- a cache changes
  pub cache_changes : (n : ℕ) (ps : List CpuFrontPart) (us : List (Standing CpuSeat CpuRow)) (i : ℕ) (k : Class) (old new : Transfer)
      → slice_get ps i ≡ Some (Domain k old) → HasRoom c.transfer new → CpuHolds rows c n ps us → CpuHolds rows c n (slice_set ps i (Domain k new)) us
  cache_changes n ps us i k old new at room h =
      let cpu_was : (j : ℕ) (p : CpuPart) → slice_get (slice_set ps i (Domain k new)) j ≡ Some (Cpu p) → slice_get ps j ≡ Some (Cpu p) = λ j p is. elim
      (set_once ps i (Domain k old) (Domain k new) j (Cpu p) at is) [ Here here now was ↦ absurd (cc) | There apart there ↦ there ] in
      record {
        placed = placed_set ps i (Domain k old) (Domain k new) at refl h.placed;
        cpu_is_sound = λ j p is. h.cpu_is_sound j p (cpu_was j p is);
        slab_is_of_heads = λ j p is. h.slab_is_of_heads j p (cpu_was j p is);
        cache_has_room = grind (arith, set_once ps i (Domain k old) (Domain k new), h.cache_has_room);
        epoch_is_within_picks = λ j p is. h.epoch_is_within_picks j p (cpu_was j p is);
        threads = h.threads;
        seats_agree = λ j t p s is there. h.seats_agree j t p s (cpu_was j p is) there;
      }

  -- a CPU changes, and a thread with it
  pub cpu_changes : (n i t : ℕ) (ps : List CpuFrontPart) (us : List (Standing CpuSeat CpuRow)) (p new : CpuPart) (s after : Standing CpuSeat CpuRow)
      → slice_get ps i ≡ Some (Cpu p) → slice_get us t ≡ Some s → SeatKeeps (length rows) i (thread_no t) p (seat_at rows s) new (seat_at rows after) →
      IsSlabOf rows c new.slab → new.epoch ≤ p.epoch + 1 → IsSeated rows c t after → CpuHolds rows c n ps us
      → CpuHolds rows c (n + 1) (slice_set ps i (Cpu new)) (slice_set us t after)
  cpu_changes n i t ps us p new s after at own keeps slab epoch sits h =
      record {
        placed = placed_set ps i (Cpu p) (Cpu new) at tt h.placed;
        cpu_is_sound = λ j q is. cpu_by (CpuOk (length rows)) keeps.part j q is (h.cpu_is_sound j q);
        slab_is_of_heads = λ j q is. cpu_by (λ x. IsSlabOf rows c x.slab) slab j q is (h.slab_is_of_heads j q);
        cache_has_room = λ j m q is. elim (set_once ps i (Cpu p) (Cpu new) j (Domain m q) at is)
            [ Here here now was ↦ absurd (cc) | There apart there ↦ h.cache_has_room j m q there ];
        epoch_is_within_picks = λ j q is. (let e = h.epoch_is_within_picks i p at in cpu_by (λ x. x.epoch ≤ n + 1) (omega (arith, e, epoch)) j q is
            (λ there. let b = h.epoch_is_within_picks j q there in omega (arith, b)));
        threads = λ u x is. elim (set_once us t s after u x own is) [
          | Here here now was ↦ subst (λ j. IsSeated rows c j x) (sym here) (subst (IsSeated rows c t) (sym now) sits)
          | There apart there ↦ h.threads u x
              there
        ];
        seats_agree = λ j u q x is there. agrees j u q x (set_once ps i (Cpu p) (Cpu new) j (Cpu q) at is) (set_once us t s after u x own there);
      } where
        cpu_by : (P : CpuPart → Type 0) → P new → (j : ℕ) (q : CpuPart) → slice_get (slice_set ps i (Cpu new)) j ≡ Some (Cpu q)
            → (slice_get ps j ≡ Some (Cpu q) → P q) → P q
        cpu_by P here j q is there = elim (set_once ps i (Cpu p) (Cpu new) j (Cpu q) at is)
            [ Here same now was ↦ subst P (let e : new ≡ q = cc in e) here | There apart at ↦ there at ]

        agrees : (j u : ℕ) (q : CpuPart) (x : Standing CpuSeat CpuRow) → IsSet ps i (Cpu p) (Cpu new) j (Cpu q) → IsSet us t s after u x
            → SeatOk j (thread_no u) q (seat_at rows x)
        agrees j u q x (Here same now was) (Here own now' was') =
            subst (λ k. SeatOk k (thread_no u) q (seat_at rows x)) (sym same) (subst (λ k. SeatOk i (thread_no k) q (seat_at rows x)) (sym own)
            (subst (λ y. SeatOk i (thread_no t) y (seat_at rows x)) (let e : new ≡ q = cc in e)
            (subst (λ y. SeatOk i (thread_no t) new (seat_at rows y)) (sym now') keeps.both)))
        agrees j u q x (Here same now was) (There apart there) =
            subst (λ k. SeatOk k (thread_no u) q (seat_at rows x)) (sym same) (subst (λ y. SeatOk i (thread_no u) y (seat_at rows x)) (let e : new ≡ q = cc in e)
            (keeps.others (thread_no u) (seat_at rows x) (λ e. apart (ap (λ y. y.0) e)) (h.seats_agree i u p x at there)))
        agrees j u q x (There apart there) (Here own now was) =
            subst (λ k. SeatOk j (thread_no k) q (seat_at rows x)) (sym own)
            (subst (λ y. SeatOk j (thread_no t) q (seat_at rows y)) (sym now) (keeps.elsewhere j q apart (h.seats_agree j t q s there was)))
        agrees j u q x (There apart there) (There other own) = h.seats_agree j u q x there own
