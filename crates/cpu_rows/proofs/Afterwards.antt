-- What holds of the caches after the picks of an order, from the allocator's law and their own invariant.
use Rattle.std.proofs.Common.{◌≡◌, ◌≢◌, ℕ, ◌<◌, List, length, Some, ap, ◌∙◌, subst, option_map, slice_get}
use Rattle.cpu_rows.proofs.Common.{slice_get-map, ThreadNo, Input, IsOrder, CpuPart, SeatOk, IsStopping, Resizing, Stopping, Local, Step, thread_no, at_step}
use Rattle.cpu_rows.proofs.Common.{standing_of, Cpu, CpuHolds, IsSeated, RegsAt, cpu_planned, cpu_fits, seat_at, stopping_at, limits_of, front_of, rules}
use Rattle.cpu_rows.proofs.Common.{IsValidInput, about_row}
use Rattle.alloc_rules.proofs.Laws.{in_every_order}
use Rattle.cpu_rows.specs.Law.{HoldsAfter, InEveryOrder}
use Rattle.call_steps.specs.declared.step.Step.TheVariants as does
use Rattle.cpu_rows.specs.declared.row.CpuRow.TheVariants as front
use Rattle.cpu_rows.specs.declared.row.CpuStep.TheVariants as cpu
use Rattle.alloc_rules.specs.Law as allocator
use Rattle.cpu_rows.proofs.{Growing.grows_there, Sitting.moves_by, Sitting.on_their_way}
use Rattle.cpu_rows.proofs.Common.{Asking, Part, World}
use Rattle.cpu_rows.proofs.DrainCounts.{counted, drains_there}
use Rattle.holdings.proofs.StockMoves.{class_length}
use Rattle.cpu_rows.specs.Effects.{MovesThere}
use Rattle.cpu_rows.proofs.{Answering.answers_busy, Answering.answers_cap, CpuLaw.lawful_in, Switching.switches_are_few}

module _ (input : Input) (valid : IsValidInput input) (order : List ℕ) (of : IsOrder (rules input) order)
    (all : allocator.HoldsAfter (front_of input) about_row (CpuHolds input.rows input.asked.config) input.asked order) where
  seated : (t : ℕ) (l : Local) → slice_get all.locals t ≡ Some l → IsSeated input.rows input.asked.config t (standing_of l)
  seated t l at = all.front.threads t (standing_of l) (slice_get-map standing_of all.locals t ∙ ap (option_map standing_of) at)

  agrees : (i t : ℕ) (p : CpuPart) (l : Local) → slice_get all.parts.fronts i ≡ Some (Cpu p) → slice_get all.locals t ≡ Some l
      → SeatOk i (thread_no t) p (seat_at input.rows (standing_of l))
  agrees i t p l part at = all.front.seats_agree i t p (standing_of l) part (slice_get-map standing_of all.locals t ∙ ap (option_map standing_of) at)

  -- a thread that is to stop a CPU is the stopper of none
  no_stopper : (i t : ℕ) (p : CpuPart) (l : Local) → slice_get all.parts.fronts i ≡ Some (Cpu p) → slice_get all.locals t ≡ Some l
      → (s : Stopping) → l.step ≡ does.Front (front.Cpu (cpu.Stop s)) → p.stopper ≢ Some l.regs.thread
  no_stopper i t p l part at s step is =
      subst (λ (x : Step). IsStopping i (stopping_at input.rows l.regs (at_step x))) step ((agrees i t p l part at).stops (is ∙ ap (λ (u : ThreadNo). Some u) (seated t l at).thread))

  cap_class : (t : ℕ) (l : Local) → slice_get all.locals t ≡ Some l → (r : Resizing) → l.step ≡ does.Front (front.Cpu (cpu.SetCap r)) → l.regs.class ≡ r.class
  cap_class t l at r step = (subst (λ (x : Step). RegsAt (limits_of input.rows input.asked.config) l.seat l.regs (at_step x)) step (seated t l at).regs).2

  class_low : (t : ℕ) (l : Local) → slice_get all.locals t ≡ Some l → (a : Asking) → l.step ≡ does.Front (front.Cpu (cpu.Grow a)) → l.regs.class.0 < length input.rows
  class_low t l at a step =
      (class_length input.rows a.size l.regs.class.0 (subst (λ (x : Step). RegsAt (limits_of input.rows input.asked.config) l.seat l.regs (at_step x)) step (seated t l at).regs).1).0

  moves : (t : ℕ) (l : Local) → slice_get all.locals t ≡ Some l → MovesThere input t l
  moves t l at = moves_by input t l (on_their_way input valid order of t l (ap (λ (w : World Part Local). slice_get w.locals t) all.is ∙ at))

  pub holds_after : HoldsAfter input order
  holds_after =
      record {
        all = all;
        parts_are = all.front.placed.many;
        cpu_is_sound = all.front.cpu_is_sound;
        slab_is_of_heads = all.front.slab_is_of_heads;
        cache_has_room = all.front.cache_has_room;
        epoch_is_within_picks = all.front.epoch_is_within_picks;
        ran_is_within_acts = λ t l at. (seated t l at).ran;
        seats_agree = agrees;
        answers_busy = λ i t p l part at. answers_busy input p l (no_stopper i t p l part at);
        answers_cap = λ i t p l part at. answers_cap input p l (cap_class t l at);
        grows_there = λ i t p l part at. grows_there input p l (all.front.cpu_is_sound i p part) (class_low t l at);
        drains_there = λ t p l c part at.
            drains_there input valid order t l p c (agrees c.0 t p l part at) (counted input valid order of t l (ap (λ (w : World Part Local). slice_get w.locals t) all.is ∙ at));
        moves_there = moves;
        switches = switches_are_few input valid order of.few;
      }

pub cpu_in_every_order : InEveryOrder
cpu_in_every_order input valid =
    let law = in_every_order (front_of input) about_row (cpu_planned input.rows input.asked.config) (CpuHolds input.rows input.asked.config) (cpu_fits input.rows)
    (lawful_in input valid) input.asked valid in
    record {
      sound = law.sound;
      threads = law.threads;
      never_waits = law.never_waits;
      rises = law.rises;
      ends = law.ends;
      picks = law.picks;
      holds = λ order of. holds_after input valid order of (law.holds order of);
    }
