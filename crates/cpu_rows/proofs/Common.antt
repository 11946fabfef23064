-- The names of other crates and of the definitions that most proofs here cite, passed on from one place. Declares nothing.
pub use Rattle.alloc_rules.specs.FrontLaw.{IsReady, with_hand}
pub use Rattle.alloc_rules.proofs.Common.{About, Addr, All-head, All-map, All-nil, All-tail, Answer, AreEntries, AreRows, Asking, At, Away, BeginsWith, Call}
pub use Rattle.alloc_rules.proofs.Common.{Class, ClassRow, Contents, Decides, Drain, Freeing, Giving, HAND_ROOM, HandAbout, HasNoLabel, HasRoom, Here, Input}
pub use Rattle.alloc_rules.proofs.Common.{IsAct, IsAsked, IsEntry, IsLawful, IsNext, IsOrder, IsOwn, LOADED_ROOM, Later, MOST_PICKS, PartNo, Planned, RefusesAs}
pub use Rattle.alloc_rules.proofs.Common.{Regs, Resize, Rules, Serving, Standing, ThreadNo, Transfer, World, about_giving, at_next, at_row, at_step, cases_eq}
pub use Rattle.alloc_rules.proofs.Common.{class_row, cond_both, decided, emptied, ends, eq-eqb, eqb-true, false_from_ne_true, false≢true, follows, front_after}
pub use Rattle.alloc_rules.proofs.Common.{goes, idle, last_first, le-ltb, leb-true, length-append, length-drop, length-map, length-range_with_len, length-set}
pub use Rattle.alloc_rules.proofs.Common.{length-take, lt-ltb, ltb-false, ltb-true, most_slots, ne_eqb, no_class, number, objects_at, of_all, range_with_len}
pub use Rattle.alloc_rules.proofs.Common.{regs_next, room, slice_get-map, slice_get_within, stand, standing_of, start, sum_by-cons, thread_no, with_pair}
pub use Rattle.alloc_rules.proofs.Common.{without_last}
pub use Rattle.alloc_rules.proofs.Counting.{objects_append, objects_cut, objects_last, objects_reverse}
pub use Rattle.alloc_rules.specs.Inputs.{IsCallThere, IsMove, IsValidInput, Limits, limits_of}
pub use Rattle.call_steps.{specs.Acts.front_yields, specs.Fronts.leaving, specs.Local.row_of, specs.Refusals.is_refusal}
pub use Rattle.call_steps.specs.Calls.{Asks, Other}
pub use Rattle.call_steps.specs.Follows.{ComesWith, HasObject}
pub use Rattle.cpu_drain.proofs.{Does.grow_does, Does.instruct_does, Does.take_does, Steps.IsStopping, Steps.by_arrival}
pub use Rattle.cpu_drain.specs.Laws.{AnswerMoves, AreOfSame, Grows, Instructs, IsHome, ReplyMoves, Takes}
pub use Rattle.cpu_drain.specs.Seats.{CpuOk, IsAtBegin, IsHeld, SeatKeeps, SeatOk}
pub use Rattle.cpu_rows.{specs.Laws.AreCpuLimits, specs.Laws.CpuIsLawful, specs.declared.row.CpuRow.CpuRow, specs.declared.row.CpuStep.CpuStep}
pub use Rattle.cpu_rows.{specs.declared.row.DomainStep.DomainStep, specs.declared.row.Draining.Draining, specs.declared.row.Resizing.Resizing}
pub use Rattle.cpu_rows.{specs.declared.row.Stopping.Stopping, specs.declared.seat.CpuSeat.CpuSeat}
pub use Rattle.cpu_rows.specs.CpuActs.{Left, after_pop, after_push, after_stock, at_cpu_next, cap_answer, cpu_acts, domain_acts, drained, drains_on, due}
pub use Rattle.cpu_rows.specs.CpuActs.{gives, grew_to, leaves_or, looks_on, replied, sequence, started, stops, takes, took, yields_to_enter}
pub use Rattle.cpu_rows.specs.CpuCalls.{cpu_calls, cpu_row, leave_row, stop_row, to_sequence, to_stop, with_move, with_next, yields_for}
pub use Rattle.cpu_rows.specs.CpuRows.{cpu_refuses}
pub use Rattle.cpu_rows.specs.CpuFits.{FitsCpu, FitsDomain, FitsSequence, taken_by}
pub use Rattle.cpu_rows.specs.CpuFront.{Cpu, CpuFrontPart, Domain, cpu_front, cpu_stored, domain_caches, first_cache, first_cpu, front_acts, front_parts}
pub use Rattle.cpu_rows.specs.CpuHolds.{ArePlaced, CpuHolds, IsSeated, RegsAt, cpu_fits, cpu_planned, seat_at, stopping_at}
pub use Rattle.cpu_rows.specs.CpuRows.{about_cpu, about_row, as_row, at_cpu, call_of, cpu_of, domain_of}
pub use Rattle.cpu_rows.specs.Machine.{Part, after, front_of, rules}
pub use Rattle.cpu_rows.specs.PerCpu.{CpuLocal as Local, Next, Step}
pub use Rattle.cpu_rows.specs.Shapes.{CpuShape, DomainShape, HasNone, IsAtFirst, IsGiving, IsStop, IsToCome}
pub use Rattle.cpu_rows.specs.CpuRows.{below, cpu_standing}
pub use Rattle.cpu_rows.specs.Slabs.{IsSlabOf}
pub use Rattle.cpu_rows.specs.Switches.{Kind, SwitchesAreFew, closes, count_at, counts, enters, growth_kind, instructed_kind, kind_at, kind_of, neither, sequence_kind, step_kind}
pub use Rattle.cpu_rows.specs.declared.row.CpuStep.TheVariants.{Grow, Pop, PopBatch, Push, Stock}
pub use Rattle.cpu_slab.{specs.Caps.cap_fault, specs.Caps.with_cap_if, specs.declared.slab.CapFault.CapFault}
pub use Rattle.cpu_slab.proofs.SlabFacts.{row_other, row_same, row_sound}
pub use Rattle.cpu_slab.specs.Slots.{CpuSlab, SlabRow, held, no_row, row_at, with_row}
pub use Rattle.holdings.specs.Moves.{IsOther}
pub use Rattle.rseq_core.{specs.declared.answers.Grew.Grew, specs.declared.answers.Instructed.Instructed, specs.declared.cpu_part.CpuPart.CpuPart}
pub use Rattle.rseq_core.{specs.declared.sequence.Pc.Pc, specs.declared.sequence.Reply.Reply, specs.declared.sequence.Seq.Seq}
pub use Rattle.rseq_core.specs.Acts.{Acted, IsCurrent, cpu_after, dropped, grew_here, instructed, instruction, left, open_after, regs_after, runs}
pub use Rattle.rseq_core.specs.Tables.{Cell, copy_or_commit, is_pop, wanted}
pub use Rattle.rseq_core.specs.declared.sequence.Pc.TheVariants.{Begin, Commit, Copy, Header, Test}
pub use Rattle.std.proofs.{Math.Nat.mod-lt, lemmas.List.length-replicate, lemmas.List.length-reverse}
pub use Rattle.tc_model.{specs.declared.calls.MoveTo.MoveTo, specs.declared.config.Config.Config}
pub use Rattle.tc_model.proofs.Lists.{set_elsewhere, set_here, set_there}
pub use Rattle.tc_model.specs.declared.answers.Answer.TheVariants.{Busy, CapSet, OverLimit, OverStatic}
