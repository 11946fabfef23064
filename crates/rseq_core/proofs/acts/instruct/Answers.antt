use Rattle.rseq_core.proofs.OnePlace.{place_then}
use Rattle.rseq_core.proofs.acts.instruct.Goals as goal

pub returns-in-None-clause-one_place : goal.returns-in-None-clause-one_place
returns-in-None-clause-one_place c = place_then c.args.cpu.now c.arrive.new.cpu c.step.new.cpu c.args.regs.now c.arrive.new.regs c.requires.class c.in-Current.ensures.cpu c.in-Current.ensures.regs c.step.ensures.cpu

pub returns-in-Some-clause-one_place : goal.returns-in-Some-clause-one_place
returns-in-Some-clause-one_place c = place_then c.args.cpu.now c.arrive.new.cpu c.step.new.cpu c.args.regs.now c.arrive.new.regs c.requires.class c.in-Current.ensures.cpu c.in-Current.ensures.regs c.step.ensures.cpu
