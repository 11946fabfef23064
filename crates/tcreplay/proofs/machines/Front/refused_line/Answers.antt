use Rattle.std.proofs.Common.{◌≡◌, None, sym, subst}
use Rattle.alloc_rules.specs.Inputs.{not_taken}
use Rattle.tc_machine.specs.Inputs.{asked_of}
use Rattle.tc_machine.specs.Taken.{refused_line}
use Rattle.cpu_front.proofs.Taken.{all_taken, none_refused}
use Rattle.tcreplay.specs.declared.machines.Front.{Front}
use Rattle.tcreplay.specs.Machines.{machine_of}
use Rattle.tcreplay.specs.Seen.{seen_front}
use Rattle.tcreplay.proofs.machines.Front.refused_line.Goals as goal

pub returns-in-Cpus-clause-line : goal.returns-in-Cpus-clause-line
returns-in-Cpus-clause-line c = subst (λ (f : Front). None ≡ refused_line (machine_of (seen_front f)).takes c.args.trace.now.scripts) (sym c.in-Cpus.is) (sym (none_refused c.args.trace.now.scripts))

pub returns-in-Cpus-clause-taken : goal.returns-in-Cpus-clause-taken
returns-in-Cpus-clause-taken c none = subst (λ (f : Front). not_taken (machine_of (seen_front f)).takes (asked_of c.args.trace.now).calls ≡ 0) (sym c.in-Cpus.is) (all_taken (asked_of c.args.trace.now).calls)

pub returns-in-Threads-clause-line : goal.returns-in-Threads-clause-line
returns-in-Threads-clause-line c = subst (λ (f : Front). c.refused_line.result ≡ refused_line (machine_of (seen_front f)).takes c.args.trace.now.scripts) (sym c.in-Threads.is) c.refused_line.ensures.line

pub returns-in-Threads-clause-taken : goal.returns-in-Threads-clause-taken
returns-in-Threads-clause-taken c none = subst (λ (f : Front). not_taken (machine_of (seen_front f)).takes (asked_of c.args.trace.now).calls ≡ 0) (sym c.in-Threads.is) (c.refused_line.ensures.taken none)
