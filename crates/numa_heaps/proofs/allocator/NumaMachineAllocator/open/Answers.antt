use Rattle.std.proofs.Common.{◌≡◌, length, ap, sym, subst, ◌∙◌}
use Rattle.tc_model.specs.declared.config.Head.TheVariants.{Events}
use Rattle.call_steps.specs.declared.setting.Setting.{Setting}
use Rattle.trace_reader.specs.declared.trace.Trace.{Trace}
use Rattle.trace_reader.specs.Valid.{IsConfig}
use Rattle.alloc_rules.specs.Inputs.{IsValidInput, is_common, not_taken}
use Rattle.alloc_rules.specs.Machine.{turns}
use Rattle.tc_machine.specs.Inputs.{input_under}
use Rattle.tc_machine.proofs.InputFacts.{turns_are}
use Rattle.numa_heaps.proofs.allocator.NumaMachineAllocator.open.Goals as goal

pub invariant_of-machine : goal.invariant_of-machine
invariant_of-machine c =
    let rows = c.args.table in
    let asked = c.requires.read.0 in
    let read = c.requires.read.1 in
    let config : IsConfig c.args.trace.config = subst IsConfig (sym (ap (λ (t : Trace). t.config) read.is)) read.valid.config in
    let seen : c.args.trace ≡ c.of-seen.result.value = sym c.of-seen.ensures in
    let setting : Setting = record { table = rows; config = c.args.trace.config } in
    record {
      few = (config Events).1;
      same_turns = turns_are rows (length rows) c.args.trace asked read ∙ ap (λ (t : Trace). turns (input_under setting t).asked) seen;
      valid = subst (λ (t : Trace). IsValidInput (input_under setting t)) seen c.in_ok-parts.ensures.valid;
      taken = subst (λ (t : Trace). not_taken is_common (input_under setting t).asked.calls ≡ 0) seen c.requires.taken;
    }
