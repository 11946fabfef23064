use Rattle.std.proofs.Common.{ap, sym, ◌∙◌}
use Rattle.tc_model.specs.Input.{Input}
use Rattle.tc_model.specs.Run.{start, run}
use Rattle.cpu_rows.specs.Machine.{rules}
use Rattle.tc_machine.specs.Inputs.{input_under}
use Rattle.cpu_front.proofs.state_tests.a_state_is_split_gathered_and_stepped.Goals as goal

pub gather-state-requires-clause-run : goal.gather-state-requires-clause-run
gather-state-requires-clause-run g c =
    let m = c.split-machine.result.0 in
    c.split-machine.ensures.start
    ∙ ap (λ (i : Input). start (rules i)) (sym c.split-machine.ensures.input)
    ∙ ap (λ o. run (rules (input_under m.setting m.trace.value)) o) (sym c.new-order.ensures.items)
