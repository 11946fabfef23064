use Rattle.std.proofs.Common.{sym, subst, length, arith}
use Rattle.std.proofs.lemmas.Grind.{common_steps}
use Rattle.trace_gen.proofs.Valid.{valid_trace}
use Rattle.trace_reader.specs.Reading.{asked_by}
use Rattle.tcreplay.specs.Seen.{seen_workload}
use Rattle.tcreplay.specs.Generating.{IsMade}
use Rattle.tcreplay.proofs.AskedFacts.{asked_again, read_again}
use Rattle.tcreplay.proofs.JobFacts.{handed_on}
use Rattle.tcreplay.proofs.GenerateFacts.{made_without, made_memory}
use Rattle.tcreplay.proofs.generate.make.Goals as goal

pub returns-in_err-table-clause-made : goal.returns-in_err-table-clause-made
returns-in_err-table-clause-made g c =
    let workload = c.args.workload in
    subst (IsMade (seen_workload workload) _ _) (sym (handed_on c.from_residual.result c.in_err-table.field-0.0 c.from_residual.ensures.1))
    (made_without (seen_workload workload) _ _ (λ classes. valid_trace workload.seed workload.calls workload.threads classes c.requires.ranges.some_threads c.requires.ranges.threads c.requires.ranges.calls) c.in_err-table.field-0.0 c.in_err-table.ensures)

pub returns-in_default-clause-made : goal.returns-in_default-clause-made
returns-in_default-clause-made g c =
    let workload = c.args.workload in
    made_memory (seen_workload workload) _ _ (λ classes. valid_trace workload.seed workload.calls workload.threads classes c.requires.ranges.some_threads c.requires.ranges.threads c.requires.ranges.calls) c.in_ok-table.table c.in_ok-table.ensures

pub returns-clause-made : goal.returns-clause-made
returns-clause-made g c =
    let classes = length c.in_ok-table.table in
    let generated = c.in-Ok.generated in
    let asked = asked_again classes generated.trace (asked_by classes generated.text.items) (c.in-Ok.ensures.trace classes) (c.in-Ok.ensures.valid classes) in
    grind (arith, common_steps, asked)

pub returns-clause-runnable : goal.returns-clause-runnable
returns-clause-runnable g c =
    let classes = length c.in_ok-table.table in
    let generated = c.in-Ok.generated in
    let read = read_again classes generated.trace (asked_by classes generated.text.items) (c.in-Ok.ensures.trace classes) (c.in-Ok.ensures.valid classes) in
    grind (arith, common_steps, read)
