use Rattle.std.proofs.Common.{◌≡◌, length, ap, sym, subst, ◌∙◌, arith}
use Rattle.tc_model.specs.declared.config.Head.TheVariants.{Threads, Events}
use Rattle.tc_model.specs.Run.{world_of, start}
use Rattle.call_steps.specs.declared.setting.Setting.{Setting}
use Rattle.trace_reader.specs.declared.trace.Trace.{Trace}
use Rattle.trace_reader.specs.Valid.{IsConfig}
use Rattle.alloc_rules.specs.Machine.{parts_of, rules}
use Rattle.tc_machine.specs.Inputs.{input_under}
use Rattle.tc_machine.specs.Opening.{locals_at, parts_at}
use Rattle.tc_machine.proofs.InputFacts.{threads_are, turns_are, start_is}
use Rattle.tc_machine.proofs.ValidFacts.{valid_read, heads_of}
use Rattle.tc_machine.proofs.opened.AllocMachineAllocator.open.Goals as goal

pub parts_of-requires-clause-config : goal.parts_of-requires-clause-config
parts_of-requires-clause-config g c = subst IsConfig (sym (ap (λ (t : Trace). t.config) c.requires.read.1.is)) c.requires.read.1.valid.config

pub parts_of-requires-clause-opens : goal.parts_of-requires-clause-opens
parts_of-requires-clause-opens g c = g.met.F.LawfulFront.opens (record { table = c.args.table; config = c.args.trace.config }) (heads_of c.args.trace.config (subst IsConfig (sym (ap (λ (t : Trace). t.config) c.requires.read.1.is)) c.requires.read.1.valid.config))

pub locals_of-requires-clause-few : goal.locals_of-requires-clause-few
locals_of-requires-clause-few g c =
    let config : IsConfig c.args.trace.config = subst IsConfig (sym (ap (λ (t : Trace). t.config) c.requires.read.1.is)) c.requires.read.1.valid.config in
    omega (arith, ap length c.into_vec.ensures, threads_are (length c.args.table) c.args.trace c.requires.read.0 c.requires.read.1, (config Threads).1)

pub locals_of-requires-clause-opens : goal.locals_of-requires-clause-opens
locals_of-requires-clause-opens g c = g.met.F.LawfulFront.opens (record { table = c.args.table; config = c.args.trace.config }) (heads_of c.args.trace.config (subst IsConfig (sym (ap (λ (t : Trace). t.config) c.requires.read.1.is)) c.requires.read.1.valid.config))

pub invariant_of-machine : goal.invariant_of-machine
invariant_of-machine g c =
    let rows = c.args.table in
    let asked = c.requires.read.0 in
    let read = c.requires.read.1 in
    let config : IsConfig c.args.trace.config = subst IsConfig (sym (ap (λ (t : Trace). t.config) read.is)) read.valid.config in
    grind (arith, config Events, turns_are rows (length rows) c.args.trace asked read, valid_read rows c.args.trace asked c.in_ok-parts.ensures.table read)

pub returns-clause-input : goal.returns-clause-input
returns-clause-input g c =
    let setting : Setting = record { table = c.args.table; config = c.args.trace.config } in
    ap (λ (t : Trace). input_under setting t) c.of-seen.ensures

pub returns-clause-start : goal.returns-clause-start
returns-clause-start g c =
    let trace = c.args.trace in
    let setting : Setting = record { table = c.args.table; config = trace.config } in
    let r = g.F.FrontEnd.rules setting in
    let about = g.F.FrontEnd.about in
    let locals : c.in_ok-locals.locals.items ≡ locals_at r about trace.scripts = c.in_ok-locals.ensures ∙ ap (locals_at r about) c.into_vec.ensures in
    ap (λ ps. world_of ps c.in_ok-locals.locals.items) c.in_ok-parts.ensures.parts
    ∙ ap (λ ls. world_of (parts_of r.split (parts_at r about trace.config trace.labels)) ls) locals
    ∙ start_is r about (length c.args.table) trace c.requires.read.0 c.requires.read.1
    ∙ ap (λ (t : Trace). start (rules r about (input_under setting t).asked)) (sym c.of-seen.ensures)
