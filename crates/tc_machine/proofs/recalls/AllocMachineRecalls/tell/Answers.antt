use Rattle.std.proofs.Common.{length, ap, sym, subst, ◌∙◌, refl, arith}
use Rattle.std.specs.List.{slice_get}
use Rattle.tc_units.specs.Classes.{length_of}
use Rattle.tc_model.specs.Run.{World}
use Rattle.alloc_rules.proofs.Decided.{scripts_there}
use Rattle.alloc_rules.proofs.Orders.{order_is}
use Rattle.tc_machine.specs.Standing.{AreStanding}
use Rattle.tc_machine.specs.Telling.{HearsEach}
use Rattle.tc_machine.proofs.FinishFacts.{told_under, told_are, blocks_are}
use Rattle.tc_machine.proofs.recalls.AllocMachineRecalls.tell.Goals as goal

pub tell_all-requires-clause-threads : goal.tell_all-requires-clause-threads
tell_all-requires-clause-threads g c =
    let m = c.args.self.now in
    let told = told_under (g.met.F.LawfulFront.lawful _ m.valid m.taken) (g.met.F.LawfulFront.shared _ c.args.order.now) (g.F.FrontEnd.split_is_within m.setting)
    (order_is _ c.args.order.now c.requires.moves (omega (arith, c.requires.few, m.few))) c.requires.run in
    told.threads

pub tell_all-requires-clause-numbers : goal.tell_all-requires-clause-numbers
tell_all-requires-clause-numbers g c =
    let m = c.args.self.now in
    let told = told_under (g.met.F.LawfulFront.lawful _ m.valid m.taken) (g.met.F.LawfulFront.shared _ c.args.order.now) (g.F.FrontEnd.split_is_within m.setting)
    (order_is _ c.args.order.now c.requires.moves (omega (arith, c.requires.few, m.few))) c.requires.run in
    omega (arith, ap length told.locals_are, told.holds.counts.threads, m.valid.limits.few_threads)

pub tell_all-requires-clause-rising : goal.tell_all-requires-clause-rising
tell_all-requires-clause-rising g c t l is =
    let m = c.args.self.now in
    let told = told_under (g.met.F.LawfulFront.lawful _ m.valid m.taken) (g.met.F.LawfulFront.shared _ c.args.order.now) (g.F.FrontEnd.split_is_within m.setting)
    (order_is _ c.args.order.now c.requires.moves (omega (arith, c.requires.few, m.few))) c.requires.run in
    told.holds.rising t l (ap (λ ls. slice_get ls t) (sym told.locals_are) ∙ is)

pub tell_all-requires-clause-blocks : goal.tell_all-requires-clause-blocks
tell_all-requires-clause-blocks g c =
    let m = c.args.self.now in
    let told = told_under (g.met.F.LawfulFront.lawful _ m.valid m.taken) (g.met.F.LawfulFront.shared _ c.args.order.now) (g.F.FrontEnd.split_is_within m.setting)
    (order_is _ c.args.order.now c.requires.moves (omega (arith, c.requires.few, m.few))) c.requires.run in
    (m.setting.config.huge, length_of m.setting.table, blocks_are told (g.F.FrontEnd.same_rows m.setting) refl, omega (arith, m.valid.limits.few))

pub tell_all-requires-clause-may : goal.tell_all-requires-clause-may
tell_all-requires-clause-may g c =
    let m = c.args.self.now in
    let told = told_under (g.met.F.LawfulFront.lawful _ m.valid m.taken) (g.met.F.LawfulFront.shared _ c.args.order.now) (g.F.FrontEnd.split_is_within m.setting)
    (order_is _ c.args.order.now c.requires.moves (omega (arith, c.requires.few, m.few))) c.requires.run in
    subst (HearsEach (g.L.Listener.may_hear c.args.listener)) (sym (told_are told)) c.requires.may

pub totals-requires-clause-run : goal.totals-requires-clause-run
totals-requires-clause-run g c = ap (λ (w : World _ _). w.parts) c.requires.run

pub totals-requires-clause-order : goal.totals-requires-clause-order
totals-requires-clause-order g c = let m = c.args.self.now in order_is _ c.args.order.now c.requires.moves (omega (arith, c.requires.few, m.few))

pub totals-requires-clause-standing : goal.totals-requires-clause-standing
totals-requires-clause-standing g c =
    let m = c.args.self.now in
    let told = told_under (g.met.F.LawfulFront.lawful _ m.valid m.taken) (g.met.F.LawfulFront.shared _ c.args.order.now) (g.F.FrontEnd.split_is_within m.setting)
    (order_is _ c.args.order.now c.requires.moves (omega (arith, c.requires.few, m.few))) c.requires.run in
    subst (λ lines. AreStanding lines c.in_ok-listener.standing) (told_are told) c.in_ok-listener.ensures.standing

pub returns-clause-heard : goal.returns-clause-heard
returns-clause-heard g c =
    let m = c.args.self.now in
    let told = told_under (g.met.F.LawfulFront.lawful _ m.valid m.taken) (g.met.F.LawfulFront.shared _ c.args.order.now) (g.F.FrontEnd.split_is_within m.setting)
    (order_is _ c.args.order.now c.requires.moves (omega (arith, c.requires.few, m.few))) c.requires.run in
    subst (g.L.Listener.heard c.args.listener c.in_ok-listener.listener) (told_are told) c.in_ok-listener.ensures.heard

pub returns-clause-blocks : goal.returns-clause-blocks
returns-clause-blocks g c =
    let m = c.args.self.now in
    let told = told_under (g.met.F.LawfulFront.lawful _ m.valid m.taken) (g.met.F.LawfulFront.shared _ c.args.order.now) (g.F.FrontEnd.split_is_within m.setting)
    (order_is _ c.args.order.now c.requires.moves (omega (arith, c.requires.few, m.few))) c.requires.run in
    blocks_are told (g.F.FrontEnd.same_rows m.setting) (sym (told_are told))

pub returns-clause-scripts : goal.returns-clause-scripts
returns-clause-scripts g c =
    let m = c.args.self.now in
    scripts_there (g.F.FrontEnd.rules m.setting) g.F.FrontEnd.about _ (g.met.F.LawfulFront.lawful _ m.valid m.taken) (g.met.F.LawfulFront.shared _) c.args.order.now
    (order_is _ c.args.order.now c.requires.moves (omega (arith, c.requires.few, m.few))) c.requires.ended
