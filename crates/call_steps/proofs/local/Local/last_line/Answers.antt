use Rattle.std.proofs.Common.{◌≡◌, ◌-◌, length, ap, sym, ◌∙◌, arith}
use Rattle.std.specs.Prelude.{Some, option_map, slice_get}
use Rattle.std.proofs.lemmas.Option.{slice_get_cases}
use Rattle.call_steps.specs.Local.{Local, told}
use Rattle.call_steps.proofs.ScriptFacts.{as_many, told_at}
use Rattle.call_steps.proofs.local.Local.last_line.Goals as goal

pub unreachable-requires : goal.unreachable-requires
unreachable-requires g c =
    let l = c.self.inside in
    let as' = (g.A.Answers.all l.answers).items in
    let is = ap (λ (m : Local g.row.F-Seat.Denot g.row.F-Row.Denot). m.answers) c.self.view_is in
    let count = as_many l.script as' c.args.self.now.answers (omega (arith, c.self.invariant.room)) is in
    grind (arith, slice_get_cases as' (length as' - 1), count)

pub returns : goal.returns
returns g c =
    let l = c.self.inside in
    let as' = (g.A.Answers.all l.answers).items in
    let is = ap (λ (m : Local g.row.F-Seat.Denot g.row.F-Row.Denot). m.answers) c.self.view_is in
    let count = as_many l.script as' c.args.self.now.answers (omega (arith, c.self.invariant.room)) is in
    let i = c.count.result - 1 in
    let there : slice_get as' i ≡ Some c.in-Some.answered = ap (λ n. slice_get as' (n - 1)) c.count.ensures ∙ sym c.in-Some.ensures in
    told_at l.regs.thread.0 l.script as' c.args.self.now.answers i _ c.in-Some.answered is (sym c.at.ensures) there
    ∙ (ap (λ n. option_map (told l.regs.thread.0) (slice_get c.args.self.now.answers (n - 1))) (c.count.ensures ∙ count)
    ∙ ap (λ (m : Local g.row.F-Seat.Denot g.row.F-Row.Denot). option_map (told m.regs.thread.0) (slice_get c.args.self.now.answers (length c.args.self.now.answers - 1))) c.self.view_is)
