use Rattle.std.proofs.Common.{◌≡◌, ap, ◌∙◌, sym, arith, length, ◌<◌, get_or}
use Rattle.std.specs.Prelude.{Some, option_map, slice_get}
use Rattle.std.proofs.lemmas.Option.{slice_get-get_or}
use Rattle.call_steps.specs.Local.{Local, told}
use Rattle.call_steps.proofs.ScriptFacts.{answered_within, decided_at}
use Rattle.call_steps.proofs.local.Local+F.call_line.Given.{Over}
use Rattle.call_steps.proofs.local.Local+F.call_line.Goals as goal

pub at-requires : goal.at-requires
at-requires g c =
    let l = c.self.inside in
    omega (arith, answered_within l.script l.answers.items c.args.self.now.answers c.args.i (omega (arith, c.self.invariant.room)) (ap (λ (m : Local g.row.F-Seat.Denot g.row.F-Row.Denot). m.answers) c.self.view_is) c.requires, c.self.invariant.room)

answered_there : (g : Over) (c : goal.After-as_slice g) → c.args.i < length c.as_slice.result.now
answered_there g c = grind (arith, answered_within)

pub offset_bounds-as_slice-i : goal.offset_bounds-as_slice-i
offset_bounds-as_slice-i g c = omega (arith, answered_there g c, c.as_slice.type_inv.1)

pub bounds-as_slice-i : goal.bounds-as_slice-i
bounds-as_slice-i g c = answered_there g c

pub returns : goal.returns
returns g c =
    let l = c.self.inside in
    let i = c.args.i in
    let within : i < length l.answers.items = answered_within l.script l.answers.items c.args.self.now.answers i (omega (arith, c.self.invariant.room)) (ap (λ (m : Local g.row.F-Seat.Denot g.row.F-Row.Denot). m.answers) c.self.view_is) c.requires in
    let answer : i < length c.as_slice.result.now = omega (arith, within, ap length c.as_slice.ensures) in
    let there : slice_get l.answers.items i ≡ Some (get_or c.as_slice.result.now i _) = ap (λ xs. slice_get xs i) (sym c.as_slice.ensures) ∙ slice_get-get_or c.as_slice.result.now i _ answer in
    sym (ap (option_map (told l.regs.thread.0)) (decided_at l.script l.answers.items i _ _ (sym c.at.ensures) there))
    ∙ ap (λ (m : Local g.row.F-Seat.Denot g.row.F-Row.Denot). option_map (told m.regs.thread.0) (slice_get m.answers i)) c.self.view_is
