use Rattle.std.proofs.Common.{◌≡◌, ℕ, [], ◌∷◌, ◌++◌, map, length, ap, sym, ◌∙◌, arith}
use Rattle.std.specs.List.{range_with_len, slice_index_or}
use Rattle.std.proofs.lemmas.List.{length_push, get_or_default}
use Rattle.std.proofs.lemmas.List.FromFn.{map-range_with_len_more, length-map-range_with_len}
use Rattle.std.proofs.lemmas.Iterator.Adapters.{YieldsList-from_vec}
use Rattle.std.proofs.lemmas.Iterator.Consumers.{YieldsList-turn, YieldsList-end}
use Rattle.tc_model.specs.declared.calls.Script.{Script}
use Rattle.call_steps.specs.Local.{Local, first_local}
use Rattle.tc_machine.specs.Opening.{local_at}
use Rattle.tc_machine.proofs.opening.locals_of.Goals as goal

pub overflow_cast-thread : goal.overflow_cast-thread
overflow_cast-thread g c =
    let t = YieldsList-turn (YieldsList-from_vec c.args.scripts.items (cc) (cc)) c.loop-script.yielded c.loop-script.script-iterator c.loop-script.yielded_by c.next.result c.next.new.self c.in-Some.script c.in-Some.is c.next.ensures.steps in
    let count : length c.loop-script.locals.items ≡ length c.loop-script.yielded = ap length c.loop-script.invariant ∙ length-map-range_with_len (local_at (g.F.FrontEnd.rules c.args.setting.now) g.F.FrontEnd.about c.args.scripts.items) 0 (length c.loop-script.yielded) in
    omega (arith, t.0, count, c.requires.few, c.len.ensures, c.loop-script.locals.ok)

pub loop-script-preserved : goal.loop-script-preserved
loop-script-preserved g c =
    let n : ℕ = length c.loop-script.yielded in
    let scripts = c.args.scripts.items in
    let r = g.F.FrontEnd.rules c.args.setting.now in
    let at = local_at r g.F.FrontEnd.about scripts in
    let t = YieldsList-turn (YieldsList-from_vec scripts (cc) (cc)) c.loop-script.yielded c.loop-script.script-iterator c.loop-script.yielded_by c.next.result c.next.new.self c.in-Some.script c.in-Some.is c.next.ensures.steps in
    let count : length c.loop-script.locals.items ≡ n = ap length c.loop-script.invariant ∙ length-map-range_with_len at 0 n in
    let none : Script = record { calls = [] } in
    let script : c.in-Some.script ≡ slice_index_or scripts n none = t.1 ∙ get_or_default scripts n c.in-Some.script none t.0 in
    let thread : c.len.result ≡ n = omega (arith, c.len.ensures, count, c.loop-script.locals.ok) in
    let made : ℕ → Script → Local g.row.F-Seat.Denot g.row.F-Row.Denot = λ k s. first_local r.calls (record { 0 = k }) (r.seats k) s.calls in
    let new : c.in_ok-new.field-0 ≡ at n = c.in_ok-new.ensures ∙ ap (λ k. made k c.in-Some.script) thread ∙ ap (made n) script in
    c.in_ok-push.ensures.items
    ∙ ap (λ l. c.loop-script.locals.items ++ l ∷ []) new
    ∙ ap (λ ls. ls ++ at n ∷ []) c.loop-script.invariant
    ∙ sym (map-range_with_len_more at 0 n n (omega arith))
    ∙ ap (λ k. map at (range_with_len 0 k)) (sym (length_push c.loop-script.yielded c.in-Some.script))

pub returns : goal.returns
returns g c =
    let u = c.args.setting.now in
    let t = YieldsList-end (YieldsList-from_vec c.args.scripts.items (cc) (cc)) c.loop-script.yielded c.loop-script.script-iterator c.loop-script.yielded_by c.next.result c.next.new.self c.in-None.is c.next.ensures.steps in
    c.loop-script.invariant ∙ ap (λ n. map (local_at (g.F.FrontEnd.rules u) g.F.FrontEnd.about c.args.scripts.items) (range_with_len 0 n)) t.1
