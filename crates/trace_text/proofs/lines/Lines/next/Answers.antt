use Rattle.std.proofs.Common.{ℕ, ◌+◌, ◌<◌, length, drop, arith, ap}
use Rattle.std.proofs.lemmas.List.{take_rest, length-drop}
use Rattle.trace_text.proofs.Cuts.{lines_of-next, takes_line}
use Rattle.trace_text.proofs.lines.Lines.next.Goals as goal

pub returns-clause-lines : goal.returns-clause-lines
returns-clause-lines c =
    let l = c.self.inside in
    let n = c.length_before_near-length.result in
    let k = c.length_without_return.result in
    let rest = take_rest l.text.now l.start in
    let is = rw rest at c.length_before_near-length.ensures.first in
    grind (arith, length-drop l.start l.text.now, lines_of-next l.text.now l.start n k)

pub returns-clause-place : goal.returns-clause-place
returns-clause-place c =
    let l = c.self.inside in
    let n = c.length_before_near-length.result in
    let k = c.length_without_return.result in
    let rest = take_rest l.text.now l.start in
    let is = rw rest at c.length_before_near-length.ensures.first in
    let size = rw rest at c.length_without_return.ensures in
    let next = rw rest at c.min.ensures in
    let some : 0 < length (drop l.start l.text.now) = omega (arith, length-drop l.start l.text.now) in
    rw (← c.self.view_is) (takes_line _ _ _ n k (l.given + 1) some is size c.new-line.ensures (ap (λ (m : ℕ). l.start + m) next))
