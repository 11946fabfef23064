use Rattle.std.proofs.Common.{◌≡◌, ℕ, ◌+◌, ◌-◌, ◌*◌, ◌/◌, Bool, nat_lt, subst, sym, ap, ◌∙◌, inl, arith}
use Rattle.huge_table.proofs.Common.{run_page, filler_page, Table, over_span}
use Rattle.huge_table.proofs.Sizes.{length-over}
use Rattle.huge_table.proofs.Steps.{noted_after}
use Rattle.huge_table.proofs.Wholes.{becomes, whole_is, tail_is, IsLaid, laid, two_spans, took_means}
use Rattle.huge_table.proofs.table.HugeTable.take_run.Goals as goal

pub take-requires-clause-high : goal.take-requires-clause-high
take-requires-clause-high c = omega (arith, c.requires.free.to, c.from-place.ensures)

pub adopt-requires-clause-high : goal.adopt-requires-clause-high
adopt-requires-clause-high c = grind (arith, length-over, c.take.ensures, c.requires.free.to, c.from-place.ensures, c.div_ceil.ensures)

pub note-requires-clause-high : goal.note-requires-clause-high
note-requires-clause-high c = search (arith, length-over, c.take.ensures, c.adopt.ensures, c.requires.free.to, c.from-place.ensures)

pub returns : goal.returns
returns c heap sound means =
    let h : ℕ = c.args.first.0 in
    let n : ℕ = c.args.n in
    let whole : ℕ = n / 256 in
    let tails : ℕ = c.div_ceil.result - whole in
    let marked : Bool = nat_lt 0 whole in
    let old = c.args.self.now in
    let at_h = c.from-place.ensures in
    let place : 256 * h / 256 ≡ h = omega arith in
    let lies : IsLaid (256 * h) n h whole tails = subst (λ a. IsLaid (256 * h) n a whole tails) place
    (laid (256 * h) n tails c.requires.some (inl (omega arith)) (omega (arith, c.div_ceil.ensures))) in
    let took = c.take.ensures ∙ ap (λ (k : ℕ). over_span k whole (λ _. run_page) old) at_h in
    let adopted = c.adopt.ensures ∙ ap (λ (k : ℕ). over_span (k + whole) tails (λ _. filler_page marked) c.take.new.self) at_h in
    took_means heap sound h n c.requires.some old c.note.new.self means c.requires.free tails lies
    (two_spans old c.take.new.self c.note.new.self h whole tails (256 * h) n (λ _. run_page) (λ _. filler_page marked) (λ k _. becomes n (256 * h + n) k)
    (ap (λ (x : Table). x.pages) took) (c.note.ensures.pages ∙ ap (λ (x : Table). x.pages) adopted) lies
    (λ k from to. sym (whole_is n (256 * h + n) k (omega arith) (omega arith)))
    (λ k from to. sym (tail_is n (256 * h + n) k (omega arith))))
    (grind (arith, noted_after))
