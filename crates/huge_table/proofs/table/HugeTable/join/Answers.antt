use Rattle.std.proofs.Common.{◌≡◌, ℕ, ◌/◌, ap, arith}
use Rattle.huge_table.proofs.Common.{is_filler, run_at, more_backed, reaches_parts}
use Rattle.huge_table.proofs.Sizes.{length-over}
use Rattle.huge_table.proofs.Steps.{comes}
use Rattle.huge_table.proofs.Shared.{filler_shared}
use Rattle.huge_table.proofs.table.HugeTable.join.Goals as goal

pub returns : goal.returns
returns c heap means =
    let first : ℕ = c.args.first.0 in
    let n : ℕ = c.args.n in
    comes heap c.args.self.now c.back_pages.new.self c.note.new.self first n (first / 256) 1 is_filler (more_backed (run_at first n) (first / 256))
    (more_backed (run_at first n)) means c.requires.place
    (omega arith) (omega arith) (omega (arith, c.requires.some)) (omega (arith, c.requires.ends)) c.requires.some
    c.back_pages.ensures c.note.ensures.pages c.note.ensures.noted
    (λ h x e filler. let parts = reaches_parts h (run_at first n) e in let here : first / 256 ≡ h = omega (arith, c.requires.ends) in
    (ap (λ k. more_backed (run_at first n) k x) here, (filler_shared x filler, filler_shared x filler)))

pub note-requires-clause-high : goal.note-requires-clause-high
note-requires-clause-high c = grind (arith, length-over, c.back_pages.ensures, c.requires.place.to, c.requires.ends)
