use Rattle.std.proofs.Common.{ℕ, ◌+◌, ◌-◌, ◌*◌, ◌/◌, true, false, eqb, arith}
use Rattle.huge_table.proofs.Common.{used_count, Hugepage, is_filler, free_page, emptied_where, noted_row}
use Rattle.heap_rules.specs.Choice.{hugepages_for}
use Rattle.huge_table.proofs.Pages.{span_after, span_same}
use Rattle.huge_table.proofs.Shared.{span_of}
use Rattle.huge_table.proofs.Steps.{noted_before}
use Rattle.huge_table.proofs.Leaves.{whole_pages, whole_means}
use Rattle.huge_table.proofs.Wholes.{laid}
use Rattle.huge_table.proofs.table.HugeTable.give_run.Goals as goal

pub note-requires-clause-high : goal.note-requires-clause-high
note-requires-clause-high c = grind (arith, c.requires.some, c.requires.lies, c.div_ceil.ensures, c.requires.tail.to)

pub empty_tail-requires-clause-filler : goal.empty_tail-requires-clause-filler
empty_tail-requires-clause-filler c =
    let whole : ℕ = c.args.run.pages / 256 in
    let place : ℕ = c.args.run.first.0 / 256 in
    span_after c.give.new.self c.note.new.self place whole (λ _. free_page true) (place + whole) (c.div_ceil.result - whole) is_filler c.give.ensures (omega arith)
    (grind (arith, span_same, span_of, c.div_ceil.ensures, c.requires.tail))

pub returns : goal.returns
returns c heap sound means live =
    let first : ℕ = c.args.run.first.0 in
    let n : ℕ = c.args.run.pages in
    let whole : ℕ = n / 256 in
    let tails : ℕ = c.div_ceil.result - whole in
    let place : ℕ = first / 256 in
    let old = c.args.self.now in
    let noted = c.note.new.self in
    let given = c.give.new.self in
    let done = c.empty_tail.new.self in
    let tail = span_of old (place + whole) (hugepages_for n - whole) tails is_filler is_filler (omega (arith, c.div_ceil.ensures)) (λ x e. e) c.requires.tail in
    let lies = laid first n tails c.requires.some c.requires.lies (omega (arith, c.div_ceil.ensures)) in
    let f : Hugepage → Hugepage = emptied_where (eqb (used_count (noted_row given (place + whole))) 0) in
    let of_given = noted_before old noted given place whole (λ _. free_page true) first n (256 * whole) false c.give.ensures c.note.ensures.noted in
    whole_means heap first n sound live old done whole tails means lies c.requires.whole tail
    (noted_before old given done (place + whole) tails f first n (256 * whole) false c.empty_tail.ensures.table of_given)
    (whole_pages heap first n sound live old noted given done whole tails means lies c.requires.whole tail c.note.ensures.pages of_given
    c.empty_tail.ensures.room c.give.ensures c.empty_tail.ensures.table)
