use Rattle.std.proofs.Common.{ℕ, ◌-◌, ◌/◌, true, refl, arith}
use Rattle.huge_table.proofs.Common.{is_region, all_backed, with_backing, reached_by, is_even}
use Rattle.huge_table.proofs.Sizes.{arena, length-over}
use Rattle.huge_table.proofs.Steps.{comes}
use Rattle.huge_table.proofs.Shared.{region_shared, region_even, span_of}
use Rattle.huge_table.proofs.table.HugeTable.join_region.Goals as goal

pub overflow_add-first : goal.overflow_add-first
overflow_add-first c = grind (arith, arena, c.self.view_is, c.requires.place.to, c.self.invariant.most)

pub back-requires : goal.back-requires
back-requires c = span_of c.args.self.now (c.args.first.0 / 256) (reached_by c.args.first.0 c.args.n) _ is_region is_even (omega (arith, c.div_ceil-end.ensures)) region_even c.requires.place

pub returns : goal.returns
returns c heap means =
    let first : ℕ = c.args.first.0 in
    let n : ℕ = c.args.n in
    let many : ℕ = c.div_ceil-end.result - first / 256 in
    comes heap c.args.self.now c.back.new.self c.note.new.self first n (first / 256) many is_region (with_backing true) (λ _ x. all_backed x) means
    (span_of c.args.self.now (first / 256) (reached_by first n) many is_region is_region (omega (arith, c.div_ceil-end.ensures)) (λ x e. e) c.requires.place)
    (omega arith) (omega arith) (omega (arith, c.requires.some, c.div_ceil-end.ensures)) (omega (arith, c.requires.some, c.div_ceil-end.ensures)) c.requires.some
    c.back.ensures c.note.ensures.pages c.note.ensures.noted
    (λ h x e region. (refl, (region_shared x region, region_shared x region)))

pub note-requires-clause-high : goal.note-requires-clause-high
note-requires-clause-high c = grind (arith, length-over, c.back.ensures, c.requires.place.to)
