use Rattle.std.proofs.Common.{◌≡◌, ℕ, ◌+◌, ◌*◌, ◌<◌, ◌≤◌, [], IsSome, filter, refl, sym, ap, subst, ◌∙◌, arith}
use Rattle.page_heap.proofs.Common.{best, hugepage, used_row, filler_rows, shares, is_Filler}
use Rattle.heap_rules.specs.FillerRows.{has_room}
use Rattle.range_bits.proofs.RangeFacts.{best_there, best_is_fit}
use Rattle.heap_rules.proofs.Given.{none_pass}
use Rattle.page_heap.proofs.Choices.{IsFound, found, none_there}
use Rattle.page_heap.proofs.Results.{is_heap, as_many}
use Rattle.page_heap.proofs.heap.PageHeap.find_in_filler.Goals as goal
use Rattle.page_heap.proofs.heap.PageHeap.find_in_filler.Goals.{In_err-huge, In_ok-huge, After-best}

none : (c : In_err-huge) → filter (has_room c.args.n) (filler_rows c.args.self.now) ≡ []
none c = grind (arith, is_heap, none_there, c.self.invariant, c.self.view_is, c.in_err-huge.ensures.none)

pub returns-in_err-huge-clause-place : goal.returns-in_err-huge-clause-place
returns-in_err-huge-clause-place c = grind (arith, none, c.from_residual.ensures)

pub returns-in_err-huge-clause-none : goal.returns-in_err-huge-clause-none
returns-in_err-huge-clause-none c =
    rw c.from_residual.ensures (none_pass (has_room c.args.n) (filler_rows c.args.self.now) (none (goal.at.returns-in_err-huge-clause-none c).In_err-huge))

is : (c : In_ok-huge) → IsFound c.args.self.now c.args.n c.in_ok-huge.huge.0
is c =
    let whole = is_heap c.self.invariant c.self.view_is in
    found c.args.self.now c.self.inside.filler c.args.n c.in_ok-huge.huge whole.well.sound.runs.arena whole.shows.filler c.in_ok-huge.ensures.found

pub best-requires : goal.best-requires
best-requires c =
    let own = (is (goal.at.best-requires c).In_ok-huge).own in
    let size = as_many (is_heap c.self.invariant c.self.view_is) in
    record { low = own.from; high = omega (arith, own.to); some = c.requires }

at : (c : After-best) (f : IsFound c.args.self.now c.args.n c.in_ok-huge.huge.0) → c.best.result ≡ best (used_row c.args.self.now.runs c.in_ok-huge.huge.0) c.args.n
at c f = c.best.ensures c.args.self.now (is_heap c.self.invariant c.self.view_is).shows.means (ap shares (is_Filler (hugepage c.args.self.now c.in_ok-huge.huge.0).kind f.filler))

pub unwrap-start-requires : goal.unwrap-start-requires
unwrap-start-requires c =
    let f = is (goal.at.unwrap-start-requires c).In_ok-huge in
    let there = best_there (used_row c.args.self.now.runs c.in_ok-huge.huge.0) c.args.n c.requires f.room in
    subst IsSome (sym (at (goal.at.unwrap-start-requires c).After-best f ∙ there.1)) refl

few : (h s n huge : ℕ) → s < n → n ≡ 256 → h ≤ huge → huge ≤ 4096 → 256 * h + s < 4294967296
few h s n huge a b c d = omega arith

pub overflow_add-result : goal.overflow_add-result
overflow_add-result c =
    let d = (goal.at.overflow_add-result c).After-best in
    let f = is (goal.at.overflow_add-result c).In_ok-huge in
    let runs = d.args.self.now.runs in
    let h = d.in_ok-huge.huge.0 in
    let fit = best_is_fit (used_row runs h) d.args.n c.unwrap-start.result (sym (at d f) ∙ c.unwrap-start.ensures) in
    grind (arith, few h c.unwrap-start.result, is_heap d.self.invariant d.self.view_is)

pub returns-clause-place : goal.returns-clause-place
returns-clause-place c =
    let d = (goal.at.returns-clause-place c).After-best in
    let f = is (goal.at.returns-clause-place c).In_ok-huge in
    grind (arith, at d f)
