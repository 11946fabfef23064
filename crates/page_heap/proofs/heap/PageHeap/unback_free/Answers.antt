use Rattle.std.proofs.Common.{◌-◌, ◌*◌, refl, sym, ap, ◌∙◌, arith}
use Rattle.page_heap.proofs.Common.{Heap, hugepage, free_given, unbacked_span, behind}
use Rattle.page_heap.proofs.Gives.{free_stretch, stretch_sound}
use Rattle.page_heap.proofs.Results.{IsHeap, is_heap, kept_by, view_by, made_heap}
use Rattle.page_heap.proofs.Unbacked.{free_even, unback_span, free_backed, free_made}
use Rattle.page_heap.proofs.heap.PageHeap.unback_free.Goals as goal
use Rattle.page_heap.proofs.heap.PageHeap.unback_free.Goals.{After-unback-2}

pub unback-requires : goal.unback-requires
unback-requires c = unback_span _ _ (is_heap c.self.invariant c.self.view_is) c.args.stretch.first.0 c.args.stretch.many c.requires.from c.requires.to
    (λ h low high. free_even (hugepage c.args.self.now h) (c.requires.pass h low high))

pub unback-requires-2-clause-backed : goal.unback-requires-2-clause-backed
unback-requires-2-clause-backed c h low high = free_backed _ _ (is_heap c.self.invariant c.self.view_is) h (c.requires.pass h low high)

now : (c : After-unback-2) → IsHeap (record c.self.inside { table = c.unback.new.self; cache = c.unback-2.new.self }) (unbacked_span c.args.self.now c.args.stretch.first.0 c.args.stretch.many)
now c =
    let is = is_heap c.self.invariant c.self.view_is in
    let first = c.args.stretch.first.0 in
    let many = c.args.stretch.many in
    let made = free_made _ _ is first many c.requires.from c.requires.to c.requires.pass (stretch_sound c.args.self.now first many is.well.sound c.requires) in
    made_heap made refl (c.unback.ensures c.args.self.now is.shows.means) c.tells_runs.ensures refl c.unback-2.ensures refl refl

pub invariant_of-self : goal.invariant_of-self
invariant_of-self c = kept_by (now c)

pub returns-clause-few : goal.returns-clause-few
returns-clause-few c = omega (arith, (is_heap c.self.invariant c.self.view_is).well.limits.huge_to, c.requires.to, c.requires.from)

pub returns-clause-given : goal.returns-clause-given
returns-clause-given c n wanted =
    free_stretch c.args.self.now n c.args.stretch.first.0 c.args.stretch.many (is_heap c.self.invariant c.self.view_is).well.sound c.requires wanted
    ∙ ap (λ (heap : Heap). behind (256 * c.args.stretch.many) (free_given heap (n - 256 * c.args.stretch.many))) (sym (view_by (now c)))
