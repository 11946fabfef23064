use Rattle.std.proofs.Common.{◌≡◌, ◌-◌, true, refl, sym, ap, ◌∙◌, arith}
use Rattle.page_heap.proofs.Common.{and_parts, Heap, hugepage, is_even, is_region, is_idle, idle_given, unbacked_span, behind}
use Rattle.page_heap.proofs.Gives.{one_idle, idle_next, idle_then}
use Rattle.page_heap.proofs.Results.{IsHeap, is_heap, kept_by, view_by, made_heap}
use Rattle.page_heap.proofs.Unbacked.{alone, region_even, unback_span, idle_made}
use Rattle.page_heap.proofs.heap.PageHeap.unback_idle.Goals as goal
use Rattle.page_heap.proofs.heap.PageHeap.unback_idle.Goals.{After-tells_runs}

pub unback-requires : goal.unback-requires
unback-requires c =
    let is = is_heap c.self.invariant c.self.view_is in
    let one = c.args.huge.0 in
    unback_span _ _ is one 1 c.requires.own.from (omega (arith, c.requires.own.to))
    (alone (λ h. is_even (hugepage c.args.self.now h) ≡ true) one (region_even (hugepage c.args.self.now one) (and_parts _ _ (and_parts _ _ c.requires.passes).0).0))

now : (c : After-tells_runs) → IsHeap (record c.self.inside { table = c.unback.new.self }) (unbacked_span c.args.self.now c.args.huge.0 1)
now c =
    let is = is_heap c.self.invariant c.self.view_is in
    let one = c.args.huge.0 in
    let region = alone (λ h. is_region (hugepage c.args.self.now h) ≡ true) one (and_parts _ _ (and_parts _ _ c.requires.passes).0).0 in
    let made = idle_made _ _ is one 1 c.requires.own.from (omega (arith, c.requires.own.to)) region (one_idle c.args.self.now c.args.huge is.well.sound c.requires) in
    made_heap made refl (c.unback.ensures c.args.self.now is.shows.means) c.tells_runs.ensures refl refl refl refl

pub invariant_of-self : goal.invariant_of-self
invariant_of-self c = kept_by (now c)

pub returns-clause-given : goal.returns-clause-given
returns-clause-given c n some =
    idle_next c.args.self.now c.args.huge (is_heap c.self.invariant c.self.view_is).well.sound c.requires n some
    ∙ ap (λ (heap : Heap). behind 256 (idle_given heap (n - 256))) (sym (view_by (now c)))

pub returns-clause-past : goal.returns-clause-past
returns-clause-past c h l = ap (λ (heap : Heap). is_idle heap h) (view_by (now c)) ∙ idle_then c.args.self.now c.args.huge (is_heap c.self.invariant c.self.view_is).well.sound c.requires h l
