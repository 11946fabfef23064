use Rattle.std.proofs.Common.{◌*◌, sym, ap, ◌∙◌, subst}
use Rattle.page_heap.proofs.Common.{Heap, Released, free_given, over_limit, IsSound, free_sound}
use Rattle.page_heap.proofs.Gives.{settled_is}
use Rattle.page_heap.proofs.heap.PageHeap.settle.Goals as goal

pub returns-clause-settled : goal.returns-clause-settled
returns-clause-settled c =
    sym (settled_is c.args.self.now
    ∙ (ap (λ (h : Heap). (free_given h (256 * over_limit h)).heap) (sym c.note_use-over.ensures.noted)
    ∙ (ap (λ n. (free_given c.note_use-over.new.self n).heap) (sym c.note_use-over.ensures.over) ∙ ap (λ (r : Released). r.heap) c.release_from-pages.ensures.given)))

pub returns-clause-sound : goal.returns-clause-sound
returns-clause-sound c =
    subst IsSound (ap (λ (r : Released). r.heap) c.release_from-pages.ensures.given) (free_sound c.note_use-over.new.self c.note_use-over.result c.release_from-pages.ensures.sound)
