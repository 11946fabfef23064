use Rattle.std.proofs.Common.{◌≡◌, ◌+◌, ◌-◌, ◌*◌, ◌/◌, ◌<◌, ◌≤◌, ◌++◌, length, take, ap, sym, subst, ◌∙◌, arith}
use Rattle.std.proofs.lemmas.List.{get_or_default, length-take, length-append}
use Rattle.thread_cache.proofs.CacheFacts.{more, fits, next_is_over}
use Rattle.thread_cache.proofs.cache.CachePart.add.Goals as goal

pub invariant_of-self-2 : goal.invariant_of-self-2
invariant_of-self-2 c =
    let old = c.index_mut-stack.result.now in
    let new = c.append.new.self in
    let n = c.min-count.result in
    let list = c.args.list.now in
    let low : c.from.result < length c.self.inside.stacks.items = omega (arith, c.requires.class, c.from.ensures, ap (λ x. length x.stacks) c.self.view_is) in
    let made = c.in_ok-append.ensures.ok in
    let size : c.size-2.result ≡ old.size = c.size-2.ensures.size ∙ ap (λ s. s.size) made in
    let few : n ≤ (c.self.inside.limit - c.self.inside.bytes) / c.size.result = omega (arith, c.min-count.ensures) in
    let fit = subst (λ s. c.self.inside.bytes + n * s ≤ c.self.inside.limit) (c.size.ensures.size ∙ sym size)
    (fits c.self.inside.limit c.self.inside.bytes n c.size.result c.self.invariant.within few) in
    let short : n ≤ length list = omega (arith, c.min-count.ensures) in
    let came : length (old.objects ++ take n list) ≡ length old.objects + n = grind (arith, length-append old.objects (take n list), length-take n list) in
    more c.self.inside.stacks.items c.self.inside.limit c.self.inside.bytes c.from.result old new (old.objects ++ take n list) low
    c.index_mut-stack.ensures.value c.self.invariant made n c.size-2.result came size fit

pub returns-clause-most : goal.returns-clause-most
returns-clause-most c below = grind (arith, next_is_over c.self.inside.limit c.self.inside.bytes, invariant_of-self-2 c, get_or_default)
