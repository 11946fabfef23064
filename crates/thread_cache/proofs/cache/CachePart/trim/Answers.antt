use Rattle.std.proofs.Common.{◌≡◌, ◌+◌, ◌-◌, ◌<◌, length, ap, arith}
use Rattle.std.proofs.lemmas.List.{length-take}
use Rattle.transfer_cache.specs.Transfer.{without_last}
use Rattle.thread_cache.proofs.CacheFacts.{less}
use Rattle.thread_cache.proofs.cache.CachePart.trim.Goals as goal

pub invariant_of-self : goal.invariant_of-self
invariant_of-self c =
    let old = c.index_mut-stack.result.now in
    let new = c.take-count.new.self in
    let low : c.from.result < length c.self.inside.stacks.items = omega (arith, c.requires.class, c.from.ensures, ap (λ x. length x.stacks) c.self.view_is) in
    let went : length old.objects ≡ length (without_last c.args.n old.objects) + c.from-2.result =
    omega (arith, length-take (length old.objects - c.args.n) old.objects, c.take-count.ensures.count, c.from-2.ensures) in
    (less c.self.inside.stacks.items c.self.inside.limit c.self.inside.bytes c.from.result old new (without_last c.args.n old.objects) low
    c.index_mut-stack.ensures.value c.self.invariant c.take-count.ensures.left c.from-2.result c.size-size.result went c.size-size.ensures.size).1
