use Rattle.std.proofs.Common.{◌≡◌, ◌+◌, ◌-◌, ◌*◌, ◌<◌, ◌≤◌, true, Option, None, Some, length, ap, sym, refl, arith}
use Rattle.std.specs.List.{slice_set}
use Rattle.std.specs.Option.{is_some, option_to_list}
use Rattle.std.proofs.lemmas.List.{length-append, length-take}
use Rattle.transfer_cache.specs.Transfer.{without_last}
use Rattle.thread_cache.specs.Cache.{IsCounted}
use Rattle.thread_cache.proofs.CacheFacts.{less}
use Rattle.thread_cache.proofs.cache.CachePart.pop.Goals as goal

one : {X : Type 0} (o : Option X) → is_some o ≡ true → length (option_to_list o) ≡ 1
one None is = absurd (cc)
one (Some x) is = refl

-- one object goes
goes : (c : goal.Then-is_some) → (1 * c.size-size.result ≤ c.self.inside.bytes)
    × IsCounted (slice_set c.self.inside.stacks.items c.from.result c.pop-popped.new.self) c.self.inside.limit (c.self.inside.bytes - 1 * c.size-size.result)
goes c =
    let old = c.index_mut-stack.result.now in
    let new = c.pop-popped.new.self in
    let low : c.from.result < length c.self.inside.stacks.items = omega (arith, c.requires, c.from.ensures, ap (λ x. length x.stacks) c.self.view_is) in
    let order = ap length c.pop-popped.ensures.order in
    let some : 0 < length old.objects =
    grind (arith, length-append new.objects (option_to_list c.pop-popped.result), one c.pop-popped.result (sym c.if-is_some.ensures)) in
    let went : length old.objects ≡ length (without_last 1 old.objects) + 1 = omega (arith, some, length-take (length old.objects - 1) old.objects) in
    less c.self.inside.stacks.items c.self.inside.limit c.self.inside.bytes c.from.result old new (without_last 1 old.objects) low
    c.index_mut-stack.ensures.value c.self.invariant c.pop-popped.ensures.left 1 c.size-size.result went c.size-size.ensures.size

pub overflow_sub-self : goal.overflow_sub-self
overflow_sub-self c = let x = (goes c).0 in omega (arith, x)

pub invariant_of-self : goal.invariant_of-self
invariant_of-self c = grind (arith, goes c.before)
