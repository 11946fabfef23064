use Rattle.std.proofs.Common.{◌++◌, sym, ap, subst}
use Rattle.std.specs.Prelude.{All}
use Rattle.central_free.specs.Central.{IsTakenIn}
use Rattle.class_shard.specs.Shard.{Shard, IsOut}
use Rattle.class_shard.proofs.OutFacts.{IsOut-back, IsOut-put}
use Rattle.class_shard.proofs.shard.ClassShard.give.Goals as goal

pub put-requires-then-not-put-clause-taken : goal.put-requires-then-not-put-clause-taken
put-requires-then-not-put-clause-taken c =
    let P : Shard → Type 0 = λ t. All (IsTakenIn t.central.spans) c.args.list.now in
    subst P (sym c.self.view_is) c.requires.taken

pub returns-then-not-put-clause-owned : goal.returns-then-not-put-clause-owned
returns-then-not-put-clause-owned c =
    λ others.
    let s : Shard = record { class = c.self.inside.class; transfer = c.self.inside.transfer; central = c.self.inside.central } in
    let now : Shard = record { class = c.self.inside.class; transfer = c.put.new.self; central = c.put-then-not-put.new.self } in
    let P : Shard → Type 0 = λ t. IsOut t (c.args.list.now ++ others) → IsOut now others in
    subst P c.self.view_is (IsOut-back s c.put-then-not-put.new.self c.put.new.self c.args.list.now others (ap (λ t. t.objects) c.if-not-put.ensures.over) c.put-then-not-put.ensures.kept)

pub returns-else-not-put-clause-owned : goal.returns-else-not-put-clause-owned
returns-else-not-put-clause-owned c =
    λ others.
    let s : Shard = record { class = c.self.inside.class; transfer = c.self.inside.transfer; central = c.self.inside.central } in
    let now : Shard = record { class = c.self.inside.class; transfer = c.put.new.self; central = c.self.inside.central } in
    let P : Shard → Type 0 = λ t. IsOut t (c.args.list.now ++ others) → IsOut now others in
    subst P c.self.view_is (IsOut-put s c.put.new.self c.args.list.now others (ap (λ t. t.objects) c.if-not-put.ensures.put))
