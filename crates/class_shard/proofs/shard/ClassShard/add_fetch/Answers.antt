use Rattle.std.proofs.Common.{◌++◌, subst}
use Rattle.std.specs.Prelude.{All}
use Rattle.central_free.specs.Central.{opening, IsTakenIn}
use Rattle.class_shard.specs.Shard.{Shard, IsOut}
use Rattle.class_shard.proofs.OutFacts.{IsOut-added}
use Rattle.class_shard.proofs.shard.ClassShard.add_fetch.Goals as goal

pub returns-clause-given : goal.returns-clause-given
returns-clause-given c =
    let P : Shard → Type 0 = λ t. All (IsTakenIn c.add_take.new.self.spans) (opening c.args.span t.central.row.size c.args.n) in
    subst P c.self.view_is c.in_ok-add_take.ensures.given

pub returns-clause-owned : goal.returns-clause-owned
returns-clause-owned c =
    λ others.
    let s : Shard = record { class = c.self.inside.class; transfer = c.self.inside.transfer; central = c.self.inside.central } in
    let now : Shard = record { class = c.self.inside.class; transfer = c.self.inside.transfer; central = c.add_take.new.self } in
    let P : Shard → Type 0 = λ t. IsOut t others → IsOut now (opening c.args.span t.central.row.size c.args.n ++ others) in
    let came = c.in_ok-add_take.ensures in
    subst P c.self.view_is (IsOut-added s c.add_take.new.self (opening c.args.span s.central.row.size c.args.n) others came.given came.fresh came.different came.kept)
