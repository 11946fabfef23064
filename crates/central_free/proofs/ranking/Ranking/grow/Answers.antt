use Rattle.std.proofs.Common.{◌≡◌, ◌≤◌, ◌++◌, ◌-◌, ◌*◌, ℕ, List, take, drop, length, get_or, ◌∙◌, ap, arith}
use Rattle.std.specs.Vec.{with_items}
use Rattle.std.proofs.lemmas.List.{length-drop, length-take, take_all}
use Rattle.central_free.specs.declared.ranking.Rank.{Rank}
use Rattle.central_free.specs.declared.ranking.Standing.{Standing}
use Rattle.central_free.specs.Ranking.{no_standing, node_at, standings_of}
use Rattle.central_free.proofs.RankFacts.{length-standings_of}
use Rattle.central_free.proofs.RankWrites.{standings-grown, refill, refill_twice}
use Rattle.central_free.proofs.ranking.Ranking.grow.Goals as goal

-- the old leaves are what stands behind the old inner nodes
leaves : (old now : List Rank) (few : ℕ) → now ≡ old → length old ≡ 2 * few → take (length now - few) (drop few now) ≡ drop few old
leaves old now few same size =
    ap (λ ns. take (length ns - few) (drop few ns)) same ∙ take_all (length old - few) (drop few old) (omega (arith, length-drop few old))

pub write_leaves-requires-clause-room : goal.write_leaves-requires-clause-room
write_leaves-requires-clause-room c = grind (arith, length-take, length-standings_of, length-drop)

pub returns-clause-slots : goal.returns-clause-slots
returns-clause-slots c = length-standings_of c.args.slots _

pub returns-clause-standings : goal.returns-clause-standings
returns-clause-standings c =
    let nodes = c.in_ok-nodes.nodes in
    let few = c.self.inside.slots in
    let old : List Rank = c.self.inside.nodes.items in
    let long : length nodes.items ≡ nodes.len = omega (arith, nodes.ok.0) in
    let size : length c.write_leaves.new.nodes ≡ nodes.len = omega (arith, c.write_leaves.auto.nodes, c.deref_mut.ensures.len) in
    let size_too : length c.join_all.new.nodes ≡ nodes.len = omega (arith, c.join_all.auto.nodes, c.deref_mut-2.ensures.len) in
    let second : c.deref_mut-2.result.now ≡ c.write_leaves.new.nodes = c.deref_mut-2.ensures.value ∙ refill nodes.len c.write_leaves.new.nodes nodes.items size (omega arith) in
    let written : (with_items (with_items nodes c.write_leaves.new.nodes) c.join_all.new.nodes).items ≡ c.join_all.new.nodes =
    refill_twice nodes.len c.join_all.new.nodes (c.write_leaves.new.nodes ++ drop (length c.write_leaves.new.nodes) nodes.items) size_too in
    let size_before : length old ≡ 2 * few = omega (arith, c.self.invariant.0) in
    let before : take (length c.deref.result.now - few) (drop few c.deref.result.now) ≡ drop few old = leaves old c.deref.result.now few c.deref.ensures.value size_before in
    let room : few ≤ c.args.slots = omega (arith, c.requires, ap length c.self.view_is, length-standings_of few old) in
    let at : ℕ → List Rank → Standing = λ j ns. get_or (standings_of c.args.slots ns) j no_standing in
    λ k.
    ap (at k) written
    ∙ standings-grown few c.args.slots old c.join_all.new.nodes size_before room
    (λ j less. ap (λ ts. get_or ts j no_standing) c.join_all.ensures.standings ∙ ap (at j) second ∙ c.write_leaves.ensures.standings j less ∙ ap (λ rs. (node_at rs j).standing) before) k
    ∙ ap (λ ts. get_or ts k no_standing) c.self.view_is
