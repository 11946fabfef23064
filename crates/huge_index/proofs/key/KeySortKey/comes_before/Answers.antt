use Rattle.std.proofs.Common.{nat_lt, ap, ◌∙◌}
use Rattle.huge_index.specs.Order.{rank}
use Rattle.huge_index.proofs.Ranks.{by_rank}
use Rattle.huge_index.proofs.key.KeySortKey.comes_before.Goals as goal

pub returns : goal.returns
returns c =
    ap (λ r. nat_lt r c.rank-2.result) c.rank.ensures.rank
    ∙ ap (nat_lt (rank c.args.self.now)) c.rank-2.ensures.rank
    ∙ by_rank c.args.self.now c.args.other c.rank.ensures.longest c.rank-2.ensures.longest c.rank.ensures.allocs c.rank-2.ensures.allocs c.rank.ensures.huge c.rank-2.ensures.huge
