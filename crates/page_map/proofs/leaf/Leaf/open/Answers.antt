use Rattle.std.proofs.Common.{rules}
use Rattle.page_map.proofs.leaf.Leaf.open.Goals as goal

pub returns : goal.returns
returns c = c.in_ok-vec.ensures.items_if_clones_equal (λ y clone. search rules)
