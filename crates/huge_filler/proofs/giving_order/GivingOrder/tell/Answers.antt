use Rattle.std.proofs.Common.{length, sym, ap, subst, arith}
use Rattle.huge_filler.specs.Keys.{Giving}
use Rattle.huge_filler.proofs.Common.{IsFollowed}
use Rattle.huge_filler.proofs.Following.{told_held, told_one}
use Rattle.huge_filler.proofs.giving_order.GivingOrder.tell.Goals as goal

pub rekey-requires : goal.rekey-requires
rekey-requires c =
    told_held c.self.inside.rows.items c.self.inside.told.items c.self.inside.list.keys c.self.inside.stale c.self.invariant c.args.place
    (omega (arith, c.requires, ap (λ (g : Giving). length g.rows) c.self.view_is)) c.index-before.result.now c.index-before.ensures c.giver_of.result c.giver_of.ensures

pub invariant_of-self : goal.invariant_of-self
invariant_of-self c =
    subst (IsFollowed _ _ _) (sym c.remove.ensures)
    (told_one c.self.inside.rows.items c.self.inside.told.items c.self.inside.list.keys c.self.inside.stale c.self.invariant c.args.place
    (omega (arith, c.requires, ap (λ (g : Giving). length g.rows) c.self.view_is)) c.index-before.result.now c.index-before.ensures c.index-after.result.now c.giver_of.result c.giver_of-2.result
    c.rekey.new.self.keys c.index-after.ensures c.giver_of.ensures c.giver_of-2.ensures c.rekey.ensures.keys)
