use Rattle.std.proofs.Common.{ap, subst, sym, map, ◌∙◌}
use Rattle.std.specs.Prelude.{Vec}
use Rattle.std.specs.declared.alloc.Global.{Global}
use Rattle.std.specs.Slots.{slots_items}
use Rattle.tc_model.specs.declared.board.Entry.{Entry}
use Rattle.part_lock.specs.declared.view.Stall.{Stall}
use Rattle.part_lock.specs.Closes.{IsClosed}
use Rattle.part_lock.proofs.Carried.{journals}
use Rattle.part_lock.proofs.Ends.{closes_as, leads_same, all_same}
use Rattle.part_lock.proofs.parts.Parts.close.Goals as goal

pub returns-clause-closed : goal.returns-clause-closed
returns-clause-closed g c = λ m is.
    let q = c.requires.main in
    let same = leads_same q.0 m c.args.main.me.0 (ap (λ z. z.0) q.1.0) (ap (λ z. z.0) is.0) in
    let closed = closes_as g.M.Machine.rules c.args.self.table.shared.key _ _ m _ _ (ap (λ z. z.0) is.0) (all_same q.0 m same q.2) c.close_with.ensures.values.2 in
    let xs = slots_items c.close_with.result.slots in
    let keyed = subst (λ k. IsClosed g.M.Machine.rules k m (map (λ (x : Stall _). x.part) xs) (map (λ (x : Stall _). x.entries.items) xs)) c.args.self.keyed closed in
    let parts = subst (λ l. IsClosed g.M.Machine.rules c.args.self.key m l (map (λ (x : Stall _). x.entries.items) xs)) (sym c.drain-parts.ensures.parts) keyed in
    let lists = ap (map (λ (v : Vec Entry Global). v.items)) c.drain-parts.ensures.entries ∙ journals xs in
    subst (IsClosed g.M.Machine.rules c.args.self.key m c.drain-parts.result.0.items) (sym lists) parts
