use Rattle.std.proofs.Common.{◌≡◌, List, [], ◌∷◌, ◌++◌, Option, None, ap, ◌∙◌, arith}
use Rattle.huge_filler.proofs.Common.{replicate_more, Measures, giver_of}
use Rattle.huge_filler.proofs.Kept.{listed_next}
use Rattle.huge_filler.proofs.Following.{followed_none}
use Rattle.huge_filler.proofs.giving_order.GivingOrder.open.Goals as goal

pub loop-place-preserved : goal.loop-place-preserved
loop-place-preserved c =
    let was = c.loop-place.invariant in
    let place = c.loop-place.place in
    let more = λ (r : List (Option Measures)). r ++ None ∷ [] in
    record {
      rows = c.in_ok-push.ensures.items ∙ ap more was.rows ∙ replicate_more place None;
      told = c.in_ok-push-2.ensures.items ∙ ap more was.told ∙ replicate_more place None;
      givers = listed_next giver_of c.loop-place.told.items c.push-in-loop-place.new.self.items place c.loop-place.list.keys c.insert.new.self.keys c.giver_of.result was.told c.in_ok-push-2.ensures.items was.givers c.giver_of.ensures c.insert.ensures.keys;
      room = omega (arith, was.room, c.insert.ensures.spare);
    }

pub invariant_of-result-2 : goal.invariant_of-result-2
invariant_of-result-2 c =
    let was = c.loop-place.invariant in
    let same : c.loop-place.place ≡ c.args.huge = omega arith in
    grind (arith, followed_none c.loop-place.rows.items c.loop-place.told.items c.loop-place.list.keys c.in_ok-open.field-0 c.args.huge c.requires)
