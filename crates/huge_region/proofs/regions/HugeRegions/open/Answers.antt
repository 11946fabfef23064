use Rattle.std.proofs.Common.{◌≡◌, ◌+◌, List, [], ◌∷◌, ◌++◌, length, All, ap, subst, sym, ◌∙◌, arith}
use Rattle.huge_region.proofs.Common.{RegionRow, IsSpare, All-push, length_push}
use Rattle.huge_region.proofs.regions.HugeRegions.open.Goals as goal

one_more : {X : Type 0} (P : X → Type 0) (xs ys : List X) (x : X) → ys ≡ xs ++ x ∷ [] → All P xs → P x → All P ys × (length ys ≡ length xs + 1)
one_more P xs ys x e all here = (subst (All P) (sym e) (All-push P xs x all here), ap length e ∙ length_push xs x)

pub loop-made-preserved : goal.loop-made-preserved
loop-made-preserved c =
    let more = one_more (IsSpare c.args.width) c.loop-made.spare.items c.push.new.self.items c.in_ok-open.field-0
    c.in_ok-push.ensures.items c.loop-made.invariant.unused (ap (λ (r : RegionRow). r.used) c.in_ok-open.ensures) in
    record { unused = more.0; count = omega (arith, more.1, c.loop-made.invariant.count); room = omega (arith, c.in_ok-push.ensures.capacity, c.loop-made.invariant.room) }
