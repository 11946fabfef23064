use Rattle.std.proofs.Common.{◌≡◌, ℕ, ◌<◌, List, Option, Some, All, subst, refl, arith, below_more}
use Rattle.huge_filler.proofs.Common.{Serves, Measures, measures_at}
use Rattle.huge_filler.proofs.Choosing.{preferred_is, none_has_room}
use Rattle.huge_filler.proofs.filler.HugeFiller.preferred.Goals as goal

pub loop-tier-preserved : goal.loop-tier-preserved
loop-tier-preserved c = below_more (λ t. All (λ key. ¬ (Serves t c.args.n key)) c.self.inside.index.keys) c.loop-tier.tier c.loop-tier.invariant (c.in_default.ensures.none.0 refl)

pub returns-in-Some-clause-found : goal.returns-in-Some-clause-found
returns-in-Some-clause-found c =
    grind (arith, preferred_is c.self.inside.giving.rows c.self.inside.index.keys c.args.n c.self.invariant.keys c.loop-tier.tier c.in-Some.huge)

pub returns-clause-none : goal.returns-clause-none
returns-clause-none c =
    subst (λ (rows : List (Option Measures)). (h : ℕ) (its : Measures) → measures_at rows h ≡ Some its → its.longest < c.args.n) c.self.view_is
    (none_has_room c.self.inside.giving.rows c.self.inside.index.keys c.args.n c.self.invariant.keys c.self.invariant.tiers (λ t l. c.loop-tier.invariant t (omega arith)))
