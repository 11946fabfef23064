use Rattle.std.proofs.Common.{◌≡◌, ℕ, false, get_or, Some, subst, ap, ◌∙◌}
use Rattle.huge_filler.specs.Keys.{Giving}
use Rattle.huge_filler.proofs.Common.{not-true, Measures, measures_at, IsCandidate}
use Rattle.huge_filler.proofs.Following.{followed_now}
use Rattle.huge_filler.proofs.Giving.{candidate_is, none_spare, no_givers, turned}
use Rattle.huge_filler.proofs.giving_order.GivingOrder.first_giver.Goals as goal

pub returns-in-Some-clause-found : goal.returns-in-Some-clause-found
returns-in-Some-clause-found c =
    subst (λ (g : Giving). IsCandidate g.rows c.in-Some.giver.huge) c.self.view_is
    (candidate_is c.self.inside.rows.items c.self.inside.list.keys (followed_now _ _ _ _ c.self.invariant (λ k. ap (λ (g : Giving). get_or g.stale k false) c.self.view_is ∙ c.requires k)) c.in-Some.giver c.in-Some.ensures.found (not-true _ c.if-not-giver.true))

pub returns-in_default-clause-none : goal.returns-in_default-clause-none
returns-in_default-clause-none c =
    subst (λ (g : Giving). (h : ℕ) (its : Measures) → measures_at g.rows h ≡ Some its → its.spare ≡ 0) c.self.view_is
    (none_spare c.self.inside.rows.items c.self.inside.list.keys (followed_now _ _ _ _ c.self.invariant (λ k. ap (λ (g : Giving). get_or g.stale k false) c.self.view_is ∙ c.requires k)) c.in-Some.giver c.in-Some.ensures.found (turned _ c.if-not-giver.false))

pub returns-in_default-2-clause-none : goal.returns-in_default-2-clause-none
returns-in_default-2-clause-none c =
    subst (λ (g : Giving). (h : ℕ) (its : Measures) → measures_at g.rows h ≡ Some its → its.spare ≡ 0) c.self.view_is
    (no_givers c.self.inside.rows.items c.self.inside.list.keys (followed_now _ _ _ _ c.self.invariant (λ k. ap (λ (g : Giving). get_or g.stale k false) c.self.view_is ∙ c.requires k)) (c.first.ensures.none.0 c.in_default.is))
