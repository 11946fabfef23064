use Rattle.std.proofs.Common.{◌≡◌, ℕ, ◌<◌, ◌≤◌, true, false, Option, Some, None, option_map, refl, sym, subst, ◌∙◌}
use Rattle.std.specs.Prelude.{MatchOption}
use Rattle.page_heap.proofs.Common.{false≢true, Heap, Placed, new_unsettled, settled, none_fits, IsSound, IsGiven}
use Rattle.heap_rules.proofs.Given.{new_gives}
use Rattle.page_heap.proofs.Stays.{new_lives, new_stays}
use Rattle.page_heap.proofs.heap.PageHeap.new_run.Goals as goal
use Rattle.page_heap.proofs.heap.PageHeap.new_run.Goals.{After-settle}

-- what the law says of an answer that is known
by_answer : (heap : Heap) (n : ℕ) (o : Option Placed) → IsSound heap → 2 ≤ heap.config.region → 0 < n → new_unsettled heap n ≡ o →
    MatchOption (option_map (λ (p : Placed). record p { heap = settled p.heap }) o) (none_fits heap n ≡ true) (λ p. IsGiven heap n p × (none_fits heap n ≡ false))
by_answer heap n o sound wide some e =
    subst (λ q. MatchOption (option_map (λ (p : Placed). record p { heap = settled p.heap }) q) (none_fits heap n ≡ true)
    (λ p. IsGiven heap n p × (none_fits heap n ≡ false))) e (new_gives heap n sound wide some)

pub returns-in_err-run-clause-none_fits : goal.returns-in_err-run-clause-none_fits
returns-in_err-run-clause-none_fits c =
    let none : none_fits c.args.self.now c.args.n ≡ true = by_answer c.args.self.now c.args.n None c.in_err-run.ensures.sound c.in_err-run.ensures.wide c.requires c.in_err-run.ensures.new in
    rw c.from_residual.ensures (λ _. none, λ _. refl)

pub returns-clause-none_fits : goal.returns-clause-none_fits
returns-clause-none_fits c =
    let given = by_answer c.args.self.now c.args.n (Some (record { run = c.in_ok-run.run'; heap = c.place.new.self })) c.in_ok-run.ensures.sound
    c.in_ok-run.ensures.wide c.requires c.in_ok-run.ensures.new in
    (λ e. absurd (false≢true (sym e)), λ e. absurd (false≢true (sym given.1 ∙ e)))

pub returns-clause-given : goal.returns-clause-given
returns-clause-given c =
    let given = by_answer c.args.self.now c.args.n (Some (record { run = c.in_ok-run.run'; heap = c.place.new.self })) c.in_ok-run.ensures.sound
    c.in_ok-run.ensures.wide c.requires c.in_ok-run.ensures.new in
    subst (λ (heap : Heap). IsGiven c.args.self.now c.args.n (record { run = c.in_ok-run.run'; heap = heap })) (sym c.settle.ensures.settled) given.0

-- what the run is given, at its answer
given : (c : After-settle) → IsGiven c.args.self.now c.args.n (record { run = c.in_ok-run.run'; heap = c.settle.new.self })
given c =
    let law = by_answer c.args.self.now c.args.n (Some (record { run = c.in_ok-run.run'; heap = c.place.new.self })) c.in_ok-run.ensures.sound
    c.in_ok-run.ensures.wide c.requires c.in_ok-run.ensures.new in
    subst (λ (heap : Heap). IsGiven c.args.self.now c.args.n (record { run = c.in_ok-run.run'; heap = heap })) (sym c.settle.ensures.settled) law.0

pub returns-clause-live : goal.returns-clause-live
returns-clause-live c =
    let d = (goal.at.returns-clause-live c).After-settle in
    new_lives d.args.self.now d.args.n (record { run = d.in_ok-run.run'; heap = d.settle.new.self }) (given d)

pub returns-clause-stay : goal.returns-clause-stay
returns-clause-stay c =
    let d = (goal.at.returns-clause-stay c).After-settle in
    new_stays d.args.self.now d.args.n (record { run = d.in_ok-run.run'; heap = d.settle.new.self }) (given d)
