use Rattle.std.proofs.Common.{◌≡◌, ◌+◌, ℕ, None, ◌∙◌, ap, subst, arith}
use Rattle.central_free.specs.Central.{IsSound, taken, taken_one}
use Rattle.central_free.proofs.TookFacts.{IsTaking, IsTaking-none, IsTaking-more, IsTook, IsTook-end}
use Rattle.central_free.proofs.central.CentralFree.take.Goals as goal

pub loop-came-init : goal.loop-came-init
loop-came-init c =
    (IsTaking-none c.args.self.now c.args.out.now (subst IsSound c.self.view_is c.self.invariant.0), omega arith)

pub loop-came-preserved : goal.loop-came-preserved
loop-came-preserved c =
    let run = c.take_run-more.ensures in
    let more = IsTaking-more c.loop-came.invariant.0 c.take_run-more.new.self c.take_run-more.new.out c.take_run-more.result run.spans run.out run.count run.spare in
    (more run.sound run.given run.fresh run.different run.kept run.moves, omega (arith, run.few))

-- no object was left
stopped : (c : goal.Then-more-eq0) → IsTook c.args.n c.args.self.now c.take_run-more.new.self c.args.out.now c.take_run-more.new.out c.loop-came.came
stopped c =
    let run = c.take_run-more.ensures in
    let none : c.take_run-more.result ≡ 0 = c.if-more-eq0.true in
    let more = IsTaking-more c.loop-came.invariant.0 c.take_run-more.new.self c.take_run-more.new.out c.take_run-more.result run.spans run.out run.count run.spare in
    let same : c.loop-came.came + c.take_run-more.result ≡ c.loop-came.came = omega (arith, none) in
    let P : ℕ → Type 0 = IsTaking c.args.self.now c.take_run-more.new.self c.args.out.now c.take_run-more.new.out in
    let left : taken_one c.take_run-more.new.self.spans ≡ None = ap (λ t. taken_one t.spans) run.spans ∙ ap (λ k. taken_one (taken k c.loop-came.self.spans).spans) none ∙ run.none none in
    IsTook-end (subst P same (more run.sound run.given run.fresh run.different run.kept run.moves)) c.args.n c.loop-came.invariant.1 (λ _. left)

pub returns-then-more-eq0-clause-count : goal.returns-then-more-eq0-clause-count
returns-then-more-eq0-clause-count c = (stopped c).count

pub returns-then-more-eq0-clause-none : goal.returns-then-more-eq0-clause-none
returns-then-more-eq0-clause-none c = (stopped c).none

pub returns-then-more-eq0-clause-spans : goal.returns-then-more-eq0-clause-spans
returns-then-more-eq0-clause-spans c = (stopped c).spans

pub returns-then-more-eq0-clause-out : goal.returns-then-more-eq0-clause-out
returns-then-more-eq0-clause-out c = (stopped c).items

pub returns-then-more-eq0-clause-given : goal.returns-then-more-eq0-clause-given
returns-then-more-eq0-clause-given c = (stopped c).given

pub returns-then-more-eq0-clause-fresh : goal.returns-then-more-eq0-clause-fresh
returns-then-more-eq0-clause-fresh c = (stopped c).fresh

pub returns-then-more-eq0-clause-different : goal.returns-then-more-eq0-clause-different
returns-then-more-eq0-clause-different c = (stopped c).different

-- all that was asked for came
finished : (c : goal.After-loop-came) → IsTook c.args.n c.args.self.now c.loop-came.self c.args.out.now c.loop-came.out c.loop-came.came
finished c =
    IsTook-end c.loop-came.invariant.0 c.args.n c.loop-came.invariant.1 (λ less. absurd (omega arith))

pub returns-clause-none : goal.returns-clause-none
returns-clause-none c = (finished c).none

pub returns-clause-given : goal.returns-clause-given
returns-clause-given c = (finished c).given

pub returns-clause-fresh : goal.returns-clause-fresh
returns-clause-fresh c = (finished c).fresh
