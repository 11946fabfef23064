use Rattle.std.proofs.Common.{◌≡◌, ◌↔◌, true, false, refl, sym, ◌∙◌, subst}
use Rattle.std.specs.Option.{IfNone}
use Rattle.tc_model.specs.Input.{Input}
use Rattle.tc_model.specs.Run.{run}
use Rattle.tc_model.specs.Steps.{stepped}
use Rattle.tc_model.specs.Replays.{is_polite}
use Rattle.cpu_rows.specs.Machine as allocator
use Rattle.world_lock.specs.Locked.{Locked}
use Rattle.world_lock.specs.Stepping.{IsTurnAt, halt_of, turn_of}
use Rattle.world_lock.proofs.Polite.{polite-with}
use Rattle.tc_model.specs.declared.board.Turn.TheVariants as turn
use Rattle.world_lock.proofs.Turning.{turn_at, halted_at, if_none, goes, never_held, never_halted}
use Rattle.world_lock.proofs.world.World.step.Goals as goal

pub invariant_of-self : goal.invariant_of-self
invariant_of-self g c =
    let order = c.self.inside.state.order in
    let t = c.args.thread.0 in
    let answer = subst (λ (i : Input). c.in-Ok.stepped ≡ stepped (allocator.rules i) (run (allocator.rules i) order) t) c.self.invariant.0 c.in-Ok.ensures.answer in
    let polite = subst (λ (i : Input). is_polite (allocator.rules i) (run (allocator.rules i) order) t ≡ true) c.self.invariant.0 (sym c.yields.ensures ∙ c.if-not-yields.false) in
    (c.in-Ok.ensures.input ∙ c.self.invariant.0, rw c.in-Ok.ensures.order (polite-with (allocator.rules g.N.Named.input) order t c.in-Ok.stepped c.self.invariant.1 answer polite))

pub returns-in-Ok-clause-answer : goal.returns-in-Ok-clause-answer
returns-in-Ok-clause-answer g c =
    let before = c.self.inside.state in
    let t = c.args.thread.0 in
    let turn = turn_at (allocator.rules before.input) before.input.asked.config.events before.order t c.in-Ok.stepped (sym c.yields.ensures ∙ c.if-not-yields.false) c.in-Ok.ensures.answer c.in-Ok.ensures.room in
    let named = subst (λ (i : Input). IsTurnAt (allocator.rules i) i.asked.config.events before.order t (turn_of c.in-Ok.stepped)) c.self.invariant.0 turn in
    let answer = subst (IsTurnAt (allocator.rules g.N.Named.input) g.N.Named.input.asked.config.events before.order t) (sym c.turn_of.ensures) named in
    subst (λ (w : Locked). IfNone w.halt (IsTurnAt (allocator.rules g.N.Named.input) g.N.Named.input.asked.config.events w.order t c.turn_of.result)) c.self.view_is (if_none c.self.inside.halt answer)

pub returns-then-not-yields-clause-held : goal.returns-then-not-yields-clause-held
returns-then-not-yields-clause-held g c =
    let before = c.self.inside.state in
    let t = c.args.thread.0 in
    let off = subst (λ (i : Input). is_polite (allocator.rules i) (run (allocator.rules i) before.order) t ≡ false) c.self.invariant.0 (sym c.yields.ensures ∙ c.if-not-yields.true) in
    subst (λ (w : Locked). IfNone w.halt ((turn.Held ≡ turn.Held) ↔ (is_polite (allocator.rules g.N.Named.input) (run (allocator.rules g.N.Named.input) w.order) t ≡ false))) c.self.view_is (if_none c.self.inside.halt (λ is. off, λ is. refl))

pub returns-then-not-yields-clause-answer : goal.returns-then-not-yields-clause-answer
returns-then-not-yields-clause-answer g c =
    let before = c.self.inside.state in
    let t = c.args.thread.0 in
    let off = subst (λ (i : Input). is_polite (allocator.rules i) (run (allocator.rules i) before.order) t ≡ false) c.self.invariant.0 (sym c.yields.ensures ∙ c.if-not-yields.true) in
    subst (λ (w : Locked). IfNone w.halt (is_polite (allocator.rules g.N.Named.input) (run (allocator.rules g.N.Named.input) w.order) t ≡ false)) c.self.view_is (if_none c.self.inside.halt off)

pub returns-in-Ok-clause-held : goal.returns-in-Ok-clause-held
returns-in-Ok-clause-held g c =
    let before = c.self.inside.state in
    let t = c.args.thread.0 in
    let polite = subst (λ (i : Input). is_polite (allocator.rules i) (run (allocator.rules i) before.order) t ≡ true) c.self.invariant.0 (sym c.yields.ensures ∙ c.if-not-yields.false) in
    let held = goes (is_polite (allocator.rules g.N.Named.input) (run (allocator.rules g.N.Named.input) before.order) t) c.turn_of.result polite (λ is. never_held c.in-Ok.stepped (sym c.turn_of.ensures ∙ is)) in
    subst (λ (w : Locked). IfNone w.halt ((c.turn_of.result ≡ turn.Held) ↔ (is_polite (allocator.rules g.N.Named.input) (run (allocator.rules g.N.Named.input) w.order) t ≡ false))) c.self.view_is (if_none c.self.inside.halt held)

pub returns-in-Err-clause-held : goal.returns-in-Err-clause-held
returns-in-Err-clause-held g c =
    let before = c.self.inside.state in
    let t = c.args.thread.0 in
    let polite = subst (λ (i : Input). is_polite (allocator.rules i) (run (allocator.rules i) before.order) t ≡ true) c.self.invariant.0 (sym c.yields.ensures ∙ c.if-not-yields.false) in
    let held = goes (is_polite (allocator.rules g.N.Named.input) (run (allocator.rules g.N.Named.input) before.order) t) (turn.Halted c.halt_of-cause.result) polite (never_halted c.halt_of-cause.result) in
    subst (λ (w : Locked). IfNone w.halt ((turn.Halted c.halt_of-cause.result ≡ turn.Held) ↔ (is_polite (allocator.rules g.N.Named.input) (run (allocator.rules g.N.Named.input) w.order) t ≡ false))) c.self.view_is (if_none c.self.inside.halt held)

pub returns-in-Err-clause-answer : goal.returns-in-Err-clause-answer
returns-in-Err-clause-answer g c =
    let before = c.self.inside.state in
    let t = c.args.thread.0 in
    let halted = halted_at (allocator.rules before.input) before.input.asked.config.events before.order t c.in-Err.fault (sym c.yields.ensures ∙ c.if-not-yields.false) c.in-Err.ensures.fault in
    let named = subst (λ (i : Input). IsTurnAt (allocator.rules i) i.asked.config.events before.order t (turn.Halted (halt_of c.in-Err.fault))) c.self.invariant.0 halted in
    let answer = subst (λ h. IsTurnAt (allocator.rules g.N.Named.input) g.N.Named.input.asked.config.events before.order t (turn.Halted h)) (sym c.halt_of-cause.ensures) named in
    subst (λ (w : Locked). IfNone w.halt (IsTurnAt (allocator.rules g.N.Named.input) g.N.Named.input.asked.config.events w.order t (turn.Halted c.halt_of-cause.result))) c.self.view_is (if_none c.self.inside.halt answer)
