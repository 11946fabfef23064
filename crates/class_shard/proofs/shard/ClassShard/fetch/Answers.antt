use Rattle.std.proofs.Common.{◌-◌, ◌==◌, List, ◌++◌, length, drop, sym, ◌∙◌, ap, subst}
use Rattle.std.specs.Prelude.{All}
use Rattle.std.proofs.lemmas.Bool.{cond-true, cond-false, eq-eqb, ne_eqb}
use Rattle.std.proofs.lemmas.List.Elements.{All-drop}
use Rattle.std.proofs.Common.{arith}
use Rattle.tc_units.specs.declared.units.Addr.{Addr}
use Rattle.central_free.specs.Central.{taken, IsTakenIn}
use Rattle.transfer_cache.specs.Transfer.{last_first}
use Rattle.class_shard.specs.Shard.{Shard, IsOut, fetched}
use Rattle.class_shard.proofs.OutFacts.{All-reverse, IsOut-spans, IsOut-cached}
use Rattle.class_shard.proofs.shard.ClassShard.fetch.Goals as goal
use Rattle.class_shard.proofs.shard.ClassShard.fetch.Goals.{then-held-eq0, else-held-eq0}

pub returns-then-came-eq0-clause-kept : goal.returns-then-came-eq0-clause-kept
returns-then-came-eq0-clause-kept c =
    λ a there.
    let P : Shard → Type 0 = λ t. IsTakenIn t.central.spans a in
    elim c.if-held-eq0.branch [
      | then-held-eq0 w ↦ subst P (sym w.self-is) (w.take-came.ensures.kept a (subst P (sym c.self.view_is) there))
      | else-held-eq0 w ↦ subst P (sym w.self-is) (subst P (sym c.self.view_is) there)
    ]

pub returns-else-came-eq0-clause-kept : goal.returns-else-came-eq0-clause-kept
returns-else-came-eq0-clause-kept c =
    λ a there.
    let P : Shard → Type 0 = λ t. IsTakenIn t.central.spans a in
    elim c.if-held-eq0.branch [
      | then-held-eq0 w ↦ subst P (sym w.self-is) (w.take-came.ensures.kept a (subst P (sym c.self.view_is) there))
      | else-held-eq0 w ↦ subst P (sym w.self-is) (subst P (sym c.self.view_is) there)
    ]

pub returns-else-came-eq0-clause-miss : goal.returns-else-came-eq0-clause-miss
returns-else-came-eq0-clause-miss c = grind (arith, c.if-came-eq0.false)

pub returns-else-came-eq0-clause-given : goal.returns-else-came-eq0-clause-given
returns-else-came-eq0-clause-given c =
    let s : Shard = record { class = c.self.inside.class; transfer = c.self.inside.transfer; central = c.self.inside.central } in
    let spans = (taken c.args.n s.central.spans).objects in
    let early = length s.transfer.objects - c.args.n in
    let cached : List Addr = last_first c.args.n s.transfer.objects in
    let P : Shard → Type 0 = λ t. All (IsTakenIn t.central.spans) t.transfer.objects → All (IsTakenIn c.if-held-eq0.self.central.spans) (fetched c.args.n t) in
    let Q : Shard → List Addr → Type 0 = λ t xs. All (IsTakenIn t.central.spans) xs in
    let F : List Addr → Type 0 = λ xs. Q c.if-held-eq0.self xs in
    subst P c.self.view_is (λ all. elim c.if-held-eq0.branch [
      | then-held-eq0 w ↦
          (let G : Shard → Type 0 = λ t. Q t spans in
          subst F (sym (cond-true (length s.transfer.objects == 0) spans cached (eq-eqb (length s.transfer.objects) 0 (sym c.held.ensures.held ∙ w.if-held-eq0.true)))) (subst G (sym w.self-is) w.take-came.ensures.given))
      | else-held-eq0 w ↦
          (let G : Shard → Type 0 = λ t. Q t cached in
          subst F (sym (cond-false (length s.transfer.objects == 0) spans cached (ne_eqb (length s.transfer.objects) 0 (λ none. w.if-held-eq0.false (c.held.ensures.held ∙ none))))) (subst G (sym w.self-is) (All-reverse (IsTakenIn s.central.spans) (drop early s.transfer.objects) (All-drop (IsTakenIn s.central.spans) early s.transfer.objects all))))
    ])

pub returns-then-came-eq0-clause-owned : goal.returns-then-came-eq0-clause-owned
returns-then-came-eq0-clause-owned c =
    λ others.
    let s : Shard = record { class = c.self.inside.class; transfer = c.self.inside.transfer; central = c.self.inside.central } in
    let P : Shard → Type 0 = λ t. IsOut t others → IsOut c.if-held-eq0.self (fetched c.args.n t ++ others) in
    let Q : Shard → Type 0 = λ t. IsOut t (fetched c.args.n s ++ others) in
    subst P c.self.view_is (λ out. elim c.if-held-eq0.branch [
      | then-held-eq0 w ↦ (let came = w.take-came.ensures in
          subst Q (sym w.self-is) (IsOut-spans s w.take-came.new.self c.args.n others (sym c.held.ensures.held ∙ w.if-held-eq0.true) came.given came.fresh came.different came.kept out))
      | else-held-eq0 w ↦ subst Q (sym w.self-is) (IsOut-cached s w.take-came-else-held-eq0.new.self c.args.n others (λ none. w.if-held-eq0.false (c.held.ensures.held ∙ none)) (ap (λ t. t.objects) w.take-came-else-held-eq0.ensures.objects) out)
    ])

pub returns-else-came-eq0-clause-owned : goal.returns-else-came-eq0-clause-owned
returns-else-came-eq0-clause-owned c =
    λ others.
    let s : Shard = record { class = c.self.inside.class; transfer = c.self.inside.transfer; central = c.self.inside.central } in
    let P : Shard → Type 0 = λ t. IsOut t others → IsOut c.if-held-eq0.self (fetched c.args.n t ++ others) in
    let Q : Shard → Type 0 = λ t. IsOut t (fetched c.args.n s ++ others) in
    subst P c.self.view_is (λ out. elim c.if-held-eq0.branch [
      | then-held-eq0 w ↦ (let came = w.take-came.ensures in
          subst Q (sym w.self-is) (IsOut-spans s w.take-came.new.self c.args.n others (sym c.held.ensures.held ∙ w.if-held-eq0.true) came.given came.fresh came.different came.kept out))
      | else-held-eq0 w ↦ subst Q (sym w.self-is) (IsOut-cached s w.take-came-else-held-eq0.new.self c.args.n others (λ none. w.if-held-eq0.false (c.held.ensures.held ∙ none)) (ap (λ t. t.objects) w.take-came-else-held-eq0.ensures.objects) out)
    ])
