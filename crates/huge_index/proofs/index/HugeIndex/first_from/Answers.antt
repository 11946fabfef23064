use Rattle.std.proofs.Common.{refl, subst}
use Rattle.sorted_list.specs.Order.{IsFirstFrom}
use Rattle.huge_index.specs.declared.key.Key.{Key}
use Rattle.huge_index.specs.Contents.{Contents, AreCounted}
use Rattle.huge_index.specs.Order.{comes_before}
use Rattle.huge_index.proofs.First.{first_is, other_tier, some_serves}
use Rattle.huge_index.proofs.index.HugeIndex.first_from.Goals as goal

pub returns-then-key-tier-clause-found : goal.returns-then-key-tier-clause-found
returns-then-key-tier-clause-found g c =
    let keys = c.args.self.now.keys in
    let few : AreCounted keys = subst (λ (v : Contents). AreCounted v.keys) c.self.view_is c.self.invariant in
    let is = subst (λ (from : Key). IsFirstFrom comes_before keys from c.in_ok-key.key) c.least.ensures (subst (λ (v : Contents). IsFirstFrom comes_before v.keys c.least.result c.in_ok-key.key) c.self.view_is c.in_ok-key.ensures.found) in
    (c.in_ok-key.key, refl, first_is keys c.args.tier c.args.n c.in_ok-key.key few is c.if-key-tier.true)

pub returns-then-key-tier-clause-none : goal.returns-then-key-tier-clause-none
returns-then-key-tier-clause-none g c =
    let keys = c.args.self.now.keys in
    let few : AreCounted keys = subst (λ (v : Contents). AreCounted v.keys) c.self.view_is c.self.invariant in
    let is = subst (λ (from : Key). IsFirstFrom comes_before keys from c.in_ok-key.key) c.least.ensures (subst (λ (v : Contents). IsFirstFrom comes_before v.keys c.least.result c.in_ok-key.key) c.self.view_is c.in_ok-key.ensures.found) in
    let first = first_is keys c.args.tier c.args.n c.in_ok-key.key few is c.if-key-tier.true in
    ((λ e. absurd (cc)), (λ none. absurd (some_serves keys c.args.tier c.args.n c.in_ok-key.key first none)))

pub returns-else-key-tier-clause-none : goal.returns-else-key-tier-clause-none
returns-else-key-tier-clause-none g c =
    let keys = c.args.self.now.keys in
    let few : AreCounted keys = subst (λ (v : Contents). AreCounted v.keys) c.self.view_is c.self.invariant in
    let is = subst (λ (from : Key). IsFirstFrom comes_before keys from c.in_ok-key.key) c.least.ensures (subst (λ (v : Contents). IsFirstFrom comes_before v.keys c.least.result c.in_ok-key.key) c.self.view_is c.in_ok-key.ensures.found) in
    ((λ _. other_tier keys c.args.tier c.args.n c.in_ok-key.key few is c.if-key-tier.false), (λ _. refl))
