use Rattle.std.proofs.Common.{◌≡◌, ℕ, Option, Some, None, unwrap_or, is_some, sym, ap, ◌∙◌, arith}
use Rattle.huge_cache.proofs.Common.{option_copied, greatest_of}
use Rattle.std.specs.Borrow.{Bor}
use Rattle.huge_cache.proofs.Greatest.{oldest_is_first, oldest_is_other}
use Rattle.huge_cache.proofs.uses.drop_oldest.Goals as goal

there : (o : Option ℕ) (r : Option (Bor ℕ)) → o ≡ option_copied r → is_some o ≡ is_some r
there o None e = ap is_some e
there o (Some x) e = ap is_some e

pub returns-then-eq-clause-greatest : goal.returns-then-eq-clause-greatest
returns-then-eq-clause-greatest c =
    let counts = c.args.counts.now.items in
    c.pop_front.ensures.rest
    ∙ oldest_is_first counts c.args.greatest.now.items c.pop_front-oldest.result c.copied.result (omega (arith, c.args.counts.now.ok.0)) c.requires.kept (c.pop_front-oldest.ensures.value 0 c.requires.some) (ap (λ (o : Option ℕ). unwrap_or o 0) c.copied.ensures ∙ c.front.ensures.item.4 (omega arith) 0) (sym c.eq.ensures ∙ c.if-eq.true)
    ∙ ap greatest_of (sym c.pop_front-oldest.ensures.rest)

pub returns-else-eq-clause-greatest : goal.returns-else-eq-clause-greatest
returns-else-eq-clause-greatest c =
    let counts = c.args.counts.now.items in
    oldest_is_other counts c.args.greatest.now.items c.pop_front-oldest.result c.copied.result (omega (arith, c.args.counts.now.ok.0)) c.requires.kept (c.pop_front-oldest.ensures.value 0 c.requires.some) (there c.copied.result c.front.result c.copied.ensures ∙ c.front.ensures.item.0) (ap (λ (o : Option ℕ). unwrap_or o 0) c.copied.ensures ∙ c.front.ensures.item.4 (omega arith) 0) (sym c.eq.ensures ∙ c.if-eq.false)
    ∙ ap greatest_of (sym c.pop_front-oldest.ensures.rest)
