use Rattle.std.proofs.Common.{◌≡◌, ◌+◌, [], ◌∷◌, ◌++◌, filter, nat_lt, sym, ap, ◌∙◌}
use Rattle.std.specs.List.{list_any}
use Rattle.std.proofs.Common.{arith}
use Rattle.tc_model.specs.Blocks.{Extent, meets}
use Rattle.journal_audit.proofs.LiveFacts.{before, in_range, none_met, last_met}
use Rattle.journal_audit.proofs.live.Live.meets.Goals as goal

pub returns-in-Some : goal.returns-in-Some
returns-in-Some c =
    let x : Extent = record { addr = c.args.addr; len = c.args.len } in
    let es = c.self.inside.lens.entries in
    let last : filter (before (c.args.addr + c.args.len)) es ≡ c.next_back.new.self ++ (c.in-Some.begin.now, c.in-Some.bytes.now) ∷ [] =
    sym (in_range (c.args.addr + c.args.len) es) ∙ (sym (c.range.ensures.between tt) ∙ c.in-Some.ensures.steps) in
    ap (λ n. nat_lt n c.in-Some.bytes.now) c.saturating_sub.ensures ∙ sym (last_met x es c.next_back.new.self (c.in-Some.begin.now, c.in-Some.bytes.now) c.self.invariant last)
    ∙ ap (list_any (meets x)) c.self.view_is

pub returns-in-None : goal.returns-in-None
returns-in-None c = grind (arith, before (c.args.addr + c.args.len), in_range (c.args.addr + c.args.len), c.range.ensures.between tt, none_met)
