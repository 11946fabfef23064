use Rattle.std.proofs.Common.{ap, sym, ◌∙◌, ◌++◌, arith}
use Rattle.std.proofs.lemmas.Result.{on_ok_weaker}
use Rattle.std.specs.List.{sum_by}
use Rattle.heap_sample.specs.Samples.{AreSame, sampled}
use Rattle.heap_sample.proofs.CallFacts.{quiet, unchanged, with_block}
use Rattle.heap_sample.proofs.profile.note_call.Goals as goal

-- src/profile.rt:82:1
pub returns-in-Malloc-Block-clause-live : goal.returns-in-Malloc-Block-clause-live
returns-in-Malloc-Block-clause-live c =
    let arm = c.in-Malloc-Block in
    let same = with_block c.args.step c.args.asked.now c.args.call c.args.answer arm.label arm.size arm.len arm.addr-1 c.args.live.now arm.is-0 arm.is-1 in
    let now = sampled c.args.step c.args.asked.now arm.label arm.size arm.len ++ c.args.live.now in
    on_ok_weaker c.allocate.result (λ (h : AreSame c.allocate.new.live now). λ f. h f ∙ ap (sum_by f) (sym same)) c.allocate.ensures.live

pub returns-in_default : goal.returns-in_default
returns-in_default c =
    let is = quiet c.args.call c.args.answer (λ l n a len e b. c.in_default.not-Block-1 a len b) c.in_default.not-Free-0 in
    record { asked = omega (arith, is.asks); live = λ f. ap (sum_by f) (sym (unchanged c.args.step c.args.asked.now c.args.call c.args.answer c.args.live.now is)); err = tt }

pub returns-in_default-2 : goal.returns-in_default-2
returns-in_default-2 c =
    let is = quiet c.args.call c.args.answer (λ l n a len e b. c.in_default.not-Malloc-0 l n e) c.in_default.not-Free-0 in
    record { asked = omega (arith, is.asks); live = λ f. ap (sum_by f) (sym (unchanged c.args.step c.args.asked.now c.args.call c.args.answer c.args.live.now is)); err = tt }
