use Rattle.std.proofs.Common.{◌≡◌, ◌<◌, ℕ, ◌+◌, List, All, ◌++◌, length, take, drop, get_or, subst, sym, ap, ◌∙◌, arith}
use Rattle.std.proofs.lemmas.List.{take-append-drop, drop_more, take_more, take_all, length-take}
use Rattle.tc_model.specs.declared.answers.CallLine.{CallLine}
use Rattle.heap_sample.specs.Samples.{IsFirstUse}
use Rattle.heap_sample.specs.Profiles.{IsProfileOf, AreFirstUses}
use Rattle.heap_sample.proofs.whole.profile_of.Goals as goal

-- the next call's label is new behind the calls before it
first_at : (lines : List CallLine) (i : ℕ) (d : CallLine) → AreFirstUses lines → i < length lines → IsFirstUse (take i lines) (get_or lines i d).call
first_at lines i d labels l =
    labels (take i lines) (get_or lines i d) (drop (i + 1) lines) (ap (λ (rest : List CallLine). take i lines ++ rest) (sym (drop_more lines i d l)) ∙ take-append-drop i lines)

thread_at : (lines : List CallLine) (i : ℕ) (d : CallLine) (threads n : ℕ) → All (λ c. c.thread.0 < threads) lines → i < length lines → n ≡ threads → (get_or lines i d).thread.0 < n
thread_at lines i d threads n below l same = omega (arith, below i d l, same)

-- src/whole.rt:25:5
pub loop-line-init : goal.loop-line-init
loop-line-init c = (c.in_ok-profile.ensures.of_none, c.in_ok-profile.ensures.step, c.in_ok-profile.ensures.threads)

pub add_next-requires-clause-thread : goal.add_next-requires-clause-thread
add_next-requires-clause-thread c = thread_at c.args.lines.now c.loop-line.line-index _ _ _ c.requires.threads c.loop-line-test.true c.loop-line.invariant.2

pub add_next-requires-clause-behind : goal.add_next-requires-clause-behind
add_next-requires-clause-behind c = grind (arith, first_at, length-take)

pub loop-line-preserved : goal.loop-line-preserved
loop-line-preserved c = grind (arith, first_at, take_more)

pub returns-clause-step : goal.returns-clause-step
returns-clause-step c = c.loop-line.invariant.1

pub returns-clause-profile : goal.returns-clause-profile
returns-clause-profile c = subst (λ (calls : List CallLine). IsProfileOf calls c.loop-line.profile) (take_all c.loop-line.line-index c.args.lines.now c.loop-line-test.false) c.loop-line.invariant.0
