-- What a sampled profile asks of calls holds of those of a run: they are disjoint blocks, and their threads' scripts.
use Rattle.std.proofs.Common.{◌≡◌, ℕ, ◌<◌, ◌≤◌, List, ◌∷◌, length, get_or, Option, Some, None, Bool, ap, sym, subst, ◌∙◌, arith}
use Rattle.std.proofs.lemmas.List.{length-append}
use Rattle.std.proofs.Math.Seq.{get_or-append_seam}
use Rattle.std.specs.Prelude.{All, IfSome}
use Rattle.tc_model.specs.declared.answers.CallLine.{CallLine}
use Rattle.tc_model.specs.Blocks.{IsBlockRun}
use Rattle.tc_model.specs.Input.{Asked}
use Rattle.trace_reader.specs.Valid.{IsCall, IsAsked}
use Rattle.alloc_rules.specs.Told.{TellsScripts}
use Rattle.heap_sample.specs.Samples.{most_calls}
use Rattle.heap_sample.specs.Profiles.{Noted, AreFirstUses}
use Rattle.heap_sample.proofs.Scripts.{KeepsLabels, first_uses_of_scripts, threads_below, few_calls}
use Rattle.tcreplay.specs.Tasks.{IsStep}
use Rattle.tcreplay.specs.declared.run.Telling.{Telling}
use Rattle.tcreplay.specs.declared.run.Telling.TheVariants.{Whole}
use Rattle.tc_machine.specs.Telling.{HearsEach}
use Rattle.tcreplay.specs.Hearing.{MaySample}
use Rattle.tcreplay.specs.Ran.{HasStep}

module _ (classes : ℕ) (asked : Asked) (valid : IsAsked classes asked) (calls : List CallLine) (tells : TellsScripts asked calls) where
  keeps : KeepsLabels asked.calls
  keeps earlier c later is label size e = let k = subst (IsCall classes asked.config earlier) e (valid.calls earlier c later is).call in (k.1, k.2)

  pub first_uses : (huge : ℕ) (length_of : ℕ → ℕ) → IsBlockRun huge length_of calls → AreFirstUses calls
  first_uses huge length_of blocks = first_uses_of_scripts asked calls tells.each tells.others huge length_of blocks keeps

  pub few : length calls ≤ most_calls
  few = let n = few_calls asked calls tells.each tells.others in omega (arith, n, valid.few)

  pub below : All (λ (c : CallLine). c.thread.0 < asked.config.threads) calls
  below = threads_below asked calls tells.each tells.others

-- so each of them may be noted by a profile of as many threads
pub may_sample : (classes : ℕ) (asked : Asked) → IsAsked classes asked → (calls : List CallLine) → TellsScripts asked calls → (huge : ℕ) (length_of : ℕ → ℕ)
    → IsBlockRun huge length_of calls → (before : Noted) → length before.asked ≡ asked.config.threads → HearsEach (MaySample before) calls
may_sample classes asked valid calls tells huge length_of blocks before threads earlier c later is most =
    let one : length earlier < length calls = omega (arith, ap length is, length-append earlier (c ∷ later)) in
    let here : get_or calls (length earlier) c ≡ c = ap (λ xs. get_or xs (length earlier) c) (sym is) ∙ get_or-append_seam earlier c later c in
    record {
      thread = omega (arith, below classes asked valid calls tells (length earlier) c one, ap (λ (d : CallLine). d.thread.0) here, threads);
      first = first_uses classes asked valid calls tells huge length_of blocks earlier c later is;
      few = omega (arith, one, few classes asked valid calls tells);
    }

-- a step of the grammar is one
some_step : (sample : Option ℕ) → IfSome sample IsStep → IfSome sample (λ step. 1 ≤ step)
some_step None is = tt
some_step (Some step) is = is.0

pub has_step : (telling : Telling) (rows : Bool) (sample : Option ℕ) → telling ≡ Whole rows sample → IfSome sample IsStep → HasStep telling
has_step telling rows sample same is = subst HasStep (sym same) (some_step sample is)
