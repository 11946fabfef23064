-- What is printed of a run that has ended is a legal journal.
use Rattle.std.proofs.Common.{◌≡◌, ℕ, ◌<◌, ◌≤◌, List, [], length, map, Bool, if◌then◌else◌, Option, Some, sym, ap, ◌∙◌, inl, inr, arith}
use Rattle.std.specs.Prelude.{All}
use Rattle.std.specs.List.{range_with_len}
use Rattle.std.specs.Option.{option_map_or}
use Rattle.std.proofs.lemmas.Bool.{cases_lt}
use Rattle.std.proofs.lemmas.List.{length-map}
use Rattle.std.proofs.lemmas.List.FromFn.{get_or-map-range_with_len, length-range_with_len}
use Rattle.std.proofs.lemmas.Option.{slice_get_past, slice_get-get_or}
use Rattle.tc_units.specs.Classes.{length_of}
use Rattle.tc_model.specs.declared.answers.CallLine.{CallLine}
use Rattle.tc_model.specs.declared.answers.Finished.{Finished}
use Rattle.tc_model.specs.declared.calls.Planned.{Planned}
use Rattle.tc_model.specs.declared.calls.Script.{Script}
use Rattle.tc_model.specs.Blocks.{IsBlockRun}
use Rattle.tc_model.specs.Input.{Input, script_of, scripts_of}
use Rattle.alloc_rules.specs.Told.{calls_in, TellsScripts}
use Rattle.usage_report.specs.Report.{IsTellable}
use Rattle.journal_audit.specs.Rules.{journal_of}
use Rattle.journal_audit.specs.Legal.{calls_of, calls_planned, IsLegal}
use Rattle.journal_audit.specs.Printed.{PrintedIsLegal}
use Rattle.tcreplay.specs.declared.run.Telling.{Telling}
use Rattle.tcreplay.specs.declared.run.Telling.TheVariants.{Whole, Summary}
use Rattle.tcreplay.specs.Verdict.{text_with, profile_if}
use Rattle.tcreplay.specs.Auditing.{plan_in}
use Rattle.tcreplay.specs.Ran.{AreTellable, IsJournal}

-- the script of each thread, and none behind the last thread
abbrev script_for : Input → ℕ → Script
script_for input thread = record { calls = script_of thread input.asked.calls }

long : (input : Input) → length (scripts_of input.asked) ≡ input.asked.config.threads
long input = length-map (range_with_len 0 input.asked.config.threads) (script_for input) ∙ length-range_with_len 0 input.asked.config.threads

planned : (input : Input) (t : ℕ) → t < input.asked.config.threads → calls_planned (plan_in input) t ≡ calls_in input.asked t
planned input t low =
    let n = long input in
    let at = slice_get-get_or (scripts_of input.asked) t (script_for input t) (omega arith) in
    let own = get_or-map-range_with_len (script_for input) 0 input.asked.config.threads t t (script_for input t) low (omega arith) in
    ap (λ (o : Option Script). map (λ (p : Planned). p.call) (option_map_or (λ (s : Script). s.calls) o [])) (at ∙ ap (λ (s : Script). Some s) own)

unplanned : (input : Input) (t : ℕ) → input.asked.config.threads ≤ t → calls_planned (plan_in input) t ≡ []
unplanned input t high = grind (arith, long, slice_get_past)

-- of calls that are a run on disjoint blocks and each thread's whole script, as a run tells them
module _ (told : Input → List ℕ → Finished) (law : PrintedIsLegal) (input : Input) (order : List ℕ)
    (blocks : IsBlockRun input.asked.config.huge (length_of input.rows) (told input order).calls) (tells : TellsScripts input.asked (told input order).calls) where
  legal : (rows : Bool) (sample : Option ℕ) → All IsTellable (told input order).calls → IsLegal (plan_in input) (journal_of (text_with rows sample (told input order)))
  legal rows sample tellable =
      let f = told input order in
      let scripts : (t : ℕ) → calls_of t f.calls ≡ calls_planned (plan_in input) t = λ t. elim (cases_lt t input.asked.config.threads) [
        | inl low ↦ tells.each t low ∙ sym (planned input t low)
        | inr high ↦ ap (map (λ (c : CallLine). c.call)) (tells.others t high) ∙ sym (unplanned input t high)
      ] in
      law (plan_in input) f.calls f.live f.live_bytes f.used f.resident (if rows then f.rows else []) (profile_if sample f.calls) blocks scripts tellable

  legal_told : (telling : Telling) → AreTellable telling (told input order).calls → IsJournal told telling input order
  legal_told (Whole rows sample) tellable = legal rows sample tellable
  legal_told Summary tellable = tt

pub told_legal : (told : Input → List ℕ → Finished) (law : PrintedIsLegal) (input : Input) (order : List ℕ) (telling : Telling) (f : Finished)
    → f ≡ told input order → IsBlockRun input.asked.config.huge (length_of input.rows) f.calls → TellsScripts input.asked f.calls → AreTellable telling f.calls
    → IsJournal told telling input order
told_legal told law input order telling f is blocks tells tellable = grind (arith, legal_told)
