-- A trace that was read, for what it asks.
use Rattle.std.proofs.Common.{◌≡◌, ℕ, Result, Ok, Err}
use Rattle.std.specs.Prelude.{IsOkAnd}
use Rattle.std.specs.Result.{result_map_both}
use Rattle.std.proofs.Common.{arith}
use Rattle.tc_model.specs.Input.{Asked}
use Rattle.trace_reader.specs.declared.trace.Trace.{Trace}
use Rattle.trace_reader.specs.declared.why.LineWhy.{LineWhy}
use Rattle.trace_reader.specs.Reading.{BadLine}
use Rattle.trace_reader.specs.Traces.{trace_of}
use Rattle.trace_reader.specs.Valid.{IsAsked}
use Rattle.tc_machine.specs.Inputs.{IsRead, asked_of}
use Rattle.tc_machine.proofs.InputFacts.{asked_is}
use Rattle.tcreplay.specs.declared.outcome.End.TheVariants.{BadTrace}

pub read_again : (classes : ℕ) (trace : Trace) (read : Result Asked (BadLine LineWhy)) → IsOkAnd read (λ asked. trace ≡ trace_of asked)
    → IsOkAnd read (IsAsked classes) → IsRead classes trace (asked_of trace)
read_again classes trace (Ok asked) is valid = grind (arith, asked_is classes trace asked)
read_again classes trace (Err bad) is valid = absurd is

pub asked_again : (classes : ℕ) (trace : Trace) (read : Result Asked (BadLine LineWhy)) → IsOkAnd read (λ asked. trace ≡ trace_of asked)
    → IsOkAnd read (IsAsked classes) → result_map_both (λ (asked : Asked). asked) (λ (bad : BadLine LineWhy). BadTrace bad.line bad.why) read ≡ Ok (asked_of trace)
asked_again classes trace (Ok asked) is valid = grind (arith, Ok, asked_is classes trace asked)
asked_again classes trace (Err bad) is valid = absurd is
