-- Where each call of an input is one that every front-end takes, none is a front-end's own.
use Rattle.std.proofs.Common.{◌≡◌, ℕ, List, ◌∷◌, ◌++◌, sum_by, cond, ap, arith}
use Rattle.std.proofs.lemmas.List.Sums.{sum_by-cons, sum_by-append}
use Rattle.tc_model.specs.declared.calls.Call.{Call}
use Rattle.tc_model.specs.Input.{Input, ThreadCall}
use Rattle.alloc_rules.specs.FrontLaw.{IsOwn, IsNotOwn}
use Rattle.alloc_rules.specs.Valid.{IsValid}
use Rattle.alloc_rules.specs.Inputs.{IsValidInput, is_common, not_taken}

common_call : (call : Call) → cond {A = ℕ} (is_common call) 0 1 ≡ 0 → IsOwn call → ⊥
common_call x0 is own = grind (arith)

common_one : (input : Input) → not_taken is_common input.asked.calls ≡ 0 → (earlier : List ThreadCall) (c : ThreadCall) (later : List ThreadCall)
    → earlier ++ c ∷ later ≡ input.asked.calls → IsNotOwn c.planned
common_one input none earlier c later is =
    let f : ThreadCall → ℕ = λ d. cond {A = ℕ} (is_common d.planned.call) 0 1 in
    common_call c.planned.call (omega (arith, none, ap (sum_by f) is, sum_by-append f earlier (c ∷ later), sum_by-cons f c later))

-- so the input is valid of such calls
pub valid_common : (input : Input) → IsValidInput input → not_taken is_common input.asked.calls ≡ 0 → IsValid input.rows IsNotOwn input.asked
valid_common input valid none =
    record {
      rows = valid.rows;
      limits = valid.limits;
      calls = λ earlier c later is. (let call = valid.calls earlier c later is in
          record { thread = call.thread; planned = common_one input none earlier c later is; order = call.order });
    }
