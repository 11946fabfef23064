-- What holds of the lines so far holds with one more.
use Rattle.std.proofs.Common.{◌≡◌, ℕ, ◌<◌, true, false, List, [], get_or, set, replicate, Option, None, IfSome, refl, sym, subst, ◌∙◌, arith, lit≤}
use Rattle.std.proofs.lemmas.Bool.{false≢true}
use Rattle.std.proofs.lemmas.List.{get_or-set_same, get_or-set_other, get_or-replicate, get_or_past, set_past, length-replicate}
use Rattle.std.proofs.lemmas.Bool.Decides.{nat_tests}
use Rattle.tc_model.proofs.EachAfter.{each_of_none, each_of_push}
use Rattle.tc_model.specs.declared.calls.Call.{Call}
use Rattle.tc_model.specs.declared.calls.Call.TheVariants as call
use Rattle.tc_model.specs.declared.calls.MoveTo.{MoveTo}
use Rattle.tc_model.specs.declared.config.Config.{Config}
use Rattle.tc_model.specs.Heads.{head_limit, with_limit, default_config, IsValueOf}
use Rattle.tc_model.specs.Input.{ThreadCall}
use Rattle.tc_model.specs.Limits.{most_threads}
use Rattle.tc_model.specs.declared.config.Head as heads
use Rattle.tc_model.specs.declared.config.Head.TheVariants as head
use Rattle.trace_reader.specs.declared.form.Form.{Form}
use Rattle.trace_reader.specs.declared.form.Form.TheVariants.{Head, Malloc, Free, Move, Release, Drain, Resize}
use Rattle.trace_reader.specs.Form.{is_head_form, IsInRange}
use Rattle.trace_reader.specs.Reading.{SoFar, nothing, with_call, with_form}
use Rattle.trace_reader.specs.Steps.{Fits, IsSoFar}
use Rattle.trace_reader.specs.Valid.{IsConfig, IsMove, IsCall, IsThreadCall, AreCalls}

-- the limits before a head, and with one of them set in its range
IsConfig-default : IsConfig default_config
IsConfig-default head.Cpus = (lit≤ tt, lit≤ tt)
IsConfig-default _ = (lit≤ tt, lit≤ tt)

limit-with : (s h : heads.Head) (value : ℕ) (config : Config) → IsValueOf s value → IsValueOf h (head_limit h config) → IsValueOf h (head_limit h (with_limit s value config))
limit-with s h value config new old = grind (arith)

AreCalls-none : (classes : ℕ) (config : Config) (calls : List ThreadCall) → calls ≡ [] → AreCalls classes config calls
AreCalls-none classes config calls none earlier c later is = each_of_none (IsThreadCall classes config) earlier c later (is ∙ none)

-- pending moves, of which one is set anew
moves-set : (config : Config) (moves : List (Option MoveTo)) (thread : ℕ) (now : Option MoveTo) → ((t : ℕ) → IfSome (get_or moves t None) (IsMove config))
    → IfSome now (IsMove config) → (t : ℕ) → IfSome (get_or (set moves thread now) t None) (IsMove config)
moves-set config moves thread now known new t = grind (arith, nat_tests, get_or-set_same, get_or-set_other, set_past)

none_pending : (none : Option MoveTo) (n t : ℕ) → get_or (replicate n none) t none ≡ none
none_pending none n t = grind (arith, nat_tests, get_or-replicate, get_or_past, length-replicate)

-- a call more, which takes the thread's pending move
IsSoFar-call : (classes number thread : ℕ) (what : Call) (before : SoFar) → IsSoFar classes before → thread < before.asked.config.threads
    → IsCall classes before.asked.config before.asked.calls what → IsSoFar classes (with_call number thread what before)
IsSoFar-call classes number thread what before known there may =
    let config = before.asked.config in
    let x : ThreadCall = record { thread = record { 0 = thread }; planned = record { line = number; call = what; moved = get_or before.moves thread None } } in
    record {
      config = known.config;
      calls = each_of_push (IsThreadCall classes config) before.asked.calls x known.calls (record { thread = there; call = may; moved = known.moves thread });
      moves = moves-set config before.moves thread None known.moves tt;
      early = λ h. absurd (false≢true (sym h));
    }

-- a line more, of a form that fails no rule
pub IsSoFar-form : (classes number : ℕ) (form : Form) (before : SoFar) → IsSoFar classes before → IsInRange form → Fits classes before.asked form
    → (is_head_form form ≡ true → before.late ≡ false) → IsSoFar classes (with_form number form before)
IsSoFar-form classes number (Head head value) before known range fits first =
    let none = known.early (first refl) in
    let config = with_limit head value before.asked.config in
    let P : List (Option MoveTo) → Type 0 = λ moves. (t : ℕ) → IfSome (get_or moves t None) (IsMove config) in
    let Q : Option MoveTo → Type 0 = λ o. IfSome o (IsMove config) in
    record {
      config = λ h. limit-with head h value before.asked.config range (known.config h);
      calls = AreCalls-none classes config before.asked.calls none.0;
      moves = subst P (sym none.1) (λ t. subst Q (sym (none_pending None most_threads t)) tt);
      early = known.early;
    }
IsSoFar-form classes number (Malloc thread label size) before known range fits first =
    IsSoFar-call classes number thread (call.Malloc (record { 0 = label }) size) before known fits.0 (range.0, range.1, fits.1)
IsSoFar-form classes number (Free thread label) before known range fits first =
    IsSoFar-call classes number thread (call.Free (record { 0 = label })) before known fits.0 (range, fits.1, fits.2)
IsSoFar-form classes number (Move thread instruction cpu) before known range fits first = grind (arith, moves-set, false≢true)
IsSoFar-form classes number (Release thread pages) before known range fits first =
    IsSoFar-call classes number thread (call.Release pages) before known fits range
IsSoFar-form classes number (Drain thread cpu) before known range fits first =
    IsSoFar-call classes number thread (call.Drain (record { 0 = cpu })) before known fits.0 fits.1
IsSoFar-form classes number (Resize thread cpu class_ cap_) before known range fits first =
    IsSoFar-call classes number thread (call.Resize (record { 0 = cpu }) (record { 0 = class_ }) cap_) before known fits.0 (fits.1, fits.2, range)

-- before the first line
pub IsSoFar-nothing : (classes : ℕ) → IsSoFar classes nothing
IsSoFar-nothing classes =
    let Q : Option MoveTo → Type 0 = λ o. IfSome o (IsMove default_config) in
    record {
      config = IsConfig-default;
      calls = AreCalls-none classes default_config [] refl;
      moves = λ t. subst Q (sym (none_pending None most_threads t)) tt;
      early = λ h. (refl, refl);
    }
