use Rattle.std.proofs.Common.{◌≡◌, ℕ, ◌<◌, nat_lt, List, [], length, refl, sym, ap, arith}
use Rattle.std.specs.Prelude.{slice_index, get_or}
use Rattle.std.specs.Option.{option_map_or}
use Rattle.std.proofs.lemmas.Bool.{lt-ltb}
use Rattle.std.proofs.lemmas.Option.{slice_get_read}
use Rattle.std.proofs.lemmas.Bool.Decides.{nat_tests}
use Rattle.tc_model.specs.declared.calls.Script.{Script}
use Rattle.journal_audit.specs.Rules.{script_at}
use Rattle.journal_audit.proofs.Threads.{any_in, none_in}
use Rattle.journal_audit.proofs.books.has_left.Goals as goal

-- the calls of the script at a place
script_there : (scripts : List Script) (t : ℕ) (s : Script) → t < length scripts → s ≡ get_or scripts t s → script_at scripts t ≡ s.calls
script_there scripts t s there is = ap (λ o. option_map_or (λ (x : Script). x.calls) o []) (slice_get_read scripts (length scripts) t s refl there is)

pub returns-then-done-thread : goal.returns-then-done-thread
returns-then-done-thread c =
    let t = c.loop-thread.thread in
    let there : t < length c.args.scripts.now = omega arith in
    let calls = script_there c.args.scripts.now t c.index-scripts-thread.result there c.index-scripts-thread.is in
    let less : slice_index c.args.done.now t < length (script_at c.args.scripts.now t) =
    omega (arith, c.if-done-thread.true, c.len.ensures, ap (λ (s : Script). length s.calls) c.index-scripts-thread.is, ap length calls) in
    sym (any_in (λ u. nat_lt (slice_index c.args.done.now u) (length (script_at c.args.scripts.now u))) (length c.args.scripts.now) t there (lt-ltb _ (length (script_at c.args.scripts.now t)) less))

pub loop-thread-preserved : goal.loop-thread-preserved
loop-thread-preserved c k less = grind (arith, nat_tests, script_there)

pub returns : goal.returns
returns c = sym (none_in (λ u. nat_lt (slice_index c.args.done.now u) (length (script_at c.args.scripts.now u))) 0 (length c.args.scripts.now) (λ k less. c.loop-thread.invariant k (omega arith)))
