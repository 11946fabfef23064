-- The picks of an order file are of threads that are there.
use Rattle.std.proofs.Common.{◌≡◌, ℕ, ◌+◌, ◌<◌, subst, false, List, [], ◌∷◌, Option, Some, None, Result, Ok, Err, refl, sym, ap, ◌∙◌, option_map, arith}
use Rattle.std.specs.Prelude.{replicate, nat_le}
use Rattle.std.specs.List.{All, find}
use Rattle.std.specs.Option.{option_map_or}
use Rattle.std.proofs.lemmas.Bool.{leb-false}
use Rattle.std.proofs.lemmas.List.Elements.{All-append, All-replicate, All-nil}
use Rattle.trace_reader.specs.declared.why.OrderWhy.{OrderWhy}
use Rattle.trace_reader.specs.declared.turn.Turns.{Turns}
use Rattle.trace_reader.specs.Reading.{BadLine, Rule, verdict, is_some_and, and_then}
use Rattle.trace_reader.specs.Orders.{OrderLine, order_rules, line_turns, with_order_line, read_order_lines, picks_by}
use Rattle.trace_text.specs.Lines.{lines_of}

-- each pick is of a thread below a bound
abbrev pub AreOf : ℕ → List ℕ → Type 0
AreOf threads picks = All (λ thread. thread < threads) picks

module _ {L Why : Type 0} (line : L) where
  -- none of the rules fails
  abbrev Passes : List (Rule L Why) → Type 0
  Passes [] = Unit {0}
  Passes (rule ∷ rules) = (rule.fails line ≡ false) × Passes rules

  passes : (rules : List (Rule L Why)) → option_map (λ (r : Rule L Why). r.why) (find (λ (r : Rule L Why). r.fails line) rules) ≡ None → Passes rules
  passes [] none = tt
  passes (rule ∷ rules) none = grind (arith, passes rules)

-- a good line names a thread that is there
thread_passes : (line : OrderLine) → verdict order_rules line ≡ None → is_some_and (λ (turns : Turns). nat_le line.threads turns.thread) (line_turns line.fields) ≡ false
thread_passes line good = let last = (passes line order_rules good).1.1 in last.1.0

-- the picks with those of a good line
after_line : (line : OrderLine) (found : Option Turns) → line_turns line.fields ≡ found → is_some_and (λ (turns : Turns). nat_le line.threads turns.thread) (line_turns line.fields) ≡ false
    → AreOf line.threads line.before → AreOf line.threads (with_order_line line)
after_line line None is good before = rw is before
after_line line (Some turns) is good before =
    let below : turns.thread < line.threads = leb-false line.threads turns.thread (sym (ap (λ o. option_map_or (λ (t : Turns). nat_le line.threads t.thread) o false) is) ∙ good) in
    rw is (All-append (λ thread. thread < line.threads) line.before (replicate turns.picks turns.thread) before (All-replicate (λ thread. thread < line.threads) turns.picks turns.thread below))

-- one line, and then the others
one_more : (line : OrderLine) (found : Option OrderWhy) (number : ℕ) (more : List ℕ → Result (List ℕ) (BadLine OrderWhy)) (picks : List ℕ)
    → verdict order_rules line ≡ found → (AreOf line.threads (with_order_line line) → more (with_order_line line) ≡ Ok picks → AreOf line.threads picks)
    → AreOf line.threads line.before → and_then number (option_map_or Err found (Ok (with_order_line line))) more ≡ Ok picks → AreOf line.threads picks
one_more line None number more picks good then before is = then (after_line line (line_turns line.fields) refl (thread_passes line good) before) is
one_more line (Some why) number more picks bad then before is = absurd (cc)

after_lines : (threads : ℕ) (before : List ℕ) (number : ℕ) (lines : List (List (List ℕ))) (picks : List ℕ) → AreOf threads before
    → read_order_lines threads before number lines ≡ Ok picks → AreOf threads picks
after_lines threads before number [] picks so_far is = let e : before ≡ picks = cc in subst (AreOf threads) e so_far
after_lines threads before number (fields ∷ lines) picks so_far is =
    let line : OrderLine = record { threads = threads; before = before; number = number; fields = fields } in
    one_more line (verdict order_rules line) number (λ after. read_order_lines threads after (number + 1) lines) picks refl (after_lines threads (with_order_line line) (number + 1) lines picks) so_far is

pub picked_below : (threads : ℕ) (text picks : List ℕ) → picks_by threads text ≡ Ok picks → All (λ thread. thread < threads) picks
picked_below threads text picks is = after_lines threads [] 1 (lines_of text) picks (All-nil (λ thread. thread < threads)) is
