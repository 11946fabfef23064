use Rattle.std.proofs.Common.{◌≡◌, ℕ, List, subst, sym, ◌∙◌, arith, cond, refl, ◌==◌}
use Rattle.std.proofs.lemmas.Bool.{eq-eqb}
use Rattle.std.proofs.lemmas.List.Sums.{sum_by-cons}
use Rattle.heap_sample.specs.declared.sample.Sample.{Sample}
use Rattle.heap_sample.specs.Samples.{HasLabel}
use Rattle.heap_sample.proofs.LiveFacts.{part, none_of, put, IsOneMore}
use Rattle.heap_sample.proofs.live.LiveSamples.note.Goals as goal

same_len : (len n : ℕ) → cond (len == len) n 0 ≡ n
same_len len n = rw (eq-eqb len len refl) refl

-- what came into the map is one entry more
came : (c : goal.After-self-1) → IsOneMore c.self.inside.samples.entries (c.args.label.0, c.args.sample) c.insert.new.self.entries
came c = put c.self.inside.samples c.insert.new.self c.args.label.0 c.args.sample c.insert.result (sym c.is_err.ensures.value ∙ c.if-is_err.false) c.insert.ensures.entries c.insert.ensures.old
    (λ has. c.requires.fresh (subst (λ (es : List (ℕ × Sample)). HasLabel es c.args.label.0) c.self.view_is has))

-- src/live.rt:60:5
pub note-requires-clause-bytes : goal.note-requires-clause-bytes
note-requires-clause-bytes c = grind (arith, part)

pub forget-requires-clause-last : goal.forget-requires-clause-last
forget-requires-clause-last c one = grind (arith, none_of, same_len)

pub invariant_of-self-2 : goal.invariant_of-self-2
invariant_of-self-2 c = grind (arith, came)

pub returns-clause-samples : goal.returns-clause-samples
returns-clause-samples c f = grind (arith, sum_by-cons, came)
