use Rattle.std.proofs.Common.{◌≡◌, ℕ, sym, ◌∙◌, arith, cond, refl, ◌==◌}
use Rattle.std.proofs.lemmas.Bool.{eq-eqb}
use Rattle.std.proofs.lemmas.List.Sorted.{sum_by-IsPermutation}
use Rattle.heap_sample.specs.declared.sample.Sample.{Sample}
use Rattle.heap_sample.proofs.LiveFacts.{none_of, taken_out, as_filter, forgotten, IsOneMore}
use Rattle.heap_sample.proofs.live.LiveSamples.forget.Goals as goal

same_len : (len n : ℕ) → cond (len == len) n 0 ≡ n
same_len len n = rw (eq-eqb len len refl) refl

-- what went out of the map was one of its entries
went : (c : goal.After-forget-arg-1) → IsOneMore c.remove.new.self.entries (c.args.label.0, c.in-Some.sample) c.self.inside.samples.entries
went c f =
    grind (arith, taken_out c.args.label.0 c.in-Some.sample c.self.inside.samples.entries (sym c.remove.ensures.value ∙ c.in-Some.is) f, sum_by-IsPermutation f)

-- src/live.rt:75:5
pub forget-requires-clause-held : goal.forget-requires-clause-held
forget-requires-clause-held c = grind (arith, went c, same_len, c.self.invariant.0.blocks)

pub forget-requires-clause-within : goal.forget-requires-clause-within
forget-requires-clause-within c = grind (arith, went c, same_len, c.self.invariant.0.bytes)

pub forget-requires-clause-last : goal.forget-requires-clause-last
forget-requires-clause-last c last = grind (arith, went c, none_of, same_len, c.self.invariant.0.blocks, c.self.invariant.0.bytes)

pub overflow_sub-self : goal.overflow_sub-self
overflow_sub-self c =
    let there = taken_out c.args.label.0 c.in-Some.sample c.self.inside.samples.entries (sym c.remove.ensures.value ∙ c.in-Some.is) (λ s. s.1.weight) in
    omega (arith, there, c.self.invariant.1)

pub invariant_of-self : goal.invariant_of-self
invariant_of-self c =
    let there = taken_out c.args.label.0 c.in-Some.sample c.self.inside.samples.entries (sym c.remove.ensures.value ∙ c.in-Some.is) in
    let one : IsOneMore c.remove.new.self.entries (c.args.label.0, c.in-Some.sample) c.self.inside.samples.entries =
    λ f. omega (arith, there f, sum_by-IsPermutation f _ _ c.remove.ensures.entries) in (
      forgotten _ _ c.args.label.0 c.in-Some.sample c.self.inside.rows c.forget.new.self one c.self.invariant.0 c.forget.ensures.blocks c.forget.ensures.bytes,
      omega (arith, one (λ (s : ℕ × Sample). s.1.weight), c.self.invariant.1),
      c.remove.ensures.unique,
    )

pub returns-in-Some : goal.returns-in-Some
returns-in-Some c f = grind (arith, sum_by-IsPermutation f, as_filter c.args.label.0 c.self.inside.samples.entries c.self.invariant.2 f)

pub returns-in_default : goal.returns-in_default
returns-in_default c f = grind (arith, sum_by-IsPermutation f, as_filter c.args.label.0 c.self.inside.samples.entries c.self.invariant.2 f)
