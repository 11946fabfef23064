use Rattle.std.proofs.Common.{◌≡◌, ℕ, ◌+◌, ◌<◌, List, length, slice_index, slice_set, subst, sym, ◌∙◌, arith}
use Rattle.std.proofs.lemmas.Grind.{common_steps}
use Rattle.std.proofs.lemmas.List.{get_or_default}
use Rattle.std.proofs.lemmas.Bool.Decides.{nat_tests}
use Rattle.heap_sample.specs.Samples.{bytes_asked, IsFresh}
use Rattle.heap_sample.specs.Profiles.{Noted, Follows}
use Rattle.heap_sample.proofs.Bounds.{covers, sums, at_most, few_bytes, few, light}
use Rattle.heap_sample.proofs.Sampling.{followed}
use Rattle.heap_sample.proofs.profile.Profile.add.Goals as goal

-- src/profile.rt:131:5
pub note_call-requires-clause-fits : goal.note_call-requires-clause-fits
note_call-requires-clause-fits c =
    let asked : List ℕ = c.self.inside.asked.items in
    let step = c.self.inside.step in
    let t = c.from.result in
    let add = bytes_asked c.args.line.now.call c.args.line.now.answer in
    let inside : t < length asked = grind (arith, common_steps) in
    let now : c.index_mut-asked.result.now ≡ slice_index asked t = c.index_mut-asked.ensures.value ∙ get_or_default asked t _ 0 inside in
    let bytes = few_bytes c.self.inside.live c.args.line.now.call c.args.line.now.answer (subst (λ (v : Noted). IsFresh v.live c.args.line.now.call) (sym c.self.view_is) c.requires.fresh) in
    grind (
      arith,
      covers step asked t add c.self.invariant.0 inside,
      sums step asked t add c.self.invariant.0 inside,
      at_most step asked t add c.self.invariant.0 inside,
    )

pub invariant_of-self-2 : goal.invariant_of-self-2
invariant_of-self-2 c =
    let asked : List ℕ = c.self.inside.asked.items in
    let step = c.self.inside.step in
    let t = c.from.result in
    let call = c.args.line.now.call in
    let answer = c.args.line.now.answer in
    let add = bytes_asked call answer in
    let some = c.self.invariant.0 in
    grind (
      arith,
      common_steps,
      get_or_default asked t,
      c.in_ok-note_call.ensures.live,
      few_bytes c.self.inside.live call answer (subst (λ (v : Noted). IsFresh v.live call) (sym c.self.view_is) c.requires.fresh),
      few step asked t call answer c.self.inside.live c.note_call.new.live some,
      light step asked t call answer c.self.inside.live c.note_call.new.live some,
      sums step asked t add some,
    )

pub returns-clause-of_calls : goal.returns-clause-of_calls
returns-clause-of_calls c calls is first =
    let asked : List ℕ = c.self.inside.asked.items in
    let t = c.from.result in
    let call = c.args.line.now.call in
    let answer = c.args.line.now.answer in
    let add = bytes_asked call answer in
    let inside : t < length asked = grind (arith, common_steps) in
    let now : c.index_mut-asked.result.now ≡ slice_index asked t = c.index_mut-asked.ensures.value ∙ get_or_default asked t _ 0 inside in
    let inner = c.self.inside in
    let new : Noted = record { step = inner.step; asked = slice_set asked t c.note_call.new.asked; live = c.note_call.new.live; calls = inner.calls + 1; peak = c.after-self-inside.result } in
    let before : Noted = record { step = inner.step; asked = asked; live = inner.live; calls = inner.calls; peak = inner.peak } in
    let thread : c.args.line.now.thread.0 ≡ t = sym c.from.ensures in
    let follows : Follows before c.args.line.now new = grind (arith, nat_tests, c.in_ok-note_call.ensures.live) in
    followed calls c.args.line.now c.args.self.now new c.requires.thread (subst (λ (v : Noted). Follows v c.args.line.now new) c.self.view_is follows) is first
