-- Whether all scripts have ended, as a test and as a fact.
use Rattle.std.proofs.Common.{◌≡◌, true, false, Option, None, Some, refl, sym, ap, ◌∙◌, inl, inr}
use Rattle.std.specs.Prelude.{ℕ, is_none}
use Rattle.std.proofs.lemmas.Bool.{cases_Bool}
use Rattle.std.proofs.lemmas.List.Sums.{AllPass-from_list_all, list_all-from_AllPass}
use Rattle.std.proofs.lemmas.List.Elements.{All-weaker}
use Rattle.std.proofs.lemmas.Option.{none-some, slice_get_within, get_or_from_slice_get}
use Rattle.tc_model.specs.declared.steps.Stepped.TheVariants as step
use Rattle.tc_model.specs.Run.{Rules, World}
use Rattle.tc_model.specs.Steps.{stepped}
use Rattle.tc_model.specs.Replays.{HaveEnded}
use Rattle.tc_model.proofs.MovingFacts.{move_of}
use Rattle.tcreplay.specs.Verdict.{have_ended}

none_from : {A : Type 0} (o : Option A) → is_none o ≡ true → o ≡ None
none_from None is = refl
none_from (Some a) is = absurd (cc)

pub ended_true : {P L : Type 0} (r : Rules P L) (w : World P L) → HaveEnded r w → have_ended r w ≡ true
ended_true r w ended = list_all-from_AllPass (λ l. is_none (r.want l)) w.locals (All-weaker (λ l. r.want l ≡ None) (λ l. is_none (r.want l) ≡ true) (λ l none. ap is_none none) w.locals ended)

pub ended_from : {P L : Type 0} (r : Rules P L) (w : World P L) → have_ended r w ≡ true → HaveEnded r w
ended_from r w is = All-weaker (λ l. is_none (r.want l) ≡ true) (λ l. r.want l ≡ None) (λ l none. none_from (r.want l) none) w.locals (AllPass-from_list_all (λ l. is_none (r.want l)) w.locals is)

-- where a pick would move, not all scripts have ended
pub not_ended : {P L : Type 0} (r : Rules P L) (w : World P L) (t : ℕ) → stepped r w t ≡ step.Moved → have_ended r w ≡ false
not_ended r w t moves = elim (cases_Bool (have_ended r w)) [
  | inl ended ↦
      (let m = move_of r w t moves in
      let none : r.want m.local ≡ None = sym (ap r.want (get_or_from_slice_get w.locals t m.local m.local m.local_there)) ∙ ended_from r w ended t m.local (slice_get_within w.locals t m.local m.local_there) in
      absurd (none-some m.place (sym none ∙ m.wants)))
  | inr not ↦ not
]
