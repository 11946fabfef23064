-- A thread that stays at its part.
use Rattle.std.proofs.Common.{◌≡◌, ℕ, ◌<◌, get_or, length, Bool, true, false, List, Option, Some, None, refl, sym, ap, ◌∙◌}
use Rattle.std.specs.Prelude.{IfSome}
use Rattle.std.specs.List.{slice_get, slice_set}
use Rattle.std.proofs.lemmas.Option.{slice_get_read}
use Rattle.tc_model.specs.declared.machine.PartNo.{PartNo}
use Rattle.tc_model.specs.Run.{Rules, World, world_of}
use Rattle.tc_model.specs.Replays.{done_in, IsAt}
use Rattle.tc_model.proofs.Lists.{set_here}

-- what a local wants is the part at which its thread is
pub at_wanted : {P L : Type 0} (r : Rules P L) (w : World P L) (t : ℕ) {l : L} → slice_get w.locals t ≡ Some l → (o : Option PartNo) → o ≡ r.want l → IfSome o (IsAt r w t)
at_wanted r w t there None wants = tt
at_wanted r w t {l} there (Some place) wants = λ m is. let e : Some l ≡ Some m = sym there ∙ is in cc

-- the same of a local that the code has read
pub wants_there : {P L : Type 0} (r : Rules P L) (parts : List P) (locals : List L) {t : ℕ} → t < length locals → {l : L} → l ≡ get_or locals t l
    → {place : PartNo} → IsAt r (world_of parts locals) t place → Some place ≡ r.want l
wants_there r parts locals {t} below {l} read at = sym (at l (slice_get_read locals _ t l refl below read))

-- a local that goes on where it may, and else stands as it was
module _ {P L : Type 0} (r : Rules P L) (locals : List L) (t : ℕ) {l l' : L} (there : slice_get locals t ≡ Some l) where
  now_there : slice_get (slice_set locals t l') t ≡ Some l'
  now_there = set_here locals t l' l there

  same_by : {A : Type 0} (f : L → A) (goes : Bool) → (goes ≡ true → f l' ≡ f l) → (goes ≡ false → l' ≡ l) → f l' ≡ f l
  same_by f true stays same = stays refl
  same_by f false stays same = ap f (same refl)

  pub at_still : (parts : List P) {place : PartNo} → r.want l ≡ Some place → (goes : Bool) → (goes ≡ true → r.want l' ≡ r.want l) → (goes ≡ false → l' ≡ l)
      → IsAt r (world_of parts (slice_set locals t l')) t place
  at_still parts wants goes stays same = λ m is. let e : Some l' ≡ Some m = sym now_there ∙ is in let w = same_by r.want goes stays same in cc

  pub done_still : (parts parts' : List P) (goes : Bool) → (goes ≡ true → r.done l' ≡ r.done l) → (goes ≡ false → l' ≡ l)
      → done_in r (world_of parts' (slice_set locals t l')) t ≡ done_in r (world_of parts locals) t
  done_still parts parts' goes ended same = rw (now_there, there) (same_by r.done goes ended same)
