-- A sequence whose instructions all run with no act between them does its whole work.
use Rattle.std.proofs.Common.{◌≡◌, ℕ, zero, suc, ◌+◌, ◌-◌, ◌<◌, ◌≤◌, Bool, true, false, cond, eqb, ltb, [], min, Some, refl, sym, subst, arith}
use Rattle.std.proofs.lemmas.Bool.{lt-ltb, ltb-false}
use Rattle.std.proofs.lemmas.Bool.Decides.{nat_tests}
use Rattle.cpu_slab.specs.Slots.{SlabRow, held}
use Rattle.cpu_slab.specs.Sound.{IsSoundRow}
use Rattle.rseq_core.specs.declared.sequence.Pc.TheVariants.{Test, Copy, Commit}
use Rattle.rseq_core.specs.declared.sequence.Reply.TheVariants.{Popped, Pushed}
use Rattle.rseq_core.specs.declared.regs.Regs.{Regs}
use Rattle.rseq_core.specs.Tables.{Cell, is_pop, wanted, counted, copy_or_commit, cell}
use Rattle.rseq_core.specs.Agrees.{HasCopied, Agrees, IsPop, IsPush}
use Rattle.rseq_core.specs.Alone.{alone, PopsWhole, PushesWhole}
use Rattle.rseq_core.proofs.CellKept.{CellOk, copied_at, first_loaded, first_stored, wanted_some, copy_ok, commit_ok}

-- so many objects are pushed
abbrev pub pushed : SlabRow → Regs → ℕ
pushed row r = min (wanted r.seq r.hand.items) (row.cap - row.top)

-- a sequence ends with all that it can do
abbrev pub Ends : Bool → SlabRow → Regs → Cell → Type 0
Ends true row r c = (c.reply ≡ Some Popped) × IsPop row r c
Ends false row r c = (c.reply ≡ Some (Pushed (pushed row r))) × IsPush row r c (pushed row r)

-- a step that changes neither objects nor hand
pub record IsQuiet (row : SlabRow) (r : Regs) (row' : SlabRow) (r' : Regs) : Type 0 where
  pub objects : held row' ≡ held row
  pub top : row'.top ≡ row.top
  pub cap : row'.cap ≡ row.cap
  pub seq : r'.seq ≡ r.seq
  pub hand : r'.hand ≡ r.hand

ends_after : (pops : Bool) (row : SlabRow) (r : Regs) (row' : SlabRow) (r' : Regs) (c : Cell) → IsQuiet row r row' r' → Ends pops row' r' c → Ends pops row r c
ends_after pops row r row' r' c quiet ends = grind (arith)

commit_ends : (pops : Bool) (row : SlabRow) (r : Regs) → IsSoundRow row → HasCopied pops row r r.count → Ends pops row r (cell false pops row r Commit)
commit_ends pops row r ok has = grind (arith, commit_ok)

has_next : (pops : Bool) (row : SlabRow) (r : Regs) (n : ℕ) → n ≤ r.count → (b : Bool) → ltb n r.count ≡ b → Agrees pops row r (cond b (Copy n) Commit) → HasCopied pops row r n
has_next pops row r n low true is agrees = agrees.0
has_next pops row r n low false is agrees = let e : r.count ≡ n = omega (arith, ltb-false n r.count is) in subst (λ k. HasCopied pops row r k) e agrees

copied_low : (pops : Bool) (row : SlabRow) (r : Regs) (n : ℕ) → HasCopied pops row r n → n ≤ r.count
copied_low true row r n has = has.done
copied_low false row r n has = has.done

-- what is left of the copies, and the commit
copies_end : (m : ℕ) (pops : Bool) (row : SlabRow) (r : Regs) (d : ℕ) → IsSoundRow row → HasCopied pops row r d
    → m ≡ r.count - d → Ends pops row r (alone m false pops row r (copy_or_commit d r.count))
copies_end zero pops row r d ok has left = grind (arith, nat_tests, copied_low, commit_ends)
copies_end (suc m) true row r d ok has left =
    let more : d < r.count = omega arith in
    let c : Cell = cell false true row r (Copy d) in
    let next : CellOk false true row r c = copy_ok false true row r d ok has more in
    let has' : HasCopied true c.row c.regs (d + 1) = has_next true c.row c.regs (d + 1) (omega arith) (ltb (d + 1) r.count) refl next.agrees in
    let quiet : IsQuiet row r c.row c.regs = record { objects = refl; top = refl; cap = refl; seq = refl; hand = refl } in
    subst (λ b. Ends true row r (alone (suc m) false true row r (cond b (Copy d) Commit))) (sym (lt-ltb d r.count more)) (ends_after true row r c.row c.regs (alone m false true c.row c.regs c.regs.pc) quiet (copies_end m true c.row c.regs (d + 1) next.row has' (omega arith)))
copies_end (suc m) false row r d ok has left =
    let more : d < r.count = omega arith in
    let c : Cell = cell false false row r (Copy d) in
    let next : CellOk false false row r c = copy_ok false false row r d ok has more in
    let has' : HasCopied false c.row c.regs (d + 1) = has_next false c.row c.regs (d + 1) (omega arith) (ltb (d + 1) r.count) refl next.agrees in
    let quiet : IsQuiet row r c.row c.regs = record { objects = next.does.row; top = refl; cap = refl; seq = refl; hand = refl } in
    subst (λ b. Ends false row r (alone (suc m) false false row r (cond b (Copy d) Commit))) (sym (lt-ltb d r.count more)) (ends_after false row r c.row c.regs (alone m false false c.row c.regs c.regs.pc) quiet (copies_end m false c.row c.regs (d + 1) next.row has' (omega arith)))

-- the copies, once they are counted
counted_ends : (m : ℕ) (pops : Bool) (row : SlabRow) (r : Regs) (k : ℕ) → IsSoundRow row → HasCopied pops row (record r { count = k }) 0
    → m ≡ k → Ends pops row r (alone m false pops row (counted row r k).regs (copy_or_commit 0 k))
counted_ends m pops row r k ok has all =
    let r' : Regs = (counted row r k).regs in
    let has' : HasCopied pops row r' 0 = copied_at pops row (record r { count = k }) 0 (copy_or_commit 0 k) has in
    ends_after pops row r row r' (alone m false pops row r' (copy_or_commit 0 k)) (record { objects = refl; top = refl; cap = refl; seq = refl; hand = refl }) (copies_end m pops row r' 0 ok has' (omega arith))

not_equal : (a b : ℕ) → a < b → eqb a b ≡ false
not_equal a b below = grind (arith, nat_tests)

test_pops : (m : ℕ) (row : SlabRow) (r : Regs) → IsSoundRow row → r.top ≡ row.top → r.loaded.items ≡ []
    → 0 < row.top → m ≡ min (wanted r.seq r.hand.items) row.top → Ends true row r (alone (suc m) false true row r Test)
test_pops m row r ok top nothing some left = grind (arith, counted_ends m true row r, first_loaded row r top)

test_pushes : (m : ℕ) (row : SlabRow) (r : Regs) → IsSoundRow row → is_pop r.seq ≡ false → r.top ≡ row.top
    → r.loaded.items ≡ [] → row.top < row.cap → m ≡ pushed row r → Ends false row r (alone (suc m) false false row r Test)
test_pushes m row r ok way top nothing some left =
    grind (arith, not_equal r.top row.cap, counted_ends m false row r, first_stored row r top, wanted_some r.seq r.hand.items way)

pub pops_whole : PopsWhole
pops_whole row r ok nothing way want some zero is = absurd (omega arith)
pops_whole row r ok nothing way want some (suc zero) is = absurd (omega arith)
pops_whole row r ok nothing way want some (suc (suc zero)) is = absurd (omega arith)
pops_whole row r ok nothing way want some (suc (suc (suc m))) is =
    let r' : Regs = record r { pc = Test; ran = r.ran + 1 + 1; top = row.top } in
    ends_after true row r row r' (alone (suc m) false true row r' Test) (record { objects = refl; top = refl; cap = refl; seq = refl; hand = refl }) (test_pops m row r' ok refl nothing some (omega arith))

pub pushes_whole : PushesWhole
pushes_whole row r ok nothing way want some zero is = absurd (omega arith)
pushes_whole row r ok nothing way want some (suc zero) is = absurd (omega arith)
pushes_whole row r ok nothing way want some (suc (suc zero)) is = absurd (omega arith)
pushes_whole row r ok nothing way want some (suc (suc (suc m))) is =
    let r' : Regs = record r { pc = Test; ran = r.ran + 1 + 1; top = row.top } in
    ends_after false row r row r' (alone (suc m) false false row r' Test) (record { objects = refl; top = refl; cap = refl; seq = refl; hand = refl }) (test_pushes m row r' ok way refl nothing some (omega arith))
