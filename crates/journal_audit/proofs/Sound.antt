-- Answered calls that keep the rules, one after another, are a run on disjoint blocks.
use Rattle.std.proofs.Common.{◌≡◌, ℕ, ◌+◌, ◌*◌, Bool, true, false, not, ◌||◌, cond, List, [], ◌∷◌, ◌++◌, Option, Some, None, refl, sym, ap}
use Rattle.std.proofs.Common.{◌∙◌, subst, inl, inr, arith, ◌⊎◌}
use Rattle.std.specs.Prelude.{◌==◌, find}
use Rattle.std.specs.List.{list_any}
use Rattle.std.specs.Option.{option_or}
use Rattle.std.proofs.lemmas.Bool.{and_parts, and_from, ltb-true, lt-ltb, leb-true, le-leb, eqb-true, eq-eqb, or_parts, not-true, false≢true}
use Rattle.std.proofs.lemmas.List.Sums.{fold_push}
use Rattle.std.proofs.lemmas.List.Recursion.{or_push}
use Rattle.std.proofs.lemmas.Bool.Decides.{nat_tests}
use Rattle.tc_units.specs.Units.{huge_bytes}
use Rattle.tc_units.specs.Arena.{IsInArena}
use Rattle.tc_units.specs.Classes.{length_of}
use Rattle.tc_units.specs.declared.units.ThreadNo.{ThreadNo}
use Rattle.tc_units.specs.declared.units.Label.{Label}
use Rattle.tc_model.specs.declared.calls.Call.{Call}
use Rattle.tc_model.specs.declared.calls.Call.TheVariants as call
use Rattle.tc_model.specs.declared.answers.Answer.{Answer}
use Rattle.tc_model.specs.declared.answers.Answer.TheVariants as answer
use Rattle.tc_model.specs.declared.answers.CallLine.{CallLine}
use Rattle.tc_model.specs.Blocks.{Extent, with_block, without_block, blocks_with, blocks_after, allocates, frees, answer_to, freed_in, IsFreePlace, IsAllowed, IsBlockRun}
use Rattle.tc_model.proofs.EachAfter.{each_of_none, each_of_push}
use Rattle.journal_audit.specs.declared.told.Drained.TheVariants as drained
use Rattle.journal_audit.specs.declared.told.Resized.TheVariants as resized
use Rattle.journal_audit.specs.declared.told.Act.{Act}
use Rattle.journal_audit.specs.declared.told.Act.TheVariants.{Malloc, Free, Release, Drain, Resize}
use Rattle.journal_audit.specs.Forms.{names, answer_of}
use Rattle.journal_audit.specs.Rules.{Plan, lies_in, gave}
use Rattle.journal_audit.specs.Spread.{IsSpread}
use Rattle.journal_audit.proofs.Passing.{Keeps}
use Rattle.journal_audit.proofs.Spreads.{spread_with, spread_without, found, none_begins, find_new, find_old, find_left, they_meet}

-- One call more.
pub blocks_push : (calls : List CallLine) (c : CallLine) → blocks_after (calls ++ c ∷ []) ≡ blocks_with (blocks_after calls) c.answer
blocks_push calls c = fold_push (λ blocks (d : CallLine). blocks_with blocks d.answer) [] calls c

pub freed_push : (label : ℕ) (calls : List CallLine) (c : CallLine) → freed_in label (calls ++ c ∷ []) ≡ (freed_in label calls || frees label c.call)
freed_push label calls c = or_push (list_any (λ (d : CallLine). frees label d.call)) (λ (d : CallLine). frees label d.call) refl (λ _ _. refl) calls c

pub answer_push : (label : ℕ) (calls : List CallLine) (c : CallLine)
    → answer_to label (calls ++ c ∷ []) ≡ option_or (answer_to label calls) (cond (allocates label c.call) (Some c.answer) None)
answer_push label [] c = refl
answer_push label (d ∷ ds) c = grind (arith, allocates, answer_to, cond, option_or, (answer_push label ds c))

-- a label has a block that no call has freed
pub record HasBlock (calls : List CallLine) (label addr len : ℕ) : Type 0 where
  pub answered : answer_to label calls ≡ Some (answer.Block (record { 0 = addr }) len)
  pub kept : freed_in label calls ≡ false

-- calls are a run, their blocks are apart, and each label's own block stands
pub record IsSound (huge : ℕ) (round : ℕ → ℕ) (calls : List CallLine) : Type 0 where
  pub run : IsBlockRun huge round calls
  pub spread : IsSpread (blocks_after calls)
  pub stands : (label addr len : ℕ) → HasBlock calls label addr len → find (λ b. b.addr == addr) (blocks_after calls) ≡ Some (record { addr = addr; len = len })
  pub distinct : (l m addr len len' : ℕ) → HasBlock calls l addr len → HasBlock calls m addr len' → l ≡ m

pub sound_none : (huge : ℕ) (round : ℕ → ℕ) → IsSound huge round []
sound_none huge round = grind (arith, each_of_none (λ earlier (c : CallLine). IsAllowed huge round earlier c.call c.answer))

-- a block that a label has after a call is one that it had, or the call's
block_before : (o : Option Answer) (mine : Bool) (new block : Answer) → option_or o (cond mine (Some new) None) ≡ Some block
    → (o ≡ Some block) ⊎ ((mine ≡ true) × (new ≡ block))
block_before o mine new block h = grind (arith)

block_of : (calls : List CallLine) (c : CallLine) (label addr len : ℕ) → HasBlock (calls ++ c ∷ []) label addr len
    → HasBlock calls label addr len ⊎ ((allocates label c.call ≡ true) × (c.answer ≡ answer.Block (record { 0 = addr }) len))
block_of calls c label addr len has = grind (arith, nat_tests, block_before, answer_push, freed_push)

module _ (huge : ℕ) (round : ℕ → ℕ) (calls : List CallLine) (sound : IsSound huge round calls) where
  goes_on : (c : CallLine) → IsAllowed huge round calls c.call c.answer → IsBlockRun huge round (calls ++ c ∷ [])
  goes_on c = each_of_push (λ earlier (d : CallLine). IsAllowed huge round earlier d.call d.answer) calls c sound.run

  -- a call that leaves the blocks as they are
  quiet : (c : CallLine) → IsAllowed huge round calls c.call c.answer → blocks_with (blocks_after calls) c.answer ≡ blocks_after calls
      → ((label addr len : ℕ) → allocates label c.call ≡ true → c.answer ≡ answer.Block (record { 0 = addr }) len → ⊥) → IsSound huge round (calls ++ c ∷ [])
  quiet c allowed blocks none =
      let same : blocks_after (calls ++ c ∷ []) ≡ blocks_after calls = blocks_push calls c ∙ blocks in
      let old : (label addr len : ℕ) → HasBlock (calls ++ c ∷ []) label addr len → HasBlock calls label addr len =
      λ label addr len has. elim (block_of calls c label addr len has) [ inl before ↦ before | inr new ↦ absurd (none label addr len new.0 new.1) ] in
      record {
        run = goes_on c allowed;
        spread = subst IsSpread (sym same) sound.spread;
        stands = λ label addr len has. ap (find (λ b. b.addr == addr)) same ∙ sound.stands label addr len (old label addr len has);
        distinct = λ l m addr len len' has other. sound.distinct l m addr len len' (old l addr len has) (old m addr len' other);
      }

  -- an allocation of a block at a free place
  module _ (thread : ThreadNo) (label : Label) (size addr len : ℕ) (is : len ≡ round size) (free : IsFreePlace huge (blocks_after calls) (record { addr = addr; len = len })) where
    abbrev line : CallLine
    line = record { thread = thread; call = call.Malloc label size; answer = answer.Block (record { 0 = addr }) len }

    abbrev block : Extent
    block = record { addr = addr; len = len }

    elsewhere : (l a n : ℕ) → HasBlock calls l a n → addr ≡ a → ⊥
    elsewhere l a n has same =
        let f = found block a (blocks_after calls) (record { addr = a; len = n }) sound.spread free.apart (sound.stands l a n has) in
        false≢true (sym f.apart ∙ they_meet block (record { addr = a; len = n }) (omega (arith, same, f.some)) (omega (arith, same, free.inside.some)))

    of_label : (l a n : ℕ) → HasBlock (calls ++ line ∷ []) l a n → HasBlock calls l a n ⊎ ((label.0 ≡ l) × (addr ≡ a) × (len ≡ n))
    of_label l a n has = grind (arith, nat_tests, block_of calls line l a n has)

    with_one : IsSound huge round (calls ++ line ∷ [])
    with_one =
        let same : blocks_after (calls ++ line ∷ []) ≡ with_block block (blocks_after calls) = blocks_push calls line in
        let none = none_begins block (blocks_after calls) free.inside.some free.apart sound.spread in
        record {
          run = goes_on line (is, free);
          spread = subst IsSpread (sym same) (spread_with block (blocks_after calls) free.inside.some free.apart sound.spread);
          stands = λ l a n has. ap (find (λ b. b.addr == a)) same ∙
              elim (of_label l a n has) [
                | inl before ↦ find_old block a (blocks_after calls) (elsewhere l a n before) ∙ sound.stands l a n before
                | inr mine ↦ grind (arith, find_new block (blocks_after calls) none)
              ];
          distinct = λ l m a n k has other.
              elim (of_label l a n has) [
                | inl before ↦ elim (of_label m a k other) [ inl before' ↦ sound.distinct l m a n k before before' | inr mine' ↦ absurd (elsewhere l a n before mine'.1) ]
                | inr mine ↦ elim (of_label m a k other) [ inl before' ↦ absurd (elsewhere m a k before' mine.1) | inr mine' ↦ sym mine.0 ∙ mine'.0 ]
              ];
        }

  -- a free of a label's own block
  without_one : (thread : ThreadNo) (label : Label) (addr len : ℕ) → HasBlock calls label.0 addr len
      → IsSound huge round (calls ++ record { thread = thread; call = call.Free label; answer = answer.Freed (record { 0 = addr }) } ∷ [])
  without_one thread label addr len has =
      let c : CallLine = record { thread = thread; call = call.Free label; answer = answer.Freed (record { 0 = addr }) } in
      let same : blocks_after (calls ++ c ∷ []) ≡ without_block addr (blocks_after calls) = blocks_push calls c in
      let old : (l a n : ℕ) → HasBlock (calls ++ c ∷ []) l a n → HasBlock calls l a n =
      λ l a n it. elim (block_of calls c l a n it) [ inl before ↦ before | inr new ↦ absurd (false≢true new.0) ] in
      let other : (l a n : ℕ) → HasBlock (calls ++ c ∷ []) l a n → addr ≡ a → ⊥ =
      λ l a n it here.
      let l_is : label.0 ≡ l = sound.distinct label.0 l a len n (subst (λ (x : ℕ). HasBlock calls label.0 x len) here has) (old l a n it) in
      let unfreed = (or_parts (freed_in l calls) (frees l c.call) (sym (freed_push l calls c) ∙ it.kept)).1 in
      false≢true (sym unfreed ∙ eq-eqb label.0 l l_is) in
      record {
        run = goes_on c (record { len = len; answered = has.answered; stands = sound.stands label.0 addr len has; once = has.kept });
        spread = subst IsSpread (sym same) (spread_without addr (blocks_after calls) sound.spread);
        stands = λ l a n it. ap (find (λ b. b.addr == a)) same ∙ find_left addr a (blocks_after calls) (other l a n it) ∙ sound.stands l a n (old l a n it);
        distinct = λ l m a n k it it'. sound.distinct l m a n k (old l a n it) (old m a k it');
      }

-- what the tests on an arena and on an answer say
in_arena : (huge addr len : ℕ) → lies_in huge addr len ≡ true → IsInArena huge_bytes huge addr len
in_arena huge addr len h = grind (arith, and_parts, leb-true, ltb-true)

lies_there : (huge addr len : ℕ) → IsInArena huge_bytes huge addr len → lies_in huge addr len ≡ true
lies_there huge addr len h = and_from _ _ (lt-ltb 0 len h.some) (and_from _ _ (le-leb huge_bytes addr h.from) (le-leb (addr + len) (huge_bytes * (huge + 1)) h.to))

block_at : (addr : ℕ) (o : Option Answer) → gave o (answer.Freed (record { 0 = addr })) ≡ true → (len : ℕ) × (o ≡ Some (answer.Block (record { 0 = addr }) len))
block_at addr (Some (answer.Block a len)) h = (len, ap (λ (x : ℕ). Some (answer.Block (record { 0 = x }) len)) (eqb-true a.0 addr h))
block_at addr o h = absurd (false≢true h)

null_at : (o : Option Answer) → gave o answer.FreedNull ≡ true → o ≡ Some answer.NoBlock
null_at (Some answer.NoBlock) h = refl
null_at o h = absurd (false≢true h)

-- a call that a line tells, and that keeps the rules, goes on with a run
pub sound_push : (plan : Plan) (calls : List CallLine) (thread : ThreadNo) (act : Act) (c : Call) → IsSound plan.huge (length_of plan.rows) calls
    → names act c ≡ true → Keeps plan calls c (answer_of act)
    → IsSound plan.huge (length_of plan.rows) (calls ++ record { thread = thread; call = c; answer = answer_of act } ∷ [])
sound_push plan calls thread (Malloc label (Some place)) (call.Malloc l size) sound named keeps =
    with_one plan.huge (length_of plan.rows) calls sound thread l size place.addr place.len (eqb-true place.len _ keeps.long)
    (record { inside = in_arena plan.huge place.addr place.len keeps.inside; apart = keeps.apart })
sound_push plan calls thread (Malloc label None) (call.Malloc l size) sound named keeps =
    quiet plan.huge (length_of plan.rows) calls sound (record { thread = thread; call = call.Malloc l size; answer = answer.NoBlock }) tt refl (λ label addr len mine is. cc)
sound_push plan calls thread (Free label (Some addr)) (call.Free l) sound named keeps =
    let parts = and_parts (not (freed_in l.0 calls)) (gave (answer_to l.0 calls) (answer.Freed (record { 0 = addr }))) keeps.own in
    let at = block_at addr (answer_to l.0 calls) parts.1 in
    without_one plan.huge (length_of plan.rows) calls sound thread l addr at.0 (record { answered = at.1; kept = not-true (freed_in l.0 calls) parts.0 })
sound_push plan calls thread (Free label None) (call.Free l) sound named keeps =
    grind (arith, nat_tests, quiet plan.huge (length_of plan.rows) calls sound, call.Free l, null_at (answer_to l.0 calls), not-true (freed_in l.0 calls))
sound_push plan calls thread (Release pages) (call.Release wanted) sound named keeps =
    quiet plan.huge (length_of plan.rows) calls sound (record { thread = thread; call = call.Release wanted; answer = answer.Released pages }) tt refl (λ label addr len mine is. false≢true mine)
sound_push plan calls thread (Drain cpu (drained.Objects n)) (call.Drain at) sound named keeps =
    quiet plan.huge (length_of plan.rows) calls sound (record { thread = thread; call = call.Drain at; answer = answer.Drained n }) tt refl (λ label addr len mine is. false≢true mine)
sound_push plan calls thread (Drain cpu (drained.Busy n)) (call.Drain at) sound named keeps =
    quiet plan.huge (length_of plan.rows) calls sound (record { thread = thread; call = call.Drain at; answer = answer.Busy (record { 0 = n }) }) tt refl (λ label addr len mine is. false≢true mine)
sound_push plan calls thread (Resize cpu class cap_ resized.Set) (call.Resize at k n) sound named keeps =
    quiet plan.huge (length_of plan.rows) calls sound (record { thread = thread; call = call.Resize at k n; answer = answer.CapSet }) tt refl (λ label addr len mine is. false≢true mine)
sound_push plan calls thread (Resize cpu class cap_ (resized.Busy m)) (call.Resize at k n) sound named keeps =
    quiet plan.huge (length_of plan.rows) calls sound (record { thread = thread; call = call.Resize at k n; answer = answer.Busy (record { 0 = m }) }) tt refl (λ l addr len mine is. false≢true mine)
sound_push plan calls thread (Resize cpu class cap_ (resized.OverStatic m)) (call.Resize at k n) sound named keeps =
    quiet plan.huge (length_of plan.rows) calls sound (record { thread = thread; call = call.Resize at k n; answer = answer.OverStatic m }) tt refl (λ l addr len mine is. false≢true mine)
sound_push plan calls thread (Resize cpu class cap_ (resized.OverLimit m)) (call.Resize at k n) sound named keeps =
    quiet plan.huge (length_of plan.rows) calls sound (record { thread = thread; call = call.Resize at k n; answer = answer.OverLimit m }) tt refl (λ label addr len mine is. false≢true mine)
sound_push plan calls thread act c sound named keeps = absurd (false≢true named)

-- a call that a line tells, and that is allowed, keeps the rules
pub allowed_keeps : (plan : Plan) (calls : List CallLine) (act : Act) (c : Call) → names act c ≡ true
    → IsAllowed plan.huge (length_of plan.rows) calls c (answer_of act) → Keeps plan calls c (answer_of act)
allowed_keeps plan calls x2 x3 named allowed = grind (arith)
