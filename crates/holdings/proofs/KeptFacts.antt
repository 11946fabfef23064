-- Each kind of decided call keeps that the calls are a run on disjoint blocks, of which each label has its own.
use Rattle.std.proofs.Common.{Bool, ◌≡◌, ℕ, ◌+◌, ◌<◌, true, false, not, eqb, ltb, List, [], ◌∷◌, ◌++◌}
use Rattle.std.proofs.Common.{Option, Some, None, refl, sym, ap, ◌∙◌, subst, arith, ◌⊎◌, inl, inr}
use Rattle.std.specs.Prelude.{◌==◌, is_some, find, All}
use Rattle.std.proofs.lemmas.Bool.{cases_Bool, eqb-true, lt-ltb, false≢true, or_parts, or_cases, cond-true, cond-false, and_from, eq-eqb, ne_eqb}
use Rattle.std.proofs.lemmas.List.Elements.{All-filter}
use Rattle.std.proofs.lemmas.Bool.Decides.{nat_tests}
use Rattle.tc_units.specs.declared.units.Addr.{Addr}
use Rattle.tc_units.specs.declared.units.Label.{Label}
use Rattle.tc_units.specs.declared.units.ThreadNo.{ThreadNo}
use Rattle.tc_units.proofs.SortedFacts.{All-with_item}
use Rattle.tc_model.specs.declared.calls.Call.TheVariants.{Malloc, Free}
use Rattle.tc_model.specs.declared.answers.Answer.{Answer}
use Rattle.tc_model.specs.declared.answers.Answer.TheVariants.{Block, NoBlock, Freed, FreedNull}
use Rattle.tc_model.specs.declared.answers.CallLine.{CallLine}
use Rattle.tc_model.specs.Blocks.{Extent, with_block, meets, blocks_after, allocates, frees, answer_to, freed_in, IsFreePlace, FreesNull, IsAllowed, blocks_with}
use Rattle.holdings.specs.Kept.{HasBlock, IsOfMalloc, AreKept}
use Rattle.tc_model.specs.declared.calls.Call.{Call}
use Rattle.holdings.specs.Moves.{IsOther}
use Rattle.holdings.proofs.Sums.{All-kept, All-weaken}
use Rattle.holdings.proofs.CallFacts.{IsBlockRun-push, answer_cases, answer_to-push_new, answer_to-push_old, blocks_after-push, find-with_block_other}
use Rattle.holdings.proofs.CallFacts.{find-with_block_same, find-without_block, find_all, find_apart, freed_in-push}

module _ (calls : List CallLine) (c : CallLine) where
  -- a label that a call frees was freed before, or the call frees it
  kept_before : (label : ℕ) → freed_in label (calls ++ c ∷ []) ≡ false → (freed_in label calls ≡ false) × (frees label c.call ≡ false)
  kept_before label kept = or_parts (freed_in label calls) (frees label c.call) (sym (freed_in-push label calls c) ∙ kept)

  -- an answer that a label has after a call is one that it had, or the call's
  answer_before : (label : ℕ) (answer : Answer) → answer_to label (calls ++ c ∷ []) ≡ Some answer
      → (answer_to label calls ≡ Some answer) ⊎ ((allocates label c.call ≡ true) × (c.answer ≡ answer))
  answer_before label answer h = grind (arith, answer_cases, answer_to-push_new, answer_to-push_old, cases_Bool, cond-false, cond-true)

  -- a block that a label has after a call that allocates another, or none, is one that it had
  has_block_before : (label : ℕ) (addr : Addr) (len : ℕ) → allocates label c.call ≡ false → HasBlock (calls ++ c ∷ []) label addr len → HasBlock calls label addr len
  has_block_before label addr len other has = grind (arith, answer_before, false≢true, kept_before)

  -- a call frees no label that has no answer
  known_after : ((label : ℕ) → freed_in label calls ≡ true → is_some (answer_to label calls) ≡ true)
      → ((label : ℕ) → frees label c.call ≡ true → is_some (answer_to label calls) ≡ true)
      → (label : ℕ) → freed_in label (calls ++ c ∷ []) ≡ true → is_some (answer_to label (calls ++ c ∷ [])) ≡ true
  known_after known own label h = grind (arith, answer_cases, answer_to-push_old, false≢true, freed_in-push, or_cases)

-- a block is found or isn't; addresses are one where their numbers are
found_cases : (o : Option Extent) → (o ≡ None) ⊎ ((b : Extent) × (o ≡ Some b))
found_cases None = inl refl
found_cases (Some b) = inr (b, refl)

pub same_address : (a b : Addr) → a.0 ≡ b.0 → a ≡ b
same_address a b e = ap (λ (n : ℕ). record { 0 = n }) e

-- a label keeps its block where a call doesn't free it
abbrev pub Labelled : List CallLine → Extent → Type 0
Labelled calls b = (label : ℕ) × HasBlock calls label (record { 0 = b.addr }) b.len

labelled_push : (calls : List CallLine) (c : CallLine) (b : Extent) (own : Labelled calls b) → frees own.0 c.call ≡ false → Labelled (calls ++ c ∷ []) b
labelled_push calls c b own unfreed = let (l, has) = own in
    (l, record { answered = answer_to-push_old l calls c (Block (record { 0 = b.addr }) b.len) has.answered; kept = freed_in-push l calls c ∙ rw (has.kept, unfreed) refl })

-- two blocks have a place in common where each begins before the other's end
meet : (b c : Extent) → b.addr < c.addr + c.len → c.addr < b.addr + b.len → meets b c ≡ true
meet b c low high = and_from (ltb b.addr (c.addr + c.len)) (ltb c.addr (b.addr + b.len)) (lt-ltb b.addr (c.addr + c.len) low) (lt-ltb c.addr (b.addr + b.len) high)

module _ {round : ℕ → ℕ} {huge : ℕ} {calls : List CallLine} (kept : AreKept round huge calls) where
  -- a call that gives no block and takes none: it allocates no label with one, and frees none that has one
  kept_quiet : (c : CallLine) → IsAllowed huge round calls c.call c.answer
      → blocks_with (blocks_after calls) c.answer ≡ blocks_after calls → ((l : ℕ) → allocates l c.call ≡ true → c.answer ≡ NoBlock)
      → ((l : ℕ) → frees l c.call ≡ true → is_some (answer_to l calls) ≡ true)
      → ((l : ℕ) (addr : Addr) (len : ℕ) → HasBlock calls l addr len → frees l c.call ≡ false) → AreKept round huge (calls ++ c ∷ [])
  kept_quiet c allowed blocks none own unfreed =
      let same : blocks_after (calls ++ c ∷ []) ≡ blocks_after calls = blocks_after-push calls c ∙ blocks in
      let old : (l : ℕ) (addr : Addr) (len : ℕ) → HasBlock (calls ++ c ∷ []) l addr len → HasBlock calls l addr len =
      λ l addr len has. elim (answer_before calls c l (Block addr len) has.answered) [
        | inl before ↦ record { answered = before; kept = (kept_before calls c l has.kept).0 }
        | inr new ↦ let wrong : NoBlock ≡ Block addr len = sym (none l new.0) ∙ new.1 in absurd (cc)
      ] in
      let still = All-weaken (Labelled calls) (Labelled (calls ++ c ∷ [])) (blocks_after calls) (λ b l. labelled_push calls c b l (unfreed l.0 (record { 0 = b.addr }) b.len l.1)) kept.labelled in
      record {
        run = IsBlockRun-push round huge calls c kept.run allowed;
        some = rw same kept.some;
        stands = λ l addr len has. ap (find (λ b. b.addr == addr.0)) same ∙ kept.stands l addr len (old l addr len has);
        distinct = λ l m addr n k has hasm. kept.distinct l m addr n k (old l addr n has) (old m addr k hasm);
        answers = λ l answer h. elim (answer_before calls c l answer h) [ inl before ↦ kept.answers l answer before | inr new ↦ subst IsOfMalloc (sym (none l new.0) ∙ new.1) tt ];
        labelled = subst (All (Labelled (calls ++ c ∷ []))) (sym same) still;
        known = known_after calls c kept.known own;
      }

  -- an allocation without a block
  pub kept_none : (thread : ThreadNo) (label : Label) (size : ℕ) → AreKept round huge (calls ++ record { thread = thread; call = Malloc label size; answer = NoBlock } ∷ [])
  kept_none thread label size =
      kept_quiet (record { thread = thread; call = Malloc label size; answer = NoBlock }) tt refl (λ l h. refl) (λ l h. absurd (false≢true h)) (λ l addr len has. refl)

  -- an allocation of a block at a free place, under a label that has no answer yet
  module _ (thread : ThreadNo) (label : Label) (size : ℕ) (addr : Addr) (len : ℕ) (new : answer_to label.0 calls ≡ None)
      (free : IsFreePlace huge (blocks_after calls) (record { addr = addr.0; len = len })) (is : len ≡ round size) (some : 0 < len) where
    abbrev line : CallLine
    line = record { thread = thread; call = Malloc label size; answer = Block addr len }

    abbrev place : Extent
    place = record { addr = addr.0; len = len }

    -- a label of an older block is another one, and its block is elsewhere
    older : (l : ℕ) (a : Addr) (n : ℕ) → HasBlock calls l a n → (addr.0 ≡ a.0 → ⊥)
    older l a n has same =
        let b : Extent = record { addr = a.0; len = n } in let found = kept.stands l a n has in
        let apart = find_apart place a.0 (blocks_after calls) b free.apart found in
        let positive : 0 < n = (find_all (λ b. 0 < b.len) a.0 (blocks_after calls) b kept.some found).0 in
        false≢true (sym apart ∙ meet place b (omega arith) (omega arith))

    -- a label's block is an older one, or the new one is the label's
    of_label : (l : ℕ) (a : Addr) (n : ℕ) → HasBlock (calls ++ line ∷ []) l a n → HasBlock calls l a n ⊎ ((label.0 ≡ l) × (a ≡ addr) × (n ≡ len))
    of_label l a n has = grind (arith, answer_before, eqb-true, kept_before)

    -- no block begins at the new address
    none_there : find (λ b. b.addr == addr.0) (blocks_after calls) ≡ None
    none_there =
        elim (found_cases (find (λ b. b.addr == addr.0) (blocks_after calls))) [
          | inl none ↦ none
          | inr there ↦
              let both = find_all (λ b. 0 < b.len) addr.0 (blocks_after calls) there.0 kept.some there.1 in
              let apart = find_apart place addr.0 (blocks_after calls) there.0 free.apart there.1 in
              absurd (false≢true (sym apart ∙ meet place there.0 (omega (arith, both.0, both.1)) (omega (arith, both.1))))
        ]

    own_block : HasBlock (calls ++ line ∷ []) label.0 addr len
    own_block = grind (arith, nat_tests, false≢true, answer_to-push_new, freed_in-push)

    -- the block that a label finds
    found_now : (l : ℕ) (a : Addr) (n : ℕ) → HasBlock (calls ++ line ∷ []) l a n
        → find (λ b. b.addr == a.0) (with_block place (blocks_after calls)) ≡ Some (record { addr = a.0; len = n })
    found_now l a n has =
        elim (of_label l a n has) [
          | inl before ↦ find-with_block_other place a.0 (blocks_after calls) (older l a n before) ∙ kept.stands l a n before
          | inr mine ↦ rw (mine.1, mine.2) (find-with_block_same place (blocks_after calls) none_there)
        ]

    pub kept_block : AreKept round huge (calls ++ line ∷ [])
    kept_block =
        let byte : Extent → ℕ = λ b. b.addr in let now = blocks_after-push calls line in
        let still = All-weaken (Labelled calls) (Labelled (calls ++ line ∷ [])) (blocks_after calls) (λ b l. labelled_push calls line b l refl) kept.labelled in
        record {
          run = IsBlockRun-push round huge calls line kept.run (is, free);
          some = subst (All (λ b. 0 < b.len)) (sym now) (All-with_item byte (λ b. 0 < b.len) place (blocks_after calls) some kept.some);
          stands = λ l a n has. ap (find (λ b. b.addr == a.0)) now ∙ found_now l a n has;
          distinct = λ l m a n k has hasm.
              elim (of_label l a n has) [
                | inl before ↦
                    elim (of_label m a k hasm) [ inl beforem ↦ kept.distinct l m a n k before beforem | inr minem ↦ absurd (older l a n before (ap (λ (x : Addr). x.0) (sym minem.1))) ]
                | inr mine ↦ elim (of_label m a k hasm) [ inl beforem ↦ absurd (older m a k beforem (ap (λ (x : Addr). x.0) (sym mine.1))) | inr minem ↦ sym mine.0 ∙ minem.0 ]
              ];
          answers = λ l answer h. elim (answer_before calls line l answer h) [ inl before ↦ kept.answers l answer before | inr mine ↦ subst IsOfMalloc mine.1 tt ];
          labelled = subst (All (Labelled (calls ++ line ∷ []))) (sym now) (All-with_item byte (Labelled (calls ++ line ∷ [])) place (blocks_after calls) (label.0, own_block) still);
          known = known_after calls line kept.known (λ l h. absurd (false≢true h));
        }

-- a call that is about no label
other_allowed : (huge : ℕ) (round : ℕ → ℕ) (calls : List CallLine) (call : Call) (answer : Answer) → IsOther call answer → IsAllowed huge round calls call answer
other_allowed huge round calls x3 x4 is = grind (arith)

pub other_label : (call : Call) (answer : Answer) → IsOther call answer → (l : ℕ) → (allocates l call ≡ false) × (frees l call ≡ false)
other_label call answer is l = grind (arith)

pub other_blocks : (blocks : List Extent) (call : Call) (answer : Answer) → IsOther call answer → blocks_with blocks answer ≡ blocks
other_blocks blocks x1 x2 is = grind (arith)

module _ {round : ℕ → ℕ} {huge : ℕ} {calls : List CallLine} (kept : AreKept round huge calls) where
  pub kept_other : (c : CallLine) → IsOther c.call c.answer → AreKept round huge (calls ++ c ∷ [])
  kept_other c is =
      let apart = other_label c.call c.answer is in
      kept_quiet kept c (other_allowed huge round calls c.call c.answer is) (other_blocks (blocks_after calls) c.call c.answer is)
      (λ l h. absurd (false≢true (sym (apart l).0 ∙ h))) (λ l h. absurd (false≢true (sym (apart l).1 ∙ h))) (λ l addr len has. (apart l).1)

  -- a free of null
  pub kept_freed_null : (thread : ThreadNo) (label : Label) → FreesNull calls label.0 → AreKept round huge (calls ++ record { thread = thread; call = Free label; answer = FreedNull } ∷ [])
  kept_freed_null thread label null =
      let unlike : (l : ℕ) (addr : Addr) (len : ℕ) → HasBlock calls l addr len → label.0 ≡ l → ⊥ =
      λ l addr len has e. (let both : Some NoBlock ≡ Some (Block addr len) = sym null.answered ∙ (ap (λ (x : ℕ). answer_to x calls) e ∙ has.answered) in absurd (cc)) in
      kept_quiet kept (record { thread = thread; call = Free label; answer = FreedNull }) null refl (λ l h. absurd (false≢true h))
      (λ l h. subst (λ (x : ℕ). is_some (answer_to x calls) ≡ true) (eqb-true label.0 l h) (ap is_some null.answered)) (λ l addr len has. ne_eqb label.0 l (unlike l addr len has))

  -- a free of a block
  module _ (thread : ThreadNo) (label : Label) (addr : Addr) (len : ℕ) (has : HasBlock calls label.0 addr len) where
    abbrev freeing : CallLine
    freeing = record { thread = thread; call = Free label; answer = Freed addr }

    -- every other label's block is elsewhere
    others : (l : ℕ) (a : Addr) (n : ℕ) → HasBlock (calls ++ freeing ∷ []) l a n → HasBlock calls l a n × (addr.0 ≡ a.0 → ⊥)
    others l a n hasl = grind (arith, nat_tests, has_block_before calls freeing l a n refl hasl, kept_before calls freeing l hasl.kept, same_address addr a)

    -- and so its label isn't the one that is freed
    unfreed : (b : Extent) (own : Labelled calls b) → not (b.addr == addr.0) ≡ true → eqb label.0 own.0 ≡ false
    unfreed b own apart = grind (arith, eq-eqb, false≢true, ne_eqb)

    pub kept_freed : AreKept round huge (calls ++ freeing ∷ [])
    kept_freed =
        let now = blocks_after-push calls freeing in let stays : Extent → Bool = λ b. not (b.addr == addr.0) in
        let still = All-kept (Labelled calls) (Labelled (calls ++ freeing ∷ [])) stays (blocks_after calls) (λ b l apart. labelled_push calls freeing b l (unfreed b l apart)) kept.labelled in
        record {
          run = IsBlockRun-push round huge calls freeing kept.run (record { len = len; answered = has.answered; stands = kept.stands label.0 addr len has; once = has.kept });
          some = subst (All (λ b. 0 < b.len)) (sym now) (All-filter stays (λ b. 0 < b.len) (blocks_after calls) kept.some);
          stands = λ l a n hasl.
              let o = others l a n hasl in
              ap (find (λ b. b.addr == a.0)) now ∙ (find-without_block addr.0 a.0 (blocks_after calls) o.1 ∙ kept.stands l a n o.0);
          distinct = λ l m a n k hasl hasm. kept.distinct l m a n k (others l a n hasl).0 (others m a k hasm).0;
          answers = λ l answer h. elim (answer_before calls freeing l answer h) [ inl before ↦ kept.answers l answer before | inr new ↦ absurd (false≢true new.0) ];
          labelled = subst (All (Labelled (calls ++ freeing ∷ []))) (sym now) still;
          known = known_after calls freeing kept.known (λ l h. let e : label.0 ≡ l = eqb-true label.0 l h in subst (λ (x : ℕ). is_some (answer_to x calls) ≡ true) e (ap is_some has.answered));
        }
