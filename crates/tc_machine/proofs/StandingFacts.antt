-- What a call's answer makes of the blocks that stand.
use Rattle.std.proofs.Common.{◌≡◌, ℕ, ◌+◌, ◌^◌, ◌≤◌, eqb, List, [], ◌∷◌, ◌++◌, length, take, Option, Some, None, refl, sym, ap, ◌∙◌, subst, arith}
use Rattle.std.specs.Prelude.{count_by, find, is_some, sum_by, true, unwrap_or}
use Rattle.std.specs.Option.{option_or}
use Rattle.std.proofs.lemmas.List.{length-append}
use Rattle.std.proofs.Math.Seq.{take-append_seam}
use Rattle.std.proofs.lemmas.List.Elements.{All-append, All-cons, All-head, All-nil, All-tail}
use Rattle.std.proofs.lemmas.List.Sums.{sum_by-append, sum_by-cons}
use Rattle.std.proofs.lemmas.Bool.Decides.{nat_tests}
use Rattle.tc_units.specs.declared.units.Addr.{Addr}
use Rattle.tc_units.specs.declared.units.Label.{Label}
use Rattle.tc_units.proofs.Counts.{count-cons}
use Rattle.tc_units.proofs.SortedFacts.{length-with_item, sum_by-with_item, without_none}
use Rattle.tc_model.specs.declared.calls.Call.{Call}
use Rattle.tc_model.specs.declared.calls.Call.TheVariants.{Malloc, Free}
use Rattle.tc_model.specs.declared.answers.Answer.{Answer}
use Rattle.tc_model.specs.declared.answers.Answer.TheVariants.{Block, Freed}
use Rattle.tc_model.specs.declared.answers.CallLine.{CallLine}
use Rattle.tc_model.specs.Blocks.{Extent, blocks_after, blocks_with, without_block, answer_to, FreesBlock, IsAllowed, IsBlockRun}
use Rattle.holdings.specs.Apart.{AreApart}
use Rattle.holdings.proofs.CallFacts.{blocks_after-push, answer_cases, answer_to-push_new, answer_to-push_old}
use Rattle.holdings.proofs.Standing.{answer_same}
use Rattle.holdings.proofs.Blocks.{apart_after, place_of}
use Rattle.tc_machine.specs.Arena.{most_huge_of_nodes}
use Rattle.tc_machine.specs.declared.standing.Standing.{Standing}
use Rattle.tc_machine.specs.Standing.{bytes_of_label, bytes_of_labels, AreNoted, AreBytesOf, AreStanding, MayStand}
use Rattle.tc_machine.specs.Telling.{HearsEach}

-- where none begins at an address, none is found there
none_found : (a : ℕ) (bs : List Extent) → count_by (λ (b : Extent). eqb b.addr a) bs ≡ 0 → find (λ (b : Extent). eqb b.addr a) bs ≡ None
none_found a [] none = refl
none_found a (b ∷ bs) none = grind (arith, count-cons (λ (x : Extent). eqb x.addr a) b bs, none_found a bs)

-- and where one is found, that one alone leaves
pub record LeavesOne (a : ℕ) (bs : List Extent) (b : Extent) : Type 0 where
  pub count : length (without_block a bs) + 1 ≡ length bs
  pub bytes : sum_by (λ (x : Extent). x.len) (without_block a bs) + b.len ≡ sum_by (λ (x : Extent). x.len) bs
  pub gone : find (λ (x : Extent). eqb x.addr a) (without_block a bs) ≡ None

leaves_one : (a : ℕ) (bs : List Extent) (b : Extent) → count_by (λ (x : Extent). eqb x.addr a) bs ≤ 1 → find (λ (x : Extent). eqb x.addr a) bs ≡ Some b → LeavesOne a bs b
leaves_one a [] b once found = absurd (cc)
leaves_one a (x ∷ xs) b once found = grind (
  arith,
  nat_tests,
  leaves_one a xs b,
  count-cons (λ (y : Extent). eqb y.addr a) x xs,
  without_none (λ (y : Extent). eqb y.addr a) xs,
  sum_by-cons (λ (y : Extent). y.len) x xs,
  none_found a xs,
  sum_by-cons (λ (y : Extent). y.len) x (without_block a xs),
)

-- where what is noted of some labels stays, so do their bytes
pub record StillNoted (lens lens' : List ℕ) (labels : List Label) : Type 0 where
  pub noted : AreNoted lens' labels
  pub bytes : bytes_of_labels lens' labels ≡ bytes_of_labels lens labels

still_noted : (lens lens' : List ℕ) (labels : List Label) → ((label : ℕ) → is_some (bytes_of_label lens label) ≡ true → bytes_of_label lens' label ≡ bytes_of_label lens label)
    → AreNoted lens labels → StillNoted lens lens' labels
still_noted lens lens' [] stays noted = record { noted = All-nil _; bytes = refl }
still_noted lens lens' (l ∷ ls) stays noted =
    let IsNoted : List ℕ → Label → Type 0 = λ ns k. is_some (bytes_of_label ns k.0) ≡ true in
    let bytes : List ℕ → Label → ℕ = λ ns k. unwrap_or (bytes_of_label ns k.0) 0 in
    let here = All-head (IsNoted lens) l ls noted in
    let same = stays l.0 here in
    let rest = still_noted lens lens' ls stays (All-tail (IsNoted lens) l ls noted) in
    record {
      noted = All-cons (IsNoted lens') l ls (ap is_some same ∙ here) rest.noted;
      bytes = omega (arith, sum_by-cons (bytes lens) l ls, sum_by-cons (bytes lens') l ls, rest.bytes, ap (λ o. unwrap_or o 0) same);
    }

-- An answer that is no block's and frees none changes nothing, and nothing is noted of it.
pub record IsQuiet (answer : Answer) : Type 0 where
  pub same : (blocks : List Extent) → blocks_with blocks answer ≡ blocks
  pub notes : (n : Option ℕ) → AreBytesOf (Some answer) n

pub quiet_answer : (answer : Answer) → ((addr : Addr) (len : ℕ) → answer ≡ Block addr len → ⊥) → ((addr : Addr) → answer ≡ Freed addr → ⊥) → IsQuiet answer
quiet_answer answer block freed = record { same = λ blocks. grind (arith, block, freed); notes = λ n. grind (arith, block) }

-- what is noted stays
noted_still : (answer : Answer) (n m : Option ℕ) (len : ℕ) → m ≡ option_or n (Some len) → AreBytesOf (Some answer) n → AreBytesOf (Some answer) m
noted_still answer n m len is noted = grind (arith)

-- of two allocations of a label the first one counts
noted_first : (earlier : List CallLine) (line : CallLine) (addr : Addr) (len : ℕ) (label : Label) (size : ℕ) (n m : Option ℕ) → line.answer ≡ Block addr len → line.call ≡ Malloc label size
    → m ≡ option_or n (Some len) → AreBytesOf (answer_to label.0 earlier) n → AreBytesOf (answer_to label.0 (earlier ++ line ∷ [])) m
noted_first earlier line addr len label size n m is asks after noted = grind (arith, answer_cases, answer_to-push_new, answer_to-push_old, noted_still)

-- an allocation's block lies in an arena of at most 2^37 bytes
pub len_small : (huge : ℕ) (round : ℕ → ℕ) (earlier : List CallLine) (call : Call) (addr : Addr) (len : ℕ) → huge ≤ most_huge_of_nodes → IsAllowed huge round earlier call (Block addr len) → len ≤ 2 ^ 37
len_small huge round earlier call addr len arena allowed = let p = place_of huge round earlier call addr len allowed in omega (arith, arena, p.inside.to)

-- each call of a run on disjoint blocks may come
pub may_stand : (huge : ℕ) (round : ℕ → ℕ) (calls : List CallLine) → IsBlockRun huge round calls → huge ≤ most_huge_of_nodes → HearsEach MayStand calls
may_stand huge round calls run arena earlier line later is few =
    let taken : take (length earlier) calls ≡ earlier = ap (take (length earlier)) (sym is) ∙ take-append_seam earlier (line ∷ later) in
    grind (arith, length-append earlier (line ∷ later), apart_after huge round calls run (length earlier), run earlier line later is)

module _ (s : Standing) (line : CallLine) (huge : ℕ) (round : ℕ → ℕ) (earlier : List CallLine) (stand : AreStanding earlier s) (apart : AreApart (blocks_after earlier)) (arena : huge ≤ most_huge_of_nodes) (allowed : IsAllowed huge round earlier line.call line.answer) where
  after : blocks_after (earlier ++ line ∷ []) ≡ blocks_with (blocks_after earlier) line.answer
  after = blocks_after-push earlier line

  counted : {before : ℕ} → before ≤ length earlier → before + 1 ≤ length (earlier ++ line ∷ [])
  counted few = omega (arith, few, length-append earlier (line ∷ []))

  -- what an allocation got is noted
  pub told_block : (addr : Addr) (len : ℕ) (label : Label) (size : ℕ) (s' : Standing) → line.answer ≡ Block addr len → line.call ≡ Malloc label size
      → bytes_of_label s'.lens.items label.0 ≡ option_or (bytes_of_label s.lens.items label.0) (Some len) → ((other : ℕ) → (label.0 ≡ other → ⊥) → bytes_of_label s'.lens.items other ≡ bytes_of_label s.lens.items other)
      → s'.calls ≡ s.calls + 1 → s'.count ≡ s.count + 1 → s'.bytes ≡ s.bytes + len → s'.freed.items ≡ s.freed.items → AreStanding (earlier ++ line ∷ []) s'
  told_block addr len label size s' is asks here others calls count bytes freed =
      let still = still_noted s.lens.items s'.lens.items s.freed.items (λ l noted. grind (arith, nat_tests, here, others)) stand.noted in
      grind (arith, nat_tests, after, len_small, noted_first, answer_same, length-with_item, sum_by-with_item, counted, length-append, still.noted, still.bytes)

  -- another answer notes nothing
  quiet_lens : ((n : Option ℕ) → AreBytesOf (Some line.answer) n) → (label : ℕ) → AreBytesOf (answer_to label (earlier ++ line ∷ [])) (bytes_of_label s.lens.items label)
  quiet_lens quiet label = grind (arith, answer_cases, answer_to-push_new, answer_to-push_old, quiet, stand.lens label)

  module _ (label : Label) (addr : Addr) (is : line.answer ≡ Freed addr) (asks : line.call ≡ Free label) where
    abbrev pub frees : FreesBlock earlier label.0 addr.0
    frees = subst (λ (c : Call). IsAllowed huge round earlier c (Freed addr)) asks (subst (IsAllowed huge round earlier line.call) is allowed)

    one : LeavesOne addr.0 (blocks_after earlier) (record { addr = addr.0; len = frees.len })
    one = leaves_one addr.0 (blocks_after earlier) (record { addr = addr.0; len = frees.len }) (apart.starts addr.0) frees.stands

    -- the block that a free takes away is the one that is noted of its label
    pub freed_noted : bytes_of_label s.lens.items label.0 ≡ Some frees.len
    freed_noted = subst (λ (o : Option Answer). AreBytesOf o (bytes_of_label s.lens.items label.0)) frees.answered (stand.lens label.0)

    pub one_stands : 1 ≤ s.count
    one_stands = omega (arith, stand.count, one.count)

    pub told_freed : (s' : Standing) → s'.calls ≡ s.calls + 1 → s'.lens.items ≡ s.lens.items → s'.count + 1 ≡ s.count → s'.bytes ≡ s.bytes → s'.freed.items ≡ s.freed.items ++ label ∷ []
        → AreStanding (earlier ++ line ∷ []) s'
    told_freed s' calls lens count bytes freed =
        let e : blocks_after (earlier ++ line ∷ []) ≡ without_block addr.0 (blocks_after earlier) = after ∙ ap (blocks_with (blocks_after earlier)) is in
        let IsNoted : Label → Type 0 = λ l. is_some (bytes_of_label s.lens.items l.0) ≡ true in
        let bytes_at : Label → ℕ = λ l. unwrap_or (bytes_of_label s.lens.items l.0) 0 in
        let noted : AreNoted s.lens.items (s.freed.items ++ label ∷ []) =
        All-append IsNoted s.freed.items (label ∷ []) stand.noted (All-cons IsNoted label [] (ap is_some freed_noted) (All-nil IsNoted)) in
        record {
          calls = omega (arith, calls, stand.calls, length-append earlier (line ∷ []));
          lens = λ l. subst (λ ns. AreBytesOf (answer_to l (earlier ++ line ∷ [])) (bytes_of_label ns l)) (sym lens) (quiet_lens (λ n. subst (λ (a : Answer). AreBytesOf (Some a) n) (sym is) tt) l);
          count = omega (arith, count, stand.count, ap length e, one.count);
          noted = rw (lens, freed) noted;
          bytes = rw (lens, freed) (omega (arith, bytes, stand.bytes, ap (sum_by (λ (x : Extent). x.len)) e, one.bytes, sum_by-append bytes_at s.freed.items (label ∷ []), sum_by-cons bytes_at label [], ap (λ o. unwrap_or o 0) freed_noted));
          few = omega (arith, count, counted stand.few);
          small = omega (arith, bytes, stand.small, length-append earlier (line ∷ []));
        }

  pub told_other : IsQuiet line.answer → AreStanding (earlier ++ line ∷ []) (record s { calls = s.calls + 1 })
  told_other quiet = grind (arith, after, quiet_lens, counted, length-append)
