-- Blocks that calls leave have no byte in common, and their bytes are among those of the live runs.
use Rattle.std.proofs.Common.{◌≡◌, ℕ, zero, suc, ◌+◌, ◌*◌, ◌<◌, ◌≤◌, Bool, false, not, ◌&&◌, eqb, leb}
use Rattle.std.proofs.Common.{ltb, List, [], ◌∷◌, ◌++◌, length, take, drop, refl, sym, ap, ◌∙◌, subst, arith, inl, inr}
use Rattle.std.specs.Prelude.{All, count_by, filter, sum_by}
use Rattle.std.specs.List.{list_any, slice_index_or}
use Rattle.std.proofs.lemmas.Bool.{cases_Bool, cases_lt, and_parts, and_from, le-leb, lt-ltb, leb-true, ltb-true, false≢true}
use Rattle.std.proofs.lemmas.List.{take_more, take_all}
use Rattle.std.proofs.lemmas.List.Elements.{All-head, All-tail, All-nil, All-filter}
use Rattle.std.proofs.lemmas.List.Sums.{sum_by-cons}
use Rattle.std.proofs.Math.Seq.{split_at}
use Rattle.std.proofs.lemmas.Bool.Decides.{nat_tests}
use Rattle.tc_units.specs.Units.{page_bytes}
use Rattle.tc_units.specs.declared.spans.Run.{Run}
use Rattle.tc_units.specs.declared.units.Addr.{Addr}
use Rattle.tc_units.proofs.Counts.{count-cons}
use Rattle.tc_model.specs.declared.calls.Call.{Call}
use Rattle.tc_model.specs.declared.calls.Call.TheVariants.{Malloc}
use Rattle.tc_model.specs.declared.answers.Answer.{Answer}
use Rattle.tc_model.specs.declared.answers.Answer.TheVariants.{Block, Freed}
use Rattle.tc_model.specs.declared.answers.CallLine.{CallLine}
use Rattle.tc_model.specs.Blocks.{Extent, meets, blocks_after, blocks_with, with_block, without_block, live_bytes, IsAllowed, IsFreePlace, IsBlockRun}
use Rattle.tc_units.specs.Classes.{length_of}
use Rattle.tc_units.proofs.SortedFacts.{All-with_item, sum_by-with_item}
use Rattle.holdings.specs.Apart.{AreApart}
use Rattle.holdings.specs.Books.{Setup, Books}
use Rattle.holdings.specs.Facts.{Facts, IsStanding}
use Rattle.holdings.specs.Laws.{BytesWithin}
use Rattle.holdings.specs.Runs.{bit, first_byte, runs_like}
use Rattle.holdings.proofs.CallFacts.{blocks_after-push}
use Rattle.holdings.proofs.MapFacts.{span_of}
use Rattle.holdings.proofs.Sums.{All-weaken, bit_most, same_run_is, sum_of_both}

-- whether a block has a byte, and how many of k bytes from one on it has
abbrev pub has : ℕ → Extent → ℕ
has n b = bit (leb b.addr n && ltb n (b.addr + b.len))

abbrev pub over : ℕ → ℕ → Extent → ℕ
over from zero b = 0
over from (suc k) b = over from k b + has (from + k) b

has_byte : (n : ℕ) (b : Extent) → b.addr ≤ n → n < b.addr + b.len → has n b ≡ 1
has_byte n b low high = ap bit (and_from (leb b.addr n) (ltb n (b.addr + b.len)) (le-leb b.addr n low) (lt-ltb n (b.addr + b.len) high))

bytes_of : (n : ℕ) (b : Extent) → 0 < has n b → (b.addr ≤ n) × (n < b.addr + b.len)
bytes_of n b some = grind (arith, and_parts, cases_Bool, leb, leb-true, ltb, ltb-true)

-- no byte is in two of the blocks, and each block has one
pub record AreSpread (bs : List Extent) : Type 0 where
  pub bytes : (n : ℕ) → sum_by (has n) bs ≤ 1
  pub some : All (λ (b : Extent). 0 < b.len) bs

-- a block that meets none has no byte of theirs
no_byte : (n : ℕ) (b : Extent) (bs : List Extent) → 0 < has n b → list_any (meets b) bs ≡ false → sum_by (has n) bs ≡ 0
no_byte n b [] own apart = refl
no_byte n b (x ∷ xs) own apart = grind (arith, nat_tests, no_byte n b xs own, false≢true, bytes_of, sum_by-cons)

sum_filter : (f : Extent → ℕ) (p : Extent → Bool) (xs : List Extent) → sum_by f (filter p xs) ≤ sum_by f xs
sum_filter f p [] = omega arith
sum_filter f p (x ∷ xs) = grind (arith, sum_by-cons, (sum_filter f p xs))

-- one block more, at a free place, and one less
with_one : (huge : ℕ) (bs : List Extent) (b : Extent) → AreSpread bs → IsFreePlace huge bs b → AreSpread (with_block b bs)
with_one huge bs b are place =
    record {
      bytes = λ n. elim (cases_lt 0 (has n b)) [
        | inl own ↦ omega (arith, sum_by-with_item (λ (x : Extent). x.addr) (has n) b bs, no_byte n b bs own place.apart, bit_most (leb b.addr n && ltb n (b.addr + b.len)))
        | inr none ↦ omega (arith, none, sum_by-with_item (λ (x : Extent). x.addr) (has n) b bs, are.bytes n)
      ];
      some = All-with_item (λ (b : Extent). b.addr) (λ (x : Extent). 0 < x.len) b bs place.inside.some are.some;
    }

without_one : (bs : List Extent) (addr : ℕ) → AreSpread bs → AreSpread (without_block addr bs)
without_one bs addr are = grind (arith, are.bytes, sum_filter, All-filter (λ (x : Extent). not (eqb x.addr addr)) (λ (x : Extent). 0 < x.len) bs are.some)

-- an allowed answer keeps them so
pub place_of : (huge : ℕ) (round : ℕ → ℕ) (earlier : List CallLine) (call : Call) (addr : Addr) (len : ℕ)
    → IsAllowed huge round earlier call (Block addr len) → IsFreePlace huge (blocks_after earlier) (record { addr = addr.0; len = len })
place_of huge round earlier (Malloc label size) addr len allowed = allowed.1
place_of huge round earlier call addr len allowed = absurd allowed

spread_with : (huge : ℕ) (round : ℕ → ℕ) (earlier : List CallLine) (call : Call) (answer : Answer)
    → AreSpread (blocks_after earlier) → IsAllowed huge round earlier call answer → AreSpread (blocks_with (blocks_after earlier) answer)
spread_with huge round earlier call (Block addr len) are allowed = with_one huge (blocks_after earlier) (record { addr = addr.0; len = len }) are (place_of huge round earlier call addr len allowed)
spread_with huge round earlier call (Freed addr) are allowed = without_one (blocks_after earlier) addr.0 are
spread_with huge round earlier call answer are allowed = are

-- after the first n calls of a run on disjoint blocks
spread_after : (huge : ℕ) (round : ℕ → ℕ) (calls : List CallLine) → IsBlockRun huge round calls → (n : ℕ) → n ≤ length calls → AreSpread (blocks_after (take n calls))
spread_after huge round calls run zero within = record { bytes = λ n. omega arith; some = All-nil (λ (x : Extent). 0 < x.len) }
spread_after huge round [] run (suc n) within = absurd (omega (arith, within))
spread_after huge round (c ∷ cs) run (suc n) within =
    let calls : List CallLine = c ∷ cs in
    let below : n < length calls = omega (arith, within) in
    let before = spread_after huge round calls run n (omega (arith, within)) in
    let next : CallLine = slice_index_or calls n c in
    let more : take (suc n) calls ≡ take n calls ++ next ∷ [] = (let e : suc n ≡ n + 1 = omega arith in ap (λ k. take k calls) e) ∙ take_more calls n c below in
    subst (λ (ds : List CallLine). AreSpread (blocks_after ds)) (sym more) (rw (blocks_after-push (take n calls) next)
    (spread_with huge round (take n calls) next.call next.answer before (run (take n calls) next (drop (suc n) calls) (sym (split_at calls n c below)))))

-- so they begin at different addresses
starts_once : (a : ℕ) (bs : List Extent) → All (λ (b : Extent). 0 < b.len) bs → count_by (λ (b : Extent). eqb b.addr a) bs ≤ sum_by (has a) bs
starts_once a [] some = omega arith
starts_once a (b ∷ bs) some =
    let own : 0 < b.len = All-head (λ (x : Extent). 0 < x.len) b bs some in
    let rest = starts_once a bs (All-tail (λ (x : Extent). 0 < x.len) b bs some) in
    grind (arith, nat_tests, sum_by-cons (has a) b bs, count-cons (λ (x : Extent). eqb x.addr a) b bs, has_byte a b)

pub apart_after : (huge : ℕ) (round : ℕ → ℕ) (calls : List CallLine) → IsBlockRun huge round calls → (n : ℕ) → n ≤ length calls → AreApart (blocks_after (take n calls))
apart_after huge round calls run n within =
    let s = spread_after huge round calls run n within in
    record { starts = λ a. omega (arith, s.bytes a, starts_once a (blocks_after (take n calls)) s.some); some = s.some }

-- a block that meets none begins where none does
pub none_begins : (b : Extent) (bs : List Extent) → 0 < b.len → All (λ (x : Extent). 0 < x.len) bs → list_any (meets b) bs ≡ false → count_by (λ (x : Extent). eqb x.addr b.addr) bs ≡ 0
none_begins b bs some each apart = omega (arith, starts_once b.addr bs each, no_byte b.addr b bs (let h = has_byte b.addr b (omega arith) (omega (arith, some)) in omega (arith, h)) apart)

-- A block of which some bytes lie among others has as many of them; blocks have at most the bytes that there are.
all_over : (from : ℕ) (b : Extent) (k n : ℕ) → from ≤ b.addr → n ≤ b.len → b.addr + n ≤ from + k → n ≤ over from k b
all_over from b zero n low few within = omega (arith, low, within)
all_over from b (suc k) zero low few within = omega arith
all_over from b (suc k) (suc n) low few within = grind (arith, cases_lt, has_byte, (all_over from b k (suc n) low few), (all_over from b k n low))

none_over : (bs : List Extent) (from : ℕ) → sum_by (over from zero) bs ≡ 0
none_over [] from = refl
none_over (b ∷ bs) from = omega (arith, none_over bs from, sum_by-cons (over from zero) b bs)

few_over : (bs : List Extent) → ((n : ℕ) → sum_by (has n) bs ≤ 1) → (from k : ℕ) → sum_by (over from k) bs ≤ k
few_over bs once from zero = omega (arith, none_over bs from)
few_over bs once from (suc k) = grind (arith, few_over bs once from k, sum_of_both (over from k) (has (from + k)) bs, once (from + k))

-- a block's bytes in runs, and all blocks' bytes in them
abbrev pub in_runs : List Run → Extent → ℕ
in_runs [] b = 0
in_runs (r ∷ rs) b = over (first_byte r) (r.pages * page_bytes) b + in_runs rs b

none_in : (bs : List Extent) → sum_by (in_runs []) bs ≡ 0
none_in [] = refl
none_in (b ∷ bs) = omega (arith, none_in bs, sum_by-cons (in_runs []) b bs)

few_in : (bs : List Extent) → ((n : ℕ) → sum_by (has n) bs ≤ 1) → (runs : List Run) → sum_by (in_runs runs) bs ≤ sum_by (λ (r : Run). r.pages) runs * page_bytes
few_in bs once [] = omega (arith, none_in bs)
few_in bs once (r ∷ rs) =
    let both : sum_by (in_runs (r ∷ rs)) bs ≡ sum_by (over (first_byte r) (r.pages * page_bytes)) bs + sum_by (in_runs rs) bs =
    sum_of_both (over (first_byte r) (r.pages * page_bytes)) (in_runs rs) bs in
    omega (arith, both, few_over bs once (first_byte r) (r.pages * page_bytes), few_in bs once rs, sum_by-cons (λ (x : Run). x.pages) r rs)

in_one : (b : Extent) (r : Run) (runs : List Run) → 0 < runs_like r runs → over (first_byte r) (r.pages * page_bytes) b ≤ in_runs runs b
in_one b r [] there = absurd (omega (arith, there))
in_one b r (x ∷ xs) there = grind (arith, cases_Bool, same_run_is, (in_one b r xs))

-- a block that lies in a live run
lies : (b : Extent) (r : Run) (runs : List Run) → 0 < runs_like r runs → first_byte r ≤ b.addr → b.addr + b.len ≤ first_byte r + r.pages * page_bytes → b.len ≤ in_runs runs b
lies b r runs there low high = omega (arith, all_over (first_byte r) b (r.pages * page_bytes) b.len low (omega arith) high, in_one b r runs there)

sum_all : (f : Extent → ℕ) (bs : List Extent) → All (λ (b : Extent). b.len ≤ f b) bs → sum_by (λ (b : Extent). b.len) bs ≤ sum_by f bs
sum_all f [] each = omega arith
sum_all f (b ∷ bs) each =
    let rest = sum_all f bs (All-tail (λ (x : Extent). x.len ≤ f x) b bs each) in
    omega (arith, All-head (λ (x : Extent). x.len ≤ f x) b bs each, rest, sum_by-cons (λ (x : Extent). x.len) b bs, sum_by-cons f b bs)

module _ (m : Setup) (b : Books) (calls : List CallLine) (f : Facts m b calls) where
  standing_lies : (x : Extent) → IsStanding m.rows b x → x.len ≤ in_runs b.heap x
  standing_lies x stands = grind (arith, lies x, span_of m b calls f)

  pub bytes_in : live_bytes calls ≤ sum_by (λ (r : Run). r.pages) b.heap * page_bytes
  bytes_in =
      let spread = rw (take_all (length calls) calls (omega arith)) at (spread_after m.huge (length_of m.rows) calls f.kept.run (length calls) (omega arith)) in
      let each = All-weaken (IsStanding m.rows b) (λ (x : Extent). x.len ≤ in_runs b.heap x) (blocks_after calls) standing_lies f.live in
      omega (arith, sum_all (in_runs b.heap) (blocks_after calls) each, few_in (blocks_after calls) spread.bytes b.heap)

pub bytes_are_within : BytesWithin
bytes_are_within m b calls f = bytes_in m b calls f
