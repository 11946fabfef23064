-- Lists with a place for each hugepage, h at place h - 1: two are the same where they agree at each number.
use Rattle.std.proofs.Common.{◌≡◌, ◌≢◌, ℕ, ◌+◌, ◌-◌, ◌<◌, ◌≤◌, Bool, true, false, cond, List, length, get_or, set, map, sym, ap, ◌∙◌, arith}
use Rattle.page_heap.proofs.Common.{enumerate_from, false_from_ne_true, same_lists, get_or_default, length-map, get_or-map, get_or-set_same, get_or-set_other}
use Rattle.page_heap.proofs.Common.{length-enumerate_from, get_or-enumerate_from, with_places, get_or-with_places, spans, at_number-place, at_number-next}
use Rattle.page_heap.proofs.Common.{spans_parts, spans_from, nat_tests}
use Rattle.range_bits.proofs.BitFacts.{is_between}
use Rattle.heap_rules.specs.Numbered.{at_number}

-- what stands at a number
abbrev pub numbered : {X : Type 0} → List X → ℕ → X → X
numbered xs h d = at_number d xs h

pub same_numbered : {X : Type 0} (d : X) (xs ys : List X) → length xs ≡ length ys → ((h : ℕ) → 0 < h → h ≤ length xs → numbered xs h d ≡ numbered ys h d) → xs ≡ ys
same_numbered d xs ys len same =
    same_lists xs ys len
    (λ k e l.
    get_or_default xs k e d l ∙ sym (at_number-next d xs k) ∙ same (1 + k) (omega arith) (omega arith) ∙ at_number-next d ys k ∙ get_or_default ys k d e (omega arith))

pub numbered-each : {X Y : Type 0} (f : ℕ → X → Y) (xs : List X) (h : ℕ) (d : X) (e : Y) → 0 < h → h ≤ length xs →
    numbered (map (λ (p : ℕ × X). f p.0 p.1) (enumerate_from 1 xs)) h e ≡ f h (numbered xs h d)
numbered-each {X} f xs h d e some inside =
    let len = length-enumerate_from 1 xs in
    at_number-place e (map (λ (p : ℕ × X). f p.0 p.1) (enumerate_from 1 xs)) h some
    ∙ get_or-map (λ (p : ℕ × X). f p.0 p.1) (enumerate_from 1 xs) (h - 1) (0, d) e (omega arith)
    ∙ ap (λ (p : ℕ × X). f p.0 p.1) (get_or-enumerate_from 1 xs (h - 1) (0, d) (omega arith))
    ∙ ap (λ k. f k (get_or xs (h - 1) d)) (omega arith)
    ∙ ap (f h) (sym (at_number-place d xs h some))

pub length-each : {X Y : Type 0} (f : ℕ → X → Y) (xs : List X) → length (map (λ (p : ℕ × X). f p.0 p.1) (enumerate_from 1 xs)) ≡ length xs
length-each {X} f xs = length-map (enumerate_from 1 xs) (λ (p : ℕ × X). f p.0 p.1) ∙ length-enumerate_from 1 xs

-- with one of them changed
pub one_is : (h r : ℕ) → h ≡ r → spans 1 h r ≡ true
one_is h r e = spans_from 1 h r (omega arith) (omega arith)

pub one_not : (h r : ℕ) → h ≢ r → spans 1 h r ≡ false
one_not h r ne = false_from_ne_true (spans 1 h r) (λ t. let parts = spans_parts 1 h r t in ne (omega arith))

pub numbered-set : {X : Type 0} (xs : List X) (r : ℕ) (x : X) (h : ℕ) (d : X) → 0 < r → r ≤ length xs → 0 < h → numbered (set xs (r - 1) x) h d ≡ cond (spans 1 h r) x (numbered xs h d)
numbered-set xs r x h d from to some = grind (arith, nat_tests, at_number-place, get_or-set_same, one_is, get_or-set_other, one_not)

-- with flags of which n, from a number on, are set
next_between : (r n h : ℕ) → 0 < r → 0 < h → is_between (r - 1) (r - 1 + n) (h - 1) ≡ spans n h r
next_between r n h from some = grind (arith, nat_tests)

pub numbered-with_places : (row : List Bool) (r n : ℕ) (used : Bool) (h : ℕ) (d : Bool) → 0 < r → 0 < h → r - 1 + n ≤ length row →
    numbered (with_places row (r - 1) n used) h d ≡ cond (spans n h r) used (numbered row h d)
numbered-with_places row r n used h d from some inside = grind (arith, nat_tests, at_number-place, get_or-with_places, next_between)
