-- The victim found so far, joined with the victim of the classes that are left.
use Rattle.std.proofs.Common.{◌≡◌, ℕ, ◌≢◌, ◌+◌, ◌-◌, ◌*◌, ◌<◌, map, List, length, get_or, drop, Option, Some, arith}
use Rattle.std.proofs.lemmas.Bool.Decides.{nat_tests}
use Rattle.std.proofs.lemmas.List.{at_drop_more, length-map, get_or-map}
use Rattle.cpu_slab.specs.declared.marks.ClassMarks.{ClassMarks}
use Rattle.cpu_slab.specs.declared.marks.Unused.{Unused}
use Rattle.cpu_slab.specs.Growth.{preferred, victim}

pub preferred_assoc : (best : Option Unused) (one : Unused) (later : Option Unused) → preferred (preferred best (Some one)) later ≡ preferred best (preferred (Some one) later)
preferred_assoc best one later = grind (arith)

-- the unused bytes of classes by their marks
abbrev pub bytes_of : List ClassMarks → List ℕ
bytes_of marks = map (λ m. (m.cap - m.top) * m.size) marks

read_bytes : (marks : List ClassMarks) (i : ℕ) (d : ClassMarks) → i < length marks → get_or (bytes_of marks) i 0 ≡ ((get_or marks i d).cap - (get_or marks i d).top) * (get_or marks i d).size
read_bytes marks i d low = get_or-map (λ (m : ClassMarks). (m.cap - m.top) * m.size) marks i d 0 low

low_bytes : (marks : List ClassMarks) (i : ℕ) → i < length marks → i < length (bytes_of marks)
low_bytes marks i low = omega (arith, length-map marks (λ (m : ClassMarks). (m.cap - m.top) * m.size))

-- another class comes into the search
pub victim_more : (best next all : Option Unused) (k i n : ℕ) (marks : List ClassMarks) (d : ClassMarks) → i < length marks → i ≢ k
    → n ≡ ((get_or marks i d).cap - (get_or marks i d).top) * (get_or marks i d).size → next ≡ preferred best (Some (record { class = i; bytes = n })) → preferred best (victim k i (drop i (bytes_of marks))) ≡ all → preferred next (victim k (i + 1) (drop (i + 1) (bytes_of marks))) ≡ all
victim_more best next all k i n marks d low apart bytes is whole =
    grind (arith, at_drop_more (victim k i) (bytes_of marks) i 0 (low_bytes marks i low), low_bytes marks i low, read_bytes marks i d low, preferred_assoc best)

-- class k itself is passed over
pub victim_same : (best next all : Option Unused) (k i : ℕ) (marks : List ClassMarks) → i < length marks → i ≡ k → next ≡ best
    → preferred best (victim k i (drop i (bytes_of marks))) ≡ all → preferred next (victim k (i + 1) (drop (i + 1) (bytes_of marks))) ≡ all
victim_same best next all k i marks low here is whole =
    grind (arith, nat_tests, at_drop_more (victim k i) (bytes_of marks) i 0 (low_bytes marks i low), low_bytes marks i low)
