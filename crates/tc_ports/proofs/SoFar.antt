-- What a run of reads has taken from a source so far.
use Rattle.std.proofs.Common.{◌≡◌, ℕ, ◌+◌, ◌-◌, ◌≤◌, ◌↔◌, List, [], ◌++◌, length, take, drop, None, Some, IfSome, IsNone, refl, sym, ap, ◌∙◌, subst, arith}
use Rattle.std.specs.Prelude.{Option}
use Rattle.std.proofs.lemmas.Grind.{common_steps}
use Rattle.std.proofs.lemmas.List.{length-take-le, length-append, length-drop, drop-drop, take-append-drop, drop-take, take_all}
use Rattle.tc_ports.specs.Told.{Gave, LostAtMost}
use Rattle.tc_ports.specs.Whole.{PassedLimit}

-- these are the first of the bytes that were left, and the rest is left now
abbrev pub Reads : Option (List ℕ) → Option (List ℕ) → List ℕ → Type 0
Reads None now all = now ≡ None
Reads (Some bytes) now all =
    (length all ≤ length bytes) × (all ≡ take (length all) bytes) × (now ≡ Some (drop (length all) bytes))

pub record SoFar (old now : Option (List ℕ)) (all : List ℕ) : Type 0 where
  pub reads : Reads old now all

-- the front of a longer front
take_less : (k n : ℕ) (xs : List ℕ) → take k (take (k + n) xs) ≡ take k xs
take_less k n xs = grind (arith, common_steps)

-- the next bytes after a front make a longer front
pub take_on : (k n : ℕ) (bytes : List ℕ) → take k bytes ++ take n (drop k bytes) ≡ take (k + n) bytes
take_on k n bytes =
    ap (λ xs. take k bytes ++ xs) (sym (drop-take k n bytes))
    ∙ ap (λ xs. xs ++ drop k (take (k + n) bytes)) (sym (take_less k n bytes))
    ∙ take-append-drop k (take (k + n) bytes)

pub so_far-none : (old : Option (List ℕ)) → SoFar old old []
so_far-none None = record { reads = refl }
so_far-none (Some bytes) = record { reads = (omega arith, refl, refl) }

pub so_far-more : (a b c : Option (List ℕ)) (all buffer : List ℕ) (n : ℕ) → n ≤ length buffer
    → SoFar a b all → Gave b c n buffer → SoFar a c (all ++ take n buffer)
so_far-more None b c all buffer n fits so gave =
    record { reads = let P = λ (o : Option (List ℕ)). Gave o c n buffer in subst P so.reads gave }
so_far-more (Some bytes) b c all buffer n fits so gave =
    let P : Option (List ℕ) → Type 0 = λ o. Gave o c n buffer in
    let next : P (Some (drop (length all) bytes)) = subst P so.reads.2 gave in
    let long : length (all ++ take n buffer) ≡ length all + n =
    length-append all (take n buffer) ∙ ap (λ x. length all + x) (length-take-le n buffer fits) in
    let within : n ≤ length bytes - length all = rw (← length-drop (length all) bytes) next.0 in
    let front : length all ≤ length bytes = so.reads.0 in
    let same : all ≡ take (length all) bytes = so.reads.1 in
    let given : take n buffer ≡ take n (drop (length all) bytes) = next.1 in
    let joined : all ++ take n buffer ≡ take (length all + n) bytes = cc (take_on (length all) n bytes) in
    record { reads = rw long (omega arith, joined, next.2 ∙ ap Some (drop-drop n (length all) bytes)) }

pub so_far-all : (a b : Option (List ℕ)) (all : List ℕ)
    → SoFar a b all → IfSome b (λ bytes. bytes ≡ []) → IfSome a (λ bytes. all ≡ bytes)
so_far-all None b all so end = tt
so_far-all (Some bytes) b all so end =
    let P : Option (List ℕ) → Type 0 = λ o. IfSome o (λ xs. xs ≡ []) in
    let none : drop (length all) bytes ≡ [] = subst P so.reads.2 end in
    let over : length bytes ≤ length all = omega (arith, ap length none, length-drop (length all) bytes) in
    so.reads.1 ∙ take_all (length all) bytes over

pub gave-end : (b c : Option (List ℕ)) (buffer : List ℕ)
    → Gave b c 0 buffer → IfSome b (λ bytes. bytes ≡ []) → IfSome c (λ bytes. bytes ≡ [])
gave-end None c buffer gave end = let P = λ (o : Option (List ℕ)). IfSome o (λ bytes. bytes ≡ []) in subst P (sym gave) tt
gave-end (Some bytes) c buffer gave end = let P = λ (o : Option (List ℕ)). IfSome o (λ xs. xs ≡ []) in subst P (sym gave.2) end

pub so_far-lost : (a b : Option (List ℕ)) (all : List ℕ) (most : ℕ)
    → length all ≤ most → SoFar a b all → LostAtMost a b most
so_far-lost None b all most fits so = so.reads
so_far-lost (Some bytes) b all most fits so = (length all, fits, so.reads.2)

pub so_far-passed : (a b : Option (List ℕ)) (all : List ℕ) (limit : ℕ)
    → length all ≡ limit + 1 → SoFar a b all → PassedLimit a b limit
so_far-passed None b all limit over so = so.reads
so_far-passed (Some bytes) b all limit over so =
    (let within : length all ≤ length bytes = so.reads.0 in omega arith, rw (← over) so.reads.2)

pub so_far-tells : (a b : Option (List ℕ)) (all : List ℕ) → SoFar a b all → IsNone b ↔ IsNone a
so_far-tells None b all so =
    let none : Option (List ℕ) = None in
    let P : Option (List ℕ) → Type 0 = λ o. IsNone o ↔ IsNone none in
    subst P (sym so.reads) (λ h. h, λ h. h)
so_far-tells (Some bytes) b all so =
    let P : Option (List ℕ) → Type 0 = λ o. IsNone o ↔ IsNone (Some bytes) in
    subst P (sym so.reads.2) (λ h. h, λ h. h)
