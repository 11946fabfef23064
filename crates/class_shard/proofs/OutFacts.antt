-- The objects that are out of a shard, where some come from it or go back to it.
use Rattle.std.proofs.Common.{◌≡◌, ◌≢◌, ℕ, ◌+◌, ◌-◌, List, ◌++◌, length, get_or, take, drop, reverse, sym, ◌∙◌, ap, subst, arith}
use Rattle.std.specs.Prelude.{All}
use Rattle.std.proofs.lemmas.List.{append_assoc, length-append, length-reverse, get_or-reverse, get_or_append_left, get_or-append-add, take-append-drop}
use Rattle.std.proofs.lemmas.List.Elements.{All-append}
use Rattle.tc_units.specs.declared.units.Addr.{Addr}
use Rattle.span_list.specs.Span.{SpanState}
use Rattle.tc_units.specs.declared.units.Class.{Class}
use Rattle.central_free.specs.Central.{Central, taken, IsTakenIn, AreDifferent}
use Rattle.class_shard.specs.Shard.{Shard, is_idle, fetched, IsOut}
use Rattle.std.proofs.lemmas.Bool.{cond-true, cond-false, eq-eqb, ne_eqb}
use Rattle.central_free.proofs.Differ.{AreApart, AreDifferent-append, IsTwoParts, two_parts}
use Rattle.transfer_cache.specs.Transfer.{Transfer, last_first, without_last}

-- a fact of each of two lists, for each of them
All-first : (P : Addr → Type 0) (xs ys : List Addr) → All P (xs ++ ys) → All P xs
All-first P xs ys all = λ i d less. subst P (get_or_append_left xs ys d i less) (all i d (omega (arith, length-append xs ys)))

All-second : (P : Addr → Type 0) (xs ys : List Addr) → All P (xs ++ ys) → All P ys
All-second P xs ys all = λ i d less. subst P (get_or-append-add xs ys i d) (all (length xs + i) d (omega (arith, length-append xs ys)))

-- a fact of each, in the list turned round
pub All-reverse : (P : Addr → Type 0) (xs : List Addr) → All P xs → All P (reverse xs)
All-reverse P xs all = grind (arith, length-reverse, get_or-reverse)

AreDifferent-reverse : (xs : List Addr) → AreDifferent xs → AreDifferent (reverse xs)
AreDifferent-reverse xs all = grind (arith, length-reverse, get_or-reverse)

-- apart the other way round
AreApart-sym : (xs ys : List Addr) → AreApart xs ys → AreApart ys xs
AreApart-sym xs ys apart = λ j e less_j i d less_i same. apart i d less_i j e less_j (sym same)

-- different taken objects of some spans
pub record AreOut (spans : List SpanState) (objects : List Addr) : Type 0 where
  pub taken : All (IsTakenIn spans) objects
  pub different : AreDifferent objects

-- new ones between two parts
pub AreOut-more : (spans now : List SpanState) (cached new others : List Addr) → AreOut spans (cached ++ others)
    → All (IsTakenIn now) new → All (λ a. IsTakenIn spans a → ⊥) new → AreDifferent new
    → ((a : Addr) → IsTakenIn spans a → IsTakenIn now a) → AreOut now (cached ++ (new ++ others))
AreOut-more spans now cached new others out given fresh different kept =
    let parts : IsTwoParts cached others = two_parts cached others out.different in
    let first : All (IsTakenIn spans) cached = All-first (IsTakenIn spans) cached others out.taken in
    let second : All (IsTakenIn spans) others = All-second (IsTakenIn spans) cached others out.taken in
    let apart : (xs : List Addr) → All (IsTakenIn spans) xs → AreApart new xs = λ xs all i d less j e within same. fresh i d less (subst (IsTakenIn spans) (sym same) (all j e within)) in
    let still = All-append (IsTakenIn now) new others given (λ i d less. kept (get_or others i d) (second i d less)) in
    let rest = AreDifferent-append new others different parts.second (apart others second) in
    let outer : AreApart cached (new ++ others) = λ i d less. All-append (λ y. get_or cached i d ≢ y) new others (AreApart-sym new cached (apart cached first) i d less) (parts.apart i d less) in
    record {
      taken = All-append (IsTakenIn now) cached (new ++ others) (λ i d less. kept (get_or cached i d) (first i d less)) still;
      different = AreDifferent-append cached (new ++ others) parts.first rest outer;
    }

-- the last ones of the cache
pub AreOut-cached : (spans : List SpanState) (n : ℕ) (cached others : List Addr) → AreOut spans (cached ++ others) → AreOut spans (without_last n cached ++ (last_first n cached ++ others))
AreOut-cached spans n cached others out =
    let m = length cached - n in
    let kept = take m cached in
    let gone = drop m cached in
    let split : kept ++ (gone ++ others) ≡ cached ++ others = sym (append_assoc kept gone others) ∙ ap (λ xs. xs ++ others) (take-append-drop m cached) in
    let all : All (IsTakenIn spans) (kept ++ (gone ++ others)) = subst (All (IsTakenIn spans)) (sym split) out.taken in
    let rest : All (IsTakenIn spans) (gone ++ others) = All-second (IsTakenIn spans) kept (gone ++ others) all in
    let outer : IsTwoParts kept (gone ++ others) = two_parts kept (gone ++ others) (subst AreDifferent (sym split) out.different) in
    let inner : IsTwoParts gone others = two_parts gone others outer.second in
    let turned : AreApart (reverse gone) others = All-reverse (λ x. All (λ y. x ≢ y) others) gone inner.apart in
    let turn : (P : Addr → Type 0) → All P (gone ++ others) → All P (reverse gone ++ others) =
    λ P each. All-append P (reverse gone) others (All-reverse P gone (All-first P gone others each)) (All-second P gone others each) in
    let behind = AreDifferent-append (reverse gone) others (AreDifferent-reverse gone inner.first) inner.second turned in
    record {
      taken = All-append (IsTakenIn spans) kept (reverse gone ++ others) (All-first (IsTakenIn spans) kept (gone ++ others) all) (turn (IsTakenIn spans) rest);
      different = AreDifferent-append kept (reverse gone ++ others) outer.first behind (λ i d less. turn (λ y. get_or kept i d ≢ y) (outer.apart i d less));
    }

-- a list goes back to the spans
pub AreOut-back : (spans now : List SpanState) (cached list others : List Addr) → AreOut spans (cached ++ (list ++ others))
    → ((a : Addr) → IsTakenIn spans a → All (λ b. a ≢ b) list → IsTakenIn now a) → AreOut now (cached ++ others)
AreOut-back spans now cached list others out kept =
    let outer : IsTwoParts cached (list ++ others) = two_parts cached (list ++ others) out.different in
    let inner : IsTwoParts list others = two_parts list others outer.second in
    let first : All (IsTakenIn spans) cached = All-first (IsTakenIn spans) cached (list ++ others) out.taken in
    let second : All (IsTakenIn spans) others = All-second (IsTakenIn spans) list others (All-second (IsTakenIn spans) cached (list ++ others) out.taken) in
    let still : All (IsTakenIn now) cached = λ i d less. kept (get_or cached i d) (first i d less) (All-first (λ y. get_or cached i d ≢ y) list others (outer.apart i d less)) in
    record {
      taken = All-append (IsTakenIn now) cached others still (λ i d less. kept (get_or others i d) (second i d less) (AreApart-sym list others inner.apart i d less));
      different = AreDifferent-append cached others outer.first inner.second (λ i d less. All-second (λ y. get_or cached i d ≢ y) list others (outer.apart i d less));
    }

-- or to the cache
pub AreOut-put : (spans : List SpanState) (cached list others : List Addr) → AreOut spans (cached ++ (list ++ others)) → AreOut spans ((cached ++ list) ++ others)
AreOut-put spans cached list others out =
    subst (AreOut spans) (sym (append_assoc cached list others)) out

abbrev shard_of : Class → Transfer → Central → Shard
shard_of class transfer central = record { class = class; transfer = transfer; central = central }

out_of : (s : Shard) (objects : List Addr) → AreOut s.central.spans (s.transfer.objects ++ objects) → IsOut s objects
out_of s objects out = record { taken = out.taken; different = out.different }

are_out : {s : Shard} {objects : List Addr} → IsOut s objects → AreOut s.central.spans (s.transfer.objects ++ objects)
are_out out = record { taken = out.taken; different = out.different }

-- a new span, or other objects that come from the spans
pub IsOut-added : (s : Shard) (now : Central) (new others : List Addr) → All (IsTakenIn now.spans) new → All (λ a. IsTakenIn s.central.spans a → ⊥) new → AreDifferent new
    → ((a : Addr) → IsTakenIn s.central.spans a → IsTakenIn now.spans a) → IsOut s others → IsOut (record { class = s.class; transfer = s.transfer; central = now }) (new ++ others)
IsOut-added s now new others given fresh different kept out =
    out_of (shard_of s.class s.transfer now) (new ++ others) (AreOut-more s.central.spans now.spans s.transfer.objects new others (are_out out) given fresh different kept)

-- a fetch from the spans
pub IsOut-spans : (s : Shard) (now : Central) (n : ℕ) (others : List Addr) → length s.transfer.objects ≡ 0 → All (IsTakenIn now.spans) (taken n s.central.spans).objects
    → All (λ a. IsTakenIn s.central.spans a → ⊥) (taken n s.central.spans).objects
    → AreDifferent (taken n s.central.spans).objects → ((a : Addr) → IsTakenIn s.central.spans a → IsTakenIn now.spans a)
    → IsOut s others → IsOut (record { class = s.class; transfer = s.transfer; central = now }) (fetched n s ++ others)
IsOut-spans s now n others idle given fresh different kept out =
    let new = (taken n s.central.spans).objects in
    let is : fetched n s ≡ new = cond-true (is_idle s) new (last_first n s.transfer.objects) (eq-eqb (length s.transfer.objects) 0 idle) in
    subst (λ (xs : List Addr). IsOut (shard_of s.class s.transfer now) (xs ++ others)) (sym is) (IsOut-added s now new others given fresh different kept out)

-- and one from the transfer cache
pub IsOut-cached : (s : Shard) (now : Transfer) (n : ℕ) (others : List Addr) → (length s.transfer.objects ≡ 0 → ⊥) → now.objects ≡ without_last n s.transfer.objects
    → IsOut s others → IsOut (record { class = s.class; transfer = now; central = s.central }) (fetched n s ++ others)
IsOut-cached s now n others some left out =
    let new = last_first n s.transfer.objects in
    let is : fetched n s ≡ new = cond-false (is_idle s) (taken n s.central.spans).objects new (ne_eqb (length s.transfer.objects) 0 some) in
    let moved : AreOut s.central.spans (now.objects ++ (new ++ others)) = rw left (AreOut-cached s.central.spans n s.transfer.objects others (are_out out)) in
    subst (λ (xs : List Addr). IsOut (shard_of s.class now s.central) (xs ++ others)) (sym is) (out_of (shard_of s.class now s.central) (new ++ others) moved)

-- a list that goes back to the spans, and one that goes to the transfer cache
pub IsOut-back : (s : Shard) (now : Central) (transfer : Transfer) (list others : List Addr) → transfer.objects ≡ s.transfer.objects
    → ((a : Addr) → IsTakenIn s.central.spans a → All (λ b. a ≢ b) list → IsTakenIn now.spans a)
    → IsOut s (list ++ others) → IsOut (record { class = s.class; transfer = transfer; central = now }) others
IsOut-back s now transfer list others same kept out =
    out_of (shard_of s.class transfer now) others (rw same (AreOut-back s.central.spans now.spans s.transfer.objects list others (are_out out) kept))

pub IsOut-put : (s : Shard) (transfer : Transfer) (list others : List Addr) → transfer.objects ≡ s.transfer.objects ++ list
    → IsOut s (list ++ others) → IsOut (record { class = s.class; transfer = transfer; central = s.central }) others
IsOut-put s transfer list others is out =
    out_of (shard_of s.class transfer s.central) others (rw is (AreOut-put s.central.spans s.transfer.objects list others (are_out out)))
