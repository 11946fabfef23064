-- The calls that are told of a thread are the first ones of its script.
use Rattle.std.proofs.Common.{◌≡◌, ℕ, zero, suc, ◌≤◌, List, [], ◌∷◌, length, map, take, Some, None, refl, ap, arith, slice_get}
use Rattle.alloc_rules.proofs.Common.{eq-eqb, ne_eqb, length-map, take_all, CallLine, Call, Planned, Said, lines, Decided, told, Local, call_at, lines_by}

pub own_lines : (t : ℕ) (said : List Said) → lines_by t (lines t said) ≡ lines t said
own_lines t [] = refl
own_lines t (s ∷ more) = rw (eq-eqb t t refl) (ap (λ (xs : List CallLine). record { thread = record { 0 = t }; call = s.call; answer = s.answer } ∷ xs) (own_lines t more))

pub others_lines : (t u : ℕ) (said : List Said) → (t ≡ u → ⊥) → lines_by u (lines t said) ≡ []
others_lines t u [] apart = refl
others_lines t u (s ∷ more) apart = rw (ne_eqb t u apart) (others_lines t u more apart)

-- behind the last call of a script there is none
at_end : (script : List Planned) (n : ℕ) → call_at script n ≡ None → length script ≤ n
at_end [] n none = omega arith
at_end (p ∷ ps) zero none = absurd (cc)
at_end (p ∷ ps) (suc n) none = omega (arith, at_end ps n none)

pub takes_all : (script : List Planned) (n m : ℕ) → call_at script n ≡ None → n ≤ m → take m (map (λ (p : Planned). p.call) script) ≡ map (λ (p : Planned). p.call) script
takes_all script n m none past = grind (arith, at_end, length-map, take_all)

-- the calls that are told are those that were decided
told_calls : (t : ℕ) (ds : List Decided) → map (λ (c : CallLine). c.call) (map (told t) ds) ≡ map (λ (d : Decided). d.call) ds
told_calls t [] = refl
told_calls t (d ∷ ds) = ap (λ (cs : List Call). d.call ∷ cs) (told_calls t ds)

-- which are the first ones of a script
-- decided calls are those of a script, place by place
abbrev AreOf : List Planned → List Decided → Type 0
AreOf script ds = (j : ℕ) (d : Decided) → slice_get ds j ≡ Some d → call_at script j ≡ Some d.call

first_calls : (script : List Planned) (ds : List Decided) → AreOf script ds → map (λ (d : Decided). d.call) ds ≡ take (length ds) (map (λ (p : Planned). p.call) script)
first_calls script [] each = refl
first_calls [] (d ∷ ds) each = let e = each 0 d refl in absurd (cc)
first_calls (p ∷ ps) (d ∷ ds) each = grind (arith, first_calls ps ds (λ j x is. each (suc j) x is), each 0 d refl)

pub tells_first : {V R : Type 0} (script : List Planned) (t : ℕ) (l : Local V R) (told_lines : List CallLine) (n : ℕ) → told_lines ≡ map (told t) l.answers
    → AreOf script l.answers → length l.answers ≡ n
    → map (λ (c : CallLine). c.call) told_lines ≡ take n (map (λ (p : Planned). p.call) script)
tells_first script t l told_lines n is each count = grind (arith, first_calls, told_calls)
