-- What is told along an order, one pick further.
use Rattle.std.proofs.Common.{◌≡◌, ℕ, ◌<◌, List, [], ◌∷◌, ◌++◌, length, map, replicate, get_or, Option, None, Some, inl, inr, ap, sym, subst, ◌∙◌, arith}
use Rattle.std.specs.Prelude.{IfSome, option_map}
use Rattle.std.specs.List.{slice_get, slice_set}
use Rattle.std.proofs.lemmas.List.{length-append}
use Rattle.std.proofs.lemmas.Option.{get_or_from_slice_get, slice_get-map}
use Rattle.tc_model.specs.declared.answers.CallLine.{CallLine}
use Rattle.tc_model.specs.declared.steps.StepFault.{StepFault}
use Rattle.tc_model.specs.declared.steps.StepFault.TheVariants.{Full, Memory}
use Rattle.tc_model.specs.Run.{Rules, run}
use Rattle.tc_model.specs.Serial.{IsCutShort}
use Rattle.tc_model.specs.Sound.{IsOrder}
use Rattle.tc_model.proofs.Lists.{set_here}
use Rattle.alloc_rules.proofs.Sets.{map_set}
use Rattle.alloc_rules.specs.Decided.{DecidesNone, DecidesOne, IsToldNext}
use Rattle.tc_machine.specs.Along.{IsAlong, IsStopped}
use Rattle.tc_machine.specs.Telling.{HearsEach}

-- a run that was cut short was not told
pub stopped_by : {P L : Type 0} (r : Rules P L) (limit : ℕ) (whole order : List ℕ) (fault : StepFault) → IsCutShort r limit whole order fault → IsStopped r limit whole order fault
stopped_by r limit whole order (Full ticket) cut = cut
stopped_by r limit whole order Memory cut = tt

-- before the first pick
pub along_first : {P L X : Type 0} {heard : X → X → List CallLine → Type 0} {may_hear : X → List CallLine → CallLine → Type 0} {count : L → ℕ}
    {calls : List ℕ → List CallLine} {r : Rules P L} {order : List ℕ} {first : X} {decided : List ℕ} → order ≡ [] → decided ≡ replicate (length (run r order).locals) 0
    → map count r.locals ≡ replicate (length r.locals) 0 → calls [] ≡ [] → ((o : List ℕ) → IsOrder r o → HearsEach (may_hear first) (calls o)) → heard first first []
    → IsAlong heard may_hear count calls r order first decided (Some first)
along_first {heard} {calls} {r} {first} order_is decided_is none none_told hears before =
    rw order_is (record {
      decided_is = rw order_is at decided_is ∙ sym none;
      few = omega (arith, ap length none_told);
      hears = hears;
      so_far = subst (heard first first) (sym none_told) before;
    })

module _ {P L X : Type 0} {heard : X → X → List CallLine → Type 0} {may_hear : X → List CallLine → CallLine → Type 0} {count : L → ℕ} {last : L → Option CallLine}
    {calls : List ℕ → List CallLine} {r : Rules P L} {order : List ℕ} {first : X} {decided : List ℕ} {now : Option X} {t : ℕ} {l : L}
    (are : IsAlong heard may_hear count calls r order first decided now) (of : IsOrder r (order ++ t ∷ [])) (next : IsToldNext count last calls r order t)
    (mine : slice_get (run r (order ++ t ∷ [])).locals t ≡ Some l) where
  after_is : next.after ≡ l
  after_is = let e : Some next.after ≡ Some l = sym (set_here (run r order).locals t next.after next.before next.was) ∙ (ap (λ ls. slice_get ls t) (sym next.is) ∙ mine) in cc

  -- how many calls the thread had decided
  had : {n : ℕ} → n ≡ get_or decided t n → n ≡ count next.before
  had {n} read =
      let ls = (run r order).locals in
      let there : slice_get (map count ls) t ≡ Some (count next.before) = slice_get-map count ls t ∙ ap (option_map count) next.was in
      read ∙ (ap (λ ds. get_or ds t n) are.decided_is ∙ get_or_from_slice_get (map count ls) t (count next.before) n there)

  sets : {n : ℕ} → n ≡ count l → slice_set decided t n ≡ map count (run r (order ++ t ∷ [])).locals
  sets {n} is = ap (λ ds. slice_set ds t n) are.decided_is ∙ (ap (slice_set (map count (run r order).locals) t) (is ∙ ap count (sym after_is))
      ∙ (map_set count (run r order).locals t next.after ∙ ap (map count) (sym next.is)))

  module _ {n d : ℕ} (read : n ≡ get_or decided t n) (is : d ≡ count l) where
    -- a thread that has decided more calls decided one
    decides : (d ≡ n → ⊥) → DecidesOne count last calls order t next.before next.after
    decides more = elim next.decides [ inl none ↦ absurd (more (is ∙ (ap count (sym after_is) ∙ (none.0 ∙ sym (had read))))) | inr one ↦ one ]

    module _ (more : d ≡ n → ⊥) where
      one : DecidesOne count last calls order t next.before next.after
      one = decides more

      pub some_decided : 0 < count l
      some_decided = let e = ap count (sym after_is) ∙ one.count_is in omega (arith, e)

      module _ {line : CallLine} (told : Some line ≡ last l) where
        line_is : one.line ≡ line
        line_is = let e : Some one.line ≡ Some line = sym one.last_is ∙ (ap last after_is ∙ sym told) in cc

        grown : calls (order ++ t ∷ []) ≡ calls order ++ line ∷ []
        grown = one.told ∙ ap (λ c. calls order ++ c ∷ []) line_is

        may : may_hear first (calls order) line
        may = are.hears (order ++ t ∷ []) of (calls order) line [] (sym grown) (let n = length-append order (t ∷ []) in omega (arith, are.few, of.few, n))

        pub heard_here : (o : Option X) → IfSome o (λ x. heard first x (calls order)) → IfSome o (λ x. heard first x (calls order) × may_hear first (calls order) line)
        heard_here None so_far = tt
        heard_here (Some x) so_far = (so_far, may)

        pub heard_so : (o : Option X) → IfSome o (λ x. heard first x (calls order)) → IfSome o (λ x. (earlier : List CallLine) × heard first x earlier × may_hear first earlier line)
        heard_so None so_far = tt
        heard_so (Some x) so_far = (calls order, so_far, may)

        pub told_more : {now' : Option X} → IfSome now' (λ x. heard first x (calls order ++ line ∷ [])) → IsAlong heard may_hear count calls r (order ++ t ∷ []) first (slice_set decided t d) now'
        told_more {now'} so_far =
            record {
              decided_is = sets is;
              few = let a = length-append order (t ∷ []) in let b = ap length grown ∙ length-append (calls order) (line ∷ []) in omega (arith, are.few, a, b);
              hears = are.hears;
              so_far = subst (λ lines. IfSome now' (λ x. heard first x lines)) (sym grown) so_far;
            }

    -- and else none
    pub told_none : d ≡ n → IsAlong heard may_hear count calls r (order ++ t ∷ []) first (slice_set decided t n) now
    told_none same =
        let none : DecidesNone count last calls order t next.before next.after =
        elim next.decides [ inl none ↦ none | inr one ↦ absurd (let e = ap count (sym after_is) ∙ one.count_is in omega (arith, e, is, same, had read)) ] in
        record {
          decided_is = sets (sym same ∙ is);
          few = let a = length-append order (t ∷ []) in omega (arith, are.few, a, ap length none.1);
          hears = are.hears;
          so_far = subst (λ lines. IfSome now (λ x. heard first x lines)) (sym none.1) are.so_far;
        }
