-- A thread's samples among all calls are those of its own calls alone.
use Rattle.std.proofs.Common.{refl, ◌≡◌, ℕ, ◌==◌, List, [], ◌∷◌, ◌++◌, cond, sym, ap, ◌∙◌, arith}
use Rattle.std.specs.List.{filter}
use Rattle.std.proofs.lemmas.List.{append-nil}
use Rattle.std.proofs.lemmas.List.Elements.{filter-append}
use Rattle.std.proofs.lemmas.List.Sums.{sum_by-cons}
use Rattle.std.proofs.lemmas.Bool.Decides.{nat_tests}
use Rattle.tc_model.specs.declared.answers.CallLine.{CallLine}
use Rattle.heap_sample.specs.Samples.{bytes_asked, asked_by, sample_of, sample_under, samples_behind, samples_by}
use Rattle.heap_sample.specs.Law.{ThreadsAreApart}

-- the calls of a thread
abbrev own : ℕ → List CallLine → List CallLine
own thread calls = filter (λ c. c.thread.0 == thread) calls

-- what a thread asked for is what its own calls asked for
asked_alone : (thread : ℕ) (calls : List CallLine) → asked_by thread calls ≡ asked_by thread (own thread calls)
asked_alone thread [] = refl
asked_alone thread (c ∷ cs) =
    let f : CallLine → ℕ = λ d. cond (d.thread.0 == thread) (bytes_asked d.call d.answer) 0 in
    grind (arith, nat_tests, asked_alone thread cs, sum_by-cons f c cs, f c, sum_by-cons f c (own thread cs))

-- a sample of a thread's call is one of its own calls
sample_alone : (step thread : ℕ) (earlier : List CallLine) (c : CallLine) → c.thread.0 ≡ thread → sample_of step earlier c ≡ sample_of step (own thread earlier) c
sample_alone step thread earlier c e =
    ap (λ n. sample_under step n c.call c.answer) (ap (λ t. asked_by t earlier) e ∙ asked_alone thread earlier ∙ ap (λ t. asked_by t (own thread earlier)) (sym e))

-- the same behind any earlier calls
apart_behind : (step thread : ℕ) (earlier calls : List CallLine) → samples_by thread step earlier calls ≡ samples_behind step (own thread earlier) (own thread calls)
apart_behind step thread earlier [] = refl
apart_behind step thread earlier (c ∷ cs) =
    let rest = apart_behind step thread (earlier ++ c ∷ []) cs in
    let parts = filter-append (λ (d : CallLine). d.thread.0 == thread) earlier (c ∷ []) in
    grind (arith, nat_tests, sample_alone step thread earlier c, append-nil (own thread earlier))

pub apart : ThreadsAreApart
apart step thread calls = apart_behind step thread [] calls
