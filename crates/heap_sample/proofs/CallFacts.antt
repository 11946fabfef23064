-- What a call makes of the live samples: an allocation that got a block, a free, and a call that is neither.
use Rattle.std.proofs.Common.{refl, ◌≡◌, ℕ, Bool, true, false, not, List, [], ◌∷◌, ◌++◌, ap, ◌∙◌}
use Rattle.std.specs.List.{filter}
use Rattle.std.proofs.Common.{arith}
use Rattle.tc_units.specs.declared.units.Label.{Label}
use Rattle.tc_units.specs.declared.units.Addr.{Addr}
use Rattle.tc_model.specs.Blocks.{frees}
use Rattle.tc_model.specs.declared.calls.Call.{Call}
use Rattle.tc_model.specs.declared.calls.Call.TheVariants.{Malloc, Free}
use Rattle.tc_model.specs.declared.answers.Answer.{Answer}
use Rattle.tc_model.specs.declared.answers.Answer.TheVariants.{Block}
use Rattle.heap_sample.specs.declared.sample.Sample.{Sample}
use Rattle.heap_sample.specs.Samples.{bytes_asked, sampled, sample_under}

-- a filter that each item passes
all_pass : {X : Type 0} (p : X → Bool) (xs : List X) → ((x : X) → p x ≡ true) → filter p xs ≡ xs
all_pass p [] pass = refl
all_pass p (x ∷ xs) pass = rw (pass x) (ap (λ ys. x ∷ ys) (all_pass p xs pass))

-- what a call that frees nothing leaves of samples
pub kept : (call : Call) (live : List (ℕ × Sample)) → ((l : ℕ) → frees l call ≡ false) → filter (λ s. not (frees s.0 call)) live ≡ live
kept call live none = all_pass (λ (s : ℕ × Sample). not (frees s.0 call)) live (λ s. ap not (none s.0))

-- a call that asks for nothing, gives no sample and frees none
pub record IsQuiet (call : Call) (answer : Answer) : Type 0 where
  pub asks : bytes_asked call answer ≡ 0
  pub gives : (step before : ℕ) → sample_under step before call answer ≡ []
  pub frees_none : (l : ℕ) → frees l call ≡ false

pub quiet : (call : Call) (answer : Answer) → ((l : Label) (n : ℕ) (a : Addr) (len : ℕ) → call ≡ Malloc l n → answer ≡ Block a len → ⊥)
    → ((l : Label) → call ≡ Free l → ⊥) → IsQuiet call answer
quiet call answer block free = grind (arith)

-- such a call leaves the samples as they were
pub unchanged : (step before : ℕ) (call : Call) (answer : Answer) (live : List (ℕ × Sample)) → IsQuiet call answer
    → sample_under step before call answer ++ filter (λ s. not (frees s.0 call)) live ≡ live
unchanged step before call answer live is = ap (λ (ss : List (ℕ × Sample)). ss ++ filter (λ s. not (frees s.0 call)) live) (is.gives step before) ∙ kept call live is.frees_none

-- an allocation that got a block leaves them with its sample before them
pub with_block : (step before : ℕ) (call : Call) (answer : Answer) (l : Label) (n len : ℕ) (a : Addr) (live : List (ℕ × Sample)) → call ≡ Malloc l n → answer ≡ Block a len
    → sample_under step before call answer ++ filter (λ s. not (frees s.0 call)) live ≡ sampled step before l n len ++ live
with_block step before call answer l n len a live c b = rw (c, b) (ap (λ (ss : List (ℕ × Sample)). sampled step before l n len ++ ss) (kept (Malloc l n) live (λ k. refl)))
