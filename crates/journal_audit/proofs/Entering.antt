-- What books have behind one more call.
use Rattle.std.proofs.Common.{◌≡◌, ℕ, ◌+◌, ◌<◌, Bool, true, false, ◌||◌, List, [], ◌∷◌, ◌++◌, length, Option, Some, None, refl, arith, length-append}
use Rattle.std.specs.Prelude.{slice_index, slice_set}
use Rattle.std.specs.Option.{option_or}
use Rattle.std.proofs.lemmas.List.{length-set}
use Rattle.std.proofs.lemmas.Option.{get_or_from_slice_get}
use Rattle.std.proofs.lemmas.Bool.Decides.{nat_tests}
use Rattle.tc_units.specs.declared.units.ThreadNo.{ThreadNo}
use Rattle.tc_model.specs.declared.calls.Call.{Call}
use Rattle.tc_model.specs.declared.answers.Answer.{Answer}
use Rattle.tc_model.specs.declared.answers.CallLine.{CallLine}
use Rattle.tc_model.specs.Blocks.{blocks_with, allocates, frees, answer_to, freed_in}
use Rattle.tc_model.proofs.Lists.{set_here, set_elsewhere}
use Rattle.journal_audit.specs.declared.told.Told.{Told}
use Rattle.journal_audit.specs.declared.told.Place.{Place}
use Rattle.journal_audit.specs.declared.told.Act.{Act}
use Rattle.journal_audit.specs.declared.answers.Given.{Given}
use Rattle.journal_audit.specs.declared.books.Books.{Books}
use Rattle.journal_audit.specs.Forms.{names, answer_of, malloc_answer}
use Rattle.journal_audit.specs.Rules.{Plan, count_of, line_of}
use Rattle.journal_audit.specs.Given.{given_at, IsGiven, malloc_given, first_given, given_by}
use Rattle.journal_audit.specs.Books.{AreOf}
use Rattle.journal_audit.proofs.Passing.{IsTold}
use Rattle.journal_audit.proofs.Sound.{blocks_push, freed_push, answer_push}
use Rattle.journal_audit.proofs.Threads.{count_mine, count_other, count_within, has_script}

or_none : (o : Option Answer) → option_or o None ≡ o
or_none None = refl
or_none (Some x) = refl

or_false : (b : Bool) → (b || false) ≡ b
or_false true = refl
or_false false = refl

or_true : (b : Bool) → (b || true) ≡ true
or_true true = refl
or_true false = refl

-- a label behind a call that is about another one, or about none
same_label : (calls : List CallLine) (c : CallLine) (l : ℕ) (g : Given) → allocates l c.call ≡ false → frees l c.call ≡ false
    → IsGiven g (answer_to l calls) (freed_in l calls) → IsGiven g (answer_to l (calls ++ c ∷ [])) (freed_in l (calls ++ c ∷ []))
same_label calls c l g other apart is = grind (arith, answer_push, freed_push, or_false, or_none)

-- a label behind its own allocation: its first answer stays
first_answer : (g : Given) (o : Option Answer) (freed : Bool) (block : Option Place) → IsGiven g o freed
    → IsGiven (first_given (malloc_given block) g) (option_or o (Some (malloc_answer block))) freed
first_answer x0 o freed x3 is = grind (arith)

given_push : (calls : List CallLine) (thread : ThreadNo) (act : Act) (c : Call) (l : ℕ) (g : Given) → names act c ≡ true
    → IsGiven g (answer_to l calls) (freed_in l calls) → (let line : CallLine = record { thread = thread; call = c; answer = answer_of act } in
    IsGiven (given_by c act l g) (answer_to l (calls ++ line ∷ [])) (freed_in l (calls ++ line ∷ [])))
given_push calls thread act c l g named is = grind (arith, nat_tests, answer_push, first_answer, freed_push, or_false, same_label, or_true)

-- what the count of a thread's calls allows
pub record Counts (calls : List CallLine) (books : Books) (thread : ℕ) : Type 0 where
  pub there : thread < length books.done.items
  pub is : slice_index books.done.items thread ≡ count_of thread calls
  pub few : slice_index books.done.items thread < 1000000

pub counts : (plan : Plan) (calls : List CallLine) (told : Told) (c : Call) (books : Books) → AreOf plan.scripts calls books
    → IsTold plan calls told c → Counts calls books told.thread
counts plan calls told c books are is = grind (arith, has_script, get_or_from_slice_get, count_within)

-- the books where the call is entered
pub entered : (plan : Plan) (calls : List CallLine) (told : Told) (c : Call) (old mid new : Books) → AreOf plan.scripts calls old
    → IsTold plan calls told c → mid.calls ≡ old.calls → mid.done ≡ old.done → mid.live ≡ blocks_with old.live (answer_of told.act)
    → ((l : ℕ) → given_at mid.answers l ≡ given_by c told.act l (given_at old.answers l)) → new ≡ record mid { calls = mid.calls + 1; done = new.done }
    → new.done.items ≡ slice_set mid.done.items told.thread (slice_index mid.done.items told.thread + 1) → AreOf plan.scripts (calls ++ line_of told c ∷ []) new
entered plan calls told c old mid new are is number same live given whole done =
    grind (arith, nat_tests, counts, length-append, length-set, set_here, has_script, count_mine, set_elsewhere, count_other, blocks_push, given_push)
