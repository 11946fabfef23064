-- What the code that audits a journal keeps of the calls that were told.
use Rattle.std.specs.Prelude.{ℕ, ◌≡◌, ◌<◌, ◌≤◌, List, [], ◌∷◌, ◌++◌, length, Option, Some, None, Ok, Err, slice_get}
use Rattle.tc_model.specs.declared.calls.Call.{Call}
use Rattle.tc_model.specs.declared.calls.Script.{Script}
use Rattle.tc_model.specs.declared.answers.Answer.{Answer}
use Rattle.tc_model.specs.declared.answers.Answer.TheVariants.{Block}
use Rattle.tc_model.specs.declared.answers.CallLine.{CallLine}
use Rattle.tc_model.specs.Blocks.{blocks_after, answer_to, freed_in}
use Rattle.journal_audit.specs.declared.told.Told.{Told}
use Rattle.journal_audit.specs.declared.verdict.AuditWhy.{AuditWhy}
use Rattle.journal_audit.specs.declared.books.Books.{Books}
use Rattle.journal_audit.specs.Rules.{Plan, count_of, line_of, judged}
use Rattle.journal_audit.specs.Given.{given_at, IsGiven}

-- What is kept is that of the calls that were told: their number, how many of them are each thread's, their live blocks,
-- and what each label's allocation was answered.
pub record AreOf (scripts : List Script) (calls : List CallLine) (books : Books) : Type 0 where
  pub told : books.calls ≡ length calls
  pub few : books.calls ≤ 1000000
  pub threads : length books.done.items ≡ length scripts
  pub done : (thread : ℕ) → thread < length scripts → slice_get books.done.items thread ≡ Some (count_of thread calls)
  pub live : books.live ≡ blocks_after calls
  pub answers : (label : ℕ) → IsGiven (given_at books.answers label) (answer_to label calls) (freed_in label calls)

-- books of some calls
pub record AreBooks (scripts : List Script) (books : Books) : Type 0 where
  pub calls : List CallLine
  pub are : AreOf scripts calls books

-- books of some calls, behind which a line that says this tells this call
pub record IsNext (books : Books) (told : Told) (call : Call) : Type 0 where
  pub plan : Plan
  pub calls : List CallLine
  pub are : AreOf plan.scripts calls books
  pub judged_ok : judged plan calls (Some told) ≡ Ok (line_of told call)

-- an answer's block, where it has one, has a byte
abbrev pub HasBytes : Answer → Type 0
HasBytes (Block addr len) = 0 < len
HasBytes answer = Unit {0}

-- books that have read a line, and the first rule that it fails
abbrev pub HasRead : Plan → List CallLine → Option Told → Option AuditWhy → Books → Type 0
HasRead plan calls form None books = (c : CallLine) × (judged plan calls form ≡ Ok c) × AreOf plan.scripts (calls ++ c ∷ []) books
HasRead plan calls form (Some reason) books = (judged plan calls form ≡ Err reason) × AreOf plan.scripts calls books
