-- What holds between two lines of an audit.
use Rattle.std.proofs.Common.{◌≡◌, ℕ, [], List}
use Rattle.trace_text.specs.Places.{TextLeft}
use Rattle.tc_model.specs.declared.answers.CallLine.{CallLine}
use Rattle.journal_audit.specs.declared.books.Books.{Books}
use Rattle.journal_audit.specs.Rules.{Plan, forms_in, journal_of, audited}
use Rattle.journal_audit.specs.Books.{AreOf}

-- the books are of the calls that the lines so far told, and the lines that are left decide
pub record IsAuditing (plan : Plan) (books : Books) (left : TextLeft) (text : List ℕ) : Type 0 where
  pub calls : List CallLine
  pub are : AreOf plan.scripts calls books
  pub rest : audited plan calls (forms_in left.lines) ≡ audited plan [] (journal_of text)
  pub given : left.given ≡ books.calls
