-- What reading the trace gives.
use Rattle.std.proofs.Common.{◌≡◌, ℕ, ◌+◌, ◌≤◌, List, [], Option, Some, None, Err, refl, arith}
use Rattle.std.specs.Prelude.{IfSome}
use Rattle.tc_ports.specs.Told.{LostAtMost}
use Rattle.tc_ports.specs.Whole.{PassedLimit}
use Rattle.tcreplay.specs.declared.outcome.End.TheVariants.{TooLong}
use Rattle.tcreplay.specs.Verdict.{within}
use Rattle.tcreplay.proofs.LoadFacts.{too_many, too_many_long, within_long}

-- the text that is told, or else an empty one
abbrev pub some_text : Option (List ℕ) → List ℕ
some_text None = []
some_text (Some text) = text

pub some_text_is : (left : Option (List ℕ)) → IfSome left (λ bytes. some_text left ≡ bytes)
some_text_is None = tt
some_text_is (Some text) = refl

-- a text that is too long
pub long_text : (left rest : Option (List ℕ)) (limit : ℕ) → PassedLimit left rest limit → (text : List ℕ) × IfSome left (λ bytes. text ≡ bytes) × (within limit text ≡ Err (TooLong limit))
long_text None rest limit passed = (too_many limit, tt, within_long limit (too_many limit) (too_many_long limit))
long_text (Some bytes) rest limit passed = (bytes, refl, within_long limit bytes passed.0)

-- nothing is lost where nothing was read
pub lost_none : (left : Option (List ℕ)) (most : ℕ) → LostAtMost left left most
lost_none None most = refl
lost_none (Some bytes) most = (0, omega arith, refl)

-- what has lost at most so many has lost at most more
pub lost_more : (left rest : Option (List ℕ)) (most more : ℕ) → most ≤ more → LostAtMost left rest most → LostAtMost left rest more
lost_more None rest most more fits lost = lost
lost_more (Some bytes) rest most more fits lost = (lost.0, omega (arith, lost.1), lost.2)

-- a limit that was passed is gone, and one byte more
pub lost_passed : (left rest : Option (List ℕ)) (limit : ℕ) → PassedLimit left rest limit → LostAtMost left rest (limit + 1)
lost_passed None rest limit passed = passed
lost_passed (Some bytes) rest limit passed = (limit + 1, omega arith, passed.1)
