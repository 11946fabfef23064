-- The blocks that stand after some calls, as code keeps them: their number and bytes, and by label what its allocation got.
use Rattle.std.specs.Prelude.{◌≡◌, ℕ, ◌+◌, ◌*◌, ◌^◌, ◌<◌, ◌≤◌, ◌==◌, true, List, length, sum_by, All, Option, None, Some, is_some, unwrap_or, if◌then◌else◌, slice_get}
use Rattle.tc_units.specs.declared.units.Label.{Label}
use Rattle.tc_model.specs.declared.answers.Answer.{Answer}
use Rattle.tc_model.specs.declared.answers.Answer.TheVariants.{Block}
use Rattle.tc_model.specs.declared.answers.CallLine.{CallLine}
use Rattle.tc_model.specs.Blocks.{blocks_after, answer_to, live_count, live_bytes, IsAllowed}
use Rattle.holdings.specs.Apart.{AreApart}
use Rattle.tc_machine.specs.Arena.{most_huge_of_nodes}
use Rattle.tc_machine.specs.declared.standing.Standing.{Standing}
use Rattle.tc_machine.specs.declared.standing.TheConstants.{NO_BLOCK}

-- the bytes that are noted at a place, if any are
abbrev pub known_bytes : Option ℕ → Option ℕ
known_bytes None = None
known_bytes (Some len) = if len == NO_BLOCK then None else Some len

-- the bytes that are noted of a label's block
abbrev pub bytes_of_label : List ℕ → ℕ → Option ℕ
bytes_of_label lens label = known_bytes (slice_get lens label)

-- the bytes that are noted of labels' blocks, all together
abbrev pub bytes_of_labels : List ℕ → List Label → ℕ
bytes_of_labels lens labels = sum_by (λ l. unwrap_or (bytes_of_label lens l.0) 0) labels

-- the bytes of each label's block are noted
abbrev pub AreNoted : List ℕ → List Label → Type 0
AreNoted lens labels = All (λ l. is_some (bytes_of_label lens l.0) ≡ true) labels

-- what is noted of a label whose allocation answered so: nothing before it, and the bytes of the block that it got
abbrev pub AreBytesOf : Option Answer → Option ℕ → Type 0
AreBytesOf None len = len ≡ None
AreBytesOf (Some (Block addr bytes)) len = len ≡ Some bytes
AreBytesOf (Some other) len = Unit {0}

-- the number of the calls, the number of the blocks that stand, their bytes with those of the blocks that were freed last, and what is noted of each
-- label
pub record AreStanding (earlier : List CallLine) (s : Standing) : Type 0 where
  pub calls : s.calls ≡ length earlier
  pub lens : (label : ℕ) → AreBytesOf (answer_to label earlier) (bytes_of_label s.lens.items label)
  pub count : s.count ≡ live_count earlier
  pub noted : AreNoted s.lens.items s.freed.items
  pub bytes : s.bytes ≡ live_bytes earlier + bytes_of_labels s.lens.items s.freed.items
  pub few : s.count ≤ length earlier
  pub small : s.bytes ≤ length earlier * 2 ^ 37

-- a call that comes behind some calls: its answer is one that their blocks allow
pub record MayStand (earlier : List CallLine) (line : CallLine) : Type 0 where
  pub huge : ℕ
  pub round : ℕ → ℕ
  pub arena : huge ≤ most_huge_of_nodes
  pub few : length earlier < 2 ^ 26
  pub apart : AreApart (blocks_after earlier)
  pub allowed : IsAllowed huge round earlier line.call line.answer
