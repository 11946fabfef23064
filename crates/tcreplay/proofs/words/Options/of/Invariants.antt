-- The options so far and the words that are left give what all words give.
use Rattle.std.proofs.Common.{◌≡◌, map, string_bytes, length}
use Rattle.tcreplay.specs.Words.{no_options, options_of}
use Rattle.tcreplay.specs.Seen.{seen}
use Rattle.tcreplay.proofs.words.Options.of.Given as goal

abbrev pub invariant-loop-word : goal.invariant-loop-word
invariant-loop-word l = options_of l.kind (seen l.options) (map string_bytes l.rest) ≡ options_of l.kind no_options (map string_bytes l.words)

abbrev pub decreases-loop-word : goal.decreases-loop-word
decreases-loop-word l = length l.rest
