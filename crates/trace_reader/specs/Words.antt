-- The words of a trace's lines, and the values that stand behind each.
use Rattle.std.specs.Prelude.{ℕ, ◌-◌, Bool, false, true, List, [], ◌∷◌, Option, Some, None, option_map, codes, if◌then◌else◌}
use Rattle.std.specs.Option.{option_or}
use Rattle.std.specs.Str.{bytes_eq}
use Rattle.tc_model.specs.Heads.{head_rule, head_of}
use Rattle.trace_reader.specs.Limits.{most_place, most_labels, most_size, most_before, most_released, most_capacity}
use Rattle.trace_reader.specs.declared.word.Word.{Word}
use Rattle.trace_reader.specs.declared.word.Word.TheVariants as word

-- the call or the preemption that a field names
abbrev pub call_word_of : List ℕ → Option Word
call_word_of field =
    if bytes_eq field (codes "a") then Some word.Malloc
    else if bytes_eq field (codes "f") then Some word.Free
    else if bytes_eq field (codes "p") then Some word.Move
    else if bytes_eq field (codes "r") then Some word.Release
    else if bytes_eq field (codes "d") then Some word.Drain
    else if bytes_eq field (codes "z") then Some word.Resize
    else None

-- what a field names
abbrev pub word_of : List ℕ → Option Word
word_of field = option_or (call_word_of field) (option_map (λ head. word.Head head) (head_of field))

abbrev pub is_head : Word → Bool
is_head (word.Head head) = true
is_head word = false

-- the numbers that a field may have: from `least` to `most`
pub record Range : Type 0 where
  pub least : ℕ
  pub most : ℕ

abbrev pub from_to : ℕ → ℕ → Range
from_to least most = record { least = least; most = most }

-- a thread, a CPU or a class: whether there is such a one is a later rule
abbrev pub place : Range
place = from_to 0 most_place

-- the ranges of the values that stand behind a word: a T L N, f T L, p T I C, r T N, d T C and z T C K N
abbrev pub ranges_of : Word → List Range
ranges_of (word.Head head) = from_to (head_rule head).least (head_rule head).most ∷ []
ranges_of word.Malloc = place ∷ from_to 0 (most_labels - 1) ∷ from_to 0 most_size ∷ []
ranges_of word.Free = place ∷ from_to 0 (most_labels - 1) ∷ []
ranges_of word.Move = place ∷ from_to 1 most_before ∷ place ∷ []
ranges_of word.Release = place ∷ from_to 0 most_released ∷ []
ranges_of word.Drain = place ∷ place ∷ []
ranges_of word.Resize = place ∷ place ∷ place ∷ from_to 0 most_capacity ∷ []
