-- Threads that are put at the tickets of their entries.
use Rattle.std.specs.Prelude.{ℕ, List, Option, Some, option_map}
use Rattle.std.specs.List.{fold, flat_map, filter_map, slice_set}
use Rattle.tc_units.specs.declared.units.ThreadNo.{ThreadNo}
use Rattle.tc_model.specs.declared.board.Entry.{Entry}

-- each entry's thread is put at its ticket, the first entry's first
abbrev pub put_all : List (Option ThreadNo) → List Entry → List (Option ThreadNo)
put_all threads entries = fold (λ ts (e : Entry). slice_set ts e.ticket (Some e.thread)) threads entries

-- the threads among what stands at tickets
abbrev pub threads_among : List (Option ThreadNo) → List ℕ
threads_among placed = filter_map (option_map (λ (t : ThreadNo). t.0)) placed

-- the entries of all lists in a row
abbrev pub all_in : List (List Entry) → List Entry
all_in lists = flat_map (λ (xs : List Entry). xs) lists
