-- How long a trace or an order file may be, and how large the numbers of its lines. These are the project's own rule.
use Rattle.std.specs.Prelude.{ℕ}

-- the most lines of a trace or of an order file
abbrev pub most_lines : ℕ
most_lines = 1000000

-- the most size classes that a line can name
abbrev pub most_classes : ℕ
most_classes = 256

-- the greatest number of a thread, a CPU or a class in a line, whether there is such a one or not
abbrev pub most_place : ℕ
most_place = 65535

-- the most labels, which are numbered from 0
abbrev pub most_labels : ℕ
most_labels = 1000000

-- the most bytes of a request: 1 TiB
abbrev pub most_size : ℕ
most_size = 1099511627776

-- the last instruction of a call before which it can be preempted
abbrev pub most_before : ℕ
most_before = 1000000

-- the most pages that are released at a time: 8 GiB
abbrev pub most_released : ℕ
most_released = 1048576

-- the greatest capacity that a line can ask for, in objects
abbrev pub most_capacity : ℕ
most_capacity = 1000000

-- the most picks of a line of an order file
abbrev pub most_turns : ℕ
most_turns = 1000000
