-- The files of a shelf over memory, as a map.
use Rattle.std.specs.Prelude.{ℕ, List, map}
use Rattle.std.specs.String.{string_bytes}
use Rattle.std.specs.FinMap.{from_entries}
use Rattle.tc_ports.specs.declared.mem_shelf.Shelved.{Shelved}
use Rattle.tc_ports.specs.Shelves.{Files}

-- the bytes of the name and of the file
abbrev pub entry_of : Shelved → List ℕ × List ℕ
entry_of file = (string_bytes file.name, file.bytes.items)

-- of two files with one name, the first counts
abbrev pub files_of : List Shelved → Files
files_of files = from_entries (map entry_of files)
