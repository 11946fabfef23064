-- No file so far has the name.
use Rattle.std.proofs.Common.{◌≡◌, drop}
use Rattle.tc_ports.proofs.Finds.{found}
use Rattle.tc_ports.proofs.mem_shelf.bytes_of.Given as goal

abbrev pub invariant-loop-file : goal.invariant-loop-file
invariant-loop-file l = found l.name l.files ≡ found l.name (drop l.file-index l.files)
