use Rattle.std.proofs.Common.{◌≡◌, ◌∙◌, true, false, nat_eq, string_bytes, arith}
use Rattle.std.specs.Cmp.Lexicographic.{pointwise}
use Rattle.tc_ports.proofs.Finds.{found_here, found_later}
use Rattle.tc_ports.proofs.mem_shelf.bytes_of.Goals as goal

pub returns-then-eq : goal.returns-then-eq
returns-then-eq c =
    let test : pointwise nat_eq c.args.name.now (string_bytes c.file-item.result.name) ≡ true = cc in
    let here = found_here c.args.name.now c.args.files.now c.loop-file.file-index c.file-item.result (omega arith) c.file-item.is test in
    let all = c.loop-file.invariant in
    cc (here, all, c.as_slice.ensures.value)

pub loop-file-preserved : goal.loop-file-preserved
loop-file-preserved c =
    let test : pointwise nat_eq c.args.name.now (string_bytes c.file-item.result.name) ≡ false = cc in
    c.loop-file.invariant ∙ found_later c.args.name.now c.args.files.now c.loop-file.file-index c.file-item.result (omega arith) c.file-item.is test
