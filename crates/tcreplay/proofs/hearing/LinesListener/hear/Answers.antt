use Rattle.std.proofs.lemmas.List.{append-nil, append_assoc}
use Rattle.std.proofs.lemmas.List.Concat.{flat_map-append}
use Rattle.std.proofs.lemmas.List.Elements.{All-append, All-cons, All-nil}
use Rattle.std.proofs.Common.{arith}
use Rattle.usage_report.specs.Report.{call_line, IsTellable}
use Rattle.tcreplay.proofs.hearing.LinesListener.hear.Goals as goal

pub returns : goal.returns
returns c before earlier heard may =
    grind (arith, flat_map-append call_line earlier, append-nil, append_assoc, All-append IsTellable earlier, All-cons IsTellable, All-nil IsTellable)
