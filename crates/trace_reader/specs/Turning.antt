-- What the code that reads an order file keeps.
use Rattle.std.specs.Prelude.{ℕ, ◌≡◌, List, Err}
use Rattle.trace_text.specs.Places.{LineLeft}
use Rattle.trace_reader.specs.declared.why.OrderFault.{OrderFault}
use Rattle.trace_reader.specs.declared.why.OrderFault.TheVariants as fault
use Rattle.trace_reader.specs.Orders.{OrderLine, read_order_line}

-- a line behind the picks so far
abbrev pub order_line_at : ℕ → List ℕ → LineLeft → OrderLine
order_line_at threads picks line = record { threads = threads; before = picks; number = line.line; fields = line.fields }

-- a fault is want of memory, or what the definition says of the line
abbrev pub IsOrderLineFault : OrderLine → OrderFault → Type 0
IsOrderLineFault line fault.Memory = Unit {0}
IsOrderLineFault line (fault.BadLine at reason) = (at ≡ line.number) × (read_order_line line ≡ Err reason)
