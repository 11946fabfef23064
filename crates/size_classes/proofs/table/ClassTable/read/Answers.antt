use Rattle.std.proofs.Common.{◌≡◌, ℕ, ◌+◌, ◌<◌, Bool, true, false, Ok, Err, List, [], ◌∷◌, ◌++◌, length, sym, ap, subst, ◌∙◌, arith, inl}
use Rattle.std.proofs.lemmas.Grind.{common_steps}
use Rattle.csv.specs.Reading.{ReadRecord}
use Rattle.csv.specs.Records.{fields_of}
use Rattle.tc_units.specs.declared.spans.ClassRow.{ClassRow}
use Rattle.size_classes.specs.declared.fault.TableFault.TheVariants.{BadRow}
use Rattle.size_classes.specs.Table.{check_record}
use Rattle.size_classes.proofs.Progress.{told, going_start, going_more, going_bad, going_end, going_empty, unread_start}
use Rattle.size_classes.proofs.table.ClassTable.read.Goals as goal

pub records-init : goal.records-init
records-init c = grind (arith, going_start, unread_start)

pub records-preserved : goal.records-preserved
records-preserved c =
    let so = c.records.invariant in
    let fields : List (List ℕ) = fields_of c.read_byte_record.new.row in
    let reads : ReadRecord told c.records.reader c.read_byte_record.new.self true fields =
    subst (λ (t : Bool). ReadRecord told c.records.reader c.read_byte_record.new.self t fields) c.in-Ok-true.field-0-test
    (c.in-Ok-true.ensures.reads so.unread.plain so.unread.ready) in
    let count : c.len.result ≡ length c.records.rows.items = grind (arith, common_steps) in
    let checked = ap (λ (n : ℕ). check_record (n + 1) c.records.above fields) (sym count) ∙ sym c.check_row.ensures.checked ∙ c.in-Ok.is in
    let items : c.push.new.self.items ≡ c.records.rows.items ++ c.in-Ok.class ∷ [] = grind (arith, common_steps) in
    rw items (going_more c.args.bytes.now _ _ _ _ _ _ so reads (inl (c.in-Ok-true.ensures.ready so.unread.plain)) c.in-Ok-true.ensures.flexible checked c.in-Ok.ensures.rules c.in-Ok.ensures.rises (omega (arith, c.in-Ok.ensures.few, count)))

pub returns-in-Err-check_row-clause-fault : goal.returns-in-Err-check_row-clause-fault
returns-in-Err-check_row-clause-fault c =
    let so = c.records.invariant in
    let fields : List (List ℕ) = fields_of c.read_byte_record.new.row in
    let reads : ReadRecord told c.records.reader c.read_byte_record.new.self true fields =
    subst (λ (t : Bool). ReadRecord told c.records.reader c.read_byte_record.new.self t fields) c.in-Ok-true.field-0-test
    (c.in-Ok-true.ensures.reads so.unread.plain so.unread.ready) in
    let count : c.len.result ≡ length c.records.rows.items = grind (arith, common_steps) in
    let checked = ap (λ (n : ℕ). check_record (n + 1) c.records.above fields) (sym count) ∙ sym c.check_row.ensures.checked ∙ c.in-Err-check_row.is in
    going_bad c.args.bytes.now _ c.read_byte_record.new.self _ _ _ _ so reads (inl (c.in-Ok-true.ensures.ready so.unread.plain)) c.in-Ok-true.ensures.flexible checked
    ∙ ap (λ (n : ℕ). Err (BadRow (n + 1) c.in-Err-check_row.why)) (sym count)

pub returns-then-is_empty-clause-fault : goal.returns-then-is_empty-clause-fault
returns-then-is_empty-clause-fault c =
    let so = c.records.invariant in
    let fields : List (List ℕ) = fields_of c.read_byte_record.new.row in
    let reads : ReadRecord told c.records.reader c.read_byte_record.new.self false fields =
    subst (λ (t : Bool). ReadRecord told c.records.reader c.read_byte_record.new.self t fields) c.in-Ok-false.field-0-test
    (c.in-Ok-false.ensures.reads so.unread.plain so.unread.ready) in
    let none : length c.records.rows.items ≡ 0 = grind (arith, common_steps) in
    going_empty c.args.bytes.now _ c.read_byte_record.new.self _ _ _ so reads none

pub returns-in-Ok-new-clause-table : goal.returns-in-Ok-new-clause-table
returns-in-Ok-new-clause-table c =
    let so = c.records.invariant in
    let fields : List (List ℕ) = fields_of c.read_byte_record.new.row in
    let reads : ReadRecord told c.records.reader c.read_byte_record.new.self false fields =
    subst (λ (t : Bool). ReadRecord told c.records.reader c.read_byte_record.new.self t fields) c.in-Ok-false.field-0-test
    (c.in-Ok-false.ensures.reads so.unread.plain so.unread.ready) in
    let some : 0 < length c.records.rows.items = grind (arith, common_steps) in
    going_end c.args.bytes.now _ c.read_byte_record.new.self _ _ _ so reads some ∙ ap (λ (rows : List ClassRow). Ok rows) (sym c.in-Ok-new.ensures)
