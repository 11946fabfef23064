use Rattle.heap_sample.proofs.RowFacts.{row_at}
use Rattle.heap_sample.proofs.rows.Rows.find.Goals as goal

-- src/rows.rt:95:5
pub returns : goal.returns
returns c = row_at c.args.self.now c.args.len c.place.result c.place.ensures.rows c.place.ensures.place c.requires
