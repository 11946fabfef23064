use Rattle.trace_text.proofs.Cuts.{position_in_front}
use Rattle.trace_text.proofs.search.length_before_near.Goals as goal

pub returns-then-place-lt-BLOCK-clause-first : goal.returns-then-place-lt-BLOCK-clause-first
returns-then-place-lt-BLOCK-clause-first c = position_in_front _ c.args.bytes.now 32 c.length_in_block-place.result c.if-bytes-ge-BLOCK.true c.length_in_block-place.ensures c.if-place-lt-BLOCK.true
