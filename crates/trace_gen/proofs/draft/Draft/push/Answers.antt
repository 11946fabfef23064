use Rattle.trace_reader.specs.Limits.{most_classes}
use Rattle.trace_gen.proofs.draft.Draft.push.Goals as goal

pub add-requires-clause-fits : goal.add-requires-clause-fits
add-requires-clause-fits c = c.requires.good.fits most_classes
