use Rattle.page_map.specs.Spans.{holds}
use Rattle.page_map.proofs.SpanFacts.{found, found_none}
use Rattle.page_map.proofs.map.PageMap.get.Goals as goal

pub returns-clause-found : goal.returns-clause-found
returns-clause-found c = found (holds c.args.page.0) c.args.self.now.spans c.find.result c.find.ensures.first

pub returns-clause-none : goal.returns-clause-none
returns-clause-none c = found_none (holds c.args.page.0) c.args.self.now.spans c.find.result c.find.ensures.first
