use Rattle.sorted_list.proofs.Found.{first_from_is}
use Rattle.sorted_list.proofs.list.SortedList.first_from.Goals as goal

pub returns-then-place-len-clause-found : goal.returns-then-place-len-clause-found
returns-then-place-len-clause-found g c = first_from_is g.K.SortKey.before g.met.K.SortKey.order c.args.self.now.keys c.search-place.ensures.order c.search-place.result c.at.result c.at.ensures c.args.from c.search-place.ensures.place
