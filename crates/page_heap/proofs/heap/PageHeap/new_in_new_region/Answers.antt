use Rattle.std.proofs.Common.{◌≡◌, ℕ, ◌+◌, ◌<◌, ◌≤◌, Some, option_map, ap, arith}
use Rattle.page_heap.proofs.Common.{le-leb, lt-leb, HeapConfig, run_choice, slack, nat_tests}
use Rattle.page_heap.proofs.Results.{is_heap, answer_is}
use Rattle.page_heap.proofs.Slack.{slack_is, few_donated}
use Rattle.page_heap.proofs.heap.PageHeap.new_in_new_region.Goals as goal
use Rattle.page_heap.proofs.heap.PageHeap.new_in_new_region.Goals.{After-from, In_ok-first}

pub overflow_add-donated_free : goal.overflow_add-donated_free
overflow_add-donated_free c = let few = few_donated (is_heap c.self.invariant c.self.view_is) in omega (arith, few, c.donated_free.ensures, c.from.ensures)

sum_is : (a b c d s : ℕ) → a ≡ c → b ≡ d → c + d ≡ s → a + b ≡ s
sum_is a b c d s p q r = omega arith

below_is : (a s m k : ℕ) → a ≡ s → m ≡ k → a < m → s < k
below_is a s m k e f h = omega arith

above_is : (a s m k : ℕ) → a ≡ s → m ≡ k → m ≤ a → k ≤ s
above_is a s m k e f h = omega arith

-- the slack of the heap is what is compared
slack_now : (c : After-from) → c.donated_free.result + c.from.result ≡ slack c.args.self.now c.args.n
slack_now c = sum_is _ _ _ _ _ c.donated_free.ensures c.from.ensures (slack_is (is_heap c.self.invariant c.self.view_is) c.args.n)

least : (c : After-from) → c.self.inside.config.slack ≡ c.args.self.now.config.slack
least c = ap (λ (x : HeapConfig). x.slack) (is_heap c.self.invariant c.self.view_is).shows.config

pub returns-then-donated_free-from-clause-new : goal.returns-then-donated_free-from-clause-new
returns-then-donated_free-from-clause-new c = grind (arith, below_is, slack_now, least, option_map, lt-leb, c.if-donated_free-from.true)

place : (c : In_ok-first) → run_choice c.args.self.now c.args.self.now.config.region ≡ Some c.in_ok-first.first.0
place c = grind (arith, c.self.invariant, c.self.view_is, c.in_ok-first.ensures.place)

pub open_for-requires-clause-place : goal.open_for-requires-clause-place
open_for-requires-clause-place c = place (goal.at.open_for-requires-clause-place c).In_ok-first

pub returns-clause-new : goal.returns-clause-new
returns-clause-new c = grind (arith, nat_tests, above_is, slack_now, least, option_map, le-leb, place, answer_is)
