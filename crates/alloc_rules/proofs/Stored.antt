-- The stock after a part of the front-end or a shard was replaced, and an act by the books of the parts.
use Rattle.std.proofs.Common.{◌≡◌, ◌≢◌, ℕ, ◌+◌, List, [], ◌++◌, Some, arith, slice_get, slice_set}
use Rattle.alloc_rules.proofs.Common.{Addr, Shard, objects_at, Account, Setup, Books, Said, Move, MoveObjects, shift, Local, About}
use Rattle.alloc_rules.proofs.Common.{account_of, decided_at, stock_of, AreBooksOf, Does, FrontRules, Parts}

-- the parts with others of the front-end, and other shards
abbrev pub with_stores : {P : Type 0} → Parts P → List P → List Shard → Parts P
with_stores p fronts shards = record { fronts = fronts; shards = shards; heap = p.heap; map = p.map; names = p.names }

module _ {P V R : Type 0} (r : FrontRules P V R) (about : R → About) where
  -- the books with the parts' own stock and names
  abbrev pub settled : Books → Parts P → Books
  settled b p = record { stock = stock_of r about p; heap = b.heap; spans = b.spans; names = p.names; accounts = b.accounts }

  books_settled : (p : Parts P) (locals : List (Local V R)) (b : Books) → AreBooksOf r about p locals b → settled b p ≡ b
  books_settled p locals b books = grind arith

  -- one move of these books is what an act does that leaves the heap, the map and the names
  pub does_by : {m : Setup} {p : Parts P} {locals : List (Local V R)} {b : Books} → AreBooksOf r about p locals b → {fronts : List P} {shards : List Shard} {l after : Local V R}
      {a : Account} {said : List Said} → account_of about l ≡ a → Move m (settled b p) a (stock_of r about (with_stores p fronts shards)) b.heap b.spans p.names (account_of about after) said
      → after.acts ≡ l.acts + 1 → after.answers ≡ l.answers ++ decided_at l.acts said → Does r about m (with_stores p fronts shards) b l after
  does_by {m} {p} {locals} {b} books {fronts} {shards} {l} {after} {a} {said} is move acts answers = grind (arith, books_settled p locals b books)

  -- what is stored with other parts of the front-end
  abbrev stored_by : Parts P → List P → ℕ → ℕ → ℕ
  stored_by p fronts = (stock_of r about (with_stores p fronts p.shards)).stored

  -- one part of the front-end in place of another
  pub front_stored : (p : Parts P) (c : ℕ) (q new : P) → slice_get p.fronts c ≡ Some q → (k n : ℕ)
      → stored_by p (slice_set p.fronts c new) k n + r.stored q k n ≡ (stock_of r about p).stored k n + r.stored new k n
  front_stored p c q new at k n = let s = shift (λ (x : P). r.stored x k n) p.fronts c q new at in omega (arith, s)

  -- objects move between the front-end and a hand, with the shards as they were
  pub stores_move : (p : Parts P) (fronts : List P) (class : ℕ) (hand new : List Addr) → ((k n : ℕ) → k ≢ class → stored_by p fronts k n ≡ (stock_of r about p).stored k n)
      → ((n : ℕ) → stored_by p fronts class n + objects_at n new ≡ (stock_of r about p).stored class n + objects_at n hand)
      → MoveObjects (stock_of r about p) (stock_of r about (with_stores p fronts p.shards)) class hand new []
  stores_move p fronts class hand new others moves = grind arith

  -- no object moves: the stock is the same
  pub stock_same : (p : Parts P) (fronts : List P) → ((k n : ℕ) → stored_by p fronts k n ≡ (stock_of r about p).stored k n) → stock_of r about p ≡ stock_of r about (with_stores p fronts p.shards)
  stock_same p fronts same = grind arith
