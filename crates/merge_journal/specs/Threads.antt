-- The threads of entries, and of the merge of several lists.
use Rattle.std.specs.Prelude.{◌≡◌, ℕ, List, map}
use Rattle.tc_model.specs.declared.board.Entry.{Entry}
use Rattle.tc_model.specs.Rises.{AreApart, IsMerge}

-- the threads of entries, in their order
abbrev pub threads_in : List Entry → List ℕ
threads_in es = map (λ (e : Entry). e.thread.0) es

-- the threads of the merge of lists without a common ticket
pub record AreMerged (lists : List (List Entry)) (threads : List ℕ) : Type 0 where
  pub apart : AreApart lists
  pub entries : List Entry
  pub merge : IsMerge lists entries
  pub are : threads ≡ threads_in entries
