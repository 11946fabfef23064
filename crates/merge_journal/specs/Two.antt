-- What two lists of entries come to.
use Rattle.std.specs.Prelude.{◌⊎◌, List}
use Rattle.tc_model.specs.declared.board.Entry.{Entry}
use Rattle.tc_model.specs.Rises.{Has, Rising, ticket_of}

-- the entries of two lists by ticket
pub record IsMergeOfTwo (xs ys zs : List Entry) : Type 0 where
  pub rises : Rising ticket_of zs
  pub from : (e : Entry) → Has zs e → Has xs e ⊎ Has ys e
  pub left : (e : Entry) → Has xs e → Has zs e
  pub right : (e : Entry) → Has ys e → Has zs e
