-- The cache of a thread as contracts see it, and what moves in and out of it.
use Rattle.std.specs.Prelude.{◌≡◌, ℕ, ◌+◌, ◌-◌, ◌*◌, ◌/◌, ◌<◌, ◌≤◌, min, List, [], ◌++◌, length, take, map, sum_by, All, slice_set}
use Rattle.std.specs.List.{slice_index_or}
use Rattle.tc_units.specs.declared.units.Addr.{Addr}
use Rattle.tc_units.specs.declared.spans.ClassRow.{ClassRow}
use Rattle.transfer_cache.specs.Transfer.{without_last}

-- the objects of one size class that a cache has, oldest first, and the bytes of each
pub record Stack : Type 0 where
  pub size : ℕ
  pub objects : List Addr

-- a cache: a list for each class, and the limit on the bytes of all its objects
pub record Cache : Type 0 where
  pub stacks : List Stack
  pub limit : ℕ

-- the bytes of the objects of one class, and of all
abbrev pub bytes_in : Stack → ℕ
bytes_in s = s.size * length s.objects

abbrev pub bytes : Cache → ℕ
bytes c = sum_by bytes_in c.stacks

-- the bytes that the limit leaves unused
abbrev pub unused : Cache → ℕ
unused c = c.limit - bytes c

-- The counted bytes are those of the objects, and within the limit; and each object has bytes.
pub record IsCounted (stacks : List Stack) (limit counted : ℕ) : Type 0 where
  pub bytes : counted ≡ sum_by bytes_in stacks
  pub within : counted ≤ limit
  pub sizes : All (λ (s : Stack). 0 < s.size) stacks

-- what it has of a class; of a class that isn't there, nothing
abbrev pub stack_at : Cache → ℕ → Stack
stack_at c k = slice_index_or c.stacks k (record { size = 0; objects = [] })

abbrev pub objects_of : Cache → ℕ → List Addr
objects_of c k = (stack_at c k).objects

-- a cache with other objects of a class
abbrev pub with_class : Cache → ℕ → List Addr → Cache
with_class c k objects = record c { stacks = slice_set c.stacks k (record (stack_at c k) { objects = objects }) }

-- an empty cache for the classes of a table
abbrev pub empty_stack : ClassRow → Stack
empty_stack row = record { size = row.size; objects = [] }

abbrev pub opened : List ClassRow → ℕ → Cache
opened rows limit = record { stacks = map empty_stack rows; limit = limit }

-- how many of so many objects of a class fit: as many as keep the bytes within the limit
abbrev pub fitting : Cache → ℕ → ℕ → ℕ
fitting c k n = min n (unused c / (stack_at c k).size)

-- the longest prefix of a list that fits is added
abbrev pub added : Cache → ℕ → List Addr → Cache
added c k list = with_class c k (objects_of c k ++ take (fitting c k (length list)) list)

-- the last n objects of a class are taken out
abbrev pub trimmed : Cache → ℕ → ℕ → Cache
trimmed c k n = with_class c k (without_last n (objects_of c k))

-- what a cache gives up where so much is asked for, the limit without it, and the limit with more
abbrev pub given : Cache → ℕ → ℕ
given c most = min (unused c) most

abbrev pub lowered : Cache → ℕ → Cache
lowered c most = record c { limit = c.limit - given c most }

abbrev pub raised : Cache → ℕ → Cache
raised c n = record c { limit = c.limit + n }
