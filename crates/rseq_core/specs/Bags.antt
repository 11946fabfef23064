-- What the calls of a bag make of its objects and its room.
use Rattle.std.specs.Prelude.{ℕ, ◌+◌, ◌-◌, List, [], ◌++◌, length, drop}
use Rattle.tc_units.specs.declared.units.Addr.{Addr}
use Rattle.tc_units.specs.Bag.{Contents}

-- the objects for which there is room, those in the bag among them
abbrev pub room : Contents Addr → ℕ
room bag = length bag.items + bag.spare

-- with these items behind the others, of a bag of any items
abbrev pub appended : {A : Type 0} → Contents A → List A → Contents A
appended bag items = record { items = bag.items ++ items; spare = bag.spare - length items }

-- without the first n objects
abbrev pub without_first : ℕ → Contents Addr → Contents Addr
without_first n bag = record { items = drop n bag.items; spare = bag.spare + n }

-- without its objects
abbrev pub emptied : Contents Addr → Contents Addr
emptied bag = record { items = []; spare = bag.spare + length bag.items }
