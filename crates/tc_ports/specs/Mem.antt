-- The ends over memory, as contracts see them, and what a call makes of them.
use Rattle.std.specs.Prelude.{ℕ, ◌-◌, ◌/◌, List, ◌++◌, length, take, drop, Contains, refl}
use Rattle.std.specs.Coded.{Coded, code_by, coded×, coded_list, coded_ℕ}
use Rattle.std.specs.FinMap as map
use Rattle.tc_ports.specs.Faults.{one_more}
use Rattle.tc_ports.specs.Shelves.{Files}
use Rattle.tc_ports.specs.declared.shelf.LoadFault.{LoadFault}
use Rattle.tc_ports.specs.declared.shelf.LoadFault.TheVariants.{Failed, Missing, TooLong, Memory}

-- the bytes that are left, how many a read gives at most, the calls that fail, and the counts of calls and of faults
pub record SourceState : Type 0 where
  pub left : List ℕ
  pub most : ℕ
  pub fails : List ℕ
  pub calls : ℕ
  pub faults : ℕ

-- the bytes that were taken, the room that is left, the calls that fail, and the counts
pub record SinkState : Type 0 where
  pub taken : List ℕ
  pub room : ℕ
  pub fails : List ℕ
  pub calls : ℕ
  pub faults : ℕ

-- the files, the calls that fail, and the counts
pub record ShelfState : Type 0 where
  pub files : Files
  pub fails : List ℕ
  pub calls : ℕ
  pub faults : ℕ

-- a shelf's state is stored as its parts
abbrev pub shelf_code : Coded ShelfState
shelf_code =
    let bytes : Coded (List ℕ) = coded_list coded_ℕ in
    code_by (Files × (List ℕ × (ℕ × ℕ)))
    (coded× (map.code bytes bytes) (coded× bytes (coded× coded_ℕ coded_ℕ)))
    (λ s. (s.files, (s.fails, (s.calls, s.faults))))
    (λ p. record { files = p.0; fails = p.1.0; calls = p.1.1.0; faults = p.1.1.1 })
    (λ _. refl)

-- the number of the next call is among those that fail
abbrev pub FailsNext : List ℕ → ℕ → Type 0
FailsNext fails calls = Contains fails (one_more calls)

-- a source after a read that gave n bytes
abbrev pub after_read : SourceState → ℕ → SourceState
after_read s n = record s { left = drop n s.left; calls = one_more s.calls }

-- a source after a read that failed
abbrev pub after_failed_read : SourceState → SourceState
after_failed_read s = record s { calls = one_more s.calls; faults = one_more s.faults }

-- the first half of a piece, rounded down
abbrev pub half_of : List ℕ → List ℕ
half_of piece = take (length piece / 2) piece

-- a sink after a put that appended some bytes
abbrev pub after_put : SinkState → List ℕ → SinkState
after_put s bytes = record s {
  taken = s.taken ++ bytes;
  room = s.room - length bytes;
  calls = one_more s.calls;
}

-- a sink after a put that failed and appended some bytes
abbrev pub after_failed_put : SinkState → List ℕ → SinkState
after_failed_put s bytes = record s {
  taken = s.taken ++ bytes;
  room = s.room - length bytes;
  calls = one_more s.calls;
  faults = one_more s.faults;
}

-- a shelf after a load that did not fail
abbrev pub after_load : ShelfState → ShelfState
after_load s = record s { calls = one_more s.calls }

-- a shelf after a load that did not give the file
abbrev pub after_load_fault : ShelfState → LoadFault → ShelfState
after_load_fault s Failed = record s { calls = one_more s.calls; faults = one_more s.faults }
after_load_fault s Missing = after_load s
after_load_fault s TooLong = after_load s
after_load_fault s Memory = after_load s
