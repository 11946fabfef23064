-- No caches before the shards, as a front-end: it has no part, and no call comes to a row of it, so that small objects are
-- fetched from their shards and given back to them.
use Rattle.std.specs.Prelude.{◌≡◌, ℕ, Bool, true, false, List, [], map, All, None}
use Rattle.tc_units.specs.declared.spans.ClassRow.{ClassRow}
use Rattle.rseq_core.specs.declared.regs.Regs.{Regs}
use Rattle.no_caches.specs.declared.front.NoPart.{NoPart}
use Rattle.no_caches.specs.declared.front.NoRow.{NoRow}
use Rattle.no_caches.specs.declared.front.NoSeat.{NoSeat}
use Rattle.call_steps.specs.declared.step.Next.TheVariants.{End}
use Rattle.call_steps.specs.Calls.{About, Other}
use Rattle.call_steps.specs.Fronts.{FrontCalls, FrontRules}
use Rattle.alloc_rules.specs.Standings.{At, Away, Standing}

-- a thread knows nothing there
abbrev pub no_seat : NoSeat
no_seat = record {}

-- its row is about no call
abbrev pub about_none : NoRow → About
about_none row = Other None

-- calls begin and go on behind it, at none of its rows
abbrev pub no_calls : List ClassRow → FrontCalls NoSeat NoRow
no_calls rows =
    record {
      rows = rows;
      begins = λ v o. v;
      first = λ v a. None;
      to_first = λ g. g;
      rest = λ v s. None;
      to_rest = λ g. g;
      free = λ v f. None;
      to_free = λ g. g;
      other = λ v call. None;
      to_other = λ call g. g;
      last = λ v. None;
    }

abbrev pub no_caches : List ClassRow → FrontRules NoPart NoSeat NoRow
no_caches rows =
    record {
      parts = [];
      split = 0;
      seats = λ t. no_seat;
      calls = no_calls rows;
      place = λ v g row. 0;
      acts = λ p v g row. record { part = p; seat = v; regs = g; next = End };
      yields = λ p v g row. true;
      stored = λ p k n. 0;
      refuses = λ row answer. false;
    }

-- whether a thread stands at no row
abbrev pub is_away : At NoRow → Bool
is_away Away = true
is_away other = false

-- none comes to a row
abbrev pub Holds : ℕ → List NoPart → List (Standing NoSeat NoRow) → Type 0
Holds n ps us = All (λ (away : Bool). away ≡ true) (map (λ (u : Standing NoSeat NoRow). is_away u.at) us)

-- and nothing has to fit
abbrev pub fits : NoPart → NoSeat → Regs → NoRow → Type 0
fits p v g row = Unit {0}
