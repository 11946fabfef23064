-- The rules of the relay, and their law.
use Rattle.std.specs.Prelude.{◌≡◌, ℕ, ◌+◌, ◌-◌, ◌%◌, ◌^◌, ◌<◌, ◌==◌, not, nat_lt, Bool, replicate, Option, Some, None, if◌then◌else◌}
use Rattle.std.proofs.Common.{refl, ap, get_or, cond, true, false, arith, mod-lt}
use Rattle.std.proofs.lemmas.List.{length-replicate}
use Rattle.std.proofs.lemmas.Option.{slice_get-get_or}
use Rattle.tc_model.specs.declared.machine.PartNo.{PartNo}
use Rattle.tc_model.specs.Run.{Rules, start, run}
use Rattle.tc_model.specs.Sound.{IsSound}
use Rattle.tc_model.proofs.Picks.{fold_sizes}
use Rattle.relay.specs.declared.machine.Lane.{Lane}
use Rattle.relay.specs.declared.machine.Runner.{Runner}
use Rattle.relay.specs.declared.machine.Relay.{Relay}

abbrev pub lane : ℕ → Lane
lane n = record { count = n }

abbrev pub lane_no : ℕ → PartNo
lane_no i = record { 0 = i }

abbrev pub relay_want : Relay → Runner → Option PartNo
relay_want m l = if l.left == 0 then None else Some (lane_no (l.left % m.lanes))

abbrev pub relay_after : Lane → Runner → Lane × Runner
relay_after p l = (lane ((p.count + 1) % 2 ^ 64), record { left = l.left - 1; from = l.from; shuns = l.shuns; breaks = l.breaks })

abbrev pub relay_rules : Relay → Rules Lane Runner
relay_rules m =
    record {
      parts = replicate m.lanes (lane 0);
      locals = m.runners.items;
      want = relay_want m;
      done = λ l. if l.left == 0 then 1 else 0;
      waits = λ p l. nat_lt p.count l.from;
      yields = λ p l. not (p.count == l.shuns);
      after = relay_after;
    }

abbrev part_of : Option PartNo → ℕ
part_of None = 0
part_of (Some p) = p.0

lane_there : (m : Relay) (l : Runner) (part : PartNo) (b : Bool) → (l.left == 0) ≡ b → cond {A = Option PartNo} b None (Some (lane_no (l.left % m.lanes))) ≡ Some part → part.0 < m.lanes
lane_there m l part true is want = absurd (cc)
lane_there m l part false is want =
    let low : l.left % m.lanes < m.lanes = mod-lt l.left m.some in
    let same : l.left % m.lanes ≡ part.0 = ap part_of want in
    omega arith

pub relay_sound : (m : Relay) → IsSound (relay_rules m) (λ p l. Unit {0})
relay_sound m order t is l part local want =
    let sizes = (fold_sizes (relay_rules m) (start (relay_rules m)) order).0 in
    let many = length-replicate m.lanes (lane 0) in
    let low = lane_there m l part (l.left == 0) refl want in
    record { part = get_or (run (relay_rules m) order).parts part.0 (lane 0); there = slice_get-get_or (run (relay_rules m) order).parts part.0 (lane 0) (omega arith); fit = tt }
