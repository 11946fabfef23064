-- A pick of machines side by side: what it finds, what it leaves, and that it is one of its node's own machine.
use Rattle.std.proofs.Common.{◌≡◌, ℕ, ◌+◌, ◌*◌, ◌<◌, ◌≤◌, false, List, Some, refl, arith}
use Rattle.std.specs.Prelude.{slice_get}
use Rattle.tc_model.specs.declared.machine.PartNo.{PartNo}
use Rattle.tc_model.specs.declared.steps.Stepped.TheVariants as step
use Rattle.tc_model.specs.Run.{Rules, World, pick, with_pair}
use Rattle.tc_model.specs.Steps.{stepped}
use Rattle.call_steps.specs.Local.{Decided}
use Rattle.node_rules.specs.Beside.{Beside, beside, node_now, with_act}

-- A machine's thread whose next act doesn't wait moves, and leaves the pair of that act.
module _ {P L : Type 0} (one : Rules P L) (v : World P L) (t : ℕ) (x : L) (place : PartNo) (p : P) (at : slice_get v.locals t ≡ Some x)
    (want : one.want x ≡ Some place) (there : slice_get v.parts place.0 ≡ Some p) (goes : one.waits p x ≡ false) where
  pub own_moves : stepped one v t ≡ step.Moved
  own_moves = rw (at, want, there, goes) refl

  pub own_pick : pick one v t ≡ with_pair v place.0 t (one.after p x)
  own_pick = rw (at, want, there, goes) refl

module _ {P L : Type 0} (one : Rules P L) (answers : L → List Decided) (width huge : ℕ) (parts : List P) (locals : List (Beside L)) where
  abbrev r : Rules P (Beside L)
  r = beside one answers width huge parts locals

  -- what a pick that moves finds
  pub record IsMove (w : World P (Beside L)) (t : ℕ) : Type 0 where
    pub l : Beside L
    pub at : slice_get w.locals t ≡ Some l
    pub node : ℕ
    pub now : node_now l ≡ Some node
    pub x : L
    pub here : slice_get l.here node ≡ Some x
    pub place : PartNo
    pub want : one.want x ≡ Some place
    pub p : P
    pub there : slice_get w.parts (node * width + place.0) ≡ Some p
    pub goes : one.waits p x ≡ false

  module _ (w : World P (Beside L)) (t : ℕ) where
    pub moves : stepped r w t ≡ step.Moved → IsMove w t
    moves moved = grind (arith)

    -- and what it leaves
    module _ (m : IsMove w t) where
      abbrev pub act : P × L
      act = one.after m.p m.x

      abbrev pub left : Beside L
      left = with_act one answers width huge m.l m.node m.x act.1

      pub pick_is : pick r w t ≡ with_pair w (m.node * width + m.place.0) t (act.0, left)
      pick_is = rw (m.at, m.now, m.here, m.want, m.there, m.now, m.here, m.goes) refl

      pub does_move : stepped r w t ≡ step.Moved
      does_move = rw (m.at, m.now, m.here, m.want, m.there, m.now, m.here, m.goes) refl

-- Parts of different nodes have different numbers.
pub times_less : (j k n : ℕ) → j < k → j * n + n ≤ k * n
times_less j k n low = grind (arith)
