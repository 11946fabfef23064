-- Machines of one kind side by side, one at each node: the parts of all, and of each thread a local at each node. A call acts
-- at the parts of its node alone.
use Rattle.std.specs.Prelude.{◌≡◌, ℕ, ◌+◌, ◌-◌, ◌*◌, ◌<◌, ◌==◌, true, false, List, [], ◌∷◌, ◌++◌, length, map, drop, Option, Some, None, option_map, slice_get, slice_set, if◌then◌else◌}
use Rattle.std.specs.Option.{option_and_then, option_flatten, option_map_or}
use Rattle.tc_model.specs.declared.machine.PartNo.{PartNo}
use Rattle.tc_model.specs.Run.{Rules, World, pick}
use Rattle.call_steps.specs.Local.{Decided}
use Rattle.node_rules.specs.Joined.{bytes_before, shifted}

-- a thread: what it has at each node, the nodes of its calls, how many of them have ended, how many acts it has done, and
-- its decided calls, whose addresses are told ones
pub record Beside (L : Type 0) : Type 0 where
  pub here : List L
  pub route : List ℕ
  pub ended : ℕ
  pub acts : ℕ
  pub answers : List Decided

-- the node of its call under way, and what it has there
abbrev pub node_now : {L : Type 0} → Beside L → Option ℕ
node_now l = slice_get l.route l.ended

abbrev pub local_now : {L : Type 0} → Beside L → Option L
local_now l = option_flatten (option_map (slice_get l.here) (node_now l))

-- a call that was decided at a node by the thread's act of this number
abbrev pub decided_at : ℕ → ℕ → ℕ → Decided → Decided
decided_at huge k act d = record { act = act; call = d.call; answer = shifted (bytes_before huge k) d.answer }

-- By the rules of one of these machines, how it keeps a thread's decided calls, how many parts it has and how many hugepages:
module _ {P L : Type 0} (one : Rules P L) (answers : L → List Decided) (width huge : ℕ) where
  -- the part that a thread wants, by its node
  abbrev pub part_at : ℕ → PartNo → PartNo
  part_at k place = record { 0 = k * width + place.0 }

  abbrev pub want_by : Beside L → Option ℕ → Option PartNo
  want_by l None = None
  want_by l (Some k) = option_and_then (λ x. option_map (part_at k) (one.want x)) (slice_get l.here k)

  -- an act leaves another local at its node, and what it decided is told of the thread
  abbrev pub with_act : Beside L → ℕ → L → L → Beside L
  with_act l k old new =
      record l {
        here = slice_set l.here k new;
        ended = l.ended + (one.done new - one.done old);
        acts = l.acts + 1;
        answers = l.answers ++ map (decided_at huge k l.acts) (drop (length (answers old)) (answers new));
      }

  abbrev pub after_by : P → Beside L → Option ℕ → P × Beside L
  after_by p l None = (p, l)
  after_by p l (Some k) = option_map_or (λ x. ((one.after p x).0, with_act l k x (one.after p x).1)) (slice_get l.here k) (p, l)

  -- the machine of these parts and threads; whether one waits, and whether its act is polite, is told by its node
  abbrev pub beside : List P → List (Beside L) → Rules P (Beside L)
  beside parts locals =
      record {
        parts = parts;
        locals = locals;
        want = λ l. want_by l (node_now l);
        done = λ l. l.ended;
        waits = λ p l. option_map_or (one.waits p) (local_now l) false;
        yields = λ p l. option_map_or (one.yields p) (local_now l) true;
        after = λ p l. after_by p l (node_now l);
      }

-- the node at which a thread's next act is
abbrev pub node_next : {P L : Type 0} → World P (Beside L) → ℕ → Option ℕ
node_next w t = option_flatten (option_map node_now (slice_get w.locals t))

-- the picks of an order that act at node k, from a world on
abbrev pub picks_from : {P L : Type 0} → Rules P (Beside L) → World P (Beside L) → ℕ → List ℕ → List ℕ
picks_from r w k [] = []
picks_from r w k (t ∷ ts) =
    let more = picks_from r (pick r w t) k ts in
    if option_map_or (λ j. j == k) (node_next w t) false then t ∷ more else more

-- A node's world is what these worlds side by side have there: its parts behind those of the nodes before it, and what each
-- thread has at it.
pub record IsNodeOf {P L : Type 0} (width k : ℕ) (w : World P (Beside L)) (one : World P L) : Type 0 where
  pub width_is : length one.parts ≡ width
  pub parts : (i : ℕ) → i < width → slice_get w.parts (k * width + i) ≡ slice_get one.parts i
  pub threads : length w.locals ≡ length one.locals
  pub locals : (t : ℕ) (l : Beside L) → slice_get w.locals t ≡ Some l → slice_get l.here k ≡ slice_get one.locals t
