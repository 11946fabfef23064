use Rattle.std.proofs.Common.{◌≡◌, ℕ, ◌*◌, ◌<◌, false, true, List, Bool, length, replicate, sym, ap, subst, ◌∙◌, arith}
use Rattle.free_ranges.specs.Bounds.{Bounds, Tells}
use Rattle.free_ranges.proofs.Bounded.{put_all, between_all}
use Rattle.free_ranges.proofs.Common.{length-replicate, Listing, IsListed}
use Rattle.free_ranges.proofs.Listed.{open_listed}
use Rattle.free_ranges.proofs.ranged.RangedBits.open.Goals as goal
use Rattle.free_ranges.proofs.ranged.RangedBits.open.Goals.{then-places-gt0, else-places-gt0}

room : (places : ℕ) (bounds : Bounds) → Tells (replicate places true) bounds → (places < length bounds.begins) × (places < length bounds.stops)
room places bounds tells = let size = length-replicate places true in (omega (arith, tells.begin_room), omega (arith, tells.stop_room))

pub note-requires-clause-begins : goal.note-requires-clause-begins
note-requires-clause-begins c = omega (arith, (room c.places-places.result c.in_ok-bounds.bounds c.in_ok-bounds.ensures).0)

pub note-requires-clause-stops : goal.note-requires-clause-stops
note-requires-clause-stops c = omega (arith, (room c.places-places.result c.in_ok-bounds.bounds c.in_ok-bounds.ensures).1)

pub invariant_of-result : goal.invariant_of-result
invariant_of-result c =
    let places : ℕ = c.places-places.result in
    let bits : c.in_ok-bits.bits ≡ replicate (64 * c.args.words) false = c.in_ok-bits.ensures in
    let row : replicate places false ≡ c.in_ok-bits.bits =
    ap (λ (n : ℕ). replicate n false) (c.places-places.ensures ∙ ap (λ (r : List Bool). length r) bits ∙ length-replicate (64 * c.args.words) false) ∙ sym bits in
    let told = λ (b : Bounds). Tells (replicate places false) b in
    let empty = ap (λ (l : Listing). l.ranges) c.in_ok-ranges.ensures in (
      subst (λ (r : List Bool). IsListed r c.add.new.self) row (open_listed places c.in_ok-ranges.ranges c.add.new.self empty c.add.ensures.ranges),
      subst (λ (r : List Bool). Tells r c.if-places-gt0.bounds) row (elim c.if-places-gt0.branch [
        | then-places-gt0 w ↦ subst told (sym w.bounds-is)
            (w.note.ensures (replicate places true) (replicate places false) c.in_ok-bounds.ensures (put_all places) (between_all places w.if-places-gt0.true))
        | else-places-gt0 w ↦
            (let none : places ≡ 0 = omega (arith, w.if-places-gt0.false) in
            let same : replicate places true ≡ replicate places false = ap (λ (n : ℕ). replicate n true) none ∙ ap (λ (n : ℕ). replicate n false) (sym none) in
            subst told (sym w.bounds-is) (subst (λ (r : List Bool). Tells r c.in_ok-bounds.bounds) same c.in_ok-bounds.ensures))
      ]),
    )
