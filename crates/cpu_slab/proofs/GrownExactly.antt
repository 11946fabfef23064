-- A capacity grows exactly where the rule lets it, by how much it says.
use Rattle.std.proofs.Common.{◌≡◌, ◌≢◌, ℕ, ◌+◌, ◌-◌, ◌<◌, ◌≤◌, true, false, eqb, leb, cond, List, length, map, get_or, Option, Some, None, unwrap_or}
use Rattle.std.proofs.Common.{option_map, option_and_then, refl, sym, ap, subst, ◌∙◌, inl, inr, arith}
use Rattle.std.specs.Int.{div_ceil}
use Rattle.std.specs.Prelude.{slice_set}
use Rattle.std.proofs.lemmas.Bool.{cases_Bool, cases_lt, le-leb, leb-true, lt-leb}
use Rattle.std.proofs.lemmas.Bool.Decides.{nat_tests}
use Rattle.cpu_slab.specs.declared.marks.Unused.{Unused}
use Rattle.cpu_slab.specs.Slots.{SlabRow, CpuSlab, no_row, row_at}
use Rattle.cpu_slab.specs.Growth.{rise, unused, victim, IsVictim, given_up, roomy, widened, growth, grown}
use Rattle.cpu_slab.specs.Grows.{needed, spare, CanGiveUp, MayGrow, GrowsExactly, GrowthIsExact}
use Rattle.cpu_slab.specs.Sound.{IsSoundSlab}
use Rattle.cpu_slab.proofs.SlabFacts.{row_other, row_same}
use Rattle.cpu_slab.proofs.GrowthFacts.{IsOther, IsRoomyIf, roomy_ok, victim_other}
use Rattle.cpu_slab.proofs.BestVictim.{victims_best}

-- there is one victim
not_lower : (k : ℕ) (ns : List ℕ) (a b : Unused) → IsVictim k ns a → IsVictim k ns b → a.class < b.class → ⊥
not_lower k ns a b one other low = omega (arith, other.least a.class low one.other, one.most b.class other.there other.other, one.is, other.is)

same_class : (k : ℕ) (ns : List ℕ) (a b : Unused) → IsVictim k ns a → IsVictim k ns b → a.class ≡ b.class
same_class k ns a b one other =
    let up : b.class ≤ a.class = elim (cases_lt a.class b.class) [ inl low ↦ absurd (not_lower k ns a b one other low) | inr high ↦ high ] in
    let down : a.class ≤ b.class = elim (cases_lt b.class a.class) [ inl low ↦ absurd (not_lower k ns b a other one low) | inr high ↦ high ] in
    omega (arith, up, down)

one_victim : (k : ℕ) (ns : List ℕ) (a b : Unused) → IsVictim k ns a → IsVictim k ns b → a ≡ b
one_victim k ns a b one other =
    let c = same_class k ns a b one other in
    let bytes : a.bytes ≡ b.bytes = sym one.is ∙ (ap (λ i. get_or ns i 0) c ∙ other.is) in
    grind (arith)

victim_by : (k : ℕ) (ns : List ℕ) (best : Unused) (o : Option Unused) → victim k 0 ns ≡ o → IsVictim k ns best → victim k 0 ns ≡ Some best
victim_by k ns best None is one = absurd (one.other ((victims_best k ns).1 is best.class one.there))
victim_by k ns best (Some other) is one = is ∙ ap (λ u. Some u) (one_victim k ns other best ((victims_best k ns).0 other is) one)

victim_is : (k : ℕ) (ns : List ℕ) (best : Unused) → IsVictim k ns best → victim k 0 ns ≡ Some best
victim_is k ns best one = victim_by k ns best (victim k 0 ns) refl one

module _ (slab : CpuSlab) (k : ℕ) where
  abbrev ns : List ℕ
  ns = map unused slab.rows

  abbrev gives : Option Unused → Option (List SlabRow)
  gives o = option_and_then (λ (best : Unused). given_up slab.rows best.class (div_ceil (needed slab k - spare slab) (row_at slab best.class).size)) o

  -- where the budget has the bytes, or another class can give them up, there is room
  room_there : (needed slab k ≤ spare slab) → roomy slab k (needed slab k) ≡ Some slab.rows
  room_there enough = grind (arith, nat_tests)

  room_given : CanGiveUp slab k → (rows : List SlabRow) × (roomy slab k (needed slab k) ≡ Some rows)
  room_given can = elim (cases_lt (spare slab) (needed slab k)) [
    | inr enough ↦ (slab.rows, room_there enough)
    | inl more ↦
        (let row : SlabRow = row_at slab can.best.class in
        let s : ℕ = div_ceil (needed slab k - spare slab) row.size in
        let rows : List SlabRow = slice_set slab.rows can.best.class (record row { cap = row.cap - s }) in
        let over : leb (needed slab k) (spare slab) ≡ false = lt-leb (needed slab k) (spare slab) more in
        let fits : leb s (row.cap - row.top) ≡ true = le-leb s (row.cap - row.top) can.enough in
        (rows, ap (λ b. cond b (Some slab.rows) (gives (victim k 0 ns))) over ∙ (ap gives (victim_is k ns can.best can.victim) ∙ ap (λ b. cond b (Some rows) None) fits)))
  ]

  -- so the class grows by its rise
  grown_rows : (rows : List SlabRow) → 0 < rise (row_at slab k) → roomy slab k (needed slab k) ≡ Some rows → (grown slab k).rows ≡ widened k rows
  grown_rows rows some is = grind (arith, nat_tests)

  wider : (rows : List SlabRow) → k < length rows → get_or rows k no_row ≡ row_at slab k → (get_or (widened k rows) k no_row).cap ≡ (row_at slab k).cap + rise (row_at slab k)
  wider rows low same =
      let row : SlabRow = get_or rows k no_row in
      ap (λ (x : SlabRow). x.cap) (row_same rows k (record row { cap = row.cap + rise row }) low) ∙ ap (λ (x : SlabRow). x.cap + rise x) same

  module _ (low : k < length slab.rows) (sound : IsSoundSlab slab) where
    grows_to : (rows : List SlabRow) → 0 < rise (row_at slab k) → roomy slab k (needed slab k) ≡ Some rows → (row_at (grown slab k) k).cap ≡ (row_at slab k).cap + rise (row_at slab k)
    grows_to rows some is =
        let ok : IsRoomyIf slab k (needed slab k) (Some rows) = subst (IsRoomyIf slab k (needed slab k)) is (roomy_ok slab k (needed slab k) sound) in
        ap (λ xs. (get_or xs k no_row).cap) (grown_rows rows some is) ∙ wider rows (omega (arith, low, ok.keeps.classes)) ok.same

    grows : MayGrow slab k → (row_at (grown slab k) k).cap ≡ (row_at slab k).cap + rise (row_at slab k)
    grows may = elim may.bytes [
      | inl enough ↦ grows_to slab.rows may.slots (room_there enough)
      | inr gives ↦ (let room = room_given gives in grows_to room.0 may.slots room.1)
    ]

    -- and where the rule doesn't let it, nothing changes
    none_given : (o : Option Unused) → victim k 0 ns ≡ o → (CanGiveUp slab k → ⊥) → gives o ≡ None
    none_given None is not = refl
    none_given (Some best) is not =
        let row : SlabRow = row_at slab best.class in
        let s : ℕ = div_ceil (needed slab k - spare slab) row.size in
        elim (cases_Bool (leb s (row.cap - row.top))) [
          | inl fits ↦ absurd (not (record { best = best; victim = (victims_best k ns).0 best is; enough = leb-true s (row.cap - row.top) fits }))
          | inr over ↦ ap (λ b. cond b (Some (slice_set slab.rows best.class (record row { cap = row.cap - s }))) None) over
        ]

    none_roomy : (MayGrow slab k → ⊥) → 0 < rise (row_at slab k) → roomy slab k (needed slab k) ≡ None
    none_roomy not some = elim (cases_Bool (leb (needed slab k) (spare slab))) [
      | inl enough ↦ absurd (not (record { slots = some; bytes = inl (leb-true (needed slab k) (spare slab) enough) }))
      | inr over ↦ ap (λ b. cond b (Some slab.rows) (gives (victim k 0 ns))) over ∙ none_given (victim k 0 ns) refl (λ can. not (record { slots = some; bytes = inr can }))
    ]

    none_grown : (MayGrow slab k → ⊥) → growth slab k ≡ None
    none_grown not = elim (cases_lt 0 (rise (row_at slab k))) [
      | inl some ↦ grind (arith, nat_tests, none_roomy)
      | inr none ↦ grind (arith, nat_tests)
    ]

    -- no other class has more
    lowered : (rows : List SlabRow) (v s j : ℕ) → v < length rows → (get_or (slice_set rows v (record (get_or rows v no_row) { cap = (get_or rows v no_row).cap - s })) j no_row).cap ≤ (get_or rows j no_row).cap
    lowered rows v s j there = grind (arith, row_same, row_other)

    gave_less : (o : Option Unused) (rows : List SlabRow) (j : ℕ) → IsOther k (length slab.rows) o → gives o ≡ Some rows → (get_or rows j no_row).cap ≤ (row_at slab j).cap
    gave_less None rows j is same = absurd (cc)
    gave_less (Some best) rows j is same = grind (arith, cases_Bool, lowered)

    roomy_less : (rows : List SlabRow) (j : ℕ) → roomy slab k (needed slab k) ≡ Some rows → (get_or rows j no_row).cap ≤ (row_at slab j).cap
    roomy_less rows j is = elim (cases_Bool (leb (needed slab k) (spare slab))) [
      | inl enough ↦ (let e : Some slab.rows ≡ Some rows = sym (ap (λ b. cond b (Some slab.rows) (gives (victim k 0 ns))) enough) ∙ is in let same : slab.rows ≡ rows = cc in omega (arith, ap (λ (xs : List SlabRow). (get_or xs j no_row).cap) same))
      | inr over ↦ gave_less (victim k 0 ns) rows j (victim_other slab.rows k) (sym (ap (λ b. cond b (Some slab.rows) (gives (victim k 0 ns))) over) ∙ is)
    ]

    grown_less : (o : Option (List SlabRow)) (j : ℕ) → j ≢ k → ((rows : List SlabRow) → o ≡ Some rows → (get_or rows j no_row).cap ≤ (row_at slab j).cap)
        → (get_or (unwrap_or (option_map (widened k) o) slab.rows) j no_row).cap ≤ (row_at slab j).cap
    grown_less None j apart less = omega arith
    grown_less (Some rows) j apart less = let row : SlabRow = get_or rows k no_row in omega (arith, less rows refl, ap (λ (x : SlabRow). x.cap) (row_other rows k j (record row { cap = row.cap + rise row }) apart))

    others : (j : ℕ) → j ≢ k → (row_at (grown slab k) j).cap ≤ (row_at slab j).cap
    others j apart = elim (cases_Bool (eqb (rise (row_at slab k)) 0)) [
      | inl none ↦ omega (arith, ap (λ b. (get_or (unwrap_or (cond b None (option_map (widened k) (roomy slab k (needed slab k)))) slab.rows) j no_row).cap) none)
      | inr some ↦ omega (arith, ap (λ b. (get_or (unwrap_or (cond b None (option_map (widened k) (roomy slab k (needed slab k)))) slab.rows) j no_row).cap) some, grown_less (roomy slab k (needed slab k)) j apart (λ rows is. roomy_less rows j is))
    ]

pub grown_exactly : GrowthIsExact
grown_exactly slab k low sound =
    record {
      grows = grows slab k low sound;
      stays = λ not. ap (λ (o : Option (List SlabRow)). record slab { rows = unwrap_or o slab.rows }) (none_grown slab k low sound not);
      others = others slab k low sound;
    }

-- A rule by which no class ever grows does less, where one may.
pub never_grows : (slab : CpuSlab) (k : ℕ) → MayGrow slab k → GrowsExactly slab k slab → ⊥
never_grows slab k may grows = omega (arith, may.slots, grows.grows may)
