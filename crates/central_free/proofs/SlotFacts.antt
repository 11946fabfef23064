-- Spans in slots: where the span of a slot stands in the order of first bytes, and what a change of a slot makes of the order.
use Rattle.std.proofs.Common.{◌≡◌, ◌≢◌, ℕ, zero, suc, ◌+◌, ◌-◌, ◌<◌, ◌≤◌, Bool, true, false, nat_lt, List, [], ◌∷◌}
use Rattle.std.proofs.Common.{length, get_or, set, map, Option, Some, None, unwrap_or, refl, sym, ◌∙◌, ap, inl, inr, arith}
use Rattle.std.specs.Prelude.{All}
use Rattle.std.specs.List.{remove}
use Rattle.std.specs.Map.{remove_entry}
use Rattle.std.specs.BTreeMap.{insert_entry, is_at}
use Rattle.std.specs.Ordering.{nat_cmp, is_eq, match_ordering}
use Rattle.std.specs.Cmp.{nat_cmp_is}
use Rattle.std.specs.declared.cmp.Ordering.{Ordering}
use Rattle.std.specs.declared.cmp.Ordering.TheVariants.{Less, Equal, Greater}
use Rattle.std.proofs.lemmas.List.{get_or-map, get_or-set_same, get_or-set_other, get_or_default, get_or_past, length-map, length-set, same_lists}
use Rattle.std.proofs.lemmas.List.Elements.{All-head, All-tail}
use Rattle.std.proofs.lemmas.List.Edits.{length-remove, get_or-remove_below, get_or-remove_above}
use Rattle.std.proofs.lemmas.Option.{none-some, same_Some}
use Rattle.std.proofs.lemmas.Bool.{cases_lt, cases_eq, cases_order, cond-true, cond-false, le-ltb, lt-ltb}
use Rattle.std.proofs.lemmas.Bool.Decides.{nat_tests}
use Rattle.tc_units.specs.Sorted.{with_item}
use Rattle.tc_units.specs.declared.spans.ClassRow.{ClassRow}
use Rattle.span_list.specs.Span.{SpanState, first_byte}
use Rattle.central_free.specs.declared.ranking.Standing.{Standing}
use Rattle.central_free.specs.Ranking.{no_standing, standing_at, IsBestSlot}
use Rattle.central_free.specs.Central.{IsSound, IsApartFrom, with_span}
use Rattle.central_free.specs.Slots.{weight, standing_of, standing_in, slot_at, span_at, no_span, spans_of, IsFiled, IsKept}
use Rattle.tc_units.proofs.SortedFacts.{All-with_item, Any-new, Any-old, map-with_item}
use Rattle.central_free.proofs.ChoiceFacts.{IsBestPlace}

-- the span at a place is that of the entry's slot
pub span_of_place : (slots : List (Option SpanState)) (entries : List (ℕ × ℕ)) (j : ℕ) (d : SpanState) (e : ℕ × ℕ)
    → j < length entries → get_or (spans_of slots entries) j d ≡ span_at slots (get_or entries j e).1
span_of_place slots entries j d e within = get_or-map (λ (x : ℕ × ℕ). span_at slots x.1) entries j e d within

-- there are as many spans as entries
many : (slots : List (Option SpanState)) (entries : List (ℕ × ℕ)) → length (spans_of slots entries) ≡ length entries
many slots entries = length-map entries (λ (x : ℕ × ℕ). span_at slots x.1)

pub nobody : ℕ × ℕ
nobody = (0, 0)

-- a slot has a span, which stands at a place, and no other entry has the slot
pub record StandsAt (slots : List (Option SpanState)) (entries : List (ℕ × ℕ)) (k : ℕ) (s : SpanState) (j : ℕ) : Type 0 where
  pub has : slot_at slots k ≡ Some s
  pub within : j < length entries
  pub listed : j < length (spans_of slots entries)
  pub entry : (d : ℕ × ℕ) → (get_or entries j d).1 ≡ k
  pub key : (d : ℕ × ℕ) → (get_or entries j d).0 ≡ first_byte s.span
  pub span : (d : SpanState) → get_or (spans_of slots entries) j d ≡ s
  pub alone : (i : ℕ) (d : ℕ × ℕ) → i < length entries → (get_or entries i d).1 ≡ k → i ≡ j

-- of two places the span at the lower one begins below the other
below : {row : ClassRow} {spans : List SpanState} → IsSound (record { row = row; spans = spans })
    → (i j : ℕ) (d : SpanState) → i < j → j < length spans → (get_or spans i d).span.first.0 < (get_or spans j d).span.first.0
below {row = row} {spans = spans} sound i j d less within = grind (arith)

-- two places whose spans are one are one
one_place : {row : ClassRow} {spans : List SpanState} → IsSound (record { row = row; spans = spans }) → (s : SpanState) (i j : ℕ)
    → i < length spans → j < length spans → ((d : SpanState) → get_or spans i d ≡ s) → ((d : SpanState) → get_or spans j d ≡ s) → i ≡ j
one_place {spans = spans} sound s i j within_i within_j is_i is_j =
    let first = ap (λ u. u.span.first.0) (is_i s ∙ sym (is_j s)) in
    elim (cases_order i j) [
      | inl equal ↦ equal
      | inr other ↦ elim other [ inl less ↦ absurd (omega (arith, first, below sound i j s less within_j)) | inr more ↦ absurd (omega (arith, first, below sound j i s more within_i)) ]
    ]

-- a slot with a span is one of the list
slot_within : (slots : List (Option SpanState)) (k : ℕ) (s : SpanState) → slot_at slots k ≡ Some s → k < length slots
slot_within slots k s has = grind (arith, nat_tests, none-some, get_or_past)

pub slot_at-set : (slots : List (Option SpanState)) (k : ℕ) (s t : SpanState) → slot_at slots k ≡ Some s → slot_at (set slots k (Some t)) k ≡ Some t
slot_at-set slots k s t has = get_or-set_same slots k (Some t) None (slot_within slots k s has)

-- one slot has something else now
record IsChanged (slots now : List (Option SpanState)) (k : ℕ) (o : Option SpanState) : Type 0 where
  here : slot_at now k ≡ o
  others : (m : ℕ) → m ≢ k → slot_at now m ≡ slot_at slots m

changed : (slots : List (Option SpanState)) (k : ℕ) (s : SpanState) (o : Option SpanState) → slot_at slots k ≡ Some s → IsChanged slots (set slots k o) k o
changed slots k s o has = record { here = get_or-set_same slots k o None (slot_within slots k s has); others = λ m other. get_or-set_other slots k m o None other }

module _ {slots now : List (Option SpanState)} {k : ℕ} {o : Option SpanState} (it : IsChanged slots now k o) where
  -- the entries of other slots are filed as they were
  still_filed : (e : ℕ × ℕ) → e.1 ≢ k → IsFiled slots e → IsFiled now e
  still_filed e other filed = record { has = rw (it.others e.1 other) filed.has; begins = rw (it.others e.1 other) filed.begins }

  still_span : (e : ℕ × ℕ) → e.1 ≢ k → span_at now e.1 ≡ span_at slots e.1
  still_span e other = ap (λ (u : Option SpanState). unwrap_or u no_span) (it.others e.1 other)

  -- each slot stands as what it has
  ranked_now : (ts : List Standing) → k < length ts → ((m : ℕ) → standing_at ts m ≡ standing_in (slot_at slots m))
      → (m : ℕ) → standing_at (set ts k (standing_in o)) m ≡ standing_in (slot_at now m)
  ranked_now ts inside ranked m = grind (arith, nat_tests, get_or-set_same, get_or-set_other)

  -- no slot behind the standings has a span
  room_now : (ts : List Standing) (t : Standing) → k < length ts
      → ((m : ℕ) → length ts ≤ m → slot_at slots m ≡ None) → (m : ℕ) → length (set ts k t) ≤ m → slot_at now m ≡ None
  room_now ts t inside room m past = let long = length-set ts k t in it.others m (λ clash. omega arith) ∙ room m (omega arith)

-- an entry that is taken out by its key
remove_entry-is : (test : ℕ → Bool) (es : List (ℕ × ℕ)) (j : ℕ) → j < length es
    → ((i : ℕ) (d : ℕ × ℕ) → i < j → test (get_or es i d).0 ≡ false) → ((d : ℕ × ℕ) → test (get_or es j d).0 ≡ true) → remove_entry test es ≡ remove es j
remove_entry-is test [] j within early here = absurd (omega arith)
remove_entry-is test (e ∷ es) zero within early here =
    cond-true (test e.0) es (e ∷ remove_entry test es) (here e)
remove_entry-is test (e ∷ es) (suc j) within early here =
    cond-false (test e.0) es (e ∷ remove_entry test es) (early 0 e (omega arith))
    ∙ ap (λ xs. e ∷ xs) (remove_entry-is test es j (omega arith) (λ i d less. early (suc i) d (omega arith)) here)

-- the key of an entry by another's
at_other : (q x : ℕ) → q ≢ x → is_at (nat_cmp q) x ≡ false
at_other q x other = grind (arith, cases_order)

at_same : (q x : ℕ) → q ≡ x → is_at (nat_cmp q) x ≡ true
at_same q x same = ap is_eq (sym (nat_cmp_is q x Equal same))

-- a list without a place, by index
without : (entries : List (ℕ × ℕ)) (j i : ℕ) (d : ℕ × ℕ) → j < length entries → i < length (remove entries j)
    → (m : ℕ) × (m < length entries) × (m ≢ j) × (get_or (remove entries j) i d ≡ get_or entries m d)
without entries j i d within less =
    grind (arith, nat_tests, length-remove entries j within, get_or-remove_below entries j d i, get_or-remove_above entries j d i)

-- a span in another's stead stands where that stood
pub spans_of-set : {slots : List (Option SpanState)} {entries : List (ℕ × ℕ)} {k : ℕ} {s : SpanState} {j : ℕ}
    → StandsAt slots entries k s j → (t : SpanState) → spans_of (set slots k (Some t)) entries ≡ set (spans_of slots entries) j t
spans_of-set {slots = slots} {entries = entries} {k = k} {s = s} {j = j} at t =
    let now = set slots k (Some t) in let it = changed slots k s (Some t) at.has in
    let long = many slots entries in let long_now = many now entries in
    same_lists (spans_of now entries) (set (spans_of slots entries) j t) (omega (arith, length-set (spans_of slots entries) j t)) (λ i d less.
    elim (cases_eq i j) [
      | inl same ↦ rw (same, get_or-set_same (spans_of slots entries) j t d at.listed, span_of_place now entries j d nobody at.within, at.entry nobody, it.here) refl
      | inr other ↦
          span_of_place now entries i d nobody (omega arith) ∙ still_span it (get_or entries i nobody) (λ clash. other (at.alone i nobody (omega arith) clash))
          ∙ sym (span_of_place slots entries i d nobody (omega arith)) ∙ sym (get_or-set_other (spans_of slots entries) j i t d other)
    ])

-- a span that leaves its slot leaves the list
pub spans_of-remove : {slots : List (Option SpanState)} {entries : List (ℕ × ℕ)} {k : ℕ} {s : SpanState} {j : ℕ}
    → StandsAt slots entries k s j → spans_of (set slots k None) (remove entries j) ≡ remove (spans_of slots entries) j
spans_of-remove {slots = slots} {entries = entries} {k = k} {s = s} {j = j} at =
    let now = set slots k None in let it = changed slots k s None at.has in
    let long = many slots entries in let long_now = many now (remove entries j) in
    let shorter = length-remove entries j at.within in let shorter_too = length-remove (spans_of slots entries) j at.listed in
    let same : (m : ℕ) (d : SpanState) → m < length entries → m ≢ j → span_at now (get_or entries m nobody).1 ≡ get_or (spans_of slots entries) m d = λ m d less differ.
    still_span it (get_or entries m nobody) (λ clash. differ (at.alone m nobody less clash)) ∙ sym (span_of_place slots entries m d nobody less) in
    same_lists (spans_of now (remove entries j)) (remove (spans_of slots entries) j) (omega arith) (λ i d less.
    elim (cases_lt i j) [
      | inl lower ↦
          span_of_place now (remove entries j) i d nobody (omega arith) ∙ ap (λ e. span_at now e.1) (get_or-remove_below entries j nobody i lower at.within)
          ∙ same i d (omega arith) (λ clash. omega arith) ∙ sym (get_or-remove_below (spans_of slots entries) j d i lower at.listed)
      | inr above ↦
          span_of_place now (remove entries j) i d nobody (omega arith) ∙ ap (λ e. span_at now e.1) (get_or-remove_above entries j nobody i above at.within)
          ∙ same (i + 1) d (omega arith) (λ clash. omega arith) ∙ sym (get_or-remove_above (spans_of slots entries) j d i above at.listed)
    ])

-- the entries with one more
abbrev pub with_entry : List (ℕ × ℕ) → ℕ → ℕ → List (ℕ × ℕ)
with_entry entries q k = with_item (λ (e : ℕ × ℕ). e.0) (q, k) entries

-- a map puts an entry whose key is new where the order of keys has it
pub insert_entry-is : (es : List (ℕ × ℕ)) (q v : ℕ)
    → ((i : ℕ) (d : ℕ × ℕ) → i < length es → (get_or es i d).0 ≢ q) → insert_entry nat_cmp es q v ≡ with_entry es q v
insert_entry-is [] q v new = refl
insert_entry-is (e ∷ es) q v new =
    let go = λ (o : Ordering). match_ordering o ((q, v) ∷ e ∷ es) ((e.0, v) ∷ es) (e ∷ insert_entry nat_cmp es q v) in
    let lower = nat_lt q e.0 in
    elim (cases_order q e.0) [
      | inl same ↦ absurd (new 0 e (omega arith) (sym same))
      | inr other ↦
          elim other [
            | inl less ↦
                ap go (sym (nat_cmp_is q e.0 Less less)) ∙ sym (cond-true lower ((q, v) ∷ e ∷ es) (e ∷ with_entry es q v) (lt-ltb q e.0 less))
            | inr more ↦
                ap go (sym (nat_cmp_is q e.0 Greater more)) ∙ ap (λ xs. e ∷ xs) (insert_entry-is es q v (λ i d within. new (suc i) d (omega arith)))
                ∙ sym (cond-false lower ((q, v) ∷ e ∷ es) (e ∷ with_entry es q v) (le-ltb q e.0 (omega arith)))
          ]
    ]

-- a span that comes into a slot that had none
pub record IsFilled (slots now : List (Option SpanState)) (k : ℕ) (s : SpanState) : Type 0 where
  pub vacant : slot_at slots k ≡ None
  pub has : slot_at now k ≡ Some s
  pub others : (m : ℕ) → m ≢ k → slot_at now m ≡ slot_at slots m

module _ {slots now : List (Option SpanState)} {k : ℕ} {s : SpanState} (filled : IsFilled slots now k s) where
  now_filled : IsChanged slots now k (Some s)
  now_filled = record { here = filled.has; others = filled.others }

  -- no entry that is filed has the slot
  elsewhere : (e : ℕ × ℕ) → IsFiled slots e → e.1 ≢ k
  elsewhere e filed same = none-some (span_at slots e.1) (sym filled.vacant ∙ ap (slot_at slots) (sym same) ∙ filed.has)

  -- the new slot's span, and those of the entries that were there
  filled_span : span_at now k ≡ s
  filled_span = ap (λ (o : Option SpanState). unwrap_or o no_span) filled.has

  still_spans : (entries : List (ℕ × ℕ)) → All (IsFiled slots) entries → spans_of now entries ≡ spans_of slots entries
  still_spans [] filed = refl
  still_spans (e ∷ es) filed =
      let mine = still_span now_filled e (elsewhere e (All-head (IsFiled slots) e es filed)) in let rest = still_spans es (All-tail (IsFiled slots) e es filed) in λ i. mine i ∷ rest i

module _ {slots : List (Option SpanState)} {entries : List (ℕ × ℕ)} {ts : List Standing} (kept : IsKept slots entries ts) where
  pub key_of_place : (j : ℕ) (d : ℕ × ℕ) (u : SpanState) → j < length entries → (get_or entries j d).0 ≡ first_byte (get_or (spans_of slots entries) j u).span
  key_of_place j d u less = sym (kept.filed j d less).begins ∙ ap (λ x. first_byte x.span) (sym (span_of_place slots entries j u d less))

  -- the weight of a place is that of its slot's standing
  weight_of_place : (i : ℕ) (e : ℕ × ℕ) → i < length entries → standing_at ts (get_or entries i e).1 ≡ standing_of (get_or (spans_of slots entries) i no_span)
  weight_of_place i e less =
      kept.ranked (get_or entries i e).1 ∙ ap standing_in (kept.filed i e less).has ∙ ap standing_of (sym (span_of_place slots entries i no_span e less))

  -- where no slot has a weight, no span has
  pub best_none-spans : IsBestSlot ts None → (j : ℕ) (d : SpanState) → j < length (spans_of slots entries) → weight (get_or (spans_of slots entries) j d) ≡ 0
  best_none-spans none j d less = grind (arith, many slots entries, get_or_default (spans_of slots entries) j d no_span less, weight_of_place j nobody, nobody)

  -- a slot with a span has a standing
  has_standing : (k : ℕ) (s : SpanState) → slot_at slots k ≡ Some s → k < length ts
  has_standing k s has = elim (cases_lt k (length ts)) [ inl less ↦ less | inr past ↦ absurd (none-some s (sym (kept.room k past) ∙ has)) ]

  -- all is kept where a span that begins as before takes another's stead
  pub IsKept-set : (k : ℕ) (s t : SpanState) → slot_at slots k ≡ Some s → t.span ≡ s.span → IsKept (set slots k (Some t)) entries (set ts k (standing_of t))
  IsKept-set k s t has same =
      let it = changed slots k s (Some t) has in let inside = has_standing k s has in
      grind (arith, nat_tests, still_filed it, it.others, room_now it ts (standing_of t) inside kept.room, ranked_now it ts inside kept.ranked)

  pub IsKept-remove : {k : ℕ} {s : SpanState} {j : ℕ} → StandsAt slots entries k s j → IsKept (set slots k None) (remove entries j) (set ts k no_standing)
  IsKept-remove {k = k} {s = s} {j = j} at =
      let it = changed slots k s None at.has in let inside = has_standing k s at.has in let shorter = length-remove entries j at.within in
      record {
        filed = λ i d less. (let m = without entries j i d at.within less in rw m.3 (still_filed it (get_or entries m.0 d) (λ clash. m.2 (at.alone m.0 d m.1 clash)) (kept.filed m.0 d m.1)));
        placed = λ m u has_u. (
            let other : m ≢ k = λ same. none-some u (sym it.here ∙ ap (slot_at (set slots k None)) (sym same) ∙ has_u) in
            let (i, e, less, there, is) = kept.placed m u (sym (it.others m other) ∙ has_u) in
            let apart : i ≢ j = λ same. other (sym is ∙ ap (λ x. x.1) (sym there) ∙ ap (λ n. (get_or entries n e).1) same ∙ at.entry e) in
            elim (cases_lt i j) [
              | inl lower ↦ (i, e, omega (arith, at.within), get_or-remove_below entries j e i lower at.within ∙ there, is)
              | inr above ↦ grind (arith, get_or-remove_above entries j e (i - 1))
            ]);
        room = room_now it ts no_standing inside kept.room;
        ranked = ranked_now it ts inside kept.ranked;
      }

  -- no span begins by its first byte yet
  pub new_key : (s : SpanState) → 0 < s.span.pages → All (λ t. 0 < t.span.pages) (spans_of slots entries) → All (IsApartFrom s.span) (spans_of slots entries)
      → (i : ℕ) (d : ℕ × ℕ) → i < length entries → (get_or entries i d).0 ≢ first_byte s.span
  new_key s some pages apart i d less same = grind (arith, many slots entries, key_of_place i d no_span less, apart i no_span, pages i no_span)

  module _ {now : List (Option SpanState)} {k : ℕ} {s : SpanState} (filled : IsFilled slots now k s) where
    old_filed : All (IsFiled now) entries
    old_filed = λ i d less. let f = kept.filed i d less in still_filed (now_filled filled) (get_or entries i d) (elsewhere filled (get_or entries i d) f) f

    pub spans_of-insert : spans_of now (with_entry entries (first_byte s.span) k) ≡ with_span s (spans_of slots entries)
    spans_of-insert =
        let new = filled_span filled in let byte : SpanState → ℕ = λ t. first_byte t.span in
        map-with_item (λ (e : ℕ × ℕ). span_at now e.1) (λ (e : ℕ × ℕ). e.0) byte (first_byte s.span, k) entries (ap byte new) (λ i d less. (old_filed i d less).begins)
        ∙ rw (new, still_spans filled entries kept.filed) refl

    pub IsKept-insert : (grown : List Standing) → ((m : ℕ) → standing_at grown m ≡ standing_at ts m) → length ts ≤ length grown
        → k < length grown → IsKept now (with_entry entries (first_byte s.span) k) (set grown k (standing_of s))
    IsKept-insert grown same longer inside =
        let q = first_byte s.span in let key : ℕ × ℕ → ℕ = λ e. e.0 in let it = now_filled filled in
        let here : IsFiled now (q, k) = record { has = rw filled.has refl; begins = rw filled.has refl } in
        record {
          filed = All-with_item key (IsFiled now) (q, k) entries here old_filed;
          placed = λ m u has_u. elim (cases_eq m k) [
            | inl new ↦ Any-new key (λ e. e.1 ≡ m) (q, k) entries (sym new)
            | inr other ↦ Any-old key (λ e. e.1 ≡ m) (q, k) entries (kept.placed m u (sym (filled.others m other) ∙ has_u))
          ];
          room = room_now it grown (standing_of s) inside (λ m past. kept.room m (omega arith));
          ranked = ranked_now it grown inside (λ m. same m ∙ kept.ranked m);
        }

  module _ {row : ClassRow} (sound : IsSound (record { row = row; spans = spans_of slots entries })) where
    -- where an entry has the slot
    pub stands_at : (k j : ℕ) (e : ℕ × ℕ) → j < length entries → (get_or entries j e).1 ≡ k → StandsAt slots entries k (span_at slots k) j
    stands_at k j e within is =
        let long = many slots entries in let filed = kept.filed j e within in
        let spot : (i : ℕ) (d : ℕ × ℕ) → i < length entries → (get_or entries i d).1 ≡ k → (u : SpanState) → get_or (spans_of slots entries) i u ≡ span_at slots k =
        λ i d less same u. span_of_place slots entries i u d less ∙ ap (span_at slots) same in
        record {
          has = rw is at filed.has;
          within = within;
          listed = omega arith;
          entry = λ d. ap (λ x. x.1) (get_or_default entries j d e within) ∙ is;
          key = λ d. ap (λ x. x.0) (get_or_default entries j d e within) ∙ sym (rw is at filed.begins);
          span = spot j e within is;
          alone = λ i d less same. one_place sound (span_at slots k) i j (omega arith) (omega arith) (spot i d less same) (spot j e within is);
        }

    -- where the span of a slot stands
    pub placed_at : (k : ℕ) (s : SpanState) → slot_at slots k ≡ Some s → (j : ℕ) × StandsAt slots entries k s j
    placed_at k s has = grind (arith, stands_at, same_Some)

    -- the place of the best slot's span has the first of the greatest weights
    pub best_place : {k : ℕ} {s : SpanState} {j : ℕ} → IsBestSlot ts (Some k) → StandsAt slots entries k s j → IsBestPlace (map weight (spans_of slots entries)) j
    best_place {k = k} {s = s} {j = j} best at =
        let spans = spans_of slots entries in let long = many slots entries in
        let mine : standing_at ts k ≡ standing_of s = ap (standing_at ts) (sym (at.entry nobody)) ∙ weight_of_place j nobody at.within ∙ ap standing_of (at.span no_span) in
        let weight_j : get_or (map weight spans) j 0 ≡ weight s = get_or-map weight spans j no_span 0 at.listed ∙ ap weight (at.span no_span) in
        let other : (i : ℕ) → i < length spans → standing_at ts (get_or entries i nobody).1 ≡ standing_of (get_or spans i no_span) = λ i less. weight_of_place i nobody (omega arith) in
        let weight_i : (i : ℕ) → i < length spans → get_or (map weight spans) i 0 ≡ weight (get_or spans i no_span) = λ i less. get_or-map weight spans i no_span 0 less in
        let top = ap (λ t. t.weight) mine in (
          omega (arith, weight_j, top, best.0),
          λ i. elim (cases_lt i (length spans)) [
            | inl less ↦ grind (arith, best.1 (get_or entries i nobody).1, nobody, weight_i i less, other i less)
            | inr past ↦ omega (arith, get_or_past (map weight spans) i 0 (omega (arith, length-map spans weight)))
          ],
          λ i early. (
              let less : i < length spans = omega (arith, at.listed) in
              elim (best.1 (get_or entries i nobody).1) [
                | inl more ↦ omega (arith, weight_j, weight_i i less, top, ap (λ t. t.weight) (other i less), more)
                | inr same ↦ grind (arith, at.span no_span, below sound i j no_span early at.listed, other i less)
              ]),
        )

    -- keys differ where places do
    keys_differ : (i j : ℕ) (d : ℕ × ℕ) → i < j → j < length entries → (get_or entries i d).0 ≢ (get_or entries j d).0
    keys_differ i j d less within same =
        let long = many slots entries in
        omega (arith, below sound i j no_span less (omega arith), key_of_place i d no_span (omega arith), key_of_place j d no_span within, same)

    -- the entry of a slot is the one with the first byte of its span
    pub entry_gone : {k : ℕ} {s : SpanState} {j : ℕ} → StandsAt slots entries k s j → remove_entry (is_at (nat_cmp (first_byte s.span))) entries ≡ remove entries j
    entry_gone {s = s} {j = j} at =
        let q = first_byte s.span in
        remove_entry-is (is_at (nat_cmp q)) entries j at.within (λ i d less. at_other q (get_or entries i d).0 (λ same. keys_differ i j d less at.within (sym same ∙ sym (at.key d))))
        (λ d. at_same q (get_or entries j d).0 (sym (at.key d)))
