-- What the rule gives once every seat was joined.
use Rattle.std.proofs.Common.{◌≡◌, ◌≢◌, ℕ, zero, suc, ◌+◌, ◌<◌, ◌≤◌, List, map, [], ◌∷◌, length, Some, refl, sym, ap, ◌∙◌, subst, arith}
use Rattle.std.specs.List.{slice_get}
use Rattle.std.specs.Option.{option_map}
use Rattle.std.proofs.lemmas.List.{length-map}
use Rattle.std.proofs.lemmas.Option.{slice_get-map, slice_get_within, slice_get_past}
use mathlib.Core.Option.{Option, some, some-ne-none, some-injective}
use mathlib.Core.Logic.{dite}
use native.Mathlib.Decide.{ℕ_discrete, dec_lt}
use lib.ListN.{get_elem?}
use Rattle.atomic_table.specs.Table.{Final, Seen}
use Rattle.tc_model.specs.declared.board.Act.{Act}
use Rattle.tc_model.specs.declared.board.Entry.{Entry}
use Rattle.tc_model.specs.Run.{Rules, start, run}
use Rattle.tc_model.specs.Chains.{at, by, AreChainedFrom, threads_of}
use Rattle.tc_model.specs.Rises.{Has, Rising, ticket_of, Stands}
use Rattle.tc_model.proofs.Members.{same_some, has_none, filter_rises, map_from, map_to}
use Rattle.tc_model.proofs.Merges.{one_list, sort, sort_from, sort_to, sort_rises, sort_length}
use Rattle.tc_model.proofs.Merged.{merge_one}
use Rattle.tc_model.proofs.Longer.{all_go_by, polite_moves}
use Rattle.tc_model.proofs.Chained.{chained_from}
use Rattle.tc_model.proofs.Picks.{fold_sizes}
use Rattle.part_lock.specs.declared.view.Key.{Key}
use Rattle.part_lock.specs.declared.view.Stall.{Stall}
use Rattle.part_lock.specs.declared.view.Lead.{Lead}
use Rattle.part_lock.specs.declared.view.Stage.TheVariants.{Idle}
use Rattle.part_lock.specs.declared.view.Work.{Work}
use Rattle.part_lock.specs.declared.view.View.{View}
use Rattle.part_lock.specs.declared.view.View.TheVariants.{Leads, Works, Spent}
use Rattle.part_lock.specs.Closes.{IsClosed}
use Rattle.part_lock.specs.Lock.{part_word, Once, rank, Account, part_left, local_left, at_part, of_thread, entry_of, entries_at, thread_of}
use Rattle.part_lock.specs.Lock.{Names, Out, one, starved, lost, sum_of, drawn_in, weigh, total, Ties, Kept}
use Rattle.part_lock.proofs.Later.{word}
use Rattle.part_lock.proofs.Halting.{few_deeds, tickets_differ}
use Rattle.part_lock.proofs.Facts.{part_from, part_to, thread_from, thread_to, total_two, sum_one, rising_one}

module _ {P L : Type 0} where
  entries_rise : (ds : List (Act P L)) → Rising rank ds → Rising ticket_of (map entry_of ds)
  entries_rise [] r = tt
  entries_rise (d ∷ ds) r = (entries_rise ds r.0, λ e h. let o = map_from entry_of ds e h in let less = r.1 o.0 o.1 in let same : o.0.ticket ≡ e.ticket = ap ticket_of o.2 in omega arith)

  -- a list with the members of another, by ticket, has its filters where those rise
  module _ (ds es : List (Act P L)) (i : ℕ) (rise : Rising rank es) (from : (d : Act P L) → Has es d → Has ds d) (to : (d : Act P L) → Has ds d → Has es d) where
    part_sorted : Rising rank (at_part i ds) → at_part i ds ≡ at_part i es
    part_sorted r = one_list rank (at_part i ds) (at_part i es) r (filter_rises (at i) rank es rise)
        (λ d h. let o = part_from ds i d h in part_to es i d (to d o.0) o.1) (λ d h. let o = part_from es i d h in part_to ds i d (from d o.0) o.1)

    thread_sorted : Rising rank (of_thread i ds) → of_thread i ds ≡ of_thread i es
    thread_sorted r = one_list rank (of_thread i ds) (of_thread i es) r (filter_rises (by i) rank es rise)
        (λ d h. let o = thread_from ds i d h in thread_to es i d (to d o.0) o.1) (λ d h. let o = thread_from es i d h in thread_to ds i d (from d o.0) o.1)

-- lists that are alike at each place are one
pub same_lists : {A : Type 0} (xs ys : List A) → ((i : ℕ) → slice_get xs i ≡ slice_get ys i) → xs ≡ ys
same_lists [] [] same = refl
same_lists [] (y ∷ ys) same = absurd (let e = same 0 in (cc))
same_lists (x ∷ xs) [] same = absurd (let e = same 0 in (cc))
same_lists (x ∷ xs) (y ∷ ys) same = let e : x ≡ y = same_some x y (same 0) in let more = same_lists xs ys (λ i. same (suc i)) in λ j. e j ∷ more j

-- an item of a list, in either way to read it
at_either : {A : Type 0} (xs : List A) (i : ℕ) (a : A) → slice_get xs i ≡ Some a → get_elem? xs i ≡ some a
at_either [] zero a e = absurd (cc)
at_either [] (suc i) a e = absurd (cc)
at_either (x ∷ xs) zero a e = ap some (same_some x a e)
at_either (x ∷ xs) (suc i) a e = at_either xs i a e

pub there_is : {A : Type 0} (xs : List A) (i : ℕ) → i < length xs → (a : A) × (slice_get xs i ≡ Some a)
there_is [] i h = absurd (omega arith)
there_is (x ∷ xs) zero h = (x, refl)
there_is (x ∷ xs) (suc i) h = there_is xs i (omega arith)

map_some : {A B : Type 0} (f : A → B) (xs : List A) (i : ℕ) (x : A) → slice_get xs i ≡ Some x → slice_get (map f xs) i ≡ Some (f x)
map_some f xs i x e = slice_get-map f xs i ∙ ap (option_map f) e

map_at : {A B : Type 0} (f : A → B) (xs : List A) (i : ℕ) (b : B) → slice_get (map f xs) i ≡ Some b → (a : A) × (slice_get xs i ≡ Some a) × (f a ≡ b)
map_at f [] i b e = absurd (has_none b (i, e))
map_at f (x ∷ xs) zero b e = (x, refl, same_some (f x) b e)
map_at f (x ∷ xs) (suc i) b e = map_at f xs i b e

-- the main view's sum is the whole
module _ {X P L : Type 0} where
  total_none : (f : Work X P L → ℕ) (views : List (View X P L)) → ((j : ℕ) (v : View X P L) → get_elem? views j ≡ some v → weigh f v ≡ 0) → total f views ≡ 0
  total_none f [] none_is = refl
  total_none f (v ∷ vs) none_is = let here = none_is 0 v refl in let more = total_none f vs (λ j u e. none_is (suc j) u e) in omega arith

  total_main : (f : Work X P L → ℕ) (views : List (View X P L)) (m : Lead X P L) → get_elem? views 0 ≡ some (Leads m)
      → ((j : ℕ) (v : View X P L) → get_elem? views j ≡ some v → j ≢ 0 → weigh f v ≡ 0) → total f views ≡ sum_of f m.kept
  total_main f [] m at none_is = absurd (some-ne-none (Leads m) (sym at))
  total_main f (v ∷ vs) m at none_is =
      let here : weigh f v ≡ sum_of f m.kept = ap (weigh f) (some-injective v (Leads m) at) in
      let more = total_none f vs (λ j u e. none_is (suc j) u e (λ z. omega arith)) in omega arith

  lost_idle : (ws : List (Work X P L)) → ((w : Work X P L) → Has ws w → w.stage ≡ Idle) → sum_of lost ws ≡ sum_of starved ws
  lost_idle [] idle = refl
  lost_idle (w ∷ ws) idle = let here : drawn_in w.stage ≡ 0 = ap drawn_in (idle w (0, refl)) in let more = lost_idle ws (λ u h. idle u (suc h.0, h.1)) in omega arith

-- where as many were joined as have a seat
module _ {X P L : Type 0} {mach : X → Rules P L} {key : Key X} {words : List ℕ} {homes : List (Option (Stall P))} {views : List (View X P L)} {a : Account P L} {threads : List ℕ}
    (r : Ties mach key words homes views a threads) (m : Lead X P L) (at : get_elem? views 0 ≡ some (Leads m)) (all : length m.kept ≡ length threads) where
  -- no worker's view is left
  no_one : (j : ℕ) (w : Work X P L) → get_elem? views j ≡ some (Works w) → ⊥
  no_one j w e = grind (arith, total_two one views 0 j (Leads m) (Works w), sum_one m.kept)

  no_out : (i j : ℕ) → Out views j i → ⊥
  no_out i j o = grind (arith, no_one)

  -- so each part is at home
  home : (i : ℕ) → i < length homes → word words (part_word i) ≡ 0
  home i less = dite (ℕ_discrete (word words (part_word i)) 0) (λ z. z) (λ full. absurd (no_out i (a.holder i) (r.away i less full)))

  keeps_all : (t j : ℕ) (v : View X P L) → get_elem? views j ≡ some v → Names t v → (w : Work X P L) × Has m.kept w × (w.thread ≡ t)
  keeps_all t j (Leads q) e n = let same : q ≡ m = cc (some-injective (Leads q) (Leads m) (sym (rw (r.each j (Leads q) e).0 at e) ∙ at)) in rw (← same) n
  keeps_all t j (Works w) e n = absurd (no_one j w e)
  keeps_all t j Spent e n = absurd n

  no_weight : (f : Work X P L → ℕ) (j : ℕ) (v : View X P L) → get_elem? views j ≡ some v → j ≢ 0 → weigh f v ≡ 0
  no_weight f j (Leads q) e ne = absurd (ne (r.each j (Leads q) e).0)
  no_weight f j (Works w) e ne = absurd (no_one j w e)
  no_weight f j Spent e ne = refl

-- what the rule says of the table where every seat was joined
record Rested {X P L : Type 0} (mach : X → Rules P L) (key : Key X) (m : Lead X P L) (xs : List (Stall P)) (acts : List (Act P L)) : Type 0 where
  by_tickets : Rising rank acts
  near : (d : Act P L) → Has acts d → (d.ticket < key.events) × (d.place.0 < length xs) × Has m.threads d.thread
  few : length acts ≤ key.events
  chained : AreChainedFrom (mach key.machine) (start (mach key.machine)) acts
  counted : length xs ≡ length (mach key.machine).parts
  stalls : (i : ℕ) (x : Stall P) → slice_get xs i ≡ Some x → (part_left (mach key.machine) i (at_part i acts) ≡ Some x.part) × (x.entries.items ≡ entries_at i acts)
  seats : (w : Work X P L) → Has m.kept w → (w.made ≡ of_thread w.thread acts) × (local_left (mach key.machine) w.thread (of_thread w.thread acts) ≡ Some w.local)
  all : (t : ℕ) → Has m.threads t → (w : Work X P L) × Has m.kept w × (w.thread ≡ t)
  once : Once m.threads × Once (map thread_of m.kept)
  filled : (w : Work X P L) → Has m.kept w → w.cause ≡ 1 → key.events ≤ length acts + sum_of starved m.kept

module _ {X P L : Type 0} (mach : X → Rules P L) (key : Key X) (id : ℕ) where
  -- the acts by ticket
  rests : (m : Lead X P L) (words : List ℕ) (xs : List (Stall P)) → length m.kept ≡ length m.threads
      → Final (Seen (Kept {X = X} {P = P} {L = L} mach key) id (Leads m)) words xs → (acts : List (Act P L)) × Rested mach key m xs acts
  rests m words xs all fin =
      let (s, seen, _, long, homes) = fin in let kept = seen.0 in let r = kept.3 in let a : Account P L = kept.1 in
      let at : get_elem? s.views 0 ≡ some (Leads m) = rw (r.each id (Leads m) seen.1).0 at seen.1 in
      let (_, _, _, listed, knows, once) = r.each 0 (Leads m) at in let everyone = all ∙ ap length listed in
      let acts : List (Act P L) = sort rank a.deeds in
      let from : (d : Act P L) → Has acts d → Has a.deeds d = sort_from rank a.deeds in let to : (d : Act P L) → Has a.deeds d → Has acts d = sort_to rank a.deeds in
      let rise : Rising rank acts = sort_rises rank a.deeds (tickets_differ r) in
      let by_part : (i : ℕ) → at_part i a.deeds ≡ at_part i acts = λ i. part_sorted a.deeds acts i rise from to (r.rises i) in
      let by_thread : (t : ℕ) → of_thread t a.deeds ≡ of_thread t acts = λ t. thread_sorted a.deeds acts t rise from to (r.steady t) in
      let n = sort_length rank a.deeds in let most = few_deeds r in let count = r.counted in (
        acts,
        record {
          by_tickets = rise;
          near = λ d h. let o = from d h in let (_, _, low, named, place) = r.owned o.0 d o.1 in (low, omega arith, rw listed named);
          few = omega arith;
          chained = grind (arith, by_part, r.chained.parts, by_thread, r.chained.locals, all_go_by (mach key.machine) a.deeds acts r.chained.go from);
          counted = omega arith;
          stalls = λ i x e.
              let inside = slice_get_within xs i x e in let less : i < length s.homes = omega arith in
              let (y, there, entries, part) = r.at_home i less (home r m at everyone i less) in let is : x ≡ y = some-injective x y (sym (at_either xs i x e) ∙ homes i y there) in
              rw (is, ← by_part i) (part, entries);
          seats = λ w h. let (_, _, _, local, made, _, _) = (knows w h).0 in rw (← by_thread w.thread) (made, local);
          all = λ t h. let o = r.standing t (rw listed at h) in keeps_all r m at everyone t (a.seat t) o.0 o.1 o.2;
          once = (rw listed r.once, once);
          filled = λ w h cause.
              let (_, _, _, _, _, _, caused) = (knows w h).0 in let met = caused.2 cause in
              let sum = total_main lost s.views m at (no_weight r m at everyone lost) in let idle = lost_idle m.kept (λ u g. (knows u g).2) in
              omega (arith, r.complete key.events (omega arith) (omega arith));
        },
      )

  -- where every seat was joined, the parts are those of the run of the merge of all entries
  pub closes : (m : Lead X P L) (words : List ℕ) (xs : List (Stall P)) → length m.kept ≡ length m.threads → Final (Seen (Kept {X = X} {P = P} {L = L} mach key) id (Leads m)) words xs
      → IsClosed mach key m (map (λ (x : Stall P). x.part) xs) (map (λ (x : Stall P). x.entries.items) xs)
  closes m words xs all fin =
      let rested = rests m words xs all fin in let acts : List (Act P L) = rested.0 in let q = rested.1 in
      let r : Rules P L = mach key.machine in let order : List ℕ = threads_of acts in let law = chained_from r (start r) acts q.chained in
      let part : Stall P → P = λ x. x.part in let items : Stall P → List Entry = λ x. x.entries.items in
      let parts : List P = map part xs in let lists : List (List Entry) = map items xs in
      let long = length-map xs part in let sizes = (fold_sizes r (start r) order).0 in let count = q.counted in
      let list_of : (i : ℕ) (es : List Entry) → slice_get lists i ≡ Some es → es ≡ entries_at i acts = λ i es at. let o = map_at items xs i es at in sym o.2 ∙ (q.stalls i o.0 o.1).1 in
      let entry_at : (i : ℕ) (es : List Entry) (e : Entry) → slice_get lists i ≡ Some es → Has es e → (d : Act P L) × Has acts d × (d.place.0 ≡ i) × (entry_of d ≡ e) = λ i es e at h.
      let o = map_from entry_of (at_part i acts) e (rw (list_of i es at) at h) in let p = part_from acts i o.0 o.1 in (o.0, p.0, p.1, o.2) in
      let stands : (d : Act P L) → Has acts d → Stands lists (entry_of d) = λ d h.
      let x = there_is xs d.place.0 (q.near d h).1 in
      record {
        place = d.place.0;
        list = x.0.entries.items;
        there = map_some items xs d.place.0 x.0 x.1;
        has = rw (q.stalls d.place.0 x.0 x.1).1 (map_to entry_of (at_part d.place.0 acts) d (part_to acts d.place.0 d h refl));
      } in
      record {
        acts = acts;
        by_tickets = q.by_tickets;
        near = λ d h. let p = q.near d h in (p.0, omega (arith, p.1), p.2);
        few = q.few;
        chained = q.chained;
        listed = list_of;
        apart = record {
          rise = λ i es there. rw (list_of i es there) (entries_rise (at_part i acts) (filter_rises (at i) rank acts q.by_tickets));
          once = λ i j es fs a b at at' ha hb same.
              let (c, c_in, c_at, c_is) = entry_at i es a at ha in let (d, d_in, d_at, d_is) = entry_at j fs b at' hb in
              let e : c ≡ d = rising_one rank acts q.by_tickets c d c_in d_in (ap ticket_of c_is ∙ (same ∙ sym (ap ticket_of d_is))) in
              sym c_at ∙ (ap (λ (z : Act P L). z.place.0) e ∙ d_at);
        };
        merged = λ es is. merge_one lists es (map entry_of acts) is (entries_rise acts q.by_tickets)
            (λ e h. let o = map_from entry_of acts e h in subst (Stands lists) o.2 (stands o.0 o.1))
            (λ e st. let o = entry_at st.place st.list e st.there st.has in subst (Has (map entry_of acts)) o.3 (map_to entry_of acts o.0 o.1));
        polite = law.0;
        moves = polite_moves r (start r) order law.0;
        ends = same_lists parts (run r order).parts (λ i. dite (dec_lt i (length xs))
            (λ less. let x = there_is xs i less in map_some part xs i x.0 x.1 ∙ sym (law.1.parts i ∙ (q.stalls i x.0 x.1).0))
            (λ past. slice_get_past parts i (omega arith) ∙ sym (slice_get_past (run r order).parts i (omega arith))));
        lists = length-map xs items ∙ sym long;
        seats = λ w h. let s = q.seats w h in (s.0, law.1.locals w.thread ∙ s.1);
        all = q.all;
        once = q.once;
        filled = q.filled;
      }

  pub closes_as : (v : View X P L) (m : Lead X P L) (words : List ℕ) (xs : List (Stall P)) → v ≡ Leads m
      → length m.kept ≡ length m.threads → Final (Seen (Kept {X = X} {P = P} {L = L} mach key) id v) words xs
      → IsClosed mach key m (map (λ (x : Stall P). x.part) xs) (map (λ (x : Stall P). x.entries.items) xs)
  closes_as v m words xs is all fin = closes m words xs all (subst (λ (z : View X P L). Final (Seen (Kept mach key) id z) words xs) is fin)

module _ {X P L : Type 0} where
  pub leads_same : (a b : Lead X P L) (u : View X P L) → u ≡ Leads a → u ≡ Leads b → a ≡ b
  leads_same a b u e f = cc

  pub all_same : (a b : Lead X P L) → a ≡ b → length a.kept ≡ length a.threads → length b.kept ≡ length b.threads
  all_same a b e h = rw e at h
