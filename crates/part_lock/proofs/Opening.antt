-- The rule holds at the start.
use Rattle.std.proofs.Common.{◌≡◌, ℕ, zero, suc, ◌<◌, ◌≤◌, List, map, replicate, All, []}
use Rattle.std.proofs.Common.{◌∷◌, length, get_or, refl, sym, ap, ◌∙◌, subst, arith, Some, option_map}
use Rattle.std.specs.List.{slice_get}
use Rattle.std.proofs.lemmas.List.{length-replicate, length-map}
use Rattle.std.proofs.lemmas.List.Elements.{All-get_or}
use Rattle.std.proofs.lemmas.Option.{slice_get-map, slice_get-get_or}
use mathlib.Core.Option.{some, some-ne-none, some-injective}
use lib.ListN.{get_elem?}
use Rattle.atomic_table.specs.Table.{opening}
use Rattle.atomic_table.proofs.Lists.{at_map, at_index}
use Rattle.tc_model.specs.Run.{Rules}
use Rattle.tc_model.proofs.Members.{has_none}
use Rattle.part_lock.specs.declared.view.Key.{Key}
use Rattle.part_lock.specs.declared.view.Stall.{Stall}
use Rattle.part_lock.specs.declared.view.View.{View}
use Rattle.part_lock.specs.Lock.{ticket_word, part_word, nowhere, Account, Fits, Kept, main_view, first_lead}
use Rattle.part_lock.proofs.Facts.{get_or_any, get_or-replicate_any}
use Rattle.part_lock.proofs.Later.{word}

module _ {P L : Type 0} where
  abbrev pub bare_account : Account P L
  bare_account = record { deeds = []; holder = λ _. 0; seat = λ _. 0; owner = λ _. nowhere }

module _ {P : Type 0} where
  home : (ys : List (Stall P)) (i : ℕ) → i < length ys → All (λ (x : Stall P). x.entries.items ≡ []) ys
      → (x : Stall P) × (get_elem? (map some ys) i ≡ some (some x)) × (x.entries.items ≡ []) × (slice_get (map (λ (x : Stall P). x.part) ys) i ≡ Some x.part)
  home [] i near bare = absurd (omega arith)
  home (y ∷ ys) i near bare =
      let x : Stall P = get_or (y ∷ ys) i y in (
        x,
        at_map some (y ∷ ys) i x (at_index (y ∷ ys) i x near (get_or_any (y ∷ ys) i y x near)),
        All-get_or (λ (x : Stall P). x.entries.items ≡ []) (y ∷ ys) i y near bare,
        slice_get-map (λ (x : Stall P). x.part) (y ∷ ys) i ∙ ap (option_map (λ (x : Stall P). x.part)) (slice_get-get_or (y ∷ ys) i y near),
      )

module _ {X P L : Type 0} where
  -- the rule holds at the start
  pub opens : (mach : X → Rules P L) (key : Key X) (ws : List ℕ) (xs : List (Stall P))
      → key.events ≤ 40000000 → ws ≡ replicate (part_word (length xs)) 0 → All (λ (x : Stall P). x.entries.items ≡ []) xs
      → map (λ (x : Stall P). x.part) xs ≡ (mach key.machine).parts → Kept {X = X} {P = P} {L = L} mach key (opening ws xs (main_view key))
  opens mach key ws xs few zeros bare begins =
      let zero_at : (i : ℕ) → word ws i ≡ 0 = λ i. ap (λ (z : List ℕ). word z i) zeros ∙ get_or-replicate_any (part_word (length xs)) i in
      let long : length (map some xs) ≡ length xs = length-map xs some in
      let many : length xs ≡ length (mach key.machine).parts = sym (length-map xs (λ (x : Stall P). x.part)) ∙ ap length begins in
      let z0 = zero_at 0 in let z1 = zero_at ticket_word in (
        few,
        bare_account,
        [],
        record {
          sized = omega (arith, ap length zeros, length-replicate {A = ℕ} (part_word (length xs)) 0);
          counted = long ∙ many;
          at_home = λ i h z. let o = home xs i (omega arith) bare in (o.0, o.1, o.2, ap (λ (l : List P). slice_get l i) (sym begins) ∙ o.3);
          away = λ i h z. absurd (z (zero_at (part_word i)));
          each = λ j v e. first j v e;
          chained = record { parts = λ i. tt; locals = λ t. tt; go = tt };
          rises = λ i. tt;
          steady = λ i. tt;
          owned = λ i d e. absurd (has_none d (i, e));
          leader = (first_lead key, refl, refl);
          once = tt;
          small = λ t h. absurd (has_none t h);
          standing = λ t h. absurd (has_none t h);
          bounded = omega arith;
          complete = λ i less low. omega arith;
          halting = (omega arith, (λ e. absurd (omega arith)), (λ e. absurd (omega arith)));
        },
      )
    where
      first : (j : ℕ) (v : View X P L) → get_elem? (main_view {P = P} {L = L} key ∷ []) j ≡ some v → Fits mach key.machine key.events ws (length (map some xs)) bare_account [] j v
      first zero v e = subst (λ (z : View X P L). Fits mach key.machine key.events ws (length (map some xs)) bare_account [] 0 z)
          (some-injective (main_view key) v e) (refl, refl, refl, refl, (λ w h. absurd (has_none w h)), tt)
      first (suc j) v e = absurd (some-ne-none v (sym e))
