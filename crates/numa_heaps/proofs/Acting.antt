-- An act of a thread at the node of its call, as the machine of all nodes has it.
use Rattle.std.proofs.Common.{◌≡◌, ℕ, zero, suc, ◌+◌, ◌-◌, ◌<◌, ◌≤◌, Bool, true, false, cond, List, [], ◌∷◌, ◌++◌, length}
use Rattle.std.proofs.Common.{map, drop, get_or, Option, Some, None, IsSomeAnd, refl, sym, ap, ◌∙◌, subst, arith}
use Rattle.std.specs.Prelude.{slice_get, slice_set, option_map}
use Rattle.std.specs.Option.{option_to_list}
use Rattle.std.proofs.lemmas.List.{map-append}
use Rattle.tc_units.specs.declared.spans.ClassRow.{ClassRow}
use Rattle.tc_model.specs.Input.{Input}
use Rattle.tc_model.specs.declared.machine.Acted.TheVariants as act
use Rattle.tc_model.specs.declared.machine.Acted.{Acted}
use Rattle.tc_model.specs.Steps.{acted}
use Rattle.tc_model.specs.Run.{tried}
use Rattle.call_steps.specs.Local.{Decided}
use Rattle.alloc_rules.specs.Fits.{Fits}
use Rattle.alloc_rules.specs.Machine.{after, waits}
use Rattle.no_caches.specs.NoCaches.{no_caches, about_none, fits}
use Rattle.call_steps.specs.declared.setting.Setting.{Setting}
use Rattle.alloc_rules.specs.Inputs.{setting_of}
use Rattle.numa_heaps.specs.declared.local.Told.{Told}
use Rattle.numa_heaps.specs.declared.local.Change.{Change}
use Rattle.numa_heaps.specs.declared.nodes.NodeNo.{NodeNo}
use Rattle.node_rules.specs.Beside.{Beside, node_now, local_now, decided_at}
use Rattle.numa_heaps.specs.Local.{decided_of, thread_of, IsGone}
use Rattle.node_rules.specs.Numa.{NodeLocal, NodePart, numa_rules}
use Rattle.node_rules.specs.NumaLaw.{FitsThread, IsOneAct}
use Rattle.numa_heaps.specs.declared.local.NumaLocal.TheInside.{Inside}
use Rattle.numa_heaps.specs.declared.local.NumaLocal.TheView.{view}

-- what is behind n of at most one more
pub one_new : (huge k act n : ℕ) (ds : List Decided) (told : Told) → n < length ds → length ds ≤ n + 1
    → ((d : Decided) → slice_get ds n ≡ Some d → decided_of told ≡ decided_at huge k act d) → decided_of told ∷ [] ≡ map (decided_at huge k act) (drop n ds)
one_new huge k act n [] told some few is = absurd (omega (arith, some))
one_new huge k act zero (d ∷ []) told some few is = ap (λ (e : Decided). e ∷ []) (is d refl)
one_new huge k act zero (d ∷ e ∷ more) told some few is = absurd (omega (arith, few))
one_new huge k act (suc n) (d ∷ ds) told some few is = one_new huge k act n ds told (omega (arith, some)) (omega (arith, few)) is

-- what is at a place where something stands
some_at : {X : Type 0} (P : X → Type 0) (xs : List X) (i : ℕ) (x : X) → IsSomeAnd (slice_get xs i) P → x ≡ get_or xs i x → slice_get xs i ≡ Some x
some_at P [] i x there is = absurd there
some_at P (y ∷ ys) zero x there is = ap (λ z. Some z) (sym is)
some_at P (y ∷ ys) (suc i) x there is = some_at P ys i x there is

-- What a thread has at the node of its call under way, as the code keeps the thread.
pub record IsAt (s : Inside) (self : Beside NodeLocal) (k : ℕ) (x : NodeLocal) : Type 0 where
  pub seen : view s ≡ self
  pub node : node_now (view s) ≡ Some k
  pub here : slice_get s.here.items k ≡ Some x
  pub now : local_now self ≡ Some x

pub at_node : (s : Inside) {rows : List ClassRow} {p : NodePart} {self : Beside NodeLocal} {o : Option NodeNo} {node : NodeNo} {k : ℕ} {x : NodeLocal}
    → view s ≡ self → FitsThread rows p self → o ≡ Some node → node_now self ≡ option_map (λ (n : NodeNo). n.0) o → k ≡ node.0 → x ≡ get_or s.here.items k x
    → IsAt s self k x
at_node s {rows} {p} {self} {k = k} {x = x} seen fit some now place item =
    let node : node_now (view s) ≡ Some k = ap (λ (l : Beside NodeLocal). node_now l) seen ∙ (now ∙ rw (some, place)) in
    let local : local_now self ≡ slice_get s.here.items k = ap (λ (l : Beside NodeLocal). local_now l) (sym seen) ∙ rw node in
    let here = some_at (Fits rows fits p) s.here.items k x (subst (λ o. IsSomeAnd o (Fits rows fits p)) local fit.now) item in
    record { seen = seen; node = node; here = here; now = local ∙ here }

-- An act there: where it waits all stays, and else it leaves what the rules of all nodes say.
module _ (nodes : ℕ) (input : Input) (p : NodePart) {s : Inside} {self : Beside NodeLocal} {k : ℕ} {x : NodeLocal} (at : IsAt s self k x) where
  waits_is : (numa_rules nodes input).waits p (view s) ≡ waits p x
  waits_is = rw (at.node, at.here)

  pub stays : waits p x ≡ true → (let pair : NodePart × Beside NodeLocal = (p, view s) in tried (numa_rules nodes input) p self ≡ pair)
  stays wait =
      let all : (numa_rules nodes input).waits p (view s) ≡ true = waits_is ∙ wait in
      ap (tried (numa_rules nodes input) p) (sym at.seen) ∙ rw all

  pub leaves : {setting : Setting} {q : NodePart} {y : NodeLocal} {change : Change} → setting_of input ≡ setting → IsGone setting k s.acts p x q y change
      → (let left : NodePart × Beside NodeLocal =
      (q, thread_of (slice_set s.here.items k y) s.route (s.place + change.ended) (s.acts + 1) (s.answers.items ++ option_to_list change.told)) in
      tried (numa_rules nodes input) p self ≡ left)
  leaves {q = q} {y = y} {change = change} same was =
      let gone = subst (λ (m : Setting). IsGone m k s.acts p x q y change) (sym same) was in
      let goes : (numa_rules nodes input).waits p (view s) ≡ false = waits_is ∙ gone.goes in
      let ended : y.ended - x.ended ≡ change.ended = omega (arith, gone.ended) in
      ap (tried (numa_rules nodes input) p) (sym at.seen)
      ∙ rw goes (rw (at.node, at.here, ← gone.part, ← gone.local, ended, map-append, gone.told))

pub no_change : (o : Option Change) → ((change : Change) → o ≡ Some change → ⊥) → o ≡ None
no_change None none = refl
no_change (Some change) none = absurd (none change refl)

-- whether an act waits, by what a try at it answers, and what that leaves
pub waiting : (b : Bool) → act.NotYet ≡ acted b → b ≡ true
waiting true is = refl
waiting false is = absurd (cc)

pub moving : (b : Bool) → act.Moved ≡ acted b → b ≡ false
moving true is = absurd (cc)
moving false is = refl

pub moved_act : (table : List ClassRow) (p : NodePart) (x : NodeLocal) {a : Acted} {new : NodeLocal} → a ≡ act.Moved → a ≡ acted (waits p x)
    → new ≡ (let pair : NodePart × NodeLocal = (p, x) in cond (waits p x) pair (after (no_caches table) about_none p x)).1
    → (waits p x ≡ false → IsOneAct x (after (no_caches table) about_none p x).1) → IsOneAct x new
moved_act table p x is answer local one =
    let goes : waits p x ≡ false = moving (waits p x) (sym is ∙ answer) in
    subst (IsOneAct x) (sym (rw goes at local)) (one goes)
