-- What holds of a world in every run, and what an act of a thread makes of it.
use Rattle.std.proofs.Common.{◌≡◌, ℕ, suc, ◌+◌, ◌≤◌, true, eqb, List, [], ◌∷◌, ◌++◌, length, map, Option, Some, refl, sym, ap, ◌∙◌, subst}
use Rattle.std.proofs.Common.{arith, All, slice_get, slice_set, inl, inr, ◌⊎◌}
use Rattle.alloc_rules.proofs.Common.{option_map_or, MOST_PICKS, append-nil, length-set, length-append, map-append, filter-append, Planned, CallLine, Asked, script_of}
use Rattle.alloc_rules.proofs.Common.{World, world_of}
use Rattle.alloc_rules.proofs.Common.{picks_of, AreOfPicks, AreAt, AreBelow, AreRising, calls-step, picks-step, picks-push_same, picks-push_other}
use Rattle.alloc_rules.proofs.Common.{NameState, state_of, Shard, Account, is_out, Books, Facts, Said, books_with, lines, Decided, told, Local, FrontCalls}
use Rattle.alloc_rules.proofs.Common.{AreEntries, FrontRules, About, Part, heap_config, Parts, parts_of, HasRoom, lines_by, account_of, decided_at, stock_of}
use Rattle.alloc_rules.proofs.Common.{ArePartsOk, AreBooksOf, Does, Standing, standing_of, IsShaped, IsIn, Path, Stays, Comes, under, is_under_way, calls, setup_of}
use Rattle.holdings.proofs.Moves.{acts_keep}
use Rattle.tc_model.proofs.Rising.{rising_push}
use Rattle.alloc_rules.proofs.{Freeing.account_at, InScripts.StayOut, InScripts.path_in, ScriptFacts.HasRow, ScriptFacts.first_under, Sets.each_set, Sets.map_set, Telling.others_lines}
use Rattle.alloc_rules.proofs.Telling.{own_lines}
use Rattle.alloc_rules.specs.Law.{IsPick}
use Rattle.alloc_rules.proofs.Published.{keeps_unpublished, said_few, stays_out}

-- The parts alone, as many as the input says, and each transfer list within the room that the heads name.
pub record ArePlaced {P V R : Type 0} (r : FrontRules P V R) (asked : Asked) (p : Parts P) : Type 0 where
  pub ok : ArePartsOk r.calls.rows (heap_config asked.config) p
  pub fronts : length p.fronts ≡ length r.parts
  pub transfers : All (λ (x : Shard). HasRoom asked.config.transfer x.transfer) p.shards

-- of each thread its decided calls are told
abbrev pub AllTell : {V R : Type 0} → List (Local V R) → List CallLine → Type 0
AllTell {V = V} {R = R} locals all = (t : ℕ) (l : Local V R) → slice_get locals t ≡ Some l → lines_by t all ≡ map (told t) l.answers

module _ {P V R : Type 0} (r : FrontRules P V R) (about : R → About) (planned : Planned → Type 0) (Holds : ℕ → List P → List (Standing V R) → Type 0) (asked : Asked) where
  -- A local alone: it has its shape, it is in its script, and its acts are its thread's picks.
  pub record IsAtWork (names : List NameState) (order : List ℕ) (t : ℕ) (l : Local V R) : Type 0 where
    pub shaped : IsShaped r.calls.rows about planned t l
    pub inside : IsIn r.calls about names (script_of t asked.calls) l
    pub acts : l.acts ≡ picks_of t order
    pub rising : AreRising (λ (d : Decided). d.act) 0 l.answers

  -- a world is that of parts and locals in which all this holds
  pub record IsServed (w : World (Part P) (Local V R)) (order : List ℕ) : Type 0 where
    pub parts : Parts P
    pub locals : List (Local V R)
    pub books : Books
    pub is : w ≡ world_of (parts_of r.split parts) locals
    pub placed : ArePlaced r asked parts
    pub books_of : AreBooksOf r about parts locals books
    pub facts : Facts (setup_of r asked) books (calls locals order)
    pub front : Holds (length order) parts.fronts (map standing_of locals)
    pub count : length locals ≡ asked.config.threads
    pub works : (t : ℕ) (l : Local V R) → slice_get locals t ≡ Some l → IsAtWork parts.names order t l
    pub of : AreOfPicks (λ (l : Local V R). l.answers) (λ (d : Decided). d.act) locals order
    pub tells : AllTell locals (calls locals order)

-- answers that rise still do with those that the pick behind them decided
pub rising_with : {A : Type 0} (act : A → ℕ) (n : ℕ) (xs new : List A) → AreRising act 0 xs → AreBelow act n xs → AreAt act n new → length new ≤ 1 → AreRising act 0 (xs ++ new)
rising_with act n xs [] rising below at one = subst (AreRising act 0) (sym (append-nil xs)) rising
rising_with act n xs (a ∷ []) rising below at one = rising_push act 0 n xs a (omega arith) rising below at.0
rising_with act n xs (a ∷ b ∷ rest) rising below at one = absurd (omega (arith, one))

-- what is decided has the number of its act
all_at : (n : ℕ) (said : List Said) → AreAt (λ (d : Decided). d.act) n (decided_at n said)
all_at n [] = tt
all_at n (s ∷ more) = (refl, all_at n more)

told_lines : (t n : ℕ) (said : List Said) → map (told t) (decided_at n said) ≡ lines t said
told_lines t n [] = refl
told_lines t n (s ∷ more) = ap (λ xs. record { thread = record { 0 = t }; call = s.call; answer = s.answer } ∷ xs) (told_lines t n more)

-- in other names, in which the same are out
stays_inside : {V R : Type 0} (e : FrontCalls V R) (about : R → About) (names names' : List NameState) (script : List Planned) (l : Local V R)
    → StayOut names names' → IsIn e about names script l → IsIn e about names' script l
stays_inside e about names names' script l stay inside = grind arith

-- A moment at which thread t is picked: what holds of parts, threads and books behind an order.
pub record Moment {P V R : Type 0} (r : FrontRules P V R) (about : R → About) (planned : Planned → Type 0) (Holds : ℕ → List P → List (Standing V R) → Type 0)
    (asked : Asked) (p : Parts P) (locals : List (Local V R)) (b : Books) (order : List ℕ) (t : ℕ) (l : Local V R) : Type 0 where
  pub placed : ArePlaced r asked p
  pub books : AreBooksOf r about p locals b
  pub facts : Facts (setup_of r asked) b (calls locals order)
  pub front : Holds (length order) p.fronts (map standing_of locals)
  pub works : (u : ℕ) (k : Local V R) → slice_get locals u ≡ Some k → IsAtWork r about planned Holds asked p.names order u k
  pub of : AreOfPicks (λ (x : Local V R). x.answers) (λ (d : Decided). d.act) locals order
  pub local : slice_get locals t ≡ Some l
  pub few : length order ≤ MOST_PICKS

-- An act of its thread, with the parts and the local that it leaves.
module _ {P V R : Type 0} {r : FrontRules P V R} {about : R → About} {planned : Planned → Type 0} {Holds : ℕ → List P → List (Standing V R) → Type 0}
    {asked : Asked}
    {p : Parts P} {locals : List (Local V R)} {b : Books} {order : List ℕ} {t : ℕ} {l : Local V R}
    (now : Moment r about planned Holds asked p locals b order t l) where
  pub record IsActed (new : Parts P) (after : Local V R) : Type 0 where
    pub does : Does r about (setup_of r asked) new b l after
    pub path : Path r.calls about l after
    pub way : is_under_way l.step ≡ true
    pub placed : ArePlaced r asked new
    pub shaped : IsShaped r.calls.rows about planned t after
    pub front : Holds (length order + 1) new.fronts (map standing_of (slice_set locals t after))
    pub there : HasRow r.calls after.seat (slice_get l.rest 0)

  module _ (entries : AreEntries r.calls about) {new : Parts P} {after : Local V R} (acted : IsActed new after) where
    abbrev after_books : Books
    after_books = books_with b (stock_of r about new) acted.does.heap acted.does.spans new.names t (account_of about after)

    mine : slice_get b.accounts t ≡ Some (account_of about l)
    mine = account_at t now.books now.local

    -- names that are out stay so
    out_stays : StayOut p.names new.names
    out_stays x out =
        stays_out (setup_of r asked) b (calls locals order) t (account_of about l) now.facts mine acted.does.move x (ap (λ (ns : List NameState). is_out (state_of ns x)) now.books.names ∙ out)

    acts_now : after.acts ≡ picks_of t (order ++ t ∷ [])
    acts_now = omega (arith, acted.does.acts, (now.works t l now.local).acts, picks-push_same t order)

    decided_few : (n : ℕ) (said : List Said) → length (decided_at n said) ≡ length said
    decided_few n [] = refl
    decided_few n (s ∷ more) = ap (λ k. suc k) (decided_few n more)

    at_pick : AreAt (λ (x : Decided). x.act) (picks_of t order) (decided_at l.acts acted.does.said)
    at_pick = subst (λ n. AreAt (λ (x : Decided). x.act) n (decided_at l.acts acted.does.said)) (now.works t l now.local).acts (all_at l.acts acted.does.said)

    rises_now : AreRising (λ (x : Decided). x.act) 0 after.answers
    rises_now =
        let B : Option (Local V R) → Type 0 = λ o. AreBelow (λ (x : Decided). x.act) (picks_of t order) (option_map_or (λ (x : Local V R). x.answers) o []) in
        let below : AreBelow (λ (x : Decided). x.act) (picks_of t order) l.answers = subst B now.local (now.of t) in
        let few : length (decided_at l.acts acted.does.said) ≤ 1 = omega (arith, decided_few l.acts acted.does.said, said_few (setup_of r asked) b (account_of about l) acted.does.move) in
        subst (AreRising (λ (x : Decided). x.act) 0) (sym acted.does.answers)
        (rising_with (λ (x : Decided). x.act) (picks_of t order) l.answers (decided_at l.acts acted.does.said) (now.works t l now.local).rising below at_pick few)

    this_works : IsAtWork r about planned Holds asked new.names (order ++ t ∷ []) t after
    this_works =
        record {
          shaped = acted.shaped;
          inside = path_in r.calls about entries p.names new.names (script_of t asked.calls) l after acted.way (now.works t l now.local).inside out_stays
              (keeps_unpublished (setup_of r asked) b (calls locals order) t (account_of about l) now.facts mine acted.does.move) acted.there acted.path;
          acts = acts_now;
          rising = rises_now;
        }

    abbrev Works : ℕ → Local V R → Type 0
    Works u k = IsAtWork r about planned Holds asked new.names (order ++ t ∷ []) u k

    other_works : (u : ℕ) (k : Local V R) → (t ≡ u → ⊥) → slice_get locals u ≡ Some k → Works u k
    other_works u k apart is =
        let w = now.works u k is in
        record {
          shaped = w.shaped;
          inside = stays_inside r.calls about p.names new.names (script_of u asked.calls) k out_stays w.inside;
          acts = w.acts ∙ sym (picks-push_other u t order apart);
          rising = w.rising;
        }

    all_work : (u : ℕ) (k : Local V R) → slice_get (slice_set locals t after) u ≡ Some k → Works u k
    all_work = each_set Works locals t after l now.local this_works other_works

    calls_now : calls (slice_set locals t after) (order ++ t ∷ []) ≡ calls locals order ++ lines t acted.does.said
    calls_now =
        calls-step (λ (k : Local V R). k.answers) (λ (x : Decided). x.act) told locals order t l after (decided_at l.acts acted.does.said) now.of now.local acted.does.answers at_pick
        ∙ ap (λ xs. calls locals order ++ xs) (told_lines t l.acts acted.does.said)

    -- the books' facts hold on
    next_facts : Facts (setup_of r asked) after_books (calls (slice_set locals t after) (order ++ t ∷ []))
    next_facts =
        subst (Facts (setup_of r asked) after_books) (sym calls_now)
        (acts_keep (setup_of r asked) b (calls locals order) t (account_of about l) (account_of about after) (stock_of r about new) acted.does.heap
        acted.does.spans new.names acted.does.said now.facts mine acted.does.move)

    -- what the pick decided, and where the thread is then
    ended_by : Path r.calls about l after → (after.ended ≡ l.ended) ⊎ ((after.ended ≡ l.ended + 1) × (under about after.step ≡ 0))
    ended_by (Stays new answers ended rest way goes) = inl ended
    ended_by (Comes new answers ended rest step closes) = inr (ended, ap (under about) step ∙ first_under r.calls about entries after.seat (slice_get l.rest 0))

    pub is_pick : IsPick r about asked locals order t l after
    is_pick =
        record {
          new = decided_at l.acts acted.does.said;
          answers = acted.does.answers;
          few = omega (arith, decided_few l.acts acted.does.said, said_few (setup_of r asked) b (account_of about l) acted.does.move);
          ended = ended_by acted.path;
          told = calls_now ∙ ap (λ (xs : List CallLine). calls locals order ++ xs) (sym (told_lines t l.acts acted.does.said));
          blocks = next_facts.kept.run;
        }

    -- what is told then of a thread
    lines_now : (u : ℕ)
        → lines_by u (calls (slice_set locals t after) (order ++ t ∷ [])) ≡ lines_by u (calls locals order) ++ lines_by u (lines t acted.does.said)
    lines_now u = ap (lines_by u) calls_now ∙ filter-append (λ (c : CallLine). eqb c.thread.0 u) (calls locals order) (lines t acted.does.said)

    this_tells : AllTell locals (calls locals order) → lines_by t (calls (slice_set locals t after) (order ++ t ∷ [])) ≡ map (told t) after.answers
    this_tells tells = grind (arith, lines_now, map-append, own_lines, told_lines)

    all_tell : AllTell locals (calls locals order) → AllTell (slice_set locals t after) (calls (slice_set locals t after) (order ++ t ∷ []))
    all_tell tells =
        each_set (λ u k. lines_by u (calls (slice_set locals t after) (order ++ t ∷ [])) ≡ map (told u) k.answers) locals t after l now.local (this_tells tells)
        (λ u k apart old. lines_now u ∙ rw (others_lines t u acted.does.said apart, append-nil (lines_by u (calls locals order))) (tells u k old))

    pub served : (w : World (Part P) (Local V R)) → w ≡ world_of (parts_of r.split new) (slice_set locals t after) → length locals ≡ asked.config.threads
        → AllTell locals (calls locals order) → IsServed r about planned Holds asked w (order ++ t ∷ [])
    served w is count tells =
        record {
          parts = new;
          locals = slice_set locals t after;
          books = after_books;
          is = is;
          placed = acted.placed;
          books_of = record {
            stock = refl;
            heap = acted.does.like_heap;
            spans = acted.does.like_spans;
            names = refl;
            accounts = ap (λ (xs : List Account). slice_set xs t (account_of about after)) now.books.accounts ∙ map_set (account_of about) locals t after;
          };
          facts = next_facts;
          front = subst (λ (n : ℕ). Holds n new.fronts (map standing_of (slice_set locals t after))) (sym (length-append order (t ∷ []))) acted.front;
          count = length-set locals t after ∙ count;
          works = all_work;
          of = picks-step (λ (k : Local V R). k.answers) (λ (x : Decided). x.act) told locals order t l after (decided_at l.acts acted.does.said) now.of now.local acted.does.answers at_pick;
          tells = all_tell tells;
        }
