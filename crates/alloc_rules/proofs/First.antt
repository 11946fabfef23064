-- What holds of the parts, the threads and the books before the first act.
use Rattle.std.proofs.Common.{◌≡◌, ℕ, zero, suc, ◌+◌, ◌<◌, false, get_or, List, [], ◌∷◌, length, drop, map, replicate, Option, Some, None, refl, sym, ap, ◌∙◌}
use Rattle.std.proofs.Common.{subst, inr, arith, ◌++◌, slice_set, is_some, option_map, sum_by, All, slice_get}
use Rattle.alloc_rules.proofs.Common.{option_map_or, range_with_len, false≢true, slice_get-get_or, slice_get-map, slice_get_within, length-append, length-map}
use Rattle.alloc_rules.proofs.Common.{length-range_with_len, get_or-range_with_len, sum_by-cons, All-nil, All-cons, All-map, class_of, Addr, Class, Label}
use Rattle.alloc_rules.proofs.Common.{ClassRow, SpanRef, Call, Malloc, Free, Release, Drain, Resize, Planned, Asked, script_of, labels_of, start}
use Rattle.alloc_rules.proofs.Common.{AreBelow, NameState, Shard, places, spans_in, objects_in_spans, of_all, spans_like, spans_at}
use Rattle.alloc_rules.proofs.Common.{objects_at, Account, got, put, gets, puts, asking, publishing, taking, pending, untaken, mentions, Books}
use Rattle.alloc_rules.proofs.Common.{HasNothing, IsFirst, Facts, Regs, room, Step, append_snoc, FrontCalls, AreEntries, FrontRules}
use Rattle.alloc_rules.proofs.Common.{IsEntry, Local, Decided, told, step_or, idle_local, first_of_call, first_act}
use Rattle.alloc_rules.proofs.Common.{thread_no, About, call_at, IsClassRow, AreRows, first_shard, first_shards, first_of}
use Rattle.alloc_rules.proofs.Common.{first_parts, rules, HasRoom, account_of, doing_of, doing_about, off_of, apart_of, mapped_of, clears_of, shard_at}
use Rattle.alloc_rules.proofs.Common.{IsShardOf, stock_of, Standing, standing_of, IsLawful, idle, IsIn, IsValid, calls, setup_of}
use Rattle.class_shard.proofs.SpanSums.{sum_by-map}
use Rattle.heap_rules.proofs.Opened.{opened_sound}
use Rattle.holdings.{proofs.Start.holds_at_first, specs.Accounts.holds}
use Rattle.rseq_core.specs.Registers.{first_regs}
use Rattle.name_table.specs.declared.table.NameState.TheVariants as name
use Rattle.call_steps.specs.declared.step.Step.TheVariants as does
use Rattle.alloc_rules.proofs.Steps.{row_there}
use Rattle.alloc_rules.proofs.Inputs.{both_in, in_scripts, sum-same, valid_once, valid_planned}
use Rattle.alloc_rules.proofs.Keeping.{IsNext, come_next}
use Rattle.alloc_rules.proofs.ScriptFacts.{asks_first, first_is_of, first_of_malloc, first_under, next_way, regs_of_malloc}
use Rattle.alloc_rules.proofs.Serving.{ArePlaced, IsAtWork, IsServed}

-- The first act of a script: with the calls behind it, it allocates and frees the script's labels; and it holds nothing.
record IsFresh {R : Type 0} (about : R → About) (s : Step R) (rest script : List Planned) : Type 0 where
  pub asks : (x : ℕ) → asking x (doing_of about s) + gets x rest ≡ gets x script
  pub publishes : (x : ℕ) → publishing x (doing_of about s) ≡ 0
  pub takes : (x : ℕ) → taking x (doing_of about s) + puts x rest ≡ puts x script
  pub value : (x : ℕ) (v : Option Addr) → holds x v (doing_of about s) ≡ 0
  pub off : off_of [] s ≡ []
  pub apart : (k : Class) → apart_of k [] s ≡ []
  pub mapped : (k : Class) → mapped_of k [] s ≡ []
  pub clears : clears_of s ≡ []

-- a row of the front-end about the same does for another step
entry_fresh : {R : Type 0} (about : R → About) (a : About) (other : Step R) (o : Option R) (rest script : List Planned) → IsEntry about a o
    → doing_of about other ≡ doing_about a → IsFresh about other rest script → IsFresh about (step_or other o) rest script
entry_fresh about a other o rest script entry same f = grind arith

module _ {V R : Type 0} (e : FrontCalls V R) (about : R → About) (entries : AreEntries e about) (v : V) where
  fresh_by : (s : Step R) (rest : List Planned) (line : Planned) (call : Call) → line.call ≡ call → ((x : ℕ) → asking x (doing_of about s) ≡ got x call)
      → ((x : ℕ) → publishing x (doing_of about s) ≡ 0) → ((x : ℕ) → taking x (doing_of about s) ≡ put x call) → ((x : ℕ) (w : Option Addr) → holds x w (doing_of about s) ≡ 0)
      → off_of [] s ≡ [] → ((k : Class) → apart_of k [] s ≡ []) → ((k : Class) → mapped_of k [] s ≡ []) → clears_of s ≡ [] → IsFresh about s rest (line ∷ rest)
  fresh_by s rest line call is asks publishes takes value off apart mapped clears = grind arith

  fresh_malloc : (c : Option Class) (label : Label) (size : ℕ) (rest : List Planned) (line : Planned) → line.call ≡ Malloc label size
      → IsFresh about (first_of_malloc e v c label size) rest (line ∷ rest)
  fresh_malloc c label size rest line is = grind (arith, entry_fresh, fresh_by)

  fresh_own : (call : Call) (rest : List Planned) (line : Planned) → line.call ≡ call → ((x : ℕ) → got x call ≡ 0) → ((x : ℕ) → put x call ≡ 0)
      → IsFresh about (step_or does.Ended (e.other v call)) rest (line ∷ rest)
  fresh_own call rest line is no_got no_put = grind (arith, entry_fresh, fresh_by)

  fresh_call : (c : Call) (rest : List Planned) (line : Planned) → line.call ≡ c → IsFresh about (first_of_call e v c) rest (line ∷ rest)
  fresh_call (Malloc label size) rest line is = fresh_malloc (class_of e.rows size) label size rest line is
  fresh_call (Free label) rest line is = grind (arith, fresh_by)
  fresh_call (Release pages) rest line is = grind (arith, fresh_by)
  fresh_call (Drain cpu) rest line is = fresh_own (Drain cpu) rest line is (λ x. refl) (λ x. refl)
  fresh_call (Resize cpu class cap) rest line is = fresh_own (Resize cpu class cap) rest line is (λ x. refl) (λ x. refl)

  fresh_first : (script : List Planned) → IsFresh about (first_act e v (slice_get script 0)) (drop 1 script) script
  fresh_first script = grind (arith, fresh_call)

  -- with nothing in hand
  hand_malloc : (o : Option Class) (g : Regs) → g.hand.items ≡ [] → (regs_of_malloc e o g).hand.items ≡ []
  hand_malloc o g none = grind arith

rest_behind : (script : List Planned) (j : ℕ) → slice_get (drop 1 script) j ≡ slice_get script (0 + 1 + j)
rest_behind script j = grind arith

no_call : (o : Option Call) → is_some o ≡ false → o ≡ None
no_call o is = grind (arith, false≢true)

pub number_at : (n t : ℕ) → t < n → slice_get (range_with_len 0 n) t ≡ Some t
number_at n t below =
    let e : get_or (range_with_len 0 n) t 0 ≡ t = get_or-range_with_len 0 n t 0 below ∙ (let z : 0 + t ≡ t = omega arith in z) in
    slice_get-get_or (range_with_len 0 n) t 0 (omega (arith, length-range_with_len 0 n, below)) ∙ ap (λ k. Some k) e

no_objects : (room j k n : ℕ) (rows : List ClassRow) → objects_at n (objects_in_spans (shard_at (first_shards room j rows) k)) ≡ 0
no_objects room j k n [] = refl
no_objects room j zero n (row ∷ rows) = refl
no_objects room j (suc k) n (row ∷ rows) = no_objects room (j + 1) k n rows

no_places : (room j k n : ℕ) (rows : List ClassRow) → objects_at n (places (shard_at (first_shards room j rows) k)) ≡ 0
no_places room j k n [] = refl
no_places room j zero n (row ∷ rows) = refl
no_places room j (suc k) n (row ∷ rows) = no_places room (j + 1) k n rows

no_spans : (f : List SpanRef → ℕ) (room j : ℕ) (rows : List ClassRow) → f [] ≡ 0 → sum_by (λ (x : Shard). f (spans_in x)) (first_shards room j rows) ≡ 0
no_spans f room j [] none = refl
no_spans f room j (row ∷ rows) none = omega (arith, none, no_spans f room (j + 1) rows none, sum_by-cons (λ (x : Shard). f (spans_in x)) (first_shard room j row) (first_shards room (j + 1) rows))

shards_count : (room j : ℕ) (rows : List ClassRow) → length (first_shards room j rows) ≡ length rows
shards_count room j [] = refl
shards_count room j (row ∷ rows) = ap (λ n. suc n) (shards_count room (j + 1) rows)

record IsFirstShard (room j k : ℕ) (rows : List ClassRow) (x : Shard) : Type 0 where
  pub row : ClassRow
  pub there : slice_get rows k ≡ Some row
  pub is : first_shard room (j + k) row ≡ x

shard_is : (room j k : ℕ) (rows : List ClassRow) (x : Shard) → slice_get (first_shards room j rows) k ≡ Some x → IsFirstShard room j k rows x
shard_is room j k [] x is = absurd (cc)
shard_is room j zero (row ∷ rows) x is =
    let e : first_shard room j row ≡ x = cc in
    record { row = row; there = refl; is = ap (λ n. first_shard room n row) (let z : j + 0 ≡ j = omega arith in z) ∙ e }
shard_is room j (suc k) (row ∷ rows) x is = grind (arith, shard_is room (j + 1) k rows x is)

shard_of : (room k : ℕ) (rows : List ClassRow) (x : Shard) → AreRows rows → slice_get (first_shards room 0 rows) k ≡ Some x → IsShardOf rows k x
shard_of room k rows x are is = grind (arith, shard_is room 0 k rows x is, of_all IsClassRow rows k)

first_room : (room j : ℕ) (rows : List ClassRow) → All (λ (x : Shard). HasRoom room x.transfer) (first_shards room j rows)
first_room room j [] = All-nil (λ (x : Shard). HasRoom room x.transfer)
first_room room j (row ∷ rows) =
    All-cons (λ (x : Shard). HasRoom room x.transfer) (first_shard room j row) (first_shards room (j + 1) rows) (record { room = refl; within = omega arith }) (first_room room (j + 1) rows)

-- in a list with one element replaced
set_middle : {X : Type 0} (xs : List X) (y z : X) (ys : List X) → slice_set (xs ++ y ∷ ys) (length xs) z ≡ xs ++ z ∷ ys
set_middle [] y z ys = refl
set_middle (x ∷ xs) y z ys = ap (λ zs. x ∷ zs) (set_middle xs y z ys)

module _ {P V R : Type 0} {r : FrontRules P V R} {about : R → About} {planned : Planned → Type 0} {Holds : ℕ → List P → List (Standing V R) → Type 0}
    {fits : P → V → Regs → R → Type 0} (law : IsLawful r about planned Holds fits) {asked : Asked} (valid : IsValid r.calls.rows planned asked) where
  -- the local of thread t
  abbrev pub first_locals : List (Local V R)
  first_locals = map (first_of r about asked) (range_with_len 0 asked.config.threads)

  abbrev script : ℕ → List Planned
  script t = script_of t asked.calls

  abbrev seat_of : ℕ → V
  seat_of t = r.calls.begins (r.seats t) (slice_get (script t) 0)

  own_local : (t : ℕ) (l : Local V R) → slice_get first_locals t ≡ Some l → first_of r about asked t ≡ l
  own_local t l is =
      let n : ℕ = asked.config.threads in
      let within : t < length first_locals = slice_get_within first_locals t l is in
      let below : t < n = omega (arith, within, length-map (range_with_len 0 n) (first_of r about asked), length-range_with_len 0 n) in
      let at = slice_get-map (first_of r about asked) (range_with_len 0 n) t ∙ ap (option_map (first_of r about asked)) (number_at n t below) in
      let e : Some (first_of r about asked t) ≡ Some l = sym at ∙ is in
      cc

  fresh : (t : ℕ) → IsFresh about (first_of r about asked t).step (drop 1 (script t)) (script t)
  fresh t = fresh_first r.calls about law.entries (seat_of t) (script t)

  -- its shape, and how it stands
  next : (t : ℕ) → IsNext law valid.rows t (idle r t) (first_of r about asked t)
  next t =
      let l : Local V R = idle_local (thread_no t) (r.seats t) in
      grind (arith, valid_planned r.calls.rows planned asked t valid, come_next law valid.rows t l (script t))

  each_stands : (done : List (Standing V R)) (k m : ℕ) → length done ≡ k → Holds 0 r.parts (done ++ map (idle r) (range_with_len k m))
      → Holds 0 r.parts (done ++ map (λ t. standing_of (first_of r about asked t)) (range_with_len k m))
  each_stands done k zero is holds_now = holds_now
  each_stands done k (suc m) is holds_now =
      let rest : List (Standing V R) = map (idle r) (range_with_len (k + 1) m) in
      let now : Standing V R = standing_of (first_of r about asked k) in
      let at = ap (λ (j : ℕ). slice_set (done ++ idle r k ∷ rest) j (idle r k)) (sym is) ∙ set_middle done (idle r k) (idle r k) rest in
      let then = ap (λ (j : ℕ). slice_set (done ++ idle r k ∷ rest) j now) (sym is) ∙ (set_middle done (idle r k) now rest ∙ sym (append_snoc done now rest)) in
      let one = (next k).stands 0 r.parts (done ++ idle r k ∷ rest) (subst (Holds 0 r.parts) (sym at) holds_now) in
      subst (Holds 0 r.parts) (append_snoc done now (map (λ t. standing_of (first_of r about asked t)) (range_with_len (k + 1) m)))
      (each_stands (done ++ now ∷ []) (k + 1) m (omega (arith, is, length-append done (now ∷ []))) (subst (Holds 0 r.parts) then one))

  map_twice : (ns : List ℕ) → map (λ t. standing_of (first_of r about asked t)) ns ≡ map standing_of (map (first_of r about asked) ns)
  map_twice [] = refl
  map_twice (n ∷ ns) = ap (λ xs. standing_of (first_of r about asked n) ∷ xs) (map_twice ns)

  front_first : Holds 0 r.parts (map standing_of first_locals)
  front_first = subst (Holds 0 r.parts) (map_twice (range_with_len 0 asked.config.threads)) (each_stands [] 0 asked.config.threads refl (law.start asked.config.threads))

  -- Where the thread of a script is at the start.
  inside_first : (t : ℕ) (names : List NameState) → IsIn r.calls about names (script t) (first_of r about asked t)
  inside_first t names =
      let v : V = seat_of t in
      let first : Option Planned = slice_get (script t) 0 in
      let way = next_way r.calls about law.entries v first (row_there law v (script t) (valid_planned r.calls.rows planned asked t valid)) in
      record {
        rest = rest_behind (script t);
        call = first_is_of r.calls about law.entries v first;
        some = λ on. sym way ∙ on;
        none = λ off. no_call (call_at (script t) 0) (sym way ∙ off);
        out = λ j label size below is. absurd (omega (arith, below));
        now = λ label size is. inr (let some = asks_first r.calls about law.entries v first label size is in omega (arith, some));
        count = let u = first_under r.calls about law.entries v first in omega (arith, u);
        decided = λ j d is. absurd (cc);
      }

  nothing_first : (t : ℕ) → HasNothing (account_of about (first_of r about asked t))
  nothing_first t = grind (arith, first_regs, fresh, hand_malloc)

  all_nothing : All HasNothing (map (account_of about) first_locals)
  all_nothing =
      let numbers : List ℕ = range_with_len 0 asked.config.threads in
      let each = All-map (λ (l : Local V R). HasNothing (account_of about l)) (first_of r about asked) numbers (λ k d low. nothing_first (get_or numbers k d)) in
      All-map HasNothing (account_of about) first_locals each

  first_sum : (f : Account → ℕ) (g : List Planned → ℕ) → ((t : ℕ) → f (account_of about (first_of r about asked t)) ≡ g (script t))
      → sum_by f (map (account_of about) first_locals) ≡ in_scripts r.calls.rows planned g asked
  first_sum f g same = grind (arith, sum-same, sum_by-map)

  no_stored : (k n : ℕ) → (stock_of r about (first_parts r about asked)).stored k n ≡ 0
  no_stored k n = omega (arith, law.none k n, no_places asked.config.transfer 0 k n r.calls.rows)

  -- the books at the start
  abbrev pub first_books : Books
  first_books = record { stock = stock_of r about (first_parts r about asked); heap = []; spans = []; names = replicate (labels_of asked) name.Unpublished; accounts = map (account_of about) first_locals }

  is_first : IsFirst (setup_of r asked) first_books
  is_first =
      let c = asked.config in
      let once = valid_once r.calls.rows planned asked valid in
      record {
        objects = λ k n. no_objects c.transfer 0 k n r.calls.rows;
        stored = no_stored;
        owned = λ s. no_spans (spans_like s) c.transfer 0 r.calls.rows refl;
        begins = λ n. no_spans (spans_at n) c.transfer 0 r.calls.rows refl;
        heap = refl;
        spans = refl;
        names = refl;
        accounts = all_nothing;
        labels = λ x past.
            let e = first_sum (mentions x) (λ s. gets x s + puts x s) (λ t. omega (arith, (fresh t).asks x, (fresh t).publishes x, (fresh t).takes x)) in
            let b = once.below x past in
            omega (arith, e, both_in r.calls.rows planned asked x, b.0, b.1);
        once = λ x. let e = first_sum (pending x) (gets x) (λ t. (fresh t).asks x) in omega (arith, e, once.allocated x);
        taken = λ x. let e = first_sum (untaken x) (puts x) (λ t. (fresh t).takes x) in omega (arith, e, once.freed x);
      }

  facts_first : Facts (setup_of r asked) first_books (calls first_locals [])
  facts_first = holds_at_first (setup_of r asked) first_books is_first

  placed_first : ArePlaced r asked (first_parts r about asked)
  placed_first = search (arith, first_room, opened_sound, shard_of, shards_count)

  -- Each thread is at its first call.
  work_first : (t : ℕ) → IsAtWork r about planned Holds asked (first_parts r about asked).names [] t (first_of r about asked t)
  work_first t =
      record {
        shaped = (next t).shaped;
        inside = inside_first t (first_parts r about asked).names;
        acts = refl;
        rising = tt;
      }

  answered_none : (numbers : List ℕ) (t : ℕ) → AreBelow (λ (d : Decided). d.act) 0 (option_map_or (λ (l : Local V R). l.answers) (slice_get (map (first_of r about asked) numbers) t) [])
  answered_none [] t = tt
  answered_none (n ∷ numbers) zero = tt
  answered_none (n ∷ numbers) (suc t) = answered_none numbers t

  -- all of it
  pub served_first : IsServed r about planned Holds asked (start (rules r about asked)) []
  served_first =
      let n : ℕ = asked.config.threads in
      record {
        parts = first_parts r about asked;
        locals = first_locals;
        books = first_books;
        is = refl;
        placed = placed_first;
        books_of = record { stock = refl; heap = λ x. refl; spans = λ s. refl; names = refl; accounts = refl };
        facts = facts_first;
        front = front_first;
        count = length-map (range_with_len 0 n) (first_of r about asked) ∙ length-range_with_len 0 n;
        works = λ t l is. subst (IsAtWork r about planned Holds asked (first_parts r about asked).names [] t) (own_local t l is) (work_first t);
        of = λ t. answered_none (range_with_len 0 n) t;
        tells = λ t l is. ap (λ (k : Local V R). map (told t) k.answers) (own_local t l is);
      }
