-- What the opening makes of a trace that was read is what the rules of all nodes begin with.
use Rattle.std.proofs.Common.{◌≡◌, ℕ, ◌<◌, ◌≤◌, true, eqb, List, [], ◌∷◌, ◌++◌, length, map, filter, replicate, Some, refl, sym, ap, ◌∙◌, subst, arith}
use Rattle.std.specs.Prelude.{slice_get}
use Rattle.std.specs.List.{range_with_len, list_any}
use Rattle.std.proofs.lemmas.Bool.{false≢true}
use Rattle.std.proofs.lemmas.Option.{get_or_from_slice_get}
use Rattle.std.proofs.Math.Seq.{append_snoc}
use Rattle.std.proofs.lemmas.List.Folds.{list_any-append}
use Rattle.trace_reader.specs.Valid.{IsAsked, IsCall}
use Rattle.call_steps.specs.declared.setting.Setting.{Setting}
use Rattle.alloc_rules.specs.Inputs.{IsValidInput}
use Rattle.alloc_rules.specs.Machine.{first_of}
use Rattle.size_classes.specs.Rows.{IsTable}
use Rattle.tc_units.specs.declared.spans.ClassRow.{ClassRow}
use Rattle.trace_reader.specs.declared.trace.Trace.{Trace}
use Rattle.trace_reader.specs.Traces.{trace_of}
use Rattle.tc_model.specs.Run.{World, world_of, start}
use Rattle.no_caches.specs.NoCaches.{no_caches, about_none}
use Rattle.node_rules.specs.Beside.{Beside}
use Rattle.node_rules.specs.Numa.{NodeLocal, NodePart, rules_at, numa_rules, first_thread}
use Rattle.node_rules.proofs.NodeInputs.{made_at}
use Rattle.tc_model.specs.declared.calls.Call.{Call}
use Rattle.tc_model.specs.declared.calls.Call.TheVariants.{Free}
use Rattle.tc_model.specs.declared.calls.Planned.{Planned}
use Rattle.tc_machine.specs.Inputs.{IsRead, input_under, script_at}
use Rattle.tc_model.specs.declared.calls.Script.{Script}
use Rattle.tc_model.specs.declared.config.Config.{Config}
use Rattle.tc_model.specs.declared.config.Head.TheVariants.{Cpus, Threads}
use Rattle.tc_model.specs.Input.{Asked, Input, ThreadCall, script_of, labels_of}
use Rattle.tc_machine.proofs.InputFacts.{below_read, same_below, script_at_is, input_is, threads_are as scripts_are}
use Rattle.tc_machine.proofs.ValidFacts.{valid_read}
use Rattle.tc_model.specs.Blocks.{allocates}
use Rattle.numa_heaps.specs.declared.nodes.NodeNo.{NodeNo}
use Rattle.node_rules.specs.Nodes.{maker, acts_at, node_of, asked_at}
use Rattle.numa_heaps.specs.Opening.{home_no, owners_of, labels_by, node_by, route_by, calls_by, local_by, thread_by, parts_with, parts_by}
use Rattle.numa_heaps.proofs.Owners.{allocated, owner_noted, maker_any, maker_below}
use Rattle.std.proofs.lemmas.Bool.Decides.{nat_tests}
use Rattle.numa_heaps.proofs.Ranges.{fold_below}
use Rattle.numa_heaps.proofs.LabelCounts.{made_of, any_below, few_kept, labels_are}

-- Of a trace that is valid:
module _ (nodes : ℕ) (input : Input) (valid : IsValidInput input) (read : IsAsked (length input.rows) input.asked) where
  abbrev calls : List ThreadCall
  calls = input.asked.calls

  abbrev config : Config
  config = input.asked.config

  abbrev script : ℕ → List Planned
  script t = script_of t calls

  abbrev table : List NodeNo
  table = owners_of nodes config script (labels_of input.asked) config.threads

  -- a label is in the script of one thread alone
  made_by : (x t : ℕ) (earlier cs : List ThreadCall) → earlier ++ cs ≡ calls → allocated x (script_of t cs) ≡ true → maker x calls ≡ t
  made_by x t earlier [] is some = absurd (false≢true some)
  made_by x t earlier (c ∷ cs) is some =
      let own : allocates x c.planned.call ≡ true → maker x calls ≡ c.thread.0 =
      λ here. let made = made_of x c.planned.call here in made_at nodes input valid earlier c cs (record { 0 = x }) made.0 is made.1 in
      grind (arith, nat_tests, own, made_by x t (earlier ++ c ∷ []) cs (append_snoc earlier c cs ∙ is))

  -- the table has its node
  owned : (x : ℕ) → list_any (λ (c : ThreadCall). allocates x c.planned.call) calls ≡ true
      → slice_get table x ≡ Some (home_no nodes config (maker x calls))
  owned x some =
      owner_noted nodes config script (labels_of input.asked) x (maker x calls) (any_below x calls some) (maker_any x calls some)
      (λ t own. ap (home_no nodes config) (sym (made_by x t [] calls refl own)))
      config.threads (maker_below x config.threads calls (below_read (length input.rows) input.asked read) some)

  node_is : (t : ℕ) (earlier : List ThreadCall) (c : ThreadCall) (later : List ThreadCall) (call : Call) → earlier ++ c ∷ later ≡ calls
      → c.planned.call ≡ call → (node_by (home_no nodes config t) table call).0 ≡ acts_at nodes input.asked t call
  node_is t earlier c later (Free label) is call =
      let kept = subst (IsCall (length input.rows) config earlier) call (read.calls earlier c later is).call in
      let before : list_any (λ (d : ThreadCall). allocates label.0 d.planned.call) earlier ≡ true = kept.1 in
      let some : list_any (λ (d : ThreadCall). allocates label.0 d.planned.call) calls ≡ true = rw (← is, list_any-append, before) in
      ap (λ (n : NodeNo). n.0) (get_or_from_slice_get table label.0 (home_no nodes config (maker label.0 calls)) (home_no nodes config t) (owned label.0 some))
  node_is t earlier c later other is call = refl

  -- so the nodes of a thread's calls are those of the rules, and so are its calls at each node
  route_from : (t : ℕ) (earlier cs : List ThreadCall) → earlier ++ cs ≡ calls
      → map (λ (n : NodeNo). n.0) (route_by (home_no nodes config t) table (script_of t cs))
      ≡ map (node_of nodes input.asked) (filter (λ (c : ThreadCall). eqb c.thread.0 t) cs)
  route_from t earlier [] is = refl
  route_from t earlier (c ∷ cs) is =
      grind (arith, nat_tests, route_from t (earlier ++ c ∷ []) cs (append_snoc earlier c cs ∙ is), node_is t earlier c cs c.planned.call is refl)

  calls_from : (t k : ℕ) (earlier cs : List ThreadCall) → earlier ++ cs ≡ calls
      → calls_by (home_no nodes config t) table k (script_of t cs) ≡ script_of t (filter (λ (c : ThreadCall). eqb (node_of nodes input.asked c) k) cs)
  calls_from t k earlier [] is = refl
  calls_from t k earlier (c ∷ cs) is =
      grind (arith, nat_tests, calls_from t k (earlier ++ c ∷ []) cs (append_snoc earlier c cs ∙ is), node_is t earlier c cs c.planned.call is refl)

  abbrev setting : Setting
  setting = record { table = input.rows; config = config }

  thread_is : (t : ℕ) → thread_by setting nodes t table (script t) ≡ first_thread nodes input t
  thread_is t =
      let here = same_below (local_by setting nodes t table (script t)) (λ k. first_of (no_caches input.rows) about_none (asked_at nodes input.asked k) t) nodes
      (λ k low. rw (calls_from t k [] calls refl)) in
      rw (here, route_from t [] calls refl)

  -- and the whole start
  threads_are : map (λ t. thread_by setting nodes t table (script t)) (range_with_len 0 config.threads) ≡ (numa_rules nodes input).locals
  threads_are = same_below (λ t. thread_by setting nodes t table (script t)) (first_thread nodes input) config.threads (λ t low. thread_is t)

  parts_are : parts_by setting (λ k. labels_by nodes config script k config.threads) nodes ≡ (numa_rules nodes input).parts
  parts_are =
      fold_below (parts_with setting (λ k. labels_by nodes config script k config.threads)) (λ ps k. ps ++ (rules_at nodes input k).parts) [] nodes
      (λ ps k low. rw (labels_are nodes (length input.rows) input.asked read k))

-- what the code makes of a trace
module _ (nodes : ℕ) (setting : Setting) (trace : Trace) where
  abbrev pub script_in : ℕ → List Planned
  script_in = script_at trace.scripts

  abbrev pub threads_in : ℕ
  threads_in = length trace.scripts

  abbrev pub labels_in : ℕ → ℕ
  labels_in k = labels_by nodes setting.config script_in k threads_in

  abbrev pub owners_in : List NodeNo
  owners_in = owners_of nodes setting.config script_in trace.labels threads_in

  abbrev pub opened : World NodePart (Beside NodeLocal)
  opened =
      world_of (parts_by setting labels_in nodes)
      (map (λ t. thread_by setting nodes t owners_in (script_in t)) (range_with_len 0 threads_in))

-- is what the rules begin with, where it was read
module _ (nodes : ℕ) (rows : List ClassRow) (asked : Asked) (read : IsAsked (length rows) asked) where
  abbrev trace : Trace
  trace = trace_of asked

  abbrev under : Setting
  under = record { table = rows; config = asked.config }

  is_read : IsRead (length rows) trace asked
  is_read = record { is = refl; valid = read }

  as_asked : input_under under trace ≡ record { rows = rows; asked = asked }
  as_asked = input_is rows (length rows) trace asked is_read

  count : length trace.scripts ≡ asked.config.threads
  count = scripts_are (length rows) trace asked is_read

  same_script : (t : ℕ) → t < length trace.scripts → script_at trace.scripts t ≡ script_of t asked.calls
  same_script t low = script_at_is asked.config.threads asked.calls t (omega (arith, low, count))

  same_labels : (k : ℕ) → labels_in nodes under trace k ≡ labels_by nodes asked.config (λ t. script_of t asked.calls) k asked.config.threads
  same_labels k =
      fold_below _ _ 0 (length trace.scripts) (λ m t low. rw (same_script t low))
      ∙ ap (labels_by nodes asked.config (λ t. script_of t asked.calls) k) count

  same_owners : owners_in nodes under trace ≡ owners_of nodes asked.config (λ t. script_of t asked.calls) (labels_of asked) asked.config.threads
  same_owners =
      fold_below _ _ (replicate (labels_of asked) (record { 0 = 0 })) (length trace.scripts) (λ os t low. rw (same_script t low))
      ∙ ap (owners_of nodes asked.config (λ t. script_of t asked.calls) (labels_of asked)) count

  opened_again : IsTable rows → opened nodes under trace ≡ start (numa_rules nodes (input_under under trace))
  opened_again is_table =
      let valid = subst IsValidInput as_asked (valid_read rows trace asked is_table is_read) in
      let input : Input = record { rows = rows; asked = asked } in
      let script : ℕ → List Planned = λ t. script_of t asked.calls in
      let owners : List NodeNo = owners_of nodes asked.config script (labels_of asked) asked.config.threads in
      let parts : parts_by under (labels_in nodes under trace) nodes ≡ (numa_rules nodes input).parts =
      fold_below _ _ [] nodes (λ ps k low. rw (same_labels k)) ∙ parts_are nodes input valid read in
      let by : List NodeNo → ℕ → Beside NodeLocal = λ os t. thread_by under nodes t os (script_at trace.scripts t) in
      let threads : map (by (owners_in nodes under trace)) (range_with_len 0 (length trace.scripts)) ≡ (numa_rules nodes input).locals =
      rw same_owners (same_below (by owners) (λ t. thread_by under nodes t owners (script t)) (length trace.scripts) (λ t low. rw (same_script t low))
      ∙ rw count (threads_are nodes input valid read)) in
      rw (parts, threads) (ap (λ (i : Input). start (numa_rules nodes i)) (sym as_asked))

  few_again : (k : ℕ) → labels_in nodes under trace k ≤ 1000000
  few_again k =
      let few = few_kept (length rows) asked read (λ (c : ThreadCall). eqb (node_of nodes asked c) k) [] asked.calls refl in
      omega (arith, same_labels k, labels_are nodes (length rows) asked read k, few)

-- where a setting has the trace's heads
module _ (setting : Setting) {trace : Trace} {asked : Asked} (heads : setting.config ≡ trace.config) (read : IsRead (length setting.table) trace asked) where
  abbrev under_heads : Setting
  under_heads = record { table = setting.table; config = asked.config }

  same_setting : setting ≡ under_heads
  same_setting = ap (λ (c : Config). let s : Setting = record { table = setting.table; config = c } in s) (heads ∙ ap (λ (t : Trace). t.config) read.is)

  pub opened_is : (nodes : ℕ) → IsTable setting.table → opened nodes setting trace ≡ start (numa_rules nodes (input_under setting trace))
  opened_is nodes is_table = rw (same_setting, read.is) (opened_again nodes setting.table asked read.valid is_table)

  pub few_labels : (nodes k : ℕ) → labels_in nodes setting trace k ≤ 1000000
  few_labels nodes k = rw (same_setting, read.is) (few_again nodes setting.table asked read.valid k)

  pub valid_in : IsTable setting.table → IsValidInput (input_under setting trace)
  valid_in is_table = rw heads (valid_read setting.table trace asked is_table read)

  pub some_cpus : 0 < setting.config.cpus
  some_cpus = omega (arith, ap (λ (c : Config). c.cpus) heads, ap (λ (t : Trace). t.config.cpus) read.is, (read.valid.config Cpus).0)

  pub few_scripts : {scripts : List Script} → scripts ≡ trace.scripts → length scripts ≤ 64
  few_scripts are =
      let many = scripts_are (length setting.table) trace asked read in
      omega (arith, ap length are, many, ap (λ (t : Trace). t.config.threads) read.is, (read.valid.config Threads).1)
