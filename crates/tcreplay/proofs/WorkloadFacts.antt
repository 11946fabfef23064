-- The numbers of words are in their ranges.
use Rattle.std.proofs.Common.{◌≡◌, ℕ, ◌≤◌, Bool, true, false, ◌&&◌, cond, List, [], ◌∷◌, Option, Some, None, refl, sym, subst, arith, nat_le, option_and_then}
use Rattle.std.specs.Prelude.{IfSome, option_map}
use Rattle.std.proofs.lemmas.Bool.Decides.{nat_tests}
use Rattle.tc_units.specs.Decimal.{number_of}
use Rattle.trace_reader.specs.Words.{from_to}
use Rattle.trace_reader.specs.Form.{number_in}
use Rattle.tcreplay.specs.declared.words.Kind.{Kind}
use Rattle.tcreplay.specs.declared.words.Flag.{Flag}
use Rattle.tcreplay.specs.declared.words.Flag.TheVariants as flag
use Rattle.tcreplay.specs.Words.{Options, no_options, name_of, locks_of, once, is_switch, taken_flag, with_switch, with_value, options_of, kind_of, task_under, task_by}
use Rattle.tcreplay.specs.declared.task.Task.{Task as Asked}
use Rattle.tcreplay.specs.Tasks.{IsStep, IsTask}
use Rattle.tcreplay.specs.Seen.{seen_task}

-- what holds of a value that comes holds of it under a map, and behind a step
mapped : {A B : Type 0} (f : A → B) (Q : A → Type 0) (P : B → Type 0) (o : Option A) → IfSome o Q → ((a : A) → Q a → P (f a)) → IfSome (option_map f o) P
mapped f Q P None is each = tt
mapped f Q P (Some a) is each = each a is

behind : {A B : Type 0} (f : A → Option B) (Q : A → Type 0) (P : B → Type 0) (o : Option A) → IfSome o Q → ((a : A) → Q a → IfSome (f a) P) → IfSome (option_and_then f o) P
behind f Q P None is each = tt
behind f Q P (Some a) is each = each a is

-- of a value of which nothing is known
any_one : {A : Type 0} (o : Option A) → IfSome o (λ _. Unit {0})
any_one None = tt
any_one (Some a) = tt

-- a number that is tested against its greatest value
tested : (a b : Bool) (n most : ℕ) → (b ≡ true → n ≤ most) → IfSome (cond (a && b) (Some n) None) (λ m. m ≤ most)
tested a b n most within = grind (arith)

no_more : (most : ℕ) (bytes : List ℕ) → IfSome (number_of most bytes) (λ n. n ≤ most)
no_more most bytes = grind (arith)

no_less : (least n most : ℕ) (b : Bool) → (b ≡ true → least ≤ n) → n ≤ most → IfSome (cond b (Some n) None) (λ n. (least ≤ n) × (n ≤ most))
no_less least n most true above within = (above refl, within)
no_less least n most false above within = tt

in_range : (least most : ℕ) (word : List ℕ) → IfSome (number_in (from_to least most) word) (λ n. (least ≤ n) × (n ≤ most))
in_range least most word = behind (λ n. cond (nat_le least n) (Some n) None) (λ n. n ≤ most) (λ n. (least ≤ n) × (n ≤ most)) (number_of most word) (no_more most word) (λ n within. no_less least n most (nat_le least n) (λ e. grind (arith, nat_tests)) within)

-- the numbers of options are in their ranges
record AreRanged (so : Options) : Type 0 where
  pub sample : IfSome so.sample IsStep
  pub seed : IfSome so.seed (λ n. (0 ≤ n) × (n ≤ 2147483647))
  pub calls : IfSome so.calls (λ n. (1 ≤ n) × (n ≤ 500000))
  pub threads : IfSome so.threads (λ n. (1 ≤ n) × (n ≤ 64))

once_is : {A : Type 0} (P : A → Type 0) (earlier value : Option A) → IfSome value P → IfSome (once earlier value) P
once_is P None value is = is
once_is P (Some a) value is = tt

value_ranged : (so : Options) (f : Flag) (word : List ℕ) → AreRanged so → IfSome (with_value so f word) AreRanged
value_ranged so flag.Classes word are = mapped (λ name. record so { classes = Some name }) (λ _. Unit {0}) AreRanged (once so.classes (name_of word)) (any_one (once so.classes (name_of word))) (λ name _. record { sample = are.sample; seed = are.seed; calls = are.calls; threads = are.threads })
value_ranged so flag.Nodes word are = mapped (λ n. record so { nodes = Some n }) (λ _. Unit {0}) AreRanged (once so.nodes (number_in (from_to 1 8) word)) (any_one (once so.nodes (number_in (from_to 1 8) word))) (λ n _. record { sample = are.sample; seed = are.seed; calls = are.calls; threads = are.threads })
value_ranged so flag.Order word are = mapped (λ name. record so { order = Some name }) (λ _. Unit {0}) AreRanged (once so.order (name_of word)) (any_one (once so.order (name_of word))) (λ name _. record { sample = are.sample; seed = are.seed; calls = are.calls; threads = are.threads })
value_ranged so flag.Locks word are = mapped (λ locks. record so { locks = Some locks }) (λ _. Unit {0}) AreRanged (once so.locks (locks_of word)) (any_one (once so.locks (locks_of word))) (λ locks _. record { sample = are.sample; seed = are.seed; calls = are.calls; threads = are.threads })
value_ranged so flag.Workers word are = tt
value_ranged so flag.Rows word are = tt
value_ranged so flag.Sample word are = mapped (λ n. record so { sample = Some n }) IsStep AreRanged (once so.sample (number_in (from_to 1 1073741824) word)) (once_is IsStep so.sample (number_in (from_to 1 1073741824) word) (in_range 1 1073741824 word)) (λ n is. record { sample = is; seed = are.seed; calls = are.calls; threads = are.threads })
value_ranged so flag.Seed word are = mapped (λ n. record so { seed = Some n }) (λ n. (0 ≤ n) × (n ≤ 2147483647)) AreRanged (once so.seed (number_in (from_to 0 2147483647) word)) (once_is (λ n. (0 ≤ n) × (n ≤ 2147483647)) so.seed (number_in (from_to 0 2147483647) word) (in_range 0 2147483647 word)) (λ n is. record { sample = are.sample; seed = is; calls = are.calls; threads = are.threads })
value_ranged so flag.Calls word are = mapped (λ n. record so { calls = Some n }) (λ n. (1 ≤ n) × (n ≤ 500000)) AreRanged (once so.calls (number_in (from_to 1 500000) word)) (once_is (λ n. (1 ≤ n) × (n ≤ 500000)) so.calls (number_in (from_to 1 500000) word) (in_range 1 500000 word)) (λ n is. record { sample = are.sample; seed = are.seed; calls = is; threads = are.threads })
value_ranged so flag.Threads word are = mapped (λ n. record so { threads = Some n }) (λ n. (1 ≤ n) × (n ≤ 64)) AreRanged (once so.threads (number_in (from_to 1 64) word)) (once_is (λ n. (1 ≤ n) × (n ≤ 64)) so.threads (number_in (from_to 1 64) word) (in_range 1 64 word)) (λ n is. record { sample = are.sample; seed = are.seed; calls = are.calls; threads = is })
value_ranged so flag.Journal word are = mapped (λ name. record so { journal = Some name }) (λ _. Unit {0}) AreRanged (once so.journal (name_of word)) (any_one (once so.journal (name_of word))) (λ name _. record { sample = are.sample; seed = are.seed; calls = are.calls; threads = are.threads })

switch_ranged : (so : Options) (f : Flag) → AreRanged so → IfSome (with_switch so f) AreRanged
switch_ranged so f are = grind (arith)

either : {A : Type 0} (P : A → Type 0) (b : Bool) (one other : Option A) → IfSome one P → IfSome other P → IfSome (cond b one other) P
either P true one other here there = here
either P false one other here there = there

options_ranged : (k : Kind) (so : Options) (words : List (List ℕ)) → AreRanged so → IfSome (options_of k so words) AreRanged
options_ranged k so [] are = are
options_ranged k so (word ∷ []) are =
    behind (λ f. cond (is_switch f) (with_switch so f) None) (λ _. Unit {0}) AreRanged (taken_flag k word) (any_one (taken_flag k word)) (λ f _. either AreRanged (is_switch f) (with_switch so f) None (switch_ranged so f are) tt)
options_ranged k so (word ∷ value ∷ words) are =
    behind (λ f. cond (is_switch f) (option_and_then (λ more. options_of k more (value ∷ words)) (with_switch so f)) (option_and_then (λ more. options_of k more words) (with_value so f value))) (λ _. Unit {0}) AreRanged (taken_flag k word) (any_one (taken_flag k word))
    (λ f _. either AreRanged (is_switch f) (option_and_then (λ more. options_of k more (value ∷ words)) (with_switch so f)) (option_and_then (λ more. options_of k more words) (with_value so f value))
    (behind (λ more. options_of k more (value ∷ words)) AreRanged AreRanged (with_switch so f) (switch_ranged so f are) (λ more is. options_ranged k more (value ∷ words) is))
    (behind (λ more. options_of k more words) AreRanged AreRanged (with_value so f value) (value_ranged so f value are) (λ more is. options_ranged k more words is)))

-- the numbers of a task are those of the options
under_ranged : (k : Kind) (so : Options) (classes : List ℕ) → AreRanged so → IfSome (task_under k so classes) IsTask
under_ranged k so classes are = grind (arith)

task_with_ranged : (k : Kind) (so : Options) → AreRanged so → IfSome (option_and_then (task_under k so) so.classes) IsTask
task_with_ranged k so are = behind (task_under k so) (λ _. Unit {0}) IsTask so.classes (any_one so.classes) (λ classes _. under_ranged k so classes are)

pub task_ranged : (words : List (List ℕ)) → IfSome (task_by words) IsTask
task_ranged [] = tt
task_ranged (word ∷ words) =
    behind (λ k. option_and_then (λ so. option_and_then (task_under k so) so.classes) (options_of k no_options words)) (λ _. Unit {0}) IsTask (kind_of word) (any_one (kind_of word))
    (λ k _. behind (λ so. option_and_then (task_under k so) so.classes) AreRanged IsTask (options_of k no_options words) (options_ranged k no_options words (record { sample = tt; seed = tt; calls = tt; threads = tt })) (task_with_ranged k))

-- of tasks as the code has them
pub seen_ranged : (words : List (List ℕ)) (found : Option Asked) → option_map seen_task found ≡ task_by words → IfSome found (λ task. IsTask (seen_task task))
seen_ranged words None is = tt
seen_ranged words (Some task) is = subst (λ t. IfSome t IsTask) (sym is) (task_ranged words)
