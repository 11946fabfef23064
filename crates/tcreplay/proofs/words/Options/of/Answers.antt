use Rattle.std.proofs.Common.{◌≡◌, true, false, ◌∷◌, Some, map, string_bytes, sym, ap, ◌∙◌}
use Rattle.tcreplay.specs.Words.{is_switch, taken_flag, with_switch, with_value, options_of}
use Rattle.tcreplay.specs.Seen.{seen}
use Rattle.tcreplay.proofs.OptionFacts.{switch_step, value_step}
use Rattle.tcreplay.proofs.words.Options.of.Goals as goal

pub loop-word-preserved-then-is_switch : goal.loop-word-preserved-then-is_switch
loop-word-preserved-then-is_switch c =
    let words : c.loop-word.rest.now ≡ c.in-Some.word.now ∷ c.in-Some.behind.now = c.in-Some.ensures.cases.0 in
    let with : with_switch (seen c.loop-word.options) c.in_ok-flag.flag ≡ Some (seen c.in_ok-options.options) = sym c.in_ok-options.ensures in
    let taken : taken_flag c.args.kind (string_bytes c.in-Some.word.now) ≡ Some c.in_ok-flag.flag = ap (taken_flag c.args.kind) (sym c.as_str.ensures.value) ∙ sym c.in_ok-flag.ensures in
    let rows : is_switch c.in_ok-flag.flag ≡ true = sym c.if-is_switch.ensures in
    sym (switch_step c.args.kind (seen c.loop-word.options) (seen c.in_ok-options.options) (string_bytes c.in-Some.word.now) c.in_ok-flag.flag (map string_bytes c.in-Some.behind.now) taken rows with)
    ∙ (ap (λ ws. options_of c.args.kind (seen c.loop-word.options) (map string_bytes ws)) (sym words) ∙ c.loop-word.invariant)

pub loop-word-preserved : goal.loop-word-preserved
loop-word-preserved c =
    let words : c.loop-word.rest.now ≡ c.in-Some.word.now ∷ c.in-Some.behind.now = c.in-Some.ensures.cases.0 in
    let rest : c.in-Some.behind.now ≡ c.in_ok-value.value.now ∷ c.in_ok-value.behind.now = c.in_ok-value.ensures.cases.0 in
    let with : with_value (seen c.loop-word.options) c.in_ok-flag.flag (string_bytes c.in_ok-value.value.now) ≡ Some (seen c.in_ok-options-2.options) = sym (c.in_ok-options-2.ensures ∙ ap (with_value (seen c.loop-word.options) c.in_ok-flag.flag) c.as_str-else-is_switch.ensures.value) in
    let taken : taken_flag c.args.kind (string_bytes c.in-Some.word.now) ≡ Some c.in_ok-flag.flag = ap (taken_flag c.args.kind) (sym c.as_str.ensures.value) ∙ sym c.in_ok-flag.ensures in
    let rows : is_switch c.in_ok-flag.flag ≡ false = sym c.if-is_switch.ensures in
    sym (value_step c.args.kind (seen c.loop-word.options) (seen c.in_ok-options-2.options) (string_bytes c.in-Some.word.now) (string_bytes c.in_ok-value.value.now) c.in_ok-flag.flag (map string_bytes c.in_ok-value.behind.now) taken rows with)
    ∙ (ap (λ ws. options_of c.args.kind (seen c.loop-word.options) (string_bytes c.in-Some.word.now ∷ map string_bytes ws)) (sym rest)
    ∙ (ap (λ ws. options_of c.args.kind (seen c.loop-word.options) (map string_bytes ws)) (sym words) ∙ c.loop-word.invariant))
