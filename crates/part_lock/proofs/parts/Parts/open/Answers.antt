use Rattle.std.proofs.Common.{◌∙◌, ap, sym, replicate, ℕ, length}
use Rattle.std.proofs.lemmas.List.{length-map}
use Rattle.part_lock.specs.declared.view.Stall.{Stall}
use Rattle.part_lock.proofs.Opening.{opens}
use Rattle.part_lock.specs.Lock.{part_word}
use Rattle.part_lock.proofs.parts.Parts.open.Goals as goal

pub new-requires : goal.new-requires
new-requires g c =
    let stalls = c.fill-stalls.ensures in
    let count = c.len.ensures ∙ (c.args.parts.ok.0 ∙ (ap length (sym stalls.parts) ∙ length-map c.fill-stalls.result.items (λ (x : Stall _). x.part))) in
    let zeros = c.as_slice.ensures.value ∙ (c.in-Ok.ensures ∙ ap (λ (n : ℕ). replicate (part_word n) 0) count) in
    opens g.M.Machine.rules _ _ _ c.requires.events zeros stalls.entries (stalls.parts ∙ c.requires.start)
