use Rattle.std.proofs.Common.{◌≡◌, ◌==◌, ◌<◌, length, take, map, eqb, sym, ◌∙◌, arith, w8}
use Rattle.std.proofs.lemmas.List.{length-take-le}
use Rattle.std.proofs.lemmas.Simd.{bitmask_splat, leading_from_mask_l, trailing_mask_l}
use Rattle.std.specs.Simd.Lanes.{mask_l}
use Rattle.trace_text.proofs.search.length_in_block.Goals as goal

pub returns-then-places-eq0 : goal.returns-then-places-eq0
returns-then-places-eq0 c =
    let block = take 32 c.args.bytes.now in
    let size : length block ≡ 32 = length-take-le 32 c.args.bytes.now c.requires in
    let mask = bitmask_splat w8 eqb block 32 c.args.wanted size (omega arith) in
    sym (leading_from_mask_l (λ b. b == c.args.wanted) block (sym mask ∙ c.if-places-eq0.true) ∙ size)

pub returns : goal.returns
returns c =
    let block = take 32 c.args.bytes.now in
    let size : length block ≡ 32 = length-take-le 32 c.args.bytes.now c.requires in
    let mask = bitmask_splat w8 eqb block 32 c.args.wanted size (omega arith) in
    let some : 0 < mask_l (map (λ b. b == c.args.wanted) block) = omega (arith, c.if-places-eq0.false, mask) in
    rw mask (trailing_mask_l (λ b. b == c.args.wanted) 64 block (omega arith) some)
