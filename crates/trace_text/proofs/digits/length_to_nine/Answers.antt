use Rattle.std.proofs.Common.{◌≡◌, ◌^◌, ◌%◌, length, map, cond, replicate, ltb, ◌∙◌, arith, w8}
use Rattle.std.proofs.lemmas.List.{length-map}
use Rattle.std.proofs.lemmas.Simd.{tops_compared, zip2_splat_left, mask_l-mod, trailing_mask_l}
use Rattle.std.specs.Simd.Lanes.{mask_l, top, zip2}
use Rattle.trace_text.proofs.digits.length_to_nine.Goals as goal

pub returns : goal.returns
returns c =
    let values = c.args.values in
    let size : length values ≡ 8 = c.requires in
    let lanes = tops_compared w8 ltb (replicate 8 9) values ∙ zip2_splat_left ltb 9 8 values size in
    let mask : mask_l (map (top 7) (zip2 (λ a b. cond (ltb a b) 255 0) (replicate 8 9) values)) % 2 ^ 64 ≡ mask_l (map (ltb 9) values) = rw lanes (mask_l-mod (map (ltb 9) values) 64 (omega (arith, length-map values (ltb 9)))) in
    rw mask (trailing_mask_l (ltb 9) 64 values (omega arith) (omega (arith, c.if-others-eq0.false, mask)))
