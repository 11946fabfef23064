-- Parts that are added one by one.
use Rattle.std.proofs.Common.{◌≡◌, ℕ, ◌+◌, List, [], ◌∷◌, ◌++◌, length, map, take, Some, sym, ap, ◌∙◌, arith, append_assoc}
use Rattle.std.specs.List.{slice_get}
use Rattle.std.proofs.lemmas.List.{map-append, take_more}
use Rattle.std.proofs.lemmas.Option.{slice_get_within, get_or_from_slice_get}
use Rattle.tc_units.specs.declared.spans.ClassRow.{ClassRow}
use Rattle.alloc_rules.specs.declared.part.Part.{Part}
use Rattle.alloc_rules.specs.declared.part.Part.TheVariants as part
use Rattle.alloc_rules.specs.Machine.{first_shard, first_shards}

-- the shard of one class more
shards_more : (room k : ℕ) (rows : List ClassRow) (row : ClassRow) → first_shards room k (rows ++ row ∷ []) ≡ first_shards room k rows ++ first_shard room (k + length rows) row ∷ []
shards_more room k [] row = ap (λ n. first_shard room n row ∷ []) (let e : k ≡ k + 0 = omega arith in e)
shards_more room k (r ∷ rows) row = ap (λ ys. first_shard room k r ∷ ys) (shards_more room (k + 1) rows row ∙ ap (λ n. first_shards room (k + 1) rows ++ first_shard room n row ∷ []) (let e : k + 1 + length rows ≡ k + length (r ∷ rows) = omega arith in e))

pub shard_more : {P : Type 0} (room : ℕ) (rows : List ClassRow) (row : ClassRow) (old now next : List (Part P)) (n : ℕ) (y : Part P)
    → slice_get rows n ≡ Some row → length (take n rows) ≡ n → now ≡ old ++ map part.Shard (first_shards room 0 (take n rows))
    → y ≡ part.Shard (first_shard room n row) → next ≡ now ++ y ∷ [] → next ≡ old ++ map part.Shard (first_shards room 0 (take (n + 1) rows))
shard_more room rows row old now next n y at count are is more =
    let within = slice_get_within rows n row at in
    let rows_more : take (n + 1) rows ≡ take n rows ++ row ∷ [] = take_more rows n row within ∙ ap (λ x. take n rows ++ x ∷ []) (get_or_from_slice_get rows n row row at) in
    let shards : first_shards room 0 (take (n + 1) rows) ≡ first_shards room 0 (take n rows) ++ first_shard room n row ∷ [] = ap (first_shards room 0) rows_more ∙ (shards_more room 0 (take n rows) row ∙ ap (λ k. first_shards room 0 (take n rows) ++ first_shard room k row ∷ []) (let e : 0 + length (take n rows) ≡ n = omega (arith, count) in e)) in
    more ∙ (ap (λ ys. ys ++ y ∷ []) are
    ∙ (ap (λ z. (old ++ map part.Shard (first_shards room 0 (take n rows))) ++ z ∷ []) is
    ∙ (append_assoc old (map part.Shard (first_shards room 0 (take n rows))) (part.Shard (first_shard room n row) ∷ [])
    ∙ ap (λ ys. old ++ ys) (sym (map-append part.Shard (first_shards room 0 (take n rows)) (first_shard room n row ∷ [])) ∙ ap (map part.Shard) (sym shards)))))
