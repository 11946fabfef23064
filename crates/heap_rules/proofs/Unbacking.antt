-- What loses its backing, computed from the definitions and worked out by hand.
use Rattle.std.proofs.Common.{◌≡◌, [], ◌∷◌, refl}
use Rattle.heap_rules.proofs.Rows.{New, Free, Release, limits, summary, sums}

-- a release breaks a hugepage with free pages, and an intact one is preferred then
broken_hugepage : summary (limits 4 8 512 8192 0) (New 2 ∷ New 254 ∷ Free 0 ∷ Release 100 ∷ New 3 ∷ New 2 ∷ []) ≡ sums (256 ∷ 258 ∷ 2 ∷ 512 ∷ 515 ∷ []) 259 510
broken_hugepage = refl

-- a release takes free hugepages first, then idle ones of regions, then the filler's free pages
order_of_release : summary (limits 8 8 2 0 0) (New 300 ∷ New 1 ∷ New 256 ∷ Free 2 ∷ Release 1 ∷ Release 300 ∷ []) ≡ sums (256 ∷ 768 ∷ 1024 ∷ 256 ∷ 255 ∷ []) 301 513
order_of_release = refl

idle_in_a_region : summary (limits 8 8 3 0 0) (New 300 ∷ New 400 ∷ Free 0 ∷ Release 1 ∷ []) ≡ sums (256 ∷ 556 ∷ 256 ∷ []) 400 512
idle_in_a_region = refl

-- the cache keeps as many free hugepages backed as its limit says
no_cache : summary (limits 2 0 512 8192 0) (New 256 ∷ Free 0 ∷ []) ≡ sums (256 ∷ []) 0 0
no_cache = refl

a_cache : summary (limits 2 8 512 8192 0) (New 256 ∷ Free 0 ∷ []) ≡ sums (256 ∷ []) 0 256
a_cache = refl

-- a window of heap calls lowers the limit to what was lately used
no_window : summary (limits 4 8 512 8192 0) (New 256 ∷ New 256 ∷ Free 0 ∷ Free 1 ∷ []) ≡ sums (256 ∷ 512 ∷ []) 0 512
no_window = refl

window_of_one : summary (limits 4 8 512 8192 1) (New 256 ∷ New 256 ∷ Free 0 ∷ Free 1 ∷ []) ≡ sums (256 ∷ 512 ∷ []) 0 0
window_of_one = refl

window_of_two : summary (limits 4 8 512 8192 2) (New 256 ∷ New 256 ∷ Free 0 ∷ Free 1 ∷ []) ≡ sums (256 ∷ 512 ∷ []) 0 256
window_of_two = refl

run_over_unbacked : summary (limits 4 8 512 8192 2) (New 256 ∷ New 256 ∷ New 256 ∷ Free 0 ∷ Free 2 ∷ New 512 ∷ []) ≡ sums (256 ∷ 512 ∷ 768 ∷ 768 ∷ []) 768 768
run_over_unbacked = refl
