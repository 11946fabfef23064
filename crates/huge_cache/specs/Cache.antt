-- The free hugepages: which are there, which of them are backed, and how many stay so.
use Rattle.std.specs.Prelude.{◌≡◌, ℕ, ◌+◌, ◌-◌, ◌<◌, ◌≤◌, Bool, true, false, not, List, [], map, replicate, count_by, slice_set, length}
use Rattle.huge_cache.specs.declared.stretch.Stretch.{Stretch}
use Rattle.range_bits.specs.Ranges.{with_places}
use Rattle.heap_rules.specs.Numbered.{at_number}
use Rattle.heap_rules.specs.CacheFlags.{with_count, limit}

-- What contracts see: the most backed free hugepages and the window, as at the opening; for each hugepage of the arena (h at
-- place h - 1) whether it isn't in the cache, and whether it isn't there and backed; and the use counts, the newest last.
pub record Cache : Type 0 where
  pub most : ℕ
  pub window : ℕ
  pub taken : List Bool
  pub unready : List Bool
  pub counts : List ℕ

-- at the opening all hugepages are free, and none is backed
abbrev pub opened : ℕ → ℕ → ℕ → Cache
opened huge most window = record { most = most; window = window; taken = replicate huge false; unready = replicate huge true; counts = [] }

-- whether a hugepage is in the cache, and whether it is there and backed
abbrev pub holds : Cache → ℕ → Bool
holds cache h = not (at_number true cache.taken h)

abbrev pub is_backed : Cache → ℕ → Bool
is_backed cache h = not (at_number true cache.unready h)

-- the cache where `many` hugepages from h on are out or not, and out or unbacked or not
abbrev pub with_run : Cache → ℕ → ℕ → Bool → Bool → Cache
with_run cache h many taken unready = record cache { taken = with_places cache.taken (h - 1) many taken; unready = with_places cache.unready (h - 1) many unready }

-- the cache without `many` hugepages from h on, with `many` backed ones more, and with one more
abbrev pub without_run : Cache → ℕ → ℕ → Cache
without_run cache h many = record cache { taken = with_places cache.taken (h - 1) many true; unready = with_places cache.unready (h - 1) many true }

abbrev pub with_backed_run : Cache → ℕ → ℕ → Cache
with_backed_run cache h many = record cache { taken = with_places cache.taken (h - 1) many false; unready = with_places cache.unready (h - 1) many false }

abbrev pub with_huge : Cache → ℕ → Bool → Cache
with_huge cache h backed = record cache { taken = slice_set cache.taken (h - 1) false; unready = slice_set cache.unready (h - 1) (not backed) }

-- which hugepages are free and backed
abbrev pub ready : Cache → List Bool
ready cache = map not cache.unready

-- the last hugepages that are free, backed and adjacent: as many as there are, and at most so many
pub record IsLastStretch (cache : Cache) (most : ℕ) (stretch : Stretch) : Type 0 where
  pub from : 0 < stretch.first.0
  pub some : 0 < stretch.many
  pub few : stretch.many ≤ most
  pub to : stretch.first.0 + stretch.many ≤ length cache.unready + 1
  pub backed : (h : ℕ) → stretch.first.0 ≤ h → h < stretch.first.0 + stretch.many → is_backed cache h ≡ true
  pub behind : (h : ℕ) → stretch.first.0 + stretch.many ≤ h → is_backed cache h ≡ false
  pub whole : stretch.many < most → is_backed cache (stretch.first.0 - 1) ≡ false

-- how many of them are above the limit
abbrev pub over_count : Cache → ℕ
over_count cache = count_by (λ b. b) (ready cache) - limit cache.most cache.counts

-- the cache where `many` hugepages from h on have lost their backing
abbrev pub without_backing : Cache → ℕ → ℕ → Cache
without_backing cache h many = record cache { unready = with_places cache.unready (h - 1) many true }

-- the cache with one more use count
abbrev pub noted : Cache → ℕ → Cache
noted cache in_use = record cache { counts = with_count cache.window cache.counts in_use }
