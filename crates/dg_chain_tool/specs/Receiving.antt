-- The stores that a chip goes through while it receives an image whose data pages are compared with a root (docs/COMMANDS.md,
-- "Hash-chained images").
use Rattle.std.specs.Prelude.{ℕ, ◌-◌, ◌==◌, if◌then◌else◌, List, [], drop, take, slice_index_or, Option, Some, None}
use Rattle.dg_nor.specs.Trail.{Trail, last, joined, resting}
use Rattle.dg_object.specs.Object.{Row, object, profile}
use Rattle.dg_volume.specs.Store.{Store, held}
use Rattle.dg_volume.specs.Changes.{is_version, inject_refusal}
use Rattle.dg_volume.specs.Trails.{take_trail, fill_trail, inject_trail, done_of}
use Rattle.dg_volume.specs.declared.volume.InjectFault.{InjectFault}
use Rattle.dg_chain.specs.Checking.{Break, field_of, first_break}
use Rattle.dg_chain.specs.Receiving.{fill_operations}

-- the digest that data page n is expected to have: the root, or the one that the page before it carries
abbrev pub expected : (root : List ℕ) → List (List ℕ) → ℕ → List ℕ
expected root pages n = if n == 1 then root else field_of (slice_index_or pages (n - 1) [])

-- the pages that are complete of this version
abbrev pub done_in : Store → Row → ℕ
done_in s row = if is_version (held s row.image) row.version then done_of (held s row.image) else 0

-- the first foreign one of the pages that are filled: page 0 has no digest that is expected of it
abbrev pub foreign_in : (root : List ℕ) → Store → Row → Option Break
foreign_in root s row =
    let done = done_in s row in let n = if done == 0 then 1 else done in
    first_break (expected root (object row) n) n (drop n (object row))

-- An image is kept with these pages: its slot is taken unless this version is kept,
-- and then each of them that is missing is filled.
abbrev pub keep_trail : Store → Row → List (List ℕ) → Trail Store
keep_trail s row pages =
    if is_version (held s row.image) row.version then fill_trail s row.image (drop (done_of (held s row.image)) pages)
    else joined (take_trail s (profile row)) (fill_trail (last (take_trail s (profile row))) row.image pages)

-- After these stores a page is filled, but not made complete. No store shows that.
abbrev pub with_foreign : Trail Store → Trail Store
with_foreign t = joined t (resting (last t) fill_operations)

-- The pages before the first foreign one are kept, as an injection keeps them.
abbrev pub trail_by : Option InjectFault → Option Break → Store → Row → Trail Store
trail_by (Some fault) found s row = resting s 0
trail_by None None s row = inject_trail s row
trail_by None (Some at) s row = with_foreign (keep_trail s row (take at.page (object row)))

unfoldable pub receive_trail : (root : List ℕ) → Store → Row → Trail Store
receive_trail root s row = trail_by (inject_refusal s row) (foreign_in root s row) s row
