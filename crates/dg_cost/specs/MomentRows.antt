-- The rows of moments in the counts of a run (docs/COMMANDS.md, "What a script costs").
use Rattle.std.specs.Prelude.{◌≡◌, ℕ, ◌+◌, ◌==◌, true, if◌then◌else◌, List, [], ◌∷◌, ◌++◌, length, Option, Some, None, slice_get}
use Rattle.std.specs.List.{flat_map}
use Rattle.std.specs.BTreeMap.{BTreeMap, IsOrdered}
use Rattle.dg_base.specs.declared.events.ImageVersion.{ImageVersion}
use Rattle.dg_cost_text.specs.Moments.{what_key, rows_at, moments_in, summed_table, AddsNoMoment}
use Rattle.dg_cost_text.specs.Table.{table_of_rows}
use Rattle.dg_cost_text.specs.declared.moment.Moment.{Moment}
use Rattle.dg_cost_text.specs.declared.moment.What.TheVariants.{Whole as WholeAt, All as AllHave, Newest}
use Rattle.dg_cost_text.specs.declared.rows.Rows.{Rows}
use Rattle.dg_rules.specs.Runs.{Played}
use Rattle.dg_volume.specs.Store.{Store}
use Rattle.dg_moments.specs.Moments.{is_loaded, loaded_images, newest_at}
use Rattle.dg_moments.specs.Wholes.{KnowsImage, whole_cmp, image_version_cmp}
use Rattle.dg_count.specs.declared.counter.Counter.{Counter}
use Rattle.dg_moments.specs.declared.wholes.Whole.{Whole}

-- the two rows of an image that became whole, if it was at this mote
abbrev pub rows_of_whole : (mote : ℕ) → Whole × Moment → List (List ℕ × ℕ)
rows_of_whole mote e = if e.0.mote == mote then rows_at (what_key (WholeAt e.0.image e.0.version e.0.times)) e.1 else []

-- those of a mote, in order
abbrev pub whole_rows : (mote : ℕ) → List (Whole × Moment) → List (List ℕ × ℕ)
whole_rows mote wholes = flat_map (rows_of_whole mote) wholes

-- the two rows of a version of an image that all motes kept
abbrev pub rows_of_all : ImageVersion × Moment → List (List ℕ × ℕ)
rows_of_all e = rows_at (what_key (AllHave e.0.image e.0.version)) e.1

-- the two rows of an image of which all motes keep the newest version from this moment on, if they do
abbrev pub rows_of_newest : (image : ℕ) → Option Moment → List (List ℕ × ℕ)
rows_of_newest image None = []
rows_of_newest image (Some at) = rows_at (what_key (Newest image)) at

-- those of this image and those after it
abbrev pub newest_rows : (image : ℕ) → List (Option Moment) → List (List ℕ × ℕ)
newest_rows image [] = []
newest_rows image (at ∷ later) = rows_of_newest image at ++ newest_rows (image + 1) later

-- ---- in a table

-- The rows of moments in the table of a mote are exactly those of what became whole there, in order.
pub record HasWholeRows (mote : ℕ) (wholes : BTreeMap Whole Moment) (table : List (List ℕ × ℕ)) : Type 0 where
  pub ordered : IsOrdered whole_cmp wholes
  pub are : moments_in table ≡ whole_rows mote wholes.entries

-- The rows of moments in the table of all motes are exactly those of what all kept, in order, then those of images from 1 on.
pub record HasAllRows (kept : BTreeMap ImageVersion Moment) (newest : List (Option Moment))
    (table : List (List ℕ × ℕ)) : Type 0 where
  pub ordered : IsOrdered image_version_cmp kept
  pub are : moments_in table ≡ flat_map rows_of_all kept.entries ++ newest_rows 1 newest

-- ---- of a counter

-- what a counter answers of the newest version of an image
abbrev pub IsNewestAt : Counter → (image : ℕ) → Option Moment → Type 0
IsNewestAt c image at = (stores : List Store) (events : List Played) → c.placed ≡ length stores → is_loaded image ≡ true
    → KnowsImage c.wholes stores events image → at ≡ newest_at stores events image

-- what it answers of images from 1 to 6
pub record AreNewest (c : Counter) (newest : List (Option Moment)) : Type 0 where
  pub images : length newest ≡ loaded_images
  pub each : (i : ℕ) (at : Option Moment) → slice_get newest i ≡ Some at → IsNewestAt c (i + 1) at

-- The table of all motes has the rows of the moments that the counter knows.
pub record TellsAll (c : Counter) (table : List (List ℕ × ℕ)) : Type 0 where
  pub newest : List (Option Moment)
  pub answers : AreNewest c newest
  pub has : HasAllRows c.wholes.all newest table

-- ---- sums

-- The rows of moments among these are those of a mote, and none of them is summed over the motes.
pub record HasMoments (mote : ℕ) (wholes : BTreeMap Whole Moment) (rows : Rows) : Type 0 where
  pub has : HasWholeRows mote wholes (table_of_rows rows)
  pub unsummed : AddsNoMoment [] (summed_table rows)

-- no mote's moments are summed
abbrev pub SumsNoMoment : List Rows → Type 0
SumsNoMoment motes = (m : ℕ) (rows : Rows) → slice_get motes m ≡ Some rows → AddsNoMoment [] (summed_table rows)
