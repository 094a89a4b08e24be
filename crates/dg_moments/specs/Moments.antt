-- The moments at which images became whole, at motes and at all of them (docs/COMMANDS.md, "What a script costs").
use Rattle.std.specs.Prelude.{ℕ, ◌-◌, ◌==◌, ◌&&◌, max, nat_lt, not, Bool, false, if◌then◌else◌}
use Rattle.std.specs.Prelude.{List, [], ◌∷◌, ◌++◌, length, map, fold, slice_get, Option, Some, None}
use Rattle.std.specs.Option.{option_and_then}
use Rattle.std.specs.List.{list_all, range_with_len}
use Rattle.dg_slot.specs.Kept.{Held}
use Rattle.dg_volume.specs.Sizes.{images}
use Rattle.dg_volume.specs.Start.{is_whole}
use Rattle.dg_volume.specs.Store.{Store, held}
use Rattle.dg_rules.specs.Begins.{store_of}
use Rattle.dg_rules.specs.Runs.{Played}
use Rattle.dg_rules.specs.World.{World, store_at}
use Rattle.dg_cost_text.specs.declared.moment.Moment.{Moment}
use Rattle.dg_events.specs.Counts.{count_all}
use Rattle.dg_events.specs.Keeps.{keeps_whole}
use Rattle.dg_events.specs.Uptimes.{ms_of}

-- ---- moments of events

-- the number and the moment of the last of these events
abbrev pub event_moment : List Played → Moment
event_moment events = record { event = count_all events; ms = ms_of events }

-- before the first event
abbrev pub beginning : Moment
beginning = record { event = 0; ms = 0 }

abbrev pub one_if : Bool → Moment → List Moment
one_if holds at = if holds then at ∷ [] else []

abbrev pub last_in : List Moment → Option Moment
last_in moments = slice_get moments (length moments - 1)

-- the moments of those events that pass a test, played after the first ones
abbrev pub event_moments_after : (first : List Played) → (Played → Bool) → List Played → List Moment
event_moments_after first test [] = []
event_moments_after first test (p ∷ ps) =
    one_if (test p) (event_moment (first ++ p ∷ [])) ++ event_moments_after (first ++ p ∷ []) test ps

abbrev pub event_moments : (Played → Bool) → List Played → List Moment
event_moments test events = event_moments_after [] test events

-- ---- at a mote

-- images that are loaded: all but golden
abbrev pub loaded_images : ℕ
loaded_images = images - 1

abbrev pub is_loaded : (image : ℕ) → Bool
is_loaded image = nat_lt 0 image && nat_lt image images

abbrev pub becomes_whole : (mote image version : ℕ) → Played → Bool
becomes_whole mote image version p = keeps_whole p.after mote image version && not (keeps_whole p.before mote image version)

-- a chip that stands for this store keeps the version whole
abbrev pub has_whole : Store → (image version : ℕ) → Bool
has_whole s image version = is_whole (held s image) version

-- when a version became whole at a mote: at the beginning, if its chip began with it, and in events
abbrev pub whole_moments : List Store → List Played → (mote image version : ℕ) → List Moment
whole_moments stores events mote image version =
    one_if (has_whole (store_of stores mote) image version) beginning ++ event_moments (becomes_whole mote image version) events

-- ---- at all motes

-- each of this many motes passes a test, and there are some
abbrev pub all_motes : (motes : ℕ) → (ℕ → Bool) → Bool
all_motes motes test = nat_lt 0 motes && list_all test (range_with_len 0 motes)

abbrev pub all_keep : (motes : ℕ) → World → (image version : ℕ) → Bool
all_keep motes w image version = all_motes motes (λ m. keeps_whole w m image version)

abbrev pub all_become : (motes image version : ℕ) → Played → Bool
all_become motes image version p = all_keep motes p.after image version && not (all_keep motes p.before image version)

-- when a version became whole at the last of the motes, so that all keep it
abbrev pub all_moments : List Store → List Played → (image version : ℕ) → List Moment
all_moments stores events image version =
    one_if (all_motes (length stores) (λ m. has_whole (store_of stores m) image version)) beginning
    ++ event_moments (all_become (length stores) image version) events

-- ---- at the end

-- what the chip of a mote stands for after these events: at first as told
abbrev pub store_after : (first : Store) → (mote : ℕ) → List Played → Store
store_after first mote [] = first
store_after first mote (p ∷ ps) = store_after (store_at p.after mote) mote ps

-- the version that is kept whole, if one is
abbrev pub whole_version : Option Held → Option ℕ
whole_version None = None
whole_version (Some h) = if length h.complete == h.pages then Some h.version else None

abbrev pub kept_whole : List Store → List Played → (image mote : ℕ) → Option ℕ
kept_whole stores events image mote = whole_version (held (store_after (store_of stores mote) mote events) image)

abbrev pub keeps_version : Option ℕ → (version : ℕ) → Bool
keeps_version None version = false
keeps_version (Some kept) version = kept == version

abbrev pub newer : Option ℕ → Option ℕ → Option ℕ
newer None b = b
newer (Some a) None = Some a
newer (Some a) (Some b) = Some (max a b)

-- the newest of the versions that motes keep
abbrev pub newest_of : (motes : ℕ) → (ℕ → Option ℕ) → Option ℕ
newest_of motes kept = fold newer None (map kept (range_with_len 0 motes))

-- the last moment of the newest version that is kept, if each mote keeps it
abbrev pub newest_moment : (motes : ℕ) → (kept : ℕ → Option ℕ) → (moments : ℕ → List Moment) → Option Moment
newest_moment motes kept moments =
    option_and_then (λ v. if all_motes motes (λ m. keeps_version (kept m) v) then last_in (moments v) else None)
    (newest_of motes kept)

-- when the newest version that any mote keeps whole at the end became whole at the last of the motes, if all keep it then
abbrev pub newest_at : List Store → List Played → (image : ℕ) → Option Moment
newest_at stores events image =
    newest_moment (length stores) (kept_whole stores events image) (λ v. all_moments stores events image v)
