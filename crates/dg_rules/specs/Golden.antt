-- Worlds in which golden is kept whole, and what is found there (docs/PROMISES.md, "The report and what it tells").
use Rattle.std.specs.Prelude.{◌≡◌, ◌≢◌, ℕ, ◌<◌, ◌≤◌, Bool, List, [], ◌∷◌, length, replicate, Some, None, IfSome}
use Rattle.std.specs.List.{AllByRecursion}
use Rattle.dg_object.specs.Object.{Row, IsRow}
use Rattle.dg_volume.specs.Store.{Store, held, held_whole, golden_row, fresh}
use Rattle.dg_mote.specs.Model.{Mode, Maintain, Receive, Transmit}
use Rattle.dg_rules.specs.Sizes.{most_motes}
use Rattle.dg_rules.specs.World.{World, Site, site, first_world}
use Rattle.dg_rules.specs.Events.{Does, Refuses, Goes}
use Rattle.dg_rules.specs.Runs.{Played, Plays}
use Rattle.dg_rules.specs.Premises.{LinkFits, PlayedInRange}

-- image 0 is kept whole, and its pages are the object of a row
pub record KeepsGoldenRow (s : Store) : Type 0 where
  pub row : Row
  pub is_row : IsRow row
  pub whole : held s 0 ≡ Some (held_whole row)

-- a mote asks for other images
abbrev pub AsksForOthers : Mode → Type 0
AsksForOthers (Maintain timer) = Unit {0}
AsksForOthers (Receive r) = 1 ≤ r.image
AsksForOthers (Transmit t) = Unit {0}

-- a mote keeps golden, and does not ask for it
pub record SiteKeepsGolden (x : Site) : Type 0 where
  pub kept : KeepsGoldenRow x.store
  pub asks : IfSome x.runs (λ r. AsksForOthers r.mote.mode)

-- every mote keeps golden, and does not ask for it
abbrev pub WorldKeepsGolden : World → Type 0
WorldKeepsGolden w = (m : ℕ) → m < length w.sites → SiteKeepsGolden (site w m)

-- an event that is not refused finds an image, if it has to start one
abbrev pub FindsImage : Does → Type 0
FindsImage (Refuses why) = Unit {0}
FindsImage (Goes d) = d.runs ≢ None

-- Motes whose chips were formatted with golden: its name and bytes, the commits that were used, how many motes there are,
-- their links, and which of them are narrow.
pub record GoldenNetwork : Type 0 where
  pub name : List ℕ
  pub bytes : List ℕ
  pub used : ℕ
  pub motes : ℕ
  pub links : List (ℕ × ℕ)
  pub narrow : List Bool

abbrev pub network_row : GoldenNetwork → Row
network_row g = golden_row g.name g.bytes

abbrev pub network_world : GoldenNetwork → World
network_world g = first_world (network_row g ∷ []) g.links g.narrow (replicate g.motes (fresh g.name g.bytes g.used))

-- what is played of a script with golden: it begins with such motes, and every number is in its range
pub record PlaysGolden (g : GoldenNetwork) (played : List Played) (v : World) : Type 0 where
  pub is_row : IsRow (network_row g)
  pub plays : Plays (network_world g) played v
  pub few : g.motes ≤ most_motes
  pub links_fit : AllByRecursion (LinkFits g.motes) g.links
  pub ranges : AllByRecursion (PlayedInRange g.motes) played
