-- What a player of a script keeps, and what it does with events: definitions for the inner functions.
use Rattle.std.specs.Prelude.{◌≡◌, ℕ, ◌*◌, ◌^◌, ◌<◌, ◌≤◌, false, List, [], ◌∷◌, ◌++◌, length, take, Result, Ok, Err}
use Rattle.dg_drip_replay.specs.Standing.{NetworkStands, AreKeyed}
use Rattle.dg_drip_script.specs.Scripts.{DripItem, DripScript, standing_of, with_items, with_drip_line, network_of, report_of}
use Rattle.dg_drip_script.specs.Sizes.{most_events}
use Rattle.dg_drip_script.specs.declared.line.DripLine.{DripLine}
use Rattle.dg_drip_run.specs.declared.player.Player.{Player}
use Rattle.dg_drip_run.specs.declared.player.PlayStop.{PlayStop}
use Rattle.dg_drip_run.specs.declared.player.PlayStop.TheVariants.{TooMany, Memory}

-- links are between nodes of which there are this many
abbrev pub AreBelow : (nodes : ℕ) → List (ℕ × ℕ) → Type 0
AreBelow nodes [] = Unit {0}
AreBelow nodes (l ∷ links) = (l.0 < nodes) × (l.1 < nodes) × AreBelow nodes links

-- A player stands after a script, of whose report these bytes came before those that it keeps.
pub record PlayerStands (p : Player) (s : DripScript) (before : List ℕ) : Type 0 where
  pub standing : p.standing ≡ standing_of s
  pub stands : NetworkStands p.network (network_of s)
  pub nodes : length p.network.nodes.items ≡ s.nodes
  pub events : p.events ≡ length s.items
  pub few : length s.items ≤ most_events
  -- the time of each event is below 2 ^ 32
  pub moment : p.network.moment ≤ length s.items * 2 ^ 32
  pub keyed : AreKeyed p.network.sent.items
  pub reported : before ++ p.text.items ≡ report_of s
  pub first : s.nodes ≡ 0 → (s.links ≡ []) × (s.items ≡ [])
  pub early : s.begun ≡ false → s.items ≡ []
  pub below : AreBelow s.nodes s.links

-- a player stands after some script
abbrev pub IsPlaying : Player → Type 0
IsPlaying p = (s : DripScript) × (before : List ℕ) × PlayerStands p s before

-- it can play on: nodes and links are as before
pub record StaysPlaying (old new : Player) : Type 0 where
  pub playing : IsPlaying new
  pub standing : new.standing ≡ old.standing
  pub links : new.network.links.items ≡ old.network.links.items

-- some of these events are left, and the others are all that a script may have
pub record Filled (old new : Player) (items : List DripItem) (s : DripScript) (before : List ℕ) : Type 0 where
  pub front : List DripItem
  pub next : DripItem
  pub back : List DripItem
  pub parts : items ≡ front ++ next ∷ back
  pub full : length (s.items ++ front) ≡ most_events
  pub after : PlayerStands new (with_items s front) before

-- what playing events does
abbrev pub DripItemsPlayed : Result (Unit {0}) PlayStop → (old new : Player) → List DripItem → Type 0
DripItemsPlayed (Ok done) old new items =
    (s : DripScript) (before : List ℕ) → PlayerStands old s before → PlayerStands new (with_items s items) before
DripItemsPlayed (Err TooMany) old new items =
    (s : DripScript) (before : List ℕ) → PlayerStands old s before → Filled old new items s before
DripItemsPlayed (Err Memory) old new items = Unit {0}

-- What playing a line does. Where there are more events than a script may have, the first ones were played.
abbrev pub LinePlayed : Result (Unit {0}) PlayStop → (old new : Player) → DripLine → Type 0
LinePlayed (Ok done) old new line =
    (s : DripScript) (before : List ℕ) → PlayerStands old s before → PlayerStands new (with_drip_line s line) before
LinePlayed (Err TooMany) old new line = (s : DripScript) (before : List ℕ) → PlayerStands old s before
    → (most_events < length (with_drip_line s line).items)
    × PlayerStands new (record (with_drip_line s line) { items = take most_events (with_drip_line s line).items }) before
LinePlayed (Err Memory) old new line = Unit {0}
