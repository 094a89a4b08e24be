-- What holds of every run of a script of nodes (docs/SCRIPTS.md, "Scripts of nodes").
use Rattle.std.specs.Prelude.{◌≡◌, ◌⊎◌, ℕ, ◌<◌, List, ◌++◌}
use Rattle.std.specs.List.{AllByRecursion}
use Rattle.dg_drip.specs.Sizes.{key_count}
use Rattle.dg_drip.specs.declared.entry.Entry.{Entry}
use Rattle.dg_drip.specs.declared.events.DripEvent.{DripEvent}
use Rattle.dg_drip.specs.Entries.{none, IsAtMost, IsAmong, IsGreatestOf}
use Rattle.dg_drip.specs.Network.{start, run, entry_at}
use Rattle.dg_drip.specs.Spread.{all_brought, set_in, drip_round, sweeps, HasDripRounds, IsAtNodesBelow, IsGreatestAt, AreWithin}
use Rattle.dg_base.specs.declared.answers.Status.{Status}
use Rattle.dg_outside.specs.Outside.{Outside}
use Rattle.dg_drip_script.specs.Scripts.{DripScript, drip_events_of, network_of}
use Rattle.dg_drip_run.specs.Dripped.{Dripped, played}

-- each node keeps of a key the greatest of what was set there and what it heard, or no entry
abbrev pub GreatestIsKept : DripScript → Type 0
GreatestIsKept s =
    (node key : ℕ) → IsGreatestOf (entry_at (network_of s) node key)
    (all_brought (start s.links) (drip_events_of s.items) node key)

-- what a node keeps never falls
abbrev pub NothingFalls : DripScript → Type 0
NothingFalls s = (front back : List DripEvent) (node key : ℕ) → drip_events_of s.items ≡ front ++ back
    → IsAtMost (entry_at (run (start s.links) front) node key) (entry_at (network_of s) node key)

-- what a node keeps was set at some node of this run
abbrev pub SetsMakeAll : DripScript → Type 0
SetsMakeAll s = (node key : ℕ) → (entry_at (network_of s) node key ≡ none)
    ⊎ IsAmong (entry_at (network_of s) node key) (set_in (start s.links) (drip_events_of s.items) key)

-- after a round the second node keeps no less than the first one kept
abbrev pub RoundsRaise : DripScript → Type 0
RoundsRaise s =
    (front back : List DripEvent) (a b key : ℕ) → key < key_count → drip_events_of s.items ≡ front ++ (drip_round a b ++ back)
    → IsAtMost (entry_at (run (start s.links) front) a key) (entry_at (run (run (start s.links) front) (drip_round a b)) b key)

-- where each two nodes are within h links, h sweeps with no set between them, wherever they end, bring all to the greatest entry
abbrev pub SweepsBringTheGreatest : DripScript → Type 0
SweepsBringTheGreatest s = (front rest back : List DripEvent) (h key : ℕ) (e : Entry) → key < key_count
    → drip_events_of s.items ≡ front ++ (rest ++ back) → AllByRecursion (IsAtNodesBelow s.nodes) front
    → AreWithin s.nodes s.links h → HasDripRounds (sweeps h s.links) rest
    → IsGreatestAt (run (start s.links) front) s.nodes key e → (node : ℕ) → node < s.nodes
    → entry_at (run (start s.links) (front ++ rest)) node key ≡ e

-- all of this, of whatever run a replay may have played
pub record ValuesSpread (status : Status) (a b : Outside) : Type 0 where
  -- each node keeps of a key the greatest of what was set there and what it heard, or no entry
  pub greatest : (x : Dripped status a b) → GreatestIsKept (played x.came.script)
  -- what it keeps never falls
  pub rises : (x : Dripped status a b) → NothingFalls (played x.came.script)
  -- it was set at some node of this run
  pub made : (x : Dripped status a b) → SetsMakeAll (played x.came.script)
  -- after a round the second node keeps no less than the first one kept
  pub rounds : (x : Dripped status a b) → RoundsRaise (played x.came.script)
  -- where each two nodes are within h links, h sweeps with no set between them bring all to the greatest entry, wherever they end
  pub sweeps : (x : Dripped status a b) → SweepsBringTheGreatest (played x.came.script)
