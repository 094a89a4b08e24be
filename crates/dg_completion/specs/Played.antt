-- Rounds that were played, wherever they stand in a run, and what they bring (docs/PROMISES.md, "The report and what it
-- tells").
use Rattle.std.specs.Prelude.{◌≡◌, ◌≢◌, ℕ, ◌<◌, true, List, ◌++◌, length, replicate, Some}
use Rattle.std.specs.List.{AllByRecursion}
use Rattle.dg_base.specs.declared.events.Event.{Event}
use Rattle.dg_rounds.specs.Rounds.{round, paced}
use Rattle.dg_mote.specs.Drained.{Drained, SameKept}
use Rattle.dg_mote.specs.Completing.{drain_ticks}
use Rattle.dg_rules.specs.World.{World, Running, site, wide_at, store_at, linked}
use Rattle.dg_rules.specs.Premises.{WorldAgrees}
use Rattle.dg_rules.specs.Begins.{PlaysFrom}
use Rattle.dg_rules.specs.Runs.{Played, Plays}
use Rattle.dg_completion.specs.Completion.{Follows, IsOn, HasRoomAt, least_ahead, Raises}
use Rattle.dg_completion.specs.Ends.{events_of, IsUncut}

-- Somewhere in what was played these events lead from world w to world v, one after the other, and no power is cut in
-- them. Images may be declared between them.
pub record Passes (played : List Played) (w : World) (es : List Event) (v : World) : Type 0 where
  pub before : List Played
  pub part : List Played
  pub behind : List Played
  pub parts : played ≡ before ++ (part ++ behind)
  pub run : Plays w part v
  pub events : events_of part ≡ es
  pub uncut : AllByRecursion IsUncut part

-- ---- the ticks with which a round begins

-- a mote that is on ticks 50 times, and has room for three commits afterwards
pub record TicksPlayed (played : List Played) (w : World) (m : ℕ) (v : World) : Type 0 where
  pub passes : Passes played w (replicate drain_ticks (paced m)) v
  pub there : m < length w.sites
  pub on : IsOn w m
  pub room : HasRoomAt v m

-- It is on and drained afterwards: it maintains, nothing equal was heard in its interval, no short starts are counted, no
-- order waits, and it may ask for any image. What it keeps and all other motes are as before.
pub record ComesToRest (w : World) (m : ℕ) (v : World) : Type 0 where
  pub running : Running
  pub runs : (site v m).runs ≡ Some running
  pub drained : Drained (record { store = store_at v m; mote = running.mote }) v.moment
  pub kept : SameKept (store_at w m) (store_at v m)
  pub others : (j : ℕ) → j ≢ m → site v j ≡ site w j

-- This holds from every world that agrees with its table.
abbrev pub DrainedLaw : Type 0
DrainedLaw = (w v : World) (m : ℕ) → WorldAgrees w → m < length w.sites → IsOn w m
    → Follows w (replicate drain_ticks (paced m)) v → HasRoomAt v m → ComesToRest w m v

-- ---- complete rounds

-- a round of two neighbours, from a to b, both wide or both narrow: both are on before it, and have room for three commits at
-- its end
pub record RoundPlayed (played : List Played) (w : World) (a b : ℕ) (v : World) : Type 0 where
  pub passes : Passes played w (round a b) v
  pub near : linked w a b ≡ true
  pub alike : wide_at w a ≡ wide_at w b
  pub on_a : IsOn w a
  pub on_b : IsOn w b
  pub room_a : HasRoomAt v a
  pub room_b : HasRoomAt v b

-- b has one more page of the version of image i that a keeps, or its first page. What else b keeps, what a keeps, and all other
-- motes are unchanged.
pub record RaisesOne (w : World) (a b i : ℕ) (v : World) : Type 0 where
  pub raises : Raises (store_at w a) (store_at w b) i (store_at v b)
  pub kept : SameKept (store_at w a) (store_at v a)
  pub others : (j : ℕ) → j ≢ a → j ≢ b → site v j ≡ site w j

-- The effect of rounds, wherever they were played. Their first ticks bring a mote to rest, and a complete one brings the second
-- mote a page of the lowest image in which the first one is ahead.
pub record RoundsBring (played : List Played) : Type 0 where
  pub rests : (w v : World) (m : ℕ) → TicksPlayed played w m v → ComesToRest w m v
  pub raises : (w v : World) (a b i : ℕ) → RoundPlayed played w a b v
      → least_ahead (wide_at w a) (store_at w a) (store_at w b) ≡ Some i → RaisesOne w a b i v

-- The rounds of every run of true events from a world that agrees with its table have this effect.
abbrev pub RoundsLaw : Type 0
RoundsLaw = (u : World) (played : List Played) (v : World) → PlaysFrom u played v → RoundsBring played
