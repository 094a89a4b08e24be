-- What a counter knows at the end of a replay.
use Rattle.std.proofs.Common.{◌≡◌, ℕ, ◌+◌, ◌≤◌, List, [], ◌∷◌, inl, inr, map, length, sym, ap, subst, ◌∙◌, ⊎_elim, arith}
use Rattle.std.specs.Prelude.{Option, Some, None}
use Rattle.dg_nor.specs.Device.{Device, MadeMore}
use Rattle.dg_base.specs.declared.answers.Status.{Status}
use Rattle.dg_base.specs.declared.answers.Status.TheVariants.{NoImage, WriteFault}
use Rattle.dg_base.specs.declared.events.Step.{Step}
use Rattle.dg_object.specs.Object.{Row}
use Rattle.dg_volume.specs.Store.{Store}
use Rattle.dg_script.specs.Items.{Item, Declares, Applies}
use Rattle.dg_script.specs.Script.{Script}
use Rattle.dg_rules.specs.Runs.{Played}
use Rattle.dg_rules.specs.Sizes.{most_events}
use Rattle.dg_rules.specs.World.{World}
use Rattle.dg_replay.specs.Items.{beginning_of, events_among}
use Rattle.dg_replay.specs.Replayed.{item_played, Progress, IsSeenAs}
use Rattle.dg_replay.specs.Shown.{Saw, ended_saw, stores_in, events_played}
use Rattle.dg_events.specs.Made.{operations_at}
use Rattle.dg_count.specs.Chips.{counts_by, AreTallies, Placement, ChipsMade, IsEndThere, IsEndNoted, next_operations, made_at_end}
use Rattle.dg_count.specs.Ended.{event_place}
use Rattle.dg_count.specs.Runs.{IsSeenBy, HasSeen, CountedReplay, placement_of, sight_of}
use Rattle.dg_count.specs.declared.place.EventPlace.{EventPlace}
use Rattle.dg_count.specs.declared.counter.Counter.{Counter}
use Rattle.dg_count.proofs.ChipLemmas.{have_settled}
use Rattle.dg_count.proofs.RunLemmas.{run_counted}

end_later : (was now : Saw) (last : Option World) (left : List Item) (stores : List Store) (events : List Played)
    → ((w : World) (step : Step) → was.ended stores events w step → now.ended stores events w step) → (ended_saw was last left).events stores events → (ended_saw now last left).events stores events
end_later was now None left stores events f seen = absurd seen
end_later was now (Some w) [] stores events f seen = absurd seen
end_later was now (Some w) (Declares row ∷ left) stores events f seen = absurd seen
end_later was now (Some w) (Applies step reported ∷ left) stores events f seen = f w step seen

-- what was seen stays seen
pub seen_later : {table : List Row} {script : Script} (ran : Status) (was now : Saw) (came : Progress table script)
    → ((stores : List Store) (events : List Played) → was.events stores events → now.events stores events)
    → ((stores : List Store) (events : List Played) (w : World) (step : Step) → was.ended stores events w step → now.ended stores events w step)
    → IsSeenAs ran was came → IsSeenAs ran now came
seen_later NoImage was now came f g seen = end_later was now came.last came.left _ _ (g _ _) seen
seen_later WriteFault was now came f g seen =
    ⊎_elim (λ on. inl (f _ _ on)) (λ end. inr (end_later was now came.last came.left _ _ (g _ _) end)) seen
seen_later _ was now came f g seen = f _ _ seen

-- what a counter knows of these events at the end of a replay, and of the chips
record IsKnown {table : List Row} {script : Script} (ran : Status) (c : Counter) (boards : List Device) (came : Progress table script) (stores : List Store) (events : List Played) : Type 0 where
  seen : IsSeenBy c.events c.times c.frames c.wholes c.placed stores events
  made : ChipsMade (placement_of c) (length stores) boards (λ m. operations_at m events + made_at_end c.ended came m)
  ended : IsEndNoted ran came c.ended

none_more : (k : Placement) (motes : ℕ) (boards : List Device) (f g : ℕ → ℕ) → ((m : ℕ) → g m ≡ f m) → ChipsMade k motes boards f → ChipsMade k motes boards g
none_more k motes boards f g same was m b lt there awake =
    subst (λ (j : ℕ). MadeMore j (Some (counts_by k.formatted m)) b.made) (sym (same m)) (was m b lt there awake)

-- no event ended it
on_known : {table : List Row} {script : Script} (ran : Status) (c : Counter) (initial boards : List Device) (came : Progress table script) (stores : List Store) (events : List Played) → HasSeen c initial boards stores events
    → IsEndNoted ran came c.ended → IsKnown ran c boards came stores events
on_known ran c initial boards came stores events seen noted = record {
  seen = seen.1;
  made = none_more (placement_of c) (length stores) boards (λ m. operations_at m events) (λ m. operations_at m events + made_at_end c.ended came m)
      (λ m. ap (λ (o : Option EventPlace). operations_at m events + made_at_end o came m) seen.2.0 ∙ omega arith) seen.2.1;
  ended = noted;
}

-- the event that found no image to start is the first of these items
end_known : (c : Counter) (initial boards : List Device) (last : Option World) (left : List Item) (stores : List Store) (events : List Played)
    → (ended_saw (sight_of c initial boards) last left).events stores events
    → IsSeenBy c.events c.times c.frames c.wholes c.placed stores events × IsEndThere last left c.ended
    × ((place : EventPlace) × (c.ended ≡ Some place)) × ChipsMade (placement_of c) (length stores) boards (λ m. operations_at m events + next_operations m last left)
end_known c initial boards None left stores events seen = absurd seen
end_known c initial boards (Some w) [] stores events seen = absurd seen
end_known c initial boards (Some w) (Declares row ∷ left) stores events seen = absurd seen
end_known c initial boards (Some w) (Applies step reported ∷ left) stores events seen =
    (seen.1, (seen.2.0, seen.2.1), (event_place step.event, seen.2.0), seen.2.2)

-- one ended it
ended_known : {table : List Row} {script : Script} (ran : Status) (c : Counter) (initial boards : List Device) (came : Progress table script) (stores : List Store) (events : List Played)
    → (ended_saw (sight_of c initial boards) came.last came.left).events stores events → (IsEndThere came.last came.left c.ended → IsEndNoted ran came c.ended) → IsKnown ran c boards came stores events
ended_known ran c initial boards came stores events seen noted =
    let k = end_known c initial boards came.last came.left stores events seen in
    record {
      seen = k.0;
      made = none_more (placement_of c) (length stores) boards (λ m. operations_at m events + next_operations m came.last came.left) (λ m. operations_at m events + made_at_end c.ended came m)
          (λ m. ap (λ (o : Option EventPlace). operations_at m events + made_at_end o came m) k.2.1) k.3;
      ended = noted k.1;
    }

known : {table : List Row} {script : Script} (ran : Status) (c : Counter) (initial boards : List Device) (came : Progress table script) → IsSeenAs ran (sight_of c initial boards) came
    → IsKnown ran c boards came (stores_in (beginning_of came.ground came.done).world) (events_played came.played)
known NoImage c initial boards came seen = ended_known NoImage c initial boards came (stores_in (beginning_of came.ground came.done).world) (events_played came.played) seen (λ e. e)
known WriteFault c initial boards came (inl seen) =
    on_known WriteFault c initial boards came (stores_in (beginning_of came.ground came.done).world) (events_played came.played) seen (inl seen.2.0)
known WriteFault c initial boards came (inr seen) =
    ended_known WriteFault c initial boards came (stores_in (beginning_of came.ground came.done).world) (events_played came.played) seen (λ e. inr e)
known ran c initial boards came seen =
    on_known ran c initial boards came (stores_in (beginning_of came.ground came.done).world) (events_played came.played) seen seen.2.0

-- a replay was seen
pub replay_seen : {table : List Row} {script : Script} (ran : Status) (c : Counter) (initial boards : List Device) (came : Progress table script) → events_among (map item_played came.played) ≤ most_events
    → IsSeenAs ran (sight_of c initial boards) came → AreTallies c.settled boards → CountedReplay ran c boards came
replay_seen ran c initial boards came most all tallies = record {
  events = run_counted c.events came.played most k.seen.counted;
  times = k.seen.timed;
  frames = k.seen.framed;
  wholes = k.seen.noted;
  motes = k.seen.motes;
  few = omega (arith, k.seen.motes, k.seen.few);
  ended = k.ended;
  chips = record {
    shown = tallies;
    made = λ m b lt there awake.
        have_settled (placement_of c) c.settled (length (stores_in (beginning_of came.ground came.done).world)) boards (λ j. operations_at j (events_played came.played) + made_at_end c.ended came j)
        k.seen.few tallies k.made m b (omega (arith, lt, k.seen.motes)) there awake;
  };
}
  where
    k : IsKnown ran c boards came (stores_in (beginning_of came.ground came.done).world) (events_played came.played)
    k = known ran c initial boards came all
