use Rattle.std.proofs.Common.{◌++◌, ◌∷◌, [], length, map, sym, ap, subst}
use Rattle.dg_meter.specs.Meters.{metered_device}
use Rattle.dg_count.specs.Chips.{Placement, HaveMade}
use Rattle.dg_count.specs.Runs.{placement_of}
use Rattle.dg_count.proofs.ChipLemmas.{have_applied}
use Rattle.dg_count.proofs.FrameLemmas.{shown}
use Rattle.dg_count.proofs.RunLemmas.{event_played, world_before, stands_after, boards_after, seen_event}
use Rattle.dg_count.proofs.watching.CounterWatcherMetered.applied.Goals as goal

pub returns-in-Tick : goal.returns-in-Tick
returns-in-Tick g c = record {
  seen = λ initial stores events p led is seen.
      let both = seen_event initial stores events p c.note_tick.ensures.counts (ap (λ (k : Placement). k.motes) c.note_tick.ensures.placed) c.note_tick.ensures.times c.note_tick.ensures.frames c.note_tick.ensures.wholes
      (λ d lt there. stands_after c.args.self.now.placed d led is seen.1.motes lt there)
      (boards_after led is) led (shown (event_played is) led is) (event_played is)
      (world_before c.args.self.now.placed led is seen.1.motes seen.1.few) (seen.0, seen.1) in (
        both.0,
        both.1,
        subst (λ (k : Placement). HaveMade k (length stores) (map (metered_device g.N.Nor.device) c.args.boards.now) (events ++ p ∷ [])) (sym c.note_tick.ensures.placed)
            (have_applied (placement_of c.args.self.now) (length stores) events is seen.2),
      );
}

pub returns-after-self : goal.returns-after-self
returns-after-self g c = record {
  seen = λ initial stores events p led is seen.
      let both = seen_event initial stores events p c.note_hear.ensures.counts (ap (λ (k : Placement). k.motes) c.note_hear.ensures.placed) c.note_hear.ensures.times c.note_hear.ensures.frames c.note_hear.ensures.wholes
      (λ d lt there. stands_after c.args.self.now.placed d led is seen.1.motes lt there)
      (boards_after led is) led (shown (event_played is) led is) (event_played is)
      (world_before c.args.self.now.placed led is seen.1.motes seen.1.few) (seen.0, seen.1) in (
        both.0,
        both.1,
        subst (λ (k : Placement). HaveMade k (length stores) (map (metered_device g.N.Nor.device) c.args.boards.now) (events ++ p ∷ [])) (sym c.note_hear.ensures.placed)
            (have_applied (placement_of c.args.self.now) (length stores) events is seen.2),
      );
}

pub returns-after-self-2 : goal.returns-after-self-2
returns-after-self-2 g c = record {
  seen = λ initial stores events p led is seen.
      let both = seen_event initial stores events p c.note_last.ensures.counts (ap (λ (k : Placement). k.motes) c.note_last.ensures.placed) c.note_last.ensures.times c.note_last.ensures.frames c.note_last.ensures.wholes
      (λ d lt there. stands_after c.args.self.now.placed d led is seen.1.motes lt there)
      (boards_after led is) led (shown (event_played is) led is) (event_played is)
      (world_before c.args.self.now.placed led is seen.1.motes seen.1.few) (seen.0, seen.1) in (
        both.0,
        both.1,
        subst (λ (k : Placement). HaveMade k (length stores) (map (metered_device g.N.Nor.device) c.args.boards.now) (events ++ p ∷ [])) (sym c.note_last.ensures.placed)
            (have_applied (placement_of c.args.self.now) (length stores) events is seen.2),
      );
}

pub returns-after-self-3 : goal.returns-after-self-3
returns-after-self-3 g c = record {
  seen = λ initial stores events p led is seen.
      let both = seen_event initial stores events p c.note_other.ensures.counts (ap (λ (k : Placement). k.motes) c.note_other.ensures.placed) c.note_other.ensures.times c.note_other.ensures.frames c.note_other.ensures.wholes
      (λ d lt there. stands_after c.args.self.now.placed d led is seen.1.motes lt there)
      (boards_after led is) led (shown (event_played is) led is) (event_played is)
      (world_before c.args.self.now.placed led is seen.1.motes seen.1.few) (seen.0, seen.1) in (
        both.0,
        both.1,
        subst (λ (k : Placement). HaveMade k (length stores) (map (metered_device g.N.Nor.device) c.args.boards.now) (events ++ p ∷ [])) (sym c.note_other.ensures.placed)
            (have_applied (placement_of c.args.self.now) (length stores) events is seen.2),
      );
}
