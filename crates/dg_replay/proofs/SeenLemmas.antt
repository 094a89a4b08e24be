-- What a watcher saw, at the point to which a replay came.
use Rattle.std.proofs.Common.{◌≡◌, inl, inr, ℕ, Bool, List, [], ◌∷◌, refl, sym, subst}
use Rattle.std.specs.Prelude.{Option, Some, None}
use Rattle.dg_base.specs.declared.answers.Status.{Status}
use Rattle.dg_base.specs.declared.answers.Status.TheVariants.{Done, Memory, Usage, BadInput, ReadFault, WriteFault, FlashFault, NotAVolume, Refused, LinkFault, TooLong, TooMany, NoBoard, NoImage}
use Rattle.dg_nor.specs.Device.{Device}
use Rattle.dg_object.specs.Object.{Row}
use Rattle.dg_volume.specs.Store.{Store}
use Rattle.dg_rules.specs.Runs.{Played}
use Rattle.dg_rules.specs.World.{World}
use Rattle.dg_script.specs.Script.{Script}
use Rattle.dg_script.specs.Items.{Item, Declares, Applies}
use Rattle.dg_replay.specs.Items.{beginning_of}
use Rattle.dg_replay.specs.Replayed.{Progress, IsSeen, IsSeenAs}
use Rattle.dg_replay.specs.Ending.{Ending}
use Rattle.dg_replay.specs.Shown.{Saw, StaysSeen, unseen, ended_saw, events_played}
use Rattle.dg_replay.specs.Stages.{BytesTaken, Failures, span}
use Rattle.dg_replay.specs.Replaying.{Reached, ScriptReplayed, seen_of}
use Rattle.dg_replay.specs.declared.player.Player.{Player}

-- a watcher saw the same
pub reached_seen : {table : List Row} {S G H : Saw} (ends : Bool) (script : Script) (n : ℕ) (p : Player) (initial now : List Device) (before mid : Option (List ℕ)) → StaysSeen G H → Reached table ends script [] n p (span initial now before mid S G) → Reached table ends script [] n p (span initial now before mid S H)
reached_seen ends script n p initial now before mid stays r = record {
  done = r.done;
  played = r.played;
  last = r.last;
  lines = r.lines;
  fault = r.fault;
  numbered = r.numbered;
  items = r.items;
  ground = r.ground;
  run = r.run;
  grounded = r.grounded;
  reported = r.reported;
  seen = λ f. stays _ _ (r.seen f);
  stood = r.stood;
  few = r.few;
  untouched = r.untouched;
  boards_enough = r.boards_enough;
}

-- nothing is said of what a watcher saw
abbrev pub reached_unseen : {table : List Row} {S G : Saw} {ends : Bool} {script : Script} {texts : List (List ℕ)} {n : ℕ} {p : Player} {initial now : List Device} {before mid : Option (List ℕ)} → Reached table ends script texts n p (span initial now before mid S G) → Reached table ends script texts n p (span initial now before mid unseen unseen)
reached_unseen r = record {
  done = r.done;
  played = r.played;
  last = r.last;
  lines = r.lines;
  fault = r.fault;
  numbered = r.numbered;
  items = r.items;
  ground = r.ground;
  run = r.run;
  grounded = r.grounded;
  reported = r.reported;
  seen = λ f. tt;
  stood = r.stood;
  few = r.few;
  untouched = r.untouched;
  boards_enough = r.boards_enough;
}

-- a watcher that was shown the events that were played saw those
abbrev pub reached_as : {table : List Row} {S G : Saw} {ends : Bool} {script : Script} {texts : List (List ℕ)} {n : ℕ} {p : Player} {initial now : List Device} {before mid : Option (List ℕ)} → (r : Reached table ends script texts n p (span initial now before mid S G)) → Reached table ends script texts n p (span initial now before mid unseen (seen_of (beginning_of r.ground r.done).world r.played))
reached_as r = record {
  done = r.done;
  played = r.played;
  last = r.last;
  lines = r.lines;
  fault = r.fault;
  numbered = r.numbered;
  items = r.items;
  ground = r.ground;
  run = r.run;
  grounded = r.grounded;
  reported = r.reported;
  seen = λ f. (refl, refl);
  stood = r.stood;
  few = r.few;
  untouched = r.untouched;
  boards_enough = r.boards_enough;
}

-- a watcher that was not shown the end of a replay
no_end : {A : Type 0} (seen : (stores : List Store) (events : List Played) → Type 0) (last : Option World) (left : List Item) (stores : List Store) (events : List Played)
    → (ended_saw (record { events = seen; ended = λ stores events world step. ⊥ }) last left).events stores events → A
no_end seen None left stores events h = absurd h
no_end seen (Some w) [] stores events h = absurd h
no_end seen (Some w) (Declares row ∷ left) stores events h = absurd h
no_end seen (Some w) (Applies step reported ∷ left) stores events h = absurd h

-- what was seen of a replay that was not shown to have ended
seen_same : {table : List Row} {script : Script} (seen : (stores : List Store) (events : List Played) → Type 0) (G : Saw) (s : Status) (c : Progress table script)
    → (IsSeen (record { events = seen; ended = λ stores events world step. ⊥ }) c → IsSeen G c) → IsSeenAs s (record { events = seen; ended = λ stores events world step. ⊥ }) c → IsSeenAs s G c
seen_same seen G NoImage c f h = no_end seen c.last c.left _ _ h
seen_same seen G WriteFault c f (inl h) = inl (f h)
seen_same seen G WriteFault c f (inr h) = no_end seen c.last c.left _ _ h
seen_same seen G Done c f h = f h
seen_same seen G Usage c f h = f h
seen_same seen G BadInput c f h = f h
seen_same seen G ReadFault c f h = f h
seen_same seen G FlashFault c f h = f h
seen_same seen G NotAVolume c f h = f h
seen_same seen G Memory c f h = f h
seen_same seen G Refused c f h = f h
seen_same seen G LinkFault c f h = f h
seen_same seen G TooLong c f h = f h
seen_same seen G TooMany c f h = f h
seen_same seen G NoBoard c f h = f h

-- a watcher saw the events that were played
pub script_seen : {table : List Row} {S G : Saw} (s : Status) (script : Script) (ending : Ending) (taken : BytesTaken) (initial now : List Device) (before after : Option (List ℕ)) (failed : Failures) (stores : List Store) (events : List Played) → (S.events [] [] → G.events stores events)
    → ScriptReplayed table s script ending taken (span initial now before after unseen (record { events = λ ss es. (ss ≡ stores) × (es ≡ events); ended = λ ss es world step. ⊥ })) failed → ScriptReplayed table s script ending taken (span initial now before after S G) failed
script_seen {G = G} s script ending taken initial now before after failed stores events seen r =
    record {
      came = r.came;
      text = r.text;
      written = r.written;
      report = r.report;
      read = r.read;
      near = r.near;
      limits = r.limits;
      stood = r.stood;
      boards = r.boards;
      left = (r.left.0, λ f. seen_same (λ ss es. (ss ≡ stores) × (es ≡ events)) G s r.came (λ at. subst (λ (ss : List Store). G.events ss (events_played r.came.played)) (sym at.0) (subst (λ (es : List Played). G.events stores es) (sym at.1) (seen f))) (r.left.1 tt));
      caused = r.caused;
    }
