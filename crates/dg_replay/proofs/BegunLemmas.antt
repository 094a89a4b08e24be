-- A line after others of which only the first items were played.
use Rattle.std.proofs.Common.{◌≡◌, ◌⊎◌, inl, inr, ℕ, Bool, List, [], ◌∷◌, ◌++◌, length, take, refl, append-nil, append_assoc, ap, sym, ◌∙◌, subst, arith}
use Rattle.std.specs.Prelude.{Option, Some, None, Ok}
use Rattle.std.proofs.lemmas.List.{take_all}
use Rattle.dg_base.specs.Outside.{Puts}
use Rattle.dg_nor.specs.Device.{Device}
use Rattle.dg_object.specs.Object.{Row}
use Rattle.dg_script.specs.Fitting.{UsesBoard}
use Rattle.dg_script.specs.Lines.{line_of}
use Rattle.dg_script.specs.Places.{first_place}
use Rattle.dg_script.specs.Script.{Script, script_from}
use Rattle.dg_script.specs.declared.place.Place.{Place}
use Rattle.dg_script.specs.declared.line.Line.{Line}
use Rattle.dg_script.specs.declared.line.Line.TheVariants.{Nothing, Motes, Golden, Boards, Link, Narrow, Image, Cut, Happens as EventLine, Round, Sweeps}
use Rattle.dg_rules.specs.World.{World}
use Rattle.dg_script.specs.Items.{Item, item_by, place_behind}
use Rattle.dg_replay.specs.Items.{UsesBoards, beginning_of, motes_in, lacking}
use Rattle.dg_replay.specs.Boards.{InSome, LacksImage, BoardsStand, StoppedIn}
use Rattle.dg_base.specs.declared.answers.Status.TheVariants as status
use Rattle.dg_replay.specs.Replayed.{AtTooMany, BoardStoppedThere, BoardsLeft, NoImageThere, played_text}
use Rattle.dg_replay.specs.Playing.{InWorld, RunsFrom, LineBegun, IsOneTooMany}
use Rattle.dg_replay.specs.Replaying.{CutAtStop, CutAtTooMany, CutAtImage, Reached, PlayedPrefix, PlayedUpTo, ReportedBefore, IsLeft}
use Rattle.dg_replay.specs.declared.player.Player.{Player}
use Rattle.dg_replay.specs.Untouched.{TextKeepsBytes}
use Rattle.dg_replay.proofs.BytesLemmas.{keeps_next, untouched_done}
use Rattle.dg_replay.proofs.UntouchedLemmas.{kept_begun}
use Rattle.dg_replay.specs.Shown.{Saw, going_on, ended_saw}
use Rattle.dg_replay.specs.Stages.{LineTold, line_told, span}
use Rattle.dg_replay.proofs.StandLemmas.{grounded_next}
use Rattle.dg_replay.proofs.GoldenRuns.{lacking_none}
use Rattle.dg_replay.proofs.LineRanges.{IsBehind, script_fits}
use Rattle.dg_replay.proofs.NextLineLemmas.{told_front, lacking_append, lacking_next, too_many_played, Over, begun_some, front_put, front_kept, all_put, in_line, run_of, over_tells, over_bounds, Choice, IsBusy, busy, busy_seen, all_of_line, some_left, lacks_left}

-- its boards are formatted
begun_world : (P : World → Type 0) (p : Player) (w v : Option World) (items : List Item) (t : LineTold) (now : List Device) → InSome v P → RunsFrom w items v t → InWorld p w now → IsBehind p.place
begun_world P p None v items t now there from kept = absurd (subst (λ (o : Option World). InSome o P) from.1 there)
begun_world P p (Some w) v items t now there from kept = record { ready = kept.2; some = kept.3 }

front_none : {A : Type 0} (xs ys : List A) → [] ≡ xs ++ ys → xs ≡ []
front_none [] ys e = refl
front_none (x ∷ xs) ys e = cc

-- a board stops in an item, or in formatting
stop_within : (place : Place) (line : Line) (motes : ℕ) (begun left : List Item) (v : Option World) (initial now : List Device) → item_by place line ≡ begun ++ left → StoppedIn motes (line ∷ []) left v initial now → left ≡ [] → begun ≡ []
stop_within place (Golden name used content) motes begun left v initial now parts s none = front_none begun left parts
stop_within place line motes begun (x ∷ left) v initial now parts s none = cc
stop_within place Nothing motes begun [] v initial now parts s none = absurd s.there
stop_within place (Motes n) motes begun [] v initial now parts s none = absurd s.there
stop_within place Boards motes begun [] None initial now parts s none = front_none begun [] parts
stop_within place Boards motes begun [] (Some v) initial now parts s none = absurd s.there
stop_within place (Link a b) motes begun [] v initial now parts s none = absurd s.there
stop_within place (Narrow m) motes begun [] v initial now parts s none = absurd s.there
stop_within place (Image image version name content) motes begun [] v initial now parts s none = absurd s.there
stop_within place (Cut c) motes begun [] v initial now parts s none = absurd s.there
stop_within place (EventLine event) motes begun [] v initial now parts s none = absurd s.there
stop_within place (Round a b) motes begun [] v initial now parts s none = absurd s.there
stop_within place (Sweeps n) motes begun [] v initial now parts s none = absurd s.there

stopped_more : (motes : ℕ) (line : Line) (more : List Line) (left : List Item) (w : Option World) (initial now : List Device) → StoppedIn motes (line ∷ []) left w initial now → StoppedIn motes (line ∷ more) left w initial now
stopped_more motes line more left w initial now s = record { stopped = s.stopped; there = s.there }

-- memory ran out in a line
pub memory_begun : {table : List Row} {S G H : Saw} (ends : Bool) (script : Script) (texts : List (List ℕ)) (text : List ℕ) (n : ℕ) (p : Player) (initial old now : List Device) (before mid after : Option (List ℕ)) (line : Line) (r : Reached table ends script (text ∷ texts) n p (span initial old before mid S G))
    → TextKeepsBytes p.place text old now → line_of p.place text ≡ Ok line → (b : LineBegun r.done line r.last G (going_on H) (λ v left t. BoardsStand v initial now)) → Choice b.begun b.left → after ≡ mid → PlayedPrefix table script initial before after (λ c text. BoardsStand c.last initial now × IsLeft (span initial now before after S H) H c)
memory_begun ends script texts text n p initial old now before mid after line r kept spelled b (inl within) none =
    let o = run_of ends script texts text n p initial old before mid line r b in
    front_put script initial before mid after r.played b.text (in_line ends script texts text n p initial old before mid line r spelled b o within) r.reported
    (over_tells (beginning_of r.ground r.done).world b.world r.played b.begun b.text o) (front_kept mid after b.text none)
    (over_bounds (length initial) r.ground r.done b.world r.played b.begun b.text r.boards_enough o) (λ uses. (r.grounded uses).1) (λ k. (b.there, (kept_begun ends script texts text n p initial old now before mid line r kept spelled b o within, λ f. o.shown (r.seen f))))
memory_begun {H = H} ends script texts text n p initial old now before mid after line r kept spelled b (inr (left, (item, items, begun))) none =
    let o = run_of ends script texts text n p initial old before mid line r b in
    let parts = b.parts ∙ ap (λ (xs : List Item). b.begun ++ xs) left ∙ append-nil b.begun in
    let does : IsBusy line = busy (place_behind first_place r.done) line item items (parts ∙ begun) in
    front_put script initial before mid after r.played b.text (all_of_line ends script texts text n p initial old before mid line b.begun b.world b.text r spelled parts does o) r.reported
    (over_tells (beginning_of r.ground r.done).world b.world r.played b.begun b.text o) (front_kept mid after b.text none)
    (record {
      boards_enough = lacking_next (length initial) r.done line r.boards_enough (does.enough (length initial));
      few_events = (over_bounds (length initial) r.ground r.done b.world r.played b.begun b.text r.boards_enough o).few_events;
    }) (λ uses. (grounded_next r.ground r.done line does.plain does.counts r.grounded uses).1)
    (λ k. (
      b.there,
      (
        untouched_done (all_of_line ends script texts text n p initial old before mid line b.begun b.world b.text r spelled parts does o) initial now (keeps_next p.place r.done line initial old now r.stood.place r.untouched (kept line spelled)),
        λ f. busy_seen H r.ground r.done line (r.played ++ o.now) does (o.shown (r.seen f)),
      ),
    ))

-- all that was reported before a line that was begun was written
told_begun : {table : List Row} {S G : Saw} {H : Option World → List Item → Saw} {P : Option World → List Item → List ℕ → Type 0} (ends : Bool) (script : Script) (texts : List (List ℕ)) (text : List ℕ) (n : ℕ) (p : Player) (initial old : List Device) (before mid : Option (List ℕ)) (line : Line)
    → (r : Reached table ends script (text ∷ texts) n p (span initial old before mid S G)) → (spelled : line_of p.place text ≡ Ok line) → (b : LineBegun r.done line r.last G H P) → (o : Over (beginning_of r.ground r.done).world r.played b.begun b.world b.text G (H b.world b.left)) → (within : b.left ≡ [] → b.begun ≡ []) → (k : ℕ)
    → ReportedBefore n (in_line ends script texts text n p initial old before mid line r spelled b o within) (played_text r.played ++ take k b.text)
told_begun ends script texts text n p initial old before mid line r spelled b o within k = record {
  lines = length r.done;
  within = omega arith;
  behind = omega (arith, r.numbered);
  more = take k b.text;
  reported = ap (λ (xs : List ℕ). xs ++ take k b.text) (sym (told_front r.done r.done r.played o.now (take_all (length r.done) r.done (omega arith)) r.items));
}

-- a line was begun, and what is reported of it was not all written
pub cut_begun : {table : List Row} {S G H : Saw} (ends : Bool) (script : Script) (texts : List (List ℕ)) (text : List ℕ) (n : ℕ) (p : Player) (initial old now : List Device) (before mid after : Option (List ℕ)) (line : Line) (r : Reached table ends script (text ∷ texts) n p (span initial old before mid S G))
    → TextKeepsBytes p.place text old now → line_of p.place text ≡ Ok line → (b : LineBegun r.done line r.last G (going_on H) (λ v left t. CutAtStop r.done line v left t (span initial now mid after G H) ⊎ CutAtTooMany v left t (span initial now mid after G H)))
    → CutAtStop r.done line b.world b.left b.text (span initial now mid after G H) ⊎ CutAtTooMany b.world b.left b.text (span initial now mid after G H)
    → PlayedPrefix table script initial before after (λ c text. BoardsLeft status.WriteFault c initial now × ReportedBefore n c text × (IsLeft (span initial now before after S H) H c ⊎ IsLeft (span initial now before after S H) (ended_saw H c.last c.left) c))
cut_begun ends script texts text n p initial old now before mid after line r kept spelled b (inl (some, stop, cut)) =
    let o = run_of ends script texts text n p initial old before mid line r b in
    let within = stop_within (place_behind first_place r.done) line (motes_in r.done) b.begun b.left b.world initial now b.parts stop in
    front_put script initial before mid after r.played b.text (in_line ends script texts text n p initial old before mid line r spelled b o within) r.reported
    (over_tells (beginning_of r.ground r.done).world b.world r.played b.begun b.text o) cut
    (over_bounds (length initial) r.ground r.done b.world r.played b.begun b.text r.boards_enough o) (λ uses. (r.grounded uses).1)
    (λ k. (
      inr (inl (begun_some (beginning_of r.ground r.done).world b.world r.played b.begun b.text o some, stopped_more (motes_in r.done) line _ b.left b.world initial now stop)),
      told_begun ends script texts text n p initial old before mid line r spelled b o within k,
      inl (kept_begun ends script texts text n p initial old now before mid line r kept spelled b o within, λ f. o.shown (r.seen f)),
    ))
cut_begun ends script texts text n p initial old now before mid after line r kept spelled b (inr (full, boards, cut)) =
    let o = run_of ends script texts text n p initial old before mid line r b in
    front_put script initial before mid after r.played b.text (in_line ends script texts text n p initial old before mid line r spelled b o (λ none. absurd (some_left b.world b.left full none))) r.reported
    (over_tells (beginning_of r.ground r.done).world b.world r.played b.begun b.text o) cut
    (over_bounds (length initial) r.ground r.done b.world r.played b.begun b.text r.boards_enough o) (λ uses. (r.grounded uses).1)
    (λ k. (
      inl boards,
      told_begun ends script texts text n p initial old before mid line r spelled b o (λ none. absurd (some_left b.world b.left full none)) k,
      inl (kept_begun ends script texts text n p initial old now before mid line r kept spelled b o (λ none. absurd (some_left b.world b.left full none)), λ f. o.shown (r.seen f)),
    ))

-- the same where one of its events found no image to start
pub cut_image : {table : List Row} {S G : Saw} (H : Saw) (ends : Bool) (script : Script) (texts : List (List ℕ)) (text : List ℕ) (n : ℕ) (p : Player) (initial old now : List Device) (before mid after : Option (List ℕ)) (line : Line) (r : Reached table ends script (text ∷ texts) n p (span initial old before mid S G))
    → TextKeepsBytes p.place text old now → line_of p.place text ≡ Ok line → (b : LineBegun r.done line r.last G (ended_saw H) (λ v left t. CutAtImage v left t (span initial now mid after G H))) → CutAtImage b.world b.left b.text (span initial now mid after G H) → UsesBoards r.done
    → PlayedPrefix table script initial before after (λ c text. BoardsLeft status.WriteFault c initial now × ReportedBefore n c text × (IsLeft (span initial now before after S H) H c ⊎ IsLeft (span initial now before after S H) (ended_saw H c.last c.left) c))
cut_image H ends script texts text n p initial old now before mid after line r kept spelled b (some, lacks, cut) uses =
    let o = run_of ends script texts text n p initial old before mid line r b in
    let within : b.left ≡ [] → b.begun ≡ [] = λ none. absurd (lacks_left b.world b.left initial now lacks none) in
    front_put script initial before mid after r.played b.text (in_line ends script texts text n p initial old before mid line r spelled b o within) r.reported
    (over_tells (beginning_of r.ground r.done).world b.world r.played b.begun b.text o) cut
    (over_bounds (length initial) r.ground r.done b.world r.played b.begun b.text r.boards_enough o) (λ uses. (r.grounded uses).1)
    (λ k. (
      inr (inr (inr (uses, lacks))),
      told_begun ends script texts text n p initial old before mid line r spelled b o within k,
      inr (kept_begun ends script texts text n p initial old now before mid line r kept spelled b o within, λ f. o.shown (r.seen f)),
    ))

-- all that is reported before a line that was begun was written, whatever follows the report of that line
image_told : {table : List Row} {S G : Saw} {H : Option World → List Item → Saw} {P : Option World → List Item → List ℕ → Type 0} (ends : Bool) (script : Script) (texts : List (List ℕ)) (text : List ℕ) (n : ℕ) (p : Player) (initial old : List Device) (before mid : Option (List ℕ)) (line : Line)
    → (r : Reached table ends script (text ∷ texts) n p (span initial old before mid S G)) → (spelled : line_of p.place text ≡ Ok line) → (b : LineBegun r.done line r.last G H P) → (o : Over (beginning_of r.ground r.done).world r.played b.begun b.world b.text G (H b.world b.left)) → (within : b.left ≡ [] → b.begun ≡ []) → (more : List ℕ)
    → ReportedBefore n (in_line ends script texts text n p initial old before mid line r spelled b o within) (played_text (r.played ++ o.now) ++ more)
image_told ends script texts text n p initial old before mid line r spelled b o within more = record {
  lines = length r.done;
  within = omega arith;
  behind = omega (arith, r.numbered);
  more = b.text ++ more;
  reported = ap (λ (xs : List ℕ). xs ++ more) (over_tells (beginning_of r.ground r.done).world b.world r.played b.begun b.text o) ∙ append_assoc (played_text r.played) b.text more
      ∙ ap (λ (xs : List ℕ). xs ++ (b.text ++ more)) (sym (told_front r.done r.done r.played o.now (take_all (length r.done) r.done (omega arith)) r.items));
}

-- an event of a line found no image to start
pub image_begun : {table : List Row} {S G : Saw} (H : Saw) (ends : Bool) (script : Script) (texts : List (List ℕ)) (text : List ℕ) (n : ℕ) (p : Player) (initial old now : List Device) (before mid after : Option (List ℕ)) (line : Line) (r : Reached table ends script (text ∷ texts) n p (span initial old before mid S G))
    → TextKeepsBytes p.place text old now → line_of p.place text ≡ Ok line → UsesBoards r.done → LineBegun r.done line r.last G (ended_saw H) (λ v left t. InSome v (λ u. LacksImage u left initial now) × Puts mid after t)
    → PlayedUpTo table script initial before after (λ c. ((line : Line) × (more : List Line) × (c.rest ≡ line ∷ more)) × UsesBoards c.done × NoImageThere c initial now × ((more : List ℕ) → ReportedBefore n c (played_text c.played ++ more)) × IsLeft (span initial now before after S H) (ended_saw H c.last c.left) c)
image_begun H ends script texts text n p initial old now before mid after line r kept spelled uses b =
    let o = run_of ends script texts text n p initial old before mid line r b in
    record {
      came = in_line ends script texts text n p initial old before mid line r spelled b o (λ none. absurd (lacks_left b.world b.left initial now b.there.0 none));
      reported = all_put before mid after r.played (r.played ++ o.now) b.text r.reported (over_tells (beginning_of r.ground r.done).world b.world r.played b.begun b.text o) b.there.1;
      limits = over_bounds (length initial) r.ground r.done b.world r.played b.begun b.text r.boards_enough o;
      stood = λ uses. (r.grounded uses).1;
      there = (
        (line, _, refl),
        uses,
        b.there.0,
        λ more. image_told ends script texts text n p initial old before mid line r spelled b o (λ none. absurd (lacks_left b.world b.left initial now b.there.0 none)) more,
        (kept_begun ends script texts text n p initial old now before mid line r kept spelled b o (λ none. absurd (lacks_left b.world b.left initial now b.there.0 none)), λ f. o.shown (r.seen f)),
      );
    }

-- a board stopped in a line
pub stop_begun : {table : List Row} {S G H : Saw} (ends : Bool) (script : Script) (texts : List (List ℕ)) (text : List ℕ) (n : ℕ) (p : Player) (initial old now : List Device) (before mid after : Option (List ℕ)) (line : Line) (r : Reached table ends script (text ∷ texts) n p (span initial old before mid S G))
    → TextKeepsBytes p.place text old now → line_of p.place text ≡ Ok line → UsesBoard line → LineBegun r.done line r.last G (going_on H) (λ v left t. StoppedIn (motes_in r.done) (line ∷ []) left v initial now × Puts mid after t)
    → PlayedUpTo table script initial before after (λ c. ((line : Line) × (more : List Line) × (c.rest ≡ line ∷ more) × UsesBoard line) × BoardStoppedThere c initial now × IsLeft (span initial now before after S H) H c)
stop_begun ends script texts text n p initial old now before mid after line r kept spelled uses b =
    let o = run_of ends script texts text n p initial old before mid line r b in
    let stop = b.there.0 in
    record {
      came = in_line ends script texts text n p initial old before mid line r spelled b o
          (stop_within (place_behind first_place r.done) line (motes_in r.done) b.begun b.left b.world initial now b.parts stop);
      reported = all_put before mid after r.played (r.played ++ o.now) b.text r.reported (over_tells (beginning_of r.ground r.done).world b.world r.played b.begun b.text o) b.there.1;
      limits = over_bounds (length initial) r.ground r.done b.world r.played b.begun b.text r.boards_enough o;
      stood = λ uses. (r.grounded uses).1;
      there = (
        (line, _, refl, uses),
        stopped_more (motes_in r.done) line _ b.left b.world initial now stop,
        (kept_begun ends script texts text n p initial old now before mid line r kept spelled b o (stop_within (place_behind first_place r.done) line (motes_in r.done) b.begun b.left b.world initial now b.parts stop), λ f. o.shown (r.seen f)),
      );
    }

-- there were too many events in it
pub many_begun : {table : List Row} {S G H : Saw} (ends : Bool) (script : Script) (texts : List (List ℕ)) (text : List ℕ) (n : ℕ) (p : Player) (initial old now : List Device) (before mid after : Option (List ℕ)) (line : Line) (r : Reached table ends script (text ∷ texts) n p (span initial old before mid S G))
    → TextKeepsBytes p.place text old now → line_of p.place text ≡ Ok line → LineBegun r.done line r.last G (going_on H) (λ v left t. InSome v (λ u. IsOneTooMany u left) × BoardsStand v initial now × Puts mid after t)
    → PlayedUpTo table script initial before after (λ c. AtTooMany c.left c.played × BoardsStand c.last initial now × (lacking (length initial) script.lines ≡ None) × IsLeft (span initial now before after S H) H c)
many_begun {G = G} {H = H} ends script texts text n p initial old now before mid after line r kept spelled b =
    let o = run_of ends script texts text n p initial old before mid line r b in
    record {
      came = in_line ends script texts text n p initial old before mid line r spelled b o (λ none. absurd (some_left b.world b.left b.there.0 none));
      reported = all_put before mid after r.played (r.played ++ o.now) b.text r.reported (over_tells (beginning_of r.ground r.done).world b.world r.played b.begun b.text o) b.there.2;
      limits = over_bounds (length initial) r.ground r.done b.world r.played b.begun b.text r.boards_enough o;
      stood = λ uses. (r.grounded uses).1;
      there = (
        too_many_played r.ground r.done b.world (r.played ++ o.now) b.left o.run b.there.0,
        b.there.1,
        subst (λ (ls : List Line). lacking (length initial) ls ≡ None) r.lines
            (lacking_append (length initial) r.done (script_from ends p.place n (text ∷ texts)).lines r.boards_enough
            (lacking_none (length initial) p.place _ (begun_world (λ u. IsOneTooMany u b.left) p r.last b.world b.begun (line_told b.text G H) old b.there.0 b.runs r.stood.world) (script_fits ends p.place n (text ∷ texts)))),
        (kept_begun ends script texts text n p initial old now before mid line r kept spelled b o (λ none. absurd (some_left b.world b.left b.there.0 none)), λ f. o.shown (r.seen f)),
      );
    }
