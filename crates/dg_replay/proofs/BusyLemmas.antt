-- What is known of a replay after a line whose items were played.
use Rattle.std.proofs.Common.{false, ◌≡◌, ℕ, ◌<◌, true, List, [], ◌∷◌, ◌++◌, length, refl, ap, sym, ◌∙◌, subst}
use Rattle.std.specs.Prelude.{Option, Some, None, Result, Ok, Err, IfSome}
use Rattle.std.specs.List.{AllByRecursion}
use Rattle.dg_nor.specs.Device.{Device}
use Rattle.dg_object.specs.Object.{Row, row_of}
use Rattle.dg_base.specs.declared.events.Event.{Event}
use Rattle.dg_base.specs.declared.events.Cut.{Cut as CutOfPower}
use Rattle.dg_rounds.specs.Rounds.{times, round, sweep}
use Rattle.dg_script.specs.Fitting.{FitsCut, FitsLine, StandsAt, IsPlayed, UsesBoard}
use Rattle.dg_script.specs.Items.{Item, Declares, Applies, unreported, item_by, place_behind}
use Rattle.dg_script.specs.Places.{first_place, place_after}
use Rattle.dg_script.specs.declared.place.Place.{Place}
use Rattle.dg_script.specs.declared.line.Line.{Line}
use Rattle.dg_script.specs.declared.line.Line.TheVariants.{Image, Happens as EventLine, Round, Sweeps}
use Rattle.dg_rules.specs.Premises.{LinkFits}
use Rattle.dg_script.specs.Ranges.{EventInRange, StepInRange}
use Rattle.dg_rules.specs.World.{World}
use Rattle.dg_world.specs.Worlds.{IsWorld}
use Rattle.dg_world.specs.Boards.{WorldStands}
use Rattle.dg_replay.specs.Boards.{StoppedIn, ItemStops, LineStops}
use Rattle.dg_replay.specs.Items.{StartState, no_start_state, Beginning, begin_by, motes_in, lacking_by, is_boards}
use Rattle.dg_replay.specs.Playing.{Seated, InWorld, Stood, Ready, ItemsPlayedAs, StopsInItem, PlayedAs}
use Rattle.dg_replay.specs.declared.player.Player.{Player}
use Rattle.dg_replay.specs.declared.stop.Stop.{Stop}
use Rattle.dg_replay.specs.Stages.{based_on, done_so_far, Told, boards_told}
use Rattle.dg_replay.specs.declared.stop.Stop.TheVariants.{Memory, BadInput, WriteFault, FlashFault, TooMany, NoBoard, NoImage, NotAVolume}
use Rattle.dg_replay.proofs.ItemLemmas.{items_run_counts}
use Rattle.dg_replay.proofs.PlayLemmas.{false_not, event_at, round_at, sweeps_at, seated_as}
use Rattle.dg_replay.proofs.LineRanges.{cut_in_range}
use Rattle.dg_replay.proofs.StandLemmas.{joined_next, stood_next, busy_runs, line_begun}

-- A line after others has these items. It changes nothing of where the run begins, and needs no more boards.
pub record HasItems (done : List Line) (line : Line) (items : List Item) : Type 0 where
  pub are : item_by (place_behind first_place done) line ≡ items
  pub begins : (g : StartState) (b : Beginning) → (begin_by g b line).world ≡ b.world
  pub plain : is_boards line ≡ false
  pub counts : (b : Beginning) → (begin_by no_start_state b line).motes ≡ b.motes
  pub motes : (place : Place) → (place_after place line).motes ≡ place.motes
  pub ready : (place : Place) → (place_after place line).ready ≡ place.ready
  pub enough : (boards : ℕ) → lacking_by boards line None ≡ None
  pub uses : (begun left : List Item) (w : World) (initial now : List Device) → items ≡ begun ++ left → StopsInItem w left initial now → UsesBoard line
  pub cuts : (place : Place) → IfSome place.cut FitsCut → IfSome (place_after place line).cut FitsCut
  pub stops : (left : List Item) (w : World) (board : ℕ) (image : List ℕ) (initial now : List Device) → ItemStops left (Some w) board image initial now → LineStops line left (Some w) board image initial now

-- ---- the lines that have items

one_behind : {A : Type 0} (xs ys : List A) (y : A) → [] ≡ xs ++ y ∷ ys → ⊥
one_behind [] ys y e = cc
one_behind (x ∷ xs) ys y e = cc

tails : {A : Type 0} (x y : A) (xs ys : List A) → x ∷ xs ≡ y ∷ ys → xs ≡ ys
tails x y xs ys e = cc

-- no board stops where a row is declared
no_stop : (row : Row) (begun left : List Item) (w : World) (initial now : List Device) → Declares row ∷ [] ≡ begun ++ left → StopsInItem w left initial now → ⊥
no_stop row [] left w initial now e s = let at : StopsInItem w (Declares row ∷ []) initial now = subst (λ (xs : List Item). StopsInItem w xs initial now) (sym e) s in at.there
no_stop row (x ∷ xs) [] w initial now e s = s.there
no_stop row (x ∷ xs) (y ∷ ys) w initial now e s = one_behind xs ys y (tails (Declares row) x [] (xs ++ y ∷ ys) e)

pub image_has : (done : List Line) (image version : ℕ) (name content : List ℕ) → HasItems done (Image image version name content) (Declares (row_of image version name content) ∷ [])
image_has done image version name content =
    record {
      are = refl;
      begins = λ g b. refl;
      plain = refl;
      counts = λ b. refl;
      motes = λ place. refl;
      ready = λ place. refl;
      enough = λ boards. refl;
      cuts = λ place fits. fits;
      uses = λ begun left w initial now parts s. no_stop (row_of image version name content) begun left w initial now parts s;
      stops = λ left w board image initial now s. s;
    }

pub event_has : (done : List Line) (event : Event) (cut : Option CutOfPower) → cut ≡ (place_behind first_place done).cut → HasItems done (EventLine event) (Applies (record { event = event; cut = cut }) true ∷ [])
event_has done event cut waits =
    record {
      are = ap (λ (o : Option CutOfPower). Applies (record { event = event; cut = o }) true ∷ []) (sym waits);
      begins = λ g b. refl;
      plain = refl;
      counts = λ b. refl;
      motes = λ place. refl;
      ready = λ place. refl;
      enough = λ boards. refl;
      cuts = λ place fits. tt;
      uses = λ begun left w initial now parts s. tt;
      stops = λ left w board image initial now s. s;
    }

pub round_has : (done : List Line) (a b : ℕ) → HasItems done (Round a b) (unreported (round a b))
round_has done a b =
    record {
      are = refl;
      begins = λ g b. refl;
      plain = refl;
      counts = λ b. refl;
      motes = λ place. refl;
      ready = λ place. refl;
      enough = λ boards. refl;
      cuts = λ place fits. fits;
      uses = λ begun left w initial now parts s. tt;
      stops = λ left w board image initial now s. s;
    }

pub sweeps_has : (done : List Line) (n : ℕ) (links : List (ℕ × ℕ)) → links ≡ (place_behind first_place done).links → HasItems done (Sweeps n) (unreported (times n (sweep links)))
sweeps_has done n links known =
    record {
      are = ap (λ (ls : List (ℕ × ℕ)). unreported (times n (sweep ls))) (sym known);
      begins = λ g b. refl;
      plain = refl;
      counts = λ b. refl;
      motes = λ place. refl;
      ready = λ place. refl;
      enough = λ boards. refl;
      cuts = λ place fits. fits;
      uses = λ begun left w initial now parts s. tt;
      stops = λ left w board image initial now s. s;
    }

-- ---- the results of playing them

-- a board that stopped in an item of a line
stopped_in : (motes : ℕ) (done : List Line) (line : Line) (items left : List Item) (w : World) (initial now : List Device) → HasItems done line items → length w.sites ≡ motes → StopsInItem w left initial now → StoppedIn motes (line ∷ []) left (Some w) initial now
stopped_in motes done line items left w initial now has count s =
    record {
      stopped = record {
        board = s.stopped.board;
        known = subst (λ (n : ℕ). s.stopped.board < n) count s.stopped.known;
        before = s.stopped.before;
        after = s.stopped.after;
        was = s.stopped.was;
        is = s.stopped.is;
        stopped = s.stopped.stopped;
        cause = s.stopped.cause;
      };
      there = has.stops left w s.stopped.board s.stopped.after.image initial now s.there;
    }

busy_as : (table : List Row) (r : Result (Unit {0}) Stop) (p q : Player) (done : List Line) (w : World) (line : Line) (items : List Item) (report_before told : Told) (initial old now : List Device)
    → HasItems done line items → StandsAt p.place line → FitsLine p.place.motes line → q.place ≡ place_after p.place line
    → Stood p done (Some w) initial old → ItemsPlayedAs r w items q.world initial report_before (boards_told now told) → PlayedAs (based_on table initial) r q (done_so_far done (Some w)) line (boards_told old report_before) (boards_told now told)
busy_as table (Ok u) p q done w line items report_before told initial old now has stands fits place s x =
    let motes : q.place.motes ≡ p.place.motes = ap (λ (at : Place). at.motes) place ∙ has.motes p.place in
    let count : length now ≡ length old = x.boards.all.count ∙ sym s.boards.all.count in
    let sites : length x.world.sites ≡ p.place.motes = (items_run_counts w x.world items x.text x.runs).sites ∙ s.world.1 in
    record {
      world = Some x.world;
      text = x.text;
      report_now = x.report_now;
      runs = busy_runs done line w x.world items x.text has.are (λ g. has.begins g _) has.plain has.counts x.runs x.shown;
      stood = stood_next p q done line (Some w) (Some x.world) initial old now (joined_next p.place line stands fits s.links) s place
          (seated_as p.place q.place (length now) motes (subst (λ (n : ℕ). Seated p.place n) (sym count) s.seats))
          (has.cuts p.place s.cut_fits)
          (x.kept_now, sites ∙ sym motes, ap (λ (at : Place). at.ready) place ∙ has.ready p.place ∙ s.world.2, subst (λ (n : ℕ). 0 < n) (sym motes) s.world.3)
          x.boards;
      boards_enough = has.enough (length initial);
    }
busy_as table (Err Memory) p q done w line items report_before told initial old now has stands fits place s x = line_begun done line w items has.are x (λ h. h)
busy_as table (Err TooMany) p q done w line items report_before told initial old now has stands fits place s x = line_begun done line w items has.are x (λ h. h)
busy_as table (Err NoImage) p q done w line items report_before told initial old now has stands fits place s x = line_begun done line w items has.are x (λ h. h)
busy_as table (Err NotAVolume) p q done w line items report_before told initial old now has stands fits place s x = absurd x
busy_as table (Err FlashFault) p q done w line items report_before told initial old now has stands fits place s x =
    let sites : length x.world.sites ≡ motes_in done = (items_run_counts w x.world x.begun x.text x.runs).sites ∙ s.world.1 ∙ s.motes in (
      has.uses x.begun x.left x.world initial now x.parts x.there.0,
      line_begun done line w items has.are x (λ h. (stopped_in (motes_in done) done line items x.left x.world initial now has sites h.0, h.1)),
    )
busy_as table (Err (NoBoard motes boards)) p q done w line items report_before told initial old now has stands fits place s x = absurd x
busy_as table (Err (BadInput n fault)) p q done w line items report_before told initial old now has stands fits place s x = absurd x
busy_as table (Err WriteFault) p q done w line items report_before told initial old now has stands fits place s x = absurd x

-- the same where some world is kept
pub busy_in : (table : List Row) (r : Result (Unit {0}) Stop) (p q : Player) (done : List Line) (w : Option World) (line : Line) (items : List Item) (report_before told : Told) (initial old now : List Device)
    → HasItems done line items → StandsAt p.place line → FitsLine p.place.motes line → p.place.ready ≡ true → q.place ≡ place_after p.place line
    → Stood p done w initial old → ((u : World) → IsWorld p.world old u → WorldStands u initial old → ItemsPlayedAs r u items q.world initial report_before (boards_told now told)) → PlayedAs (based_on table initial) r q (done_so_far done w) line (boards_told old report_before) (boards_told now told)
busy_in table r p q done None line items report_before told initial old now has stands fits ready place s play = false_not p.place.ready ready s.world
busy_in table r p q done (Some w) line items report_before told initial old now has stands fits ready place s play =
    busy_as table r p q done w line items report_before told initial old now has stands fits place s (play w s.world.0 s.boards)

-- ---- what playing them requires

-- the world that is kept stands for one of the motes of its place
pub kept_for : (p : Player) (boards : List Device) → Ready p boards → p.place.ready ≡ true → (u : World) × IsWorld p.world boards u × (length u.sites ≡ p.place.motes)
kept_for p boards r ready = from r.world r.kept
  where
    from : (w : Option World) → InWorld p w boards → (u : World) × IsWorld p.world boards u × (length u.sites ≡ p.place.motes)
    from None k = false_not p.place.ready ready k
    from (Some w) k = (w, k.0, k.1)

pub step_asked : (p : Player) (boards : List Device) (event : Event) (cut : Option CutOfPower) → Ready p boards → StandsAt p.place (EventLine event) → FitsLine p.place.motes (EventLine event) → IsPlayed (EventLine event) → cut ≡ p.place.cut
    → (u : World) × IsWorld p.world boards u × StepInRange (length u.sites) (record { event = event; cut = cut })
step_asked p boards event cut r stands fits played waits =
    let k = kept_for p boards r (event_at p.place event stands).0 in (
      k.0,
      k.1,
      record {
        event = subst (λ (n : ℕ). EventInRange n event) (sym k.2) fits.0;
        cut = cut_in_range cut (subst (λ (o : Option CutOfPower). IfSome o FitsCut) (sym waits) r.cut_fits);
      },
    )

pub round_asked : (p : Player) (boards : List Device) (a b : ℕ) → Ready p boards → StandsAt p.place (Round a b) → FitsLine p.place.motes (Round a b) → (u : World) × IsWorld p.world boards u × LinkFits (length u.sites) (a, b)
round_asked p boards a b r stands fits =
    let k = kept_for p boards r (round_at p.place a b stands).0 in
    (k.0, k.1, subst (λ (n : ℕ). LinkFits n (a, b)) (sym k.2) fits)

pub sweeps_asked : (p : Player) (boards : List Device) (n : ℕ) (links : List (ℕ × ℕ)) → Ready p boards → StandsAt p.place (Sweeps n) → links ≡ p.place.links → (u : World) × IsWorld p.world boards u × AllByRecursion (LinkFits (length u.sites)) links
sweeps_asked p boards n links r stands known =
    let k = kept_for p boards r (sweeps_at p.place n stands).0 in
    (k.0, k.1, subst (λ (m : ℕ). AllByRecursion (LinkFits m) links) (sym k.2) (subst (λ (ls : List (ℕ × ℕ)). AllByRecursion (LinkFits p.place.motes) ls) (sym known) r.links))
