-- What is known of a replay after the lines that have no item.
use Rattle.std.proofs.Common.{⊎_elim, ◌≡◌, ℕ, ◌<◌, ◌≤◌, Bool, true, false, if◌then◌else◌, List, [], ◌∷◌, length, replicate, refl, append-nil, ap, sym, ◌∙◌, subst, arith, eqb-true}
use Rattle.std.specs.Prelude.{Option, Some, None, Result, Ok, Err, OnOk, OnErr, nat_lt, slice_get, slice_index_or}
use Rattle.std.proofs.lemmas.Option.{slice_get_cases}
use Rattle.std.proofs.lemmas.Bool.Decides.{nat_tests}
use Rattle.std.proofs.lemmas.List.{length-map, length-replicate, get_or-replicate}
use Rattle.dg_nor.specs.Device.{Device, Endures}
use Rattle.dg_nor.specs.Fuse.{beneath_of}
use Rattle.dg_object.specs.Object.{Row}
use Rattle.dg_volume.specs.Store.{Store, fresh, golden_row}
use Rattle.dg_volume.specs.Stands.{Stands}
use Rattle.dg_volume.specs.Shaped.{IsShaped}
use Rattle.dg_base.specs.declared.events.Cut.{Cut as CutOfPower}
use Rattle.dg_script.specs.Fitting.{FitsCut, FitsLine, StandsAt}
use Rattle.dg_script.specs.Places.{place_after, none_narrow}
use Rattle.dg_script.specs.declared.place.Place.{Place}
use Rattle.dg_script.specs.declared.line.Line.{Line}
use Rattle.dg_script.specs.declared.line.Line.TheVariants.{Nothing, Motes, Golden, Boards, Link, Narrow, Cut}
use Rattle.dg_rules.specs.Sizes.{most_motes}
use Rattle.dg_rules.specs.World.{World, first_world, off_site, no_site}
use Rattle.dg_rules.specs.Begins.{store_of}
use Rattle.dg_world.specs.Worlds.{IsWorld}
use Rattle.dg_world.specs.Applied.{SameBoards}
use Rattle.dg_world.specs.declared.mount.MountStopped.{MountStopped}
use Rattle.dg_world.specs.declared.mount.MountStopped.TheVariants.{Flash, NotAVolume as NoVolume}
use Rattle.dg_world.specs.Mounted.{StandFor, MountedTo, MountStops, NoVolumeAt}
use Rattle.dg_world.specs.Counts.{AreSteady, AreAwake}
use Rattle.dg_world.specs.Formatted.{FirstBoards, FormatStops}
use Rattle.dg_world.specs.declared.format.FormatStopped.{FormatStopped}
use Rattle.dg_replay.specs.Items.{motes_in, beginning_of}
use Rattle.dg_replay.specs.inner.Words.{golden_world, with_link, with_narrow}
use Rattle.dg_world.specs.Boards.{BoardsEndure}
use Rattle.dg_replay.specs.Boards.{StoppedIn}
use Rattle.dg_replay.specs.Playing.{Counted, InWorld, Stood, PlayedLine, LacksBoards, PlayedAs, mount_stop}
use Rattle.dg_replay.specs.declared.player.Player.{Player}
use Rattle.dg_replay.specs.declared.stop.Stop.{Stop}
use Rattle.dg_replay.specs.Shown.{IsPlaced, StaysSeen, StaysUnshown}
use Rattle.dg_replay.specs.Stages.{based_on, done_so_far, Told, boards_told}
use Rattle.dg_replay.specs.declared.stop.Stop.TheVariants.{Memory, BadInput, WriteFault, FlashFault, TooMany, NoBoard, NoImage, NotAVolume}
use Rattle.dg_world.proofs.EndureLemmas.{there, stay_awake}
use Rattle.dg_replay.proofs.PlayLemmas.{false_not, no_world, in_world_as, seated_as}
use Rattle.dg_replay.proofs.ShownLemmas.{stays_same, unplaced_shown}
use Rattle.dg_replay.proofs.StandLemmas.{joined_next, stood_next, grounded_next, grounded_motes, silent_runs, golden_runs, boards_runs, link_runs, narrow_runs, none_begun, unplaced_begun}

-- memory ran out before anything of a line was done
pub memory_line : (table : List Row) (p q : Player) (done : List Line) (w : Option World) (line : Line) (report_before told : Told) (initial now : List Device) → StaysSeen report_before.saw told.saw → Stood p done w initial now → PlayedAs (based_on table initial) (Err Memory) q (done_so_far done w) line (boards_told now report_before) (boards_told now told)
memory_line table p q done w line report_before told initial now stays s = none_begun p done line w now s.world stays s.boards

-- after a line that was not played to its end, nothing is said of the player
pub stop_as : (table : List Row) (stop : Stop) (p q : Player) (done : List Line) (w : Option World) (line : Line) (report_before told : Told) (initial old now : List Device)
    → PlayedAs (based_on table initial) (Err stop) p (done_so_far done w) line (boards_told old report_before) (boards_told now told) → PlayedAs (based_on table initial) (Err stop) q (done_so_far done w) line (boards_told old report_before) (boards_told now told)
stop_as table Memory p q done w line report_before told initial old now x = x
stop_as table FlashFault p q done w line report_before told initial old now x = x
stop_as table TooMany p q done w line report_before told initial old now x = x
stop_as table (NoBoard motes boards) p q done w line report_before told initial old now x = x
stop_as table NoImage p q done w line report_before told initial old now x = x
stop_as table NotAVolume p q done w line report_before told initial old now x = x
stop_as table (BadInput n fault) p q done w line report_before told initial old now x = absurd x
stop_as table WriteFault p q done w line report_before told initial old now x = absurd x

-- ---- lines that say nothing to the motes

pub nothing_played : {table : List Row} (p q : Player) (done : List Line) (w : Option World) (told : Told) (initial now : List Device) → q.place ≡ place_after p.place Nothing → q.world ≡ p.world → Stood p done w initial now → PlayedLine (based_on table initial) q (done_so_far done w) Nothing told (boards_told now told)
nothing_played p q done w told initial now place world s =
    let motes = ap (λ (x : Place). x.motes) place in
    let ready = ap (λ (x : Place). x.ready) place in
    record {
      world = w;
      text = [];
      report_now = sym (append-nil told.text);
      runs = silent_runs done Nothing w refl (λ g. refl) (λ g played r before. grounded_next g done Nothing refl (λ b. refl) before) (λ g played r f. f);
      stood = stood_next p q done Nothing w w initial now now s.links s place (seated_as p.place q.place (length now) motes s.seats) s.cut_fits
          (in_world_as p q w now world motes ready s.world) s.boards;
      boards_enough = refl;
    }

not_below : (n m : ℕ) → m ≤ n → nat_lt n m ≡ false
not_below n m h = grind (arith, nat_tests)

no_motes : (p : Player) (w : Option World) (now : List Device) → p.place.motes ≡ 0 → InWorld p w now → p.place.ready ≡ false
no_motes p None now none k = k
no_motes p (Some w) now none k = absurd (omega (arith, none, k.3))

pub motes_played : {table : List Row} (p q : Player) (done : List Line) (w : Option World) (motes : ℕ) (before told : Told) (initial now : List Device) → StandsAt p.place (Motes motes) → q.place ≡ place_after p.place (Motes motes) → Counted motes (length now) → told.text ≡ before.text → (before.saw.events [] [] → told.saw.events [] []) → Stood p done w initial now
    → PlayedLine (based_on table initial) q (done_so_far done w) (Motes motes) before (boards_told now told)
motes_played {table} p q done w motes before told initial now stands place counted same shown s =
    let unready = no_motes p w now (eqb-true p.place.motes 0 stands.fits) s.world in
    let kept = no_world p w now unready s.world in
    motes_first p q done motes before told initial now stands place counted unready same shown (subst (λ (o : Option World). Stood p done o initial now) kept s) (sym kept)
  where
    motes_first : (p q : Player) (done : List Line) (motes : ℕ) (before told : Told) (initial now : List Device) → StandsAt p.place (Motes motes) → q.place ≡ place_after p.place (Motes motes) → Counted motes (length now) → p.place.ready ≡ false → told.text ≡ before.text → (before.saw.events [] [] → told.saw.events [] []) → Stood p done None initial now
        → {w : Option World} → None ≡ w → PlayedLine (based_on table initial) q (done_so_far done w) (Motes motes) before (boards_told now told)
    motes_first p q done motes before told initial now stands place counted unready same shown s {w} e =
        let many : q.place.motes ≡ motes = ap (λ (x : Place). x.motes) place in
        let ready : q.place.ready ≡ p.place.ready = ap (λ (x : Place). x.ready) place in
        let made : PlayedLine (based_on table initial) q (done_so_far done None) (Motes motes) before (boards_told now told) = record {
          world = None;
          text = [];
          report_now = same ∙ sym (append-nil before.text);
          runs = silent_runs done (Motes motes) None refl (λ g. refl) (λ g played r kept. grounded_motes g done motes played r)
              (λ g played r f. unplaced_shown before.saw told.saw (beginning_of g done).world played r shown f);
          stood = stood_next p q done (Motes motes) None None initial now now (joined_next p.place (Motes motes) stands (counted.0, counted.1) s.links) s place (λ some. subst (λ (n : ℕ). Counted n (length now)) (sym many) counted) s.cut_fits
              (ready ∙ unready) s.boards;
          boards_enough = ap (λ (b : Bool). if b then Some motes else None) (not_below (length initial) motes (subst (λ (ds : List Device). motes ≤ length ds) s.boards counted.2));
        } in
        subst (λ (o : Option World). PlayedLine (based_on table initial) q (done_so_far done o) (Motes motes) before (boards_told now told)) e made

lacking_boards : (p : Player) (done : List Line) (w : Option World) (motes boards : ℕ) (initial now : List Device) → p.place.motes ≡ 0 → boards ≡ length now → boards < motes → Stood p done w initial now → LacksBoards (Motes motes) motes boards initial now now
lacking_boards p done None motes boards initial now none count short s = record { is_motes = refl; have = count ∙ ap (λ (ds : List Device). length ds) s.boards; missing = short; same = refl }
lacking_boards p done (Some w) motes boards initial now none count short s = absurd (omega (arith, none, s.world.3))

pub motes_as : (table : List Row) (r : Result (Unit {0}) Stop) (p q : Player) (done : List Line) (w : Option World) (motes boards : ℕ) (before told : Told) (initial now : List Device) → StandsAt p.place (Motes motes) → q.place ≡ place_after p.place (Motes motes) → (1 ≤ motes) × (motes ≤ most_motes) → boards ≡ length now
    → OnOk r (motes ≤ boards) → ((stop : Stop) → r ≡ Err stop → (stop ≡ NoBoard motes boards) × (boards < motes)) → told.text ≡ before.text → (before.saw.events [] [] → told.saw.events [] []) → OnErr r (StaysSeen before.saw told.saw) → Stood p done w initial now → PlayedAs (based_on table initial) r q (done_so_far done w) (Motes motes) (boards_told now before) (boards_told now told)
motes_as table (Ok u) p q done w motes boards before told initial now stands place fits count enough missing same shown stays s =
    motes_played p q done w motes before told initial now stands place (fits.0, fits.1, subst (λ (n : ℕ). motes ≤ n) count enough) same shown s
motes_as table (Err stop) p q done w motes boards before told initial now stands place fits count enough missing same shown stays s =
    let m = missing stop refl in
    let P : Stop → Type 0 = λ x. PlayedAs (based_on table initial) (Err x) q (done_so_far done w) (Motes motes) (boards_told now before) (boards_told now told) in
    subst P (sym m.0) (lacking_boards p done w motes boards initial now (eqb-true p.place.motes 0 stands.fits) count m.1 s, stays)

pub cut_played : {table : List Row} (p q : Player) (done : List Line) (w : Option World) (cut : CutOfPower) (told : Told) (initial now : List Device) → FitsCut cut → q.place ≡ place_after p.place (Cut cut) → q.world ≡ p.world → Stood p done w initial now
    → PlayedLine (based_on table initial) q (done_so_far done w) (Cut cut) told (boards_told now told)
cut_played p q done w cut told initial now fits place world s =
    let motes = ap (λ (x : Place). x.motes) place in
    let ready = ap (λ (x : Place). x.ready) place in
    record {
      world = w;
      text = [];
      report_now = sym (append-nil told.text);
      runs = silent_runs done (Cut cut) w refl (λ g. refl) (λ g played r before. grounded_next g done (Cut cut) refl (λ b. refl) before) (λ g played r f. f);
      stood = stood_next p q done (Cut cut) w w initial now now s.links s place (seated_as p.place q.place (length now) motes s.seats) fits
          (in_world_as p q w now world motes ready s.world) s.boards;
      boards_enough = refl;
    }

-- ---- golden

endured : (motes : ℕ) (initial old new : List Device) → old ≡ initial → FirstBoards motes old new → BoardsEndure initial new
endured motes initial old new first others =
    record {
      count = others.count ∙ ap (λ (ds : List Device). length ds) first;
      endures = subst (λ (ds : List Device). (m : ℕ) (a b : Device) → slice_get ds m ≡ Some a → slice_get new m ≡ Some b → Endures (beneath_of a) (beneath_of b)) first others.endures;
    }

-- boards that were only read stood for what they stand for
stood_before : (motes : ℕ) (stores : List Store) (old new : List Device) → StandFor motes stores new → SameBoards old new → AreAwake motes old → StandFor motes stores old
stood_before motes stores old new stand same awake = record {
  count = stand.count;
  each = λ m d within is. let is_new : slice_get new m ≡ Some (slice_index_or new m d) = there old new m d same.count is in subst (λ (c : List ℕ). Stands c (store_of stores m)) (same.images m d (slice_index_or new m d) is is_new) (stand.each m (slice_index_or new m d) within is_new);
  awake = awake;
}

endured_same : (initial old new : List Device) → old ≡ initial → SameBoards old new → BoardsEndure initial new
endured_same initial old new first same =
    record {
      count = same.count ∙ ap (λ (ds : List Device). length ds) first;
      endures = subst (λ (ds : List Device). (m : ℕ) (a b : Device) → slice_get ds m ≡ Some a → slice_get new m ≡ Some b → Endures (beneath_of a) (beneath_of b)) first same.endures;
    }

some_same : (n m : ℕ) → Some n ≡ Some m → n ≡ m
some_same n m e = cc

no_some : {A : Type 0} (n : ℕ) → Some n ≡ None → A
no_some n e = absurd (let f : Some n ≡ None = e in cc)

none_some : {A : Type 0} (n : ℕ) → None ≡ Some n → A
none_some n e = absurd (let f : None ≡ Some n = e in cc)

pub golden_played : {table : List Row} (p q : Player) (done : List Line) (w : Option World) (name : List ℕ) (used : ℕ) (content : List ℕ) (motes : ℕ) (before told : Told) (initial old new : List Device)
    → p.place.ready ≡ false → motes ≡ p.place.motes → Counted motes (length old) → q.place ≡ place_after p.place (Golden name used content)
    → ((m : ℕ) (d : Device) → m < motes → slice_get new m ≡ Some d → Stands d.image (fresh name content used))
    → ((m : ℕ) (d : Device) → m < motes → slice_get old m ≡ Some d → d.stopped ≡ false) → AreSteady old new → FirstBoards motes old new
    → ((boards : List Device) (stores : List Store) (table : List Row) → length stores ≡ motes → motes ≤ length boards
    → ((m : ℕ) (d : Device) → m < motes → slice_get boards m ≡ Some d → Stands d.image (slice_index_or stores m no_site.store)) → IsWorld q.world boards (first_world table [] none_narrow stores))
    → told.text ≡ before.text → ((stores : List Store) → IsPlaced motes (Some used) initial new stores → before.saw.events [] [] → told.saw.events stores [])
    → Stood p done w initial old → PlayedLine (based_on table initial) q (done_so_far done w) (Golden name used content) before (boards_told new told)
golden_played p q done (Some w) name used content motes before told initial old new unready count counted place formatted awake calm others begins same_text placed s = false_not p.place.ready s.world.2 unready
golden_played p q done None name used content motes before told initial old new unready count counted place formatted awake calm others begins same_text placed s =
    let first : old ≡ initial = s.boards in
    let chip : Store = fresh name content used in
    let stores : List Store = replicate motes chip in
    let z : World = golden_world motes name used content in
    let enough : motes ≤ length new = omega (arith, counted.2, others.count) in
    let stores_there : (m : ℕ) (d : Device) → m < motes → slice_get new m ≡ Some d → Stands d.image (slice_index_or stores m no_site.store) =
    λ m d within is. subst (λ (x : Store). Stands d.image x) (sym (get_or-replicate motes m chip no_site.store within)) (formatted m d within is) in
    let is_world : IsWorld q.world new z = begins new stores (golden_row name content ∷ []) (length-replicate motes chip) enough stores_there in
    let many : length z.sites ≡ motes = length-map stores off_site ∙ length-replicate motes chip in
    let same : q.place.motes ≡ motes = ap (λ (x : Place). x.motes) place ∙ sym count in
    record {
      world = Some z;
      text = [];
      report_now = same_text ∙ sym (append-nil before.text);
      runs = golden_runs done name used content motes (count ∙ s.motes) (placed stores (record {
        some = counted.0;
        few = counted.1;
        enough = enough;
        stand = record { count = length-replicate motes chip; each = stores_there; awake = stay_awake motes old new others.count calm awake };
        formatted = λ n is. (name, content, ap (λ (k : ℕ). replicate motes (fresh name content k)) (some_same used n is));
        shaped = λ is. no_some used is;
        same = λ is. no_some used is;
      }));
      stood = stood_next p q done (Golden name used content) None (Some z) initial old new s.links s place
          (λ some. subst (λ (n : ℕ). Counted n (length new)) (sym same) (counted.0, counted.1, enough))
          s.cut_fits
          (is_world, many ∙ sym same, ap (λ (x : Place). x.ready) place, subst (λ (n : ℕ). 0 < n) (sym same) counted.0)
          (record {
            all = endured motes initial old new first others;
            calm = subst (λ (ds : List Device). AreSteady ds new) first calm;
            stands = λ m d within is. (is_world.sites m d within is).stands;
            came = λ m d within is. awake m d (omega (arith, many, within)) (ap (λ (ds : List Device). slice_get ds m) first ∙ is);
            others = λ m past. others.others m (omega (arith, many, past)) ∙ ap (λ (ds : List Device). slice_get ds m) first;
          });
      boards_enough = refl;
    }

-- formatting stopped
pub golden_stopped : (table : List Row) (p q : Player) (done : List Line) (w : Option World) (name : List ℕ) (used : ℕ) (content : List ℕ) (motes : ℕ) (e : FormatStopped) (before told : Told) (initial old new : List Device) → p.place.ready ≡ false → motes ≡ p.place.motes
    → FirstBoards motes old new → FormatStops e.board motes (fresh name content used) old new → told.text ≡ before.text → StaysUnshown before.saw told.saw → Stood p done w initial old → PlayedAs (based_on table initial) (Err FlashFault) q (done_so_far done w) (Golden name used content) (boards_told old before) (boards_told new told)
golden_stopped table p q done (Some w) name used content motes e before told initial old new unready count others stops same stays s = false_not p.place.ready s.world.2 unready
golden_stopped table p q done None name used content motes e before told initial old new unready count others stops same stays s =
    let first : old ≡ initial = s.boards in
    let here : motes ≡ motes_in done = count ∙ s.motes in
    let stop : StoppedIn (motes_in done) (Golden name used content ∷ []) [] None initial new = record {
      stopped = record {
        board = e.board;
        known = subst (λ (n : ℕ). e.board < n) here stops.known;
        before = stops.before;
        after = stops.after;
        was = ap (λ (ds : List Device). slice_get ds e.board) (sym first) ∙ stops.was;
        is = stops.is;
        stopped = stops.stopped;
        cause = stops.cause;
      };
      there = record {
        all = endured motes initial old new first others;
        stands = stops.formatted;
        came = λ m d within is. stops.awake m d within (ap (λ (ds : List Device). slice_get ds m) first ∙ is);
        others = λ m past. stops.behind m past ∙ ap (λ (ds : List Device). slice_get ds m) first;
      };
    } in
    (tt, unplaced_begun done (Golden name used content) stays (stop, same ∙ sym (append-nil before.text)))

-- ---- boards as they are

-- the stores that boards stand for have their shape
pub shaped_stores : ((c : List ℕ) (s : Store) → Stands c s → IsShaped s) → (r : Result (Unit {0}) MountStopped) (motes : ℕ) (new : List Device) → motes ≤ length new → OnOk r ((stores : List Store) × StandFor motes stores new)
    → OnOk r ((stores : List Store) × StandFor motes stores new × ((m : ℕ) → m < motes → IsShaped (store_of stores m)))
shaped_stores law (Err e) motes new enough none = tt
shaped_stores law (Ok u) motes new enough (stores, stand) = (
  stores,
  stand,
  λ m within. ⊎_elim (λ x. law x.0.image (store_of stores m) (stand.each m x.0 within x.2)) (λ past. absurd (omega (arith, within, enough, past.0))) (slice_get_cases new m).1,
)

-- they were mounted
pub boards_played : (table : List Row) (p q : Player) (done : List Line) (w : Option World) (motes : ℕ) (before told : Told) (initial old new : List Device)
    → p.place.ready ≡ false → motes ≡ p.place.motes → Counted motes (length old) → q.place ≡ place_after p.place Boards
    → ((stores : List Store) × StandFor motes stores new × ((m : ℕ) → m < motes → IsShaped (store_of stores m)))
    → ((m : ℕ) (d : Device) → m < motes → slice_get old m ≡ Some d → d.stopped ≡ false) → AreSteady old new → SameBoards old new → ((m : ℕ) → motes ≤ m → slice_get new m ≡ slice_get old m)
    → ((boards : List Device) (stores : List Store) (table : List Row) → length stores ≡ motes → motes ≤ length boards
    → ((m : ℕ) (d : Device) → m < motes → slice_get boards m ≡ Some d → Stands d.image (slice_index_or stores m no_site.store)) → IsWorld q.world boards (first_world table [] none_narrow stores))
    → told.text ≡ before.text → ((stores : List Store) → IsPlaced motes None initial new stores → before.saw.events [] [] → told.saw.events stores [])
    → Stood p done w initial old → PlayedLine (based_on table initial) q (done_so_far done w) Boards before (boards_told new told)
boards_played table p q done (Some w) motes before told initial old new unready count counted place stand awake calm same others begins same_text placed s = false_not p.place.ready s.world.2 unready
boards_played table p q done None motes before told initial old new unready count counted place (stores, stand, shaped) awake calm same others begins same_text placed s =
    let first : old ≡ initial = s.boards in
    let z : World = first_world table [] none_narrow stores in
    let enough : motes ≤ length new = omega (arith, counted.2, same.count) in
    let is_world : IsWorld q.world new z = begins new stores table stand.count enough stand.each in
    let many : length z.sites ≡ motes = length-map stores off_site ∙ stand.count in
    let here : q.place.motes ≡ motes = ap (λ (x : Place). x.motes) place ∙ sym count in
    let known : motes ≡ motes_in done = count ∙ s.motes in
    record {
      world = Some z;
      text = [];
      report_now = same_text ∙ sym (append-nil before.text);
      runs = boards_runs done table stores (subst (λ (n : ℕ). StandFor n stores initial) known (subst (λ (ds : List Device). StandFor motes stores ds) first (stood_before motes stores old new stand same awake))) (λ m within. shaped m (omega (arith, within, stand.count)))
          (placed stores (record { some = counted.0; few = counted.1; enough = enough; stand = stand; formatted = λ n is. none_some n is; shaped = λ is. shaped; same = λ is. subst (λ (ds : List Device). SameBoards ds new) first same }));
      stood = stood_next p q done Boards None (Some z) initial old new s.links s place
          (λ some. subst (λ (n : ℕ). Counted n (length new)) (sym here) (counted.0, counted.1, enough))
          s.cut_fits
          (is_world, many ∙ sym here, ap (λ (x : Place). x.ready) place, subst (λ (n : ℕ). 0 < n) (sym here) counted.0)
          (record {
            all = endured_same initial old new first same;
            calm = subst (λ (ds : List Device). AreSteady ds new) first calm;
            stands = λ m d within is. (is_world.sites m d within is).stands;
            came = λ m d within is. awake m d (omega (arith, many, within)) (ap (λ (ds : List Device). slice_get ds m) first ∙ is);
            others = λ m past. others m (omega (arith, many, past)) ∙ ap (λ (ds : List Device). slice_get ds m) first;
          });
      boards_enough = refl;
    }

-- a board stopped while it was mounted
pub boards_stopped : (table : List Row) (p q : Player) (done : List Line) (w : Option World) (motes board : ℕ) (before told : Told) (initial old new : List Device) → p.place.ready ≡ false → motes ≡ p.place.motes
    → SameBoards old new → MountStops board motes old new → told.text ≡ before.text → StaysSeen before.saw told.saw → Stood p done w initial old → PlayedAs (based_on table initial) (Err FlashFault) q (done_so_far done w) Boards (boards_told old before) (boards_told new told)
boards_stopped table p q done (Some w) motes board before told initial old new unready count same stops same_text stays s = false_not p.place.ready s.world.2 unready
boards_stopped table p q done None motes board before told initial old new unready count same stops same_text stays s =
    let first : old ≡ initial = s.boards in
    let here : motes ≡ motes_in done = count ∙ s.motes in
    let stop : StoppedIn (motes_in done) (Boards ∷ []) [] None initial new = record {
      stopped = record {
        board = board;
        known = subst (λ (n : ℕ). board < n) here stops.known;
        before = stops.before;
        after = stops.after;
        was = ap (λ (ds : List Device). slice_get ds board) (sym first) ∙ stops.was;
        is = stops.is;
        stopped = stops.stopped;
        cause = stops.cause;
      };
      there = record {
        mounted = subst (λ (ds : List Device). MountedTo board ds new) first stops.mounted;
        read = subst (λ (ds : List Device). SameBoards ds new) first same;
      };
    } in
    (tt, none_begun p done Boards None old s.world stays (stop, same_text ∙ sym (append-nil before.text)))

-- a board is not a volume
pub boards_refused : (table : List Row) (p q : Player) (done : List Line) (w : Option World) (motes board : ℕ) (before told : Told) (initial old new : List Device) → p.place.ready ≡ false → motes ≡ p.place.motes
    → SameBoards old new → NoVolumeAt board motes old new → AreSteady old new → StaysSeen before.saw told.saw → Stood p done w initial old → PlayedAs (based_on table initial) (Err NotAVolume) q (done_so_far done w) Boards (boards_told old before) (boards_told new told)
boards_refused table p q done (Some w) motes board before told initial old new unready count same lacking calm stays s = false_not p.place.ready s.world.2 unready
boards_refused table p q done None motes board before told initial old new unready count same lacking calm stays s =
    let first : old ≡ initial = s.boards in
    let here : motes ≡ motes_in done = count ∙ s.motes in (
      refl,
      record {
        board = board;
        at = subst (λ (n : ℕ). NoVolumeAt board n initial new) here (subst (λ (ds : List Device). NoVolumeAt board motes ds new) first lacking);
        read = subst (λ (ds : List Device). SameBoards ds new) first same;
        calm = subst (λ (ds : List Device). AreSteady ds new) first calm;
      },
      stays,
    )

pub boards_ended : (table : List Row) (p q : Player) (done : List Line) (w : Option World) (motes : ℕ) (e : MountStopped) (stop : Stop) (before told : Told) (initial old new : List Device) → stop ≡ mount_stop e → p.place.ready ≡ false → motes ≡ p.place.motes
    → SameBoards old new → ((board : ℕ) → e ≡ Flash board → MountStops board motes old new) → ((board : ℕ) → e ≡ NoVolume board → NoVolumeAt board motes old new × AreSteady old new) → told.text ≡ before.text → StaysSeen before.saw told.saw → Stood p done w initial old → PlayedAs (based_on table initial) (Err stop) q (done_so_far done w) Boards (boards_told old before) (boards_told new told)
boards_ended table p q done w motes (Flash board) stop before told initial old new is unready count same stops refuses same_text stays s =
    subst (λ (x : Stop). PlayedAs (based_on table initial) (Err x) q (done_so_far done w) Boards (boards_told old before) (boards_told new told)) (sym is) (boards_stopped table p q done w motes board before told initial old new unready count same (stops board refl) same_text stays s)
boards_ended table p q done w motes (NoVolume board) stop before told initial old new is unready count same stops refuses same_text stays s =
    let lacking = refuses board refl in
    subst (λ (x : Stop). PlayedAs (based_on table initial) (Err x) q (done_so_far done w) Boards (boards_told old before) (boards_told new told)) (sym is) (boards_refused table p q done w motes board before told initial old new unready count same lacking.0 lacking.1 stays s)

-- ---- links and narrow motes

pub link_played : {table : List Row} (p q : Player) (done : List Line) (w : Option World) (a b : ℕ) (told : Told) (initial now : List Device)
    → StandsAt p.place (Link a b) → FitsLine p.place.motes (Link a b) → p.place.ready ≡ true → p.place.events ≡ false → q.place ≡ place_after p.place (Link a b)
    → ((boards : List Device) (u : World) → IsWorld p.world boards u → IsWorld q.world boards (with_link (a, b) u)) → Stood p done w initial now → PlayedLine (based_on table initial) q (done_so_far done w) (Link a b) told (boards_told now told)
link_played p q done None a b told initial now stands fits later early place linked s = false_not p.place.ready later s.world
link_played p q done (Some w) a b told initial now stands fits later early place linked s =
    let k = s.world in
    let motes : q.place.motes ≡ p.place.motes = ap (λ (x : Place). x.motes) place in
    let b2 = s.boards in
    record {
      world = Some (with_link (a, b) w);
      text = [];
      report_now = sym (append-nil told.text);
      runs = link_runs done a b w (s.early early) (stays_same told.saw);
      stood = stood_next p q done (Link a b) (Some w) (Some (with_link (a, b) w)) initial now now (joined_next p.place (Link a b) stands fits s.links) s place
          (seated_as p.place q.place (length now) motes s.seats)
          s.cut_fits
          (linked now w k.0, k.1 ∙ sym motes, ap (λ (x : Place). x.ready) place ∙ k.2, subst (λ (n : ℕ). 0 < n) (sym motes) k.3)
          (record { all = b2.all; calm = b2.calm; stands = b2.stands; came = b2.came; others = b2.others });
      boards_enough = refl;
    }

pub narrow_played : {table : List Row} (p q : Player) (done : List Line) (w : Option World) (m : ℕ) (told : Told) (initial now : List Device)
    → StandsAt p.place (Narrow m) → FitsLine p.place.motes (Narrow m) → p.place.ready ≡ true → p.place.events ≡ false → q.place ≡ place_after p.place (Narrow m)
    → ((boards : List Device) (u : World) → IsWorld p.world boards u → IsWorld q.world boards (with_narrow m u)) → Stood p done w initial now → PlayedLine (based_on table initial) q (done_so_far done w) (Narrow m) told (boards_told now told)
narrow_played p q done None m told initial now stands fits later early place narrowed s = false_not p.place.ready later s.world
narrow_played p q done (Some w) m told initial now stands fits later early place narrowed s =
    let k = s.world in
    let motes : q.place.motes ≡ p.place.motes = ap (λ (x : Place). x.motes) place in
    let b = s.boards in
    record {
      world = Some (with_narrow m w);
      text = [];
      report_now = sym (append-nil told.text);
      runs = narrow_runs done m w (s.early early) (stays_same told.saw);
      stood = stood_next p q done (Narrow m) (Some w) (Some (with_narrow m w)) initial now now (joined_next p.place (Narrow m) stands fits s.links) s place
          (seated_as p.place q.place (length now) motes s.seats)
          s.cut_fits
          (narrowed now w k.0, k.1 ∙ sym motes, ap (λ (x : Place). x.ready) place ∙ k.2, subst (λ (n : ℕ). 0 < n) (sym motes) k.3)
          (record { all = b.all; calm = b.calm; stands = b.stands; came = b.came; others = b.others });
      boards_enough = refl;
    }
