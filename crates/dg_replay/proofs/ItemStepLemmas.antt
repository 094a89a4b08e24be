-- The results of playing one item, and items after others.
use Rattle.std.proofs.Common.{◌≡◌, ℕ, ◌<◌, ◌≤◌, ◌≢◌, ◌⊎◌, ⊎_elim, Bool, false, if◌then◌else◌, List, [], ◌∷◌, ◌++◌, length, refl, append-nil, append_assoc, ap, sym, ◌∙◌, subst, arith}
use Rattle.std.proofs.lemmas.List.{length-set}
use Rattle.std.specs.List.{filter}
use Rattle.std.specs.Prelude.{Option, Some, None, Result, Ok, Err, OnOk, OnErr}
use Rattle.dg_base.specs.declared.events.Cut.{Cut as PowerCut}
use Rattle.dg_base.specs.declared.events.Event.{Event}
use Rattle.dg_base.specs.declared.events.Step.{Step}
use Rattle.dg_object.specs.Object.{Row}
use Rattle.dg_nor.specs.Device.{Device}
use Rattle.dg_script.specs.Items.{Item, Declares, Applies}
use Rattle.dg_script.specs.Report.{report_text}
use Rattle.dg_script.specs.declared.report.Report.{Report}
use Rattle.dg_script.specs.Ranges.{StepInRange}
use Rattle.dg_rules.specs.Steps.{DeclareStep, declared_as}
use Rattle.dg_script.specs.declared.report.Report.TheVariants as report
use Rattle.dg_volume.specs.Store.{Store}
use Rattle.dg_volume.specs.Table.{row_at}
use Rattle.dg_rules.specs.Changes.{is_reported, is_taken, declared_lines}
use Rattle.dg_rules.specs.Runs.{Played}
use Rattle.dg_rules.specs.World.{World}
use Rattle.dg_rules.specs.Events.{mote_of}
use Rattle.dg_rules.specs.Sizes.{most_events}
use Rattle.dg_world.specs.Worlds.{IsWorld}
use Rattle.dg_world.specs.declared.world.WorldFault.{WorldFault}
use Rattle.dg_world.specs.declared.world.WorldFault.TheVariants.{Flash, TooMany as TooManyFault, Memory as MemoryFault, NoImage as NoImageFault}
use Rattle.dg_world.specs.Counts.{AreAwake}
use Rattle.dg_world.proofs.CountLemmas.{AreSteady_then}
use Rattle.dg_world.specs.Applied.{Applied, FlashAt, RunEnded}
use Rattle.dg_world.specs.Applying.{ApplyDone, step_of}
use Rattle.dg_world.specs.Deployments.{Deployment, deployed}
use Rattle.dg_world.specs.declared.world.World.{World as KeptWorld}
use Rattle.dg_world.specs.Boards.{WorldStands}
use Rattle.dg_replay.specs.Boards.{ItemStops, LacksImage, EventNext}
use Rattle.dg_replay.specs.Playing.{KeepsMotes, ItemsRun, ItemsPlayed, ItemsBegun, ItemsPlayedAs, IsOneTooMany, StopsInItem}
use Rattle.dg_replay.specs.declared.stop.Stop.{Stop}
use Rattle.dg_replay.specs.Shown.{Saw, LeadTo, IsApplied, IsEnding, StaysSeen, Shows, going_on, ended_saw}
use Rattle.dg_replay.specs.Stages.{Told, boards_told}
use Rattle.dg_replay.specs.declared.stop.Stop.TheVariants.{Memory, BadInput, WriteFault, FlashFault, TooMany, NoBoard, NoImage, NotAVolume}
use Rattle.dg_replay.proofs.ItemLemmas.{items_run_none, items_run_one, items_run_join, played_one, declared_same, step_counts}
use Rattle.dg_replay.proofs.ShownLemmas.{stays_same, shows_none, shows_same, shows_then, shows_join, end_more}
use Rattle.dg_world.proofs.EndureLemmas.{boards_through, board_stops, event_within, sites_same, other_than, stands_next, standing_awake}

-- ---- the boards after an event

-- an event at which a board stopped was not one too many
pub not_full : (r : Result (Unit {0}) WorldFault) (board n : ℕ) → r ≡ Err (Flash board) → n ≤ most_events → (n ≡ most_events → (r ≡ Err TooManyFault) ⊎ (r ≡ Err MemoryFault)) → n < most_events
not_full r board n is few full = less n most_events few (λ e. ⊎_elim (λ x. differs (sym is ∙ x)) (λ x. lacks (sym is ∙ x)) (full e))
  where
    less : (k m : ℕ) → k ≤ m → k ≢ m → k < m
    less k m h other = omega arith

    differs : ◌≡◌ {A = Result (Unit {0}) WorldFault} (Err (Flash board)) (Err TooManyFault) → ⊥
    differs e = cc

    lacks : ◌≡◌ {A = Result (Unit {0}) WorldFault} (Err (Flash board)) (Err MemoryFault) → ⊥
    lacks e = cc

-- an event that found no image was not one too many
pub image_not_full : (r : Result (Unit {0}) WorldFault) (n : ℕ) → r ≡ Err NoImageFault → n ≤ most_events → (n ≡ most_events → r ≡ Err TooManyFault) → n < most_events
image_not_full r n is few full = less n most_events few (λ e. differs (sym is ∙ full e))
  where
    less : (k m : ℕ) → k ≤ m → k ≢ m → k < m
    less k m h other = omega arith

    differs : ◌≡◌ {A = Result (Unit {0}) WorldFault} (Err NoImageFault) (Err TooManyFault) → ⊥
    differs e = cc

flash_next : (u : World) (x : Step) (reported : Bool) (more : List Item) (board : ℕ) (initial old new : List Device) → u.events < most_events → mote_of x.event < length u.sites → FlashAt u x board old new → WorldStands u initial old → StopsInItem u (Applies x reported ∷ more) initial new
flash_next u x reported more board initial old new few within f b =
    record {
      stopped = board_stops (length u.sites) board initial old new f.before f.after (omega (arith, f.at, within)) b.all f.was f.is f.stopped (f.boards.counts board f.before f.after f.was f.is) f.cause;
      there = record {
        few = few;
        at = f.at;
        there = record { done = f.done; within = f.within; uncut = f.uncut; leaves = f.leaves };
        others = record {
          all = boards_through initial old new b.all f.boards.count f.boards.endures;
          stands = λ m d inside other is. b.stands m d inside (sym (f.boards.others m other) ∙ is);
          came = b.came;
          others = λ m past. f.boards.others m (other_than m board (length u.sites) (omega (arith, f.at, within)) past) ∙ b.others m past;
        };
      };
    }

-- ---- one item

err_is : (x y : Stop) → ◌≡◌ {A = Result (Unit {0}) Stop} (Err x) (Err y) → x ≡ y
err_is x y e = cc

-- nothing was played, and P holds of the world and of all items
begun_none : (w : World) (items : List Item) (F : Saw) (G : Option World → List Item → Saw) (P : World → List Item → List ℕ → Type 0) → w.events ≤ most_events → StaysSeen F (G (Some w) items) → P w items [] → ItemsBegun w items F G P
begun_none w items F G P few stays there =
    record { begun = []; left = items; parts = refl; world = w; text = []; runs = items_run_none w few; shown = shows_none F (G (Some w) items) w stays; there = there }

-- all was played, and P holds of the world then
begun_all : (w v : World) (items : List Item) (text : List ℕ) (F : Saw) (G : Option World → List Item → Saw) (P : World → List Item → List ℕ → Type 0) → (runs : ItemsRun w items v text) → Shows F (G (Some v) []) w runs.played → P v [] text → ItemsBegun w items F G P
begun_all w v items text F G P runs shown there =
    record { begun = items; left = []; parts = sym (append-nil items); world = v; text = text; runs = runs; shown = shown; there = there }

pub played_none : (w : World) (kept : KeptWorld) (initial now : List Device) (told : Told) → IsWorld kept now w → WorldStands w initial now → ItemsPlayed w [] kept initial now told told
played_none w kept initial now told is stands =
    record { world = w; text = []; runs = items_run_none w is.few_events; kept_now = is; boards = stands; report_now = sym (append-nil told.text); shown = shows_same told.saw w }

-- a world in which the step may be applied
abbrev MayStep : KeptWorld → List Device → Step → Type 0
MayStep k old x = (z : World) × IsWorld k old z × StepInRange (length z.sites) x

step_within : (k : KeptWorld) (old : List Device) (w : World) (x : Step) → IsWorld k old w → MayStep k old x → mote_of x.event < length w.sites
step_within k old w x is (z, at, fits) = subst (λ (n : ℕ). mote_of x.event < n) (sites_same k old z w at is) (event_within (length z.sites) x.event fits.event)

-- what was played
abbrev pub applied_one : {w : World} {x : Step} {reported : Bool} {a b : Deployment} → Applied w x reported a b → (reports : List Report) → Played
applied_one {w} {x} {reported} a reports = played_one w a.world (Applies x reported) reports

abbrev pub applied_runs : (w : World) (x : Step) (reported : Bool) (v v2 : KeptWorld) (old new : List Device) (before reports : List Report) → before ≡ [] → (a : Applied w x reported (deployed v old before) (deployed v2 new reports)) → ItemsRun w (Applies x reported ∷ []) a.world (report_text reports)
applied_runs w x reported v v2 old new before reports none a =
    let told : reports ≡ filter (is_reported reported) a.reports = a.report_now ∙ ap (λ (rs : List Report). rs ++ filter (is_reported reported) a.reports) none in
    items_run_one w a.world (Applies x reported) reports (a.reports, a.step, told) a.stood.few_events

applied_stands : (w : World) (x : Step) (reported : Bool) (v v2 : KeptWorld) (initial old new : List Device) (before reports : List Report) → MayStep v old x → IsWorld v old w → WorldStands w initial old → (a : Applied w x reported (deployed v old before) (deployed v2 new reports)) → WorldStands a.world initial new
applied_stands w x reported v v2 initial old new before reports may is stands a =
    stands_next w a.world v2 (mote_of x.event) initial old new (step_within v old w x is may) (step_counts w a.world x a.reports a.step).sites a.stood a.boards a.calm stands

-- an event was applied, and reported
applied_played : (w : World) (x : Step) (reported : Bool) (v v2 : KeptWorld) (initial old new : List Device) (before reports : List Report) (report_before told : Told) → before ≡ [] → MayStep v old x → (a : Applied w x reported (deployed v old before) (deployed v2 new reports))
    → Shows report_before.saw told.saw w (applied_one a reports ∷ []) → told.text ≡ report_before.text ++ report_text reports → IsWorld v old w → WorldStands w initial old → ItemsPlayed w (Applies x reported ∷ []) v2 initial new report_before told
applied_played w x reported v v2 initial old new before reports report_before told none may a shown is_reported is stands =
    record {
      world = a.world;
      text = report_text reports;
      runs = applied_runs w x reported v v2 old new before reports none a;
      kept_now = a.stood;
      boards = applied_stands w x reported v v2 initial old new before reports may is stands a;
      report_now = is_reported;
      shown = shown;
    }

-- it was applied, and there was no memory to report it
pub applied_untold : (w : World) (x : Step) (reported : Bool) (v v2 : KeptWorld) (initial old new : List Device) (before reports : List Report) (F G : Saw) → before ≡ [] → MayStep v old x → (a : Applied w x reported (deployed v old before) (deployed v2 new reports)) → Shows F G w (applied_one a reports ∷ []) → IsWorld v old w → WorldStands w initial old
    → ItemsBegun w (Applies x reported ∷ []) F (going_on G) (λ u left text. WorldStands u initial new)
applied_untold w x reported v v2 initial old new before reports F G none may a shown is stands =
    begun_all w a.world (Applies x reported ∷ []) (report_text reports) F (going_on G) (λ u left text. WorldStands u initial new) (applied_runs w x reported v v2 old new before reports none a) shown (applied_stands w x reported v v2 initial old new before reports may is stands a)

-- there was no memory to apply it
pub nothing_applied : (w : World) (items : List Item) (v : KeptWorld) (initial old new : List Device) (F G : Saw) → IsWorld v old w → new ≡ old → StaysSeen F G → WorldStands w initial old → ItemsBegun w items F (going_on G) (λ u left text. WorldStands u initial new)
nothing_applied w items v initial old new F G is same stays stands =
    begun_none w items F (going_on G) (λ u left text. WorldStands u initial new) is.few_events stays (subst (λ (ds : List Device). WorldStands w initial ds) (sym same) stands)

-- it was one too many
pub not_applied : (w : World) (x : Step) (reported : Bool) (v : KeptWorld) (initial old new : List Device) (report_before told : Told) → IsWorld v old w → w.events ≡ most_events → new ≡ old → told.text ≡ report_before.text → StaysSeen report_before.saw told.saw → WorldStands w initial old
    → ItemsBegun w (Applies x reported ∷ []) report_before.saw (going_on told.saw) (λ u left text. IsOneTooMany u left × WorldStands u initial new × (told.text ≡ report_before.text ++ text))
not_applied w x reported v initial old new report_before told is full same untold stays stands =
    begun_none w (Applies x reported ∷ []) report_before.saw (going_on told.saw) (λ u left text. IsOneTooMany u left × WorldStands u initial new × (told.text ≡ report_before.text ++ text)) is.few_events stays
    (record { full = full; next = record { step = x; reported = reported; more = []; is = refl } }, subst (λ (ds : List Device). WorldStands w initial ds) (sym same) stands, untold ∙ sym (append-nil report_before.text))

-- a board stopped in it
pub stopped_in : (w : World) (x : Step) (reported : Bool) (v : KeptWorld) (board : ℕ) (initial old new : List Device) (report_before told : Told) → MayStep v old x → IsWorld v old w → w.events < most_events → FlashAt w x board old new → told.text ≡ report_before.text → StaysSeen report_before.saw told.saw → WorldStands w initial old
    → ItemsBegun w (Applies x reported ∷ []) report_before.saw (going_on told.saw) (λ u left text. StopsInItem u left initial new × (told.text ≡ report_before.text ++ text))
stopped_in w x reported v board initial old new report_before told may is few f untold stays stands =
    begun_none w (Applies x reported ∷ []) report_before.saw (going_on told.saw) (λ u left text. StopsInItem u left initial new × (told.text ≡ report_before.text ++ text)) is.few_events stays
    (flash_next w x reported [] board initial old new few (step_within v old w x is may) f stands, untold ∙ sym (append-nil report_before.text))

-- it found no image to start
ended_stands : (w : World) (x : Step) (v : KeptWorld) (initial old new : List Device) → MayStep v old x → IsWorld v old w → (e : RunEnded w x old new) → WorldStands w initial old → WorldStands e.world initial new
ended_stands w x v initial old new may is e b =
    let within : mote_of x.event < length w.sites = step_within v old w x is may in
    let count : length e.world.sites ≡ length w.sites = ap (λ (u : World). length u.sites) e.ends.world ∙ length-set w.sites (mote_of x.event) _ in
    record {
      all = boards_through initial old new b.all e.boards.count e.boards.endures;
      calm = AreSteady_then initial old new b.all.count b.calm e.calm;
      stands = e.stood;
      came = λ m d inside is_there. b.came m d (omega (arith, inside, count)) is_there;
      others = λ m past.
          let far : length w.sites ≤ m = omega (arith, past, count) in
          e.boards.others m (other_than m (mote_of x.event) (length w.sites) within far) ∙ b.others m far;
    }

pub ended_in : (w : World) (x : Step) (reported : Bool) (v : KeptWorld) (initial old new : List Device) (text : List ℕ) (F G : Saw) → MayStep v old x → IsWorld v old w → RunEnded w x old new → Shows F (ended_saw G (Some w) (Applies x reported ∷ [])) w [] → WorldStands w initial old
    → ItemsBegun w (Applies x reported ∷ []) F (ended_saw G) (λ u left t. LacksImage u left initial new × (text ≡ text ++ t))
ended_in w x reported v initial old new text F G may is e shown stands = record {
  begun = [];
  left = Applies x reported ∷ [];
  parts = refl;
  world = w;
  text = [];
  runs = items_run_none w is.few_events;
  shown = shown;
  there = (
    record { next = record { step = x; reported = reported; more = []; is = refl }; after = e.world; ends = e.ends; boards = ended_stands w x v initial old new may is e stands },
    sym (append-nil text),
  );
}

-- which a watcher was shown as the end
pub ended_shown : (w : World) (event : Event) (cut : Option PowerCut) (reported : Bool) (v : KeptWorld) (initial old new : List Device) (F : List Device → Saw) (G : Saw) → MayStep v old (step_of event cut) → IsWorld v old w → WorldStands w initial old → w.events < most_events → RunEnded w (step_of event cut) old new
    → ((stores : List Store) (events : List Played) (u : World) → LeadTo stores events u → (x : IsEnding u event new) → (F x.before).events stores events → G.ended stores events u (step_of event x.cut)) → Shows (F old) (ended_saw G (Some w) (Applies (step_of event cut) reported ∷ [])) w []
ended_shown w event cut reported v initial old new F G may is stands few e ended = λ stores events lead f.
    let awake : AreAwake (length e.world.sites) new = standing_awake e.world initial new (ended_stands w (step_of event cut) v initial old new may is e stands) in
    subst (λ (es : List Played). G.ended stores es w (step_of event cut)) (sym (append-nil events)) (ended stores events w lead (record { few = few; cut = cut; after = e.world; ends = e.ends; stand = e.stood; awake = awake; before = old; one = e.boards; calm = e.calm; made = e.made }) f)

-- it was applied, and this is the outcome of reporting it
pub told_as : (r : Result (Unit {0}) Stop) (w : World) (x : Step) (reported : Bool) (v v2 : KeptWorld) (initial old new : List Device) (before reports : List Report) (report_before told : Told) → before ≡ [] → MayStep v old x → (a : Applied w x reported (deployed v old before) (deployed v2 new reports)) → Shows report_before.saw told.saw w (applied_one a reports ∷ [])
    → OnOk r (told.text ≡ report_before.text ++ report_text reports) → OnErr r (r ≡ Err Memory) → IsWorld v old w → WorldStands w initial old → ItemsPlayedAs r w (Applies x reported ∷ []) v2 initial report_before (boards_told new told)
told_as (Ok u) w x reported v v2 initial old new before reports report_before told none may a shown is_reported memory is stands = applied_played w x reported v v2 initial old new before reports report_before told none may a shown is_reported is stands
told_as (Err stop) w x reported v v2 initial old new before reports report_before told none may a shown is_reported memory is stands =
    let same : stop ≡ Memory = err_is stop Memory memory in
    subst (λ (e : Stop). ItemsPlayedAs (Err e) w (Applies x reported ∷ []) v2 initial report_before (boards_told new told)) (sym same) (applied_untold w x reported v v2 initial old new before reports report_before.saw told.saw none may a shown is stands)

-- which a watcher was shown
pub applied_shown : (w : World) (event : Event) (cut : Option PowerCut) (reported : Bool) (v v2 : KeptWorld) (initial old new : List Device) (before reports shown : List Report) (F : List Device → Saw) (G : Saw) → before ≡ [] → shown ≡ reports → MayStep v old (step_of event cut) → IsWorld v old w → WorldStands w initial old
    → (done : ApplyDone (Ok tt) (step_of event cut) reported (deployed v old before) (deployed v2 new reports)) → (a : Applied w (step_of event cut) reported (deployed v old before) (deployed v2 new reports))
    → ((stores : List Store) (events : List Played) (p : Played) → LeadTo stores events p.before → (x : IsApplied p event reported (deployed v2 new shown)) → (F x.before.boards).events stores events → G.events stores (events ++ p ∷ [])) → Shows (F old) G w (applied_one a reports ∷ [])
applied_shown w event cut reported v v2 initial old new before reports shown F G none same may is stands done a applied = λ stores events lead f.
    let told : reports ≡ filter (is_reported reported) a.reports = a.report_now ∙ ap (λ (rs : List Report). rs ++ filter (is_reported reported) a.reports) none in
    let there : IsApplied (applied_one a reports) event reported (deployed v2 new shown) = record {
      cut = cut;
      item = refl;
      told = sym same;
      step = (a.reports, a.step, told);
      few = a.stood.few_events;
      before = deployed v old before;
      was = is;
      none = none;
      stands = a.stood;
      awake = standing_awake a.world initial new (applied_stands w (step_of event cut) reported v v2 initial old new before reports may is stands a);
      done = subst (λ (rs : List Report). ApplyDone (Ok tt) (step_of event cut) reported (deployed v old before) (deployed v2 new rs)) (sym same) done;
    } in
    applied stores events (applied_one a reports) lead there f

-- the world that is kept after an event
pub goes_on : (r : Result (Unit {0}) Stop) (k k2 : KeptWorld) (old new : List Device) → ((w : World) → IsWorld k old w → (u : World) × IsWorld k2 new u × (length u.sites ≡ length w.sites)) → KeepsMotes r k k2 old new
goes_on (Ok u) k k2 old new goes = goes
goes_on (Err stop) k k2 old new goes = tt

pub applied_goes : (w : World) (x : Step) (reported : Bool) (v v2 : KeptWorld) (old new : List Device) (before reports : List Report) → Applied w x reported (deployed v old before) (deployed v2 new reports) → (u : World) × IsWorld v2 new u × (length u.sites ≡ length w.sites)
applied_goes w x reported v v2 old new before reports a = (a.world, a.stood, (step_counts w a.world x a.reports a.step).sites)

-- ---- declarations

-- a row was declared, and the boards are as before
declared_stands : (w z : World) (row : Row) (reports : List Report) (v2 : KeptWorld) (initial now : List Device) → DeclareStep w row z reports → IsWorld v2 now z → WorldStands w initial now → WorldStands z initial now
declared_stands w z row reports v2 initial now step kept b =
    let same = (declared_same w z row reports step).sites in
    record {
      all = b.all;
      calm = b.calm;
      stands = λ m x within is. (kept.sites m x within is).stands;
      came = λ m x within is. b.came m x (omega (arith, within, same)) is;
      others = λ m past. b.others m (omega (arith, past, same));
    }

pub declared_played : (w z : World) (row : Row) (reports : List Report) (v2 : KeptWorld) (initial now : List Device) (report_before told : Told) → DeclareStep w row z reports → IsWorld v2 now z → told.text ≡ report_before.text ++ report_text reports → StaysSeen report_before.saw told.saw → WorldStands w initial now
    → ItemsPlayed w (Declares row ∷ []) v2 initial now report_before told
declared_played w z row reports v2 initial now report_before told step kept is_reported stays b =
    record {
      world = z;
      text = report_text reports;
      runs = items_run_one w z (Declares row) reports step kept.few_events;
      kept_now = kept;
      boards = declared_stands w z row reports v2 initial now step kept b;
      report_now = is_reported;
      shown = shows_none report_before.saw told.saw w stays;
    }

-- it was declared with another name or content, and this is the outcome of reporting it
pub taken_as : (r : Result (Unit {0}) Stop) (w : World) (row : Row) (v2 : KeptWorld) (initial now : List Device) (reports : List Report) (report_before told : Told) → DeclareStep w row w reports → OnOk r (told.text ≡ report_before.text ++ report_text reports) → OnErr r (r ≡ Err Memory) → StaysSeen report_before.saw told.saw
    → IsWorld v2 now w → WorldStands w initial now → ItemsPlayedAs r w (Declares row ∷ []) v2 initial report_before (boards_told now told)
taken_as (Ok u) w row v2 initial now reports report_before told step is_reported memory stays is stands = declared_played w w row reports v2 initial now report_before told step is is_reported stays stands
taken_as (Err stop) w row v2 initial now reports report_before told step is_reported memory stays is stands =
    let same : stop ≡ Memory = err_is stop Memory memory in
    subst (λ (e : Stop). ItemsPlayedAs (Err e) w (Declares row ∷ []) v2 initial report_before (boards_told now told)) (sym same) (begun_none w (Declares row ∷ []) report_before.saw (going_on told.saw) (λ u left text. WorldStands u initial now) is.few_events stays stands)

-- a row was declared that is not taken: nothing is reported
pub declared_step : (o : Option Row) (w : World) (row : Row) → row_at w.declared row.image row.version ≡ o → is_taken o row ≡ false → DeclareStep w row (declared_as o w row) []
declared_step o w row e free =
    record {
      world = ap (λ (x : Option Row). declared_as x w row) (sym e);
      told = sym (ap (λ (x : Option Row). declared_lines x row) e ∙ untold o free);
    }
  where
    untold : (x : Option Row) → is_taken x row ≡ false → declared_lines x row ≡ []
    untold None free = refl
    untold (Some k) free = ap (λ (b : Bool). if b then report.Taken row.image row.version ∷ [] else []) free

-- ---- items after others

next_more : (left more : List Item) → EventNext left → EventNext (left ++ more)
next_more left more n = record { step = n.step; reported = n.reported; more = n.more ++ more; is = ap (λ (xs : List Item). xs ++ more) n.is }

lacks_more : (left more : List Item) (w : World) (initial now : List Device) → LacksImage w left initial now → LacksImage w (left ++ more) initial now
unfolding next_more
lacks_more left more w initial now h = record { next = next_more left more h.next; after = h.after; ends = h.ends; boards = h.boards }

stops_more : (left more : List Item) (w : World) (board : ℕ) (image : List ℕ) (old new : List Device) → ItemStops left (Some w) board image old new → ItemStops (left ++ more) (Some w) board image old new
stops_more [] more w board image old new h = absurd h
stops_more (Declares row ∷ left) more w board image old new h = absurd h
stops_more (Applies x reported ∷ left) more w board image old new h = h

begun_later : (w u : World) (xs ys more whole : List Item) (before : List ℕ) (F G : Saw) (H : Option World → List Item → Saw) (P Q : World → List Item → List ℕ → Type 0) → (a : ItemsRun w xs u before) → Shows F G w a.played → ItemsBegun u ys G H P → whole ≡ xs ++ (ys ++ more)
    → ((v : World) (left : List Item) → StaysSeen (H (Some v) left) (H (Some v) (left ++ more))) → ((v : World) (left : List Item) (text : List ℕ) → P v left text → Q v (left ++ more) (before ++ text)) → ItemsBegun w whole F H Q
begun_later w u xs ys more whole before F G H P Q a shown b is keeps f =
    record {
      begun = xs ++ b.begun;
      left = b.left ++ more;
      parts = is ∙ ap (λ (zs : List Item). xs ++ zs) (ap (λ (zs : List Item). zs ++ more) b.parts ∙ append_assoc b.begun b.left more) ∙ sym (append_assoc xs b.begun (b.left ++ more));
      world = b.world;
      text = before ++ b.text;
      runs = items_run_join w u b.world xs b.begun before b.text a b.runs;
      shown = shows_join F G (H (Some b.world) (b.left ++ more)) w u a.played b.runs.played shown a.run (shows_then G (H (Some b.world) b.left) (H (Some b.world) (b.left ++ more)) u b.runs.played b.shown (keeps b.world b.left));
      there = f b.world b.left b.text b.there;
    }

-- one part played after another
pub played_join : (w : World) (xs ys : List Item) (k k2 : KeptWorld) (initial mid now : List Device) (t0 t1 t2 : Told) (a : ItemsPlayed w xs k initial mid t0 t1) → ItemsPlayed a.world ys k2 initial now t1 t2 → ItemsPlayed w (xs ++ ys) k2 initial now t0 t2
played_join w xs ys k k2 initial mid now t0 t1 t2 a b =
    record {
      world = b.world;
      text = a.text ++ b.text;
      runs = items_run_join w a.world b.world xs ys a.text b.text a.runs b.runs;
      kept_now = b.kept_now;
      boards = b.boards;
      report_now = b.report_now ∙ ap (λ (t : List ℕ). t ++ b.text) a.report_now ∙ append_assoc t0.text a.text b.text;
      shown = shows_join t0.saw t1.saw t2.saw w a.world a.runs.played b.runs.played a.shown a.runs.run b.shown;
    }

-- one part was played, and another stopped
pub stopped_later : (stop : Stop) (w : World) (xs ys more whole : List Item) (k k2 : KeptWorld) (initial mid now : List Device) (t0 t1 t2 : Told) (a : ItemsPlayed w xs k initial mid t0 t1) → ItemsPlayedAs (Err stop) a.world ys k2 initial t1 (boards_told now t2)
    → whole ≡ xs ++ (ys ++ more) → ItemsPlayedAs (Err stop) w whole k2 initial t0 (boards_told now t2)
unfolding next_more
stopped_later Memory w xs ys more whole k k2 initial mid now t0 t1 t2 a b is =
    begun_later w a.world xs ys more whole a.text t0.saw t1.saw (going_on t2.saw) (λ v left text. WorldStands v initial now) (λ v left text. WorldStands v initial now) a.runs a.shown b is (λ v left. stays_same t2.saw) (λ v left text h. h)
stopped_later TooMany w xs ys more whole k k2 initial mid now t0 t1 t2 a b is =
    begun_later w a.world xs ys more whole a.text t0.saw t1.saw (going_on t2.saw) (λ v left text. IsOneTooMany v left × WorldStands v initial now × (t2.text ≡ t1.text ++ text)) (λ v left text. IsOneTooMany v left × WorldStands v initial now × (t2.text ≡ t0.text ++ text)) a.runs a.shown b is
    (λ v left. stays_same t2.saw) (λ v left text h. (record { full = h.0.full; next = next_more left more h.0.next }, h.1, h.2 ∙ ap (λ (t : List ℕ). t ++ text) a.report_now ∙ append_assoc t0.text a.text text))
stopped_later FlashFault w xs ys more whole k k2 initial mid now t0 t1 t2 a b is =
    begun_later w a.world xs ys more whole a.text t0.saw t1.saw (going_on t2.saw) (λ v left text. StopsInItem v left initial now × (t2.text ≡ t1.text ++ text)) (λ v left text. StopsInItem v left initial now × (t2.text ≡ t0.text ++ text)) a.runs a.shown b is
    (λ v left. stays_same t2.saw) (λ v left text h. (record { stopped = h.0.stopped; there = stops_more left more v h.0.stopped.board h.0.stopped.after.image initial now h.0.there }, h.1 ∙ ap (λ (t : List ℕ). t ++ text) a.report_now ∙ append_assoc t0.text a.text text))
stopped_later NoImage w xs ys more whole k k2 initial mid now t0 t1 t2 a b is =
    begun_later w a.world xs ys more whole a.text t0.saw t1.saw (ended_saw t2.saw) (λ v left text. LacksImage v left initial now × (t2.text ≡ t1.text ++ text)) (λ v left text. LacksImage v left initial now × (t2.text ≡ t0.text ++ text)) a.runs a.shown b is
    (λ v left. end_more t2.saw v left more) (λ v left text h. (lacks_more left more v initial now h.0, h.1 ∙ ap (λ (t : List ℕ). t ++ text) a.report_now ∙ append_assoc t0.text a.text text))
stopped_later NotAVolume w xs ys more whole k k2 initial mid now t0 t1 t2 a b is = absurd b
stopped_later (NoBoard motes boards) w xs ys more whole k k2 initial mid now t0 t1 t2 a b is = absurd b
stopped_later (BadInput n fault) w xs ys more whole k k2 initial mid now t0 t1 t2 a b is = absurd b
stopped_later WriteFault w xs ys more whole k k2 initial mid now t0 t1 t2 a b is = absurd b
