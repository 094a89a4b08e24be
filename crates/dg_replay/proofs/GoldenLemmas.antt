-- What is promised of a script with golden, by where its run begins.
use Rattle.std.proofs.Common.{◌≡◌, ℕ, ◌≤◌, Bool, false, inl, inr, List, [], ◌∷◌, ◌++◌, length, map, drop, refl, ap, sym, ◌∙◌, subst}
use Rattle.std.proofs.lemmas.List.{map-append}
use Rattle.std.specs.Prelude.{Option, Some, None}
use Rattle.std.specs.List.{AllByRecursion}
use Rattle.dg_object.specs.Object.{Row}
use Rattle.dg_volume.specs.Store.{Store}
use Rattle.dg_base.specs.declared.events.Event.{Event}
use Rattle.dg_base.specs.declared.events.Event.TheVariants.{Tick, Hear, Last, Reset, Inject, Order, Frame}
use Rattle.dg_base.specs.declared.events.Step.{Step}
use Rattle.dg_script.specs.Places.{first_place, place_after}
use Rattle.dg_script.specs.Script.{Script}
use Rattle.dg_script.proofs.SpelledLemmas.{IsSpelled, is_spelled}
use Rattle.dg_script.specs.declared.place.Place.{Place}
use Rattle.dg_script.specs.declared.line.Line.{Line}
use Rattle.dg_script.specs.declared.line.Line.TheVariants.{Nothing, Motes, Golden, Boards, Link, Narrow, Image, Cut, Happens as EventLine, Round, Sweeps}
use Rattle.dg_rules.specs.World.{World, first_world}
use Rattle.dg_script.specs.Ranges.{EventInRange}
use Rattle.dg_rounds.specs.Rounds.{round, sweep, times}
use Rattle.dg_rules.specs.Premises.{ItemInRange, HonestEvent, HonestItem, IsHonestThen}
use Rattle.dg_rules.specs.Runs.{Played}
use Rattle.dg_rules.specs.Events.{Goes, does}
use Rattle.dg_rules.specs.Golden.{GoldenNetwork, network_world, PlaysGolden, FindsImage}
use Rattle.dg_rules.specs.Begins.{PlaysFrom, StoresAgree, AreShaped, HoldsTo, HoldsToThen, PlaysBoards}
use Rattle.dg_rules.specs.Promises.{StopsAgree}
use Rattle.dg_script.specs.Items.{Item, Applies, item_by, place_behind, items_behind, items_of}
use Rattle.dg_replay.specs.Items.{StartState, UsesBoards, IsNoFrame, Beginning, beginning_of, next_items}
use Rattle.dg_replay.specs.inner.Words.{no_beginning}
use Rattle.dg_completion.specs.Completion.{IsEnough}
use Rattle.dg_completion.specs.Ends.{EndsInRest, PagesCome, KeepsNewest, EndsLaw, EndsPipelineLaw}
use Rattle.dg_completion.proofs.GrowLemmas.{all_append, all_times}
use Rattle.dg_replay.specs.Ending.{script_of}
use Rattle.dg_replay.specs.Replayed.{Progress, RunsTo, item_played}
use Rattle.dg_replay.specs.Promised.{PlayedFirst, FramesAreHonest}
use Rattle.dg_replay.specs.Boards.{LacksImage, InSome}
use Rattle.dg_replay.specs.Playing.{LineBegun, RunsFrom}
use Rattle.dg_replay.specs.Replaying.{Reached, TextRead}
use Rattle.dg_replay.specs.Shown.{Saw}
use Rattle.dg_replay.specs.Stages.{line_told, span}
use Rattle.dg_replay.specs.declared.player.Player.{Player}
use Rattle.dg_replay.proofs.ItemLemmas.{motes_same, runs_append}
use Rattle.dg_nor.specs.Device.{Device}
use Rattle.dg_replay.proofs.FirstLemmas.{run_or, first_run}
use Rattle.dg_replay.proofs.GoldenRuns.{ByBoards, all_front, ScriptRun, GoldenRun, ran_network, BoardsRun, script_run, golden_of, boards_of, golden_run}
use Rattle.dg_replay.proofs.LineRanges.{LinesFit, script_fits, front_fits, rest_fits, one_fits, HoldsOver, round_all, sweep_all, quiet_all}

pub script_of_fits : (input : List ℕ) → LinesFit first_place (script_of input).lines
unfolding script_of
script_of_fits input = script_fits _ first_place 1 _

-- what is played over honest frames is played from a world that agrees with its table, with true events
abbrev pub GoldenWay : Type 0
GoldenWay = (g : GoldenNetwork) (played : List Played) (v : World) → PlaysGolden g played v
    → AllByRecursion IsHonestThen played → PlaysFrom (network_world g) played v

-- the same of events that hold to a table, over boards that agree with it
abbrev pub BoardsWay : Type 0
BoardsWay = (table : List Row) (stores : List Store) (links : List (ℕ × ℕ)) (narrow : List Bool) (played : List Played) (v : World) → PlaysBoards table stores links narrow played v
    → StoresAgree table stores → AllByRecursion (HoldsToThen table) played → PlaysFrom (first_world table links narrow stores) played v

pub record Ways : Type 0 where
  pub golden : GoldenWay
  pub boards : BoardsWay

-- it is played from some world
record FromSome (played : List Played) (v : World) : Type 0 where
  first : World
  from : PlaysFrom first played v

pub boards_ground : {table : List Row} (input : List ℕ) (c : Progress table (script_of input)) → UsesBoards c.done → (length c.ground.stores ≡ (beginning_of c.ground c.done).motes) × AreShaped c.ground.stores
boards_ground {table} input c uses =
    let there = c.grounded uses in
    (there.count ∙ motes_same _ c.ground no_beginning no_beginning c.done refl, there.shaped)

module _ {table : List Row} (input : List ℕ) (c : Progress table (script_of input)) where
  fits_all : LinesFit first_place (c.done ++ c.rest)
  fits_all = subst (LinesFit first_place) (sym c.lines) (script_of_fits input)

  run_at : (v : World) → c.last ≡ Some v → ScriptRun c.ground c.done (beginning_of c.ground c.done) c.left c.played v
  run_at v is =
      script_run c.ground c.done c.rest c.begun c.left c.played v (front_fits first_place c.done c.rest fits_all) (rest_fits first_place c.done c.rest fits_all) c.parts c.items
      (subst (λ (o : Option World). RunsTo (beginning_of c.ground c.done).world c.played o) is c.run)

  boards_at : (left : List Item) (played : List Played) (v : World) (r : ScriptRun c.ground c.done (beginning_of c.ground c.done) left played v) → ByBoards c.ground c.done r.table r.stores → BoardsRun c.ground (beginning_of c.ground c.done) left played v
  boards_at left played v r by =
      let there = boards_ground input c by.uses in
      boards_of c.ground c.done (beginning_of c.ground c.done) left played v r by there.0 there.1

  pub golden_at_end : (UsesBoards c.done → ⊥) → (v : World) → c.last ≡ Some v → GoldenRun (beginning_of c.ground c.done) c.left c.played v
  golden_at_end alone v is =
      let r = run_at v is in elim r.opens [ inl by ↦ golden_of c.ground c.done (beginning_of c.ground c.done) c.left c.played v r by | inr by ↦ absurd (alone by.uses) ]

  module _ (f : PlayedFirst c) where
    from_at : Ways → FramesAreHonest f → (v : World) → f.last ≡ Some v → FromSome f.played v
    from_at ways honest v is =
        let r = first_run input c f run_at v is in
        let left : List Item = map item_played f.rest ++ c.left in
        elim r.opens [
          | inl by ↦
              let run = golden_of c.ground c.done (beginning_of c.ground c.done) left f.played v r by in
              record { first = _; from = ways.golden (ran_network run) f.played v run.plays honest.frames }
          | inr by ↦
              let run = boards_at left f.played v r by in
              record { first = _; from = ways.boards c.ground.table c.ground.stores run.links run.narrow f.played v run.plays (honest.agree by.uses) (honest.hold by.uses) }
        ]

    -- what holds of all that is played from a world that agrees, and of nothing, holds of what was played first of a script over honest frames
    pub honest_worlds : Ways → (P : List Played → Option World → Type 0) → P [] None → ((u v : World) (played : List Played) → PlaysFrom u played v → P played (Some v)) → FramesAreHonest f → P f.played f.last
    honest_worlds ways P none law honest = run_or (beginning_of c.ground c.done).world f.last f.played f.run P none (λ v is. let x = from_at ways honest v is in law x.first v f.played x.from)

    pub honest_runs : Ways → (P : List Played → Type 0) → P [] → ((u v : World) (played : List Played) → PlaysFrom u played v → P played) → FramesAreHonest f → P f.played
    honest_runs ways P none law honest = honest_worlds ways (λ ps last. P ps) none law honest

    -- if it ends with a rest of enough sweeps
    pub ended_complete : Ways → EndsLaw → (w v : World) (n k : ℕ) → FramesAreHonest f → f.last ≡ Some v → EndsInRest f.played w n v → IsEnough w k → k ≤ n → KeepsNewest v
    ended_complete ways law w v n k honest is ends enough most = let x = from_at ways honest v is in law x.first f.played w v n k x.from ends enough most

    -- if it ends with a rest of any number of sweeps
    pub ended_pipelined : Ways → EndsPipelineLaw → (w v : World) (t : ℕ) → FramesAreHonest f → f.last ≡ Some v → EndsInRest f.played w t v → PagesCome w t v
    ended_pipelined ways law w v t honest is ends = let x = from_at ways honest v is in law x.first f.played w v t x.from ends

-- ---- the next event, wherever it is stopped

pub record HalvesLaws : Type 0 where
  pub golden : (g : GoldenNetwork) (played : List Played) (v : World) (e : Event) → PlaysGolden g played v
      → AllByRecursion IsHonestThen played → EventInRange g.motes e → HonestEvent v.table e → StopsAgree v e
  pub boards : (table : List Row) (stores : List Store) (links : List (ℕ × ℕ)) (narrow : List Bool) (played : List Played) (v : World) (e : Event) → PlaysBoards table stores links narrow played v
      → StoresAgree table stores → AllByRecursion (HoldsToThen table) played → EventInRange (length stores) e → HoldsTo table v e → StopsAgree v e

pub halves_agree : {table : List Row} → HalvesLaws → (input : List ℕ) (c : Progress table (script_of input)) (f : PlayedFirst c) (w : World) (step : Step) (reported : Bool) (more : List Item) → FramesAreHonest f → f.last ≡ Some w
    → map item_played f.rest ++ c.left ≡ Applies step reported ∷ more → HonestEvent w.table step.event → (UsesBoards c.done → HoldsTo c.ground.table w step.event) → StopsAgree w step.event
halves_agree laws input c f w step reported more honest is next here holds =
    let b = beginning_of c.ground c.done in
    let left : List Item = map item_played f.rest ++ c.left in
    let r = first_run input c f (run_at input c) w is in
    elim r.opens [
      | inl by ↦
          let run = golden_of c.ground c.done b left f.played w r by in
          let fits : AllByRecursion (ItemInRange b.motes) (Applies step reported ∷ more) = subst (AllByRecursion (ItemInRange b.motes)) next run.left_fits in
          laws.golden (ran_network run) f.played w step.event run.plays honest.frames fits.0.event here
      | inr by ↦
          let run = boards_at input c left f.played w r by in
          let fits : AllByRecursion (ItemInRange b.motes) (Applies step reported ∷ more) = subst (AllByRecursion (ItemInRange b.motes)) next run.left_fits in
          laws.boards c.ground.table c.ground.stores run.links run.narrow f.played w step.event run.plays (honest.agree by.uses) (honest.hold by.uses)
          (subst (λ (n : ℕ). EventInRange n step.event) (sym (boards_ground input c by.uses).0) fits.0.event) (holds by.uses)
    ]

-- ---- lines that bring no frame from outside

abbrev HonestAlways : Item → Type 0
HonestAlways item = (w : World) → HonestItem item w

event_honest : (event : Event) (table : List Row) → IsNoFrame (EventLine event) → HonestEvent table event
event_honest (Tick mote dt word) table none = tt
event_honest (Hear mote dt word frame) table none = tt
event_honest (Last from to dt word) table none = tt
event_honest (Reset mote dt word) table none = tt
event_honest (Inject mote image version dt word) table none = tt
event_honest (Order mote number image version dt word) table none = tt
event_honest (Frame mote dt word bytes) table none = absurd none

abbrev QuietHonest : Event → Type 0
QuietHonest e = HonestAlways (Applies (record { event = e; cut = None }) false)

quiet_honest : (l : ℕ × ℕ) → HoldsOver QuietHonest l
quiet_honest l = record { near = λ w. tt; far = λ w. tt; there = λ w. tt; back = λ w. tt }

each_honest : (links : List (ℕ × ℕ)) → AllByRecursion (HoldsOver QuietHonest) links
each_honest [] = tt
each_honest (l ∷ links) = (quiet_honest l, each_honest links)

line_honest : (place : Place) (line : Line) → IsNoFrame line → AllByRecursion HonestAlways (item_by place line)
line_honest place Nothing none = tt
line_honest place (Motes n) none = tt
line_honest place (Golden name used content) none = tt
line_honest place Boards none = tt
line_honest place (Link a b) none = tt
line_honest place (Narrow m) none = tt
line_honest place (Image image version name content) none = (λ w. tt, tt)
line_honest place (Cut c) none = tt
line_honest place (EventLine event) none = (λ w. event_honest event w.table none, tt)
line_honest place (Round a b) none = quiet_all HonestAlways (round a b) (round_all QuietHonest (a, b) (quiet_honest (a, b)))
line_honest place (Sweeps n) none = quiet_all HonestAlways (times n (sweep place.links)) (all_times QuietHonest n (sweep place.links) (sweep_all QuietHonest place.links (each_honest place.links)))

items_honest : (place : Place) (lines : List Line) → AllByRecursion IsNoFrame lines → AllByRecursion HonestAlways (items_behind place lines)
unfolding items_behind
items_honest place [] none = tt
items_honest place (line ∷ lines) none =
    all_append HonestAlways (item_by place line) (items_behind (place_after place line) lines) (line_honest place line none.0) (items_honest (place_after place line) lines none.1)

-- A line that was begun, and not done, is a round or sweeps.
one_begun : (item : Item) (begun left : List Item) → item ∷ [] ≡ begun ++ left → (left ≡ [] → begun ≡ []) → begun ≡ []
one_begun item [] left parts within = refl
one_begun item (x ∷ begun) left parts within = within (none_left begun left (ap (λ (xs : List Item). drop 1 xs) parts))
  where
    none_left : (xs ys : List Item) → [] ≡ xs ++ ys → ys ≡ []
    none_left [] ys e = sym e
    none_left (x ∷ xs) ys e = absurd (let f : [] ≡ x ∷ (xs ++ ys) = e in cc)

front_honest : (items begun left : List Item) → items ≡ begun ++ left → AllByRecursion HonestAlways items → AllByRecursion HonestAlways begun
front_honest items begun left parts all = all_front HonestAlways begun left (subst (AllByRecursion HonestAlways) parts all)

line_begun_honest : (place : Place) (line : Line) (begun left : List Item) → item_by place line ≡ begun ++ left → (left ≡ [] → begun ≡ []) → AllByRecursion HonestAlways begun
line_begun_honest place (EventLine event) begun left parts within = subst (AllByRecursion HonestAlways) (sym (one_begun _ begun left parts within)) tt
line_begun_honest place line begun left parts within = front_honest (item_by place line) begun left parts (line_honest place line tt)

begun_honest : (done rest : List Line) (begun left : List Item) → next_items done rest ≡ begun ++ left → (left ≡ [] → begun ≡ []) → AllByRecursion HonestAlways begun
begun_honest done [] begun left parts within = front_honest [] begun left parts tt
begun_honest done (line ∷ rest) begun left parts within = line_begun_honest (place_behind first_place done) line begun left parts within

played_honest : (played : List Played) → AllByRecursion HonestAlways (map item_played played) → AllByRecursion IsHonestThen played
played_honest [] h = tt
played_honest (p ∷ ps) h = (h.0 p.before, played_honest ps h.1)

frames_honest : {table : List Row} (spells : Script) (c : Progress table spells) → AllByRecursion IsNoFrame c.done → AllByRecursion IsHonestThen c.played
frames_honest spells c none =
    played_honest c.played (subst (AllByRecursion HonestAlways) (sym c.items) (all_append HonestAlways (items_of c.done) c.begun (items_honest first_place c.done none) (begun_honest c.done c.rest c.begun c.left c.parts c.within)))

pub progress_honest : {table : List Row} (spells : Script) (c : Progress table spells) → AllByRecursion IsNoFrame c.done → (UsesBoards c.done → ⊥) → (f : PlayedFirst c) → FramesAreHonest f
progress_honest spells c none alone f = record {
  frames = all_front IsHonestThen f.played f.rest (subst (AllByRecursion IsHonestThen) f.parts (frames_honest spells c none));
  agree = λ uses. absurd (alone uses);
  hold = λ uses. absurd (alone uses);
}

-- ---- no event lacks an image

abbrev pub ImageIsFound : Type 0
ImageIsFound = (g : GoldenNetwork) (played : List Played) (v : World) (e : Event) → PlaysGolden g played v → EventInRange g.motes e → FindsImage (does v e)

golden_finds : ImageIsFound → (b : Beginning) (left : List Item) (played : List Played) (u : World) (old new : List Device) → GoldenRun b left played u → LacksImage u left old new → ⊥
golden_finds law b left played u old new g lacks =
    let fits : AllByRecursion (ItemInRange b.motes) (Applies lacks.next.step lacks.next.reported ∷ lacks.next.more) = subst (AllByRecursion (ItemInRange b.motes)) lacks.next.is g.left_fits in
    let finds : FindsImage (does u lacks.next.step.event) = law (ran_network g) played u lacks.next.step.event g.plays fits.0.event in
    let some : FindsImage (Goes lacks.ends.effect) = subst FindsImage lacks.ends.goes finds in
    some lacks.ends.none

line_finds : (G H : Saw) → ImageIsFound → (g : StartState) (done : List Line) (line : Line) (played : List Played) (last world : Option World) (begun left : List Item) (text : List ℕ) (old new : List Device) → (UsesBoards done → ⊥) → LinesFit first_place done → IsSpelled (place_behind first_place done) line → map item_played played ≡ items_of done
    → RunsTo (beginning_of g done).world played last → item_by (place_behind first_place done) line ≡ begun ++ left → RunsFrom last begun world (line_told text G H) → InSome world (λ u. LacksImage u left old new) → ⊥
line_finds G H law ground done line played None world begun left text old new alone fit spelled items run parts runs lacks = subst (λ (o : Option World). InSome o (λ u. LacksImage u left old new)) runs.1 lacks
line_finds G H law ground done line played (Some w) world begun left text old new alone fit spelled items run parts (u, is, now, shown) lacks =
    let more : map item_played (played ++ now.played) ≡ items_of done ++ begun =
    map-append item_played played now.played ∙ ap (λ (xs : List Item). xs ++ map item_played now.played) items ∙ ap (λ (xs : List Item). items_of done ++ xs) now.are in
    let g = golden_run ground done (line ∷ []) begun left (played ++ now.played) u alone fit (one_fits _ line spelled) parts more (runs_append (beginning_of ground done).world w u played now.played run now.run) in
    golden_finds law (beginning_of ground done) left (played ++ now.played) u old new g (subst (λ (o : Option World). InSome o (λ z. LacksImage z left old new)) is lacks)

pub image_found : {table : List Row} {S G : Saw} {H : Option World → List Item → Saw} → ImageIsFound → (ends : Bool) (spells : Script) (texts : List (List ℕ)) (n : ℕ) (p : Player) (initial now : List Device) (before mid : Option (List ℕ)) → LinesFit first_place spells.lines → (r : Reached table ends spells texts n p (span initial now before mid S G)) → (UsesBoards r.done → ⊥)
    → (text : List ℕ) (old new : List Device) → TextRead text p (λ line. LineBegun r.done line r.last G H (λ v left t. InSome v (λ u. LacksImage u left old new))) → ⊥
image_found {G = G} {H = H} law ends spells texts n p initial now before mid fit r alone text old new read =
    let begun = read.there in
    let spelled = subst (λ (place : Place). IsSpelled place read.line) r.stood.place (is_spelled p.place text read.line read.spelled) in
    line_finds G (H begun.world begun.left) law r.ground r.done read.line r.played r.last begun.world begun.begun begun.left begun.text old new alone (front_fits first_place r.done _ (subst (LinesFit first_place) (sym r.lines) fit)) spelled r.items r.run begun.parts begun.runs begun.there
