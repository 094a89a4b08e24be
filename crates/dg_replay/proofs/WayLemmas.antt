-- The steps of a line: it is played where the player stands, then the place moves past it, and what is reported of it is written.
use Rattle.std.proofs.Common.{◌≡◌, ◌≢◌, ◌⊎◌, inl, inr, ℕ, ◌+◌, ◌≤◌, Bool, List, [], ◌++◌, length, Ok, Err, Some, refl, sym, ◌∙◌, subst}
use Rattle.std.specs.Prelude.{Option, Result, OnOk, OnErr}
use Rattle.dg_base.specs.Outside.{Puts, PutsPrefix, Takes, AtEnd}
use Rattle.dg_base.specs.declared.answers.Status.{Status}
use Rattle.dg_base.specs.declared.answers.Status.TheVariants as status
use Rattle.dg_base.specs.declared.events.Cut.{Cut as CutOfPower}
use Rattle.dg_nor.specs.Device.{Device}
use Rattle.dg_object.specs.Object.{Row}
use Rattle.dg_rules.specs.World.{World}
use Rattle.dg_words.specs.Counts.{Rose}
use Rattle.dg_script.specs.Fitting.{FitsLine}
use Rattle.dg_lines.specs.LineReading.{Reading, NextAnswer}
use Rattle.dg_script.specs.Lines.{line_of}
use Rattle.dg_script.specs.Places.{place_after}
use Rattle.dg_script.specs.Sizes.{most_used_bytes}
use Rattle.dg_script.specs.declared.line.Line.{Line}
use Rattle.dg_script.specs.declared.line.Line.TheVariants.{Nothing, Cut}
use Rattle.dg_script.specs.declared.place.Place.{Place}
use Rattle.dg_outside.specs.Outside.{Outside}
use Rattle.dg_replay.specs.Done.{ReplayDone}
use Rattle.dg_replay.specs.Ending.{ending_of, script_of}
use Rattle.dg_replay.specs.Following.{GivenPlayed, NextPlayed, AllAsBefore}
use Rattle.dg_replay.specs.Replayed.{Replayed, IsSeenAs}
use Rattle.dg_replay.specs.Playing.{Stood, PlayedLine, PlayedAs, gone_on}
use Rattle.dg_replay.specs.Replaying.{NotFound, BegunWritten, StopEnds, ScriptReplayed}
use Rattle.dg_replay.specs.declared.halt.Halt.{Halt}
use Rattle.dg_replay.specs.declared.halt.Halt.TheVariants.{Stopped}
use Rattle.dg_replay.specs.declared.player.Player.{Player}
use Rattle.dg_replay.specs.declared.stop.Stop.{Stop}
use Rattle.dg_replay.specs.Shown.{Saw, StaysSeen}
use Rattle.dg_replay.specs.Stages.{based_on, DoneSoFar, done_so_far, Told, told_so_far, boards_told, ReplayState, replay_state, span, failures}
use Rattle.dg_replay.specs.inner.Words.{bytes_taken}
use Rattle.dg_replay.specs.declared.stop.Stop.TheVariants.{Memory, WriteFault}
use Rattle.dg_replay.specs.Untouched.{LineKeepsBytes}
use Rattle.dg_replay.proofs.BytesLemmas.{text_keeps, text_same}
use Rattle.dg_replay.proofs.FollowingLemmas.{TextPlays, given_next}
use Rattle.dg_replay.proofs.RunLemmas.{HeadlineLaw, replay_done, replayed_of}
use Rattle.dg_replay.proofs.SilentLemmas.{nothing_played, cut_played, stop_as}
use Rattle.dg_replay.proofs.TextLemmas.{told_as, begun_as, not_found_as}

-- there is nothing to do in an empty line, or in one whose cut waits for its event
pub waits_played : (table : List Row) (p : Player) (done : List Line) (w : Option World) (line : Line) (told : Told) (initial now : List Device) → (line ≡ Nothing) ⊎ ((cut : CutOfPower) × (line ≡ Cut cut)) → FitsLine p.place.motes line → Stood p done w initial now
    → PlayedLine (based_on table initial) (gone_on p line) (done_so_far done w) line told (boards_told now told)
waits_played table p done w line told initial now (inl is) fits s = subst (λ (x : Line). PlayedLine (based_on table initial) (gone_on p x) (done_so_far done w) x told (boards_told now told)) (sym is) (nothing_played p (gone_on p Nothing) done w told initial now refl refl s)
waits_played table p done w line told initial now (inr (cut, is)) fits s =
    subst (λ (x : Line). PlayedLine (based_on table initial) (gone_on p x) (done_so_far done w) x told (boards_told now told)) (sym is)
    (cut_played p (gone_on p (Cut cut)) done w cut told initial now (subst (λ (x : Line). FitsLine p.place.motes x) is fits) refl refl s)

-- the place moved past a line that was played
pub passed_played : (table : List Row) (p : Player) (place : Place) (done : List Line) (w : Option World) (line passed : Line) (report_before told : Told) (initial now : List Device) → place ≡ place_after p.place passed
    → PlayedLine (based_on table initial) (gone_on p passed) (done_so_far done w) line report_before (boards_told now told) → PlayedLine (based_on table initial) (record p { place = place }) (done_so_far done w) line report_before (boards_told now told)
passed_played table p place done w line passed report_before told initial now behind played = subst (λ (x : Place). PlayedLine (based_on table initial) (record p { place = x }) (done_so_far done w) line report_before (boards_told now told)) (sym behind) played

-- ---- what is played of a text

-- what is promised of a line that is played where the player stands
abbrev pub LinePlays : Result (Unit {0}) Stop → (p q : Player) → Line → (report_before told : Told) → (initial old now : List Device) → Type 0
LinePlays r p q line report_before told initial old now = (table : List Row) (so_far : DoneSoFar) → Stood p so_far.lines so_far.world initial old → PlayedAs (based_on table initial) r q so_far line (boards_told old report_before) (boards_told now told)

-- no line was found
pub text_unread : (stop : Stop) (text : List ℕ) (number : ℕ) (p : Player) (initial old : List Device) (before : Option (List ℕ)) (failed : Type 0) (F : Saw) → NotFound p.place text number stop → TextPlays (Err stop) text number initial (replay_state p old before F) (replay_state p old before F) failed
text_unread stop text number p initial old before failed F missing = (text_same p.place text old old refl, λ table so_far s. not_found_as table stop text number p p so_far.lines so_far.world initial old before failed F missing)

-- a line was played, its place went on, and what is reported of it was written, or a prefix of it
pub text_played : (r : Result (Unit {0}) Stop) (text : List ℕ) (number : ℕ) (p q : Player) (place : Place) (initial old now : List Device) (line passed : Line) (cleared told shown : List ℕ) (before after : Option (List ℕ)) (failed : Type 0) (F G : Saw)
    → line_of p.place text ≡ Ok line → cleared ≡ [] → shown ≡ told → LinePlays (Ok tt) p (gone_on q passed) line (told_so_far cleared F) (told_so_far told G) initial old now → place_after q.place passed ≡ place_after p.place line → place ≡ place_after q.place passed
    → OnOk r (Puts before after shown) → OnErr r (PutsPrefix before after shown × (shown ≢ [])) → OnErr r ((r ≡ Err WriteFault) × failed)
    → LineKeepsBytes p.place line old now → TextPlays r text number initial (replay_state p old before F) (replay_state (record q { place = place }) now after G) failed
text_played r text number p q place initial old now line passed cleared told shown before after failed F G spelled clear same plays behind at ok cut cause kept = (
  text_keeps p.place text line old now spelled kept,
  λ table so_far s.
      let basis = based_on table initial in
      let there : PlayedLine basis (gone_on q passed) so_far line (told_so_far [] F) (boards_told now (told_so_far told G)) = subst (λ (xs : List ℕ). PlayedLine basis (gone_on q passed) so_far line (told_so_far xs F) (boards_told now (told_so_far told G))) clear (plays table so_far s) in
      let to : PlayedLine basis (gone_on q passed) so_far line (told_so_far [] F) (boards_told now (told_so_far shown G)) = subst (λ (xs : List ℕ). PlayedLine basis (gone_on q passed) so_far line (told_so_far [] F) (boards_told now (told_so_far xs G))) (sym same) there in
      told_as table r text number p (record q { place = place }) so_far.lines so_far.world initial old now before after failed F G line shown spelled (passed_played table q place so_far.lines so_far.world line passed (told_so_far [] F) (told_so_far shown G) initial now at to) (at ∙ behind) ok cut cause,
)

-- a line was not played, or begun, and what is reported of that was written, or a prefix of it
pub text_begun : (stop result : Stop) (text : List ℕ) (number : ℕ) (p q gone : Player) (initial old now : List Device) (line : Line) (cleared told shown : List ℕ) (before after : Option (List ℕ)) (failed : Type 0) (F G : Saw)
    → line_of p.place text ≡ Ok line → cleared ≡ [] → shown ≡ told → LinePlays (Err stop) p gone line (told_so_far cleared F) (told_so_far told G) initial old now → BegunWritten stop result shown before after failed
    → LineKeepsBytes p.place line old now → TextPlays (Err result) text number initial (replay_state p old before F) (replay_state q now after G) failed
text_begun stop result text number p q gone initial old now line cleared told shown before after failed F G spelled clear same plays written kept = (
  text_keeps p.place text line old now spelled kept,
  λ table so_far s.
      let basis = based_on table initial in
      let there : PlayedAs basis (Err stop) gone so_far line (boards_told old (told_so_far [] F)) (boards_told now (told_so_far told G)) = subst (λ (xs : List ℕ). PlayedAs basis (Err stop) gone so_far line (boards_told old (told_so_far xs F)) (boards_told now (told_so_far told G))) clear (plays table so_far s) in
      let to : PlayedAs basis (Err stop) gone so_far line (boards_told old (told_so_far [] F)) (boards_told now (told_so_far shown G)) = subst (λ (xs : List ℕ). PlayedAs basis (Err stop) gone so_far line (boards_told old (told_so_far [] F)) (boards_told now (told_so_far xs G))) (sym same) there in
      begun_as table stop result text number p q so_far.lines so_far.world initial old now before after failed F G line shown spelled (stop_as table stop gone q so_far.lines so_far.world line (told_so_far [] F) (told_so_far shown G) initial old now to) written,
)

-- there was no memory for the place after a line that left the boards unchanged
pub text_forgotten : (text : List ℕ) (number : ℕ) (p q : Player) (initial old now : List Device) (before : Option (List ℕ)) (failed : Type 0) (F G : Saw) → now ≡ old → StaysSeen F G → TextPlays (Err Memory) text number initial (replay_state p old before F) (replay_state q now before G) failed
text_forgotten text number p q initial old now before failed F G same stays = (text_same p.place text old now same, λ table so_far s. inl (record { boards = same; written = refl; seen = stays }))

-- the result if the next line was given and playing it had this result
pub given_answer : (r : Result Bool Halt) (o : Option ℕ) (n : ℕ) (text : List ℕ) (old new : Reading) (at_end read_failed : Type 0) (Took : List ℕ → Type 0) (initial : List Device) (a b : ReplayState) (failed : Type 0) → o ≡ Some n → text ≡ new.text
    → ((more : List ℕ) × Took more × NextAnswer (Ok o) (old.ahead ++ more) old new at_end read_failed) → GivenPlayed r (λ x. TextPlays x text n initial a b failed)
    → (more : List ℕ) × Took more × NextPlayed r (bytes_taken (old.ahead ++ more) at_end) old new read_failed (AllAsBefore a b) (λ x t. TextPlays x t (old.number + 1) initial a b failed)
given_answer r o n text old new at_end read_failed Took initial a b failed some same came played = (
  came.0,
  came.1,
  given_next r o n text (old.ahead ++ came.0) old new at_end read_failed (AllAsBefore a b) (λ x t k. TextPlays x t k initial a b failed) some same came.2 played,
)

-- ---- how a replay ends

-- what a replay did, from how its script was replayed
pub replay_ended : {F G : Saw} (s : Status) (a b : Outside) → HeadlineLaw → (bytes : List ℕ) → Takes a.input.left b.input.left bytes
    → ((table : List Row) → (length bytes ≤ most_used_bytes + 1) × ScriptReplayed table s (script_of bytes) (ending_of (length a.boards) bytes) (bytes_taken bytes (AtEnd b.input.left)) (span a.boards b.boards a.output.written b.output.written F G) (failures (Rose a.input.reads b.input.reads) (Rose a.output.writes b.output.writes)))
    → (s ≢ status.ReadFault → b.input.reads ≡ a.input.reads) → (s ≢ status.WriteFault → b.output.writes ≡ a.output.writes) → ReplayDone s a b
replay_ended s a b law bytes taken came reads writes = replay_done s a b law (λ table. let r = came table in replayed_of s bytes a b taken r.0 r.1 reads writes)

-- and a watcher saw the events that were played
pub replay_seen : {F G : Saw} (s : Status) (a b : Outside) (bytes : List ℕ) → Takes a.input.left b.input.left bytes
    → ((table : List Row) → (length bytes ≤ most_used_bytes + 1) × ScriptReplayed table s (script_of bytes) (ending_of (length a.boards) bytes) (bytes_taken bytes (AtEnd b.input.left)) (span a.boards b.boards a.output.written b.output.written F G) (failures (Rose a.input.reads b.input.reads) (Rose a.output.writes b.output.writes)))
    → (s ≢ status.ReadFault → b.input.reads ≡ a.input.reads) → (s ≢ status.WriteFault → b.output.writes ≡ a.output.writes) → (table : List Row) → F.events [] [] → (x : Replayed table s a b) × IsSeenAs s G x.came
replay_seen s a b bytes taken came reads writes table f =
    let r = came table in
    (replayed_of s bytes a b taken r.0 r.1 reads writes, r.1.left.1 f)

-- a replay that does not end with WriteFault did not stop at a write
pub stopped_unfailed : (halt : Halt) (stop : Stop) (s : Status) (before after : Option (List ℕ)) (failed : Type 0) → halt ≡ Stopped stop → StopEnds stop s before after failed → s ≢ status.WriteFault → ◌≢◌ {A = Result (Player × ℕ) Halt} (Err halt) (Err (Stopped WriteFault))
stopped_unfailed halt stop s before after failed is ends other = λ e.
    let same : stop ≡ WriteFault = cc in
    other ((subst (λ (x : Stop). StopEnds x s before after failed) same ends).0)
