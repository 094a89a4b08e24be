-- The outcome of one text of a script.
use Rattle.std.proofs.Common.{◌≡◌, ◌≢◌, ◌⊎◌, inl, inr, ℕ, List, [], refl, sym, subst}
use Rattle.std.specs.Prelude.{Option, Result, Ok, Err, OnOk, OnErr}
use Rattle.dg_base.specs.Outside.{Puts, PutsPrefix}
use Rattle.dg_nor.specs.Device.{Device}
use Rattle.dg_object.specs.Object.{Row}
use Rattle.dg_script.specs.Lines.{line_of}
use Rattle.dg_script.specs.Places.{place_after}
use Rattle.dg_script.specs.Items.{Item}
use Rattle.dg_script.specs.declared.fault.LineFault.{LineFault}
use Rattle.dg_script.specs.declared.fault.LineFault.TheVariants as line_fault
use Rattle.dg_script.specs.declared.line.Line.{Line}
use Rattle.dg_script.specs.declared.place.Place.{Place}
use Rattle.dg_rules.specs.World.{World}
use Rattle.dg_replay.specs.Playing.{PlayedLine, PlayedAs, LineBegun}
use Rattle.dg_replay.specs.Replaying.{NotFound, StopsAtLine, TextPlayed, TextAnswer, BegunWritten}
use Rattle.dg_replay.specs.declared.player.Player.{Player}
use Rattle.dg_replay.specs.declared.stop.Stop.{Stop}
use Rattle.dg_replay.specs.Shown.{Saw}
use Rattle.dg_replay.specs.Stages.{based_on, done_so_far, told_so_far, boards_told, replay_state, line_read}
use Rattle.dg_replay.proofs.ShownLemmas.{stays_same}
use Rattle.dg_replay.specs.declared.stop.Stop.TheVariants.{Memory, BadInput, WriteFault, FlashFault, TooMany, NoBoard, NoImage, NotAVolume}

same_stop : (s t : Stop) → ◌≡◌ {A = Result (Unit {0}) Stop} (Err s) (Err t) → s ≡ t
same_stop s t e = cc

-- what holds where a line was begun, and follows
begun_then : {done : List Line} {line : Line} {w : Option World} {F : Saw} {G : Option World → List Item → Saw} {P Q : Option World → List Item → List ℕ → Type 0} → ((v : Option World) (left : List Item) (t : List ℕ) → P v left t → Q v left t) → LineBegun done line w F G P → LineBegun done line w F G Q
begun_then f b = record { begun = b.begun; left = b.left; parts = b.parts; world = b.world; text = b.text; runs = b.runs; there = f b.world b.left b.text b.there }

-- a line was played, and what is reported of it was written, or a prefix of it
pub told_as : (table : List Row) (r : Result (Unit {0}) Stop) (text : List ℕ) (number : ℕ) (p q : Player) (done : List Line) (w : Option World) (initial old new : List Device) (before after : Option (List ℕ)) (failed : Type 0) (F G : Saw) (line : Line) (told : List ℕ)
    → line_of p.place text ≡ Ok line → PlayedLine (based_on table initial) q (done_so_far done w) line (told_so_far [] F) (boards_told new (told_so_far told G)) → q.place ≡ place_after p.place line
    → OnOk r (Puts before after told) → OnErr r (PutsPrefix before after told × (told ≢ [])) → OnErr r ((r ≡ Err WriteFault) × failed)
    → TextAnswer (based_on table initial) r (line_read text number) (done_so_far done w) (replay_state p old before F) (replay_state q new after G) failed
told_as table (Ok u) text number p q done w initial old new before after failed F G line told spelled to behind ok cut cause =
    record { played = record { line = line; spelled = spelled; reported = told; to = to; behind = behind }; written = ok }
told_as table (Err s) text number p q done w initial old new before after failed F G line told spelled to behind ok cut cause =
    let P : Stop → Type 0 = λ x. TextAnswer (based_on table initial) (Err x) (line_read text number) (done_so_far done w) (replay_state p old before F) (replay_state q new after G) failed in
    let played : TextPlayed (based_on table initial) text (done_so_far done w) (replay_state p old before F) (replay_state q new after G) = record { line = line; spelled = spelled; reported = told; to = to; behind = behind } in
    subst P (sym (same_stop s WriteFault cause.0)) (cause.1, inl (record { played = played; written = cut.0 }))

-- a line was not played, or begun, and what is reported of that was written, or a prefix of it
pub begun_as : (table : List Row) (stop result : Stop) (text : List ℕ) (number : ℕ) (p q : Player) (done : List Line) (w : Option World) (initial old new : List Device) (before after : Option (List ℕ)) (failed : Type 0) (F G : Saw) (line : Line) (told : List ℕ)
    → line_of p.place text ≡ Ok line → PlayedAs (based_on table initial) (Err stop) q (done_so_far done w) line (boards_told old (told_so_far [] F)) (boards_told new (told_so_far told G)) → BegunWritten stop result told before after failed
    → TextAnswer (based_on table initial) (Err result) (line_read text number) (done_so_far done w) (replay_state p old before F) (replay_state q new after G) failed
begun_as table Memory result text number p q done w initial old new before after failed F G line told spelled played (is, none) =
    let P : Stop → Type 0 = λ x. TextAnswer (based_on table initial) (Err x) (line_read text number) (done_so_far done w) (replay_state p old before F) (replay_state q new after G) failed in
    subst P (sym is) (inr (record { line = line; spelled = spelled; there = played }, none))
begun_as table (NoBoard m b) result text number p q done w initial old new before after failed F G line told spelled played (is, none) =
    let P : Stop → Type 0 = λ x. TextAnswer (based_on table initial) (Err x) (line_read text number) (done_so_far done w) (replay_state p old before F) (replay_state q new after G) failed in
    subst P (sym is) (record { line = line; spelled = spelled; there = played.0 }, none, played.1)
begun_as table NotAVolume result text number p q done w initial old new before after failed F G line told spelled played (is, none) =
    let P : Stop → Type 0 = λ x. TextAnswer (based_on table initial) (Err x) (line_read text number) (done_so_far done w) (replay_state p old before F) (replay_state q new after G) failed in
    subst P (sym is) (record { line = line; spelled = spelled; there = (played.0, played.1) }, none, played.2)
begun_as table NoImage result text number p q done w initial old new before after failed F G line told spelled played (inl (is, put)) =
    let P : Stop → Type 0 = λ x. TextAnswer (based_on table initial) (Err x) (line_read text number) (done_so_far done w) (replay_state p old before F) (replay_state q new after G) failed in
    subst P (sym is) (record {
      line = line;
      spelled = spelled;
      there = begun_then (λ v left t h. (h.0, subst (λ (xs : List ℕ). Puts before after xs) h.1 put)) played;
    })
begun_as table NoImage result text number p q done w initial old new before after failed F G line told spelled played (inr (is, rose, some, cut)) =
    let P : Stop → Type 0 = λ x. TextAnswer (based_on table initial) (Err x) (line_read text number) (done_so_far done w) (replay_state p old before F) (replay_state q new after G) failed in
    subst P (sym is) (
      rose,
      inr (record {
        line = line;
        spelled = spelled;
        there = inr (begun_then (λ v left t h. (subst (λ (xs : List ℕ). xs ≢ []) h.1 some, h.0, subst (λ (xs : List ℕ). PutsPrefix before after xs) h.1 cut)) played);
      }),
    )
begun_as table FlashFault result text number p q done w initial old new before after failed F G line told spelled played (inl (is, put)) =
    let P : Stop → Type 0 = λ x. TextAnswer (based_on table initial) (Err x) (line_read text number) (done_so_far done w) (replay_state p old before F) (replay_state q new after G) failed in
    subst P (sym is) (record {
      line = line;
      spelled = spelled;
      there = (played.0, begun_then (λ v left t h. (h.0, subst (λ (xs : List ℕ). Puts before after xs) h.1 put)) played.1);
    })
begun_as table FlashFault result text number p q done w initial old new before after failed F G line told spelled played (inr (is, rose, some, cut)) =
    let P : Stop → Type 0 = λ x. TextAnswer (based_on table initial) (Err x) (line_read text number) (done_so_far done w) (replay_state p old before F) (replay_state q new after G) failed in
    subst P (sym is) (
      rose,
      inr (record {
        line = line;
        spelled = spelled;
        there = inl (begun_then (λ v left t h. inl (subst (λ (xs : List ℕ). xs ≢ []) h.1 some, h.0, subst (λ (xs : List ℕ). PutsPrefix before after xs) h.1 cut)) played.1);
      }),
    )
begun_as table TooMany result text number p q done w initial old new before after failed F G line told spelled played (inl (is, put)) =
    let P : Stop → Type 0 = λ x. TextAnswer (based_on table initial) (Err x) (line_read text number) (done_so_far done w) (replay_state p old before F) (replay_state q new after G) failed in
    subst P (sym is) (record {
      line = line;
      spelled = spelled;
      there = begun_then (λ v left t h. (h.0, h.1, subst (λ (xs : List ℕ). Puts before after xs) h.2 put)) played;
    })
begun_as table TooMany result text number p q done w initial old new before after failed F G line told spelled played (inr (is, rose, some, cut)) =
    let P : Stop → Type 0 = λ x. TextAnswer (based_on table initial) (Err x) (line_read text number) (done_so_far done w) (replay_state p old before F) (replay_state q new after G) failed in
    subst P (sym is) (
      rose,
      inr (record {
        line = line;
        spelled = spelled;
        there = inl (begun_then (λ v left t h. inr (h.0, h.1, subst (λ (xs : List ℕ). PutsPrefix before after xs) h.2 cut)) played);
      }),
    )
begun_as table (BadInput n f) result text number p q done w initial old new before after failed F G line told spelled played written = absurd played
begun_as table WriteFault result text number p q done w initial old new before after failed F G line told spelled played written = absurd played

-- no line was found
pub not_found_as : (table : List Row) (stop : Stop) (text : List ℕ) (number : ℕ) (p q : Player) (done : List Line) (w : Option World) (initial now : List Device) (before : Option (List ℕ)) (failed : Type 0) (F : Saw)
    → NotFound p.place text number stop → TextAnswer (based_on table initial) (Err stop) (line_read text number) (done_so_far done w) (replay_state p now before F) (replay_state q now before F) failed
not_found_as table stop text number p q done w initial now before failed F (inl memory) =
    let P : Stop → Type 0 = λ x. TextAnswer (based_on table initial) (Err x) (line_read text number) (done_so_far done w) (replay_state p now before F) (replay_state q now before F) failed in
    subst P (sym memory) (inl (record { boards = refl; written = refl; seen = stays_same F }))
not_found_as table stop text number p q done w initial now before failed F (inr (fault, is, read)) =
    let P : Stop → Type 0 = λ x. TextAnswer (based_on table initial) (Err x) (line_read text number) (done_so_far done w) (replay_state p now before F) (replay_state q now before F) failed in
    subst P (sym is) (refl, read, record { boards = refl; written = refl; seen = stays_same F })

-- a line was not read
pub not_read : (place : Place) (text : List ℕ) (number : ℕ) (stop : Stop) (fault : LineFault) → (known : (fault ≡ line_fault.Memory) ⊎ (fault ≢ line_fault.Memory)) → StopsAtLine stop number fault → (fault ≢ line_fault.Memory → line_of place text ≡ Err fault)
    → NotFound place text number stop
not_read place text number stop fault (inl memory) at read = inl (at.memory memory)
not_read place text number stop fault (inr other) at read = inr (fault, at.other other, read other)

pub memory_or : (fault : LineFault) → (fault ≡ line_fault.Memory) ⊎ (fault ≢ line_fault.Memory)
memory_or line_fault.Memory = inl refl
memory_or line_fault.Verb = inr (λ e. cc)
memory_or line_fault.Few = inr (λ e. cc)
memory_or line_fault.Many = inr (λ e. cc)
memory_or line_fault.Number = inr (λ e. cc)
memory_or line_fault.Mote = inr (λ e. cc)
memory_or line_fault.Image = inr (λ e. cc)
memory_or line_fault.Version = inr (λ e. cc)
memory_or line_fault.Name = inr (λ e. cc)
memory_or line_fault.Content = inr (λ e. cc)
memory_or line_fault.Mask = inr (λ e. cc)
memory_or line_fault.Place = inr (λ e. cc)
memory_or line_fault.Cut = inr (λ e. cc)
memory_or line_fault.Long = inr (λ e. cc)
