-- What the texts of a script do, one after the other.
use Rattle.std.proofs.Common.{◌≡◌, ◌⊎◌, inl, inr, ⊎_elim, ℕ, ◌≤◌, Bool, List, [], ◌∷◌, ◌++◌, length, take, length-append, refl, append-nil, ap, sym, ◌∙◌, subst, arith}
use Rattle.std.specs.Prelude.{Option, Some, None, Ok, Err, IfSome}
use Rattle.std.proofs.lemmas.List.{take_at}
use Rattle.dg_base.proofs.OutsideLemmas.{Puts-nil}
use Rattle.dg_base.specs.Outside.{Puts}
use Rattle.dg_nor.specs.Device.{Device}
use Rattle.dg_object.specs.Object.{Row}
use Rattle.dg_script.specs.Fitting.{FitsCut}
use Rattle.dg_script.specs.Lines.{line_of}
use Rattle.dg_script.specs.Places.{first_place}
use Rattle.dg_script.specs.Script.{Script, script_from}
use Rattle.dg_script.specs.declared.place.Place.{Place}
use Rattle.dg_script.specs.declared.line.Line.{Line}
use Rattle.dg_script.specs.declared.line.Line.TheVariants.{Motes, Boards}
use Rattle.dg_rules.specs.Sizes.{most_events}
use Rattle.dg_rules.specs.World.{World}
use Rattle.dg_rules.specs.Runs.{Played}
use Rattle.dg_script.specs.Items.{Item, item_by, place_behind, items_behind, items_of}
use Rattle.dg_replay.specs.Items.{UsesBoards, is_boards, begin_behind, lacking}
use Rattle.dg_replay.specs.Boards.{InSome, LacksImage, BoardsStand}
use Rattle.dg_replay.specs.Ending.{events_in}
use Rattle.dg_base.specs.declared.answers.Status.TheVariants as status
use Rattle.dg_replay.specs.Replayed.{Progress, BoardsLeft, played_text}
use Rattle.dg_replay.specs.Playing.{Stood, Ready, Joined, RunsOn, RunsFrom, LineBegun}
use Rattle.dg_replay.specs.Replaying.{TextPlayed, TextCut, TextRead, NothingDone, TextAnswer, Reached, PlayedPrefix, PlayedUpTo, HasFew, ReportedBefore, IsLeft, StopsThere}
use Rattle.dg_replay.specs.declared.player.Player.{Player}
use Rattle.dg_replay.specs.declared.stop.Stop.{Stop}
use Rattle.dg_replay.specs.Untouched.{TextKeepsBytes}
use Rattle.dg_replay.proofs.BytesLemmas.{keep_read, keeps_next, untouched_done}
use Rattle.dg_replay.proofs.UntouchedLemmas.{kept_done}
use Rattle.dg_replay.specs.Shown.{Saw, ended_saw}
use Rattle.dg_replay.specs.Stages.{based_on, done_so_far, line_told, replay_state, line_read, span}
use Rattle.dg_replay.specs.declared.stop.Stop.TheVariants.{Memory, BadInput, WriteFault, FlashFault, TooMany, NoBoard, NoImage, NotAVolume}
use Rattle.std.specs.List.{list_any}
use Rattle.dg_replay.proofs.NextLineLemmas.{told_front, told_all, script_line, script_fault, lacking_next, few_next, few_items, front_put, front_kept, at_line, behind_line, choose, uses_or}
use Rattle.dg_replay.proofs.BegunLemmas.{memory_begun, cut_begun, cut_image, image_begun, stop_begun, many_begun}

-- all that was reported before a line that was played was written
told_line : {table : List Row} {S G H : Saw} (ends : Bool) (script : Script) (texts : List (List ℕ)) (text : List ℕ) (n : ℕ) (p q : Player) (initial old now : List Device) (before mid after : Option (List ℕ))
    → (r : Reached table ends script (text ∷ texts) n p (span initial old before mid S G)) → (t : TextPlayed (based_on table initial) text (done_so_far r.done r.last) (replay_state p old mid G) (replay_state q now after H)) → (on : RunsOn table initial r.done t.line t.to.world t.to.text r.played) → (told : List ℕ) (k : ℕ) → told ≡ t.to.text
    → ReportedBefore n (behind_line ends script texts text n p q initial old now before mid after r t on) (played_text r.played ++ take k told)
told_line ends script texts text n p q initial old now before mid after r t on told k same =
    ⊎_elim
    (λ (none : t.to.text ≡ []).
    let all : played_text on.now ≡ played_text r.played = on.reported ∙ ap (λ (xs : List ℕ). played_text r.played ++ xs) none ∙ append-nil (played_text r.played) in
    record {
      lines = length (r.done ++ t.line ∷ []);
      within = omega arith;
      behind = omega (arith, r.numbered, length-append r.done (t.line ∷ []));
      more = take k told;
      reported = ap (λ (xs : List ℕ). xs ++ take k told) (sym (told_all (r.done ++ t.line ∷ []) on.now on.items ∙ all));
    })
    (λ (went : (more : List Played) × (on.now ≡ r.played ++ more)). record {
      lines = length r.done;
      within = omega (arith, length-append r.done (t.line ∷ []));
      behind = omega (arith, r.numbered);
      more = take k told;
      reported = ap (λ (xs : List ℕ). xs ++ take k told)
          (sym (ap (λ (ps : List Played). played_text (take (length (items_of (take (length r.done) (r.done ++ t.line ∷ [])))) ps)) went.1
          ∙ told_front r.done (r.done ++ t.line ∷ []) r.played went.0 (take_at r.done (t.line ∷ []) (length r.done) refl) r.items));
    })
    on.on

-- a line was played, and what is reported of it was not all written
cut_told : {table : List Row} {S G H : Saw} (ends : Bool) (script : Script) (texts : List (List ℕ)) (text : List ℕ) (n : ℕ) (p q : Player) (initial old now : List Device) (before mid after : Option (List ℕ))
    → (r : Reached table ends script (text ∷ texts) n p (span initial old before mid S G)) → TextKeepsBytes p.place text old now → TextCut (based_on table initial) text (done_so_far r.done r.last) (replay_state p old mid G) (replay_state q now after H) → PlayedPrefix table script initial before after (λ c text. BoardsLeft status.WriteFault c initial now × ReportedBefore n c text × (IsLeft (span initial now before after S H) H c ⊎ IsLeft (span initial now before after S H) (ended_saw H c.last c.left) c))
cut_told ends script texts text n p q initial old now before mid after r kept t =
    let to = t.played.to in
    let line = t.played.line in
    let goes = to.runs r.ground r.played r.grounded r.items r.run in
    let on = goes.on in
    front_put script initial before mid after r.played t.played.reported (behind_line ends script texts text n p q initial old now before mid after r t.played on) r.reported
    (on.reported ∙ ap (λ (xs : List ℕ). played_text r.played ++ xs) (sym to.report_now)) t.written
    (record {
      boards_enough = lacking_next (length initial) r.done line r.boards_enough to.boards_enough;
      few_events = few_next on.ground (r.done ++ line ∷ []) to.world on.now q now on.run to.stood.world;
    }) (λ uses. (on.grounded uses).1) (λ k. (
      inl to.stood.boards,
      told_line ends script texts text n p q initial old now before mid after r t.played on t.played.reported k to.report_now,
      inl (
        untouched_done (behind_line ends script texts text n p q initial old now before mid after r t.played on) initial now (keeps_next p.place r.done line initial old now r.stood.place r.untouched (kept line t.played.spelled)),
        λ f. goes.shown (r.seen f),
      ),
    ))

-- nothing was done after the lines that were done
nothing_more : {table : List Row} {S G H : Saw} (ends : Bool) (script : Script) (texts : List (List ℕ)) (n : ℕ) (p q : Player) (initial old now : List Device) (before mid after : Option (List ℕ))
    → Reached table ends script texts n p (span initial old before mid S G) → NothingDone (replay_state p old mid G) (replay_state q now after H) → PlayedPrefix table script initial before after (λ c text. BoardsStand c.last initial now × IsLeft (span initial now before after S H) H c)
nothing_more ends script texts n p q initial old now before mid after r none =
    front_put script initial before mid after r.played [] (at_line ends script texts n p initial old before mid r) r.reported (sym (append-nil (played_text r.played))) (front_kept mid after [] none.written)
    (record { boards_enough = r.boards_enough; few_events = few_items r.done r.played r.items r.few })
    (λ uses. (r.grounded uses).1) (λ k. (subst (λ (ds : List Device). BoardsStand r.last initial ds) (sym none.boards) r.stood.boards, (kept_done ends script texts n p initial old now before mid r none.boards, λ f. none.seen _ _ (r.seen f))))

-- where a line was read and not begun
at_line_put : {table : List Row} {S G : Saw} (ends : Bool) (script : Script) (texts : List (List ℕ)) (n : ℕ) (p : Player) (initial old : List Device) (before mid after : Option (List ℕ)) {P : Progress table script → Type 0} → (r : Reached table ends script texts n p (span initial old before mid S G)) → after ≡ mid
    → P (at_line ends script texts n p initial old before mid r) → PlayedUpTo table script initial before after P
at_line_put ends script texts n p initial old before mid after r none there =
    record {
      came = at_line ends script texts n p initial old before mid r;
      reported = subst (λ (o : Option (List ℕ)). Puts before o (played_text r.played)) (sym none) r.reported;
      limits = record { boards_enough = r.boards_enough; few_events = few_items r.done r.played r.items r.few };
      stood = λ uses. (r.grounded uses).1;
      there = there;
    }

-- a script whose lines were all done
pub all_done : {table : List Row} {S G : Saw} (ends : Bool) (script : Script) (texts : List (List ℕ)) (n : ℕ) (p : Player) (initial now : List Device) (before mid : Option (List ℕ)) → (r : Reached table ends script texts n p (span initial now before mid S G))
    → (script_from ends p.place n texts).lines ≡ [] → HasFew script initial
all_done ends script texts n p initial now before mid r none =
    let all : r.done ≡ script.lines = sym (append-nil r.done) ∙ ap (λ (ls : List Line). r.done ++ ls) (sym none) ∙ r.lines in
    record {
      events = subst (λ (ls : List Line). events_in ls ≤ most_events) all r.few;
      boards_enough = subst (λ (ls : List Line). lacking (length initial) ls ≡ None) all r.boards_enough;
    }

-- no script with golden lacks an image
image_uses : {table : List Row} {S G : Saw} (H : Saw) {ends : Bool} {script : Script} {texts : List (List ℕ)} {text : List ℕ} {n : ℕ} {p : Player} {initial old now : List Device} {before mid : Option (List ℕ)} (r : Reached table ends script (text ∷ texts) n p (span initial old before mid S G))
    → ((UsesBoards r.done → ⊥) → TextRead text p (λ line. LineBegun r.done line r.last G (ended_saw H) (λ v left t. InSome v (λ u. LacksImage u left initial now))) → ⊥)
    → (line : Line) → line_of p.place text ≡ Ok line → (begun left : List Item) → item_by (place_behind first_place r.done) line ≡ begun ++ left → (world : Option World) (told : List ℕ) → RunsFrom r.last begun world (line_told told G (ended_saw H world left))
    → InSome world (λ u. LacksImage u left initial now) → UsesBoards r.done
image_uses H r found line spelled begun left parts world told runs lacks =
    ⊎_elim (λ uses. uses) (λ alone. absurd (found alone (record { line = line; spelled = spelled; there = record { begun = begun; left = left; parts = parts; world = world; text = told; runs = runs; there = lacks } }))) (uses_or (list_any is_boards r.done))

-- a stop at a line, after the lines that were done
pub stopped_at : {table : List Row} {S G : Saw} (H : Saw) (stop : Stop) (ends : Bool) (script : Script) (texts : List (List ℕ)) (text : List ℕ) (n : ℕ) (p q : Player) (initial old now : List Device) (before mid after : Option (List ℕ)) (failed worse : Type 0) → (failed → worse)
    → (r : Reached table ends script (text ∷ texts) n p (span initial old before mid S G)) → ((UsesBoards r.done → ⊥) → TextRead text p (λ line. LineBegun r.done line r.last G (ended_saw H) (λ v left t. InSome v (λ u. LacksImage u left initial now))) → ⊥)
    → TextKeepsBytes p.place text old now → TextAnswer (based_on table initial) (Err stop) (line_read text n) (done_so_far r.done r.last) (replay_state p old mid G) (replay_state q now after H) failed → StopsThere table stop script n (span initial now before after S H) worse
stopped_at H Memory ends script texts text n p q initial old now before mid after failed worse spread r found kept (inl none) = nothing_more ends script (text ∷ texts) n p q initial old now before mid after r none
stopped_at H Memory ends script texts text n p q initial old now before mid after failed worse spread r found kept (inr (t, none)) =
    memory_begun ends script texts text n p initial old now before mid after t.line r kept t.spelled t.there (choose t.there.begun t.there.left) none
stopped_at H (BadInput line fault) ends script texts text n p q initial old now before mid after failed worse spread r found kept (same, spelled, none) =
    let bad = script_fault ends p.place n text texts fault spelled in
    let rest : (script_from ends p.place n (text ∷ texts)).lines ≡ [] = ap (λ (s : Script). s.lines) bad in (
      same,
      at_line_put ends script (text ∷ texts) n p initial old before mid after r none.written (
        rest,
        sym r.fault ∙ ap (λ (s : Script). s.fault) bad ∙ ap (λ (k : ℕ). Some (k, fault)) (sym same),
        subst (λ (ds : List Device). BoardsStand r.last initial ds) (sym none.boards) r.stood.boards,
        all_done ends script (text ∷ texts) n p initial old before mid r rest,
        (kept_done ends script (text ∷ texts) n p initial old now before mid r none.boards, λ f. none.seen _ _ (r.seen f)),
      ),
    )
stopped_at H WriteFault ends script texts text n p q initial old now before mid after failed worse spread r found kept (rose, inl cut) =
    (spread rose, cut_told ends script texts text n p q initial old now before mid after r kept cut)
stopped_at H WriteFault ends script texts text n p q initial old now before mid after failed worse spread r found kept (rose, inr t) = (
  spread rose,
  ⊎_elim
      (λ b. cut_begun ends script texts text n p initial old now before mid after t.line r kept t.spelled b b.there)
      (λ b. cut_image H ends script texts text n p initial old now before mid after t.line r kept t.spelled b b.there (image_uses H r found t.line t.spelled b.begun b.left b.parts b.world b.text b.runs b.there.1))
      t.there,
)
stopped_at H FlashFault ends script texts text n p q initial old now before mid after failed worse spread r found kept t =
    stop_begun ends script texts text n p initial old now before mid after t.line r kept t.spelled t.there.0 t.there.1
stopped_at H TooMany ends script texts text n p q initial old now before mid after failed worse spread r found kept t =
    many_begun ends script texts text n p initial old now before mid after t.line r kept t.spelled t.there
stopped_at H (NoBoard motes boards) ends script texts text n p q initial old now before mid after failed worse spread r found kept (t, told, stays) =
    let m = t.there in
    let spelled = t.spelled ∙ ap (λ (l : Line). Ok l) m.is_motes in
    at_line_put ends script (text ∷ texts) n p initial old before mid after r told (
      (m.have, m.missing),
      (_, ap (λ (s : Script). s.lines) (script_line ends p.place n text texts (Motes motes) spelled)),
      subst (λ (ds : List Device). BoardsStand r.last initial ds) (sym m.same) r.stood.boards,
      r.boards_enough,
      (kept_done ends script (text ∷ texts) n p initial old now before mid r m.same, λ f. stays _ _ (r.seen f)),
    )
stopped_at H NoImage ends script texts text n p q initial old now before mid after failed worse spread r found kept t =
    let b = t.there in
    image_begun H ends script texts text n p initial old now before mid after t.line r kept t.spelled (image_uses H r found t.line t.spelled b.begun b.left b.parts b.world b.text b.runs b.there.0) b
stopped_at H NotAVolume ends script texts text n p q initial old now before mid after failed worse spread r found kept (t, told, stays) =
    let spelled = t.spelled ∙ ap (λ (l : Line). Ok l) t.there.0 in
    at_line_put ends script (text ∷ texts) n p initial old before mid after r told (
      record { more = _; next = ap (λ (s : Script). s.lines) (script_line ends p.place n text texts Boards spelled); there = t.there.1 },
      λ more. record {
        lines = length r.done;
        within = omega arith;
        behind = omega (arith, r.numbered);
        more = more;
        reported = ap (λ (xs : List ℕ). xs ++ more) (sym (told_all r.done r.played r.items));
      },
      (untouched_done (at_line ends script (text ∷ texts) n p initial old before mid r) initial now (λ none. keep_read (items_of r.done) initial now t.there.1.read), λ f. stays _ _ (r.seen f)),
    )

-- the first line of the script is reached at once
pub reached_first : {table : List Row} {S : Saw} (ends : Bool) (texts : List (List ℕ)) (p : Player) (initial : List Device) (before : Option (List ℕ)) → p.place ≡ first_place
    → Reached table ends (script_from ends first_place 1 texts) texts 1 p (span initial initial before before S S)
unfolding place_behind items_behind begin_behind lacking
reached_first {table} ends texts p initial before place =
    record {
      done = [];
      played = [];
      last = None;
      lines = ap (λ (at : Place). (script_from ends at 1 texts).lines) place;
      fault = ap (λ (at : Place). (script_from ends at 1 texts).fault) place;
      numbered = refl;
      items = refl;
      ground = record { stores = []; table = table };
      grounded = λ uses. absurd (cc);
      run = (refl, refl);
      reported = Puts-nil before;
      seen = λ f. f;
      stood = record {
        seats = λ some. absurd (omega (arith, some, ap (λ (at : Place). at.motes) place));
        place = place;
        links = subst (λ (at : Place). Joined at) (sym place) tt;
        cut_fits = subst (λ (at : Place). IfSome at.cut FitsCut) (sym place) tt;
        motes = ap (λ (at : Place). at.motes) place;
        early = λ e. tt;
        world = ap (λ (at : Place). at.ready) place;
        boards = refl;
      };
      few = omega arith;
      untouched = λ none m away. refl;
      boards_enough = refl;
    }

-- what stands for a world is ready
pub ready_of : (p : Player) (done : List Line) (w : Option World) (initial now : List Device) → Stood p done w initial now → Ready p now
ready_of p done w initial now s = record { seats = s.seats; links = s.links; cut_fits = s.cut_fits; world = w; kept = s.world }
