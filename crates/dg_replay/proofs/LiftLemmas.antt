-- What was played of the whole lines that were read is a run of the script of every input that begins with them.
use Rattle.std.proofs.Common.{◌≡◌, ◌≢◌, ◌⊎◌, inl, inr, ℕ, ◌≤◌, false, List, [], ◌∷◌, ◌++◌, length, map, append-nil, append_assoc, refl, ap, sym, ◌∙◌, subst}
use Rattle.std.specs.Prelude.{Option, Some, None}
use Rattle.std.specs.List.{AllByRecursion}
use Rattle.std.specs.Str.Lines.{lines}
use Rattle.dg_base.specs.declared.answers.Status.TheVariants as status
use Rattle.dg_nor.specs.Device.{Device}
use Rattle.dg_object.specs.Object.{Row}
use Rattle.dg_rules.specs.World.{World}
use Rattle.dg_script.specs.Sizes.{most_used_bytes}
use Rattle.dg_rules.specs.Runs.{Played}
use Rattle.dg_script.specs.Items.{Item, Declares, Applies}
use Rattle.dg_script.specs.Places.{first_place}
use Rattle.dg_script.specs.Script.{Script, script_from}
use Rattle.dg_script.specs.declared.fault.LineFault.{LineFault}
use Rattle.dg_script.specs.declared.line.Line.{Line}
use Rattle.dg_script.specs.declared.line.Line.TheVariants.{Boards}
use Rattle.dg_replay.specs.Boards.{EventNext, InSome, LacksImage, BoardsStand, StoppedIn}
use Rattle.dg_replay.specs.Items.{motes_in, lacking, next_items}
use Rattle.dg_replay.specs.Ending.{script_of}
use Rattle.dg_replay.specs.Prefixes.{IsWholeLines, BeginsAs}
use Rattle.dg_replay.specs.Replayed.{Progress, Untouched, item_played, played_text, AtTooMany, BoardsLeft, AreWhole, NextIsWhole, DoneIsWhole}
use Rattle.dg_replay.specs.Untouched.{IsElsewhere, FormatsNone}
use Rattle.dg_replay.specs.Replaying.{PlayedUpTo, HasFew, ReportedBefore, IsLeft, StopsThere, StopsInTaken}
use Rattle.dg_replay.specs.declared.stop.Stop.{Stop}
use Rattle.dg_replay.specs.Shown.{Saw, StaysSeen, ended_saw}
use Rattle.dg_replay.specs.Stages.{span}
use Rattle.dg_replay.specs.inner.Words.{bytes_taken}
use Rattle.dg_replay.specs.declared.stop.Stop.TheVariants.{Memory, BadInput, WriteFault, FlashFault, TooMany, NoBoard, NoImage, NotAVolume}
use Rattle.dg_replay.proofs.FrontLemmas.{front_begins}
use Rattle.dg_replay.proofs.GoldenRuns.{all_front}

-- ---- a run of a script is one of a longer script

none_begun : {A : Type 0} (xs ys : List A) → [] ≡ xs ++ ys → xs ≡ []
none_begun [] ys e = refl
none_begun (x ∷ xs) ys e = cc

-- what is left of the next line, where lines follow
abbrev left_of : (done rest more : List Line) → List Item → List Item
left_of done [] more left = next_items done more
left_of done (line ∷ rest) more left = left

pub parts_of : (done rest more : List Line) (begun left : List Item) → next_items done rest ≡ begun ++ left → next_items done (rest ++ more) ≡ begun ++ left_of done rest more left
parts_of done [] more begun left e = ap (λ (xs : List Item). xs ++ next_items done more) (sym (none_begun begun left e))
parts_of done (line ∷ rest) more begun left e = e

pub within_of : (done rest more : List Line) (begun left : List Item) → next_items done rest ≡ begun ++ left → (left ≡ [] → begun ≡ []) → left_of done rest more left ≡ [] → begun ≡ []
within_of done [] more begun left e within none = none_begun begun left e
within_of done (line ∷ rest) more begun left e within none = within none

abbrev pub lifted : {table : List Row} {first script : Script} → BeginsAs first script → Progress table first → Progress table script
lifted b c = record {
  done = c.done;
  rest = c.rest ++ b.rest;
  begun = c.begun;
  left = left_of c.done c.rest b.rest c.left;
  played = c.played;
  last = c.last;
  lines = sym (append_assoc c.done c.rest b.rest) ∙ ap (λ (ls : List Line). ls ++ b.rest) c.lines ∙ sym b.lines;
  parts = parts_of c.done c.rest b.rest c.begun c.left c.parts;
  within = within_of c.done c.rest b.rest c.begun c.left c.parts c.within;
  items = c.items;
  ground = c.ground;
  grounded = c.grounded;
  run = c.run;
}

stopped_on : (done rest more : List Line) (begun left : List Item) (last : Option World) (old new : List Device) → next_items done rest ≡ begun ++ left → begun ≢ [] → StoppedIn (motes_in done) rest left last old new
    → StoppedIn (motes_in done) (rest ++ more) (left_of done rest more left) last old new
stopped_on done [] more begun left last old new e some s = absurd (some (none_begun begun left e))
stopped_on done (line ∷ rest) more begun left last old new e some s = record { stopped = s.stopped; there = s.there }

no_items : {A : Type 0} (xs ys : List Item) → EventNext ys → [] ≡ xs ++ ys → A
no_items [] ys e none = absurd (let f : [] ≡ Applies e.step e.reported ∷ e.more = none ∙ e.is in cc)
no_items (x ∷ xs) ys e none = absurd (cc)

lacks_rest : (done rest more : List Line) (begun left : List Item) (w : World) (old new : List Device) → next_items done rest ≡ begun ++ left → LacksImage w left old new → LacksImage w (left_of done rest more left) old new
lacks_rest done [] more begun left w old new e h = no_items begun left h.next e
lacks_rest done (line ∷ rest) more begun left w old new e h = h

lacks_on : (last : Option World) (done rest more : List Line) (begun left : List Item) (old new : List Device) → next_items done rest ≡ begun ++ left → InSome last (λ w. LacksImage w left old new) → InSome last (λ w. LacksImage w (left_of done rest more left) old new)
lacks_on None done rest more begun left old new e h = h
lacks_on (Some w) done rest more begun left old new e h = lacks_rest done rest more begun left w old new e h

-- a replay that ended at the next item ended there
end_on : (saw : Saw) (last : Option World) (done rest more : List Line) (begun left : List Item) → next_items done rest ≡ begun ++ left → StaysSeen (ended_saw saw last left) (ended_saw saw last (left_of done rest more left))
end_on saw last done (line ∷ rest) more begun left e = λ stores events f. f
end_on saw None done [] more begun left e = λ stores events f. absurd f
end_on saw (Some w) done [] more begun [] e = λ stores events f. absurd f
end_on saw (Some w) done [] more begun (Declares row ∷ left) e = λ stores events f. absurd f
end_on saw (Some w) done [] more begun (Applies step reported ∷ left) e = λ stores events f.
    no_items begun (Applies step reported ∷ left) (record { step = step; reported = reported; more = left; is = refl }) e

left_there : {table : List Row} {first script : Script} (b : BeginsAs first script) (c : Progress table first) (initial now : List Device) → BoardsLeft status.WriteFault c initial now → BoardsLeft status.WriteFault (lifted b c) initial now
left_there b c initial now (inl stand) = inl stand
left_there b c initial now (inr (inr (inr (uses, lacks)))) = inr (inr (inr (uses, lacks_on c.last c.done c.rest b.rest c.begun c.left initial now c.parts lacks)))
left_there b c initial now (inr (inr (inl lacking))) = inr (inr (inl (record { more = lacking.more ++ b.rest; next = ap (λ (ls : List Line). ls ++ b.rest) lacking.next; there = lacking.there })))
left_there b c initial now (inr (inl (some, stop))) = inr (inl (some, stopped_on c.done c.rest b.rest c.begun c.left c.last initial now c.parts some stop))

told_there : {table : List Row} {first script : Script} (b : BeginsAs first script) (c : Progress table first) (line : ℕ) (text : List ℕ) → ReportedBefore line c text → ReportedBefore line (lifted b c) text
told_there b c line text t = record { lines = t.lines; within = t.within; behind = t.behind; more = t.more; reported = t.reported }

many_on : (done rest more : List Line) (begun left : List Item) (played : List Played) → next_items done rest ≡ begun ++ left → AtTooMany left played → AtTooMany (left_of done rest more left) played
many_on done [] more begun left played e at = no_items begun left at.next e
many_on done (line ∷ rest) more begun left played e at = at

stopped_line : (done rest more : List Line) (left : List Item) (last : Option World) (old new : List Device) (line : Line) (behind : List Line) → rest ≡ line ∷ behind → StoppedIn (motes_in done) rest left last old new
    → StoppedIn (motes_in done) (rest ++ more) (left_of done rest more left) last old new
stopped_line done [] more left last old new line behind e s = absurd (let f : [] ≡ line ∷ behind = e in cc)
stopped_line done (l ∷ rest) more left last old new line behind e s = record { stopped = s.stopped; there = s.there }

-- boards keep their bytes in the longer script
left_away : (m : ℕ) (done rest more : List Line) (begun left before : List Item) → next_items done rest ≡ begun ++ left → AllByRecursion (IsElsewhere m) (before ++ left_of done rest more left) → AllByRecursion (IsElsewhere m) (before ++ left)
left_away m done [] more begun left before e away =
    subst (λ (xs : List Item). AllByRecursion (IsElsewhere m) (before ++ xs)) (sym (none_left begun left e))
    (subst (AllByRecursion (IsElsewhere m)) (sym (append-nil before)) (all_front (IsElsewhere m) before (next_items done more) away))
  where
    none_left : (xs ys : List Item) → [] ≡ xs ++ ys → ys ≡ []
    none_left [] ys e = sym e
    none_left (x ∷ xs) ys e = cc
left_away m done (line ∷ rest) more begun left before e away = away

pub untouched_lifted : {table : List Row} {first script : Script} (b : BeginsAs first script) (c : Progress table first) (initial now : List Device) → Untouched c initial now → Untouched (lifted b c) initial now
untouched_lifted {first = first} b c initial now kept = λ none m away.
    kept (all_front FormatsNone first.lines b.rest (subst (AllByRecursion FormatsNone) b.lines none)) m (left_away m c.done c.rest b.rest c.begun c.left (map item_played c.played) c.parts away)

-- ---- its lines are whole

module _ (front ahead : List ℕ) (is : IsWholeLines front) (few : length front ≤ most_used_bytes) where
  pub begins : (more : List ℕ) → BeginsAs (script_from false first_place 1 (lines front)) (script_of ((front ++ ahead) ++ more))
  begins more = subst (λ (xs : List ℕ). BeginsAs (script_from false first_place 1 (lines front)) (script_of xs)) (sym (append_assoc front ahead more)) (front_begins front (ahead ++ more) is few)

  -- some of the lines of whole lines are whole
  front_whole : (done rest : List Line) → done ++ rest ≡ (script_from false first_place 1 (lines front)).lines → AreWhole (front ++ ahead) done
  front_whole done rest are = λ more.
      let b = begins more in
      (rest ++ b.rest, sym (append_assoc done rest b.rest) ∙ ap (λ (ls : List Line). ls ++ b.rest) are ∙ sym b.lines)

  pub progress_whole : {table : List Row} (c : Progress table (script_from false first_place 1 (lines front))) → AreWhole (front ++ ahead) c.done
  progress_whole c = front_whole c.done c.rest c.lines

  next_of : (done rest more : List Line) (line : Line) (behind : List Line) → rest ≡ line ∷ behind → done ++ rest ≡ (script_from false first_place 1 (lines front)).lines → NextIsWhole (front ++ ahead) done (rest ++ more)
  next_of done [] more line behind e are = absurd (let f : [] ≡ line ∷ behind = e in cc)
  next_of done (l ∷ rest) more line behind e are = front_whole (done ++ l ∷ []) rest (append_assoc done (l ∷ []) rest ∙ are)

  -- the line at which a board stopped is whole too
  pub next_whole : {table : List Row} (c : Progress table (script_from false first_place 1 (lines front))) (more : List Line) (line : Line) (behind : List Line) → c.rest ≡ line ∷ behind → NextIsWhole (front ++ ahead) c.done (c.rest ++ more)
  next_whole c more line behind e = next_of c.done c.rest more line behind e c.lines

  done_of : (done rest more : List Line) (begun left : List Item) → next_items done rest ≡ begun ++ left → done ++ rest ≡ (script_from false first_place 1 (lines front)).lines → DoneIsWhole (front ++ ahead) done (rest ++ more) begun
  done_of done rest more [] left e are = front_whole done rest are
  done_of done [] more (x ∷ begun) left e are = absurd (let f : [] ≡ x ∷ (begun ++ left) = e in cc)
  done_of done (line ∷ rest) more (x ∷ begun) left e are = front_whole (done ++ line ∷ []) rest (append_assoc done (line ∷ []) rest ∙ are)

  -- a line that was begun is whole too
  pub done_whole : {table : List Row} (c : Progress table (script_from false first_place 1 (lines front))) (more : List Line) → DoneIsWhole (front ++ ahead) c.done (c.rest ++ more) c.begun
  done_whole c more = done_of c.done c.rest more c.begun c.left c.parts c.lines

  -- the script of these bytes
  begins_here : BeginsAs (script_from false first_place 1 (lines front)) (script_of (front ++ ahead))
  begins_here = front_begins front ahead is few

  -- A stop at the last line of whole lines is one in every script that begins with them, and the bytes are enough for it.
  module _ (at_end : Type 0) (number : ℕ) (initial now : List Device) (before after : Option (List ℕ)) (failed : Type 0) (S H : Saw) where
    fault_here : {table : List Row} (line : ℕ) (fault : LineFault) → StopsThere table (BadInput line fault) (script_from false first_place 1 (lines front)) number (span initial now before after S H) failed
        → StopsInTaken table (BadInput line fault) (script_of (front ++ ahead)) (bytes_taken (front ++ ahead) at_end) number (span initial now before after S H) failed
    fault_here {table} line fault (same, f) =
        let first : Script = script_from false first_place 1 (lines front) in
        let input : List ℕ = front ++ ahead in
        let Q : (s : Script) → Progress table s → Type 0 = λ s c. (c.rest ≡ []) × (s.fault ≡ Some (line, fault)) × BoardsStand c.last initial now × HasFew s initial × ((at_end ⊎ DoneIsWhole input c.done c.rest c.begun) × IsLeft (span initial now before after S H) H c) in
        let P : Script → Type 0 = λ s. PlayedUpTo table s initial before after (Q s) in
        let c = f.came in
        let all : DoneIsWhole input c.done c.rest c.begun = subst (λ (r : List Line). DoneIsWhole input c.done r c.begun) (append-nil c.rest) (done_whole c []) in
        let made : P first = record { came = c; reported = f.reported; limits = f.limits; stood = f.stood; there = (f.there.0, f.there.1, f.there.2, f.there.3, (inr all, f.there.4)) } in
        (same, subst P (sym (begins_here.fault (line, fault) f.there.1)) made)

    -- a watcher saw that the replay goes on, or that it ended
    cut_here : {table : List Row} (c : Progress table (script_from false first_place 1 (lines front)))
        → IsLeft (span initial now before after S H) H c ⊎ IsLeft (span initial now before after S H) (ended_saw H c.last c.left) c
        → ((at_end ⊎ DoneIsWhole (front ++ ahead) c.done (c.rest ++ begins_here.rest) c.begun) × IsLeft (span initial now before after S H) H (lifted begins_here c))
        ⊎ ((at_end ⊎ DoneIsWhole (front ++ ahead) c.done (c.rest ++ begins_here.rest) c.begun) × IsLeft (span initial now before after S H) (ended_saw H c.last (left_of c.done c.rest begins_here.rest c.left)) (lifted begins_here c))
    cut_here c (inl (kept, seen)) = inl (inr (done_whole c begins_here.rest), (untouched_lifted begins_here c initial now kept, seen))
    cut_here c (inr (kept, seen)) = inr (inr (done_whole c begins_here.rest), (untouched_lifted begins_here c initial now kept, λ f. end_on H c.last c.done c.rest begins_here.rest c.begun c.left c.parts _ _ (seen f)))

    pub stops_here : (table : List Row) (stop : Stop) → StopsThere table stop (script_from false first_place 1 (lines front)) number (span initial now before after S H) failed
        → (stop ≡ TooMany → lacking (length initial) (script_of (front ++ ahead)).lines ≡ None)
        → StopsInTaken table stop (script_of (front ++ ahead)) (bytes_taken (front ++ ahead) at_end) number (span initial now before after S H) failed
    stops_here table Memory f enough =
        record { came = lifted begins_here f.came; text = f.text; more = f.more; reported = f.reported; whole = f.whole; limits = f.limits; stood = f.stood; there = (f.there.0, (inr (done_whole f.came begins_here.rest), (untouched_lifted begins_here f.came initial now f.there.1.0, f.there.1.1))) }
    stops_here table (BadInput line fault) f enough = fault_here line fault f
    stops_here table WriteFault (rose, f) enough = (
      rose,
      record {
        came = lifted begins_here f.came;
        text = f.text;
        more = f.more;
        reported = f.reported;
        whole = f.whole;
        limits = f.limits;
        stood = f.stood;
        there = (left_there begins_here f.came initial now f.there.0, told_there begins_here f.came number f.text f.there.1, cut_here f.came f.there.2);
      },
    )
    stops_here table FlashFault f enough =
        let c = f.came in
        let b = begins_here in
        let at = f.there.0 in
        record {
          came = lifted b c;
          reported = f.reported;
          limits = f.limits;
          stood = f.stood;
          there = (
            (at.0, at.1 ++ b.rest, ap (λ (ls : List Line). ls ++ b.rest) at.2, at.3),
            stopped_line c.done c.rest b.rest c.left c.last initial now at.0 at.1 at.2 f.there.1,
            (inr (next_whole c b.rest at.0 at.1 at.2), (untouched_lifted b c initial now f.there.2.0, f.there.2.1)),
          );
        }
    stops_here table TooMany f enough =
        let c = f.came in
        let b = begins_here in
        record {
          came = lifted b c;
          reported = f.reported;
          limits = f.limits;
          stood = f.stood;
          there = (many_on c.done c.rest b.rest c.begun c.left c.played c.parts f.there.0, f.there.1, enough refl, (inr (done_whole c b.rest), (untouched_lifted b c initial now f.there.3.0, f.there.3.1)));
        }
    stops_here table (NoBoard motes boards) f enough =
        let c = f.came in
        let b = begins_here in
        record {
          came = lifted b c;
          reported = f.reported;
          limits = f.limits;
          stood = f.stood;
          there = (f.there.0, (f.there.1.0 ++ b.rest, ap (λ (ls : List Line). ls ++ b.rest) f.there.1.1), f.there.2, f.there.3, (inr (done_whole c b.rest), (untouched_lifted b c initial now f.there.4.0, f.there.4.1)));
        }
    stops_here table NoImage f enough =
        let c = f.came in
        let b = begins_here in
        let at = f.there.0 in
        record {
          came = lifted b c;
          reported = f.reported;
          limits = f.limits;
          stood = f.stood;
          there = (
            (at.0, at.1 ++ b.rest, ap (λ (ls : List Line). ls ++ b.rest) at.2),
            f.there.1,
            lacks_on c.last c.done c.rest b.rest c.begun c.left initial now c.parts f.there.2,
            λ more. told_there b c number (played_text c.played ++ more) (f.there.3 more),
            (inr (next_whole c b.rest at.0 at.1 at.2), (untouched_lifted b c initial now f.there.4.0, λ seen. end_on H c.last c.done c.rest b.rest c.begun c.left c.parts _ _ (f.there.4.1 seen))),
          );
        }
    stops_here table NotAVolume f enough =
        let c = f.came in
        let b = begins_here in
        let lacking = f.there.0 in
        record {
          came = lifted b c;
          reported = f.reported;
          limits = f.limits;
          stood = f.stood;
          there = (
            record { more = lacking.more ++ b.rest; next = ap (λ (ls : List Line). ls ++ b.rest) lacking.next; there = lacking.there },
            λ more. told_there b c number (played_text c.played ++ more) (f.there.1 more),
            (inr (next_whole c b.rest Boards lacking.more lacking.next), (untouched_lifted b c initial now f.there.2.0, f.there.2.1)),
          );
        }
