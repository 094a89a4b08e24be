-- What was played of an input that is read line by line.
use Rattle.std.proofs.Common.{◌≡◌, ◌⊎◌, ⊎_elim, inl, inr, ℕ, ◌+◌, ◌-◌, ◌<◌, ◌≤◌, Bool, true, false, not, List, [], ◌∷◌, ◌++◌, length, take, append-nil, append_assoc, length-append, refl, ap, sym, ◌∙◌, subst, arith}
use Rattle.std.specs.Prelude.{Option, None, Result, Ok, Err, IsErrAnd}
use Rattle.std.specs.Str.Lines.{lines}
use Rattle.dg_base.specs.Outside.{Takes}
use Rattle.dg_nor.specs.Device.{Device}
use Rattle.dg_object.specs.Object.{Row}
use Rattle.dg_lines.specs.LineReading.{Reading, HasNoEnd, IsLine, IsLastLine, Gives, IsAtEnd, IsTooLong}
use Rattle.dg_script.specs.Places.{first_place}
use Rattle.dg_script.specs.Script.{Script, script_from}
use Rattle.dg_script.specs.Sizes.{most_used_bytes, most_kept}
use Rattle.dg_script.specs.declared.line.Line.{Line}
use Rattle.dg_replay.specs.Boards.{BoardsStand}
use Rattle.dg_replay.specs.Items.{lacking}
use Rattle.dg_replay.specs.Ending.{script_of, has_unused_bytes, used, ending_of}
use Rattle.dg_replay.specs.Prefixes.{IsWholeLines}
use Rattle.dg_replay.specs.Following.{LineTaken, AllAsBefore, NextPlayed}
use Rattle.dg_replay.specs.Near.{behind_lines}
use Rattle.dg_replay.specs.Replayed.{Progress, IsSettled, AllRead, AllWhole, AreWhole}
use Rattle.dg_replay.specs.Playing.{Ready}
use Rattle.dg_replay.specs.Replaying.{Reached, PlayedUpTo, StopsAtText, IsLeft, StopsThere, IsWholeAt, StopsInTaken, ByRules}
use Rattle.dg_replay.specs.declared.halt.Halt.{Halt}
use Rattle.dg_replay.specs.declared.halt.Halt.TheVariants.{ReadFault, TooLong, Stopped}
use Rattle.dg_replay.specs.declared.player.Player.{Player}
use Rattle.dg_replay.specs.declared.stop.Stop.{Stop}
use Rattle.dg_replay.specs.Shown.{Saw, ended_saw}
use Rattle.dg_replay.specs.Stages.{done_so_far, replay_state, Span, span}
use Rattle.dg_replay.specs.inner.Words.{bytes_taken}
use Rattle.dg_replay.specs.declared.stop.Stop.TheVariants.{Memory, BadInput, WriteFault, FlashFault, TooMany, NoBoard, NoImage, NotAVolume}
use Rattle.dg_replay.proofs.EndLemmas.{script_all, script_over, stop_ending, bounds_done}
use Rattle.dg_replay.proofs.FollowingLemmas.{TextPlays}
use Rattle.dg_replay.proofs.FrontLemmas.{used_begins, script_begins, front_begins}
use Rattle.dg_replay.proofs.GoldenLemmas.{ImageIsFound}
use Rattle.dg_replay.proofs.BytesLemmas.{untouched_done}
use Rattle.dg_replay.proofs.LiftLemmas.{lifted, untouched_lifted, progress_whole, stops_here}
use Rattle.dg_replay.proofs.LineByLine.{PrefixPlayed, front_more, front_stopped, text_stopped, behind_more}
use Rattle.dg_replay.proofs.ReplayLemmas.{ready_of}
use Rattle.dg_replay.proofs.NextLineLemmas.{at_line}
use Rattle.dg_replay.proofs.SeenLemmas.{reached_seen}
use Rattle.dg_replay.proofs.UsedLemmas.{whole_of_taken, over_used, all_read}
use Rattle.dg_replay.proofs.LinesReadLemmas.{LinesRead, PlaysText, joined, joined_line, last_text, behind_last, then_none, Comes, at_number}

-- where nothing was played
pub reached_same : {table : List Row} {S G H : Saw} (ends : Bool) (script : Script) (n : ℕ) (p q : Player) (initial was now : List Device) (before mid after : Option (List ℕ)) → AllAsBefore (replay_state p was mid G) (replay_state q now after H) → Reached table ends script [] n p (span initial was before mid S G) → Reached table ends script [] n q (span initial now before after S H)
reached_same {table} {S = S} {H = H} ends script n p q initial was now before mid after same r =
    let next : Reached table ends script [] n p (span initial was before mid S H) = reached_seen ends script n p initial was before mid same.seen r in
    subst (λ (o : Option (List ℕ)). Reached table ends script [] n q (span initial now before o S H)) (sym same.written)
    (subst (λ (ds : List Device). Reached table ends script [] n q (span initial ds before mid S H)) (sym same.boards) (subst (λ (x : Player). Reached table ends script [] n x (span initial was before mid S H)) (sym same.player) next))

-- no line was left
pub lines_end : {S G H : Saw} (a b c : Option (List ℕ)) (reads writes : Type 0) (old new : Reading) (more : List ℕ) (number : ℕ) (p q : Player) (initial was now : List Device) (before mid after : Option (List ℕ)) (at_end : Type 0)
    → LinesRead a b old number p initial was before mid S G → Takes b c more → IsAtEnd (old.ahead ++ more) old new at_end → AllAsBefore (replay_state p was mid G) (replay_state q now after H)
    → Comes a c (Ok (q, number)) at_end reads (span initial now before after S H) writes
lines_end {S = S} {G = G} a b c reads writes old new more number p q initial was now before mid after at_end i taken ended same =
    let input : List ℕ = i.front in
    let f = i.played in
    let all : Takes a c input = subst (λ (xs : List ℕ). Takes a c xs) (ap (λ (xs : List ℕ). i.front ++ xs) ended.none ∙ append-nil i.front) (joined a b c i.front old.ahead more i.taken taken) in
    let few : length input ≤ most_used_bytes = omega (arith, i.passed, i.used) in
    let behind : behind_lines i.given input ≡ [] = ap (behind_lines i.given) (sym (append-nil input)) ∙ f.behind [] in
    let script : script_from true first_place 1 (lines input ++ []) ≡ script_of input = ap (λ (ls : List (List ℕ)). script_from true first_place 1 ls) (append-nil (lines input)) ∙ sym (script_all input few) in
    let r : (table : List Row) → Reached table true (script_of input) [] (i.given + 1) p (span initial was before mid S G) =
    λ table. subst (λ (s : Script). Reached table true s [] (i.given + 1) p (span initial was before mid S G)) script (f.reached table true []) in (
      input,
      all,
      λ table. (
        ended.ended,
        few,
        ap (λ k. behind_lines k input) i.numbered ∙ then_none i.given input behind,
        at_number (script_of input) number (i.given + 1) q initial now before after i.numbered (reached_same true (script_of input) (i.given + 1) p q initial was now before mid after same (r table)),
      ),
    )

-- ---- reads that stop

-- the script of the lines that were read so far
front_reached : {table : List Row} {S H : Saw} (front : List ℕ) (given : ℕ) (p : Player) (initial now : List Device) (before after : Option (List ℕ)) → PrefixPlayed front given p initial now before after S H
    → Reached table false (script_from false first_place 1 (lines front)) [] (given + 1) p (span initial now before after S H)
front_reached {table} {S = S} {H = H} front given p initial now before after f =
    subst (λ (ls : List (List ℕ)). Reached table false (script_from false first_place 1 ls) [] (given + 1) p (span initial now before after S H)) (append-nil (lines front)) (f.reached table false [])

whole_read : (front bytes : List ℕ) (done : List Line) → IsWholeLines front → HasNoEnd bytes → AllRead (lines front) done → AllWhole (front ++ bytes) done
whole_read front bytes done is none all = subst (λ (xs : List ℕ). AllRead (lines xs) done) (sym (whole_of_taken front bytes is none)) all

read_stopped : {table : List Row} {S H : Saw} (front bytes : List ℕ) (given : ℕ) (p : Player) (initial now : List Device) (before after : Option (List ℕ)) → IsWholeLines front → length front ≤ most_used_bytes → HasNoEnd bytes
    → Reached table false (script_from false first_place 1 (lines front)) [] (given + 1) p (span initial now before after S H)
    → PlayedUpTo table (script_of (front ++ bytes)) initial before after (λ c. (c.begun ≡ []) × BoardsStand c.last initial now × AreWhole (front ++ bytes) c.done × AllWhole (front ++ bytes) c.done × IsLeft (span initial now before after S H) H c)
read_stopped front bytes given p initial now before after is few none r =
    let first : Script = script_from false first_place 1 (lines front) in
    let c = at_line false first [] (given + 1) p initial now before after r in
    record {
      came = lifted (front_begins front bytes is few) c;
      reported = r.reported;
      limits = bounds_done false first (given + 1) p initial now before after r;
      stood = λ uses. (r.grounded uses).1;
      there = (
        refl,
        r.stood.boards,
        progress_whole front bytes is few c,
        whole_read front bytes r.done is none (all_read (lines front) (given + 1) p initial now before after r),
        (untouched_lifted (front_begins front bytes is few) c initial now (untouched_done c initial now r.untouched), r.seen),
      );
    }

pub lines_failed : {S G H : Saw} (a b c : Option (List ℕ)) (reads failed writes : Type 0) → (failed → reads) → (old : Reading) (more : List ℕ) (number : ℕ) (p q : Player) (initial was now : List Device) (before mid after : Option (List ℕ)) (at_end : Type 0)
    → LinesRead a b old number p initial was before mid S G → Takes b c more → failed × HasNoEnd (old.ahead ++ more) × (old.passed + length (old.ahead ++ more) ≤ most_used_bytes) × AllAsBefore (replay_state p was mid G) (replay_state q now after H)
    → Comes a c (Err ReadFault) at_end reads (span initial now before after S H) writes
lines_failed {S = S} {H = H} a b c reads failed writes spread old more number p q initial was now before mid after at_end i taken (rose, none, fits, same) =
    let bytes : List ℕ = old.ahead ++ more in
    let few : length (i.front ++ bytes) ≤ most_used_bytes = omega (arith, length-append i.front bytes, i.passed, fits) in
    let r : (table : List Row) → Reached table false (script_from false first_place 1 (lines i.front)) [] (i.given + 1) q (span initial now before after S H) =
    λ table. reached_same false (script_from false first_place 1 (lines i.front)) (i.given + 1) p q initial was now before mid after same (front_reached i.front i.given p initial was before mid i.played) in (
      i.front ++ bytes,
      joined a b c i.front old.ahead more i.taken taken,
      λ table. (spread rose, few, read_stopped i.front bytes i.given q initial now before after i.played.is (omega (arith, length-append i.front bytes, few)) none (r table)),
    )

pub lines_over : {S G H : Saw} (a b c : Option (List ℕ)) (reads writes : Type 0) (old : Reading) (more : List ℕ) (number : ℕ) (p q : Player) (initial was now : List Device) (before mid after : Option (List ℕ)) (at_end : Type 0)
    → LinesRead a b old number p initial was before mid S G → Takes b c more → IsTooLong (old.ahead ++ more) old × AllAsBefore (replay_state p was mid G) (replay_state q now after H)
    → Comes a c (Err TooLong) at_end reads (span initial now before after S H) writes
lines_over {S = S} {H = H} a b c reads writes old more number p q initial was now before mid after at_end i taken (over, same) =
    let bytes : List ℕ = old.ahead ++ more in
    let input : List ℕ = i.front ++ bytes in
    let long : length input ≡ most_used_bytes + 1 = omega (arith, length-append i.front bytes, i.passed, over.all) in
    let few : length i.front ≤ most_used_bytes = omega (arith, i.passed, i.used) in
    let none : HasNoEnd (take (most_used_bytes - length i.front) bytes) = subst (λ k. HasNoEnd (take (most_used_bytes - k) bytes)) i.passed over.none in
    let uses : used input ≡ i.front = over_used i.front bytes i.played.is few (omega (arith, long)) none in
    let script : script_from false first_place 1 (lines i.front) ≡ script_of input = sym (script_over input i.front (omega (arith, long)) uses) in
    let r : (table : List Row) → Reached table false (script_from false first_place 1 (lines i.front)) [] (i.given + 1) q (span initial now before after S H) =
    λ table. reached_same false (script_from false first_place 1 (lines i.front)) (i.given + 1) p q initial was now before mid after same (front_reached i.front i.given p initial was before mid i.played) in (
      input,
      joined a b c i.front old.ahead more i.taken taken,
      λ table. (long, (i.given + 1, q, subst (λ (s : Script). Reached table false s [] (i.given + 1) q (span initial now before after S H)) script (r table))),
    )

-- ---- a line at which a replay stops

-- a stop with one more property of what was done
stops_with : {table : List Row} (stop : Stop) (script : Script) (W : Saw → Progress table script → Type 0) (number : ℕ) (initial now : List Device) (before after : Option (List ℕ)) (failed : Type 0) (S H : Saw) → ((saw : Saw) (c : Progress table script) → IsLeft (span initial now before after S H) saw c → W saw c)
    → StopsThere table stop script number (span initial now before after S H) failed → StopsAtText table stop script W number (span initial now before after S H) failed
stops_with Memory script W number initial now before after failed S H w f = record { came = f.came; text = f.text; more = f.more; reported = f.reported; whole = f.whole; limits = f.limits; stood = f.stood; there = (f.there.0, w H f.came f.there.1) }
stops_with (BadInput line fault) script W number initial now before after failed S H w (same, f) = (same, record { came = f.came; reported = f.reported; limits = f.limits; stood = f.stood; there = (f.there.0, f.there.1, f.there.2, f.there.3, w H f.came f.there.4) })
stops_with WriteFault script W number initial now before after failed S H w (rose, f) = (rose, record { came = f.came; text = f.text; more = f.more; reported = f.reported; whole = f.whole; limits = f.limits; stood = f.stood; there = (f.there.0, f.there.1, ⊎_elim (λ k. inl (w H f.came k)) (λ k. inr (w (ended_saw H f.came.last f.came.left) f.came k)) f.there.2) })
stops_with FlashFault script W number initial now before after failed S H w f = record { came = f.came; reported = f.reported; limits = f.limits; stood = f.stood; there = (f.there.0, f.there.1, w H f.came f.there.2) }
stops_with TooMany script W number initial now before after failed S H w f = record { came = f.came; reported = f.reported; limits = f.limits; stood = f.stood; there = (f.there.0, f.there.1, f.there.2, w H f.came f.there.3) }
stops_with (NoBoard motes boards) script W number initial now before after failed S H w f = record { came = f.came; reported = f.reported; limits = f.limits; stood = f.stood; there = (f.there.0, f.there.1, f.there.2, f.there.3, w H f.came f.there.4) }
stops_with NoImage script W number initial now before after failed S H w f = record { came = f.came; reported = f.reported; limits = f.limits; stood = f.stood; there = (f.there.0, f.there.1, f.there.2, f.there.3, w (ended_saw H f.came.last f.came.left) f.came f.there.4) }
stops_with NotAVolume script W number initial now before after failed S H w f = record { came = f.came; reported = f.reported; limits = f.limits; stood = f.stood; there = (f.there.0, f.there.1, w H f.came f.there.2) }

by_rules : (stop : Stop) {S : Type 0} → S → ByRules stop S
by_rules Memory s = tt
by_rules (BadInput line fault) s = s
by_rules WriteFault s = tt
by_rules FlashFault s = tt
by_rules TooMany s = s
by_rules (NoBoard motes boards) s = s
by_rules NoImage s = tt
by_rules NotAVolume s = tt

lacking_of : (table : List Row) (stop : Stop) (script : Script) (number : ℕ) (initial now : List Device) (before after : Option (List ℕ)) (failed : Type 0) (S H : Saw) → StopsThere table stop script number (span initial now before after S H) failed → stop ≡ TooMany → lacking (length initial) script.lines ≡ None
lacking_of table TooMany script number initial now before after failed S H f e = f.there.2
lacking_of table Memory script number initial now before after failed S H f e = absurd cc
lacking_of table (BadInput line fault) script number initial now before after failed S H f e = absurd cc
lacking_of table WriteFault script number initial now before after failed S H f e = absurd cc
lacking_of table FlashFault script number initial now before after failed S H f e = absurd cc
lacking_of table (NoBoard motes boards) script number initial now before after failed S H f e = absurd cc
lacking_of table NoImage script number initial now before after failed S H f e = absurd cc
lacking_of table NotAVolume script number initial now before after failed S H f e = absurd cc

abbrev same_ending : (table : List Row) (stop : Stop) (input more : List ℕ) (number : ℕ) (s : Span) (failed : Type 0) → Type 0
same_ending table stop input more number s failed =
    StopsThere table stop (script_of (input ++ more)) number s failed → StopsThere table stop (script_of input) number s failed → ByRules stop (ending_of (length s.initial) (input ++ more) ≡ ending_of (length s.initial) input)

ends_same : (table : List Row) (stop : Stop) (input more : List ℕ) (number : ℕ) (initial now : List Device) (before after : Option (List ℕ)) (failed : Type 0) (S H : Saw) → same_ending table stop input more number (span initial now before after S H) failed
ends_same table Memory input more number initial now before after failed S H f g = tt
ends_same table (BadInput line fault) input more number initial now before after failed S H f g =
    stop_ending (BadInput line fault) (has_unused_bytes (input ++ more)) (script_of (input ++ more)) (λ saw c. IsLeft (span initial now before after S H) saw c) number initial now before after failed S H f
    ∙ sym (stop_ending (BadInput line fault) (has_unused_bytes input) (script_of input) (λ saw c. IsLeft (span initial now before after S H) saw c) number initial now before after failed S H g)
ends_same table WriteFault input more number initial now before after failed S H f g = tt
ends_same table FlashFault input more number initial now before after failed S H f g = tt
ends_same table TooMany input more number initial now before after failed S H f g =
    stop_ending TooMany (has_unused_bytes (input ++ more)) (script_of (input ++ more)) (λ saw c. IsLeft (span initial now before after S H) saw c) number initial now before after failed S H f
    ∙ sym (stop_ending TooMany (has_unused_bytes input) (script_of input) (λ saw c. IsLeft (span initial now before after S H) saw c) number initial now before after failed S H g)
ends_same table (NoBoard motes boards) input more number initial now before after failed S H f g =
    stop_ending (NoBoard motes boards) (has_unused_bytes (input ++ more)) (script_of (input ++ more)) (λ saw c. IsLeft (span initial now before after S H) saw c) number initial now before after failed S H f
    ∙ sym (stop_ending (NoBoard motes boards) (has_unused_bytes input) (script_of input) (λ saw c. IsLeft (span initial now before after S H) saw c) number initial now before after failed S H g)
ends_same table NoImage input more number initial now before after failed S H f g = tt
ends_same table NotAVolume input more number initial now before after failed S H f g = tt

-- the rules end every input that begins with these bytes there
settled_by : (stop : Stop) (input : List ℕ) (at_end : Type 0) (n : ℕ) → ((more : List ℕ) → ByRules stop (ending_of n (input ++ more) ≡ ending_of n input)) → ByRules stop (at_end ⊎ IsSettled n input)
settled_by Memory input at_end n same = tt
settled_by (BadInput line fault) input at_end n same = inr same
settled_by WriteFault input at_end n same = tt
settled_by FlashFault input at_end n same = tt
settled_by TooMany input at_end n same = inr same
settled_by (NoBoard motes boards) input at_end n same = inr same
settled_by NoImage input at_end n same = tt
settled_by NotAVolume input at_end n same = tt

-- whatever follows whole lines
module _ (table : List Row) (stop : Stop) (front rest : List ℕ) (is : IsWholeLines front) (few : length front ≤ most_used_bytes) (number : ℕ) (initial now : List Device) (before after : Option (List ℕ)) (failed : Type 0) (S H : Saw)
    (all : (ends : Bool) (more : List (List ℕ)) → StopsThere table stop (script_from ends first_place 1 (lines front ++ more)) number (span initial now before after S H) failed) where
  in_more : (more : List ℕ) → StopsThere table stop (script_of (front ++ more)) number (span initial now before after S H) failed
  in_more more =
      let u = used_begins front more is few in
      subst (λ (s : Script). StopsThere table stop s number (span initial now before after S H) failed) (sym (script_begins (front ++ more) (lines front) u.0 u.1)) (all (not (has_unused_bytes (front ++ more))) u.0)

  in_front : StopsThere table stop (script_from false first_place 1 (lines front)) number (span initial now before after S H) failed
  in_front = subst (λ (ls : List (List ℕ)). StopsThere table stop (script_from false first_place 1 ls) number (span initial now before after S H) failed) (append-nil (lines front)) (all false [])

  behind_more_bytes : (more : List ℕ) → StopsThere table stop (script_of ((front ++ rest) ++ more)) number (span initial now before after S H) failed
  behind_more_bytes more = subst (λ (xs : List ℕ). StopsThere table stop (script_of xs) number (span initial now before after S H) failed) (sym (append_assoc front rest more)) (in_more (rest ++ more))

  pub settles : (at_end : Type 0) → ByRules stop (at_end ⊎ IsSettled (length initial) (front ++ rest))
  settles at_end = settled_by stop (front ++ rest) at_end (length initial) (λ more. ends_same table stop (front ++ rest) more number initial now before after failed S H (behind_more_bytes more) (in_more rest))

  pub stops_in : (at_end : Type 0) → StopsInTaken table stop (script_of (front ++ rest)) (bytes_taken (front ++ rest) at_end) number (span initial now before after S H) failed
  stops_in at_end = stops_here front rest is few at_end number initial now before after failed S H table stop in_front (lacking_of table stop (script_of (front ++ rest)) number initial now before after failed S H (in_more rest))

-- it stops at a line that ends in LF
stopped_whole : {S G : Saw} (law : ImageIsFound) (stop : Stop) (a c : Option (List ℕ)) (reads at_end : Type 0) (front line text rest : List ℕ) (given : ℕ) (p q : Player) (initial was now : List Device) (before mid after : Option (List ℕ)) (failed worse : Type 0) (H : Saw) → (failed → worse)
    → PrefixPlayed front given p initial was before mid S G → Takes a c ((front ++ line) ++ rest) → length ((front ++ line) ++ rest) ≤ most_used_bytes → length rest ≤ most_kept
    → IsLine text line → PlaysText (Err stop) text (given + 1) initial (replay_state p was mid G) (replay_state q now after H) failed → Comes a c (Err (Stopped stop)) at_end reads (span initial now before after S H) worse
stopped_whole {S = S} law stop a c reads at_end front line text rest given p q initial was now before mid after failed worse H spread f taken fits near l answer =
    let whole : List ℕ = front ++ line in
    let few : length whole ≤ most_used_bytes = omega (arith, length-append whole rest, fits) in
    let is = front_more front text line l in
    let all : (table : List Row) (ends : Bool) (more : List (List ℕ)) → StopsThere table stop (script_from ends first_place 1 (lines whole ++ more)) (given + 1) (span initial now before after S H) worse = front_stopped law stop front text line given p q initial was now before mid after failed worse H spread f l answer.0 (λ done w table s. answer.1 done w table s) in
    let behind : behind_lines (given + 1) (whole ++ rest) ≡ rest = behind_more front text line given f.behind l rest in (
      whole ++ rest,
      taken,
      λ table. (
        fits,
        settles table stop whole rest is few (given + 1) initial now before after worse S H (all table) at_end,
        (given + 1, omega (arith, ap length behind, near), stops_in table stop whole rest is few (given + 1) initial now before after worse S H (all table) at_end),
      ),
    )

-- it stops at the last line of an input that does not end in LF
stopped_part : {S G : Saw} (law : ImageIsFound) (stop : Stop) (a c : Option (List ℕ)) (reads at_end : Type 0) (front line text : List ℕ) (given : ℕ) (p q : Player) (initial was now : List Device) (before mid after : Option (List ℕ)) (failed worse : Type 0) (H : Saw) → (failed → worse)
    → PrefixPlayed front given p initial was before mid S G → Takes a c (front ++ line) → length (front ++ line) ≤ most_used_bytes → at_end
    → IsLastLine text line → PlaysText (Err stop) text (given + 1) initial (replay_state p was mid G) (replay_state q now after H) failed → Comes a c (Err (Stopped stop)) at_end reads (span initial now before after S H) worse
stopped_part {S = S} law stop a c reads at_end front line text given p q initial was now before mid after failed worse H spread f taken fits ended l answer =
    let input : List ℕ = front ++ line in
    let spelled : script_from true first_place 1 (lines front ++ text ∷ []) ≡ script_of input = ap (λ (ls : List (List ℕ)). script_from true first_place 1 ls) (sym (last_text front text line f.is l)) ∙ sym (script_all input fits) in
    let there : (table : List Row) → StopsThere table stop (script_of input) (given + 1) (span initial now before after S H) worse =
    λ table. subst (λ (s : Script). StopsThere table stop s (given + 1) (span initial now before after S H) worse) spelled
    (text_stopped law stop front text given p q initial was now before mid after failed worse H spread f answer.0 (λ done w table s. answer.1 done w table s) table true []) in (
      input,
      taken,
      λ table. (
        fits,
        by_rules stop (inl ended),
        (
          given + 1,
          omega (arith, ap length (behind_last front text line given f.behind l)),
          stops_with stop (script_of input) (λ saw c. (at_end ⊎ IsWholeAt stop input c.done c.rest c.begun) × IsLeft (span initial now before after S H) saw c) (given + 1) initial now before after worse S H (λ saw c kept. (inl ended, kept)) (there table),
        ),
      ),
    )

pub lines_stopped : {S G : Saw} (law : ImageIsFound) (stop : Stop) (a b c : Option (List ℕ)) (reads : Type 0) (old : Reading) (more : List ℕ) (number : ℕ) (p q : Player) (initial was now : List Device) (before mid after : Option (List ℕ)) (at_end failed worse : Type 0) (H : Saw) → (failed → worse)
    → LinesRead a b old number p initial was before mid S G → Takes b c more → (text rest : List ℕ) → LineTaken (old.ahead ++ more) old at_end text rest → PlaysText (Err stop) text (old.number + 1) initial (replay_state p was mid G) (replay_state q now after H) failed
    → Comes a c (Err (Stopped stop)) at_end reads (span initial now before after S H) worse
lines_stopped {G = G} law stop a b c reads old more number p q initial was now before mid after at_end failed worse H spread i taken text rest t answer =
    let bytes : List ℕ = old.ahead ++ more in
    let line = t.first.line in
    let all = joined_line a c i.front line rest bytes t.first.parts (joined a b c i.front old.ahead more i.taken taken) in
    let long : length bytes ≡ length line + length rest = ap length t.first.parts ∙ length-append line rest in
    let fits : length ((i.front ++ line) ++ rest) ≤ most_used_bytes = omega (arith, length-append (i.front ++ line) rest, length-append i.front line, long, i.passed, t.used) in
    let plays : PlaysText (Err stop) text (i.given + 1) initial (replay_state p was mid G) (replay_state q now after H) failed = subst (λ k. PlaysText (Err stop) text (k + 1) initial (replay_state p was mid G) (replay_state q now after H) failed) i.counted answer in
    ⊎_elim
    (λ l. stopped_whole law stop a c reads at_end i.front line text rest i.given p q initial was now before mid after failed worse H spread i.played all fits t.near l plays)
    (λ l.
    let none : (i.front ++ line) ++ rest ≡ i.front ++ line = ap (λ (xs : List ℕ). (i.front ++ line) ++ xs) l.1 ∙ append-nil (i.front ++ line) in
    stopped_part law stop a c reads at_end i.front line text i.given p q initial was now before mid after failed worse H spread i.played
    (subst (λ (xs : List ℕ). Takes a c xs) none all) (subst (λ (xs : List ℕ). length xs ≤ most_used_bytes) none fits) l.2 l.0 plays)
    t.first.is

-- what was played so far is ready for the next line
pub lines_ready : {S H : Saw} (a b : Option (List ℕ)) (reader : Reading) (number : ℕ) (p : Player) (initial now : List Device) (before after : Option (List ℕ)) → LinesRead a b reader number p initial now before after S H → Ready p now
lines_ready a b reader number p initial now before after i = let r = i.played.reached [] true [] in ready_of p r.done r.last initial now r.stood

-- ---- one turn of the loop

-- a line was given and played, and no line was left
pub given_of : (given : Bool) (bytes : List ℕ) (old new : Reading) (A F N : Type 0) (P : Result (Unit {0}) Stop → List ℕ → Type 0) → given ≡ true → NextPlayed (Ok given) (bytes_taken bytes A) old new F N P → Gives bytes old new A × P (Ok tt) new.text
given_of given bytes old new A F N P e h = subst (λ (b : Bool). NextPlayed (Ok b) (bytes_taken bytes A) old new F N P) e h

pub none_of : (given : Bool) (bytes : List ℕ) (old new : Reading) (A F N : Type 0) (P : Result (Unit {0}) Stop → List ℕ → Type 0) → given ≡ false → NextPlayed (Ok given) (bytes_taken bytes A) old new F N P → IsAtEnd bytes old new A × N
none_of given bytes old new A F N P e h = subst (λ (b : Bool). NextPlayed (Ok b) (bytes_taken bytes A) old new F N P) e h

-- fewer bytes are left
pub less_left : (n m k : ℕ) → n < m → m ≤ k → k - m < k - n
less_left n m k h few = omega (arith, h, few)

halt_is : (r : Result (Player × ℕ) Halt) (halt : Halt) → IsErrAnd r (λ e. e ≡ halt) → Err halt ≡ r
halt_is (Ok n) halt h = absurd h
halt_is (Err e) halt h = ap Err (sym h)

-- the replay halts
pub lines_halted : {S G : Saw} (law : ImageIsFound) (r : Result (Player × ℕ) Halt) (halt : Halt) (a b c : Option (List ℕ)) (old new : Reading) (more : List ℕ) (number : ℕ) (p q : Player) (initial was now : List Device) (before mid after : Option (List ℕ)) (at_end rose reads failed writes : Type 0) (H : Saw)
    → (rose → reads) → (failed → writes) → IsErrAnd r (λ e. e ≡ halt) → LinesRead a b old number p initial was before mid S G → Takes b c more
    → NextPlayed (Err halt) (bytes_taken (old.ahead ++ more) at_end) old new rose (AllAsBefore (replay_state p was mid G) (replay_state q now after H)) (λ x t. TextPlays x t (old.number + 1) initial (replay_state p was mid G) (replay_state q now after H) failed)
    → Comes a c r at_end reads (span initial now before after S H) writes
lines_halted {S = S} {G = G} law r halt a b c old new more number p q initial was now before mid after at_end rose reads failed writes H spread widen is i taken h =
    subst (λ (x : Result (Player × ℕ) Halt). Comes a c x at_end reads (span initial now before after S H) writes) (halt_is r halt is) (by_halt halt h)
  where
    by_halt : (x : Halt) → NextPlayed (Err x) (bytes_taken (old.ahead ++ more) at_end) old new rose (AllAsBefore (replay_state p was mid G) (replay_state q now after H)) (λ y t. TextPlays y t (old.number + 1) initial (replay_state p was mid G) (replay_state q now after H) failed) → Comes a c (Err x) at_end reads (span initial now before after S H) writes
    by_halt ReadFault k = lines_failed a b c reads rose writes spread old more number p q initial was now before mid after at_end i taken k
    by_halt TooLong k = lines_over a b c reads writes old more number p q initial was now before mid after at_end i taken k
    by_halt (Stopped stop) k = lines_stopped law stop a b c reads old more number p q initial was now before mid after at_end failed writes H widen i taken k.0 k.1 k.2 (k.3.0, λ done w table s. k.3.1 table (done_so_far done w) s)
