-- What was played of the lines that were read so far, whatever lines follow.
use Rattle.std.proofs.Common.{◌≡◌, inl, inr, ℕ, ◌+◌, ◌==◌, Bool, false, List, [], ◌∷◌, ◌++◌, get_or, All, append_assoc, refl, ap, sym, ◌∙◌, subst}
use Rattle.std.specs.Prelude.{Option, Err}
use Rattle.std.specs.Str.Lines.{lines}
use Rattle.std.proofs.lemmas.Bool.{ne_eqb}
use Rattle.dg_base.proofs.LineLemmas.{lines-ended}
use Rattle.dg_nor.specs.Device.{Device}
use Rattle.dg_rules.specs.World.{World}
use Rattle.dg_object.specs.Object.{Row}
use Rattle.dg_lines.specs.LineReading.{HasNoEnd, IsLine}
use Rattle.dg_script.specs.Places.{first_place}
use Rattle.dg_script.specs.Script.{Script, script_from}
use Rattle.dg_script.specs.declared.line.Line.{Line}
use Rattle.dg_replay.specs.Prefixes.{IsWholeLines}
use Rattle.dg_replay.specs.Playing.{Stood}
use Rattle.dg_replay.specs.Near.{behind_line, behind_lines}
use Rattle.dg_replay.specs.Replaying.{TextReported, TextAnswer, Reached, StopsThere}
use Rattle.dg_replay.specs.declared.player.Player.{Player}
use Rattle.dg_replay.specs.Shown.{Saw}
use Rattle.dg_replay.specs.Stages.{based_on, done_so_far, replay_state, line_read, span}
use Rattle.dg_replay.specs.declared.stop.Stop.{Stop}
use Rattle.dg_replay.specs.Untouched.{TextKeepsBytes}
use Rattle.dg_replay.proofs.FrontLemmas.{lines_front}
use Rattle.dg_replay.proofs.GoldenLemmas.{ImageIsFound, image_found}
use Rattle.dg_replay.proofs.LineRanges.{script_fits}
use Rattle.dg_replay.proofs.NearLemmas.{behind_next, behind_none, behind_whole}
use Rattle.dg_replay.proofs.ReplayLemmas.{reached_first, stopped_at}
use Rattle.dg_replay.proofs.NextLineLemmas.{reached_next}

-- the lines of these bytes, this many of them, were played
pub record PrefixPlayed (front : List ℕ) (given : ℕ) (p : Player) (initial now : List Device) (before after : Option (List ℕ)) (first saw : Saw) : Type 0 where
  pub is : IsWholeLines front
  pub behind : (more : List ℕ) → behind_lines given (front ++ more) ≡ more
  pub reached : (table : List Row) (ends : Bool) (more : List (List ℕ)) → Reached table ends (script_from ends first_place 1 (lines front ++ more)) more (given + 1) p (span initial now before after first saw)

-- nothing was read
pub front_first : {S : Saw} (p : Player) (initial : List Device) (before : Option (List ℕ)) → p.place ≡ first_place → PrefixPlayed [] 0 p initial initial before before S S
front_first p initial before place = record { is = inl refl; behind = λ more. behind_none more; reached = λ table ends more. reached_first ends more p initial before place }

not_feed : (bytes : List ℕ) → HasNoEnd bytes → All (λ b. (b == 10) ≡ false) bytes
not_feed bytes h k d within = ne_eqb (get_or bytes k d) 10 (h k d within)

-- the text of one more line
one_text : (text line : List ℕ) → IsLine text line → lines line ≡ text ∷ []
one_text text line l = ap lines l.ended ∙ lines-ended l.before [] (not_feed l.before l.whole) ∙ ap (λ (t : List ℕ). t ∷ []) (sym l.told)

pub texts_next : (front text line : List ℕ) (more : List (List ℕ)) → IsWholeLines front → IsLine text line → lines (front ++ line) ++ more ≡ lines front ++ text ∷ more
texts_next front text line more is l =
    ap (λ (ls : List (List ℕ)). ls ++ more) (lines_front front line is ∙ ap (λ (ls : List (List ℕ)). lines front ++ ls) (one_text text line l))
    ∙ append_assoc (lines front) (text ∷ []) more

pub front_more : (front text line : List ℕ) → IsLine text line → IsWholeLines (front ++ line)
front_more front text line l = inr (front ++ l.before, ap (λ (xs : List ℕ). front ++ xs) l.ended ∙ sym (append_assoc front l.before (10 ∷ [])))

pub behind_more : (front text line : List ℕ) (given : ℕ) → ((more : List ℕ) → behind_lines given (front ++ more) ≡ more) → IsLine text line → (more : List ℕ) → behind_lines (given + 1) ((front ++ line) ++ more) ≡ more
behind_more front text line given behind l more =
    behind_next given ((front ++ line) ++ more) ∙ ap behind_line (ap (behind_lines given) (append_assoc front line more) ∙ behind (line ++ more)) ∙ behind_whole text line more l

-- one more line was played, and what is reported of it was written
pub front_next : {S G H : Saw} (front text line : List ℕ) (given : ℕ) (p q : Player) (initial old now : List Device) (before mid after : Option (List ℕ)) → PrefixPlayed front given p initial old before mid S G → IsLine text line
    → TextKeepsBytes p.place text old now → ((done : List Line) (w : Option World) (table : List Row) → Stood p done w initial old → TextReported (based_on table initial) text (done_so_far done w) (replay_state p old mid G) (replay_state q now after H)) → PrefixPlayed (front ++ line) (given + 1) q initial now before after S H
front_next {S = S} {H = H} front text line given p q initial old now before mid after f l kept told = record {
  is = front_more front text line l;
  behind = behind_more front text line given f.behind l;
  reached = λ table ends more.
      let r = f.reached table ends (text ∷ more) in
      subst (λ (ts : List (List ℕ)). Reached table ends (script_from ends first_place 1 ts) more (given + 1 + 1) q (span initial now before after S H)) (sym (texts_next front text line more f.is l))
      (reached_next ends (script_from ends first_place 1 (lines front ++ text ∷ more)) more text (given + 1) p q initial old now before mid after r kept (told r.done r.last table r.stood));
}

-- the replay stopped at the text that follows, whatever texts follow that
pub text_stopped : {S G : Saw} (law : ImageIsFound) (stop : Stop) (front text : List ℕ) (given : ℕ) (p q : Player) (initial old now : List Device) (before mid after : Option (List ℕ)) (failed worse : Type 0) (H : Saw) → (failed → worse)
    → PrefixPlayed front given p initial old before mid S G → TextKeepsBytes p.place text old now
    → ((done : List Line) (w : Option World) (table : List Row) → Stood p done w initial old → TextAnswer (based_on table initial) (Err stop) (line_read text (given + 1)) (done_so_far done w) (replay_state p old mid G) (replay_state q now after H) failed)
    → (table : List Row) (ends : Bool) (more : List (List ℕ)) → StopsThere table stop (script_from ends first_place 1 (lines front ++ text ∷ more)) (given + 1) (span initial now before after S H) worse
text_stopped law stop front text given p q initial old now before mid after failed worse H spread f kept answer table ends more =
    let r = f.reached table ends (text ∷ more) in
    let script : Script = script_from ends first_place 1 (lines front ++ text ∷ more) in
    stopped_at H stop ends script more text (given + 1) p q initial old now before mid after failed worse spread r
    (λ alone. image_found law ends script (text ∷ more) (given + 1) p initial old before mid (script_fits ends first_place 1 (lines front ++ text ∷ more)) r alone text initial now)
    kept (answer r.done r.last table r.stood)

-- the same at one more line
pub front_stopped : {S G : Saw} (law : ImageIsFound) (stop : Stop) (front text line : List ℕ) (given : ℕ) (p q : Player) (initial old now : List Device) (before mid after : Option (List ℕ)) (failed worse : Type 0) (H : Saw) → (failed → worse)
    → PrefixPlayed front given p initial old before mid S G → IsLine text line → TextKeepsBytes p.place text old now
    → ((done : List Line) (w : Option World) (table : List Row) → Stood p done w initial old → TextAnswer (based_on table initial) (Err stop) (line_read text (given + 1)) (done_so_far done w) (replay_state p old mid G) (replay_state q now after H) failed)
    → (table : List Row) (ends : Bool) (more : List (List ℕ)) → StopsThere table stop (script_from ends first_place 1 (lines (front ++ line) ++ more)) (given + 1) (span initial now before after S H) worse
front_stopped {S = S} law stop front text line given p q initial old now before mid after failed worse H spread f l kept answer table ends more =
    subst (λ (ts : List (List ℕ)). StopsThere table stop (script_from ends first_place 1 ts) (given + 1) (span initial now before after S H) worse) (sym (texts_next front text line more f.is l))
    (text_stopped law stop front text given p q initial old now before mid after failed worse H spread f kept answer table ends more)
