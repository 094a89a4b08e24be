-- Lines of an input that were read and played, one after another.
use Rattle.std.proofs.Common.{◌≡◌, ◌≢◌, ⊎_elim, ℕ, ◌+◌, ◌<◌, ◌≤◌, ◌==◌, true, false, List, [], ◌∷◌, ◌++◌, length, get_or, All, append-nil, append_assoc, length-append, refl, ap, sym, ◌∙◌, subst, arith}
use Rattle.std.specs.Prelude.{Option, Result, Ok}
use Rattle.std.specs.Str.Lines.{lines}
use Rattle.std.proofs.lemmas.Bool.{ne_eqb}
use Rattle.dg_base.specs.Outside.{Takes}
use Rattle.dg_base.proofs.LineLemmas.{lines-last}
use Rattle.dg_base.proofs.OutsideLemmas.{Takes-nil, Takes-join}
use Rattle.dg_nor.specs.Device.{Device}
use Rattle.dg_object.specs.Object.{Row}
use Rattle.dg_rules.specs.World.{World}
use Rattle.dg_lines.specs.LineReading.{Reading, HasNoEnd, IsLine, IsLastLine, Gives}
use Rattle.dg_script.specs.Places.{first_place}
use Rattle.dg_script.specs.Script.{Script, script_from}
use Rattle.dg_script.specs.Sizes.{most_used_bytes}
use Rattle.dg_script.specs.declared.line.Line.{Line}
use Rattle.dg_replay.specs.Ending.{script_of}
use Rattle.dg_replay.specs.Prefixes.{IsWholeLines}
use Rattle.dg_replay.specs.Near.{behind_line, behind_lines}
use Rattle.dg_replay.specs.Playing.{Stood}
use Rattle.dg_replay.specs.Replaying.{TextAnswer, Reached, InputAnswer}
use Rattle.dg_replay.specs.declared.halt.Halt.{Halt}
use Rattle.dg_replay.specs.declared.player.Player.{Player}
use Rattle.dg_replay.specs.Shown.{Saw}
use Rattle.dg_replay.specs.Stages.{based_on, done_so_far, ReplayState, replay_state, line_read, Span, span, failures}
use Rattle.dg_replay.specs.inner.Words.{bytes_taken}
use Rattle.dg_replay.specs.declared.stop.Stop.{Stop}
use Rattle.dg_replay.specs.Untouched.{TextKeepsBytes}
use Rattle.dg_replay.proofs.EndLemmas.{script_all}
use Rattle.dg_replay.proofs.FrontLemmas.{lines_front}
use Rattle.dg_replay.proofs.LineByLine.{PrefixPlayed, front_first, front_next}
use Rattle.dg_replay.proofs.NearLemmas.{behind_next, none_behind, behind_endless}
use Rattle.dg_replay.proofs.NextLineLemmas.{reached_next}

-- Lines were read and played, and of the bytes that were taken these are left.
pub record LinesRead (left_old left_now : Option (List ℕ)) (reader : Reading) (number : ℕ) (p : Player) (initial now : List Device) (before after : Option (List ℕ)) (first saw : Saw) : Type 0 where
  pub front : List ℕ
  pub given : ℕ
  pub taken : Takes left_old left_now (front ++ reader.ahead)
  pub passed : reader.passed ≡ length front
  pub used : reader.passed + length reader.ahead ≤ most_used_bytes
  pub numbered : number ≡ given + 1
  pub counted : reader.number ≡ given
  pub few : given ≤ reader.passed
  pub played : PrefixPlayed front given p initial now before after first saw

-- nothing was read
pub lines_first : {S : Saw} (left : Option (List ℕ)) (reader : Reading) (p : Player) (initial : List Device) (before : Option (List ℕ)) → reader.ahead ≡ [] → reader.passed ≡ 0 → reader.number ≡ 0 → p.place ≡ first_place
    → LinesRead left left reader 1 p initial initial before before S S
lines_first left reader p initial before none unread first place = record {
  front = [];
  given = 0;
  taken = subst (λ (xs : List ℕ). Takes left left xs) (sym none) (Takes-nil left);
  passed = unread;
  used = omega (arith, unread, ap length none);
  numbered = refl;
  counted = first;
  few = omega arith;
  played = front_first p initial before place;
}

-- what is played of a text, from a player that stands after lines
abbrev pub PlaysText : Result (Unit {0}) Stop → (text : List ℕ) → (number : ℕ) → (initial : List Device) → (a b : ReplayState) → (failed : Type 0) → Type 0
PlaysText r text number initial a b failed = TextKeepsBytes a.player.place text a.boards b.boards
    × ((done : List Line) (w : Option World) (table : List Row) → Stood a.player done w initial a.boards → TextAnswer (based_on table initial) r (line_read text number) (done_so_far done w) a b failed)

-- the bytes that came after the lines
pub joined : (a b c : Option (List ℕ)) (front ahead more : List ℕ) → Takes a b (front ++ ahead) → Takes b c more → Takes a c (front ++ (ahead ++ more))
joined a b c front ahead more first next = subst (λ (xs : List ℕ). Takes a c xs) (append_assoc front ahead more) (Takes-join a b c (front ++ ahead) more first next)

-- the bytes that came after one more line
pub joined_line : (a c : Option (List ℕ)) (front line rest bytes : List ℕ) → bytes ≡ line ++ rest → Takes a c (front ++ bytes) → Takes a c ((front ++ line) ++ rest)
joined_line a c front line rest bytes parts taken =
    subst (λ (xs : List ℕ). Takes a c xs) (ap (λ (xs : List ℕ). front ++ xs) parts ∙ sym (append_assoc front line rest)) taken

line_some : (text line : List ℕ) → IsLine text line → 1 ≤ length line
line_some text line l = omega (arith, ap length l.ended, length-append l.before (10 ∷ []))

-- one more line was read and played
next_line : {S G H : Saw} (a b c : Option (List ℕ)) (old new : Reading) (more line : List ℕ) (number : ℕ) (p q : Player) (initial was now : List Device) (before mid after : Option (List ℕ)) (at_end failed : Type 0)
    → (i : LinesRead a b old number p initial was before mid S G) → Takes b c more → Gives (old.ahead ++ more) old new at_end → old.ahead ++ more ≡ line ++ new.ahead → IsLine new.text line
    → PlaysText (Ok tt) new.text (old.number + 1) initial (replay_state p was mid G) (replay_state q now after H) failed → LinesRead a c new (number + 1) q initial now before after S H
next_line a b c old new more line number p q initial was now before mid after at_end failed i taken g parts l told =
    let some = line_some new.text line l in
    let long : length (old.ahead ++ more) ≡ length line + length new.ahead = ap length parts ∙ length-append line new.ahead in
    record {
      front = i.front ++ line;
      given = i.given + 1;
      taken = joined_line a c i.front line new.ahead (old.ahead ++ more) parts (joined a b c i.front old.ahead more i.taken taken);
      passed = omega (arith, g.passed, long, i.passed, length-append i.front line);
      used = omega (arith, g.passed, g.used);
      numbered = ap (λ k. k + 1) i.numbered;
      counted = g.number ∙ ap (λ k. k + 1) i.counted;
      few = omega (arith, g.passed, long, i.few, some);
      played = front_next i.front new.text line i.given p q initial was now before mid after i.played l told.0 (λ done w table s. told.1 done w table s);
    }

pub lines_next : {S G H : Saw} (a b c : Option (List ℕ)) (old new : Reading) (more : List ℕ) (number : ℕ) (p q : Player) (initial was now : List Device) (before mid after : Option (List ℕ)) (at_end failed : Type 0)
    → LinesRead a b old number p initial was before mid S G → Takes b c more → Gives (old.ahead ++ more) old new at_end → new.last ≡ false
    → PlaysText (Ok tt) new.text (old.number + 1) initial (replay_state p was mid G) (replay_state q now after H) failed → LinesRead a c new (number + 1) q initial now before after S H
lines_next a b c old new more number p q initial was now before mid after at_end failed i taken g more_lines told =
    ⊎_elim
    (λ l. next_line a b c old new more g.first.line number p q initial was now before mid after at_end failed i taken g g.first.parts l told)
    (λ l. absurd (let e : true ≡ false = sym l.2.1 ∙ more_lines in cc))
    g.first.is

-- a reader has passed more bytes after it gave a line
pub passes : (bytes : List ℕ) (old new : Reading) (at_end : Type 0) → Gives bytes old new at_end → (old.passed < new.passed) × (new.passed ≤ most_used_bytes)
passes bytes old new at_end g =
    let long : length bytes ≡ length g.first.line + length new.ahead = ap length g.first.parts ∙ length-append g.first.line new.ahead in
    let some : 1 ≤ length g.first.line = ⊎_elim (λ l. line_some new.text g.first.line l) (λ l. some_bytes g.first.line l.0.some) g.first.is in
    (omega (arith, g.passed, long, some), omega (arith, g.passed, g.used))
  where
    some_bytes : (xs : List ℕ) → xs ≢ [] → 1 ≤ length xs
    some_bytes [] some = absurd (some refl)
    some_bytes (x ∷ xs) some = omega arith

-- ---- the end of an input

not_feed : (bytes : List ℕ) → HasNoEnd bytes → All (λ b. (b == 10) ≡ false) bytes
not_feed bytes h k d within = ne_eqb (get_or bytes k d) 10 (h k d within)

pub last_text : (front text line : List ℕ) → IsWholeLines front → IsLastLine text line → lines (front ++ line) ≡ lines front ++ text ∷ []
last_text front text line is l =
    lines_front front line is
    ∙ ap (λ (ls : List (List ℕ)). lines front ++ ls) (lines-last line (not_feed line l.whole) (some_of line l.some) ∙ ap (λ (t : List ℕ). t ∷ []) (sym l.told))
  where
    some_of : (xs : List ℕ) → xs ≢ [] → 0 < length xs
    some_of [] some = absurd (some refl)
    some_of (x ∷ xs) some = omega arith

-- after the last line
pub behind_last : (front text line : List ℕ) (given : ℕ) → ((more : List ℕ) → behind_lines given (front ++ more) ≡ more) → IsLastLine text line → behind_lines (given + 1) (front ++ line) ≡ []
behind_last front text line given behind l = behind_next given (front ++ line) ∙ ap behind_line (behind line) ∙ behind_endless line l.whole

pub then_none : (n : ℕ) (bytes : List ℕ) → behind_lines n bytes ≡ [] → behind_lines (n + 1) bytes ≡ []
then_none n bytes e = behind_next n bytes ∙ ap behind_line e ∙ none_behind

abbrev pub Comes : (a c : Option (List ℕ)) → Result (Player × ℕ) Halt → (at_end read_failed : Type 0) → (s : Span) → (write_failed : Type 0) → Type 0
Comes a c r at_end reads s failed = (bytes : List ℕ) × Takes a c bytes × ((table : List Row) → InputAnswer table r (bytes_taken bytes at_end) s (failures reads failed))

pub at_number : {table : List Row} {S H : Saw} (script : Script) (n m : ℕ) (q : Player) (initial now : List Device) (before after : Option (List ℕ)) → n ≡ m → Reached table true script [] m q (span initial now before after S H) → Reached table true script [] n q (span initial now before after S H)
at_number {table} {S = S} {H = H} script n m q initial now before after e r = subst (λ k. Reached table true script [] k q (span initial now before after S H)) (sym e) r

-- the last line was read and played
last_whole : {S G H : Saw} (a c : Option (List ℕ)) (reads writes at_end : Type 0) (front line text : List ℕ) (given number : ℕ) (p q : Player) (initial was now : List Device) (before mid after : Option (List ℕ)) (failed : Type 0)
    → PrefixPlayed front given p initial was before mid S G → number ≡ given + 1 → Takes a c (front ++ line) → length (front ++ line) ≤ most_used_bytes → at_end
    → IsLine text line → PlaysText (Ok tt) text (given + 1) initial (replay_state p was mid G) (replay_state q now after H) failed → Comes a c (Ok (q, number + 1)) at_end reads (span initial now before after S H) writes
last_whole {S = S} {H = H} a c reads writes at_end front line text given number p q initial was now before mid after failed f numbered taken few ended l told =
    let input : List ℕ = front ++ line in
    let next = front_next front text line given p q initial was now before mid after f l told.0 (λ done w table s. told.1 done w table s) in
    let same : number + 1 ≡ given + 1 + 1 = ap (λ k. k + 1) numbered in
    let behind : behind_lines (given + 1) input ≡ [] = ap (behind_lines (given + 1)) (sym (append-nil input)) ∙ next.behind [] in
    let script : script_from true first_place 1 (lines input ++ []) ≡ script_of input = ap (λ (ls : List (List ℕ)). script_from true first_place 1 ls) (append-nil (lines input)) ∙ sym (script_all input few) in (
      input,
      taken,
      λ table. (
        ended,
        few,
        ap (λ k. behind_lines k input) same ∙ then_none (given + 1) input behind,
        at_number (script_of input) (number + 1) (given + 1 + 1) q initial now before after same (subst (λ (s : Script). Reached table true s [] (given + 1 + 1) q (span initial now before after S H)) script (next.reached table true [])),
      ),
    )

last_part : {S G H : Saw} (a c : Option (List ℕ)) (reads writes at_end : Type 0) (front line text : List ℕ) (given number : ℕ) (p q : Player) (initial was now : List Device) (before mid after : Option (List ℕ)) (failed : Type 0)
    → PrefixPlayed front given p initial was before mid S G → number ≡ given + 1 → Takes a c (front ++ line) → length (front ++ line) ≤ most_used_bytes → at_end
    → IsLastLine text line → PlaysText (Ok tt) text (given + 1) initial (replay_state p was mid G) (replay_state q now after H) failed → Comes a c (Ok (q, number + 1)) at_end reads (span initial now before after S H) writes
last_part {S = S} {H = H} a c reads writes at_end front line text given number p q initial was now before mid after failed f numbered taken few ended l told =
    let input : List ℕ = front ++ line in
    let script : Script = script_from true first_place 1 (lines front ++ text ∷ []) in
    let next : (table : List Row) → Reached table true script [] (given + 1 + 1) q (span initial now before after S H) =
    λ table. let r = f.reached table true (text ∷ []) in reached_next true script [] text (given + 1) p q initial was now before mid after r told.0 (told.1 r.done r.last table r.stood) in
    let same : number + 1 ≡ given + 1 + 1 = ap (λ k. k + 1) numbered in
    let spelled : script ≡ script_of input = ap (λ (ls : List (List ℕ)). script_from true first_place 1 ls) (sym (last_text front text line f.is l)) ∙ sym (script_all input few) in (
      input,
      taken,
      λ table. (
        ended,
        few,
        ap (λ k. behind_lines k input) same ∙ then_none (given + 1) input (behind_last front text line given f.behind l),
        at_number (script_of input) (number + 1) (given + 1 + 1) q initial now before after same (subst (λ (s : Script). Reached table true s [] (given + 1 + 1) q (span initial now before after S H)) spelled (next table)),
      ),
    )

pub lines_last : {S G H : Saw} (a b c : Option (List ℕ)) (reads writes : Type 0) (old new : Reading) (more : List ℕ) (number : ℕ) (p q : Player) (initial was now : List Device) (before mid after : Option (List ℕ)) (at_end failed : Type 0)
    → LinesRead a b old number p initial was before mid S G → Takes b c more → Gives (old.ahead ++ more) old new at_end → new.last ≡ true
    → PlaysText (Ok tt) new.text (old.number + 1) initial (replay_state p was mid G) (replay_state q now after H) failed → Comes a c (Ok (q, number + 1)) at_end reads (span initial now before after S H) writes
lines_last {G = G} {H = H} a b c reads writes old new more number p q initial was now before mid after at_end failed i taken g last told =
    let e = g.last last in
    let line = g.first.line in
    let parts : old.ahead ++ more ≡ line ++ [] = g.first.parts ∙ ap (λ (xs : List ℕ). line ++ xs) e.1 in
    let all : Takes a c (i.front ++ line) = subst (λ (xs : List ℕ). Takes a c xs) (append-nil (i.front ++ line)) (joined_line a c i.front line [] (old.ahead ++ more) parts (joined a b c i.front old.ahead more i.taken taken)) in
    let few : length (i.front ++ line) ≤ most_used_bytes = omega (arith, length-append i.front line, ap length parts, length-append line [], i.passed, g.used) in
    let plays = at_given new.text old.number i.given p q initial was now mid after failed i.counted told in
    ⊎_elim
    (λ l. last_whole a c reads writes at_end i.front line new.text i.given number p q initial was now before mid after failed i.played i.numbered all few e.0 l plays)
    (λ l. last_part a c reads writes at_end i.front line new.text i.given number p q initial was now before mid after failed i.played i.numbered all few e.0 l.0 plays)
    g.first.is
  where
    at_given : (text : List ℕ) (n given : ℕ) (p q : Player) (initial was now : List Device) (mid after : Option (List ℕ)) (failed : Type 0) → n ≡ given → PlaysText (Ok tt) text (n + 1) initial (replay_state p was mid G) (replay_state q now after H) failed → PlaysText (Ok tt) text (given + 1) initial (replay_state p was mid G) (replay_state q now after H) failed
    at_given text n given p q initial was now mid after failed e told = (told.0, λ done w table s. told.1 done w table s)
