-- Lines that are read, played and reported, one after the other.
use Rattle.std.proofs.Common.{◌≡◌, ◌≢◌, ◌∙◌, ◌⊎◌, inl, inr, ⊎_elim, ℕ, ◌<◌, ◌≤◌, ◌+◌, ◌-◌, Bool, true, false, List, [], ◌∷◌, ◌++◌, length, take, refl, ap, sym, subst, append-nil, append_assoc, length-append, arith, Result, Ok, Err, Option, Some}
use Rattle.std.specs.Prelude.{IsErrAnd}
use Rattle.dg_words.specs.Counts.{Rose}
use Rattle.dg_base.specs.Outside.{Takes, Puts, PutsPrefix, AtEnd}
use Rattle.dg_base.proofs.OutsideLemmas.{Takes-nil, Takes-join, Puts-nil, Puts-join}
use Rattle.dg_lines.specs.LineReading.{Reading, HasNoEnd, IsLine, IsLastLine, Gives, IsAtEnd, IsTooLong}
use Rattle.dg_script.specs.Sizes.{most_used_bytes}
use Rattle.dg_outside.specs.Outside.{InputState, OutputState}
use Rattle.dg_end.specs.Lines.{Outcome}
use Rattle.dg_end.specs.declared.ends.End.{End}
use Rattle.dg_end.specs.declared.ends.End.TheVariants as ends
use Rattle.dg_drip_script.specs.Lines.{drip_line_of}
use Rattle.dg_drip_script.specs.Scripts.{DripScript, first_script, spelled_behind, then_line, standing_of, with_drip_line, report_of}
use Rattle.dg_drip_script.specs.declared.line.DripLine.{DripLine}
use Rattle.dg_drip_script.specs.declared.line.DripFault.{DripFault}
use Rattle.dg_drip_run.specs.inner.Playing.{PlayerStands}
use Rattle.dg_drip_run.specs.Dripped.{AreLines, played, DripEndsBy, DripReported, FewAhead, DripCame}
use Rattle.dg_drip_run.specs.inner.Lines.{DripLineStops, LineAnswer, DripStage, NextStops, NextPlays, LinesPlayed, LinesAnswer, ScriptEnds}
use Rattle.dg_drip_run.specs.declared.player.Player.{Player}
use Rattle.dg_drip_run.proofs.ReportLemmas.{front_behind, played_all}
use Rattle.dg_drip_run.proofs.ToldLemmas.{told_all, told_but_last, behind_line_given, rest_only, line_only, too_many_ahead}

-- ---- the lines so far

lines_more : (texts : List (List ℕ)) (given text line : List ℕ) (ended : Type 0) → AreLines texts given ⊥ → IsLine text line ⊎ (IsLastLine text line × ended) → AreLines (texts ++ text ∷ []) (given ++ line) ended
lines_more [] given text line ended h l =
    (line, [], ap (λ (xs : List ℕ). xs ++ line) h ∙ sym (append-nil line), ⊎_elim (λ k. inl k) (λ k. inr (k.0, refl, refl, k.1)) l, refl)
lines_more (t ∷ texts) given text line ended h l =
    let parts = h.2 in
    (h.0, h.1 ++ line, ap (λ (xs : List ℕ). xs ++ line) h.2 ∙ append_assoc h.0 h.1 line, ⊎_elim (λ k. inl k) (λ k. absurd k.3) h.3, lines_more texts h.1 text line ended h.4 l)

lines_any : (texts : List (List ℕ)) (given : List ℕ) (ended : Type 0) → AreLines texts given ⊥ → AreLines texts given ended
lines_any [] given ended h = h
lines_any (t ∷ texts) given ended h = (h.0, h.1, h.2, ⊎_elim (λ k. inl k) (λ k. absurd k.3) h.3, lines_any texts h.1 ended h.4)

by_line : (r : Result DripLine DripFault) (f k : DripLine → Option DripScript) (s t : DripScript) → ((l : DripLine) → f l ≡ Some s → k l ≡ Some t) → then_line r f ≡ Some s → then_line r k ≡ Some t
by_line (Ok l) f k s t next h = next l h
by_line (Err e) f k s t next h = absurd (let x = h in cc)

spelled_more : (s0 s : DripScript) (texts : List (List ℕ)) (text : List ℕ) (line : DripLine) → spelled_behind s0 texts ≡ Some s → drip_line_of (standing_of s) text ≡ Ok line → spelled_behind s0 (texts ++ text ∷ []) ≡ Some (with_drip_line s line)
spelled_more s0 s [] text line says is =
    let same : s0 ≡ s = cc in
    ap (λ (x : DripScript). then_line (drip_line_of (standing_of x) text) (λ l. Some (with_drip_line x l))) same ∙ ap (λ r. then_line r (λ l. Some (with_drip_line s l))) is
spelled_more s0 s (t ∷ texts) text line says is =
    by_line (drip_line_of (standing_of s0) t) (λ l. spelled_behind (with_drip_line s0 l) texts) (λ l. spelled_behind (with_drip_line s0 l) (texts ++ text ∷ [])) s (with_drip_line s line) (λ l h. spelled_more (with_drip_line s0 l) s texts text line h is) says

-- ---- what is written

put_whole : (p : Player) (s : DripScript) (b : List ℕ) (before after : Option (List ℕ)) → PlayerStands p s b → Puts before after (report_of s) → Puts before after (report_of (played s))
put_whole p s b before after h put = subst (λ (xs : List ℕ). Puts before after xs) (ap report_of (sym (played_all s h.few))) put

-- the output stays, and so does what was reported before
so_far : (first p q : DripStage) (number : ℕ) → (i : LinesPlayed ⊥ first number p) → q.output ≡ p.output → p.output.writes ≡ first.output.writes
    → (q.output.writes ≡ first.output.writes) × Puts first.output.written q.output.written (report_of (played i.script))
so_far first p q number i same still = (
  ap (λ (o : OutputState). o.writes) same ∙ still,
  put_whole p.player i.script i.reported first.output.written q.output.written i.plays (subst (λ (o : OutputState). Puts first.output.written o.written (report_of i.script)) (sym same) i.put),
)

nothing_put : (a b : OutputState) → b ≡ a → (more : List ℕ) × Puts a.written b.written more
nothing_put a b same = ([], subst (λ (o : OutputState). Puts a.written o.written []) (sym same) (Puts-nil a.written))

pub lines_first : (now : DripStage) → now.reader.ahead ≡ [] → now.reader.passed ≡ 0 → now.reader.number ≡ 0 → PlayerStands now.player first_script [] → LinesPlayed ⊥ now 1 now
lines_first now none unread first h = record {
  texts = [];
  given = [];
  taken = subst (λ (xs : List ℕ). Takes now.input.left now.input.left xs) (sym none) (Takes-nil now.input.left);
  lines = refl;
  passed = unread;
  numbered = refl;
  counted = first;
  few = omega arith;
  used = omega arith;
  script = first_script;
  says = refl;
  reported = [];
  plays = h;
  put = Puts-nil now.output.written;
}

line_long : (text line : List ℕ) (E : Type 0) → IsLine text line ⊎ (IsLastLine text line × E) → 1 ≤ length line
line_long text line E h = ⊎_elim (λ l. omega (arith, ap length l.ended, length-append l.before (10 ∷ []))) (λ l. some_bytes line l.0.some) h
  where
    some_bytes : (xs : List ℕ) → xs ≢ [] → 1 ≤ length xs
    some_bytes [] some = absurd (some refl)
    some_bytes (x ∷ xs) some = omega arith

joined_taken : (a b c : Option (List ℕ)) (given ahead more line rest : List ℕ) → Takes a b (given ++ ahead) → Takes b c more → ahead ++ more ≡ line ++ rest → Takes a c ((given ++ line) ++ rest)
joined_taken a b c given ahead more line rest first next parts =
    subst (λ (xs : List ℕ). Takes a c xs) (append_assoc given ahead more ∙ (ap (λ (xs : List ℕ). given ++ xs) parts ∙ sym (append_assoc given line rest))) (Takes-join a b c (given ++ ahead) more first next)

-- one more line
pub lines_step : (ended : Type 0) (first p q : DripStage) (more : List ℕ) (number : ℕ)
    → (i : LinesPlayed ⊥ first number p) → Takes p.input.left q.input.left more → (g : Gives (p.reader.ahead ++ more) p.reader q.reader (AtEnd q.input.left))
    → IsLine q.reader.text g.first.line ⊎ (IsLastLine q.reader.text g.first.line × ended) → (line : DripLine) → drip_line_of (standing_of i.script) q.reader.text ≡ Ok line
    → LineAnswer (Ok tt) i.script (with_drip_line i.script line) q.player p.output q.output → LinesPlayed ended first (number + 1) q
lines_step ended first p q more number i taken g l line is h =
    let old = p.reader in
    let new = q.reader in
    let x = g.first.line in
    let some = line_long new.text x ended l in
    let long : length (old.ahead ++ more) ≡ length x + length new.ahead = ap length g.first.parts ∙ length-append x new.ahead in
    let one_more : length (i.texts ++ new.text ∷ []) ≡ length i.texts + 1 = length-append i.texts (new.text ∷ []) in
    let bytes : length (i.given ++ x) ≡ length i.given + length x = length-append i.given x in
    let whole : report_of i.script ++ h.1.0 ≡ report_of (with_drip_line i.script line) = h.1.1 ∙ ap report_of (played_all (with_drip_line i.script line) h.0.1.few) in
    record {
      texts = i.texts ++ new.text ∷ [];
      given = i.given ++ x;
      taken = joined_taken first.input.left p.input.left q.input.left i.given old.ahead more x new.ahead i.taken taken g.first.parts;
      lines = lines_more i.texts i.given new.text x ended i.lines l;
      passed = omega (arith, g.passed, long, i.passed, bytes);
      numbered = ap (λ k. k + 1) i.numbered ∙ ap (λ k. k + 1) (sym one_more);
      counted = g.number ∙ (ap (λ k. k + 1) i.counted ∙ sym one_more);
      few = let few = i.few in omega (arith, few, some, bytes, one_more);
      used = let used = g.used in let passed = i.passed in omega (arith, used, long, bytes, passed);
      script = with_drip_line i.script line;
      says = spelled_more first_script i.script i.texts new.text line i.says is;
      reported = h.0.0;
      plays = h.0.1;
      put = subst (λ (xs : List ℕ). Puts first.output.written q.output.written xs) whole (Puts-join first.output.written p.output.written q.output.written (report_of i.script) h.1.0 i.put h.1.2);
    }

-- ---- the ends

-- the replay ended before a line was given
came_before : (end : End) (first p q : DripStage) (more : List ℕ) (number : ℕ) → (i : LinesPlayed ⊥ first number p) → Takes p.input.left q.input.left more
    → p.reader.passed + length (p.reader.ahead ++ more) ≤ most_used_bytes + 1 → FewAhead (p.reader.ahead ++ more) → q.output ≡ p.output
    → DripEndsBy (Err end) i.script (length i.texts) (length i.given) (p.reader.ahead ++ more) (AtEnd q.input.left) (Rose first.input.reads q.input.reads)
    → DripReported (Err end) (report_of (played i.script)) first.output q.output → DripCame (Err end) first.input q.input first.output q.output
came_before end first p q more number i taken few near same why reported =
    let ahead = p.reader.ahead in
    record {
      input = i.given ++ (ahead ++ more);
      taken = subst (λ (xs : List ℕ). Takes first.input.left q.input.left xs) (append_assoc i.given ahead more) (Takes-join first.input.left p.input.left q.input.left (i.given ++ ahead) more i.taken taken);
      few = let passed = i.passed in omega (arith, few, passed, length-append i.given (ahead ++ more));
      texts = i.texts;
      given = i.given;
      ahead = ahead ++ more;
      parts = refl;
      used = i.used;
      lines = lines_any i.texts i.given (AtEnd q.input.left × (ahead ++ more ≡ [])) i.lines;
      script = i.script;
      says = i.says;
      why = why;
      reported = reported;
      told = told_all ⊥ first p q.output number i (nothing_put p.output q.output same);
      near = near;
    }

-- the replay ended in a line that was given
came_in : (end : End) (first p q : DripStage) (more : List ℕ) (number : ℕ) → (i : LinesPlayed ⊥ first number p) → Takes p.input.left q.input.left more
    → (g : Gives (p.reader.ahead ++ more) p.reader q.reader (AtEnd q.input.left)) → (line : DripLine) → drip_line_of (standing_of i.script) q.reader.text ≡ Ok line
    → (told : List ℕ) × Puts p.output.written q.output.written told
    → DripEndsBy (Err end) (with_drip_line i.script line) (length (i.texts ++ q.reader.text ∷ [])) (length (i.given ++ g.first.line)) q.reader.ahead (AtEnd q.input.left) (Rose first.input.reads q.input.reads)
    → DripReported (Err end) (report_of (played (with_drip_line i.script line))) first.output q.output → DripCame (Err end) first.input q.input first.output q.output
came_in end first p q more number i taken g line is told why reported =
    let new = q.reader in
    let used : length (i.given ++ g.first.line) + length new.ahead ≤ most_used_bytes = line_used i.given p.reader.ahead more g.first.line new.ahead p.reader.passed i.passed g.used g.first.parts in
    record {
      input = (i.given ++ g.first.line) ++ new.ahead;
      taken = joined_taken first.input.left p.input.left q.input.left i.given p.reader.ahead more g.first.line new.ahead i.taken taken g.first.parts;
      few = omega (arith, used, length-append (i.given ++ g.first.line) new.ahead);
      texts = i.texts ++ new.text ∷ [];
      given = i.given ++ g.first.line;
      ahead = new.ahead;
      parts = refl;
      used = omega (arith, used);
      lines = lines_more i.texts i.given new.text g.first.line (AtEnd q.input.left × (new.ahead ≡ [])) i.lines (⊎_elim (λ l. inl l) (λ l. inr (l.0, (l.2.0, l.1))) g.first.is);
      script = with_drip_line i.script line;
      says = spelled_more first_script i.script i.texts new.text line i.says is;
      why = why;
      reported = reported;
      told = told_but_last first p q number new.text i told;
      near = rest_only new.ahead g.near;
    }
  where
    line_used : (given ahead more line rest : List ℕ) (passed : ℕ) → passed ≡ length given → passed + length (ahead ++ more) ≤ most_used_bytes → ahead ++ more ≡ line ++ rest → length (given ++ line) + length rest ≤ most_used_bytes
    line_used given ahead more line rest passed is used parts = omega (arith, is, used, ap length parts, length-append line rest, length-append given line)

one_more : (n : ℕ) → n ≤ most_used_bytes → n ≤ most_used_bytes + 1
one_more n h = omega (arith, h)

-- the bytes of a report that were written of the next line come after those of the lines before
rose_since : (a b c : ℕ) → b ≡ a → Rose b c → Rose a c
rose_since a b c same rose = subst (λ (n : ℕ). Rose n c) same rose

stopped_line : (end : End) (first p q : DripStage) (more : List ℕ) (number : ℕ) → p.output.writes ≡ first.output.writes → (i : LinesPlayed ⊥ first number p) → Takes p.input.left q.input.left more
    → (g : Gives (p.reader.ahead ++ more) p.reader q.reader (AtEnd q.input.left)) → (line : DripLine) → drip_line_of (standing_of i.script) q.reader.text ≡ Ok line
    → DripLineStops end i.script (with_drip_line i.script line) p.output q.output → DripCame (Err end) first.input q.input first.output q.output
stopped_line ends.Memory first p q more number still i taken g line is h =
    came_before ends.Memory first p q more number i taken (one_more (p.reader.passed + length (p.reader.ahead ++ more)) g.used)
    (behind_line_given (p.reader.ahead ++ more) (AtEnd q.input.left × (q.reader.last ≡ true)) q.reader.text q.reader.ahead g.first g.near) h tt (so_far first p q number i h still)
stopped_line ends.WriteFault first p q more number still i taken g line is h =
    came_in ends.WriteFault first p q more number i taken g line is (take h.2.0 h.0, h.2.2) tt (
      rose_since first.output.writes p.output.writes q.output.writes still h.3,
      subst (λ (xs : List ℕ). PutsPrefix first.output.written q.output.written xs) h.1 (front_behind first.output.written p.output.written q.output.written (report_of i.script) h.0 i.put h.2),
    )
stopped_line ends.TooMany first p q more number still i taken g line is h =
    came_in ends.TooMany first p q more number i taken g line is (h.0, h.2) h.4 (
      h.3 ∙ still,
      subst (λ (xs : List ℕ). Puts first.output.written q.output.written xs) h.1 (Puts-join first.output.written p.output.written q.output.written (report_of i.script) h.0 i.put h.2),
    )
stopped_line end first p q more number still i taken g line is h = absurd h

line_within : (bytes line rest : List ℕ) (passed given : ℕ) → passed ≡ given → passed + length bytes ≤ most_used_bytes → bytes ≡ line ++ rest → given + length line ≤ most_used_bytes
line_within bytes line rest passed given is used parts = omega (arith, is, used, ap length parts, length-append line rest)

same_number : (n m : ℕ) → n ≡ m → n ≤ m
same_number n m e = omega (arith, e)

stopped_before : (end : End) (first p q : DripStage) (more : List ℕ) (number : ℕ) → (Rose p.input.reads q.input.reads → Rose first.input.reads q.input.reads) → p.output.writes ≡ first.output.writes → (i : LinesPlayed ⊥ first number p)
    → Takes p.input.left q.input.left more → q.output ≡ p.output → NextStops end (p.reader.ahead ++ more) i.script p q → DripCame (Err end) first.input q.input first.output q.output
stopped_before (ends.BadLine line f) first p q more number read still i taken same h =
    let t = h.3 in
    came_before (ends.BadLine line f) first p q more number i taken (one_more (p.reader.passed + length (p.reader.ahead ++ more)) t.used)
    (behind_line_given (p.reader.ahead ++ more) (AtEnd q.input.left) t.text t.rest t.first t.near) same (
      h.2 ∙ ap (λ k. k + 1) i.counted,
      i.plays.few,
      inr (
        t.text,
        t.first.line,
        t.rest,
        t.first.parts,
        line_within (p.reader.ahead ++ more) t.first.line t.rest p.reader.passed (length i.given) i.passed t.used t.first.parts,
        t.first.is,
        (h.0, t.bad, h.1),
      ),
    ) (so_far first p q number i same still)
stopped_before ends.ReadFault first p q more number read still i taken same h =
    came_before ends.ReadFault first p q more number i taken (one_more (p.reader.passed + length (p.reader.ahead ++ more)) h.2) (line_only (p.reader.ahead ++ more) h.1) same (
      i.plays.few,
      subst (λ (n : ℕ). n + length (p.reader.ahead ++ more) ≤ most_used_bytes) i.passed h.2,
      h.1,
      read h.0,
    ) (so_far first p q number i same still)
stopped_before ends.TooLong first p q more number read still i taken same h =
    let ahead = p.reader.ahead in
    came_before ends.TooLong first p q more number i taken (same_number (p.reader.passed + length (ahead ++ more)) (most_used_bytes + 1) h.all)
    (too_many_ahead p.reader.passed (ahead ++ more) (let passed = i.passed in let used = i.used in omega (arith, passed, used)) h.all h.none) same (
      i.plays.few,
      ap (λ (k : ℕ). k + length (ahead ++ more)) (sym i.passed) ∙ h.all,
      subst (λ (k : ℕ). HasNoEnd (take (most_used_bytes - k) (ahead ++ more))) i.passed h.none,
    ) (so_far first p q number i same still)
stopped_before end first p q more number read still i taken same h = absurd h

pub lines_stopped : (end : End) (first p q : DripStage) (more : List ℕ) (number : ℕ) → (Rose p.input.reads q.input.reads → Rose first.input.reads q.input.reads) → p.output.writes ≡ first.output.writes
    → (i : LinesPlayed ⊥ first number p) → Takes p.input.left q.input.left more → NextPlays (Err end) (p.reader.ahead ++ more) i.script p q → DripCame (Err end) first.input q.input first.output q.output
lines_stopped end first p q more number read still i taken h =
    ⊎_elim (λ k. stopped_line end first p q more number still i taken k.0 k.1.0 k.1.1 k.1.2) (λ k. stopped_before end first p q more number read still i taken k.1 k.0) h

err_is : (r : Result ℕ End) (end : End) → IsErrAnd r (λ e. e ≡ end) → Err end ≡ r
err_is (Ok n) end h = absurd h
err_is (Err e) end h = ap Err (sym h)

pub lines_halt : (r : Result ℕ End) (end : End) (first p q : DripStage) (more : List ℕ) (number : ℕ) → IsErrAnd r (λ e. e ≡ end) → (Rose p.input.reads q.input.reads → Rose first.input.reads q.input.reads)
    → p.output.writes ≡ first.output.writes → (i : LinesPlayed ⊥ first number p) → Takes p.input.left q.input.left more
    → ((s : DripScript) (told : List ℕ) → PlayerStands p.player s told → NextPlays (Err end) (p.reader.ahead ++ more) s p q) → LinesAnswer r first q
lines_halt r end first p q more number is read still i taken h =
    subst (λ (x : Result ℕ End). LinesAnswer x first q) (err_is r end is)
    (lines_stopped end first p q more number read still i taken (h i.script i.reported i.plays))

-- nothing is left
pub lines_end : (first p q : DripStage) (more : List ℕ) (number : ℕ) → (i : LinesPlayed ⊥ first number p) → Takes p.input.left q.input.left more
    → IsAtEnd (p.reader.ahead ++ more) p.reader q.reader (AtEnd q.input.left) × (q.player ≡ p.player) × (q.output ≡ p.output) → LinesAnswer (Ok number) first q
lines_end first p q more number i taken h =
    let e = h.0 in
    let a = first.input.left in
    let c = q.input.left in
    let ahead = p.reader.ahead in (
      (e.ended, e.no_more),
      record {
        texts = i.texts;
        given = i.given;
        taken = subst (λ (xs : List ℕ). Takes a c (i.given ++ xs)) (e.none ∙ sym e.no_more) (subst (λ (xs : List ℕ). Takes a c xs) (append_assoc i.given ahead more) (Takes-join a p.input.left c (i.given ++ ahead) more i.taken taken));
        lines = lines_any i.texts i.given (AtEnd c × (q.reader.ahead ≡ [])) i.lines;
        passed = e.same_passed ∙ i.passed;
        numbered = i.numbered;
        counted = e.same_number ∙ i.counted;
        few = i.few;
        used = i.used;
        script = i.script;
        says = i.says;
        reported = i.reported;
        plays = subst (λ (x : Player). PlayerStands x i.script i.reported) (sym h.1) i.plays;
        put = subst (λ (o : OutputState). Puts first.output.written o.written (report_of i.script)) (sym h.2) i.put;
      },
    )

-- the last line ends with the input
pub lines_last : (first p q : DripStage) (more : List ℕ) (number : ℕ) → (i : LinesPlayed ⊥ first number p) → Takes p.input.left q.input.left more
    → NextPlays (Ok true) (p.reader.ahead ++ more) i.script p q → q.reader.last ≡ true → LinesAnswer (Ok (number + 1)) first q
lines_last first p q more number i taken h last =
    let e = h.0.last last in
    ((e.0, e.1), lines_step (AtEnd q.input.left × (q.reader.ahead ≡ [])) first p q more number i taken h.0 (⊎_elim (λ l. inl l) (λ l. inr (l.0, (e.0, e.1))) h.0.first.is) h.1.0 h.1.1 h.1.2)

pub lines_next : (first p q : DripStage) (more : List ℕ) (number : ℕ) → (i : LinesPlayed ⊥ first number p) → Takes p.input.left q.input.left more
    → NextPlays (Ok true) (p.reader.ahead ++ more) i.script p q → q.reader.last ≡ false → LinesPlayed ⊥ first (number + 1) q
lines_next first p q more number i taken h last =
    lines_step ⊥ first p q more number i taken h.0 (⊎_elim (λ l. inl l) (λ l. absurd (let e : true ≡ false = sym l.2.1 ∙ last in cc)) h.0.first.is) h.1.0 h.1.1 h.1.2

pub passes : (bytes : List ℕ) (old new : Reading) (at_end : Type 0) → Gives bytes old new at_end → most_used_bytes - new.passed < most_used_bytes - old.passed
passes bytes old new at_end g =
    let long : length bytes ≡ length g.first.line + length new.ahead = ap length g.first.parts ∙ length-append g.first.line new.ahead in
    let some : 1 ≤ length g.first.line = ⊎_elim (λ l. line_long new.text g.first.line at_end (inl l)) (λ l. line_long new.text g.first.line at_end (inr (l.0, l.2.0))) g.first.is in
    let passed = g.passed in
    let used = g.used in
    less_left old.passed new.passed most_used_bytes (omega (arith, passed, long, some)) (omega (arith, passed, used))
  where
    less_left : (m n most : ℕ) → m < n → n ≤ most → most - n < most - m
    less_left m n most h k = omega (arith, h, k)

-- an answer that a line was played, or that none was left
pub true_of : (x : Bool) (s : DripScript) (bytes : List ℕ) (p q : DripStage) → x ≡ true → NextPlays (Ok x) bytes s p q → NextPlays (Ok true) bytes s p q
true_of x s bytes p q is h = subst (λ (y : Bool). NextPlays (Ok y) bytes s p q) is h

pub false_of : (x : Bool) (s : DripScript) (bytes : List ℕ) (p q : DripStage) → x ≡ false → NextPlays (Ok x) bytes s p q → NextPlays (Ok false) bytes s p q
false_of x s bytes p q is h = subst (λ (y : Bool). NextPlays (Ok y) bytes s p q) is h

-- the script ended after its lines
script_came : (outcome : Outcome) (first now : DripStage) (number : ℕ) (h : LinesAnswer (Ok number) first now)
    → DripEndsBy outcome h.1.script (length h.1.texts) (length h.1.given) now.reader.ahead (AtEnd now.input.left) (Rose first.input.reads now.input.reads)
    → DripReported outcome (report_of (played h.1.script)) first.output now.output → DripCame outcome first.input now.input first.output now.output
script_came outcome first now number h why reported =
    let i = h.1 in
    record {
      input = i.given ++ now.reader.ahead;
      taken = i.taken;
      few = let used = i.used in omega (arith, used, ap length h.0.1, length-append i.given now.reader.ahead);
      texts = i.texts;
      given = i.given;
      ahead = now.reader.ahead;
      parts = refl;
      used = i.used;
      lines = i.lines;
      script = i.script;
      says = i.says;
      why = why;
      reported = reported;
      told = told_all (AtEnd now.input.left × (now.reader.ahead ≡ [])) first now now.output number i ([], Puts-nil now.output.written);
      near = rest_only now.reader.ahead (omega (arith, ap length h.0.1));
    }

pub script_ended : (outcome : Outcome) (first now : DripStage) (number : ℕ) → now.output.writes ≡ first.output.writes → LinesAnswer (Ok number) first now
    → ((s : DripScript) (b : List ℕ) → PlayerStands now.player s b → ScriptEnds outcome s number) → DripCame outcome first.input now.input first.output now.output
script_ended outcome first now number still h ended =
    by_outcome outcome (ended h.1.script h.1.reported h.1.plays)
  where
    whole : (now.output.writes ≡ first.output.writes) × Puts first.output.written now.output.written (report_of (played h.1.script))
    whole = (still, put_whole now.player h.1.script h.1.reported first.output.written now.output.written h.1.plays h.1.put)

    by_outcome : (o : Outcome) → ScriptEnds o h.1.script number → DripCame o first.input now.input first.output now.output
    by_outcome (Ok text) e = script_came (Ok text) first now number h (h.0.1, h.0.0, e.0, h.1.plays.few, e.1) whole
    by_outcome (Err (ends.BadLine line f)) e = script_came (Err (ends.BadLine line f)) first now number h (e.0 ∙ h.1.numbered, h.1.plays.few, inl (h.0.1, h.0.0, e.2, e.1)) whole
    by_outcome (Err ends.Memory) e = script_came (Err ends.Memory) first now number h tt whole
    by_outcome (Err end) e = absurd e

-- out of memory: nothing was read
pub came_none : (a : InputState) (o : OutputState) → DripCame (Err ends.Memory) a a o o
came_none a o = record {
  input = [];
  taken = Takes-nil a.left;
  few = omega arith;
  texts = [];
  given = [];
  ahead = [];
  parts = refl;
  used = omega arith;
  lines = refl;
  script = first_script;
  says = refl;
  why = tt;
  reported = (refl, Puts-nil o.written);
  told = record { first = []; last = inl refl; script = first_script; says = refl; few = omega arith; more = []; put = Puts-nil o.written };
  near = rest_only [] (omega arith);
}
