-- The status of a replay is the one that the bytes of its input give.
use Rattle.std.proofs.Common.{◌≡◌, ◌∙◌, ◌⊎◌, inl, inr, ⊎_elim, ℕ, ◌+◌, ◌-◌, ◌<◌, ◌≤◌, Bool, true, false, List, [], ◌∷◌, ◌++◌, length, take, refl, ap, sym, subst, append-nil, append_assoc, length-append, arith, Result, Ok, Err, Option, Some, None}
use Rattle.std.specs.Prelude.{nat_lt, codes}
use Rattle.std.specs.Str.Lines.{lines}
use Rattle.std.proofs.lemmas.List.{take-append-le}
use Rattle.dg_words.specs.Counts.{Rose}
use Rattle.dg_base.specs.Outside.{AtEnd, ahead_of}
use Rattle.dg_base.specs.declared.answers.Status.{Status}
use Rattle.dg_base.specs.declared.answers.Status.TheVariants as statuses
use Rattle.dg_lines.specs.LineReading.{IsLine, IsLastLine, HasNoEnd}
use Rattle.dg_script.specs.Faults.{fault_name}
use Rattle.dg_script.specs.declared.fault.LineFault.{LineFault}
use Rattle.dg_outside.specs.Outside.{OutputState, Outside}
use Rattle.dg_end.specs.Lines.{Outcome, bad_line, outcome_status}
use Rattle.dg_end.specs.Writes.{WritesLast, WritesAnswer}
use Rattle.dg_end.specs.declared.ends.End.{End}
use Rattle.dg_end.specs.declared.ends.End.TheVariants as ends
use Rattle.dg_drip_script.specs.Lines.{drip_line_of, line_fault}
use Rattle.dg_drip_script.specs.Scripts.{DripScript, first_script, drip_script_of, standing_of, report_of}
use Rattle.dg_drip_script.specs.Sizes.{most_events, most_used_bytes}
use Rattle.dg_drip_script.specs.declared.line.DripFault.{DripFault}
use Rattle.dg_drip_run.specs.Dripped.{played, AreLines, DripEndsBy, DripReported, AreTold, Dripped}
use Rattle.dg_drip_run.specs.Causes.{ended_lines, lines_within, ending_by_lines, drip_ending_of, IsDripCaused, InDripLimits, DripEnds}
use Rattle.dg_drip_run.proofs.EndingLemmas.{ending_within, bad_end, above, not_above, rest_within, last_alone, ended-none, given_within, next_within, ends_behind, spelled_then, too_many_by, bad_by, over_behind, no_nodes_behind, ends_at_end}

-- ---- an input whose first lines were given

-- lines of these bytes, which said this script, and what comes after them
record Read (ended : Type 0) (most : ℕ) (texts : List (List ℕ)) (given x : List ℕ) (s : DripScript) (over : Bool) : Type 0 where
  none : ended → x ≡ []
  fits : length given ≤ most
  is : nat_lt most (length (given ++ x)) ≡ over
  lines : AreLines texts given ended
  says : drip_script_of texts ≡ Some s

behind : (ended : Type 0) (most : ℕ) (texts : List (List ℕ)) (given x : List ℕ) (s : DripScript) (over : Bool) → Read ended most texts given x s over → length s.items ≤ most_events
    → ending_within most over (given ++ x) ≡ ending_by_lines over s (1 + length texts) (rest_within (most - length given) over x)
behind ended most texts given x s over r few =
    ap (ending_by_lines over first_script 1) (given_within most over texts given x ended r.none r.fits r.is r.lines)
    ∙ ends_behind over texts (rest_within (most - length given) over x) first_script s 1 r.says few

nothing_behind : (left : ℕ) (x : List ℕ) (s : DripScript) (number : ℕ) → x ≡ [] → ending_by_lines false s number (rest_within left false x) ≡ ending_by_lines false s number []
nothing_behind left x s number none = ap (λ (xs : List ℕ). ending_by_lines false s number (lines xs)) none

not_over : (most : ℕ) (given x : List ℕ) → x ≡ [] → length given ≤ most → nat_lt most (length (given ++ x)) ≡ false
not_over most given x none fits = not_above (length (given ++ x)) most (omega (arith, fits, length-append given x, ap length none))

-- the ending of these bytes, whether they are too many or not
abbrev of_bytes : (most : ℕ) → List ℕ → Result (Unit {0}) End
of_bytes most input = ending_within most (nat_lt most (length input)) input

at_flag : (most : ℕ) (input : List ℕ) (over : Bool) (e : Result (Unit {0}) End) → nat_lt most (length input) ≡ over → ending_within most over input ≡ e → of_bytes most input ≡ e
at_flag most input over e is h = ap (λ (b : Bool). ending_within most b input) is ∙ h

module _ (most : ℕ) (texts : List (List ℕ)) (given ahead more : List ℕ) (s : DripScript) (at_end : Type 0) (last : at_end → more ≡ []) (fits : length given ≤ most) (are : AreLines texts given (at_end × (ahead ≡ []))) (says : drip_script_of texts ≡ Some s) where
  read : (over : Bool) → nat_lt most (length (given ++ (ahead ++ more))) ≡ over → Read (at_end × (ahead ≡ [])) most texts given (ahead ++ more) s over
  read over is = record { none = λ e. ap (λ (xs : List ℕ). xs ++ more) e.1 ∙ last e.0; fits = fits; is = is; lines = are; says = says }

  pub at_its_end : length s.items ≤ most_events → ahead ≡ [] → at_end → of_bytes most (given ++ (ahead ++ more)) ≡ ending_by_lines false s (1 + length texts) []
  at_its_end few none ended =
      let no_more : ahead ++ more ≡ [] = ap (λ (xs : List ℕ). xs ++ more) none ∙ last ended in
      let is = not_over most given (ahead ++ more) no_more fits in
      at_flag most (given ++ (ahead ++ more)) false _ is
      (behind (at_end × (ahead ≡ [])) most texts given (ahead ++ more) s false (read false is) few ∙ nothing_behind (most - length given) (ahead ++ more) s (1 + length texts) no_more)

  bad_line_at : (over : Bool) (text next rest : List ℕ) (f : DripFault) → nat_lt most (length (given ++ (ahead ++ more))) ≡ over → length s.items ≤ most_events → ahead ≡ next ++ rest → length given + length next ≤ most → IsLine text next → drip_line_of (standing_of s) text ≡ Err f
      → of_bytes most (given ++ (ahead ++ more)) ≡ bad_end (1 + length texts) (line_fault f)
  bad_line_at over text next rest f is few parts within l bad =
      let n = next_within (most - length given) over text next (rest ++ more) (omega (arith, within)) l in
      let there : ahead ++ more ≡ next ++ (rest ++ more) = ap (λ (xs : List ℕ). xs ++ more) parts ∙ append_assoc next rest more in
      at_flag most (given ++ (ahead ++ more)) over (bad_end (1 + length texts) (line_fault f)) is
      (behind (at_end × (ahead ≡ [])) most texts given (ahead ++ more) s over (read over is) few
      ∙ (ap (λ (xs : List ℕ). ending_by_lines over s (1 + length texts) (rest_within (most - length given) over xs)) there
      ∙ (ap (ending_by_lines over s (1 + length texts)) n.1 ∙ bad_by over text n.0 s (1 + length texts) f bad)))

  pub bad_last_at : (text next rest : List ℕ) (f : DripFault) → length s.items ≤ most_events → ahead ≡ next ++ rest → length given + length next ≤ most → IsLastLine text next → rest ≡ [] → at_end → drip_line_of (standing_of s) text ≡ Err f
      → of_bytes most (given ++ (ahead ++ more)) ≡ bad_end (1 + length texts) (line_fault f)
  bad_last_at text next rest f few parts within l none ended bad =
      let alone : ahead ++ more ≡ next =
      ap (λ (xs : List ℕ). xs ++ more) (parts ∙ (ap (λ (xs : List ℕ). next ++ xs) none ∙ append-nil next)) ∙ (ap (λ (xs : List ℕ). next ++ xs) (last ended) ∙ append-nil next) in
      let is : nat_lt most (length (given ++ (ahead ++ more))) ≡ false = not_above (length (given ++ (ahead ++ more))) most (omega (arith, within, length-append given (ahead ++ more), ap length alone)) in
      at_flag most (given ++ (ahead ++ more)) false (bad_end (1 + length texts) (line_fault f)) is
      (behind (at_end × (ahead ≡ [])) most texts given (ahead ++ more) s false (read false is) few
      ∙ (ap (λ (xs : List ℕ). ending_by_lines false s (1 + length texts) (lines xs)) alone
      ∙ (ap (ending_by_lines false s (1 + length texts)) (last_alone text next l) ∙ bad_by false text [] s (1 + length texts) f bad)))

  pub bad_next_at : (text next rest : List ℕ) (f : DripFault) → length s.items ≤ most_events → ahead ≡ next ++ rest → length given + length next ≤ most → IsLine text next → drip_line_of (standing_of s) text ≡ Err f
      → of_bytes most (given ++ (ahead ++ more)) ≡ bad_end (1 + length texts) (line_fault f)
  bad_next_at text next rest f few parts within l bad = bad_line_at (nat_lt most (length (given ++ (ahead ++ more)))) text next rest f refl few parts within l bad

  pub over_at : length s.items ≤ most_events → length given + length ahead ≡ most + 1 → HasNoEnd (take (most - length given) ahead) → of_bytes most (given ++ (ahead ++ more)) ≡ Err ends.TooLong
  over_at few long none =
      let left = most - length given in
      let is : nat_lt most (length (given ++ (ahead ++ more))) ≡ true = above (length (given ++ (ahead ++ more))) most (omega (arith, long, length-append given (ahead ++ more), length-append ahead more)) in
      let front : take left (ahead ++ more) ≡ take left ahead = take-append-le left ahead more (omega (arith, long, fits)) in
      at_flag most (given ++ (ahead ++ more)) true (Err ends.TooLong) is
      (behind (at_end × (ahead ≡ [])) most texts given (ahead ++ more) s true (read true is) few
      ∙ (ap (λ (xs : List ℕ). ending_by_lines true s (1 + length texts) (ended_lines xs)) front
      ∙ (ap (ending_by_lines true s (1 + length texts)) (ended-none (take left ahead) none) ∙ over_behind s (1 + length texts))))

  too_many_read : (over : Bool) (first : List (List ℕ)) (text : List ℕ) (t : DripScript) → nat_lt most (length (given ++ (ahead ++ more))) ≡ over → most_events < length s.items → texts ≡ first ++ text ∷ [] → drip_script_of first ≡ Some t → length t.items ≤ most_events
      → ending_within most over (given ++ (ahead ++ more)) ≡ Err ends.TooMany
  too_many_read over first text t is many parts told few =
      let r = read over is in
      let rest = rest_within (most - length given) over (ahead ++ more) in
      let brought = sym (spelled_then first (text ∷ []) first_script t told) ∙ (ap drip_script_of (sym parts) ∙ says) in
      ap (ending_by_lines over first_script 1) (given_within most over texts given (ahead ++ more) (at_end × (ahead ≡ [])) r.none fits is are ∙ (ap (λ (ts : List (List ℕ)). ts ++ rest) parts ∙ append_assoc first (text ∷ []) rest))
      ∙ (ends_behind over first (text ∷ rest) first_script t 1 told few ∙ too_many_by over text rest t s (1 + length first) brought many)

  pub too_many_at : (before after : Option (List ℕ)) → most_events < length s.items → AreTold texts before after → of_bytes most (given ++ (ahead ++ more)) ≡ Err ends.TooMany
  too_many_at before after many t =
      ⊎_elim
      (λ same. absurd (
      let told : Some s ≡ Some t.script = sym says ∙ (ap drip_script_of same ∙ t.says) in
      let is : s ≡ t.script = cc in
      let few : length s.items ≤ most_events = subst (λ (u : DripScript). length u.items ≤ most_events) (sym is) t.few in
      omega (arith, few, many)))
      (λ l. too_many_read (nat_lt most (length (given ++ (ahead ++ more)))) t.first l.0 t.script refl many l.1 t.says t.few)
      t.last

-- ---- the ending that was read

line_number : (line number : ℕ) (f : LineFault) (e : Result (Unit {0}) End) → line ≡ number + 1 → e ≡ bad_end (1 + number) f → e ≡ bad_end line f
line_number line number f e is h = let there : 1 + number ≡ line = omega (arith, is) in h ∙ ap (λ (n : ℕ). bad_end n f) there

-- the ending by the rules of a script that came to an outcome
abbrev ending_of : Outcome → Result (Unit {0}) End
ending_of (Ok text) = Ok tt
ending_of (Err end) = Err end

-- a script ended by the rules alone
abbrev IsByRules : Outcome → Type 0
IsByRules (Err ends.ReadFault) = ⊥
IsByRules (Err ends.Memory) = ⊥
IsByRules (Err ends.WriteFault) = ⊥
IsByRules outcome = Unit {0}

ends_as_read : (o : Outcome) (texts : List (List ℕ)) (given ahead more : List ℕ) (s : DripScript) (at_end r : Type 0) (before after : Option (List ℕ)) → (at_end → more ≡ []) → length given ≤ most_used_bytes → AreLines texts given (at_end × (ahead ≡ [])) → drip_script_of texts ≡ Some s
    → AreTold texts before after → IsByRules o → DripEndsBy o s (length texts) (length given) ahead at_end r → of_bytes most_used_bytes (given ++ (ahead ++ more)) ≡ ending_of o
ends_as_read (Ok text) texts given ahead more s at_end r before after last fits are says told rules h =
    at_its_end most_used_bytes texts given ahead more s at_end last fits are says h.3 h.0 h.1 ∙ ends_at_end s (1 + length texts) h.2
ends_as_read (Err (ends.BadLine line f)) texts given ahead more s at_end r before after last fits are says told rules h =
    line_number line (length texts) f _ h.0
    (⊎_elim
    (λ k. at_its_end most_used_bytes texts given ahead more s at_end last fits are says h.1 k.0 k.1 ∙ (no_nodes_behind s (1 + length texts) k.2 ∙ ap (bad_end (1 + length texts)) (sym k.3)))
    (λ k. ⊎_elim
    (λ l. bad_next_at most_used_bytes texts given ahead more s at_end last fits are says k.0 k.1 k.2 k.6.0 h.1 k.3 k.4 l k.6.1)
    (λ l. bad_last_at most_used_bytes texts given ahead more s at_end last fits are says k.0 k.1 k.2 k.6.0 h.1 k.3 k.4 l.0 l.1 l.2 k.6.1)
    k.5 ∙ ap (bad_end (1 + length texts)) (sym k.6.2))
    h.2)
ends_as_read (Err ends.TooMany) texts given ahead more s at_end r before after last fits are says told rules h =
    too_many_at most_used_bytes texts given ahead more s at_end last fits are says before after h told
ends_as_read (Err ends.TooLong) texts given ahead more s at_end r before after last fits are says told rules h =
    over_at most_used_bytes texts given ahead more s at_end last fits are says h.0 h.1 h.2
ends_as_read (Err ends.ReadFault) texts given ahead more s at_end r before after last fits are says told rules h = absurd rules
ends_as_read (Err ends.Memory) texts given ahead more s at_end r before after last fits are says told rules h = absurd rules
ends_as_read (Err ends.WriteFault) texts given ahead more s at_end r before after last fits are says told rules h = absurd rules
ends_as_read (Err end) texts given ahead more s at_end r before after last fits are says told rules h = absurd h

-- ---- the status

-- of a last line, which may fail to be written
last_so : (status wanted : Status) (line : List ℕ) (e : Result (Unit {0}) End) (a b : OutputState) (r w : Type 0) → IsDripCaused wanted e r w → (Rose a.writes b.writes → w) → WritesLast status wanted (Some line) a b → IsDripCaused status e r w
last_so status wanted line e a b r w given spread h =
    ⊎_elim
    (λ k. subst (λ (x : Status). IsDripCaused x e r w) (sym k.0) given)
    (λ j. ⊎_elim
    (λ k. subst (λ (x : Status). IsDripCaused x e r w) (sym k.0) (spread k.2))
    (λ k. subst (λ (x : Status). IsDripCaused x e r w) (sym k.0) tt)
    j)
    h

-- of an end without one
no_line_so : (status wanted : Status) (e : Result (Unit {0}) End) (a b : OutputState) (r w : Type 0) → IsDripCaused wanted e r w → WritesLast status wanted None a b → IsDripCaused status e r w
no_line_so status wanted e a b r w given h = subst (λ (x : Status). IsDripCaused x e r w) (sym h.0) given

rose_since : (a b c : ℕ) → b ≡ a → Rose b c → Rose a c
rose_since a b c same rose = subst (λ (n : ℕ). Rose n c) same rose

rose_until : (a b c : ℕ) → c ≡ b → Rose a b → Rose a c
rose_until a b c same rose = subst (λ (n : ℕ). Rose a n) (sym same) rose

-- the status that an outcome gives, where it is by the rules
outcome_so : (o : Outcome) (s : DripScript) (given passed : ℕ) (ahead : List ℕ) (at_end : Type 0) (e : Result (Unit {0}) End) (status : Status) (a m b : OutputState) (r : Type 0) → (IsByRules o → e ≡ ending_of o) → DripEndsBy o s given passed ahead at_end r
    → DripReported o (report_of (played s)) a m → WritesAnswer status o m b → IsDripCaused status e r (Rose a.writes b.writes)
outcome_so (Ok text) s given passed ahead at_end e status a m b r is why reported h =
    last_so status statuses.Done text e m b r (Rose a.writes b.writes) (sym (ap (λ (x : Result (Unit {0}) End). outcome_status x) (is tt))) (rose_since a.writes m.writes b.writes reported.0) h
outcome_so (Err (ends.BadLine line f)) s given passed ahead at_end e status a m b r is why reported h =
    last_so status statuses.BadInput (bad_line line (fault_name f)) e m b r (Rose a.writes b.writes) (sym (ap (λ (x : Result (Unit {0}) End). outcome_status x) (is tt))) (rose_since a.writes m.writes b.writes reported.0) h
outcome_so (Err ends.TooMany) s given passed ahead at_end e status a m b r is why reported h =
    last_so status statuses.TooMany (codes "toomany" ++ 10 ∷ []) e m b r (Rose a.writes b.writes) (sym (ap (λ (x : Result (Unit {0}) End). outcome_status x) (is tt))) (rose_since a.writes m.writes b.writes reported.0) h
outcome_so (Err ends.TooLong) s given passed ahead at_end e status a m b r is why reported h =
    last_so status statuses.TooLong (codes "toolong" ++ 10 ∷ []) e m b r (Rose a.writes b.writes) (sym (ap (λ (x : Result (Unit {0}) End). outcome_status x) (is tt))) (rose_since a.writes m.writes b.writes reported.0) h
outcome_so (Err ends.ReadFault) s given passed ahead at_end e status a m b r is why reported h = no_line_so status statuses.ReadFault e m b r (Rose a.writes b.writes) why.3 h
outcome_so (Err ends.Memory) s given passed ahead at_end e status a m b r is why reported h = no_line_so status statuses.Memory e m b r (Rose a.writes b.writes) tt h
outcome_so (Err ends.WriteFault) s given passed ahead at_end e status a m b r is why reported h =
    no_line_so status statuses.WriteFault e m b r (Rose a.writes b.writes) (rose_until a.writes m.writes b.writes (ap (λ (o : OutputState). o.writes) h.1) reported.0) h
outcome_so (Err end) s given passed ahead at_end e status a m b r is why reported h = absurd why

same_input : (given ahead input more : List ℕ) → input ≡ given ++ ahead → input ++ more ≡ given ++ (ahead ++ more)
same_input given ahead input more parts = ap (λ (xs : List ℕ). xs ++ more) parts ∙ append_assoc given ahead more

pub of_all : (input : List ℕ) → drip_ending_of input ≡ of_bytes most_used_bytes input
unfolding drip_ending_of
of_all input = refl

pub caused_so : (status : Status) (a b : Outside) (x : Dripped status a b) (more : List ℕ) → (AtEnd b.input.left → more ≡ []) → IsDripCaused status (drip_ending_of (x.came.input ++ more)) (Rose a.input.reads b.input.reads) (Rose a.output.writes b.output.writes)
caused_so status a b x more last =
    let y = x.came in
    outcome_so x.outcome y.script (length y.texts) (length y.given) y.ahead (AtEnd b.input.left) (drip_ending_of (y.input ++ more)) status a.output x.between b.output (Rose a.input.reads b.input.reads)
    (λ rules. of_all (y.input ++ more) ∙ (ap (of_bytes most_used_bytes) (same_input y.given y.ahead y.input more y.parts)
    ∙ ends_as_read x.outcome y.texts y.given y.ahead more y.script (AtEnd b.input.left) (Rose a.input.reads b.input.reads) a.output.written x.between.written last y.used y.lines y.says y.told rules y.why))
    y.why y.reported x.answered

rest_of_source : (left : Option (List ℕ)) (bytes input : List ℕ) → Some bytes ≡ ahead_of input left → (rest : List ℕ) × (bytes ≡ input ++ rest) × (AtEnd left → rest ≡ [])
rest_of_source None bytes input h = absurd (let x = h in cc)
rest_of_source (Some rest) bytes input h = (rest, (let e : bytes ≡ input ++ rest = cc in e), λ none. none)

pub told_so : (status : Status) (a b : Outside) → Dripped status a b → (bytes : List ℕ) → a.input.left ≡ Some bytes → IsDripCaused status (drip_ending_of bytes) (Rose a.input.reads b.input.reads) (Rose a.output.writes b.output.writes)
told_so status a b x bytes told =
    let s = rest_of_source b.input.left bytes x.came.input (sym told ∙ x.came.taken) in
    subst (λ (xs : List ℕ). IsDripCaused status (drip_ending_of xs) (Rose a.input.reads b.input.reads) (Rose a.output.writes b.output.writes)) (sym s.1) (caused_so status a b x s.0 s.2)

-- ---- a script in its limits

used_lines : (most : ℕ) (input : List ℕ) (s : DripScript) → drip_script_of (lines input) ≡ Some s → 0 < s.nodes → length s.items ≤ most_events → ending_within most false input ≡ Ok tt
unfolding lines_within
used_lines most input s says some few =
    ap (ending_by_lines false first_script 1) (sym (append-nil (lines input))) ∙ (ends_behind false (lines input) [] first_script s 1 says few ∙ ends_at_end s (1 + length (lines input)) some)

in_limits : (most : ℕ) (input : List ℕ) (s : DripScript) → length input ≤ most → drip_script_of (lines input) ≡ Some s → 0 < s.nodes → length s.items ≤ most_events → of_bytes most input ≡ Ok tt
in_limits most input s fits says some few =
    at_flag most input false (Ok tt) (not_above (length input) most fits)
    (used_lines most input s says some few)

done_or_memory : (status : Status) (r w : Type 0) → (r → ⊥) → (w → ⊥) → IsDripCaused status (Ok tt) r w → (status ≡ statuses.Done) ⊎ (status ≡ statuses.Memory)
done_or_memory statuses.Done r w unread unwritten h = inl h
done_or_memory statuses.Memory r w unread unwritten h = inr refl
done_or_memory statuses.Usage r w unread unwritten h = inl h
done_or_memory statuses.BadInput r w unread unwritten h = inl h
done_or_memory statuses.ReadFault r w unread unwritten h = absurd (unread h)
done_or_memory statuses.WriteFault r w unread unwritten h = absurd (unwritten h)
done_or_memory statuses.FlashFault r w unread unwritten h = inl h
done_or_memory statuses.NotAVolume r w unread unwritten h = inl h
done_or_memory statuses.Refused r w unread unwritten h = inl h
done_or_memory statuses.LinkFault r w unread unwritten h = inl h
done_or_memory statuses.TooLong r w unread unwritten h = inl h
done_or_memory statuses.TooMany r w unread unwritten h = inl h
done_or_memory statuses.NoBoard r w unread unwritten h = inl h
done_or_memory statuses.NoImage r w unread unwritten h = inl h

pub complete_so : (status : Status) (a b : Outside) → Dripped status a b → (bytes : List ℕ) → a.input.left ≡ Some bytes → InDripLimits bytes → (Rose a.input.reads b.input.reads → ⊥) → (Rose a.output.writes b.output.writes → ⊥) → (status ≡ statuses.Done) ⊎ (status ≡ statuses.Memory)
complete_so status a b x bytes told l unread unwritten =
    let is : drip_ending_of bytes ≡ Ok tt = of_all bytes ∙ in_limits most_used_bytes bytes l.script l.bytes l.says l.nodes l.events in
    done_or_memory status (Rose a.input.reads b.input.reads) (Rose a.output.writes b.output.writes) unread unwritten (subst (λ (e : Result (Unit {0}) End). IsDripCaused status e (Rose a.input.reads b.input.reads) (Rose a.output.writes b.output.writes)) is (told_so status a b x bytes told))

pub ends_so : (status : Status) (a b : Outside) → Dripped status a b → DripEnds status a b
ends_so status a b x = record {
  caused = λ y more last. caused_so status a b y more last;
  told = λ bytes told. told_so status a b x bytes told;
  complete = λ bytes told limits unread unwritten. complete_so status a b x bytes told limits unread unwritten;
}
