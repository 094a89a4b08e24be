-- What a base mote did, by how its line ended and what it reported.
use Rattle.std.proofs.Common.{◌≡◌, ◌≢◌, ◌⊎◌, ⊎_elim, ℕ, ◌+◌, ◌≤◌, ◌<◌, List, [], ◌++◌, length, take, refl, ap, sym, ◌∙◌, subst, append-nil, arith}
use Rattle.std.specs.Prelude.{Option, Some, None, Result, Ok, Err, IfErr, map}
use Rattle.dg_words.specs.Counts.{Rose}
use Rattle.dg_base.specs.Outside.{Takes, Puts}
use Rattle.dg_base.specs.Sizes.{most_input}
use Rattle.dg_base.specs.declared.answers.Status.{Status}
use Rattle.dg_base.specs.declared.answers.Status.TheVariants as statuses
use Rattle.dg_outside.specs.Outside.{InputState, OutputState, Outside}
use Rattle.dg_end.specs.Lines.{status_of, last_line, HasFixedLine}
use Rattle.dg_end.specs.Writes.{WritesLast, WritesEnd}
use Rattle.dg_end.specs.declared.ends.End.{End}
use Rattle.dg_end.specs.declared.ends.End.TheVariants as ends
use Rattle.dg_nor.specs.Device.{Device}
use Rattle.dg_volume.specs.Store.{Store}
use Rattle.dg_frame.specs.Spelling.{frame_of}
use Rattle.dg_frame.specs.declared.Message.{Message}
use Rattle.std.specs.List.{AllByRecursion}
use Rattle.dg_serial.specs.Line.{stuffed_line, items, Frame, IsOnLine}
use Rattle.dg_serial.specs.Reading.{FrameReading}
use Rattle.dg_serial_base.specs.BaseEvents.{Base, base_events_of, powered, power_effect, line_sent}
use Rattle.dg_serial_base.specs.Based.{BaseCame, AtPower, Later, BaseLine, RefusedBy, Refused, BaseCauses}
use Rattle.dg_serial_base.specs.inner.Standing.{Calm, WhyStopped, Outset, FailedBy, code_on_line, StreamPlayed, BaseEventsHalted, InputEnds, Counts, WriteCounts, ReadCounts}
use Rattle.dg_serial_base.specs.declared.running.Running.{Running}
use Rattle.dg_serial_base.proofs.RunLemmas.{run_rests}
use Rattle.dg_serial_base.proofs.WriteLemmas.{puts_nothing}

abbrev pub BackLaw : Type 0
BackLaw = (frames : List (List ℕ)) → AllByRecursion IsOnLine frames → items (stuffed_line frames) ≡ map Frame frames

-- where a line begins from a chip that stands for a store
abbrev pub outset_of : Base → Store → Outside → Outset
outset_of b s x = record { base = b; store = s; written = x.output.written }

module _ (back : BackLaw) (b : Base) (s : Store) (old new : Device) (x y : Outside) where
  abbrev a : Outset
  a = outset_of b s x

  abbrev Ends : Result (Unit {0}) End → Type 0
  Ends r = BaseLine r b s old new x y

  -- all was played
  abbrev came_all : (input : List ℕ) (v : Running) (line : FrameReading) → StreamPlayed a (take most_input input) (code_on_line y.output.written v line new) → BaseCame b s input
  came_all input v line p =
      record { done = base_events_of (take most_input input); rest = []; parts = append-nil (base_events_of (take most_input input)); there = p.went.there; run = p.went.stood.run; heard = back (map frame_of p.went.there.sent) p.went.fits }

  abbrev came_some : (why : End) (input : List ℕ) → BaseEventsHalted why a (base_events_of (take most_input input)) y.output.written new → BaseCame b s input
  came_some why input h = record { done = h.done; rest = h.rest; parts = h.parts; there = h.there; run = h.run; heard = back (map frame_of h.there.sent) h.fits }

  no_end : (end : End) → Err end ≡ Ok (tt {0}) → ⊥
  no_end end e = cc

  pub input_ends : (r : Result (Unit {0}) End) (v : Running) (line : FrameReading) → InputEnds r a x.input.left y.input.left (code_on_line y.output.written v line new) → Ends r
  input_ends (Ok done) v line i =
      let p = i.by.0 in
      record {
        input = i.input;
        taken = i.taken;
        few = i.few;
        text = line_sent p.went.there;
        put = p.went.put;
        by = (came_all i.input v line p, ((refl, (p.went.stood.state, p.went.stood.on)), refl, i.by.2), p.went.stood.mote.mounted.stands);
        whole = λ is. i.by.1;
      }
  input_ends (Err ends.ReadFault) v line i =
      let p = i.by.0 in
      record {
        input = i.input;
        taken = i.taken;
        few = i.few;
        text = line_sent p.went.there;
        put = p.went.put;
        by = (came_all i.input v line p, ((refl, (p.went.stood.state, p.went.stood.on)), refl, i.by.1), p.went.stood.mote.mounted.stands);
        whole = λ is. absurd (no_end ends.ReadFault is);
      }
  input_ends (Err ends.TooLong) v line i =
      let p = i.by.0 in
      record {
        input = i.input;
        taken = i.taken;
        few = i.few;
        text = line_sent p.went.there;
        put = p.went.put;
        by = (came_all i.input v line p, ((refl, (p.went.stood.state, p.went.stood.on)), refl, i.by.1), p.went.stood.mote.mounted.stands);
        whole = λ is. absurd (no_end ends.TooLong is);
      }
  input_ends (Err ends.NoImage) v line i =
      let h = i.by in
      record {
        input = i.input;
        taken = i.taken;
        few = i.few;
        text = line_sent h.there;
        put = h.by.1;
        by = (came_some ends.NoImage i.input h, (h.by.0, refl), h.by.2);
        whole = λ is. absurd (no_end ends.NoImage is);
      }
  input_ends (Err ends.Memory) v line i =
      let h = i.by in
      record {
        input = i.input;
        taken = i.taken;
        few = i.few;
        text = h.by.0;
        put = h.by.1;
        by = (came_some ends.Memory i.input h, h.by.2, h.by.3);
        whole = λ is. absurd (no_end ends.Memory is);
      }
  input_ends (Err ends.WriteFault) v line i =
      let h = i.by in
      record {
        input = i.input;
        taken = i.taken;
        few = i.few;
        text = h.by.0;
        put = h.by.1;
        by = (came_some ends.WriteFault i.input h, h.by.2, h.by.3);
        whole = λ is. absurd (no_end ends.WriteFault is);
      }
  input_ends (Err ends.FlashFault) v line i =
      let h = i.by in
      record {
        input = i.input;
        taken = i.taken;
        few = i.few;
        text = line_sent h.there;
        put = h.by.5;
        by = Later (came_some ends.FlashFault i.input h) h.by.6.between h.by.0 h.by.1 h.by.2 h.by.3 h.by.4 refl h.by.6.stands h.by.6.stops;
        whole = λ is. absurd (no_end ends.FlashFault is);
      }
  input_ends (Err end) v line i = absurd i.by.by

  -- ---- power-on

  takes_nothing : (o : Option (List ℕ)) → Takes o o []
  takes_nothing None = refl
  takes_nothing (Some rest) = refl

  none_taken : y.input ≡ x.input → Takes x.input.left y.input.left []
  none_taken e = subst (λ (i : InputState). Takes i.left y.input.left []) e (takes_nothing y.input.left)

  none_put : y.output ≡ x.output → Puts x.output.written y.output.written []
  none_put e = subst (λ (o : OutputState). Puts o.written y.output.written []) e (puts_nothing y.output.written)

  none_said : (powered b s).sent ≡ [] → line_sent (powered b s) ≡ []
  none_said e = ap (λ (sent : List Message). stuffed_line (map frame_of sent)) e

  -- the chip powered on, and nothing else happened
  abbrev came_none : (powered b s).sent ≡ [] → BaseCame b s []
  came_none silent = record {
    done = [];
    rest = base_events_of (take most_input []);
    parts = refl;
    there = powered b s;
    run = run_rests b (powered b s);
    heard = back (map frame_of (powered b s).sent) (subst (λ (sent : List Message). AllByRecursion IsOnLine (map frame_of sent)) (sym silent) tt);
  }

  pub power_ends : (why : End) → FailedBy why s (power_effect b s) new → (powered b s).sent ≡ [] → y.input ≡ x.input → y.output ≡ x.output → Ends (Err why)
  power_ends ends.NoImage f silent unread unwritten =
      record {
        input = [];
        taken = none_taken unread;
        few = omega arith;
        text = [];
        put = none_put unwritten;
        by = (came_none silent, (f.none, sym (none_said silent)), f.stands);
        whole = λ is. absurd (no_end ends.NoImage is);
      }
  power_ends ends.FlashFault f silent unread unwritten =
      record {
        input = [];
        taken = none_taken unread;
        few = omega arith;
        text = [];
        put = none_put unwritten;
        by = AtPower f.between refl f.stands f.stops;
        whole = λ is. absurd (no_end ends.FlashFault is);
      }
  power_ends end f silent unread unwritten = absurd f

-- ---- counts

module _ (status : Status) (old new : Device) (x y : Outside) where
  abbrev ReadsAre : Type 0
  ReadsAre = (x.input.reads ≤ y.input.reads) × (status ≡ statuses.ReadFault → Rose x.input.reads y.input.reads) × (status ≢ statuses.ReadFault → y.input.reads ≡ x.input.reads)

  abbrev WritesAre : Type 0
  WritesAre = (x.output.writes ≤ y.output.writes) × (status ≡ statuses.WriteFault → Rose x.output.writes y.output.writes) × (status ≢ statuses.WriteFault → y.output.writes ≡ x.output.writes)

  abbrev ChipIs : Type 0
  ChipIs = (status ≡ statuses.FlashFault → WhyStopped old new) × (status ≢ statuses.FlashFault → (new.faults ≡ old.faults) × (new.stopped ≡ old.stopped))

  reads_same : status ≢ statuses.ReadFault → y.input.reads ≡ x.input.reads → ReadsAre
  reads_same n e = (omega (arith, e), λ is. absurd (n is), λ _. e)

  writes_same : status ≢ statuses.WriteFault → y.output.writes ≡ x.output.writes → WritesAre
  writes_same n e = (omega (arith, e), λ is. absurd (n is), λ _. e)

  chip_calm : status ≢ statuses.FlashFault → Calm old new → ChipIs
  chip_calm n calm = (λ is. absurd (n is), λ _. (calm.faults, calm.stopped))

  causes_with : ReadsAre → WritesAre → ChipIs → BaseCauses status old new x y
  causes_with r w c = record { reads = r.0; writes = w.0; read_fault = r.1; unread = r.2; write_fault = w.1; written = w.2; flash_fault = c.0; calm = c.1 }

  -- an answer that reports no fault
  calm_causes : status ≢ statuses.ReadFault → status ≢ statuses.WriteFault → status ≢ statuses.FlashFault → y.input.reads ≡ x.input.reads → y.output.writes ≡ x.output.writes → Calm old new → BaseCauses status old new x y
  calm_causes nr nw nf reads writes calm = causes_with (reads_same nr reads) (writes_same nw writes) (chip_calm nf calm)

-- a write failed
write_causes : (old new : Device) (x y : Outside) → y.input.reads ≡ x.input.reads → Rose x.output.writes y.output.writes → x.output.writes ≤ y.output.writes → Calm old new → BaseCauses statuses.WriteFault old new x y
write_causes old new x y reads rose le calm =
    causes_with statuses.WriteFault old new x y (reads_same statuses.WriteFault old new x y (λ e. cc) reads) (le, λ _. rose, λ n. absurd (n refl)) (chip_calm statuses.WriteFault old new x y (λ e. cc) calm)

-- what was written last raised no count, or failed
last_causes : (status wanted : Status) (line : Option (List ℕ)) (old new : Device) (x y : Outside) (between : OutputState) → WritesLast status wanted line between y.output → between.writes ≤ y.output.writes → between.writes ≡ x.output.writes → wanted ≢ statuses.ReadFault → wanted ≢ statuses.WriteFault
    → wanted ≢ statuses.FlashFault → y.input.reads ≡ x.input.reads → Calm old new → BaseCauses status old new x y
last_causes status wanted None old new x y between h le same nr nw nf reads calm =
    subst (λ (t : Status). BaseCauses t old new x y) (sym h.0) (calm_causes wanted old new x y nr nw nf reads (ap (λ (o : OutputState). o.writes) h.1 ∙ same) calm)
last_causes status wanted (Some text) old new x y between h le same nr nw nf reads calm =
    ⊎_elim
    (λ k. subst (λ (t : Status). BaseCauses t old new x y) (sym k.0) (calm_causes wanted old new x y nr nw nf reads (k.2 ∙ same) calm))
    (λ j. ⊎_elim
    (λ k.
    subst (λ (t : Status). BaseCauses t old new x y) (sym k.0)
    (write_causes old new x y reads (subst (λ (n : ℕ). Rose n y.output.writes) same k.2) (subst (λ (n : ℕ). n ≤ y.output.writes) same le) calm))
    (λ k. subst (λ (t : Status). BaseCauses t old new x y) (sym k.0)
    (calm_causes statuses.Memory old new x y (λ e. cc) (λ e. cc) (λ e. cc) reads (ap (λ (o : OutputState). o.writes) k.1 ∙ same) calm))
    j)
    h

pub line_causes : (r : Result (Unit {0}) End) (status : Status) (old new : Device) (x y : Outside) (between : OutputState) → Counts r old new → WriteCounts r x.output.writes between.writes → ReadCounts r x.input.reads y.input.reads
    → WritesEnd status r between y.output → between.writes ≤ y.output.writes → BaseCauses status old new x y
line_causes (Ok u) status old new x y between c w r t le = last_causes status statuses.Done None old new x y between t le w (λ e. cc) (λ e. cc) (λ e. cc) r c
line_causes (Err ends.ReadFault) status old new x y between c w r t le =
    subst (λ (z : Status). BaseCauses z old new x y) (sym t.0)
    (causes_with statuses.ReadFault old new x y (r.1, λ _. r.0, λ n. absurd (n refl))
    (writes_same statuses.ReadFault old new x y (λ e. cc) (ap (λ (o : OutputState). o.writes) t.1 ∙ w)) (chip_calm statuses.ReadFault old new x y (λ e. cc) c))
line_causes (Err ends.WriteFault) status old new x y between c w r t le =
    let same : between.writes ≡ y.output.writes = sym (ap (λ (o : OutputState). o.writes) t.1) in
    subst (λ (z : Status). BaseCauses z old new x y) (sym t.0)
    (write_causes old new x y r (subst (λ (n : ℕ). Rose x.output.writes n) same w.0) (subst (λ (n : ℕ). x.output.writes ≤ n) same w.1) c)
line_causes (Err ends.FlashFault) status old new x y between c w r t le =
    subst (λ (z : Status). BaseCauses z old new x y) (sym t.0)
    (causes_with statuses.FlashFault old new x y (reads_same statuses.FlashFault old new x y (λ e. cc) r) (writes_same statuses.FlashFault old new x y (λ e. cc) (ap (λ (o : OutputState). o.writes) t.1 ∙ w)) (λ _. c, λ n. absurd (n refl)))
line_causes (Err end) status old new x y between c w r t le = last_causes status (status_of end) (last_line end) old new x y between t le w (λ e. cc) (λ e. cc) (λ e. cc) r c

-- ---- a chip that is not a volume

-- its last line takes no memory
room_so : (r : Result (Unit {0}) End) (status : Status) (old new : Device) (a b : OutputState) → RefusedBy r old new → WritesEnd status r a b → ((end : End) → r ≡ Err end → HasFixedLine end → status ≢ statuses.Memory) → status ≢ statuses.Memory
room_so (Ok u) status old new a b refused told fixed = absurd refused
room_so (Err ends.NotAVolume) status old new a b refused told fixed = fixed ends.NotAVolume refl tt
room_so (Err ends.FlashFault) status old new a b refused told fixed = λ is. let e : statuses.Memory ≡ statuses.FlashFault = sym is ∙ told.0 in cc
room_so (Err end) status old new a b refused told fixed = absurd refused

pub line_refused : (r : Result (Unit {0}) End) (status : Status) (old new : Device) (x y : Outside) (between : OutputState) → RefusedBy r old new × (y.input ≡ x.input) × (between ≡ x.output) → WritesEnd status r between y.output
    → ((end : End) → r ≡ Err end → HasFixedLine end → status ≢ statuses.Memory) → Refused status old new x y
line_refused r status old new x y between refused told fixed =
    let last : WritesEnd status r x.output y.output = subst (λ (o : OutputState). WritesEnd status r o y.output) refused.2 told in
    record { unread = refused.1; outcome = r; by = refused.0; told = last; room = room_so r status old new x.output y.output refused.0 last fixed }

-- what is known of the fault that was reported
pub fixed_at : (r : Result (Unit {0}) End) (status : Status) → IfErr r (λ end. HasFixedLine end → status ≢ statuses.Memory) → (end : End) → r ≡ Err end → HasFixedLine end → status ≢ statuses.Memory
fixed_at r status h end is = subst (λ (x : Result (Unit {0}) End). IfErr x (λ e. HasFixedLine e → status ≢ statuses.Memory)) is h

-- a chip that is refused is so whatever would have been answered
pub refused_same : (T U : Type 0) (end : End) (old new : Device) → RefusedBy {T = T} (Err end) old new → RefusedBy {T = U} (Err end) old new
refused_same T U ends.NotAVolume old new h = h
refused_same T U ends.FlashFault old new h = h
refused_same T U end old new h = absurd h
