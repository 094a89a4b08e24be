-- A step that was done at its board, as a step of the world.
use Rattle.std.proofs.Common.{◌≡◌, ℕ, ◌-◌, ◌<◌, ◌≤◌, Bool, true, false, List, [], ◌∷◌, ◌++◌, length, get_or, set, append-nil, append_assoc, refl, ap, sym, ◌∙◌, subst, arith}
use Rattle.std.specs.Prelude.{Option, Some, None, IfSome, nat_le, option_map, Result, Ok, Err, IsErrAnd}
use Rattle.std.specs.List.{filter}
use Rattle.std.proofs.lemmas.Bool.Decides.{nat_tests}
use Rattle.std.proofs.lemmas.List.{set-get_or}
use Rattle.std.proofs.lemmas.Option.{same_Some}
use Rattle.dg_nor.specs.Device.{Device, MadeMore}
use Rattle.dg_nor.specs.Fuse.{beneath_of}
use Rattle.dg_nor.specs.Trail.{Trail, operations, last, MayLeave}
use Rattle.dg_nor.proofs.DeviceLemmas.{Endures_then, MadeMore_then}
use Rattle.dg_slot.specs.Pages.{program}
use Rattle.dg_volume.specs.Store.{Store, IsNear}
use Rattle.dg_volume.specs.Stands.{Stands}
use Rattle.dg_volume.specs.Start.{Runs}
use Rattle.dg_frame.specs.declared.Message.{Message}
use Rattle.dg_frame.specs.Spelling.{frame_of}
use Rattle.dg_rules.specs.World.{World as RuleWorld, Site, no_site, site, store_at, counted, with_site}
use Rattle.dg_rules.specs.Events.{EventEffect, Does, Refuses, Goes, trail_of, does, mote_of, dt_of}
use Rattle.dg_rules.specs.Steps.{blows, before_cut, and_sent, done_world, cut_world, done_reports, Ended, StepDoes, WorldStep}
use Rattle.dg_rules.specs.Changes.{changes, is_reported}
use Rattle.dg_rules.specs.Made.{made_in}
use Rattle.dg_script.specs.Ranges.{EventInRange}
use Rattle.dg_base.specs.declared.events.Cut.{Cut as PowerCut}
use Rattle.dg_base.specs.declared.events.Event.{Event}
use Rattle.dg_base.specs.declared.events.Event.TheVariants.{Tick, Hear, Last, Reset, Inject, Order as OrderEvent, Frame}
use Rattle.dg_base.specs.declared.events.Step.{Step}
use Rattle.dg_script.specs.declared.report.Cause.{Cause}
use Rattle.dg_script.specs.declared.report.Report.{Report}
use Rattle.dg_script.specs.declared.report.Report.TheVariants.{Off, Refused as RefusedLine}
use Rattle.dg_shared.specs.Airs.{sent_now}
use Rattle.dg_world.specs.Worlds.{MoteStands, SiteStands}
use Rattle.dg_world.specs.inner.OutcomeEndings.{outcome_frame, outcome_lines}
use Rattle.dg_world.specs.inner.CutEnds.{EventIsWhole, EventIsCut, EventPlayed}
use Rattle.dg_node.specs.Hosts.{host}
use Rattle.dg_world.specs.inner.Steps.{CutChangesAre, Stepped}
use Rattle.dg_world.specs.Stepped.{StepDone, board_state}
use Rattle.dg_node.specs.declared.report.ChipReport.{ChipReport}
use Rattle.dg_node.specs.declared.node.Node.{Node}
use Rattle.dg_world.specs.declared.outcome.Outcome.{Outcome}
use Rattle.dg_world.specs.declared.outcome.Fault.{Fault}
use Rattle.dg_world.specs.declared.outcome.Fault.TheVariants as fault
use Rattle.dg_world.specs.inner.Outcomes.{halt_of, stepped}
use Rattle.dg_world.proofs.ChipReportLemmas.{cut_told}
use Rattle.dg_world.proofs.CountLemmas.{steady_then}
use Rattle.dg_world.proofs.StepLemmas.{ReadAndTold}
use Rattle.dg_world.specs.inner.EventOutcomes.{EventOutcome, Halt, Refused, Unreported, Sends, Changes, Starts, Whole, Cut, Stopped, NotAVolume, NoImage}

same_effect : (d e : EventEffect) → Goes d ≡ Goes e → d ≡ e
same_effect d e h = cc

refuses_goes : (why : Cause) (d : EventEffect) → Refuses why ≡ Goes d → ⊥
refuses_goes why d h = cc

true_false : true ≡ false → ⊥
true_false h = cc

-- the step of a world, by what its event does
world_step : (w : RuleWorld) (x : Step) (d : EventEffect) (b : Bool) (v : RuleWorld) (reports : List Report) → does w x.event ≡ Goes d → blows x.cut d.trail ≡ b → Ended b w x d v reports → WorldStep w x v reports
unfolding WorldStep
world_step w x d b v reports goes is ended =
    subst (λ (y : Does). StepDoes y w x v reports) (sym goes) (subst (λ (c : Bool). Ended c w x d v reports) (sym is) ended)

refused_step : (w : RuleWorld) (x : Step) (why : Cause) → does w x.event ≡ Refuses why → WorldStep w x (counted w (dt_of x.event)) (RefusedLine (mote_of x.event) why ∷ [])
unfolding WorldStep
refused_step w x why is = subst (λ (y : Does). StepDoes y w x (counted w (dt_of x.event)) (RefusedLine (mote_of x.event) why ∷ [])) (sym is) (refl, refl)

set_here : {A : Type 0} (xs : List A) (i : ℕ) (d : A) → i < length xs → xs ≡ set xs i (get_or xs i d)
set_here xs i d h = sym (set-get_or xs i d)

-- ---- what is sent

-- except for what was sent the world is the same
record SameBut (v w : RuleWorld) : Type 0 where
  moment : v.moment ≡ w.moment
  events : v.events ≡ w.events
  declared : v.declared ≡ w.declared
  links : v.links ≡ w.links
  narrow : v.narrow ≡ w.narrow
  sites : v.sites ≡ w.sites

same_but : (w : RuleWorld) (m : ℕ) (message : Option Message) → SameBut (and_sent w m message) w
same_but w m None = record { moment = refl; events = refl; declared = refl; links = refl; narrow = refl; sites = refl }
same_but w m (Some message) = record { moment = refl; events = refl; declared = refl; links = refl; narrow = refl; sites = refl }

-- a frame and the message that it encodes
sent_with : (w : RuleWorld) (m : ℕ) (frame : Option (List ℕ)) (message : Option Message) → frame ≡ option_map frame_of message → (and_sent w m message).sent ≡ w.sent ++ sent_now m frame
sent_with w m None None e = sym (append-nil w.sent)
sent_with w m (Some frame) None e = absurd cc
sent_with w m None (Some message) e = absurd cc
sent_with w m (Some frame) (Some message) e =
    ap (λ (bytes : List ℕ). w.sent ++ record { by = m; bytes = bytes } ∷ []) (same_Some (frame_of message) frame (sym e))

none_sent : (w : RuleWorld) (m : ℕ) (frame : Option (List ℕ)) → frame ≡ None → w.sent ≡ w.sent ++ sent_now m frame
none_sent w m None e = sym (append-nil w.sent)
none_sent w m (Some frame) e = absurd cc

-- ---- what ended the event

pub refused_done : (w : RuleWorld) (x : Step) (reported : Bool) (v u : Option Node) (frame : Option (List ℕ)) (why : Cause) (a b : Device) (start end : List Report) → mote_of x.event < length w.sites
    → SiteStands a v (site w (mote_of x.event)) → does w x.event ≡ Refuses why → b.image ≡ a.image → u ≡ v → frame ≡ outcome_frame (Refused why) → end ≡ start ++ filter (is_reported reported) (outcome_lines (mote_of x.event) (Refused why))
    → StepDone w x reported frame start (board_state b u end)
refused_done w x reported v u frame why a b start end known stands is same at none told =
    let here = site w (mote_of x.event) in
    let P : List ℕ → Option Node → Type 0 = λ c o. MoteStands c o here.store here.runs in
    record {
      world = counted w (dt_of x.event);
      reports = RefusedLine (mote_of x.event) why ∷ [];
      step = refused_step w x why is;
      report_now = told;
      here = here;
      moment = refl;
      events = refl;
      declared = refl;
      links = refl;
      narrow = refl;
      sent = none_sent w (mote_of x.event) frame none;
      sites = set_here w.sites (mote_of x.event) no_site known;
      stands = subst (λ c. Stands c here.store) (sym same) stands.stands;
      mote = subst (λ (c : List ℕ). P c u) (sym same) (subst (P a.image) (sym at) stands.mote);
      memory = λ d r goes whole some. absurd (refuses_goes why d (sym is ∙ goes));
    }

pub whole_done : (w : RuleWorld) (x : Step) (reported : Bool) (u : Option Node) (frame : Option (List ℕ)) (outcome : EventOutcome) (b : Device) (start end : List Report)
    → EventIsWhole w (mote_of x.event) (does w x.event) x.cut u b.image outcome → frame ≡ outcome_frame outcome → end ≡ start ++ filter (is_reported reported) (outcome_lines (mote_of x.event) outcome) → StepDone w x reported frame start (board_state b u end)
whole_done w x reported u frame outcome b start end is sends told =
    let m = mote_of x.event in
    let d = is.effect in
    let here : Site = record { store = last d.trail; runs = is.tells.runs } in
    let before : RuleWorld = with_site (record (counted w (dt_of x.event)) { table = d.table }) m here in
    let same = same_but before m d.sent in
    record {
      world = done_world w m (dt_of x.event) d is.tells.runs;
      reports = done_reports w m d;
      step = world_step w x d false _ _ is.goes is.whole (is.tells.runs, is.tells.runs_then, refl, refl);
      report_now = told ∙ ap (λ (l : List Report). start ++ filter (is_reported reported) l) is.tells.lines;
      here = here;
      moment = same.moment;
      events = same.events;
      declared = same.declared;
      links = same.links;
      narrow = same.narrow;
      sent = sent_with before m frame d.sent (sends ∙ is.tells.sent);
      sites = same.sites;
      stands = is.tells.stands;
      mote = is.tells.mote;
      memory = λ e r goes whole some.
          let P : Option Runs → Type 0 = λ o. IfSome o (λ q. program b.image (length q.pages) ≡ q.pages) in
          subst P (ap (λ (y : EventEffect). y.started) (same_effect d e (sym is.goes ∙ goes)) ∙ some) is.tells.memory;
    }

pub cut_done : (w : RuleWorld) (x : Step) (reported : Bool) (before : Option ChipReport) (b c : Device) (start mid end : List Report) → (is : EventIsCut w (mote_of x.event) (does w x.event) x.cut b.image before)
    → CutChangesAre (mote_of x.event) before is.leaves.store start mid → end ≡ mid ++ Off (mote_of x.event) ∷ [] → c.image ≡ b.image → StepDone w x reported None start (board_state c None end)
cut_done w x reported before b c start mid end is lines off same =
    let m = mote_of x.event in
    let d = is.effect in
    let s = is.leaves.store in
    let told = lines.tells (before_cut x.cut) (store_at w m) d.trail is.leaves.allowed is.is_report in
    record {
      world = cut_world w m (dt_of x.event) d s;
      reports = changes m (store_at w m) s ++ Off m ∷ [];
      step = world_step w x d true _ _ is.goes is.blown (record { store = s; allowed = is.leaves.allowed; world = refl; report = refl });
      report_now = off ∙ ap (λ (l : List Report). l ++ Off m ∷ []) lines.report_now ∙ append_assoc start lines.lines (Off m ∷ []) ∙ ap (λ (l : List Report). start ++ (l ++ Off m ∷ [])) told ∙ ap (λ (l : List Report). start ++ l) (sym (cut_told reported m (store_at w m) s));
      here = record { store = s; runs = None };
      moment = refl;
      events = refl;
      declared = refl;
      links = refl;
      narrow = refl;
      sent = sym (append-nil w.sent);
      sites = refl;
      stands = subst (λ i. Stands i s) (sym same) is.leaves.stands_for;
      mote = tt;
      memory = λ e r goes whole some. absurd (true_false (sym is.blown ∙ ap (λ (y : EventEffect). blows x.cut y.trail) (same_effect d e (sym is.goes ∙ goes)) ∙ whole));
    }

-- ---- what the step ends with

pub step_outcome : (w : RuleWorld) (x : Step) (reported : Bool) (v u : Option Node) (frame : Option (List ℕ)) (outcome : EventOutcome) (a b : Device) (start end : List Report) → mote_of x.event < length w.sites → SiteStands a v (site w (mote_of x.event))
    → EventPlayed (Ok (Whole outcome)) w (mote_of x.event) (does w x.event) x.cut (host a v) (host b u) → frame ≡ outcome_frame outcome → end ≡ start ++ filter (is_reported reported) (outcome_lines (mote_of x.event) outcome)
    → Stepped (Ok frame) w x reported (board_state a v start) (board_state b u end)
step_outcome w x reported v u frame (Refused why) a b start end known stands p sends told =
    record { ends = refused_done w x reported v u frame why a b start end known stands p.ends.0 p.ends.1 p.ends.2 sends told; endures = p.endures; count = p.count; made = p.made }
step_outcome w x reported v u frame Unreported a b start end known stands p sends told = record { ends = whole_done w x reported u frame Unreported b start end p.ends sends told; endures = p.endures; count = p.count; made = p.made }
step_outcome w x reported v u frame (Sends f) a b start end known stands p sends told = record { ends = whole_done w x reported u frame (Sends f) b start end p.ends sends told; endures = p.endures; count = p.count; made = p.made }
step_outcome w x reported v u frame (Changes k l) a b start end known stands p sends told = record { ends = whole_done w x reported u frame (Changes k l) b start end p.ends sends told; endures = p.endures; count = p.count; made = p.made }
step_outcome w x reported v u frame (Starts k) a b start end known stands p sends told = record { ends = whole_done w x reported u frame (Starts k) b start end p.ends sends told; endures = p.endures; count = p.count; made = p.made }

-- the operations before a cut that fires are some of the event's
blown_within : (cut : Option PowerCut) (t : Trail Store) → blows cut t ≡ true → before_cut cut ≤ operations t
blown_within None t blown = absurd (true_false (sym blown))
blown_within (Some c) t blown = within_by c.after (operations t) blown
  where
    within_by : (n m : ℕ) → nat_le n m ≡ true → n - 1 ≤ m
    within_by n m h = grind (arith, nat_tests)

cut_within : (cut : Option PowerCut) (d : EventEffect) (D : Does) (s : Store) → D ≡ Goes d → blows cut d.trail ≡ true → before_cut cut ≤ operations (trail_of D s)
cut_within cut d D s goes blown = subst (λ (y : Does). before_cut cut ≤ operations (trail_of y s)) (sym goes) (blown_within cut d.trail blown)

cut_itself : (cut : Option PowerCut) → IfSome cut (λ c. before_cut cut ≤ c.after - 1)
cut_itself None = tt
cut_itself (Some c) = omega arith

pub step_cut : {T : Type 0} (w : RuleWorld) (x : Step) (reported : Bool) (v u : Option Node) (before : Option ChipReport) (q : Result T Fault) (y : T) (a b c : Device) (start mid end : List Report) → (p : EventPlayed (Ok (Cut before)) w (mote_of x.event) (does w x.event) x.cut (host a v) (host b u))
    → q ≡ Ok y → ReadAndTold q (mote_of x.event) before p.ends.leaves.store b c start mid → end ≡ mid ++ Off (mote_of x.event) ∷ [] → Stepped (Ok None) w x reported (board_state a v start) (board_state c None end)
step_cut {T} w x reported v u before q y a b c start mid end p is told off =
    let l : ReadAndTold (Ok y) (mote_of x.event) before p.ends.leaves.store b c start mid = subst (λ (z : Result T Fault). ReadAndTold z (mote_of x.event) before p.ends.leaves.store b c start mid) is told in
    record {
      ends = cut_done w x reported before b c start mid end p.ends l.0 off l.1.read.same_image;
      endures = Endures_then (beneath_of a) (beneath_of b) (beneath_of c) p.endures l.1.read.endures;
      count = steady_then p.count l.1.stays;
      made = subst (λ (n : ℕ). MadeMore n a.made c.made) (omega arith) (MadeMore_then (made_in w x) 0 a.made b.made c.made p.made l.1.made);
    }

cut_halts : (T : Type 0) (f : Fault) (w : RuleWorld) (x : Step) (reported : Bool) (v u o : Option Node) (before k : Option ChipReport) (a b c : Device) (start end : List Report) → (p : EventPlayed (Ok (Cut before)) w (mote_of x.event) (does w x.event) x.cut (host a v) (host b u))
    → ReadAndTold {T = T} (Err f) (mote_of x.event) before p.ends.leaves.store b c start end → Stepped (Err (halt_of f k)) w x reported (board_state a v start) (board_state c o end)
cut_halts T fault.Stopped w x reported v u o before k a b c start end p lines = record {
  ends = (
    record {
      stopped = lines.1.0;
      done = before_cut x.cut;
      within = cut_within x.cut p.ends.effect (does w x.event) (store_at w (mote_of x.event)) p.ends.goes p.ends.blown;
      uncut = cut_itself x.cut;
      leaves = subst (λ i. MayLeave Stands IsNear (trail_of (does w x.event) (store_at w (mote_of x.event))) (before_cut x.cut) i) (sym lines.1.1.same_image)
          (subst (λ (y : Does). MayLeave Stands IsNear (trail_of y (store_at w (mote_of x.event))) (before_cut x.cut) b.image) (sym p.ends.goes) p.ends.leaves);
    },
    lines.0,
  );
  endures = Endures_then (beneath_of a) (beneath_of b) (beneath_of c) p.endures lines.1.1.endures;
  count = tt;
  made = tt;
}
cut_halts T fault.NotAVolume w x reported v u o before k a b c start end p lines = absurd lines.0
cut_halts T fault.NoImage w x reported v u o before k a b c start end p lines = absurd lines.0

pub step_cut_halts : {T : Type 0} (r : Result (Unit {0}) Fault) (q : Result T Fault) (t : Outcome) (f : Fault) (w : RuleWorld) (x : Step) (reported : Bool) (v u o : Option Node) (before : Option ChipReport) (a b c : Device) (start end : List Report) → IsErrAnd r (λ e. e ≡ f) → q ≡ Err f
    → (p : EventPlayed (Ok (Cut before)) w (mote_of x.event) (does w x.event) x.cut (host a v) (host b u)) → ReadAndTold q (mote_of x.event) before p.ends.leaves.store b c start end → Stepped (stepped r t) w x reported (board_state a v start) (board_state c o end)
step_cut_halts {T} (Ok y) q t f w x reported v u o before a b c start end is e p lines = absurd is
step_cut_halts {T} (Err y) q t f w x reported v u o before a b c start end is e p lines =
    let P : Fault → Type 0 = λ z. Stepped (Err (halt_of z t.before)) w x reported (board_state a v start) (board_state c o end) in
    subst P (sym is) (cut_halts T f w x reported v u o before t.before a b c start end p (subst (λ (z : Result T Fault). ReadAndTold z (mote_of x.event) before p.ends.leaves.store b c start end) e lines))

pub step_halts : (h : Halt) (w : RuleWorld) (x : Step) (reported : Bool) (v u : Option Node) (a b : Device) (told : List Report) → EventPlayed (Err h) w (mote_of x.event) (does w x.event) x.cut (host a v) (host b u) → Stepped (Err h) w x reported (board_state a v told) (board_state b u told)
step_halts (Stopped k) w x reported v u a b told p = record { ends = (p.ends, refl); endures = p.endures; count = tt; made = tt }
step_halts NotAVolume w x reported v u a b told p = absurd p.ends
step_halts NoImage w x reported v u a b told p = record { ends = (p.ends, refl); endures = p.endures; count = p.count; made = p.made }

pub step_fails : (r : Result (Unit {0}) Fault) (f : Fault) (t : Outcome) (w : RuleWorld) (x : Step) (reported : Bool) (v u : Option Node) (a b : Device) (told : List Report) → IsErrAnd r (λ e. e ≡ f)
    → EventPlayed (Err (halt_of f t.before)) w (mote_of x.event) (does w x.event) x.cut (host a v) (host b u) → Stepped (stepped r t) w x reported (board_state a v told) (board_state b u told)
step_fails (Ok y) f t w x reported v u a b told is p = absurd is
step_fails (Err e) f t w x reported v u a b told is p =
    let P : Fault → Type 0 = λ z. Stepped (Err (halt_of z t.before)) w x reported (board_state a v told) (board_state b u told) in
    subst P (sym is) (step_halts (halt_of f t.before) w x reported v u a b told p)

-- the mote of a step that fits is one of the world
pub event_mote : (motes : ℕ) (event : Event) → EventInRange motes event → mote_of event < motes
event_mote motes (Tick m dt word) fits = fits
event_mote motes (Hear m dt word frame) fits = fits.0
event_mote motes (Last from to dt word) fits = fits.second
event_mote motes (Frame m dt word bytes) fits = fits.0
event_mote motes (Reset m dt word) fits = fits
event_mote motes (Inject m image version dt word) fits = fits.0
event_mote motes (OrderEvent m number image version dt word) fits = fits.0

pub told_at : {T : Type 0} (r : Result T Fault) (m n : ℕ) (before : Option ChipReport) (s : Store) (a b : Device) (start end : List Report) → m ≡ n → ReadAndTold r m before s a b start end → ReadAndTold r n before s a b start end
told_at r m n before s a b start end e told = subst (λ (k : ℕ). ReadAndTold r k before s a b start end) e told
