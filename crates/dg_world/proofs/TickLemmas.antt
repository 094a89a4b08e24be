-- What starts, ticks and heard frames do at a board.
use Rattle.std.proofs.Common.{◌≡◌, ◌⊎◌, ⊎_elim, ℕ, Bool, true, false, List, [], ◌∷◌, ◌++◌, refl, ap, sym, ◌∙◌, subst}
use Rattle.std.specs.Prelude.{Option, Some, None, option_map, IfSome, Result, Ok, Err}
use Rattle.std.proofs.lemmas.Bool.{cond_both}
use Rattle.std.proofs.lemmas.List.{append-nil}
use Rattle.dg_nor.specs.Device.{Device}
use Rattle.dg_nor.specs.Trail.{Trail, last, resting}
use Rattle.dg_nor.specs.Through.{Through}
use Rattle.dg_nor.proofs.ReadLemmas.{Looked-none}
use Rattle.dg_nor.proofs.ThroughLemmas.{Through-last, Through-joined, Through-resting}
use Rattle.dg_trickle.specs.Steps.{act_of, after_tick}
use Rattle.dg_trickle.specs.declared.Act.{Act}
use Rattle.dg_trickle.specs.declared.Act.TheVariants as act
use Rattle.dg_recv.specs.Steps.{ask_of}
use Rattle.dg_recv.specs.declared.Ask.{Ask}
use Rattle.dg_recv.specs.declared.Ask.TheVariants as ask
use Rattle.dg_send.specs.Steps.{serve_of}
use Rattle.dg_send.specs.declared.Serve.{Serve}
use Rattle.dg_send.specs.declared.Serve.TheVariants as serve
use Rattle.dg_volume.specs.Store.{Store}
use Rattle.dg_volume.specs.Stands.{Stands, Tells}
use Rattle.dg_mote.specs.Motes.{volume_of}
use Rattle.dg_nor.proofs.MaskLemmas.{Endures_ran}
use Rattle.dg_world.specs.Alone.{Powers}
use Rattle.dg_nor.specs.Device.{Endures}
use Rattle.dg_nor.specs.Fuse.{beneath_of}
use Rattle.dg_nor.specs.Reads.{ActStopped}
use Rattle.std.proofs.lemmas.Bool.{both_ways}
use Rattle.dg_volume.specs.Acts.{Stops}
use Rattle.dg_volume.specs.Start.{Runs, boot, order_waits, runs_length, runs_crc}
use Rattle.dg_volume.specs.declared.volume.StartCause.TheVariants as start_cause
use Rattle.dg_frame.specs.Grammar.{message_of}
use Rattle.dg_frame.specs.Spelling.{frame_of}
use Rattle.dg_frame.specs.declared.Message.{Message}
use Rattle.dg_mote.specs.Model.{MoteState, Mode, Maintain, Receive, Transmit, Receiving, Sending, MoteStep, reception}
use Rattle.dg_mote.specs.Ticks.{clears, maintain_by, receive_by, transmit_by, mode_tick, tick_of}
use Rattle.dg_mote.specs.Hears.{heard_of}
use Rattle.dg_mote.specs.Effects.{Effect, boot_by, boots, tick_by, reset_effect, tick_effect, frame_effect}
use Rattle.dg_node.specs.Nodes.{NodeStands, node_mote, node_image, node_is_wide, node_runs}
use Rattle.dg_node.specs.Ends.{NodeEnd, Quiet, Sent, NodeDone, EffectDone, IsStart, Starts as NodeStarts, Stopped as NodeStopped, NotAVolume as NodeNotAVolume, NoImage as NodeNoImage, FoundNoImage, power_end, tick_end, PowerFinds}
use Rattle.dg_node.specs.declared.answers.Ticked.{Ticked}
use Rattle.dg_node.specs.declared.answers.Ticked.TheVariants as ticked
use Rattle.dg_node.specs.declared.answers.TickFault.{TickFault}
use Rattle.dg_node.specs.declared.answers.TickFault.TheVariants as tick_fault
use Rattle.dg_boot.specs.declared.BootFault.{BootFault}
use Rattle.dg_boot.specs.declared.BootFault.TheVariants as boot_fault
use Rattle.dg_world.specs.inner.Faults.{outcome_by_end, fault_of_start, fault_of_tick}
use Rattle.dg_mote.specs.Motes.{IsRead}
use Rattle.dg_mote.specs.declared.mote.Did.{Did}
use Rattle.dg_mote.specs.declared.mote.Did.TheVariants as did
use Rattle.dg_rules.specs.World.{World as RuleWorld, Running, store_at}
use Rattle.dg_rules.specs.Events.{Does, Refuses, trail_of, image_version_of, runs_by, of_effect}
use Rattle.dg_rules.specs.Changes.{changes, start_line, sent_line}
use Rattle.dg_base.specs.declared.events.ImageVersion.{ImageVersion}
use Rattle.dg_script.specs.declared.report.Cause.TheVariants as cause
use Rattle.dg_script.specs.declared.report.Report.{Report}
use Rattle.dg_script.specs.declared.report.Report.TheVariants.{Start}
use Rattle.dg_node.specs.Reports.{IsReportOf}
use Rattle.dg_world.specs.Worlds.{MoteStands}
use Rattle.dg_world.specs.inner.OutcomeEndings.{SameReport, LeavesChip, outcome_frame, outcome_sent, outcome_lines, frame_lines, EventDone, EventFoundNoImage, OutcomeEnds}
use Rattle.dg_node.specs.Hosts.{host}
use Rattle.dg_node.specs.declared.report.ChipReport.{ChipReport}
use Rattle.dg_node.specs.declared.answers.StartedImage.{StartedImage}
use Rattle.dg_node.specs.declared.node.Node.{Node}
use Rattle.dg_world.specs.inner.Outcomes.{halt_of}
use Rattle.dg_world.proofs.ChipReportLemmas.{changes_same, changes_are_reported}
use Rattle.dg_world.proofs.StartLemmas.{boot_same, boot_same_from, clear_same, same_report, leaves_same}
use Rattle.dg_world.proofs.SameLemmas.{heard_calm}
use Rattle.dg_world.specs.inner.EventOutcomes.{EventOutcome, Halt, Refused, Changes, Starts, Stopped, Unreported}

-- ---- acts that are not reported

-- a stop on a trail of stores with the same report
pub stopped_same : (w : RuleWorld) (m : ℕ) (does : Does) (v u : Option Node) (a b : Device) → Through (SameReport (store_at w m)) (trail_of does (store_at w m)) → Stops (trail_of does (store_at w m)) a b
    → OutcomeEnds (Err (Stopped None)) w m does (host a v) (host b u)
stopped_same w m does v u a b through stops = record { stops = stops; is_report = λ whole blown k t l. leaves_same (store_at w m) (trail_of does (store_at w m)) k t through l }

boot_trail : (o : Option Runs) (t : Trail Store) (id : ℕ) (wide : Bool) (now word : ℕ) → (boot_by o t id wide now word).trail ≡ t
boot_trail None t id wide now word = refl
boot_trail (Some r) t id wide now word = refl

pub reset_same : (s : Store) (id : ℕ) (wide : Bool) (now word : ℕ) → Through (SameReport s) (reset_effect s id wide now word).trail
unfolding reset_effect
reset_same s id wide now word = let b = boot start_cause.Power s in subst (Through (SameReport s)) (sym (boot_trail b.runs b.trail id wide now word)) (boot_same start_cause.Power s)

-- ---- ticks

module _ (s : Store) (now word : ℕ) where
  abbrev Same : MoteStep Did → Type 0
  Same step = Through (SameReport s) step.trail

  rests : Through (SameReport s) (resting s 0)
  rests = Through-resting (SameReport s) s 0 (same_report s)

  maintain_same : (a : Act) (m : MoteState) → Same (maintain_by a m s)
  maintain_same act.Send m = rests
  maintain_same act.Quiet m = rests
  maintain_same act.Expired m = rests
  maintain_same act.Nothing m = rests

  receive_same : (a : Ask) (m : MoteState) (r : Receiving) → Same (receive_by a m r s now word)
  receive_same (ask.Request want) m r = rests
  receive_same ask.GiveUp m r = rests
  receive_same ask.Wait m r = rests

  transmit_same : (a : Serve) (m : MoteState) (t : Sending) → Same (transmit_by a m t s now word)
  transmit_same (serve.Send q) m t = rests
  transmit_same serve.Done m t = rests
  transmit_same serve.Wait m t = rests

  mode_same : (mode : Mode) (m : MoteState) → Same (mode_tick mode m s now word)
  mode_same (Maintain timer) m = cond_both (order_waits s) _ _ Same (λ _. rests) (λ _. maintain_same (act_of timer now) (record m { mode = Maintain (after_tick timer now word) }))
  mode_same (Receive r) m = receive_same (ask_of (reception r) now) m r
  mode_same (Transmit t) m = transmit_same (serve_of t.owed now) m t

  -- a tick changes neither what is kept nor the order
  pub tick_same : (m : MoteState) → Through (SameReport s) (tick_of m s now word).trail
  unfolding tick_of
  tick_same m = cond_both (clears m s now) _ _ Same (λ _. clear_same s) (λ _. mode_same m.mode m)

-- what a mote of either width reads, a wide one reads
read_wider : (wide : Bool) (message : Message) → ((b : List ℕ) (m : Message) → message_of b false ≡ Ok m → message_of b true ≡ Ok m) → IsRead wide message → IsRead true message
read_wider true message wider read = read
read_wider false message wider read = wider (frame_of message) message read

pub reads_wider : (wide : Bool) (o : Option Message) → ((b : List ℕ) (m : Message) → message_of b false ≡ Ok m → message_of b true ≡ Ok m) → IfSome o (IsRead wide) → IfSome o (IsRead true)
reads_wider wide None wider read = read
reads_wider wide (Some message) wider read = read_wider wide message wider read

-- a frame in the outbox is reported as the message that was sent
sent_lines : (m : ℕ) (o : Option Message) → IfSome o (IsRead true) → outcome_lines m (outcome_sent (option_map frame_of o)) ≡ sent_line m o
sent_lines m None read = refl
sent_lines m (Some message) read = ap (frame_lines m) read

sent_frame : (o : Option (List ℕ)) → outcome_frame (outcome_sent o) ≡ o
sent_frame None = refl
sent_frame (Some bytes) = refl

sent_outcome : (o : Option (List ℕ)) (w : RuleWorld) (m : ℕ) (does : Does) (v u : Option Node) (a b : Device) → EventDone w m does u a b (outcome_sent o) → OutcomeEnds (Ok (outcome_sent o)) w m does (host a v) (host b u)
sent_outcome None w m does v u a b x = x
sent_outcome (Some bytes) w m does v u a b x = x

-- a tick, also one that starts the chip, changes neither what is kept nor the order
module _ (s : Store) (m : MoteState) (now word : ℕ) where
  abbrev step : MoteStep Did
  step = tick_of m s now word

  by_same : (d : Did) → Through (SameReport s) (tick_by d step now word).trail
  by_same did.Sent = tick_same s now word m
  by_same did.Idle = tick_same s now word m
  by_same did.Restart =
      let at = last step.trail in
      let same = Through-last (SameReport s) step.trail (tick_same s now word m) in
      Through-joined (SameReport s) step.trail (boots start_cause.Order at step.mote.id step.mote.wide now word).trail (tick_same s now word m)
      (subst (Through (SameReport s)) (sym (boot_trail (boot start_cause.Order at).runs (boot start_cause.Order at).trail step.mote.id step.mote.wide now word)) (boot_same_from s at start_cause.Order same))

  pub effect_same : Through (SameReport s) (tick_effect m s now word).trail
  unfolding tick_effect
  effect_same = by_same step.answer

-- ---- what a node did, as an outcome

-- what runs afterwards, by the rules of a world
runs_of : (o : Option MoteState) (r : Option Runs) (old was : Option ImageVersion) (c : List ℕ) (n : Node) (t : Store) → NodeStands c (Some n) t (node_runs o r was) → (r ≡ None → old ≡ was)
    → (x : Option Running) × (option_map (runs_by r old) o ≡ Some x) × MoteStands c (Some n) t x
runs_of None r old was c n t stands same = absurd stands
runs_of (Some m) (Some r) old was c n t stands same = (Some (record { image_version = image_version_of r; mote = m }), refl, (stands.0, stands.1))
runs_of (Some m) None old None c n t stands same = absurd stands
runs_of (Some m) None old (Some was) c n t stands same =
    (Some (record { image_version = was; mote = m }), ap (λ (x : Option ImageVersion). Some (runs_by None x m)) (same refl), (stands.0, stands.1))

start_lines : (m : ℕ) (x : StartedImage) (r : Runs) → IsStart x r → Start m x.image_version.image x.image_version.version x.length x.crc ∷ [] ≡ start_line m (Some r)
start_lines m x r is = line_is m x r is.image is.version is.length is.crc
  where
    line_is : (m : ℕ) (x : StartedImage) (r : Runs) → x.image_version.image ≡ r.image → x.image_version.version ≡ r.version → x.length ≡ runs_length r → x.crc ≡ runs_crc r
        → Start m x.image_version.image x.image_version.version x.length x.crc ∷ [] ≡ start_line m (Some r)
    line_is m x r i v l c = cc

module _ (w : RuleWorld) (m : ℕ) (e : Effect) (old : Option ImageVersion) (v : Option Node) (a b : Device) (same : e.started ≡ None → old ≡ option_map node_image v) where
  abbrev D : Does
  D = of_effect w e old

  went_with : (n : Node) (frame : Option (List ℕ)) (outcome : EventOutcome) → EffectDone e frame (host a v) (host b (Some n)) → outcome_frame outcome ≡ option_map frame_of e.sent
      → outcome_lines m outcome ≡ (changes m (store_at w m) (last e.trail) ++ start_line m e.started) ++ sent_line m e.sent → EventDone w m D (Some n) a b outcome
  went_with n frame outcome x sent lines =
      let runs = runs_of e.mote e.started old (option_map node_image v) b.image n (last e.trail) x.runs same in
      record {
        effect = record { trail = e.trail; table = w.table; started = e.started; sent = e.sent; runs = option_map (runs_by e.started old) e.mote };
        goes = refl;
        ran = x.ran;
        tells = record { runs = runs.0; runs_then = runs.1; mote = runs.2; lines = lines; sent = sent; stands = x.stands; memory = x.memory };
      }

  -- what is reported of the chip may have changed
  pub node_changes : (n : Node) (before after : ChipReport) → NodeDone Quiet None e (host a v) (host b (Some n)) → IsReportOf before (store_at w m) → IsReportOf after (last e.trail) → OutcomeEnds (Ok (Changes before after)) w m D (host a v) (host b (Some n))
  node_changes n before after x is_report is_report_after =
      let lines = changes m (store_at w m) (last e.trail) in
      went_with n None (Changes before after) x.0 x.0.sent
      (changes_are_reported m before after (store_at w m) (last e.trail) is_report is_report_after ∙ sym (append-nil (lines ++ []) ∙ append-nil lines) ∙ ap (λ (o : Option Runs). (lines ++ start_line m o) ++ []) (sym x.1)
      ∙ ap (λ (o : Option Message). (lines ++ start_line m e.started) ++ sent_line m o) (sym x.2))

  -- it has not changed
  pub node_rests : (n : Node) → NodeDone Quiet None e (host a v) (host b (Some n)) → Through (SameReport (store_at w m)) e.trail → OutcomeEnds (Ok Unreported) w m D (host a v) (host b (Some n))
  node_rests n x nothing =
      let same_lines : changes m (store_at w m) (last e.trail) ≡ [] = changes_same m (store_at w m) (last e.trail) (Through-last (SameReport (store_at w m)) e.trail nothing) in
      let lines = changes m (store_at w m) (last e.trail) in
      went_with n None Unreported x.0 x.0.sent
      (ap (λ (l : List Report). (l ++ []) ++ []) (sym same_lines) ∙ ap (λ (o : Option Runs). (lines ++ start_line m o) ++ []) (sym x.1) ∙ ap (λ (o : Option Message). (lines ++ start_line m e.started) ++ sent_line m o) (sym x.2))

  pub node_stopped_with : (u : Option Node) (before : ChipReport) → Stops e.trail a b → IsReportOf before (store_at w m) → OutcomeEnds (Err (Stopped (Some before))) w m D (host a v) (host b u)
  node_stopped_with u before stops is_report = record { stops = stops; is_report = λ whole blown. is_report }

  pub node_lacks : (frame : Option (List ℕ)) → FoundNoImage e frame a b → EventFoundNoImage D a b
  node_lacks frame l = record {
    effect = record { trail = e.trail; table = w.table; started = e.started; sent = e.sent; runs = option_map (runs_by e.started old) e.mote };
    goes = refl;
    none = ap (option_map (runs_by e.started old)) l.none;
    ran = l.ran;
    stands = l.stands;
  }

  -- ---- where neither what is kept nor the order changes

  module _ (wider : (b : List ℕ) (m : Message) → message_of b false ≡ Ok m → message_of b true ≡ Ok m) (nothing : Through (SameReport (store_at w m)) e.trail) where
    unreported : changes m (store_at w m) (last e.trail) ≡ []
    unreported = changes_same m (store_at w m) (last e.trail) (Through-last (SameReport (store_at w m)) e.trail nothing)

    went : (n : Node) (frame : Option (List ℕ)) (outcome : EventOutcome) → EffectDone e frame (host a v) (host b (Some n)) → outcome_frame outcome ≡ option_map frame_of e.sent → outcome_lines m outcome ≡ ([] ++ start_line m e.started) ++ sent_line m e.sent
        → EventDone w m D (Some n) a b outcome
    went n frame outcome x sent lines = went_with n frame outcome x sent (lines ∙ ap (λ (l : List Report). (l ++ start_line m e.started) ++ sent_line m e.sent) (sym unreported))

    sends : (n : Node) (frame : Option (List ℕ)) → EffectDone e frame (host a v) (host b (Some n)) → e.started ≡ None → OutcomeEnds (Ok (outcome_sent frame)) w m D (host a v) (host b (Some n))
    sends n frame x none =
        sent_outcome frame w m D v (Some n) a b
        (went n frame (outcome_sent frame) x (sent_frame frame ∙ x.sent)
        (ap (λ (o : Option (List ℕ)). outcome_lines m (outcome_sent o)) x.sent ∙ sent_lines m e.sent (reads_wider (node_is_wide v) e.sent wider x.read) ∙ ap (λ (o : Option Runs). ([] ++ start_line m o) ++ sent_line m e.sent) (sym none)))

    starts : (n : Node) (x : StartedImage) → EffectDone e None (host a v) (host b (Some n)) → e.sent ≡ None → (r : Runs) → e.started ≡ Some r → IsStart x r → EventDone w m D (Some n) a b (Starts x)
    starts n x d silent r some is =
        went n None (Starts x) d (ap (option_map frame_of) (sym silent))
        (start_lines m x r is ∙ ap (λ (o : Option Runs). ([] ++ start_line m o) ++ []) (sym some) ∙ ap (λ (o : Option Message). ([] ++ start_line m e.started) ++ sent_line m o) (sym silent))

    pub node_stops : (u : Option Node) → Stops e.trail a b → OutcomeEnds (Err (Stopped None)) w m D (host a v) (host b u)
    node_stops u stops = stopped_same w m D v u a b nothing stops

    -- however the event of the node ended
    pub node_ends : (r : NodeEnd) (frame : Option (List ℕ)) (n : Node) → NodeDone r frame e (host a v) (host b (Some n)) → OutcomeEnds (outcome_by_end r frame) w m D (host a v) (host b (Some n))
    node_ends Quiet frame n x = sends n frame x.0 x.1
    node_ends Sent frame n x = sends n frame x.0 x.1
    node_ends (NodeStarts image) frame n x = starts n image (subst (λ (o : Option (List ℕ)). EffectDone e o (host a v) (host b (Some n))) (x.0.sent ∙ ap (option_map frame_of) x.1) x.0) x.1 x.2.0 x.2.1 x.2.2
    node_ends NodeStopped frame n x = node_stops (Some n) x.0
    node_ends NodeNotAVolume frame n x = absurd x
    node_ends NodeNoImage frame n x = node_lacks frame x

-- what the volume of a node exposes afterwards
tells_by : (o : Option MoteState) (r : Option Runs) (was : Option ImageVersion) (c : List ℕ) (n : Node) (t : Store) → NodeStands c (Some n) t (node_runs o r was) → Tells (volume_of (node_mote n)) t
tells_by None r was c n t stands = absurd stands
tells_by (Some m) (Some r) was c n t stands = stands.1.mounted.tells
tells_by (Some m) None None c n t stands = absurd stands
tells_by (Some m) None (Some was) c n t stands = stands.1.mounted.tells

pub node_tells : (e : Effect) (frame : Option (List ℕ)) (v : Option Node) (n : Node) (a b : Device) → EffectDone e frame (host a v) (host b (Some n)) → Tells (volume_of (node_mote n)) (last e.trail)
node_tells e frame v n a b x = tells_by e.mote e.started (option_map node_image v) b.image n (last e.trail) x.runs

stopped_endures : (a b : Device) → ActStopped a b → Endures (beneath_of a) (beneath_of b)
stopped_endures a b x = record { faults = x.faults; cause = λ stopped. x.cause; stays = λ was. x.stopped; calm = λ awake. absurd (both_ways b.stopped awake x.stopped) }

-- what a failed start says of a board
pub powers_of : (f : BootFault) (E : Store → Effect) (v u : Option Node) (a b : Device) → PowerFinds (Err f) a b → ((s : Store) → Stands a.image s → NodeDone (power_end (Err f)) None (E s) (host a v) (host b u)) → Powers {T = Unit {0}} (Err (fault_of_start f)) a b
powers_of boot_fault.Stopped E v u a b finds done = record { ends = record { stopped = finds.0.stopped; same = λ none. (finds.1 none).same_image }; endures = stopped_endures a b finds.0; count = tt }
powers_of boot_fault.NotAVolume E v u a b finds done = record { ends = finds; endures = Endures_ran finds.1.ran; count = finds.1.ran.faults }
powers_of boot_fault.NoImage E v u a b finds done = let l = done finds.0 finds.1 in record { ends = finds; endures = Endures_ran l.ran; count = l.ran.faults }

abbrev option_some : Runs → Option Runs
option_some r = Some r

some_none : (r : Runs) → option_some r ≡ None → ⊥
some_none r e = cc

-- ---- by the answers of a node

pub tick_quiet : (t : Ticked) (frame : Option (List ℕ)) → (t ≡ ticked.Idle) ⊎ (t ≡ ticked.Sent) → outcome_by_end (tick_end (Ok t)) frame ≡ Ok (outcome_sent frame)
tick_quiet ticked.Idle frame is = refl
tick_quiet ticked.Sent frame is = refl
tick_quiet (ticked.Restarted image) frame is = ⊎_elim (λ e. absurd cc) (λ e. absurd cc) is

module _ (w : RuleWorld) (m : ℕ) (does : Does) (v u : Option Node) (a b : Device) where
  pub tick_halts : (f : TickFault) (frame : Option (List ℕ)) → OutcomeEnds (outcome_by_end (tick_end (Err f)) frame) w m does (host a v) (host b u) → OutcomeEnds (Err (halt_of (fault_of_tick f) None)) w m does (host a v) (host b u)
  tick_halts tick_fault.Stopped frame x = x
  tick_halts tick_fault.NoImage frame x = x

-- a start
pub node_begins : (w : RuleWorld) (m : ℕ) (e : Effect) (v : Option Node) (n : Node) (a b : Device) (image : StartedImage) → Through (SameReport (store_at w m)) e.trail → NodeDone (NodeStarts image) None e (host a v) (host b (Some n))
    → OutcomeEnds (Ok (Starts image)) w m (of_effect w e None) (host a v) (host b (Some n))
node_begins w m e v n a b image nothing x =
    let r = x.2.0 in
    let lines = changes m (store_at w m) (last e.trail) in
    let same_lines : lines ≡ [] = changes_same m (store_at w m) (last e.trail) (Through-last (SameReport (store_at w m)) e.trail nothing) in
    went_with w m e None v a b (λ none. absurd (some_none r (sym x.2.1 ∙ none))) n None (Starts image) x.0 x.0.sent
    (start_lines m image r x.2.2 ∙ ap (λ (l : List Report). (l ++ start_line m (Some r)) ++ []) (sym same_lines) ∙ ap (λ (o : Option Runs). (lines ++ start_line m o) ++ []) (sym x.2.1) ∙ ap (λ (o : Option Message). (lines ++ start_line m e.started) ++ sent_line m o) (sym x.1))

-- a failed start
pub power_halts : (w : RuleWorld) (m : ℕ) (e : Effect) (v u y : Option Node) (a b : Device) (f : BootFault) → Through (SameReport (store_at w m)) e.trail → NodeDone (power_end (Err f)) None e (host a v) (host b y)
    → OutcomeEnds (Err (halt_of (fault_of_start f) None)) w m (of_effect w e None) (host a v) (host b u)
power_halts w m e v u y a b boot_fault.Stopped nothing x = stopped_same w m (of_effect w e None) v u a b nothing x.0
power_halts w m e v u y a b boot_fault.NotAVolume nothing x = absurd x
power_halts w m e v u y a b boot_fault.NoImage nothing x = record {
  effect = record { trail = e.trail; table = w.table; started = e.started; sent = e.sent; runs = option_map (runs_by e.started None) e.mote };
  goes = refl;
  none = ap (option_map (runs_by e.started None)) x.none;
  ran = x.ran;
  stands = x.stands;
}

pub node_references : (r : NodeEnd) (frame : Option (List ℕ)) (e : Effect) (v u : Option Node) (a b : Device) → NodeDone r frame e (host a v) (host b u) → b.references ≡ a.references
node_references Quiet frame e v u a b x = x.0.ran.references
node_references Sent frame e v u a b x = x.0.ran.references
node_references (NodeStarts image) frame e v u a b x = x.0.ran.references
node_references NodeStopped frame e v u a b x = x.0.halts.references
node_references NodeNotAVolume frame e v u a b x = absurd x
node_references NodeNoImage frame e v u a b x = x.ran.references

pub power_references : (f : BootFault) (E : Store → Effect) (v u : Option Node) (a b : Device) → PowerFinds (Err f) a b → ((s : Store) → Stands a.image s → NodeDone (power_end (Err f)) None (E s) (host a v) (host b u)) → b.references ≡ a.references
power_references boot_fault.Stopped E v u a b finds done = finds.0.references
power_references boot_fault.NotAVolume E v u a b finds done = finds.1.ran.references
power_references boot_fault.NoImage E v u a b finds done = (done finds.0 finds.1).ran.references

-- ---- heard frames

-- such an answer changes neither what is kept nor the order
pub hear_same : (s : Store) (m : MoteState) (now word : ℕ) (bytes : List ℕ) → LeavesChip (heard_of m s now word bytes).answer → Through (SameReport s) (frame_effect m s now word bytes).trail
unfolding frame_effect
hear_same s m now word bytes is = heard_calm s m now word bytes is

-- ---- motes that are on or off

-- a mote that is off refuses
when_off : (D : Option Running → Does) (w : RuleWorld) (m : ℕ) (c : List ℕ) (s : Store) (o : Option Running) (a : Device) → D None ≡ Refuses cause.Off → MoteStands c None s o → OutcomeEnds (Ok (Refused cause.Off)) w m (D o) (host a None) (host a None)
when_off D w m c s None a is stands = (is, Looked-none a, refl)
when_off D w m c s (Some r) a is stands = absurd stands

pub off_as : (D : Option Running → Does) (w : RuleWorld) (m : ℕ) (c : List ℕ) (s : Store) (o : Option Running) (v : Option Node) (a : Device) → D None ≡ Refuses cause.Off → v ≡ None → MoteStands c v s o → OutcomeEnds (Ok (Refused cause.Off)) w m (D o) (host a v) (host a v)
off_as D w m c s o v a refuses is stands =
    subst (λ (x : Option Node). OutcomeEnds (Ok (Refused cause.Off)) w m (D o) (host a x) (host a x)) (sym is)
    (when_off D w m c s o a refuses (subst (λ (x : Option Node). MoteStands c x s o) is stands))

when_on : (D : Option Running → Does) (r : Result EventOutcome Halt) (w : RuleWorld) (m : ℕ) (v : Node) (u : Option Node) (c : List ℕ) (s : Store) (o : Option Running) (a b : Device) → MoteStands c (Some v) s o
    → ((x : Running) → MoteStands c (Some v) s (Some x) → OutcomeEnds r w m (D (Some x)) (host a (Some v)) (host b u)) → OutcomeEnds r w m (D o) (host a (Some v)) (host b u)
when_on D r w m v u c s None a b stands on = absurd stands
when_on D r w m v u c s (Some x) a b stands on = on x stands

pub on_as : (D : Option Running → Does) (r : Result EventOutcome Halt) (w : RuleWorld) (m : ℕ) (p : Option Node) (v : Node) (u : Option Node) (c : List ℕ) (s : Store) (o : Option Running) (a b : Device) → p ≡ Some v → MoteStands c p s o
    → ((x : Running) → MoteStands c (Some v) s (Some x) → OutcomeEnds r w m (D (Some x)) (host a (Some v)) (host b u)) → OutcomeEnds r w m (D o) (host a p) (host b u)
on_as D r w m p v u c s o a b is stands on =
    subst (λ (x : Option Node). OutcomeEnds r w m (D o) (host a x) (host b u)) (sym is) (when_on D r w m v u c s o a b (subst (λ (x : Option Node). MoteStands c x s o) is stands) on)
