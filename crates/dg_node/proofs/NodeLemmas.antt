-- What starts, ticks and heard frames do at a node.
use Rattle.std.proofs.Common.{◌≡◌, ◌⊎◌, ⊎_elim, ℕ, ◌+◌, Bool, List, refl, ap, sym, ◌∙◌, subst, inl, inr, arith}
use Rattle.std.specs.Prelude.{Option, Some, None, option_map, IfSome, Err}
use Rattle.std.proofs.lemmas.Bool.{cond_both}
use Rattle.dg_nor.specs.Device.{Device, Ran, Halted}
use Rattle.dg_nor.specs.Trail.{Trail, operations, last, last_of, joined, resting, MayLeave}
use Rattle.dg_nor.specs.Reads.{Looked}
use Rattle.dg_nor.proofs.DeviceLemmas.{Ran_then, Halted_second}
use Rattle.dg_nor.proofs.TrailLemmas.{joined_none, Halted-joined_first, operations-resting}
use Rattle.dg_trickle.specs.Steps.{act_of, after_tick}
use Rattle.dg_trickle.specs.declared.Act.{Act}
use Rattle.dg_trickle.specs.declared.Act.TheVariants as act
use Rattle.dg_recv.specs.Steps.{ask_of}
use Rattle.dg_recv.specs.declared.Ask.{Ask}
use Rattle.dg_recv.specs.declared.Ask.TheVariants as ask
use Rattle.dg_send.specs.Steps.{serve_of}
use Rattle.dg_send.specs.declared.Serve.{Serve}
use Rattle.dg_send.specs.declared.Serve.TheVariants as serve
use Rattle.dg_slot.specs.Pages.{program}
use Rattle.dg_volume.specs.Store.{Store, IsNear}
use Rattle.dg_volume.specs.Stands.{Stands, IsNoVolume}
use Rattle.dg_volume.specs.Acts.{Stops}
use Rattle.dg_volume.specs.Start.{Runs, boot, order_waits}
use Rattle.dg_volume.specs.declared.volume.StartCause.{StartCause}
use Rattle.dg_volume.specs.declared.volume.StartCause.TheVariants as cause
use Rattle.dg_volume.proofs.BeginLemmas.{boot_begins}
use Rattle.dg_base.specs.declared.events.ImageVersion.{ImageVersion}
use Rattle.dg_frame.specs.Spelling.{frame_of}
use Rattle.dg_frame.specs.declared.Message.{Message}
use Rattle.dg_boot.specs.Started.{Starts as BootStarts, NoImageFound}
use Rattle.dg_boot.specs.declared.Started.{Started}
use Rattle.dg_boot.specs.declared.BootFault.{BootFault}
use Rattle.dg_boot.specs.declared.BootFault.TheVariants as fault
use Rattle.dg_mote.specs.Model.{MoteState, Mode, Maintain, Receive, Transmit, Receiving, Sending, MoteStep, reception}
use Rattle.dg_mote.specs.Ticks.{clears, maintain_by, receive_by, transmit_by, mode_tick, tick_of, idle}
use Rattle.dg_mote.specs.Hears.{heard_of}
use Rattle.dg_mote.specs.Effects.{Effect, boot_by, boots, on, tick_by, tick_effect, frame_effect, reset_effect}
use Rattle.dg_mote.specs.Motes.{Done, IsMote, IsRead}
use Rattle.dg_mote.specs.declared.mote.Did.{Did}
use Rattle.dg_mote.specs.declared.mote.Did.TheVariants as did
use Rattle.dg_mote.specs.declared.mote.Heard.{Heard}
use Rattle.dg_node.specs.declared.node.Node.{Node}
use Rattle.dg_node.specs.declared.answers.Powered.{Powered}
use Rattle.dg_node.specs.inner.Begins.{BeginsOver}
use Rattle.dg_node.specs.Hosts.{host}
use Rattle.dg_node.specs.Nodes.{image_version_run, rest_effect}
use Rattle.dg_node.specs.Ends.{NodeEnd, Quiet, Sent, Starts, Stopped, NotAVolume, NoImage, NodeDone, EffectDone, power_end, tick_end}
use Rattle.dg_node.specs.inner.Faults.{restart_fault}

-- ---- after a read

pub ran_after : (n : ℕ) (a b c : Device) → Ran 0 a b → Ran n b c → Ran n a c
ran_after n a b c l r = let e : 0 + n ≡ n = omega arith in subst (λ (k : ℕ). Ran k a c) e (Ran_then l r)

pub stops_after : (t : Trail Store) (a b c : Device) → Ran 0 a b → Stops t b c → Stops t a c
stops_after t a b c l s =
    let e : 0 + operations t ≡ operations t = omega arith in
    subst (λ (n : ℕ). Halted n (MayLeave Stands IsNear t) a c) e
    (Halted_second (MayLeave Stands IsNear t) l (λ k within x. let f : k ≡ 0 + k = omega arith in subst (λ (j : ℕ). MayLeave Stands IsNear t j c.image) f x) s)

went_after : (e : Effect) (frame : Option (List ℕ)) (v u : Option Node) (a b c : Device) → Ran 0 a b → EffectDone e frame (host b v) (host c u) → EffectDone e frame (host a v) (host c u)
went_after e frame v u a b c l x = record { ran = ran_after (operations e.trail) a b c l x.ran; stands = x.stands; runs = x.runs; sent = x.sent; read = x.read; memory = x.memory }

pub done_after : (r : NodeEnd) (frame : Option (List ℕ)) (e : Effect) (v u : Option Node) (a b c : Device) → Ran 0 a b → NodeDone r frame e (host b v) (host c u) → NodeDone r frame e (host a v) (host c u)
done_after Quiet frame e v u a b c l x = (went_after e frame v u a b c l x.0, x.1, x.2)
done_after Sent frame e v u a b c l x = (went_after e frame v u a b c l x.0, x.1, x.2)
done_after (Starts told) frame e v u a b c l x = (went_after e frame v u a b c l x.0, x.1, x.2)
done_after Stopped frame e v u a b c l x = (stops_after e.trail a b c l x.0, x.1)
done_after NoImage frame e v u a b c l x =
    record { none = x.none; silent = x.silent; unsent = x.unsent; ran = ran_after (operations e.trail) a b c l x.ran; stands = x.stands }
done_after NotAVolume frame e v u a b c l x = x

-- ---- starts

boot_trail : (o : Option Runs) (t : Trail Store) (id : ℕ) (wide : Bool) (now word : ℕ) → (boot_by o t id wide now word).trail ≡ t
boot_trail None t id wide now word = refl
boot_trail (Some r) t id wide now word = refl

pub reset_is : (s : Store) (id : ℕ) (wide : Bool) (now word : ℕ) → reset_effect s id wide now word ≡ boots cause.Power s id wide now word
unfolding reset_effect
reset_is s id wide now word = refl

version_is : (p : Powered) (told : Started) (r : Runs) → p.node.image_version ≡ p.image.image_version → p.image.image_version ≡ record { image = told.image; version = told.version } → told.image ≡ r.image → told.version ≡ r.version
    → p.node.image_version ≡ image_version_run r
version_is p told r same version i v = cc

module _ (k : StartCause) (s : Store) (id : ℕ) (wide : Bool) (now word : ℕ) where
  abbrev t : Trail Store
  t = (boot k s).trail

  abbrev starts : Option Runs → Effect
  starts o = boot_by o t id wide now word

  pub started : (before : Option Node) (a b : Device) (told : Started) (p : Powered) → BeginsOver told id wide now word p → BootStarts (boot k s) a b told
      → NodeDone (Starts p.image) None (boots k s id wide now word) (host a before) (host b (Some p.node))
  started before a b told p over g =
      let r = g.runs in
      subst (λ (e : Effect). NodeDone (Starts p.image) None e (host a before) (host b (Some p.node))) (sym (ap starts g.chosen)) (
        record {
          ran = g.acted.ran;
          stands = g.acted.mounted.stands;
          runs = (version_is p told r over.runs over.version g.image g.version, over.mote b.image (last t) g.acted.mounted);
          sent = refl;
          read = tt;
          memory = ap (program b.image) (sym g.pages) ∙ g.memory;
        },
        refl,
        (
          r,
          refl,
          record {
            image = ap (λ (v : ImageVersion). v.image) over.version ∙ g.image;
            version = ap (λ (v : ImageVersion). v.version) over.version ∙ g.version;
            length = over.length ∙ g.length;
            crc = over.crc ∙ g.crc;
          },
        ),
      )

  start_stops : (before after : Option Node) (a b : Device) → Stops t a b → NodeDone Stopped None (boots k s id wide now word) (host a before) (host b after)
  start_stops before after a b stops = (subst (λ (x : Trail Store). Stops x a b) (sym (boot_trail (boot k s).runs t id wide now word)) stops, refl)

  start_lacks : (before after : Option Node) (a b : Device) → NoImageFound (boot k s) a b → NodeDone NoImage None (boots k s id wide now word) (host a before) (host b after)
  start_lacks before after a b l =
      subst (λ (e : Effect). NodeDone NoImage None e (host a before) (host b after)) (sym (ap starts l.none))
      (record { none = refl; silent = refl; unsent = refl; ran = l.ran; stands = l.stands })

  -- it fails in one of three ways
  pub start_fails : (f : BootFault) (before : Option Node) (a b : Device) → (f ≡ fault.Stopped → Stops t a b) → (f ≡ fault.NotAVolume → IsNoVolume a.image × Looked a b) → (f ≡ fault.NoImage → NoImageFound (boot k s) a b) → Stands a.image s
      → NodeDone (power_end (Err f)) None (boots k s id wide now word) (host a before) (host b None)
  start_fails fault.Stopped before a b stops none lacks stands = start_stops before None a b (stops refl)
  start_fails fault.NotAVolume before a b stops none lacks stands = (none refl).0 s stands
  start_fails fault.NoImage before a b stops none lacks stands = start_lacks before None a b (lacks refl)

-- ---- ticks

-- a frame is sent exactly if the answer says so
abbrev SaysBy : Did → Option Message → Type 0
SaysBy did.Sent o = (message : Message) × (o ≡ Some message)
SaysBy did.Idle o = o ≡ None
SaysBy did.Restart o = o ≡ None

module _ (s : Store) (now word : ℕ) where
  abbrev Says : MoteStep Did → Type 0
  Says step = SaysBy step.answer step.sent

  maintain_says : (a : Act) (m : MoteState) → Says (maintain_by a m s)
  maintain_says act.Send m = (_, refl)
  maintain_says act.Quiet m = refl
  maintain_says act.Expired m = refl
  maintain_says act.Nothing m = refl

  receive_says : (a : Ask) (m : MoteState) (r : Receiving) → Says (receive_by a m r s now word)
  receive_says (ask.Request want) m r = (_, refl)
  receive_says ask.GiveUp m r = refl
  receive_says ask.Wait m r = refl

  transmit_says : (a : Serve) (m : MoteState) (t : Sending) → Says (transmit_by a m t s now word)
  transmit_says (serve.Send q) m t = (_, refl)
  transmit_says serve.Done m t = refl
  transmit_says serve.Wait m t = refl

  mode_says : (mode : Mode) (m : MoteState) → Says (mode_tick mode m s now word)
  mode_says (Maintain timer) m = cond_both (order_waits s) _ _ Says (λ _. refl) (λ _. maintain_says (act_of timer now) (record m { mode = Maintain (after_tick timer now word) }))
  mode_says (Receive r) m = receive_says (ask_of (reception r) now) m r
  mode_says (Transmit t) m = transmit_says (serve_of t.owed now) m t

  pub tick_says : (m : MoteState) → Says (tick_of m s now word)
  unfolding tick_of
  tick_says m = cond_both (clears m s now) _ _ Says (λ _. refl) (λ _. mode_says m.mode m)

abbrev by_answer : MoteStep Did → (now word : ℕ) → Did → Effect
by_answer step now word d = tick_by d step now word

acted_on : (step : MoteStep Did) (now word : ℕ) (d : Did) → (d ≡ did.Sent) ⊎ (d ≡ did.Idle) → d ≡ step.answer → tick_by step.answer step now word ≡ on step
acted_on step now word d is same = ap (by_answer step now word) (sym same) ∙ ⊎_elim (λ e. ap (by_answer step now word) e) (λ e. ap (by_answer step now word) e) is

module _ (m : MoteState) (s : Store) (now word : ℕ) where
  abbrev step : MoteStep Did
  step = tick_of m s now word

  ticks_on : (d : Did) → (d ≡ did.Sent) ⊎ (d ≡ did.Idle) → d ≡ step.answer → tick_effect m s now word ≡ on step
  unfolding tick_effect
  ticks_on d is same = acted_on step now word d is same

  tick_went : (v u : Node) (a b : Device) (d : Did) (o : Option (List ℕ)) → (d ≡ did.Sent) ⊎ (d ≡ did.Idle) → u.image_version ≡ v.image_version → IsMote a.image v.mote m s → Done step a b u.mote d → o ≡ option_map frame_of step.sent → IfSome step.sent (IsRead m.wide)
      → EffectDone (tick_effect m s now word) o (host a (Some v)) (host b (Some u))
  tick_went v u a b d o is same mote done sent read =
      subst (λ (e : Effect). EffectDone e o (host a (Some v)) (host b (Some u))) (sym (ticks_on d is done.answers))
      (record {
        ran = done.ran;
        stands = done.mote.mounted.stands;
        runs = (same, done.mote);
        sent = sent;
        read = subst (λ (w : Bool). IfSome step.sent (IsRead w)) (sym mote.wide) read;
        memory = tt;
      })

  says_as : (d : Did) → d ≡ step.answer → SaysBy d step.sent
  says_as d is = subst (λ (x : Did). SaysBy x step.sent) (sym is) (tick_says s now word m)

  pub tick_idles : (v u : Node) (a b : Device) (o : Option (List ℕ)) → u.image_version ≡ v.image_version → IsMote a.image v.mote m s → Done step a b u.mote did.Idle → o ≡ option_map frame_of step.sent → IfSome step.sent (IsRead m.wide)
      → NodeDone Quiet o (tick_effect m s now word) (host a (Some v)) (host b (Some u))
  tick_idles v u a b o same mote done sent read =
      let is = ticks_on did.Idle (inr refl) done.answers in (
        tick_went v u a b did.Idle o (inr refl) same mote done sent read,
        ap (λ (e : Effect). e.started) is,
        ap (λ (e : Effect). e.sent) is ∙ says_as did.Idle done.answers,
      )

  pub tick_sends : (v u : Node) (a b : Device) (o : Option (List ℕ)) → u.image_version ≡ v.image_version → IsMote a.image v.mote m s → Done step a b u.mote did.Sent → o ≡ option_map frame_of step.sent → IfSome step.sent (IsRead m.wide)
      → NodeDone Sent o (tick_effect m s now word) (host a (Some v)) (host b (Some u))
  tick_sends v u a b o same mote done sent read =
      let is = ticks_on did.Sent (inl refl) done.answers in
      let said = says_as did.Sent done.answers in (
        tick_went v u a b did.Sent o (inl refl) same mote done sent read,
        ap (λ (e : Effect). e.started) is,
        (said.0, ap (λ (e : Effect). e.sent) is ∙ said.1),
      )

  -- ---- it stops

  stops_first : (d : Did) (a b : Device) → Stops step.trail a b → Stops (tick_by d step now word).trail a b
  stops_first did.Sent a b stops = stops
  stops_first did.Idle a b stops = stops
  stops_first did.Restart a b stops =
      let at = last step.trail in
      let t = (boot cause.Order at).trail in
      let begins = boot_begins cause.Order at in
      subst (λ (x : Trail Store). Stops (joined step.trail x) a b) (sym (boot_trail (boot cause.Order at).runs t step.mote.id step.mote.wide now word))
      (Halted-joined_first Stands IsNear step.trail t begins.works (sym begins.first) stops)

  pub tick_stops : (v u : Option Node) (a b : Device) (o : Option (List ℕ)) → Stops step.trail a b → o ≡ None → NodeDone Stopped o (tick_effect m s now word) (host a v) (host b u)
  unfolding tick_effect
  tick_stops v u a b o stops none = (stops_first step.answer a b stops, none)

  -- ---- it restarts

  abbrev rested : MoteStep Did
  rested = record { mote = m; trail = resting s 0; sent = None; answer = did.Restart }

  abbrev restarts : Effect
  restarts = boots cause.Order s m.id m.wide now word

  effect_rested : tick_by did.Restart rested now word ≡ restarts
  unfolding last_of
  effect_rested =
      let e : Effect = restarts in
      let t = (boot cause.Order s).trail in
      let first : e.trail ≡ t = boot_trail (boot cause.Order s).runs t m.id m.wide now word in
      let at : t.first ≡ s = (boot_begins cause.Order s).first in
      ap (λ (x : Trail Store). record e { trail = x })
      (ap (λ (x : Trail Store). joined (resting s 0) x) first ∙ ap (λ (x : Store). joined (resting x 0) t) (sym at) ∙ joined_none t ∙ sym first)

  restart_is : step ≡ rested → tick_effect m s now word ≡ restarts
  unfolding tick_effect
  restart_is is = ap (λ (x : MoteStep Did). tick_by x.answer x now word) is ∙ effect_rested

  -- the chip stands for the same store when it starts
  pub restart_stands : (u : Node) (a b : Device) → step ≡ rested → Done step a b u.mote did.Restart → Stands b.image s
  unfolding last_of
  restart_stands u a b is done = subst (λ (x : MoteStep Did). Stands b.image (last x.trail)) is done.mote.mounted.stands

  ran_none : (u : Node) (a b : Device) → step ≡ rested → Done step a b u.mote did.Restart → Ran 0 a b
  ran_none u a b is done = subst (λ (n : ℕ). Ran n a b) (operations-resting s 0) (subst (λ (x : MoteStep Did). Ran (operations x.trail) a b) is done.ran)

  -- it starts with the number and the width that it had
  same_start : (u : Node) (a b : Device) → step ≡ rested → Done step a b u.mote did.Restart → boots cause.Order s u.mote.id u.mote.wide now word ≡ tick_effect m s now word
  same_start u a b is done =
      ap (λ (n : ℕ). boots cause.Order s n u.mote.wide now word) (done.mote.id ∙ ap (λ (t : MoteStep Did). t.mote.id) is)
      ∙ ap (λ (x : Bool). boots cause.Order s m.id x now word) (done.mote.wide ∙ ap (λ (t : MoteStep Did). t.mote.wide) is) ∙ sym (restart_is is)

  pub tick_restarts : (r : NodeEnd) (o : Option (List ℕ)) (u : Node) (v w : Option Node) (a b c : Device) → step ≡ rested → Done step a b u.mote did.Restart → o ≡ option_map frame_of step.sent
      → NodeDone r None (boots cause.Order s u.mote.id u.mote.wide now word) (host b v) (host c w) → NodeDone r o (tick_effect m s now word) (host a v) (host c w)
  tick_restarts r o u v w a b c is done sent x =
      let none : o ≡ None = sent ∙ ap (λ (t : MoteStep Did). option_map frame_of t.sent) is in
      subst (λ (f : Option (List ℕ)). NodeDone r f (tick_effect m s now word) (host a v) (host c w)) (sym none)
      (subst (λ (e : Effect). NodeDone r None e (host a v) (host c w)) (same_start u a b is done) (done_after r None (boots cause.Order s u.mote.id u.mote.wide now word) v w a b c (ran_none u a b is done) x))

-- a tick that is not due
pub rest_is : (m : MoteState) (s : Store) (now word : ℕ) → tick_of m s now word ≡ idle m s → tick_effect m s now word ≡ rest_effect m s
unfolding tick_effect
rest_is m s now word is = ap (λ (x : MoteStep Did). tick_by x.answer x now word) is

-- what a start did, as the restart of a node
pub start_as : (r : NodeEnd) (s : Store) (id n : ℕ) (wide w : Bool) (now word : ℕ) (v u : Option Node) (a b : Device) → id ≡ n → wide ≡ w → NodeDone r None (boots cause.Order s id wide now word) (host a v) (host b u)
    → NodeDone r None (boots cause.Order s n w now word) (host a v) (host b u)
start_as r s id n wide w now word v u a b at same x =
    subst (λ (e : Effect). NodeDone r None e (host a v) (host b u)) (ap (λ (i : ℕ). boots cause.Order s i wide now word) at ∙ ap (λ (y : Bool). boots cause.Order s n y now word) same) x

pub restart_fails : (f : BootFault) (e : Effect) (v u : Option Node) (a b : Device) → NodeDone (power_end (Err f)) None e (host a v) (host b None) → NodeDone (tick_end (Err (restart_fault f))) None e (host a v) (host b u)
restart_fails fault.Stopped e v u a b x = x
restart_fails fault.NotAVolume e v u a b x = absurd x
restart_fails fault.NoImage e v u a b x = x

-- ---- heard frames

module _ (m : MoteState) (s : Store) (now word : ℕ) (bytes : List ℕ) where
  abbrev heard : MoteStep Heard
  heard = heard_of m s now word bytes

  pub hear_done : (v u : Node) (a b : Device) (d : Heard) → u.image_version ≡ v.image_version → Done heard a b u.mote d → NodeDone Quiet None (frame_effect m s now word bytes) (host a (Some v)) (host b (Some u))
  unfolding frame_effect
  hear_done v u a b d same done = (
    record {
      ran = done.ran;
      stands = done.mote.mounted.stands;
      runs = (same, done.mote);
      sent = refl;
      read = tt;
      memory = tt;
    },
    refl,
    refl,
  )

  pub hear_stops : (v u : Option Node) (a b : Device) → Stops heard.trail a b → NodeDone Stopped None (frame_effect m s now word bytes) (host a v) (host b u)
  unfolding frame_effect
  hear_stops v u a b stops = (stops, refl)
