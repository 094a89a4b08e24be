-- Events of a round over a world: what they do at their mote, and that all else stays.
use Rattle.std.proofs.Common.{◌≡◌, ◌≢◌, ℕ, zero, suc, ◌+◌, ◌*◌, ◌<◌, ◌≤◌, cond, eqb, Bool, List, [], ◌∷◌, ◌++◌, length, replicate, Option, Some, None, option_map, IfSome, Ok, refl, sym, ap, subst, ◌∙◌, arith}
use Rattle.std.proofs.lemmas.Bool.{eq-eqb, ne_eqb}
use Rattle.std.proofs.lemmas.List.{get_or-set_same, get_or-set_other, length-set}
use Rattle.dg_nor.specs.Trail.{Trail, last}
use Rattle.dg_object.specs.Object.{Row}
use Rattle.dg_frame.specs.declared.Message.{Message}
use Rattle.dg_frame.specs.Spelling.{frame_of}
use Rattle.dg_mote.specs.Model.{MoteState, MoteStep}
use Rattle.dg_mote.specs.Ticks.{tick_of}
use Rattle.dg_mote.specs.Well.{IsWell}
use Rattle.dg_mote.specs.Speaking.{Speaks, IsSaid}
use Rattle.dg_mote.specs.declared.mote.Did.{Did}
use Rattle.dg_mote.specs.declared.mote.Did.TheVariants as did
use Rattle.dg_volume.specs.Store.{Store}
use Rattle.dg_volume.specs.Table.{IsTable}
use Rattle.dg_volume.specs.Start.{boot}
use Rattle.dg_volume.specs.declared.volume.StartCause.TheVariants as cause
use Rattle.dg_frame.specs.Grammar.{message_of}
use Rattle.dg_mote.specs.Effects.{tick_effect, tick_by, boot_by}
use Rattle.dg_mote.specs.Spots.{Spot, pace, tick_at, ticked, after_ticks, last_sent, newer_of, mote_or}
use Rattle.dg_rules.specs.World.{World, Running, Site, Sent, no_site, site, is_wide_mote, wide_at, with_site, counted, last_by, last_frame}
use Rattle.dg_rules.specs.Events.{does, runs_by, image_version_of, tick_does}
use Rattle.dg_volume.specs.Start.{Runs}
use Rattle.dg_rules.specs.Premises.{WorldAgrees, RunsWell, SiteIsWell}
use Rattle.dg_rules.specs.Steps.{WorldStep, StepDoes, and_sent}
use Rattle.dg_rounds.specs.Rounds.{paced}
use Rattle.dg_completion.specs.Completion.{Follows, Grows, FreeLaw}
use Rattle.dg_base.specs.declared.events.ImageVersion.{ImageVersion}
use Rattle.dg_script.specs.declared.report.Report.{Report}

-- the mote with this number is on, over this store
pub record At (w : World) (m : ℕ) (x : Spot) : Type 0 where
  pub there : m < length w.sites
  pub image_version : ImageVersion
  pub site_is : site w m ≡ record { store = x.store; runs = Some (record { image_version = image_version; mote = x.mote }) }

-- nothing changed except mote m and the moment
pub record Beside (m : ℕ) (w u : World) : Type 0 where
  pub count : length u.sites ≡ length w.sites
  pub others : (j : ℕ) → j ≢ m → site u j ≡ site w j
  pub table : u.table ≡ w.table
  pub links : u.links ≡ w.links
  pub frames : (j : ℕ) → j ≢ m → last_frame u j ≡ last_frame w j

pub Beside-none : (m : ℕ) (w : World) → Beside m w w
Beside-none m w = record { count = refl; others = λ j h. refl; table = refl; links = refl; frames = λ j h. refl }

pub Beside-then : (m : ℕ) (w u v : World) → Beside m w u → Beside m u v → Beside m w v
Beside-then m w u v a b =
    record {
      count = b.count ∙ a.count;
      others = λ j h. b.others j h ∙ a.others j h;
      table = b.table ∙ a.table;
      links = b.links ∙ a.links;
      frames = λ j h. b.frames j h ∙ a.frames j h;
    }

-- ---- the frame that a mote sent last

last_by-push : (m : ℕ) (ss : List Sent) (s : Sent) (found : Option Sent) → last_by m (ss ++ s ∷ []) found ≡ cond (eqb s.by m) (Some s) (last_by m ss found)
last_by-push m [] s found = refl
last_by-push m (x ∷ ss) s found = last_by-push m ss s (cond (eqb x.by m) (Some x) found)

-- what it sent, as the frame of its message
unfoldable pub frame_told : ℕ → Option Message → Option Sent
frame_told m None = None
frame_told m (Some message) = Some (record { by = m; bytes = frame_of message })

-- ---- one tick

-- the world after a tick at m that made this of its site
abbrev pub made : World → ℕ → (dt : ℕ) → Site → Option Message → World
made w m dt x sent = and_sent (with_site (counted w dt) m x) m sent

pub made_site : (w : World) (m dt : ℕ) (x : Site) (sent : Option Message) → m < length w.sites → site (made w m dt x sent) m ≡ x
made_site w m dt x None h = get_or-set_same w.sites m x no_site h
made_site w m dt x (Some s) h = get_or-set_same w.sites m x no_site h

pub made_beside : (w : World) (m dt : ℕ) (x : Site) (sent : Option Message) → Beside m w (made w m dt x sent)
made_beside w m dt x None =
    record { count = length-set w.sites m x; others = λ j h. get_or-set_other w.sites m j x no_site h; table = refl; links = refl; frames = λ j h. refl }
made_beside w m dt x (Some s) =
    let f : Sent = record { by = m; bytes = frame_of s } in
    record {
      count = length-set w.sites m x;
      others = λ j h. get_or-set_other w.sites m j x no_site h;
      table = refl;
      links = refl;
      frames = λ j h. last_by-push j w.sent f None ∙ ap (λ b. cond b (Some f) (last_by j w.sent None)) (ne_eqb m j (λ e. h (sym e)));
    }

abbrev pub newer_frame : ℕ → Option Message → Option Sent → Option Sent
newer_frame m None before = before
newer_frame m (Some message) before = Some (record { by = m; bytes = frame_of message })

pub made_frame : (w : World) (m dt : ℕ) (x : Site) (sent : Option Message) → last_frame (made w m dt x sent) m ≡ newer_frame m sent (last_frame w m)
made_frame w m dt x None = refl
made_frame w m dt x (Some s) =
    let f : Sent = record { by = m; bytes = frame_of s } in
    last_by-push m w.sent f None ∙ ap (λ b. cond b (Some f) (last_by m w.sent None)) (eq-eqb m m refl)

pub made_moment : (w : World) (m dt : ℕ) (x : Site) (sent : Option Message) → (made w m dt x sent).moment ≡ w.moment + dt
made_moment w m dt x None = refl
made_moment w m dt x (Some s) = refl

-- a mote that did not end with NoImage continues
went : (o : Option MoteState) (started : Option Runs) (image_version : ImageVersion) (before : MoteState) (runs : Option Running) → option_map (runs_by started (Some image_version)) o ≡ Some runs
    → (k : ImageVersion) × (runs ≡ Some (record { image_version = k; mote = mote_or o before }))
went None started image_version before runs e = absurd cc
went (Some m) None image_version before runs e = (image_version, cc)
went (Some m) (Some r) image_version before runs e = (image_version_of r, cc)

-- after an event at mote m its spot is y, and it sent this
pub record Walks (m : ℕ) (w u : World) (y : Spot) (sent : Option Message) (dt : ℕ) : Type 0 where
  pub at : At u m y
  pub beside : Beside m w u
  pub frame : last_frame u m ≡ newer_frame m sent (last_frame w m)
  pub moment : u.moment ≡ w.moment + dt

pub tick_walks : (w u : World) (m : ℕ) (x : Spot) (reports : List Report) → At w m x → WorldStep w (record { event = paced m; cut = None }) u reports
    → Walks m w u (ticked x (w.moment + pace)) (tick_at x (w.moment + pace)).sent pace
unfolding WorldStep does ticked
tick_walks w u m x reports at walk =
    let e = tick_at x (w.moment + pace) in
    let done = subst (λ (s : Site). StepDoes (tick_does w s.store s.runs (w.moment + pace) 0) w (record { event = paced m; cut = None }) u reports) at.site_is walk in
    let next = went e.mote e.started at.image_version x.mote done.0 done.1 in
    let new : Site = record { store = last e.trail; runs = Some (record { image_version = next.0; mote = mote_or e.mote x.mote }) } in
    let same : u ≡ made w m pace new e.sent = done.2 ∙ ap (λ r. made w m pace (record { store = last e.trail; runs = r }) e.sent) next.1 in
    subst (λ v. Walks m w v (record { store = last e.trail; mote = mote_or e.mote x.mote }) e.sent pace) (sym same) (record {
      at = record {
        there = subst (λ n. m < n) (sym (made_beside w m pace new e.sent).count) at.there;
        image_version = next.0;
        site_is = made_site w m pace new e.sent at.there;
      };
      beside = made_beside w m pace new e.sent;
      frame = made_frame w m pace new e.sent;
      moment = made_moment w m pace new e.sent;
    })

-- ---- what a well mote sends is read by motes of its width

abbrev pub Spelled : (wide : Bool) → Message → Type 0
Spelled wide m = message_of (frame_of m) wide ≡ Ok m

-- what is known of free events, and of what a mote sends
pub record WalkLaws : Type 0 where
  pub free : FreeLaw
  pub later : (table : List Row) (m : MoteState) (s : Store) (now then : ℕ) → now ≤ then → IsWell table m s now → IsWell table m s then
  pub said : (table : List Row) (m : MoteState) (s : Store) (now word : ℕ) → IsTable table → IsWell table m s now → Speaks m s → IfSome (tick_of m s now word).sent (IsSaid m.id m.wide)

if_said : (id : ℕ) (wide : Bool) (o : Option Message) → IfSome o (IsSaid id wide) → IfSome o (Spelled wide)
if_said id wide None i = tt
if_said id wide (Some m) i = i.is_read

boot_silent : (o : Option Runs) (t : Trail Store) (id : ℕ) (wide : Bool) (now word : ℕ) (P : Message → Type 0) → IfSome (boot_by o t id wide now word).sent P
boot_silent None t id wide now word P = tt
boot_silent (Some r) t id wide now word P = tt

effect_said : (wide : Bool) (a : Did) (step : MoteStep Did) (now word : ℕ) → IfSome step.sent (Spelled wide) → IfSome (tick_by a step now word).sent (Spelled wide)
effect_said wide did.Sent step now word i = i
effect_said wide did.Idle step now word i = i
effect_said wide did.Restart step now word i =
    boot_silent (boot cause.Order (last step.trail)).runs (boot cause.Order (last step.trail)).trail step.mote.id step.mote.wide now word (Spelled wide)

pub well_at : (w : World) (m : ℕ) (x : Spot) → WorldAgrees w → (at : At w m x) → RunsWell w.table m (wide_at w m) w.moment x.store (record { image_version = at.image_version; mote = x.mote })
well_at w m x good at =
    let here : SiteIsWell w.table m (wide_at w m) w.moment (record { store = x.store; runs = Some (record { image_version = at.image_version; mote = x.mote }) }) = subst (SiteIsWell w.table m (wide_at w m) w.moment) at.site_is (good.sites m at.there) in
    here.runs

-- a mote has its width by the world
pub mote_wide : (w : World) (m : ℕ) (x : Spot) → WorldAgrees w → At w m x → x.mote.wide ≡ wide_at w m
mote_wide w m x good at = (well_at w m x good at).wide_is

-- which no free event changes
pub wide_on : (w u : World) (m : ℕ) → Grows w u → wide_at u m ≡ wide_at w m
wide_on w u m g = ap (λ narrow. is_wide_mote narrow m) g.narrow

pub said_at : WalkLaws → (w : World) (m : ℕ) (x : Spot) → WorldAgrees w → At w m x → IfSome (tick_at x (w.moment + pace)).sent (Spelled (wide_at w m))
unfolding tick_effect
said_at laws w m x good at =
    let known = well_at w m x good at in
    let now = w.moment + pace in
    let step = tick_of x.mote x.store now 0 in
    let said = if_said x.mote.id x.mote.wide step.sent (laws.said w.table x.mote x.store now 0 good.table (laws.later w.table x.mote x.store w.moment now (omega arith) known.well) known.speaks) in
    subst (λ wide. IfSome (tick_by step.answer step now 0).sent (Spelled wide)) (mote_wide w m x good at) (effect_said x.mote.wide step.answer step now 0 said)

-- ---- n ticks in a row: an induction on their number

-- the frame is that of the message that was sent last, where one is known, and readers of this width read it as that message
abbrev pub IsTold : ℕ → (wide : Bool) → Option Sent → Option Message → Type 0
IsTold m wide f None = Unit {0}
IsTold m wide f (Some message) = (f ≡ frame_told m (Some message)) × Spelled wide message

newer_told : (m : ℕ) (wide : Bool) (sent before : Option Message) (f : Option Sent) → IfSome sent (Spelled wide) → IsTold m wide f before → IsTold m wide (newer_frame m sent f) (newer_of sent before)
unfolding frame_told
newer_told m wide None before f i e = e
newer_told m wide (Some s) before f i e = (refl, i)

-- the outcome of n ticks at m
pub record Walked (n : ℕ) (m : ℕ) (w v : World) (x : Spot) (before : Option Message) : Type 0 where
  pub at : At v m (after_ticks n x w.moment)
  pub beside : Beside m w v
  pub told : IsTold m (wide_at w m) (last_frame v m) (last_sent n x w.moment before)
  pub moment : v.moment ≡ w.moment + n * pace

pub ticks_walk : WalkLaws → (n : ℕ) (w v : World) (m : ℕ) (x : Spot) (before : Option Message) → WorldAgrees w → At w m x → IsTold m (wide_at w m) (last_frame w m) before → Follows w (replicate n (paced m)) v → Walked n m w v x before
unfolding Follows after_ticks last_sent
ticks_walk laws zero w v m x before good at told f =
    subst (λ u. Walked zero m w u x before) f (record { at = at; beside = Beside-none m w; told = told; moment = omega arith })
ticks_walk laws (suc n) w v m x before good at told f =
    let one = tick_walks w f.0 m x f.1 at f.2 in
    let y = ticked x (w.moment + pace) in
    let sent = (tick_at x (w.moment + pace)).sent in
    let message = newer_of sent before in
    let wide = wide_at w m in
    let grown = laws.free w f.0 (paced m) f.1 good refl f.2 in
    let now_told : IsTold m wide (last_frame f.0 m) message = subst (λ g. IsTold m wide g message) (sym one.frame) (newer_told m wide sent before (last_frame w m) (said_at laws w m x good at) told) in
    let rest = ticks_walk laws n f.0 v m y message grown.good one.at (subst (λ k. IsTold m k (last_frame f.0 m) message) (sym (wide_on w f.0 m grown)) now_told) f.3 in
    record {
      at = subst (λ t. At v m (after_ticks n y t)) one.moment rest.at;
      beside = Beside-then m w f.0 v one.beside rest.beside;
      told =
          subst (λ t. IsTold m wide (last_frame v m) (last_sent n y t message)) one.moment
          (subst (λ k. IsTold m k (last_frame v m) (last_sent n y f.0.moment message)) (wide_on w f.0 m grown) rest.told);
      moment = omega (arith, rest.moment, one.moment);
    }
