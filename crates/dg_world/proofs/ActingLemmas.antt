-- What an injection or an order did at the node of a mote, as an outcome.
use Rattle.std.proofs.Common.{◌≡◌, ℕ, ◌+◌, List, [], ◌++◌, true, Bool, refl, sym, ap, subst, ◌∙◌}
use Rattle.std.specs.Prelude.{Option, Some, None, option_map, Result, Ok, Err, IsSomeAnd}
use Rattle.std.proofs.lemmas.List.{append-nil}
use Rattle.dg_nor.specs.Device.{Device, Took}
use Rattle.dg_nor.specs.Trail.{Trail, last}
use Rattle.dg_object.specs.Object.{Row}
use Rattle.dg_control.specs.declared.snapshot.Order.{Order}
use Rattle.dg_volume.specs.Store.{Store}
use Rattle.dg_volume.specs.Remount.{RemountBytes}
use Rattle.dg_volume.specs.Table.{with_row}
use Rattle.dg_volume.specs.Trails.{order_trail, inject_trail}
use Rattle.dg_volume.specs.declared.volume.InjectFault.{InjectFault}
use Rattle.dg_volume.specs.declared.volume.InjectFault.TheVariants as inject
use Rattle.dg_volume.specs.declared.volume.OrderFault.{OrderFault}
use Rattle.dg_mote.specs.Model.{MoteState, maintains}
use Rattle.dg_node.specs.declared.node.Node.{Node}
use Rattle.dg_node.specs.declared.report.ChipReport.{ChipReport}
use Rattle.dg_node.specs.declared.acts.Change.{Change}
use Rattle.dg_node.specs.declared.acts.ActFault.{ActFault}
use Rattle.dg_node.specs.declared.acts.ActFault.TheVariants as act_fault
use Rattle.dg_node.specs.declared.acts.Ordered.{Ordered}
use Rattle.dg_node.specs.declared.acts.Ordered.TheVariants as ordered
use Rattle.dg_node.specs.declared.acts.Injected.{Injected}
use Rattle.dg_node.specs.declared.acts.Injected.TheVariants as injected
use Rattle.dg_node.specs.Acts.{acts_effect, order_effect, inject_effect, ActKept, trail_unless, StoppedInAct, ActFails, NodeOrdered, NodeInjected, InjectTook}
use Rattle.dg_node.specs.Hosts.{host}
use Rattle.dg_node.specs.Known.{bytes_looked_at}
use Rattle.dg_node.specs.Nodes.{NodeStands, NodeRunning, running_mote, node_runs, node_image}
use Rattle.dg_node.specs.Reports.{IsReportOf}
use Rattle.dg_rules.specs.World.{World as RuleWorld, Running, site, store_at}
use Rattle.dg_rules.specs.Events.{Does, trail_of, acts, reloaded, inject_cause, inject_unless, order_unless}
use Rattle.dg_rules.specs.Changes.{changes}
use Rattle.dg_script.specs.declared.report.Cause.{Cause}
use Rattle.dg_world.specs.inner.ActOutcomes.{injected_refusal, halt_of_act, order_outcome, inject_outcome}
use Rattle.dg_world.specs.inner.EventOutcomes.{Changes}
use Rattle.dg_world.specs.Known.{beyond}
use Rattle.dg_world.specs.inner.Sees.{InjectReads}
use Rattle.dg_world.specs.inner.OutcomeEndings.{BeforeReports, EventStopped, EventDone, OutcomeEnds}
use Rattle.dg_world.specs.Worlds.{MoteStands}
use Rattle.dg_world.proofs.ChipReportLemmas.{changes_are_reported}

-- ---- a mote that is on or off, as its node

abbrev pub node_running : Option Running → Option NodeRunning
node_running None = None
node_running (Some r) = Some (record { image_version = r.image_version; mote = r.mote })

pub stands_in : (c : List ℕ) (v : Option Node) (s : Store) (o : Option Running) → MoteStands c v s o → NodeStands c v s (node_running o)
stands_in c None s None x = x
stands_in c None s (Some r) x = x
stands_in c (Some v) s None x = x
stands_in c (Some v) s (Some r) x = x

goes_on : (c d : List ℕ) (v u : Option Node) (s t : Store) (o : Option Running) (now word : ℕ) → MoteStands c v s o → NodeStands d u t (node_runs (option_map (λ m. maintains m now word) (running_mote (node_running o))) None (option_map node_image v))
    → MoteStands d u t (reloaded o now word)
goes_on c d v None s t None now word was x = x
goes_on c d v (Some n) s t None now word was x = x
goes_on c d None u s t (Some r) now word was x = absurd was
goes_on c d (Some n) None s t (Some r) now word was x = x
goes_on c d (Some n) (Some y) s t (Some r) now word was x = (x.0 ∙ was.0, x.1)

-- ---- acts

module _ (w : RuleWorld) (m now word : ℕ) (v u : Option Node) (a b : Device) (was : MoteStands a.image v (store_at w m) (site w m).runs) where
  abbrev s : Store
  s = store_at w m

  abbrev o : Option MoteState
  o = running_mote (node_running (site w m).runs)

  kept_went : {R : Type 0} (refusal : Option R) (t : Trail Store) (table : List Row) (x : Change) → ActKept x refusal (acts_effect o t now word) s (host a v) (host b u) → EventDone w m (acts w m t table now word) u a b (Changes x.before x.after)
  kept_went refusal t table x k =
      let lines = changes m s (last t) in
      record {
        effect = record { trail = t; table = table; started = None; sent = None; runs = Some (reloaded (site w m).runs now word) };
        goes = refl;
        ran = k.went.ran;
        tells = record {
          runs = reloaded (site w m).runs now word;
          runs_then = refl;
          mote = goes_on a.image b.image v u s (last t) (site w m).runs now word was k.went.runs;
          lines = changes_are_reported m x.before x.after s (last t) k.before k.after ∙ sym (append-nil (lines ++ []) ∙ append-nil lines);
          sent = refl;
          stands = k.went.stands;
          memory = tt;
        };
      }

  before_by : (before : Option ChipReport) (t : Trail Store) → IsSomeAnd before (λ x. IsReportOf x s) → BeforeReports before t s
  before_by None t x = absurd x
  before_by (Some y) t x = x

  stopped_on : {R : Type 0} (D : Does) (before : Option ChipReport) (refusal : Option R) (t : Trail Store) → trail_of D s ≡ trail_unless refusal t s → StoppedInAct before refusal (acts_effect o t now word) s a b → EventStopped D s a b before
  stopped_on D before refusal t same x =
      record { stops = subst (λ (y : Trail Store). Rattle.dg_volume.specs.Acts.Stops y a b) (sym same) x.stops; is_report = λ whole blown. before_by before (trail_of D s) (x.told whole blown) }

  act_ends : {R : Type 0} (f : ActFault) (D : Does) (refusal : Option R) (t : Trail Store) → trail_of D s ≡ trail_unless refusal t s → ActFails f refusal (acts_effect o t now word) s (host a v) (host b u) → OutcomeEnds (Err (halt_of_act f)) w m D (host a v) (host b u)
  act_ends (act_fault.Stopped before) D refusal t same x = stopped_on D before refusal t same x
  act_ends act_fault.NotAVolume D refusal t same x = absurd x

  -- ---- orders

  order_trail_is : (refusal : Option OrderFault) (q : Order) → trail_of (order_unless refusal w m q now word) s ≡ trail_unless refusal (order_trail s q) s
  order_trail_is None q = refl
  order_trail_is (Some why) q = refl

  pub order_ends : (r : Result Ordered ActFault) (refusal : Option OrderFault) (q : Order) → NodeOrdered r refusal (order_effect o s q now word) s (host a v) (host b u) → OutcomeEnds (order_outcome r) w m (order_unless refusal w m q now word) (host a v) (host b u)
  order_ends (Ok (ordered.Kept x)) refusal q k =
      subst (λ (y : Option OrderFault). EventDone w m (order_unless y w m q now word) u a b (Changes x.before x.after)) (sym k.allowed) (kept_went refusal (order_trail s q) w.table x k)
  order_ends (Ok (ordered.Refused why orderly)) refusal q k = (ap (λ (y : Option OrderFault). order_unless y w m q now word) k.cause, k.looked, k.same)
  order_ends (Err f) refusal q k = act_ends f (order_unless refusal w m q now word) refusal (order_trail s q) (order_trail_is refusal q) k

  -- ---- injections

  inject_trail_is : (refusal : Option InjectFault) (row : Row) → trail_of (inject_unless refusal w m row now word) s ≡ trail_unless refusal (inject_trail s row) s
  inject_trail_is None row = refl
  inject_trail_is (Some why) row = refl

  pub inject_ends : (r : Result Injected ActFault) (refusal : Option InjectFault) (row : Row) → NodeInjected r refusal (inject_effect o s row now word) s (host a v) (host b u)
      → OutcomeEnds (inject_outcome row r) w m (inject_unless refusal w m row now word) (host a v) (host b u)
  inject_ends (Ok (injected.Kept x)) refusal row k =
      subst (λ (y : Option InjectFault). EventDone w m (inject_unless y w m row now word) u a b (Changes x.before x.after)) (sym k.allowed) (kept_went refusal (inject_trail s row) (with_row w.table row) x k)
  inject_ends (Ok (injected.Refused why orderly)) refusal row k = (ap (λ (y : Option InjectFault). inject_unless y w m row now word) k.cause, k.looked, k.same)
  inject_ends (Err f) refusal row k = act_ends f (inject_unless refusal w m row now word) refusal (inject_trail s row) (inject_trail_is refusal row) k

-- ---- what was read

beyond_is : (row : Row) (f : InjectFault) → beyond (inject_cause row f) ≡ bytes_looked_at f
beyond_is row inject.Stopped = refl
beyond_is row inject.Empty = refl
beyond_is row inject.TooLarge = refl
beyond_is row (inject.Stale kept) = refl
beyond_is row inject.Reserved = refl
beyond_is row (inject.Worn room) = refl
beyond_is row inject.Taken = refl

abbrev some_cause : Cause → Option Cause
some_cause x = Some x

same_cause : (x y : Cause) → some_cause x ≡ some_cause y → x ≡ y
same_cause x y e = cc

none_cause : (x : Cause) → None ≡ some_cause x → ⊥
none_cause x e = cc

pub inject_reads : (x : Injected) (row : Row) (known : Bool) (refused : Option Cause) (a b : Device) → refused ≡ injected_refusal row x → (known ≡ true → (n : ℕ) → RemountBytes a.image n → InjectTook (Ok x) n a b) → InjectReads known refused a b
inject_reads (injected.Kept x) row known refused a b is took = λ on n why remount some. absurd (none_cause why (sym is ∙ some))
inject_reads (injected.Refused f orderly) row known refused a b is took = λ on n why remount some.
    let e : why ≡ inject_cause row f = same_cause why (inject_cause row f) (sym some ∙ is) in
    subst (λ (k : ℕ). Took (n + k) a b) (sym (ap beyond e ∙ beyond_is row f)) (took on n remount)
