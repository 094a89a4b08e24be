-- Steps and declarations keep agreement with the table, also where they are stopped.
use Rattle.std.proofs.Common.{◌≡◌, ℕ, ◌<◌, ◌≤◌, ◌+◌, ◌^◌, Bool, true, false, List, length, Option, Some, None, IfSome, IfOk, Result, Ok, Err, refl, sym, ap, subst, ◌∙◌, inr, arith, ltb-false}
use Rattle.std.proofs.lemmas.Bool.{cond_both}
use Rattle.std.proofs.lemmas.Bool.Decides.{nat_tests}
use Rattle.std.proofs.lemmas.List.{length-set}
use Rattle.std.specs.Prelude.{◌==◌, nat_lt}
use Rattle.dg_words.specs.Cells.{AreBytes}
use Rattle.dg_nor.specs.Trail.{Trail, last}
use Rattle.dg_nor.specs.Through.{Through}
use Rattle.dg_nor.proofs.ThroughLemmas.{Through-stepping, Through-last}
use Rattle.dg_control.specs.Store.{commit_operations}
use Rattle.dg_control.specs.declared.snapshot.Order.{Order}
use Rattle.dg_object.specs.Object.{Row, IsRow}
use Rattle.dg_slot.specs.Layout.{most_bytes}
use Rattle.dg_volume.specs.Sizes.{images}
use Rattle.dg_volume.specs.Store.{Store}
use Rattle.dg_volume.specs.Changes.{inject_refusal, ordered}
use Rattle.dg_volume.specs.Trails.{order_trail, inject_trail}
use Rattle.dg_volume.specs.Start.{Runs, boot}
use Rattle.dg_volume.specs.Ends.{OnTheWay, Boots}
use Rattle.dg_volume.specs.Table.{row_at, with_row, IsTable}
use Rattle.dg_volume.specs.Agreement.{Agrees}
use Rattle.dg_volume.specs.declared.volume.StartCause.{StartCause}
use Rattle.dg_volume.specs.declared.volume.StartCause.TheVariants as cause
use Rattle.dg_volume.specs.declared.volume.InjectFault.{InjectFault}
use Rattle.dg_volume.specs.declared.volume.InjectFault.TheVariants.{Empty, TooLarge}
use Rattle.dg_frame.specs.Grammar.{message_of}
use Rattle.dg_frame.specs.Spelling.{frame_of, FitsTypes}
use Rattle.dg_frame.specs.declared.FrameFault.{FrameFault}
use Rattle.dg_frame.specs.declared.Message.{Message}
use Rattle.dg_mote.specs.Model.{MoteState, begun_mote, maintains, MoteStep}
use Rattle.dg_mote.specs.Ticks.{tick_of}
use Rattle.dg_mote.specs.Hears.{heard_of}
use Rattle.dg_mote.specs.Agreement.{IsHonest, HonestMessage}
use Rattle.dg_mote.specs.Timely.{Timely}
use Rattle.dg_mote.specs.Well.{StoreIsWell, IsWell, TurnIsWell, SendsHonest}
use Rattle.dg_mote.specs.Speaking.{OrderFits, Speaks, TurnSpeaks, IsSaid}
use Rattle.dg_rules.specs.World.{World, Running, Sent, site, store_at, wide_at}
use Rattle.dg_rules.specs.Events.{EventEffect, Does, Refuses, Goes, IsTaken, does, mote_of, dt_of, image_version_of, reloaded}
use Rattle.dg_script.specs.Ranges.{IsDeclared, IsVersion, EventInRange}
use Rattle.dg_rules.specs.Premises.{RunsWell, SentIsWell, WorldAgrees, TrueEvent}
use Rattle.dg_base.specs.declared.events.Event.{Event}
use Rattle.dg_rules.proofs.ThroughLemmas.{Through-map, Through-both}
use Rattle.dg_rules.proofs.TableLemmas.{row_at-image_version, row_at-each, row_at-with_row, row_at-added, IsTable-with_row}
use Rattle.dg_rules.proofs.InjectLemmas.{OnInject, inject_way, refused_not}
use Rattle.dg_rules.proofs.WiderLemmas.{Wider, wider_same, agrees_wider}
use Rattle.dg_rules.proofs.EventLemmas.{order_of, running_by, starts, goes_on, hears, RestartLaws, does_cases}

-- what is known of volumes
pub record VolumeLaws : Type 0 where
  pub orders : (table : List Row) (s : Store) (order : Order) → Agrees table s → Through (Agrees table) (order_trail s order)
  pub injects : (table : List Row) (s : Store) (row : Row) → row.image < length s.kept → row_at table row.image row.version ≡ Some row → Agrees table s → Through (Agrees table) (inject_trail s row)
  pub boots : (table : List Row) (cause : StartCause) (s : Store) → Agrees table s → Through (Agrees table) (boot cause s).trail
  pub ends : (cause : StartCause) (s : Store) → Boots s (boot cause s)

-- what is known of a mote and of frames
pub record MoteLaws : Type 0 where
  pub restarts : RestartLaws
  pub begins : (table : List Row) (s : Store) (id now word : ℕ) (wide : Bool) → StoreIsWell table s → IsWell table (begun_mote id wide now word) s now
  pub later : (table : List Row) (m : MoteState) (s : Store) (now then : ℕ) → now ≤ then → IsWell table m s now → IsWell table m s then
  pub reloads : (table : List Row) (m : MoteState) (s : Store) (now word : ℕ) → Timely m now → StoreIsWell table s → IsWell table (maintains m now word) s now
  pub ticks : (table : List Row) (m : MoteState) (s : Store) (now word : ℕ) → IsWell table m s now → TurnIsWell table (tick_of m s now word) now
  pub hears : (table : List Row) (m : MoteState) (s : Store) (now word : ℕ) (bytes : List ℕ) → IsTable table → IsHonest table bytes → IsWell table m s now → TurnIsWell table (heard_of m s now word bytes) now
  pub says : (table : List Row) (m : MoteState) (s : Store) (now word : ℕ) → IsTable table → IsWell table m s now → Speaks m s → IfSome (tick_of m s now word).sent (IsSaid m.id m.wide)
  pub speaks_first : (s : Store) (id now word : ℕ) (wide : Bool) → id < 2 ^ 16 → OrderFits s.order → Speaks (begun_mote id wide now word) s
  pub speaks_ticked : (m : MoteState) (s : Store) (now word : ℕ) → Speaks m s → TurnSpeaks m.id m.wide (tick_of m s now word)
  pub speaks_heard : (m : MoteState) (s : Store) (now word : ℕ) (bytes : List ℕ) → IfOk (message_of bytes m.wide) FitsTypes → Speaks m s → TurnSpeaks m.id m.wide (heard_of m s now word bytes)
  pub bytes_fit : (b : List ℕ) (wide : Bool) (m : Message) → AreBytes b → message_of b wide ≡ Ok m → FitsTypes m
  pub wider : (b : List ℕ) (m : Message) → message_of b false ≡ Ok m → message_of b true ≡ Ok m

pub record Laws : Type 0 where
  pub volume : VolumeLaws
  pub mote : MoteLaws

-- a store that agrees, and whose order fits into a frame
pub record IsGood (table : List Row) (s : Store) : Type 0 where
  pub well : StoreIsWell table s
  pub order : OrderFits s.order

-- it does not depend on room
pub good_room : (table : List Row) (s : Store) (room : ℕ) → IsGood table s → IsGood table (record s { room = room })
good_room table s room g = record { well = record { count = g.well.count; agrees = record { golden = g.well.agrees.golden; kept = g.well.agrees.kept; app = g.well.agrees.app } }; order = g.order }

through_good : (table : List Row) (t : Trail Store) → Through (StoreIsWell table) t → Through (λ s. OrderFits s.order) t → Through (IsGood table) t
through_good table t well order =
    Through-map (λ s. StoreIsWell table s × OrderFits s.order) (IsGood table) (λ s both. record { well = both.0; order = both.1 }) t
    (Through-both (StoreIsWell table) (λ s. OrderFits s.order) t well order)

-- ---- a row that is injected

refused_row : (s : Store) (row : Row) → inject_refusal s row ≡ None → (1 ≤ length row.bytes) × (length row.bytes ≤ most_bytes)
refused_row s row e =
    let P : Option InjectFault → Type 0 = λ o. o ≡ None → (1 ≤ length row.bytes) × (length row.bytes ≤ most_bytes) in
    cond_both (length row.bytes == 0) (Some Empty) _ P (λ _ f. absurd (fault_none Empty f))
    (λ some. cond_both (nat_lt most_bytes (length row.bytes)) (Some TooLarge) _ P (λ _ f. absurd (fault_none TooLarge f))
    (λ few _. let low : 1 ≤ length row.bytes = grind (arith, nat_tests) in (low, ltb-false most_bytes (length row.bytes) few)))
    e
  where
    fault_none : (x : InjectFault) → Some x ≡ None → ⊥
    fault_none x f = cc

pub is_row : (s : Store) (row : Row) → IsDeclared row → inject_refusal s row ≡ None → IsRow row
is_row s row d fits =
    let size = refused_row s row fits in
    record {
      image = let low = d.image in omega (arith, low);
      version = d.version;
      version_fits = d.version_fits;
      name = d.name;
      some = size.0;
      fits = size.1;
      bytes = d.bytes;
    }

-- ---- what an event does at mote m, dt milliseconds later

pub record AgreesEffect (w : World) (m dt : ℕ) (d : EventEffect) : Type 0 where
  pub table : IsTable d.table
  pub wider : Wider w.table d.table
  pub way : Through (IsGood d.table) d.trail
  pub mote : (runs : Option Running) → d.runs ≡ Some runs → IfSome runs (RunsWell d.table m (wide_at w m) (w.moment + dt) (last d.trail))
  pub sent : IfSome d.sent (λ message. SentIsWell d.table (record { by = m; bytes = frame_of message }))

abbrev pub AgreesDoes : World → (m dt : ℕ) → Does → Type 0
AgreesDoes w m dt (Refuses why) = Unit {0}
AgreesDoes w m dt (Goes d) = AgreesEffect w m dt d

pub same_running : (a b : Option Running) → Some a ≡ Some b → a ≡ b
same_running a b e = cc

same_message : (a b : Message) → ◌≡◌ {A = Result Message FrameFault} (Ok a) (Ok b) → a ≡ b
same_message a b e = cc

pub if_each : {A : Type 0} (P Q R : A → Type 0) (o : Option A) → ((x : A) → P x → Q x → R x) → IfSome o P → IfSome o Q → IfSome o R
if_each P Q R None f p q = tt
if_each P Q R (Some x) f p q = f x p q

pub running_at : (P : Running → Type 0) (o : Option Running) (r : Running) → o ≡ Some r → IfSome o P → P r
running_at P o r is all = subst (λ (x : Option Running). IfSome x P) is all

-- ---- a row that is declared and injected

module _ (w : World) (agrees : WorldAgrees w) where
  -- a row that is declared and not refused
  pub record Injected (m image version : ℕ) (row : Row) : Type 0 where
    pub declared : IsDeclared row
    pub image_is : row.image ≡ image
    pub version_is : row.version ≡ version
    pub in_table : row_at (with_row w.table row) row.image row.version ≡ Some row
    pub within : row.image < length (store_at w m).kept
    pub wider : Wider w.table (with_row w.table row)
    pub agrees_more : Agrees (with_row w.table row) (store_at w m)

  pub injected : (m image version : ℕ) (row : Row) → m < length w.sites → row_at w.declared image version ≡ Some row → ((kept : Row) → row_at w.table image version ≡ Some kept → kept ≡ row)
      → Injected m image version row
  injected m image version row low known same =
      let d = row_at-each IsDeclared w.declared image version row agrees.rows known in
      let own = row_at-image_version w.declared image version row known in
      let old = agrees.sites m low in
      let wider : Wider w.table (with_row w.table row) = λ i v r e. row_at-with_row w.table row r i v e in
      record {
        declared = d;
        image_is = own.0;
        version_is = own.1;
        in_table = row_at-added w.table row (λ r e. same r (ap (λ i. row_at w.table i version) (sym own.0) ∙ ap (row_at w.table row.image) (sym own.1) ∙ e));
        within = let few = d.image in let count = old.store.count in omega (arith, few, count);
        wider = wider;
        agrees_more = agrees_wider w.table (with_row w.table row) wider (store_at w m) old.store.agrees;
      }

-- ---- events

module _ (laws : Laws) (w : World) (agrees : WorldAgrees w) where
  -- what is known of a mote of the world and of its store
  pub here : (m : ℕ) → m < length w.sites → IsGood w.table (store_at w m)
  here m low = let x = agrees.sites m low in record { well = x.store; order = x.order }

  runs_here : (m : ℕ) (r : Running) → m < length w.sites → (site w m).runs ≡ Some r → RunsWell w.table m (wide_at w m) w.moment (store_at w m) r
  runs_here m r low is = running_at (RunsWell w.table m (wide_at w m) w.moment (store_at w m)) (site w m).runs r is (agrees.sites m low).runs

  well_now : (m dt : ℕ) (r : Running) → m < length w.sites → (site w m).runs ≡ Some r → IsWell w.table r.mote (store_at w m) (w.moment + dt)
  well_now m dt r low is = laws.mote.later w.table r.mote (store_at w m) w.moment (w.moment + dt) (omega arith) (runs_here m r low is).well

  small_id : (m : ℕ) → m < length w.sites → m < 2 ^ 16
  small_id m low = let few = agrees.few in omega (arith, low, few)

  -- over the same table
  same_table : (m dt : ℕ) (d : EventEffect) → d.table ≡ w.table → Through (IsGood w.table) d.trail
      → ((runs : Option Running) → d.runs ≡ Some runs → IfSome runs (RunsWell w.table m (wide_at w m) (w.moment + dt) (last d.trail)))
      → IfSome d.sent (λ message. SentIsWell w.table (record { by = m; bytes = frame_of message })) → AgreesEffect w m dt d
  same_table m dt d is way mote sent = record {
    table = subst IsTable (sym is) agrees.table;
    wider = subst (λ (t : List Row). Wider w.table t) (sym is) (wider_same w.table);
    way = subst (λ (t : List Row). Through (IsGood t) d.trail) (sym is) way;
    mote = λ runs e. subst (λ (t : List Row). IfSome runs (RunsWell t m (wide_at w m) (w.moment + dt) (last d.trail))) (sym is) (mote runs e);
    sent = subst (λ (t : List Row). IfSome d.sent (λ message. SentIsWell t (record { by = m; bytes = frame_of message }))) (sym is) sent;
  }

  -- ---- starts

  boot_way : (k : StartCause) (s : Store) → IsGood w.table s → Through (IsGood w.table) (boot k s).trail
  boot_way k s g =
      let b = boot k s in
      let way = (laws.volume.ends k s).way in
      through_good w.table b.trail
      (Through-map (λ t. Agrees w.table t × OnTheWay s b.runs t) (StoreIsWell w.table) (λ t both. record { count = ap length both.1.kept ∙ g.well.count; agrees = both.0 }) b.trail
      (Through-both (Agrees w.table) (OnTheWay s b.runs) b.trail (laws.volume.boots w.table k s g.well.agrees) way))
      (Through-map (OnTheWay s b.runs) (λ t. OrderFits t.order) (λ t on. subst OrderFits (sym on.order) g.order) b.trail way)

  started_well : (m id : ℕ) (wide : Bool) (now word : ℕ) (s : Store) (o : Option Runs) (runs : Option Running) → id ≡ m → wide ≡ wide_at w m → m < 2 ^ 16 → IsGood w.table s
      → running_by o id wide now word ≡ Some runs
      → IfSome runs (RunsWell w.table m (wide_at w m) now s)
  started_well m id wide now word s None runs is same low g e = absurd cc
  started_well m id wide now word s (Some r) runs is same low g e =
      subst (λ (o : Option Running). IfSome o (RunsWell w.table m (wide_at w m) now s)) (same_running (Some (record { image_version = image_version_of r; mote = begun_mote id wide now word })) runs e)
      (record {
        id = is;
        wide_is = same;
        well = laws.mote.begins w.table s id now word wide g.well;
        speaks = laws.mote.speaks_first s id now word wide (subst (λ (n : ℕ). n < 2 ^ 16) (sym is) low) g.order;
      })

  start_agrees : (k : StartCause) (m dt id : ℕ) (wide : Bool) (word : ℕ) → m < length w.sites → id ≡ m → wide ≡ wide_at w m
      → AgreesDoes w m dt (starts w (boot k (store_at w m)) id wide (w.moment + dt) word)
  start_agrees k m dt id wide word low is same =
      let b = boot k (store_at w m) in
      let way = boot_way k (store_at w m) (here m low) in
      same_table m dt _ refl way
      (λ runs e. started_well m id wide (w.moment + dt) word (last b.trail) b.runs runs is same (small_id m low) (Through-last (IsGood w.table) b.trail way) e) tt

  -- ---- steps of a mote

  turn_agrees : {A : Type 0} (m dt : ℕ) (r : Running) (step : MoteStep A) (sent : Option Message) → r.mote.id ≡ m → r.mote.wide ≡ wide_at w m → TurnIsWell w.table step (w.moment + dt)
      → TurnSpeaks r.mote.id r.mote.wide step
      → IfSome sent (λ message. SentIsWell w.table (record { by = m; bytes = frame_of message })) → AgreesDoes w m dt (goes_on w step.trail sent r.image_version step.mote)
  turn_agrees m dt r step sent id wide well speaks told =
      same_table m dt _ refl (through_good w.table step.trail well.way speaks.way)
      (λ runs e. subst (λ (o : Option Running). IfSome o (RunsWell w.table m (wide_at w m) (w.moment + dt) (last step.trail))) (same_running (Some (record { image_version = r.image_version; mote = step.mote })) runs e)
      (record { id = speaks.id_is ∙ id; wide_is = speaks.wide_is ∙ wide; well = well.mote; speaks = speaks.mote }))
      told

  -- what a mote reads, a wide one reads too
  read_wide : (wide : Bool) (b : List ℕ) (message : Message) → message_of b wide ≡ Ok message → message_of b true ≡ Ok message
  read_wide true b message e = e
  read_wide false b message e = laws.mote.wider b message e

  said_well : (m id : ℕ) (wide : Bool) (sent : Option Message) → id ≡ m → IfSome sent (IsSaid id wide) → SendsHonest w.table sent → IfSome sent (λ message. SentIsWell w.table (record { by = m; bytes = frame_of message }))
  said_well m id wide sent is said honest =
      if_each (IsSaid id wide) (λ message. HonestMessage w.table (Ok message)) (λ message. SentIsWell w.table (record { by = m; bytes = frame_of message })) sent
      (λ message a b. record { message = message; spelled = read_wide wide (frame_of message) message a.is_read; fits = a.fits; source = a.source ∙ is; honest = b }) said honest

  tick_agrees : (m dt word : ℕ) (r : Running) → (site w m).runs ≡ Some r → m < length w.sites
      → AgreesDoes w m dt (let step = tick_of r.mote (store_at w m) (w.moment + dt) word in goes_on w step.trail step.sent r.image_version step.mote)
  tick_agrees m dt word r is low =
      let s = store_at w m in
      let now = w.moment + dt in
      let step = tick_of r.mote s now word in
      let known = runs_here m r low is in
      let well = laws.mote.ticks w.table r.mote s now word (well_now m dt r low is) in
      turn_agrees m dt r step step.sent known.id known.wide_is well (laws.mote.speaks_ticked r.mote s now word known.speaks)
      (said_well m r.mote.id r.mote.wide step.sent known.id (laws.mote.says w.table r.mote s now word agrees.table (well_now m dt r low is) known.speaks) well.sent)

  hear_agrees : (m dt word : ℕ) (bytes : List ℕ) (r : Running) → (site w m).runs ≡ Some r → m < length w.sites → IsHonest w.table bytes → IfOk (message_of bytes r.mote.wide) FitsTypes
      → AgreesDoes w m dt (hears w m (w.moment + dt) word bytes r)
  hear_agrees m dt word bytes r is low honest fits =
      let s = store_at w m in
      let now = w.moment + dt in
      let known = runs_here m r low is in
      turn_agrees m dt r (heard_of r.mote s now word bytes) None known.id known.wide_is
      (laws.mote.hears w.table r.mote s now word bytes agrees.table honest (well_now m dt r low is))
      (laws.mote.speaks_heard r.mote s now word bytes fits known.speaks) tt

  -- a frame that was sent
  sent_honest : (f : Sent) → SentIsWell w.table f → IsHonest w.table f.bytes
  sent_honest f well = subst (HonestMessage w.table) (sym well.spelled) well.honest

  sent_fits : (wide : Bool) (f : Sent) → SentIsWell w.table f → IfOk (message_of f.bytes wide) FitsTypes
  sent_fits wide f well = by_reading (message_of f.bytes wide) refl
    where
      by_reading : (r : Result Message FrameFault) → message_of f.bytes wide ≡ r → IfOk r FitsTypes
      by_reading (Err fault) is = tt
      by_reading (Ok message) is = subst FitsTypes (same_message well.message message (sym well.spelled ∙ read_wide wide f.bytes message is)) well.fits

  -- one from outside
  bytes_fit : (wide : Bool) (bytes : List ℕ) → AreBytes bytes → (r : Result Message FrameFault) → message_of bytes wide ≡ r → IfOk r FitsTypes
  bytes_fit wide bytes are (Err fault) is = tt
  bytes_fit wide bytes are (Ok message) is = laws.mote.bytes_fit bytes wide message are is

  -- ---- orders and injections

  reloads_well : (m dt word : ℕ) (table : List Row) (s : Store) (runs : Option Running) → m < length w.sites → IsGood table s → Some (reloaded (site w m).runs (w.moment + dt) word) ≡ Some runs
      → IfSome runs (RunsWell table m (wide_at w m) (w.moment + dt) s)
  reloads_well m dt word table s runs low g e =
      subst (λ (o : Option Running). IfSome o (RunsWell table m (wide_at w m) (w.moment + dt) s)) (same_running (reloaded (site w m).runs (w.moment + dt) word) runs e)
      (each (site w m).runs refl)
    where
      each : (o : Option Running) → (site w m).runs ≡ o → IfSome (reloaded o (w.moment + dt) word) (RunsWell table m (wide_at w m) (w.moment + dt) s)
      each None is = tt
      each (Some r) is =
          let known = runs_here m r low is in
          record {
            id = known.id;
            wide_is = known.wide_is;
            well = laws.mote.reloads table r.mote s (w.moment + dt) word (well_now m dt r low is).timely g.well;
            speaks = record { id = known.speaks.id; server = tt; known = tt; order = g.order };
          }

  order_fits : (number image version : ℕ) → 1 ≤ number → number < 2 ^ 32 → IsVersion image version → version < 2 ^ 32 → OrderFits (order_of number image version)
  order_fits number image version some small named fits = record {
    in_range = inr (record { number = some; image = omega (arith, named.image); version = named.version });
    number = small;
    version = fits;
  }

  order_agrees : (m number image version dt word : ℕ) → m < length w.sites → OrderFits (order_of number image version)
      → AgreesDoes w m dt (Goes (record { trail = order_trail (store_at w m) (order_of number image version); table = w.table; started = None; sent = None; runs = Some (reloaded (site w m).runs (w.moment + dt) word) }))
  order_agrees m number image version dt word low fits =
      let s = store_at w m in
      let order = order_of number image version in
      let old = here m low in
      let t = order_trail s order in
      let count = Through-stepping (λ x. length x.kept ≡ images) s (commit_operations s.room) (ordered s order) old.well.count old.well.count in
      let way : Through (IsGood w.table) t =
      through_good w.table t
      (Through-map (λ x. Agrees w.table x × (length x.kept ≡ images)) (StoreIsWell w.table) (λ x both. record { count = both.1; agrees = both.0 }) t
      (Through-both (Agrees w.table) (λ x. length x.kept ≡ images) t (laws.volume.orders w.table s order old.well.agrees) count))
      (Through-stepping (λ x. OrderFits x.order) s (commit_operations s.room) (ordered s order) old.order fits) in
      same_table m dt _ refl way (λ runs e. reloads_well m dt word w.table (last t) runs low (Through-last (IsGood w.table) t way) e) tt

  -- ---- injections

  inject_agrees : (m image version dt word : ℕ) (row : Row) → m < length w.sites → row_at w.declared image version ≡ Some row
      → ((kept : Row) → row_at w.table image version ≡ Some kept → kept ≡ row) → inject_refusal (store_at w m) row ≡ None
      → AgreesDoes w m dt (Goes (record { trail = inject_trail (store_at w m) row; table = with_row w.table row; started = None; sent = None; runs = Some (reloaded (site w m).runs (w.moment + dt) word) }))
  inject_agrees m image version dt word row low known same fits =
      let s = store_at w m in
      let i = injected w agrees m image version row low known same in
      let more = with_row w.table row in
      let old = here m low in
      let t = inject_trail s row in
      let on = inject_way more s row i.in_table i.within i.agrees_more fits in
      let way : Through (IsGood more) t =
      through_good more t
      (Through-map (λ x. Agrees more x × OnInject s row x) (StoreIsWell more)
      (λ x both. record { count = ap length both.1.kept ∙ length-set s.kept row.image both.1.here ∙ old.well.count; agrees = both.0 }) t
      (Through-both (Agrees more) (OnInject s row) t (laws.volume.injects more s row i.within i.in_table i.agrees_more) on))
      (Through-map (OnInject s row) (λ x. OrderFits x.order) (λ x o. subst OrderFits (sym o.order) old.order) t on) in
      record {
        table = IsTable-with_row w.table row agrees.table (is_row s row i.declared fits) (refused_not s row fits).0;
        wider = i.wider;
        way = way;
        mote = λ runs e. reloads_well m dt word more (last t) runs low (Through-last (IsGood more) t way) e;
        sent = tt;
      }

  -- ---- every event

  pub agrees_does : (e : Event) → EventInRange (length w.sites) e → TrueEvent w e → AgreesDoes w (mote_of e) (dt_of e) (does w e)
  agrees_does e fits honest =
      does_cases laws.mote.restarts w (SentIsWell w.table) agrees.sent (λ e D. does w e ≡ D → EventInRange (length w.sites) e → TrueEvent w e → AgreesDoes w (mote_of e) (dt_of e) D)
      (λ e why same fits honest. tt)
      (λ m dt word r is same fits honest. tick_agrees m dt word r is fits)
      (λ m dt word r is waits same fits honest. start_agrees cause.Order m dt r.mote.id r.mote.wide word fits (runs_here m r fits is).id (runs_here m r fits is).wide_is)
      (λ m dt word same fits honest. start_agrees cause.Power m dt m (wide_at w m) word fits refl refl)
      (λ m dt word number f r is at q same fits honest. hear_agrees m dt word f.bytes r is fits.0 (sent_honest f q) (sent_fits r.mote.wide f q))
      (λ from m dt word f r is at q same fits honest. hear_agrees m dt word f.bytes r is fits.second (sent_honest f q) (sent_fits r.mote.wide f q))
      (λ m dt word bytes r is same fits honest. hear_agrees m dt word bytes r is fits.0 honest (bytes_fit r.mote.wide bytes fits.1.bytes (message_of bytes r.mote.wide) refl))
      (λ m image version dt word row known none same fits honest. inject_agrees m image version dt word row fits.0 known (λ kept e. honest (subst IsTaken (sym same) tt) row kept known e) none)
      (λ m number image version dt word none same fits honest. order_agrees m number image version dt word fits.0 (order_fits number image version fits.3 fits.4 fits.1 fits.2))
      e refl fits honest
