-- Worlds that agree with their table: steps, declarations, and stops.
use Rattle.std.proofs.Common.{◌≡◌, ℕ, ◌<◌, ◌≤◌, ◌+◌, Bool, true, false, List, length, Option, Some, None, IfSome, sym, subst, arith}
use Rattle.std.specs.List.{AllByRecursion}
use Rattle.dg_nor.specs.Trail.{Trail, Leaves, resting}
use Rattle.dg_nor.specs.Through.{Through}
use Rattle.dg_nor.proofs.ThroughLemmas.{Through-resting, Through-last}
use Rattle.dg_object.specs.Object.{Row}
use Rattle.dg_volume.specs.Store.{Store, IsNear}
use Rattle.dg_volume.specs.Table.{row_at}
use Rattle.dg_volume.specs.Agreement.{Agrees}
use Rattle.dg_frame.specs.Spelling.{frame_of}
use Rattle.dg_frame.specs.declared.Message.{Message}
use Rattle.dg_rules.specs.Sizes.{most_motes}
use Rattle.dg_rules.specs.World.{World, Site, site, store_at, wide_at, counted, off_site}
use Rattle.dg_rules.specs.Events.{EventEffect, Does, Refuses, Goes, trail_of, does, mote_of, dt_of}
use Rattle.dg_rules.specs.Steps.{blows, and_sent, StepDoes, WorldStep, DeclareStep, declared_as}
use Rattle.dg_script.specs.Ranges.{IsDeclared, EventInRange, StepInRange}
use Rattle.dg_rules.specs.Premises.{LinkFits, SiteIsWell, SentIsWell, WorldAgrees, TrueEvent}
use Rattle.dg_rules.specs.Promises.{table_of, StopsAgree}
use Rattle.dg_base.specs.declared.events.Event.{Event}
use Rattle.dg_base.specs.declared.events.Event.TheVariants.{Tick, Hear, Last, Reset, Inject, Order as OrderEvent, Frame}
use Rattle.dg_base.specs.declared.events.Step.{Step}
use Rattle.dg_script.specs.declared.report.Report.{Report}
use Rattle.dg_rules.proofs.ThroughLemmas.{cut_holds, Through-map}
use Rattle.dg_rules.proofs.SiteLemmas.{each_site, site_count}
use Rattle.dg_rules.proofs.WiderLemmas.{wider_same, site_wider, sent_wider, all_map, all_pushed}
use Rattle.dg_rules.proofs.EventLemmas.{EndsAs, ended_world, sent_unless, ends_as}
use Rattle.dg_rules.proofs.AgreementLemmas.{Laws, IsGood, good_room, AgreesEffect, AgreesDoes, here, agrees_does}

-- ---- steps

pub mote_within : (n : ℕ) (e : Event) → EventInRange n e → mote_of e < n
mote_within n (Tick m dt word) fits = fits
mote_within n (Hear m dt word number) fits = fits.0
mote_within n (Last from m dt word) fits = fits.second
mote_within n (Reset m dt word) fits = fits
mote_within n (Inject m image version dt word) fits = fits.0
mote_within n (OrderEvent m number image version dt word) fits = fits.0
mote_within n (Frame m dt word bytes) fits = fits.0

pub step_within : (w : World) (x : Step) → StepInRange (length w.sites) x → mote_of x.event < length w.sites
step_within w x fits = mote_within (length w.sites) x.event fits.event

-- one more frame was sent
sent_agrees : (u : World) (m : ℕ) (o : Option Message) → IfSome o (λ message. SentIsWell u.table (record { by = m; bytes = frame_of message })) → WorldAgrees u → WorldAgrees (and_sent u m o)
sent_agrees u m None is a = a
sent_agrees u m (Some message) is a = record {
  few = a.few;
  table = a.table;
  rows = a.rows;
  links = a.links;
  sites = a.sites;
  sent = all_pushed (SentIsWell u.table) u.sent (record { by = m; bytes = frame_of message }) a.sent is;
}

unless_cut : (P : Message → Type 0) (b : Bool) (d : EventEffect) → IfSome d.sent P → IfSome (sent_unless b d) P
unless_cut P true d p = tt
unless_cut P false d p = p

module _ (laws : Laws) (w : World) (x : Step) (v : World) (reports : List Report) (agrees : WorldAgrees w) (fits : StepInRange (length w.sites) x) where
  effect_agrees : (d : EventEffect) → AgreesEffect w (mote_of x.event) (dt_of x.event) d → StepDoes (Goes d) w x v reports → WorldAgrees v
  effect_agrees d g does_it =
      let m = mote_of x.event in
      let now = w.moment + dt_of x.event in
      let mid : World = record (counted w (dt_of x.event)) { table = d.table } in
      let here = Through-last (IsGood d.table) d.trail g.way in
      let P : Bool → Site → Type 0 = λ b y. SiteIsWell d.table m (wide_at w m) now y in
      let off : (s : Store) → IsGood d.table s → SiteIsWell d.table m (wide_at w m) now (off_site s) = λ s good. record { store = good.well; order = good.order; runs = tt } in
      let end : EndsAs P (blows x.cut d.trail) w x d v =
      ends_as P (λ s room y. off (record s { room = room }) (good_room d.table s room (record { well = y.store; order = y.order }))) w x d v reports
      (λ runs e. record { store = here.well; order = here.order; runs = g.mote runs e })
      (Through-map (IsGood d.table) (λ s. SiteIsWell d.table m (wide_at w m) now (off_site s)) off d.trail g.way) (blows x.cut d.trail) does_it in
      let within = step_within w x fits in
      let count : length (ended_world w x d end.0).sites ≡ length w.sites = site_count mid m end.0 in
      let moved : WorldAgrees (ended_world w x d end.0) = record {
        few = subst (λ (n : ℕ). n ≤ most_motes) (sym count) agrees.few;
        table = g.table;
        rows = agrees.rows;
        links = subst (λ (n : ℕ). AllByRecursion (LinkFits n) w.links) (sym count) agrees.links;
        sites = each_site (λ k y. SiteIsWell d.table k (wide_at w k) now y) mid m end.0 within end.2 (λ k less _. site_wider w.table d.table g.wider (laws.mote.later w.table) k (wide_at w k) w.moment now (site w k) (omega arith) (agrees.sites k less));
        sent = all_map (SentIsWell w.table) (SentIsWell d.table) (sent_wider w.table d.table g.wider) w.sent agrees.sent;
      } in
      subst WorldAgrees (sym end.1)
      (sent_agrees (ended_world w x d end.0) m (sent_unless (blows x.cut d.trail) d)
      (unless_cut (λ message. SentIsWell d.table (record { by = m; bytes = frame_of message })) (blows x.cut d.trail) d g.sent) moved)

  does_agrees : (D : Does) → AgreesDoes w (mote_of x.event) (dt_of x.event) D → StepDoes D w x v reports → WorldAgrees v
  does_agrees (Refuses why) g did =
      subst WorldAgrees (sym did.0)
      (record {
        few = agrees.few;
        table = agrees.table;
        rows = agrees.rows;
        links = agrees.links;
        sites = λ j low. site_wider w.table w.table (wider_same w.table) (laws.mote.later w.table) j (wide_at w j) w.moment (w.moment + dt_of x.event) (site w j) (omega arith) (agrees.sites j low);
        sent = agrees.sent;
      })
  does_agrees (Goes d) g did = effect_agrees d g did

  pub step_agrees : TrueEvent w x.event → WorldStep w x v reports → WorldAgrees v
  unfolding WorldStep
  step_agrees honest did = does_agrees (does w x.event) (agrees_does laws w agrees x.event fits.event honest) did

-- ---- declarations

declared_agrees : (w : World) (row : Row) (o : Option Row) → IsDeclared row → WorldAgrees w → WorldAgrees (declared_as o w row)
declared_agrees w row (Some kept) may agrees = agrees
declared_agrees w row None may agrees = record {
  few = agrees.few;
  table = agrees.table;
  rows = all_pushed IsDeclared w.declared row agrees.rows may;
  links = agrees.links;
  sites = agrees.sites;
  sent = agrees.sent;
}

pub declare_agrees : (w v : World) (row : Row) (reports : List Report) → WorldAgrees w → IsDeclared row → DeclareStep w row v reports → WorldAgrees v
declare_agrees w v row reports agrees may did = subst WorldAgrees (sym did.world) (declared_agrees w row (row_at w.declared row.image row.version) may agrees)

-- ---- stops

stop_good : (table : List Row) (t : Trail Store) (k : ℕ) (s : Store) → Through (IsGood table) t → Leaves IsNear t k s → Agrees table s
stop_good table t k s way left = (cut_holds (IsGood table) (good_room table) t k s way left).well.agrees

stop_agrees : (w : World) (m dt : ℕ) (old : Store) → IsGood w.table old → (D : Does) → AgreesDoes w m dt D → (k : ℕ) (s : Store) → Leaves IsNear (trail_of D old) k s → Agrees (table_of D w.table) s
stop_agrees w m dt old good (Refuses why) agrees k s left = stop_good w.table (resting old 0) k s (Through-resting (IsGood w.table) old 0 good) left
stop_agrees w m dt old good (Goes d) agrees k s left = stop_good d.table d.trail k s agrees.way left

pub stops_agree : Laws → (w : World) (e : Event) → WorldAgrees w → EventInRange (length w.sites) e → TrueEvent w e → StopsAgree w e
stops_agree laws w e agrees fits honest =
    let m = mote_of e in
    stop_agrees w m (dt_of e) (store_at w m) (here laws w agrees m (mote_within (length w.sites) e fits)) (does w e) (agrees_does laws w agrees e fits honest)
