-- What a step changes in a world, in all fields but the motes.
use Rattle.std.proofs.Common.{◌≡◌, ⊎_elim, inl, inr, ℕ, ◌+◌, ◌≤◌, ◌==◌, Bool, true, false, if◌then◌else◌, List, [], ◌∷◌, ◌++◌, length, Option, Some, None, refl, sym, ap, subst, ◌∙◌}
use Rattle.dg_base.specs.declared.events.Event.{Event}
use Rattle.dg_base.specs.declared.events.Event.TheVariants.{Tick, Hear, Last, Reset, Inject, Order as OrderEvent, Frame}
use Rattle.dg_base.specs.declared.events.Step.{Step}
use Rattle.dg_control.specs.declared.snapshot.Order.{Order}
use Rattle.dg_frame.specs.Spelling.{frame_of}
use Rattle.dg_frame.specs.declared.Message.{Message}
use Rattle.dg_object.specs.Object.{Row}
use Rattle.dg_volume.specs.Changes.{inject_refusal, order_refusal}
use Rattle.dg_volume.specs.Store.{Store}
use Rattle.dg_volume.specs.Table.{row_at, with_row}
use Rattle.dg_volume.specs.declared.volume.InjectFault.{InjectFault}
use Rattle.dg_volume.specs.declared.volume.OrderFault.{OrderFault}
use Rattle.dg_script.specs.declared.report.Cause.TheVariants as cause
use Rattle.dg_script.specs.declared.report.Report.{Report}
use Rattle.dg_rules.specs.Events.{EventEffect, Does, Refuses, Goes, does, mote_of, dt_of, tick_does, hear_by, heard_sent, heard_last, unless_off, inject_row, inject_unless, injects, order_unless, orders, knows}
use Rattle.dg_rules.specs.Steps.{WorldStep, StepDoes, Ended, blows, and_sent}
use Rattle.dg_rules.specs.World.{World, Running, Site, Sent, site, store_at, wide_at, linked, frame_at, last_frame, counted, with_site}
use Rattle.dg_rules.proofs.SiteLemmas.{site_count}
use Rattle.dg_rules.proofs.TableLemmas.{row_at-own, row_at-of_with_row}
use Rattle.dg_rehearse.specs.Rehearsed.{OnlyDeclared, SendsAtMost}

-- ---- the table

abbrev Known : List Row → List Row → Type 0
Known table declared = (image version : ℕ) (row : Row) → 1 ≤ image → row_at table image version ≡ Some row → row_at declared image version ≡ Some row

abbrev KnownDoes : World → Does → Type 0
KnownDoes w (Refuses why) = Unit {0}
KnownDoes w (Goes d) = Known d.table w.declared

module _ (w : World) (known : OnlyDeclared w) where
  either : (b : Bool) (D E : Does) → KnownDoes w D → KnownDoes w E → KnownDoes w (if b then D else E)
  either true D E h k = h
  either false D E h k = k

  tick : (s : Store) (runs : Option Running) (now word : ℕ) → KnownDoes w (tick_does w s runs now word)
  tick s None now word = tt
  tick s (Some r) now word = known

  hear : (s : Store) (runs : Option Running) (now word : ℕ) (bytes : List ℕ) → KnownDoes w (hear_by w s runs now word bytes)
  hear s None now word bytes = tt
  hear s (Some r) now word bytes = known

  heard : (m now word : ℕ) (f : Option Sent) → KnownDoes w (heard_sent w m now word f)
  heard m now word None = tt
  heard m now word (Some f) = either (linked w f.by m) (hear_by w (store_at w m) (site w m).runs now word f.bytes) (Refuses cause.Link) (hear (store_at w m) (site w m).runs now word f.bytes) tt

  last_heard : (from to now word : ℕ) (f : Option Sent) → KnownDoes w (heard_last w from to now word f)
  last_heard from to now word None = tt
  last_heard from to now word (Some f) = hear (store_at w to) (site w to).runs now word f.bytes

  unless : (runs : Option Running) (D : Does) → KnownDoes w D → KnownDoes w (unless_off runs D)
  unless None D h = tt
  unless (Some r) D h = h

  row_known : (row : Row) (image version : ℕ) → row_at w.declared image version ≡ Some row → Known (with_row w.table row) w.declared
  row_known row image version here i v r low e =
      ⊎_elim
      (λ new. ap (λ n. row_at w.declared n v) (sym new.1) ∙ ap (row_at w.declared row.image) (sym new.2) ∙ row_at-own w.declared image version row here ∙ ap (λ (x : Row). Some x) (sym new.0))
      (λ old. known i v r low old)
      (row_at-of_with_row w.table row r i v e)

  unless_refused : (fault : Option InjectFault) (m : ℕ) (row : Row) (now word : ℕ) → Known (with_row w.table row) w.declared → KnownDoes w (inject_unless fault w m row now word)
  unless_refused None m row now word h = h
  unless_refused (Some fault) m row now word h = tt

  injected : (m image version now word : ℕ) (o : Option Row) → row_at w.declared image version ≡ o → KnownDoes w (inject_row w m o now word)
  injected m image version now word None e = tt
  injected m image version now word (Some row) e = unless_refused (inject_refusal (store_at w m) row) m row now word (row_known row image version e)

  unless_old : (fault : Option OrderFault) (m : ℕ) (order : Order) (now word : ℕ) → KnownDoes w (order_unless fault w m order now word)
  unless_old None m order now word = known
  unless_old (Some fault) m order now word = tt

  known_does : (e : Event) → KnownDoes w (does w e)
  unfolding does
  known_does (Tick m dt word) = tick (store_at w m) (site w m).runs (w.moment + dt) word
  known_does (Hear m dt word frame) = unless (site w m).runs (heard_sent w m (w.moment + dt) word (frame_at w frame)) (heard m (w.moment + dt) word (frame_at w frame))
  known_does (Last from to dt word) =
      unless (site w to).runs (if linked w from to then heard_last w from to (w.moment + dt) word (last_frame w from) else Refuses cause.Link)
      (either (linked w from to) (heard_last w from to (w.moment + dt) word (last_frame w from)) (Refuses cause.Link) (last_heard from to (w.moment + dt) word (last_frame w from)) tt)
  known_does (Reset m dt word) = known
  known_does (Inject m image version dt word) =
      either (knows (wide_at w m) image) (injects w m image version (w.moment + dt) word) (Refuses cause.Image)
      (either (image == 0) (Refuses cause.Reserved) (inject_row w m (row_at w.declared image version) (w.moment + dt) word) tt (injected m image version (w.moment + dt) word (row_at w.declared image version) refl)) tt
  known_does (OrderEvent m number image version dt word) =
      let order : Order = record { number = number; image = image; version = version } in
      either (knows (wide_at w m) image) (orders w m order (w.moment + dt) word) (Refuses cause.Image) (unless_old (order_refusal (store_at w m) order) m order (w.moment + dt) word) tt
  known_does (Frame m dt word bytes) = hear (store_at w m) (site w m).runs (w.moment + dt) word bytes

-- ---- all fields but the motes

record Plainly (w : World) (x : Step) (v : World) : Type 0 where
  pub count : length v.sites ≡ length w.sites
  pub events : v.events ≡ w.events + 1
  pub moment : v.moment ≡ w.moment + dt_of x.event
  pub links : v.links ≡ w.links
  pub declared : v.declared ≡ w.declared
  pub table : OnlyDeclared w → OnlyDeclared v

pub record Next (w : World) (x : Step) (v : World) : Type 0 where
  pub count : length v.sites ≡ length w.sites
  pub events : v.events ≡ w.events + 1
  pub moment : v.moment ≡ w.moment + dt_of x.event
  pub links : v.links ≡ w.links
  pub declared : v.declared ≡ w.declared
  pub table : OnlyDeclared w → OnlyDeclared v
  pub sent : SendsAtMost (mote_of x.event) w.sent v.sent

silent : (w : World) (x : Step) (v : World) → Plainly w x v → v.sent ≡ w.sent → Next w x v
silent w x v p e = record { count = p.count; events = p.events; moment = p.moment; links = p.links; declared = p.declared; table = p.table; sent = inl e }

sent_then : (w : World) (x : Step) (v : World) (o : Option Message) → Plainly w x v → v.sent ≡ w.sent → Next w x (and_sent v (mote_of x.event) o)
sent_then w x v None p e = silent w x v p e
sent_then w x v (Some message) p e = record {
  count = p.count;
  events = p.events;
  moment = p.moment;
  links = p.links;
  declared = p.declared;
  table = p.table;
  sent = inr (frame_of message, ap (λ (l : List Sent). l ++ record { by = mote_of x.event; bytes = frame_of message } ∷ []) e);
}

ended : (blown : Bool) (w : World) (x : Step) (d : EventEffect) (v : World) (reports : List Report) → (OnlyDeclared w → Known d.table w.declared) → Ended blown w x d v reports → Next w x v
ended true w x d v reports known cut =
    let mid : World = record (counted w (dt_of x.event)) { table = d.table } in
    let y : Site = record { store = cut.store; runs = None } in
    subst (λ (u : World). Next w x u) (sym cut.world)
    (silent w x (with_site mid (mote_of x.event) y) (record { count = site_count mid (mote_of x.event) y; events = refl; moment = refl; links = refl; declared = refl; table = known }) refl)
ended false w x d v reports known (runs, found, world, told) =
    let mid : World = record (counted w (dt_of x.event)) { table = d.table } in
    subst (λ (u : World). Next w x u) (sym world)
    (sent_then w x _ d.sent (record { count = site_count mid (mote_of x.event) _; events = refl; moment = refl; links = refl; declared = refl; table = known }) refl)

did : (D : Does) (w : World) (x : Step) (v : World) (reports : List Report) → (OnlyDeclared w → KnownDoes w D) → StepDoes D w x v reports → Next w x v
did (Refuses why) w x v reports known step =
    subst (λ (u : World). Next w x u) (sym step.0) (silent w x (counted w (dt_of x.event)) (record { count = refl; events = refl; moment = refl; links = refl; declared = refl; table = λ k. k }) refl)
did (Goes d) w x v reports known step = ended (blows x.cut d.trail) w x d v reports known step

pub step_next : (w : World) (x : Step) (v : World) (reports : List Report) → WorldStep w x v reports → Next w x v
unfolding WorldStep
step_next w x v reports step = did (does w x.event) w x v reports (λ known. known_does w known x.event) step
