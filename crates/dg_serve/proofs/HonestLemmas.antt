-- Over a link that exposes its inboxes, what waits there was sent by motes of the link, and so it is honest.
use Rattle.std.proofs.Common.{◌≡◌, true≢false, ℕ, zero, suc, true, List, [], ◌∷◌, ◌++◌, length, drop, map, get_or, set, replicate, refl, sym, ap, subst, ◌∙◌, inl, inr}
use Rattle.std.specs.Prelude.{Option, Some, None, option_map, IsSome, Result}
use Rattle.std.specs.List.{AllByRecursion}
use Rattle.dg_base.specs.declared.events.Event.{Event}
use Rattle.dg_base.specs.declared.events.Event.TheVariants.{Tick, Hear, Last, Reset, Inject, Order as OrderEvent, Frame}
use Rattle.dg_base.specs.declared.events.Step.{Step}
use Rattle.dg_frame.specs.declared.Message.{Message}
use Rattle.dg_frame.specs.declared.FrameFault.{FrameFault}
use Rattle.dg_link.specs.Inboxes.{Inboxes, inbox_of, emptied, delivered, TakesFrame}
use Rattle.dg_mote.specs.Agreement.{IsHonest, HonestMessage}
use Rattle.dg_object.specs.Object.{Row}
use Rattle.dg_volume.specs.Store.{Store}
use Rattle.dg_nor.specs.Trail.{last}
use Rattle.dg_rules.specs.World.{World, Running, Sent, site, store_at, with_site, counted}
use Rattle.dg_rules.specs.Events.{Does, Refuses, Goes, does, tick_does, hear_by, mote_of, dt_of}
use Rattle.dg_rules.specs.Steps.{WorldStep, StepDoes, and_sent}
use Rattle.dg_rules.specs.Runs.{Played, Plays}
use Rattle.dg_rules.specs.Begins.{HoldsTo, HoldsToThen, ItemHoldsTo}
use Rattle.dg_rules.specs.Premises.{WorldAgrees, SentIsWell, TrueEvent, HonestEvent}
use Rattle.dg_rules.proofs.StepLemmas.{step_count}
use Rattle.dg_script.specs.Items.{Item}
use Rattle.dg_script.specs.Ranges.{EventInRange, StepInRange}
use Rattle.dg_script.specs.declared.report.Report.{Report}
use Rattle.dg_world.specs.Alone.{IsAlone, uncut}
use Rattle.dg_serve.specs.Services.{Part, Begins, Looks, Ticks, Moment, Steps, EventApplied, PartDone, PartsDone, handed_to, handed, neighbours, new_frames}
use Rattle.dg_serve.specs.Endings.{TakesFor, event_of}
use Rattle.dg_serve.specs.inner.Runs.{event_item, served_item}
use Rattle.dg_serve.proofs.AnyLemmas.{first_is, others_are, none_is_some, stepped_by}
use Rattle.dg_serve.proofs.RunLemmas.{PartFits, all_both}

-- ---- lists

all_at : {A : Type 0} (P : A → Type 0) (xs : List A) (i : ℕ) (d : A) → P d → AllByRecursion P xs → P (get_or xs i d)
all_at P [] i d none h = none
all_at P (x ∷ xs) zero d none h = h.0
all_at P (x ∷ xs) (suc i) d none h = all_at P xs i d none h.1

all_with : {A : Type 0} (P : A → Type 0) (xs : List A) (i : ℕ) (x : A) → P x → AllByRecursion P xs → AllByRecursion P (set xs i x)
all_with P [] i x here h = tt
all_with P (y ∷ ys) zero x here h = (here, h.1)
all_with P (y ∷ ys) (suc i) x here h = (h.0, all_with P ys i x here h.1)

all_drop : {A : Type 0} (P : A → Type 0) (n : ℕ) (xs : List A) → AllByRecursion P xs → AllByRecursion P (drop n xs)
all_drop P zero xs h = h
all_drop P (suc n) [] h = tt
all_drop P (suc n) (x ∷ xs) h = all_drop P n xs h.1

all_like : {A : Type 0} (P : A → Type 0) (n : ℕ) (x : A) → P x → AllByRecursion P (replicate n x)
all_like P zero x here = tt
all_like P (suc n) x here = (here, all_like P n x here)

-- ---- what waits

-- every frame in an inbox is honest by the table
abbrev pub InboxHonest : List Row → List (List ℕ) → Type 0
InboxHonest table frames = AllByRecursion (IsHonest table) frames

abbrev pub BoxesHonest : List Row → Inboxes → Type 0
BoxesHonest table boxes = AllByRecursion (InboxHonest table) boxes.frames

-- the inboxes are exposed, and every frame in them is honest
abbrev pub WaitsHonest : List Row → Option Inboxes → Type 0
WaitsHonest table None = ⊥
WaitsHonest table (Some boxes) = BoxesHonest table boxes

pub none_waits : (table : List Row) (motes : ℕ) (told : Option Inboxes) → IsSome told → WaitsHonest table (option_map (emptied motes) told)
none_waits table motes None some = absurd (true≢false (sym some))
none_waits table motes (Some boxes) some = all_like (InboxHonest table) motes [] tt

inbox_honest : (table : List Row) (boxes : Inboxes) (mote : ℕ) → BoxesHonest table boxes → InboxHonest table (inbox_of boxes mote)
inbox_honest table boxes mote h = all_at (InboxHonest table) boxes.frames mote [] tt h

pub taken_honest : (table : List Row) (mote : ℕ) (bytes : List ℕ) (before after : Option Inboxes) → WaitsHonest table before → TakesFrame mote bytes before after → IsHonest table bytes × WaitsHonest table after
taken_honest table mote bytes None after waits takes = absurd waits
taken_honest table mote bytes (Some boxes) after waits takes =
    let all : InboxHonest table (bytes ∷ takes.0) = subst (InboxHonest table) takes.1 (inbox_honest table boxes mote waits) in
    (all.0, subst (WaitsHonest table) (sym takes.2) (all_with (InboxHonest table) boxes.frames mote takes.0 all.1 waits))

delivered_honest : (table : List Row) (mote : ℕ) (frame : List ℕ) (boxes : Inboxes) → IsHonest table frame → BoxesHonest table boxes → BoxesHonest table (delivered mote frame boxes)
delivered_honest table mote frame boxes honest h =
    let frames = inbox_of boxes mote ++ frame ∷ [] in
    all_with (InboxHonest table) boxes.frames mote _ (all_drop (IsHonest table) _ frames (all_both (IsHonest table) (inbox_of boxes mote) (frame ∷ []) (inbox_honest table boxes mote h) (honest, tt))) h

handed_honest : (table : List Row) (motes : List ℕ) (frame : List ℕ) (boxes : Inboxes) → IsHonest table frame → BoxesHonest table boxes → BoxesHonest table (handed_to motes frame boxes)
handed_honest table [] frame boxes honest h = h
handed_honest table (m ∷ ms) frame boxes honest h = handed_honest table ms frame (delivered m frame boxes) honest (delivered_honest table m frame boxes honest h)

sent_honest : (table : List Row) (f : Sent) → SentIsWell table f → IsHonest table f.bytes
sent_honest table f w = subst (λ (m : Result Message FrameFault). HonestMessage table m) (sym w.spelled) w.honest

all_handed : (table : List Row) (w : World) (motes : ℕ) (fs : List Sent) (boxes : Inboxes) → AllByRecursion (SentIsWell table) fs → BoxesHonest table boxes → BoxesHonest table (handed w motes fs boxes)
all_handed table w motes [] boxes well h = h
all_handed table w motes (f ∷ fs) boxes well h =
    all_handed table w motes fs (handed_to (neighbours w motes f.by) f.bytes boxes) well.1 (handed_honest table (neighbours w motes f.by) f.bytes boxes (sent_honest table f well.0) h)

told_handed : (table : List Row) (w : World) (motes : ℕ) (fs : List Sent) (told : Option Inboxes) → AllByRecursion (SentIsWell table) fs → WaitsHonest table told → WaitsHonest table (option_map (handed w motes fs) told)
told_handed table w motes fs None well h = h
told_handed table w motes fs (Some boxes) well h = all_handed table w motes fs boxes well h

-- ---- no event of a service changes the table

table_of : List Row → Does → List Row
table_of old (Refuses why) = old
table_of old (Goes d) = d.table

ticked_table : (w : World) (s : Store) (o : Option Running) (now word : ℕ) → table_of w.table (tick_does w s o now word) ≡ w.table
unfolding table_of
ticked_table w s None now word = refl
ticked_table w s (Some r) now word = refl

heard_table : (w : World) (s : Store) (o : Option Running) (now word : ℕ) (bytes : List ℕ) → table_of w.table (hear_by w s o now word bytes) ≡ w.table
unfolding table_of
heard_table w s None now word bytes = refl
heard_table w s (Some r) now word bytes = refl

does_table : (w : World) (event : Event) → IsAlone event → table_of w.table (does w event) ≡ w.table
unfolding does table_of
does_table w (Tick m dt word) alone = ticked_table w (store_at w m) (site w m).runs _ word
does_table w (Reset m dt word) alone = refl
does_table w (Frame m dt word bytes) alone = heard_table w (store_at w m) (site w m).runs _ word bytes
does_table w (Hear m dt word frame) alone = absurd alone
does_table w (Last from to dt word) alone = absurd alone
does_table w (Inject m image version dt word) alone = absurd alone
does_table w (OrderEvent m number image version dt word) alone = absurd alone

sent_table : (w : World) (m : ℕ) (sent : Option Message) → (and_sent w m sent).table ≡ w.table
sent_table w m None = refl
sent_table w m (Some message) = refl

done_table : (w v : World) (event : Event) (D : Does) (reports : List Report) → StepDoes D w (uncut event) v reports → v.table ≡ table_of w.table D
unfolding table_of
done_table w v event (Refuses why) reports did = ap (λ (u : World). u.table) did.0
done_table w v event (Goes d) reports did =
    let mid : World = with_site (record (counted w (dt_of event)) { table = d.table }) (mote_of event) (record { store = last d.trail; runs = did.0 }) in
    ap (λ (u : World). u.table) did.2 ∙ sent_table mid (mote_of event) d.sent

pub alone_table : (w v : World) (event : Event) (reports : List Report) → IsAlone event → WorldStep w (uncut event) v reports → v.table ≡ w.table
unfolding WorldStep
alone_table w v event reports alone step = done_table w v event (does w event) reports step ∙ does_table w event alone

-- ---- from moment to moment

-- what is known of steps
abbrev pub KeepsAgreement : Type 0
KeepsAgreement = (w v : World) (x : Step) (reports : List Report) → WorldAgrees w → StepInRange (length w.sites) x → TrueEvent w x.event → WorldStep w x v reports → WorldAgrees v

pub record IsHonestSo (table : List Row) (motes : ℕ) (s : Moment) : Type 0 where
  pub agrees : WorldAgrees s.world
  pub same : s.world.table ≡ table
  pub count : length s.world.sites ≡ motes
  pub waits : WaitsHonest table s.inboxes

-- an event of a service, which is honest
abbrev pub HonestAlone : List Row → Event → Type 0
HonestAlone table event = IsAlone event × HonestEvent table event

true_event : (table : List Row) (w : World) (event : Event) → w.table ≡ table → HonestAlone table event → TrueEvent w event
true_event table w (Tick m dt word) same h = tt
true_event table w (Reset m dt word) same h = tt
true_event table w (Frame m dt word bytes) same h = subst (λ (rows : List Row). IsHonest rows bytes) (sym same) h.1
true_event table w (Hear m dt word frame) same h = tt
true_event table w (Last from to dt word) same h = tt
true_event table w (Inject m image version dt word) same h = absurd h.0
true_event table w (OrderEvent m number image version dt word) same h = tt

holds_event : (table : List Row) (w : World) (event : Event) → w.table ≡ table → HonestAlone table event → HoldsTo table w event
holds_event table w (Tick m dt word) same h = tt
holds_event table w (Reset m dt word) same h = tt
holds_event table w (Frame m dt word bytes) same h = subst (λ (rows : List Row). IsHonest rows bytes) (sym same) h.1
holds_event table w (Hear m dt word frame) same h = tt
holds_event table w (Last from to dt word) same h = tt
holds_event table w (Inject m image version dt word) same h = absurd h.0
holds_event table w (OrderEvent m number image version dt word) same h = tt

module _ (keeps : KeepsAgreement) (table : List Row) (motes : ℕ) where
  stepped : (s t : Moment) (event : Event) → IsHonestSo table motes s → EventInRange motes event → HonestAlone table event → Steps motes s event t → IsHonestSo table motes t
  stepped s t event h range honest steps =
      let in_range : StepInRange (length s.world.sites) (uncut event) = record { event = subst (λ (n : ℕ). EventInRange n event) (sym h.count) range; cut = tt } in
      let agrees : WorldAgrees t.world = keeps s.world t.world (uncut event) steps.reports h.agrees in_range (true_event table s.world event h.same honest) steps.step in
      let same : t.world.table ≡ table = alone_table s.world t.world event steps.reports honest.0 steps.step ∙ h.same in
      record {
        agrees = agrees;
        same = same;
        count = step_count s.world (uncut event) t.world steps.reports in_range steps.step ∙ h.count;
        waits = subst (WaitsHonest table) (sym steps.inboxes) (told_handed table t.world motes (new_frames s.world t.world) s.inboxes (all_drop (SentIsWell table) (length s.world.sent) t.world.sent (subst (λ (rows : List Row). AllByRecursion (SentIsWell rows) t.world.sent) same agrees.sent)) h.waits);
      }

  -- reading the clock changes nothing of this
  applied : (s t : Moment) (event : (dt word : ℕ) → Event) (es : List Event) → IsHonestSo table motes s → ((dt word : ℕ) → EventInRange motes (event dt word)) → ((dt word : ℕ) → HonestAlone table (event dt word)) → EventApplied motes s event es t → AllByRecursion (HonestAlone table) es × IsHonestSo table motes t
  applied s t event es h range honest a =
      let between : IsHonestSo table motes a.between = subst (IsHonestSo table motes) (sym a.reads.same) (record { agrees = h.agrees; same = h.same; count = h.count; waits = h.waits }) in
      (subst (AllByRecursion (HonestAlone table)) (sym a.one) (honest a.dt a.word, tt), stepped a.between t (event a.dt a.word) between (range a.dt a.word) (honest a.dt a.word) a.steps)

  part_honest : (part : Part) (s t : Moment) (es : List Event) → PartFits motes part → IsHonestSo table motes s → PartDone motes part s es t → AllByRecursion (HonestAlone table) es × IsHonestSo table motes t
  part_honest (Begins m) s t es fits h done = applied s t (λ dt word. Reset m dt word) es h (λ dt word. fits) (λ dt word. (tt, tt)) done
  part_honest (Ticks m) s t es fits h done = applied s t (λ dt word. Tick m dt word) es h (λ dt word. fits) (λ dt word. (tt, tt)) done
  part_honest (Looks m) s t es fits h (inl none) = (subst (AllByRecursion (HonestAlone table)) (sym none.1) tt, subst (IsHonestSo table motes) (sym none.2) h)
  part_honest (Looks m) s t es fits h (inr one) =
      let x = taken_honest table m one.bytes s.inboxes one.taken h.waits one.takes in
      applied (record s { inboxes = one.taken }) t (λ dt word. Frame m dt word one.bytes) es (record { agrees = h.agrees; same = h.same; count = h.count; waits = x.1 }) (λ dt word. (fits, one.fits)) (λ dt word. (tt, x.0)) one.heard

  pub parts_honest : (parts : List Part) (s t : Moment) (es : List Event) → AllByRecursion (PartFits motes) parts → IsHonestSo table motes s → PartsDone motes s parts es t → AllByRecursion (HonestAlone table) es × IsHonestSo table motes t
  unfolding PartsDone
  parts_honest [] s t es fits h done = (subst (AllByRecursion (HonestAlone table)) (sym done.0) tt, subst (IsHonestSo table motes) (sym done.1) h)
  parts_honest (part ∷ parts) s t es fits h done =
      let first = part_honest part s done.0 done.1 fits.0 h done.3 in
      let rest = parts_honest parts done.0 t done.2 fits.1 first.1 done.5 in
      (subst (AllByRecursion (HonestAlone table)) (sym done.4) (all_both (HonestAlone table) done.1 done.2 first.0 rest.0), rest.1)

  -- what the next part takes
  pub next_honest : (part : Part) (dt word : ℕ) (bytes : List ℕ) (s : Moment) (after : Option Inboxes) → IsHonestSo table motes s → TakesFor (event_of part dt word bytes) s.inboxes after → HoldsTo table s.world (event_of part dt word bytes)
  next_honest (Begins m) dt word bytes s after h takes = tt
  next_honest (Ticks m) dt word bytes s after h takes = tt
  next_honest (Looks m) dt word bytes s after h takes =
      holds_event table s.world (Frame m dt word bytes) h.same (tt, (taken_honest table m bytes s.inboxes after h.waits takes).0)

-- ---- what was played

pub played_honest : (table : List Row) (es : List Event) (ps : List Played) (u v : World) → map served_item ps ≡ map event_item es → Plays u ps v → u.table ≡ table → AllByRecursion (HonestAlone table) es → AllByRecursion (HoldsToThen table) ps
unfolding Plays
played_honest table es [] u v e plays same h = tt
played_honest table [] (p ∷ ps) u v e plays same h = absurd (none_is_some (served_item p) (map served_item ps) e)
played_honest table (x ∷ xs) (p ∷ ps) u v e plays same h =
    let item = first_is (served_item p) (event_item x) (map served_item ps) (map event_item xs) e in
    let did = stepped_by u p x plays.0 item plays.1 in
    let here : ItemHoldsTo table p.item p.before = subst (λ (i : Item). ItemHoldsTo table i p.before) (sym item) (subst (λ (w : World). HoldsTo table w x) (sym plays.0) (holds_event table u x same h.0)) in
    (here, played_honest table xs ps p.after v (others_are (served_item p) (event_item x) (map served_item ps) (map event_item xs) e) plays.2 (alone_table u p.after x did.0 h.0.0 did.1 ∙ same) h.1)
