-- In a step each version keeps its page count, and the lines compare what its mote kept with what it keeps.
use Rattle.std.proofs.Common.{◌≡◌, ℕ, ◌+◌, ◌<◌, ◌≤◌, ◌==◌, ◌&&◌, Bool, true, false, cond, List, [], ◌∷◌, ◌++◌, length, Option, Some, None, refl, sym, ap, subst, ◌∙◌, ⊎_elim}
use Rattle.std.specs.Prelude.{slice_index_or}
use Rattle.std.specs.List.{cons_option, filter}
use Rattle.std.proofs.lemmas.Bool.{cases_eq, cases_lt}
use Rattle.std.proofs.lemmas.List.{set_past}
use Rattle.dg_nor.specs.Trail.{last}
use Rattle.dg_nor.specs.Through.{Through}
use Rattle.dg_nor.proofs.ThroughLemmas.{Through-last}
use Rattle.dg_object.specs.Object.{Row}
use Rattle.dg_slot.specs.Kept.{Held}
use Rattle.dg_volume.specs.Sizes.{images}
use Rattle.dg_volume.specs.Store.{Store, held}
use Rattle.dg_volume.specs.Table.{row_at}
use Rattle.dg_volume.specs.declared.volume.StartCause.TheVariants as cause
use Rattle.dg_frame.specs.declared.Message.{Message}
use Rattle.dg_base.specs.declared.events.Event.{Event}
use Rattle.dg_base.specs.declared.events.Step.{Step}
use Rattle.dg_script.specs.Items.{Item, Declares, Applies}
use Rattle.dg_script.specs.declared.report.Report.{Report}
use Rattle.dg_script.specs.declared.report.Report.TheVariants.{Have, Off}
use Rattle.dg_rules.specs.World.{World, Site, no_site, store_at, with_site}
use Rattle.dg_rules.specs.Events.{EventEffect, Does, Refuses, Goes, does, mote_of}
use Rattle.dg_rules.specs.Steps.{blows, before_cut, and_sent, Ended, StepDoes, WorldStep, declared_as, DeclareStep}
use Rattle.dg_rules.specs.Changes.{same_held, have_change, changes, start_line, sent_line}
use Rattle.dg_rules.specs.Runs.{ItemStep}
use Rattle.dg_rules.proofs.SiteLemmas.{site_there, site_other}
use Rattle.dg_rules.proofs.ThroughLemmas.{cut_holds}
use Rattle.dg_rules.proofs.EventLemmas.{order_of, does_cases, all_sent}
use Rattle.dg_rules.proofs.ChangesLemmas.{StepLaws}
use Rattle.dg_events.specs.HaveLines.{KeepsPageCounts, PageCountsStay, is_held_line}
use Rattle.dg_events.proofs.PageCountLemmas.{stays, inject_way, order_way, boot_way, tick_way, heard_way}
use Rattle.dg_events.proofs.LineLemmas.{equal, change_line, no_line, after_lines, start_quiet, sent_quiet, reported_lines}

-- ---- events

abbrev Stays : Store → Does → Type 0
Stays s (Refuses why) = Unit {0}
Stays s (Goes d) = Through (λ t. KeepsPageCounts s t) d.trail

does_stays : StepLaws → (w : World) (e : Event) → Stays (store_at w (mote_of e)) (does w e)
does_stays laws w =
    does_cases laws.restarts w (λ f. Unit {0}) (all_sent w.sent) (λ e D. Stays (store_at w (mote_of e)) D)
    (λ e why. tt)
    (λ m dt word r is. tick_way laws.changes r.mote (store_at w m) (w.moment + dt) word)
    (λ m dt word r is waits. boot_way laws cause.Order (store_at w m))
    (λ m dt word. boot_way laws cause.Power (store_at w m))
    (λ m dt word number f r is at q. heard_way laws.changes r.mote (store_at w m) (w.moment + dt) word f.bytes)
    (λ from m dt word f r is at q. heard_way laws.changes r.mote (store_at w m) (w.moment + dt) word f.bytes)
    (λ m dt word bytes r is. heard_way laws.changes r.mote (store_at w m) (w.moment + dt) word bytes)
    (λ m image version dt word row known none. inject_way (store_at w m) row)
    (λ m number image version dt word none. order_way (store_at w m) (order_of number image version))

-- ---- steps

-- What a step makes of what its mote keeps: the mote turns to this store, if there is such a mote, and the line of each image
-- tells what changed of it.
pub record Turns (w : World) (m : ℕ) (v : World) (lines : List Report) : Type 0 where
  pub new : Store
  pub keeps : KeepsPageCounts (store_at w m) new
  pub there : m < length w.sites → store_at v m ≡ new
  pub past : length w.sites ≤ m → store_at v m ≡ store_at w m
  pub others : (j : ℕ) → (j ≡ m → ⊥) → store_at v j ≡ store_at w j
  pub line : (i : ℕ) → i < images → filter (is_held_line i) lines ≡ cons_option (have_change m i (held (store_at w m) i) (held new i)) []
  pub no_line : (i : ℕ) → images ≤ i → filter (is_held_line i) lines ≡ []

-- an image of which nothing changes
no_change : (m i : ℕ) (o : Option Held) → have_change m i o o ≡ None
no_change m i None = refl
no_change m i (Some h) = by (same_held (Some h) h) (both (h.version == h.version) (length h.complete == length h.complete) (equal h.version h.version refl) (equal (length h.complete) (length h.complete) refl))
  where
    both : (a b : Bool) → a ≡ true → b ≡ true → (a && b) ≡ true
    both a b p q = cc

    by : (b : Bool) → b ≡ true → cond b None (Some (Have m i h.version (length h.complete))) ≡ None
    by true is = refl
    by false is = absurd cc

sent_store : (u : World) (m j : ℕ) (o : Option Message) → store_at (and_sent u m o) j ≡ store_at u j
sent_store u m j None = refl
sent_store u m j (Some message) = refl

module _ (w : World) (m : ℕ) (v : World) (lines : List Report) where
  site_turns : (y : Site) → ((j : ℕ) → store_at v j ≡ store_at (with_site w m y) j) → KeepsPageCounts (store_at w m) y.store
      → ((i : ℕ) → filter (is_held_line i) lines ≡ filter (is_held_line i) (changes m (store_at w m) y.store)) → Turns w m v lines
  site_turns y turned keeps told = record {
    new = y.store;
    keeps = keeps;
    there = λ low. turned m ∙ ap (λ (x : Site). x.store) (site_there w m y low);
    past = λ high. turned m ∙ ap (λ (xs : List Site). (slice_index_or xs m no_site).store) (set_past w.sites m y high);
    others = λ j other. turned j ∙ ap (λ (x : Site). x.store) (site_other w m j y other);
    line = λ i known. told i ∙ change_line m i (store_at w m) y.store known;
    no_line = λ i past. told i ∙ no_line m i (store_at w m) y.store past;
  }

  same_turns : ((j : ℕ) → store_at v j ≡ store_at w j) → ((i : ℕ) → filter (is_held_line i) lines ≡ []) → Turns w m v lines
  same_turns same none = record {
    new = store_at w m;
    keeps = stays (store_at w m) (store_at w m) refl;
    there = λ low. same m;
    past = λ high. same m;
    others = λ j other. same j;
    line = λ i known. none i ∙ sym (ap (λ (o : Option Report). cons_option o []) (no_change m i (held (store_at w m) i)));
    no_line = λ i past. none i;
  }

module _ (w : World) (x : Step) (v : World) (lines : List Report) where
  abbrev M : ℕ
  M = mote_of x.event

  ended_turns : (d : EventEffect) → Through (λ t. KeepsPageCounts (store_at w M) t) d.trail → (b : Bool) → Ended b w x d v lines → Turns w M v lines
  ended_turns d through true cut =
      site_turns w M v lines (record { store = cut.store; runs = None }) (λ j. ap (λ (u : World). store_at u j) cut.world)
      (cut_holds (λ t. KeepsPageCounts (store_at w M) t) (λ t room k. record { same = k.same }) d.trail (before_cut x.cut) cut.store through cut.allowed)
      (λ i. ap (λ (rs : List Report). filter (is_held_line i) rs) cut.report ∙ after_lines M i (changes M (store_at w M) cut.store) (Off M ∷ []) refl)
  ended_turns d through false done =
      let s = store_at w M in
      let told = changes M s (last d.trail) in
      site_turns w M v lines (record { store = last d.trail; runs = done.0 }) (λ j. ap (λ (u : World). store_at u j) done.2 ∙ sent_store _ M j d.sent)
      (Through-last (λ t. KeepsPageCounts s t) d.trail through)
      (λ i. ap (λ (rs : List Report). filter (is_held_line i) rs) done.3
      ∙ after_lines M i (told ++ start_line M d.started) (sent_line M d.sent) (sent_quiet M i d.sent)
      ∙ after_lines M i told (start_line M d.started) (start_quiet M i d.started))

  does_turns : (D : Does) → Stays (store_at w M) D → StepDoes D w x v lines → Turns w M v lines
  does_turns (Refuses why) s did =
      same_turns w M v lines (λ j. ap (λ (u : World). store_at u j) did.0) (λ i. ap (λ (rs : List Report). filter (is_held_line i) rs) did.1)
  does_turns (Goes d) s did = ended_turns d s (blows x.cut d.trail) did

  step_turns : StepLaws → WorldStep w x v lines → Turns w M v lines
  unfolding WorldStep
  step_turns laws did = does_turns (does w x.event) (does_stays laws w x.event) did

pub item_turns : StepLaws → (w : World) (x : Step) (reported : Bool) (v : World) (lines : List Report) → ItemStep w (Applies x reported) v lines → Turns w (mote_of x.event) v lines
item_turns laws w x reported v lines did =
    let t = step_turns w x v did.0 laws did.1 in
    let told : (i : ℕ) → filter (is_held_line i) lines ≡ filter (is_held_line i) did.0 =
    λ i. ap (λ (rs : List Report). filter (is_held_line i) rs) did.2 ∙ reported_lines i reported did.0 in
    record {
      new = t.new;
      keeps = t.keeps;
      there = t.there;
      past = t.past;
      others = t.others;
      line = λ i known. told i ∙ t.line i known;
      no_line = λ i past. told i ∙ t.no_line i past;
    }

-- ---- page counts

pub turned_counts : (w : World) (m : ℕ) (v : World) (lines : List Report) → Turns w m v lines → PageCountsStay w v
turned_counts w m v lines t j =
    ⊎_elim
    (λ same. subst (λ (k : ℕ). KeepsPageCounts (store_at w k) (store_at v k)) (sym same)
    (⊎_elim
    (λ low. subst (λ (s : Store). KeepsPageCounts (store_at w m) s) (sym (t.there low)) t.keeps)
    (λ high. stays (store_at w m) (store_at v m) (ap (λ (s : Store). s.kept) (t.past high)))
    (cases_lt m (length w.sites))))
    (λ other. stays (store_at w j) (store_at v j) (ap (λ (s : Store). s.kept) (t.others j other)))
    (cases_eq j m)

declared_as_store : (o : Option Row) (w : World) (row : Row) (m : ℕ) → store_at (declared_as o w row) m ≡ store_at w m
declared_as_store None w row m = refl
declared_as_store (Some kept) w row m = refl

pub declared_store : (w : World) (row : Row) (v : World) (lines : List Report) → DeclareStep w row v lines → (m : ℕ) → store_at v m ≡ store_at w m
declared_store w row v lines did m =
    ap (λ (u : World). store_at u m) did.world ∙ declared_as_store (row_at w.declared row.image row.version) w row m

pub item_counts : StepLaws → (w : World) (item : Item) (v : World) (lines : List Report) → ItemStep w item v lines → PageCountsStay w v
item_counts laws w (Applies x reported) v lines did = turned_counts w (mote_of x.event) v lines (item_turns laws w x reported v lines did)
item_counts laws w (Declares row) v lines did = λ m. stays (store_at w m) (store_at v m) (ap (λ (s : Store). s.kept) (declared_store w row v lines did m))
