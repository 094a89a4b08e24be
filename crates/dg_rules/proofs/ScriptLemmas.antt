-- What holds of all that is played, from the worlds in which scripts begin.
use Rattle.std.proofs.Common.{◌≡◌, ℕ, zero, suc, ◌-◌, ◌<◌, ◌≤◌, Bool, List, [], ◌∷◌, ◌++◌, length, replicate, get_or, Option, Some, None, IfSome, refl, sym, ap, subst, ◌∙◌, ⊎_elim, inl, arith}
use Rattle.std.specs.List.{AllByRecursion}
use Rattle.std.proofs.Math.ListN.{get_or-map}
use Rattle.std.proofs.Math.Seq.{take-length}
use Rattle.std.proofs.lemmas.List.{get_or-replicate, length-map, length-replicate}
use Rattle.dg_object.specs.Object.{Row, IsRow, object}
use Rattle.dg_slot.specs.Kept.{Held}
use Rattle.dg_volume.specs.Sizes.{images}
use Rattle.dg_volume.specs.Store.{Store, held, golden_row, fresh}
use Rattle.dg_volume.specs.Table.{row_at}
use Rattle.dg_volume.specs.Agreement.{KeepsRow, Agrees}
use Rattle.dg_frame.specs.declared.Message.{Message}
use Rattle.dg_rules.specs.Sizes.{most_motes}
use Rattle.dg_rules.specs.World.{World, Site, site, is_wide_mote, counted, off_site, first_world}
use Rattle.dg_rules.specs.Events.{Does, Refuses, Goes, does, mote_of, dt_of}
use Rattle.dg_rules.specs.Steps.{blows, and_sent, StepDoes, WorldStep, declared_as}
use Rattle.dg_script.specs.Ranges.{IsDeclared, EventInRange, StepInRange}
use Rattle.dg_rules.specs.Premises.{LinkFits, SiteIsWell, WorldAgrees, ItemInRange, PlayedInRange, HonestEvent, HonestItem, IsHonestThen, TrueEvent, TrueItem, IsTrueThen, AllOff}
use Rattle.dg_rules.specs.Begins.{PlaysFrom}
use Rattle.dg_rules.specs.Golden.{SiteKeepsGolden, WorldKeepsGolden, FindsImage, GoldenNetwork, network_world, PlaysGolden}
use Rattle.dg_script.specs.Items.{Item, Declares, Applies}
use Rattle.dg_rules.specs.Runs.{Played, ItemStep, Plays}
use Rattle.dg_base.specs.declared.events.Event.{Event}
use Rattle.dg_base.specs.declared.events.Event.TheVariants.{Tick, Hear, Last, Reset, Inject, Order as OrderEvent, Frame as FrameEvent}
use Rattle.dg_base.specs.declared.events.Step.{Step}
use Rattle.dg_script.specs.declared.report.Report.{Report}
use Rattle.dg_rules.proofs.ThroughLemmas.{Through-each}
use Rattle.dg_rules.proofs.TableLemmas.{row_at-image_version, row_at-each, row_at-own, row_at-cons, row_at-of_with_row, row_at-push, IsTable-one, not_none, same_some}
use Rattle.dg_rules.proofs.WiderLemmas.{all_pushed}
use Rattle.dg_rules.proofs.SiteLemmas.{site_count}
use Rattle.dg_rules.proofs.EventLemmas.{RestartLaws, does_cases, all_sent, EndsAs, ended_world, sent_unless, ends_as}
use Rattle.dg_rules.proofs.PlayLemmas.{Ended, plays, all_then, all_both}
use Rattle.dg_rules.proofs.SoundLemmas.{At, declared_sites}

-- ---- the table has no rows except golden and declared ones

abbrev KnownRows : List Row → List Row → Type 0
KnownRows table declared = (image version : ℕ) (row : Row) → 1 ≤ image → row_at table image version ≡ Some row → row_at declared image version ≡ Some row

abbrev KnownDoes : World → Does → Type 0
KnownDoes w (Refuses why) = Unit {0}
KnownDoes w (Goes d) = KnownRows d.table w.declared

known_does : RestartLaws → (w : World) → KnownRows w.table w.declared → (e : Event) → KnownDoes w (does w e)
known_does restarts w known =
    does_cases restarts w (λ f. Unit {0}) (all_sent w.sent) (λ e D. KnownDoes w D)
    (λ e why. tt)
    (λ m dt word r on. known)
    (λ m dt word r on waits. known)
    (λ m dt word. known)
    (λ m dt word number f r on at q. known)
    (λ from m dt word f r on at q. known)
    (λ m dt word bytes r on. known)
    (λ m image version dt word row here none i v r low e.
    ⊎_elim
    (λ new. ap (λ n. row_at w.declared n v) (sym new.1) ∙ ap (row_at w.declared row.image) (sym new.2) ∙ row_at-own w.declared image version row here ∙ ap (λ (x : Row). Some x) (sym new.0))
    (λ old. known i v r low old)
    (row_at-of_with_row w.table row r i v e))
    (λ m number image version dt word none. known)

-- the rows and the number of motes
record Frame (motes : ℕ) (v : World) : Type 0 where
  pub known : KnownRows v.table v.declared
  pub rows : AllByRecursion IsDeclared v.declared
  pub count : length v.sites ≡ motes

frame_sent : (motes : ℕ) (u : World) (m : ℕ) (o : Option Message) → Frame motes u → Frame motes (and_sent u m o)
frame_sent motes u m None f = f
frame_sent motes u m (Some message) f = record { known = f.known; rows = f.rows; count = f.count }

frame_by : (motes : ℕ) (w : World) (x : Step) (v : World) (reports : List Report) (D : Does) → Frame motes w → KnownDoes w D → StepDoes D w x v reports → Frame motes v
frame_by motes w x v reports (Refuses why) f k did = subst (Frame motes) (sym did.0) (record { known = f.known; rows = f.rows; count = f.count })
frame_by motes w x v reports (Goes d) f k did =
    let b = blows x.cut d.trail in
    let end : EndsAs (λ b y. Unit {0}) b w x d v = ends_as (λ b y. Unit {0}) (λ s room p. tt) w x d v reports (λ runs e. tt) (Through-each (λ s. Unit {0}) (λ s. tt) d.trail) b did in
    subst (Frame motes) (sym end.1)
    (frame_sent motes (ended_world w x d end.0) (mote_of x.event) (sent_unless b d)
    (record { known = k; rows = f.rows; count = site_count (record (counted w (dt_of x.event)) { table = d.table }) (mote_of x.event) end.0 ∙ f.count }))

step_frame : RestartLaws → (motes : ℕ) (w : World) (x : Step) (v : World) (reports : List Report) → Frame motes w → WorldStep w x v reports → Frame motes v
unfolding WorldStep
step_frame restarts motes w x v reports f did = frame_by motes w x v reports (does w x.event) f (known_does restarts w f.known x.event) did

declared_known : (o : Option Row) (w : World) (row : Row) → KnownRows w.table w.declared → KnownRows (declared_as o w row).table (declared_as o w row).declared
declared_known None w row known = λ i v r low e. row_at-push w.declared row r i v (known i v r low e)
declared_known (Some kept) w row known = known

declared_rows : (o : Option Row) (w : World) (row : Row) → AllByRecursion IsDeclared w.declared → IsDeclared row → AllByRecursion IsDeclared (declared_as o w row).declared
declared_rows None w row rows may = all_pushed IsDeclared w.declared row rows may
declared_rows (Some kept) w row rows may = rows

declared_frame : (motes : ℕ) (w v : World) (row : Row) → v ≡ declared_as (row_at w.declared row.image row.version) w row → IsDeclared row → Frame motes w → Frame motes v
declared_frame motes w v row is may f =
    let o = row_at w.declared row.image row.version in
    record {
      known = subst (λ (u : World). KnownRows u.table u.declared) (sym is) (declared_known o w row f.known);
      rows = subst (λ (u : World). AllByRecursion IsDeclared u.declared) (sym is) (declared_rows o w row f.rows may);
      count = ap length (ap (λ (u : World). u.sites) is ∙ declared_sites o w row) ∙ f.count;
    }

item_frame : RestartLaws → (motes : ℕ) (item : Item) (w v : World) (reports : List Report) → ItemInRange motes item → Frame motes w → ItemStep w item v reports → Frame motes v
item_frame restarts motes (Declares row) w v reports range f did = declared_frame motes w v row did.world range f
item_frame restarts motes (Applies x reported) w v reports range f did = step_frame restarts motes w x v did.0 f did.1

-- ---- golden is kept in every mote

record Keeps (motes : ℕ) (past : List Played) (w : World) : Type 0 where
  pub golden : WorldKeepsGolden w
  pub frame : Frame motes w

module _ (restarts : RestartLaws) (stepped : (w v : World) (x : Step) (reports : List Report) → WorldKeepsGolden w → StepInRange (length w.sites) x → WorldStep w x v reports → WorldKeepsGolden v) (motes : ℕ) where
  golden_item : (item : Item) (w v : World) (reports : List Report) → WorldKeepsGolden w → length w.sites ≡ motes → ItemInRange motes item → ItemStep w item v reports → WorldKeepsGolden v
  golden_item (Declares row) w v reports golden count range did =
      subst (At (λ m y. SiteKeepsGolden y)) (sym (ap (λ (u : World). u.sites) did.world ∙ declared_sites (row_at w.declared row.image row.version) w row)) golden
  golden_item (Applies x reported) w v reports golden count range did = stepped w v x did.0 golden (subst (λ (n : ℕ). StepInRange n x) (sym count) range) did.1

  keeps_played : (past : List Played) (p : Played) → Keeps motes past p.before → PlayedInRange motes p → ItemStep p.before p.item p.after p.reports → Keeps motes (p ∷ past) p.after × Unit {0}
  keeps_played past p k range did = (
    record { golden = golden_item p.item p.before p.after p.reports k.golden k.frame.count range did; frame = item_frame restarts motes p.item p.before p.after p.reports range k.frame did },
    tt,
  )

  keeps_plays : (played : List Played) (w v : World) → Plays w played v → AllByRecursion (PlayedInRange motes) played → Keeps motes [] w → Ended (Keeps motes) v
  keeps_plays played w v run ranges k = (plays (Keeps motes) (PlayedInRange motes) (λ past p. Unit {0}) keeps_played [] played w v run ranges k).0

-- ---- honest scripts

-- an honest event is true, since each row of the table is golden or declared
event_true : (motes : ℕ) (w : World) → Frame motes w → (e : Event) → HonestEvent w.table e → TrueEvent w e
event_true motes w f (Tick m dt word) honest = tt
event_true motes w f (Hear m dt word frame) honest = tt
event_true motes w f (Last from m dt word) honest = tt
event_true motes w f (Reset m dt word) honest = tt
event_true motes w f (Inject m image version dt word) honest = λ taken row kept here there.
    let low = (row_at-each IsDeclared w.declared image version row f.rows here).not_golden in
    let ids = row_at-image_version w.declared image version row here in
    same_some kept row (sym (f.known image version kept (subst (λ (n : ℕ). 1 ≤ n) ids.0 low) there) ∙ here)
event_true motes w f (OrderEvent m number image version dt word) honest = tt
event_true motes w f (FrameEvent m dt word bytes) honest = honest

-- and a true event is honest
event_honest : (w : World) (e : Event) → TrueEvent w e → HonestEvent w.table e
event_honest w (Tick m dt word) is_true = tt
event_honest w (Hear m dt word frame) is_true = tt
event_honest w (Last from m dt word) is_true = tt
event_honest w (Reset m dt word) is_true = tt
event_honest w (Inject m image version dt word) is_true = tt
event_honest w (OrderEvent m number image version dt word) is_true = tt
event_honest w (FrameEvent m dt word bytes) is_true = is_true

item_honest : (item : Item) (w : World) → TrueItem item w → HonestItem item w
item_honest (Declares row) w is_true = tt
item_honest (Applies x reported) w is_true = event_honest w x.event is_true

all_honest : (played : List Played) → AllByRecursion IsTrueThen played → AllByRecursion IsHonestThen played
all_honest [] are_true = tt
all_honest (p ∷ ps) are_true = (item_honest p.item p.before are_true.0, all_honest ps are_true.1)

item_true : (motes : ℕ) (item : Item) (w : World) → Frame motes w → HonestItem item w → TrueItem item w
item_true motes (Declares row) w f honest = tt
item_true motes (Applies x reported) w f honest = event_true motes w f x.event honest

module _ (restarts : RestartLaws) (motes : ℕ) where
  true_played : (past : List Played) (p : Played) → Frame motes p.before → PlayedInRange motes p × IsHonestThen p → ItemStep p.before p.item p.after p.reports → Frame motes p.after × IsTrueThen p
  true_played past p f range did = (item_frame restarts motes p.item p.before p.after p.reports range.0 f did, item_true motes p.item p.before f range.1)

  true_plays : (played : List Played) (w v : World) → Plays w played v → AllByRecursion (PlayedInRange motes) played → AllByRecursion IsHonestThen played → Frame motes w → AllByRecursion IsTrueThen played
  true_plays played w v run ranges honest f =
      all_then (λ past p. IsTrueThen p) IsTrueThen (λ past p is_true. is_true) [] played
      (plays (λ past u. Frame motes u) (λ p. PlayedInRange motes p × IsHonestThen p) (λ past p. IsTrueThen p) true_played [] played w v run (all_both (PlayedInRange motes) IsHonestThen played ranges honest) f).1

-- the rows and the number of motes in the end
frame_ends : RestartLaws → (motes : ℕ) (played : List Played) (w v : World) → Plays w played v → AllByRecursion (PlayedInRange motes) played → Frame motes w → Frame motes v
unfolding Plays
frame_ends restarts motes [] w v run ranges f = subst (Frame motes) run f
frame_ends restarts motes (p ∷ ps) w v run ranges f =
    frame_ends restarts motes ps p.after v run.2 ranges.1 (item_frame restarts motes p.item p.before p.after p.reports ranges.0 (subst (Frame motes) (sym run.0) f) run.1)

-- ---- the first world

none_in : (n i : ℕ) → get_or {A = Option Held} (replicate n None) i None ≡ None
none_in zero i = refl
none_in (suc n) zero = refl
none_in (suc n) (suc i) = none_in n i

module _ (name bytes : List ℕ) (used motes : ℕ) (links : List (ℕ × ℕ)) (narrow : List Bool) (is_row : IsRow (golden_row name bytes)) where
  abbrev pub Golden : Row
  Golden = golden_row name bytes

  abbrev pub Table : List Row
  Table = Golden ∷ []

  abbrev pub Chip : Store
  Chip = fresh name bytes used

  fresh_kept : (i : ℕ) → IfSome (held Chip i) (KeepsRow Table i)
  fresh_kept zero = record { row = Golden; in_table = refl; pages = refl; crc = refl; first = sym (take-length (object Golden)) }
  fresh_kept (suc i) = subst (λ (o : Option Held). IfSome o (KeepsRow Table (suc i))) (sym (none_in (images - 1) i)) tt

  fresh_agrees : Agrees Table Chip
  fresh_agrees = record { golden = (Golden, refl, refl); kept = fresh_kept; app = tt }

  abbrev pub First : World
  First = first_world Table links narrow (replicate motes Chip)

  pub first_count : length First.sites ≡ motes
  first_count = length-map (replicate motes Chip) off_site ∙ length-replicate motes Chip

  pub first_site : (m : ℕ) → m < length First.sites → site First m ≡ off_site Chip
  first_site m here =
      get_or-map off_site (replicate motes Chip) m (fresh [] [] 0)
      ∙ ap off_site (get_or-replicate motes m Chip (fresh [] [] 0) (let n = first_count in omega (arith, here, n)))

  first_known : KnownRows Table []
  first_known image version row low e =
      ⊎_elim (λ here. let zero_is = here.1 in absurd (omega (arith, low, zero_is))) (λ there. absurd (not_none None row there refl)) (row_at-cons [] Golden row image version e)

  first_frame : Frame motes First
  first_frame = record { known = first_known; rows = tt; count = first_count }

  first_golden : Keeps motes [] First
  first_golden = record {
    golden = λ m here. subst SiteKeepsGolden (sym (first_site m here)) (record { kept = record { row = Golden; is_row = is_row; whole = refl }; asks = tt });
    frame = first_frame;
  }

  first_well : (m : ℕ) → SiteIsWell Table m (is_wide_mote narrow m) 0 (off_site Chip)
  first_well m = record {
    store = record { count = refl; agrees = fresh_agrees };
    order = record { in_range = inl refl; number = omega arith; version = omega arith };
    runs = tt;
  }

  first_agrees : motes ≤ most_motes → AllByRecursion (LinkFits motes) links → WorldAgrees First
  first_agrees few links_fit = record {
    few = subst (λ (n : ℕ). n ≤ most_motes) (sym first_count) few;
    table = IsTable-one Golden is_row refl refl;
    rows = tt;
    links = subst (λ (n : ℕ). AllByRecursion (LinkFits n) links) (sym first_count) links_fit;
    sites = λ m here. subst (SiteIsWell Table m (is_wide_mote narrow m) 0) (sym (first_site m here)) (first_well m);
    sent = tt;
  }

  first_off : AllOff First
  first_off m = ap (λ (x : Site). x.runs) (get_or-map off_site (replicate motes Chip) m (fresh [] [] 0))

-- ---- what is played of a script

module _ (g : GoldenNetwork) (played : List Played) (v : World) (script : PlaysGolden g played v) where
  abbrev pub Begins : World
  Begins = network_world g

  Count : length Begins.sites ≡ g.motes
  Count = first_count g.name g.bytes g.used g.motes g.links g.narrow script.is_row

  Start : Frame g.motes Begins
  Start = first_frame g.name g.bytes g.used g.motes g.links g.narrow script.is_row

  pub script_from : RestartLaws → AllByRecursion IsHonestThen played → PlaysFrom Begins played v
  script_from restarts honest = record {
    agrees = first_agrees g.name g.bytes g.used g.motes g.links g.narrow script.is_row script.few script.links_fit;
    off = first_off g.name g.bytes g.used g.motes g.links g.narrow script.is_row;
    plays = script.plays;
    ranges = subst (λ (n : ℕ). AllByRecursion (PlayedInRange n) played) (sym Count) script.ranges;
    are_true = true_plays restarts g.motes played Begins v script.plays script.ranges honest Start;
  }

  -- what is played further from there is played of such a script too
  pub script_more : (more : List Played) (z : World) → PlaysFrom Begins (played ++ more) z → PlaysGolden g (played ++ more) z × AllByRecursion IsHonestThen (played ++ more)
  script_more more z from = (
    record {
      is_row = script.is_row;
      plays = from.plays;
      few = script.few;
      links_fit = script.links_fit;
      ranges = subst (λ (n : ℕ). AllByRecursion (PlayedInRange n) (played ++ more)) Count from.ranges;
    },
    all_honest (played ++ more) from.are_true,
  )

  -- the next event, where it is honest
  pub script_true : RestartLaws → (e : Event) → HonestEvent v.table e → TrueEvent v e
  script_true restarts e honest = event_true g.motes v (frame_ends restarts g.motes played Begins v script.plays script.ranges Start) e honest

  pub script_fits : (e : Event) → EventInRange g.motes e → EventInRange (length Begins.sites) e
  script_fits e fits = subst (λ (n : ℕ). EventInRange n e) (sym Count) fits

  pub script_found : RestartLaws → ((w v : World) (x : Step) (reports : List Report) → WorldKeepsGolden w → StepInRange (length w.sites) x → WorldStep w x v reports → WorldKeepsGolden v)
      → ((w : World) (e : Event) → WorldKeepsGolden w → EventInRange (length w.sites) e → FindsImage (does w e)) → (e : Event) → EventInRange g.motes e → FindsImage (does v e)
  script_found restarts stepped found e fits =
      let end = keeps_plays restarts stepped g.motes played Begins v script.plays script.ranges (first_golden g.name g.bytes g.used g.motes g.links g.narrow script.is_row) in
      found v e end.holds.golden (subst (λ (n : ℕ). EventInRange n e) (sym end.holds.frame.count) fits)
