-- How a rehearsal ends.
use Rattle.std.proofs.Common.{lit<, lit≤, ◌≡◌, ℕ, zero, suc, ◌*◌, ◌≤◌, ◌<◌, Bool, true, false, List, [], ◌∷◌, ◌++◌, length, map, take, codes, Option, Some, None, refl, sym, ap, subst, ◌∙◌, arith}
use Rattle.std.specs.Prelude.{IfSome, IsSomeAnd, Contains, Result, Ok}
use Rattle.std.specs.List.{AllByRecursion}
use Rattle.std.proofs.lemmas.List.{take_all}
use Rattle.std.proofs.lemmas.List.Elements.{Contains-append_left, Contains-append_right, Contains-push}
use Rattle.std.proofs.lemmas.Option.{IfSome_then}
use Rattle.dg_words.specs.Cells.{AreBytes}
use Rattle.dg_base.specs.declared.events.Event.{Event}
use Rattle.dg_base.specs.declared.events.Event.TheVariants.{Tick, Hear, Last, Reset, Inject, Order, Frame}
use Rattle.dg_base.specs.declared.events.Step.{Step}
use Rattle.dg_nor.specs.Device.{Device}
use Rattle.dg_netcfg.specs.Readings.{IsAllowed}
use Rattle.dg_netcfg.specs.declared.profile.NetProfile.{NetProfile}
use Rattle.dg_object.specs.Object.{Row, IsRow, object, pages_for}
use Rattle.dg_object.proofs.RowLemmas.{length-object}
use Rattle.dg_slot.specs.Kept.{Held}
use Rattle.dg_volume.specs.Agreement.{KeepsRow}
use Rattle.dg_volume.specs.Store.{held, held_whole, golden_row}
use Rattle.dg_volume.specs.Table.{has_image_version, row_at}
use Rattle.dg_script.specs.Items.{Item, Applies}
use Rattle.dg_script.specs.Places.{none_narrow}
use Rattle.dg_rules.specs.Changes.{final_lines}
use Rattle.dg_rules.specs.Golden.{GoldenNetwork, PlaysGolden}
use Rattle.dg_rules.specs.Premises.{WorldAgrees, LeavesAgreement, IsHonestThen, HonestItem, HonestEvent, ItemInRange, PlayedInRange}
use Rattle.dg_rules.specs.Runs.{Played}
use Rattle.dg_rules.specs.Sizes.{most_events}
use Rattle.dg_rules.specs.World.{World, store_at}
use Rattle.dg_rules.proofs.TableLemmas.{same_some, find_here, has_own_image_version}
use Rattle.dg_world.specs.Alone.{uncut}
use Rattle.dg_world.specs.declared.world.World.{World as KeptWorld}
use Rattle.dg_rehearse.specs.Ended.{RehearsalEnded, DeliversAlong, EndsAs, Ends, EndsNow, EndsBegun, IsUpdateComplete, HasBegun, InjectsImage, OrdersImage, TellsEach}
use Rattle.dg_rehearse.specs.Rehearsed.{Rehearses, IsRehearsed, IsRehearsedStep, IsPlanned, IsStaged, IsUnderWay, IsContinuedBy, IsContinued, Any, Makes, IsFull, OnlyDeclared, Staging, planned_row, played_item}
use Rattle.dg_rehearse.specs.declared.plan.Ending.{Ending}
use Rattle.dg_rehearse.specs.declared.plan.Ending.TheVariants.{Complete, OutOfTime, TooMany, TooLong}
use Rattle.dg_rehearse.specs.declared.plan.Plan.{Plan}
use Rattle.dg_rehearse.specs.declared.plan.Rehearsal.{Rehearsal}
use Rattle.dg_rehearse.proofs.PlayLemmas.{fits_of, weaker, weaker_staged, then_by, goes_nowhere_by}
use Rattle.dg_rehearse.proofs.SpellLemmas.{rehearsed, links_fit}
use Rattle.dg_rehearse.proofs.TellingLemmas.{kept_there, runs_there}

-- ---- the chips agree with the table at the end

golden_is : IsRow (golden_row (codes "base") (codes "A"))
golden_is = record { image = lit< tt; version = lit≤ tt; version_fits = lit< tt; name = refl; some = lit≤ tt; fits = lit≤ tt; bytes = byte }
  where
    byte : AreBytes (codes "A")
    byte zero = lit< tt
    byte (suc k) = lit< tt

abbrev IsGood : ℕ → Item → Type 0
IsGood motes item = ItemInRange motes item × ((w : World) → HonestItem item w)

honest : (motes : ℕ) (e : Event) (w : World) → IsRehearsed motes e → HonestEvent w.table e
honest motes (Tick m d x) w h = tt
honest motes (Hear m d x k) w h = tt
honest motes (Last a b d x) w h = absurd h
honest motes (Reset m d x) w h = tt
honest motes (Inject m i v d x) w h = tt
honest motes (Order m k i v d x) w h = tt
honest motes (Frame m d x bytes) w h = absurd h

good_step : (motes : ℕ) (x : Step) → IsRehearsedStep motes x → IsGood motes (Applies x true)
good_step motes x fits = (
  record { event = (fits_of motes x.event fits.event).0; cut = IfSome_then x.cut fits.cut (λ c f. f.range) },
  λ w. honest motes x.event w fits.event,
)

good_steps : (motes : ℕ) (steps : List Step) → AllByRecursion (IsRehearsedStep motes) steps → AllByRecursion (IsGood motes) (map (λ x. Applies x true) steps)
good_steps motes [] fits = tt
good_steps motes (x ∷ xs) fits = (good_step motes x fits.0, good_steps motes xs fits.1)

each_played : (motes : ℕ) (ps : List Played) → AllByRecursion (IsGood motes) (map played_item ps) → AllByRecursion (PlayedInRange motes) ps × AllByRecursion IsHonestThen ps
each_played motes [] h = (tt, tt)
each_played motes (q ∷ qs) h = let rest = each_played motes qs h.1 in ((h.0.0, rest.0), (h.0.1 q.before, rest.1))

abbrev pub AgreesLaw : Type 0
AgreesLaw = (g : GoldenNetwork) (played : List Played) (v : World) → PlaysGolden g played v → AllByRecursion IsHonestThen played → AllByRecursion LeavesAgreement played × WorldAgrees v

agrees : AgreesLaw → (n : NetProfile) (p : Plan) (steps : List Step) (w : World) → IsAllowed n → IsPlanned n.motes p → Rehearses n p steps w → WorldAgrees w
agrees law n p steps w allowed planned run =
    let good = each_played n.motes run.played (subst (λ (items : List Item). AllByRecursion (IsGood n.motes) items) (sym run.items) ((planned.declared, λ w. tt), good_steps n.motes steps run.fits)) in
    (law (record { name = codes "base"; bytes = codes "A"; used = 0; motes = n.motes; links = n.links; narrow = none_narrow }) run.played w
    (record { is_row = golden_is; plays = run.plays; few = allowed.motes.1; links_fit = links_fit n allowed; ranges = good.0 }) good.1).1

-- ---- what is kept whole

abbrev held_by : ℕ → ℕ → ℕ → List (List ℕ) → Held
held_by version pages crc complete = record { version = version; pages = pages; crc = crc; complete = complete }

module _ (w : World) (p : Plan) (known : OnlyDeclared w) (declared : w.declared ≡ planned_row p ∷ []) (some : 1 ≤ p.image) where
  abbrev row : Row
  row = planned_row p

  abbrev IsAll : Option Held → Type 0
  IsAll o = IsSomeAnd o (λ h. (h.version ≡ p.version) × (length h.complete ≡ pages_for (length p.content)))

  the_row : (h : Held) (k : KeepsRow w.table p.image h) → h.version ≡ p.version → k.row ≡ row
  the_row h k version =
      same_some k.row row
      (sym (known p.image h.version k.row some k.in_table) ∙ ap (λ v. row_at w.declared p.image v) version ∙ ap (λ rows. row_at rows p.image p.version) declared ∙ find_here (has_image_version p.image p.version) row [] (has_own_image_version row))

  whole : (o : Option Held) → IfSome o (KeepsRow w.table p.image) → IsAll o → o ≡ Some (held_whole row)
  whole None kept all = absurd all
  whole (Some h) kept all =
      let e = the_row h kept all.0 in
      let count : length (object row) ≡ length h.complete = length-object row ∙ sym all.1 in
      let complete : h.complete ≡ object row = kept.first ∙ ap (λ r. take (length h.complete) (object r)) e ∙ take_all (length h.complete) (object row) (omega (arith, count)) in
      let whole_row = held_whole row in
      let pages : h.pages ≡ whole_row.pages = kept.pages ∙ ap (λ r. (held_whole r).pages) e in
      let crc : h.crc ≡ whole_row.crc = kept.crc ∙ ap (λ r. (held_whole r).crc) e in
      ap (λ v. Some (held_by v h.pages h.crc h.complete)) all.0 ∙ ap (λ k. Some (held_by p.version k h.crc h.complete)) pages ∙ ap (λ k. Some (held_by p.version whole_row.pages k h.complete)) crc
      ∙ ap (λ c. Some (held_by p.version whole_row.pages whole_row.crc c)) complete

  pub whole_at : WorldAgrees w → (m : ℕ) → m < length w.sites → IsAll (held (store_at w m) p.image) → held (store_at w m) p.image ≡ Some (held_whole row)
  whole_at good m within all = whole (held (store_at w m) p.image) ((good.sites m within).store.agrees.kept p.image) all

is_complete : AgreesLaw → (n : NetProfile) (p : Plan) (initial : List Device) (s : Staging) → IsAllowed n → IsPlanned n.motes p → (t : IsStaged n p initial s) → TellsEach n.motes p (final_lines t.world) → IsUpdateComplete n p t.world
is_complete law n p initial s allowed planned t tells =
    let good = agrees law n p t.steps t.world allowed planned t.run in
    record {
      keeps = λ m low.
          let c = t.count in
          whole_at t.world p t.table t.declared planned.declared.not_golden good m (omega (arith, c, low)) (kept_there m p.image p.version (pages_for (length p.content)) t.world (tells m low).0);
      runs = λ ordered m low. runs_there m p.image p.version t.world ((tells m low).1 ordered);
    }

ends_as : AgreesLaw → (e : Ending) (n : NetProfile) (p : Plan) (initial : List Device) (s : Staging) → IsAllowed n → IsPlanned n.motes p → (t : IsStaged n p initial s) → Ends e n p s.script t.world → EndsAs e n p t.world s.script
ends_as law Complete n p initial s allowed planned t h = is_complete law n p initial s allowed planned t h
ends_as law OutOfTime n p initial s allowed planned t h = h
ends_as law TooMany n p initial s allowed planned t h = h
ends_as law TooLong n p initial s allowed planned t h = h

begun_later : (p : Plan) (before more : List Step) → HasBegun p more → HasBegun p (before ++ more)
begun_later p before more b = (
  (b.0.0, Contains-append_right before more (uncut (Inject p.at p.image p.version 0 b.0.0)) b.0.1),
  λ ordered. let o = b.1 ordered in (o.0, Contains-append_right before more (uncut (Order p.at 1 p.image p.version 0 o.0)) o.1),
)

-- ---- the whole rehearsal

pub ended : AgreesLaw → (n : NetProfile) (p : Plan) (initial boards : List Device) (s : Staging) (kept : KeptWorld) (r : Rehearsal) → IsAllowed n → IsPlanned n.motes p → IsStaged n p initial s
    → IsContinuedBy (EndsBegun r.ending n p r.script.items) n p s (record { kept = kept; boards = boards; script = r.script.items; moment = r.moment }) → RehearsalEnded n p initial boards r
ended law n p initial boards s kept r allowed planned x goes =
    let u : Staging = record { kept = kept; boards = boards; script = r.script.items; moment = r.moment } in
    let o = goes.goes initial x in
    let t = o.0.staged in
    record {
      told = rehearsed n p u initial allowed planned t;
      ends = ends_as law r.ending n p initial u allowed planned t o.1.0;
      moment = t.moment;
      begun = λ enough. subst (λ (l : List Step). HasBegun p l) (sym o.0.steps) (begun_later p x.steps o.0.more (o.1.1 enough));
    }

pub delivers : (n : NetProfile) (p : Plan) (initial : List Device) (s u : Staging) → IsAllowed n → IsPlanned n.motes p → IsStaged n p initial s → IsContinued n p s u → DeliversAlong n p initial u.boards u.script
delivers n p initial s u allowed planned x goes =
    let t = (goes.goes initial x).0.staged in
    record { told = rehearsed n p u initial allowed planned t; along = t.along }

-- ---- answers

pub ok_same : {E : Type 0} (a b : Bool) → ◌≡◌ {A = Result Bool E} (Ok a) (Ok b) → a ≡ b
ok_same a b e = cc

pub some_same : {E : Type 0} (a b : Ending) → ◌≡◌ {A = Result (Option Ending) E} (Ok (Some a)) (Ok (Some b)) → a ≡ b
some_same a b e = cc

pub end_same : {E : Type 0} (a b : Ending) → ◌≡◌ {A = Result Ending E} (Ok a) (Ok b) → a ≡ b
end_same a b e = cc

pub option_same : {E : Type 0} (a b : Option Ending) → ◌≡◌ {A = Result (Option Ending) E} (Ok a) (Ok b) → a ≡ b
option_same a b e = cc

-- ---- how it begins

one_there : (x : Step) (xs : List Step) → xs ≡ x ∷ [] → Contains xs x
one_there x xs e = subst (λ (l : List Step). Contains l x) (sym e) (Contains-push [] x)

pub injected_by : (n : NetProfile) (p : Plan) (word : ℕ) (s t : Staging) → Makes (uncut (Inject p.at p.image p.version 0 word)) n p s t → IsContinuedBy (λ more w. InjectsImage p more) n p s t
injected_by n p word s t m = weaker _ (λ more w. InjectsImage p more) n p s t (λ more w e. (word, one_there (uncut (Inject p.at p.image p.version 0 word)) more e)) m.0

pub ordered_by : (n : NetProfile) (p : Plan) (word : ℕ) (s t : Staging) → Makes (uncut (Order p.at 1 p.image p.version 0 word)) n p s t → IsContinuedBy (λ more w. OrdersImage p more) n p s t
ordered_by n p word s t m = weaker _ (λ more w. OrdersImage p more) n p s t (λ more w e ordered. (word, one_there (uncut (Order p.at 1 p.image p.version 0 word)) more e)) m.0

pub unordered : (n : NetProfile) (p : Plan) (s : Staging) → p.ordered ≡ false → IsContinuedBy (λ more w. OrdersImage p more) n p s s
unordered n p s not_so = goes_nowhere_by (λ more w. OrdersImage p more) n p s (λ initial t so. absurd (differ (sym so ∙ not_so)))
  where
    differ : true ≡ false → ⊥
    differ e = cc

pub begun_by : (n : NetProfile) (p : Plan) (s t u : Staging) → IsContinuedBy (λ more w. InjectsImage p more) n p s t → IsContinuedBy (λ more w. OrdersImage p more) n p t u → IsContinuedBy (λ more w. HasBegun p more) n p s u
begun_by n p s t u a b =
    then_by (λ more w. InjectsImage p more) (λ more w. OrdersImage p more) (λ more w. HasBegun p more) n p s t u
    (λ xs ys w v i o. (
      (i.0, Contains-append_left xs ys (uncut (Inject p.at p.image p.version 0 i.0)) i.1),
      λ ordered. let k = o ordered in (k.0, Contains-append_right xs ys (uncut (Order p.at 1 p.image p.version 0 k.0)) k.1),
    )) a b

-- ---- how it ends

begun_first : (p : Plan) (xs ys : List Step) → HasBegun p xs → HasBegun p (xs ++ ys)
begun_first p xs ys b = (
  (b.0.0, Contains-append_left xs ys (uncut (Inject p.at p.image p.version 0 b.0.0)) b.0.1),
  λ ordered. let k = b.1 ordered in (k.0, Contains-append_left xs ys (uncut (Order p.at 1 p.image p.version 0 k.0)) k.1),
)

pub begun_after : (n : NetProfile) (p : Plan) (s t u : Staging) → IsContinued n p s t → IsContinuedBy (λ more w. HasBegun p more) n p t u → IsContinuedBy (λ more w. HasBegun p more) n p s u
begun_after n p s t u a b = then_by Any (λ more w. HasBegun p more) (λ more w. HasBegun p more) n p s t u (λ xs ys w z _ h. begun_later p xs ys h) a b

pub begun_ends : (e : Ending) (n : NetProfile) (p : Plan) (script : List ℕ) (s t u : Staging) → IsContinuedBy (λ more w. HasBegun p more) n p s t → IsContinuedBy (λ more w. Ends e n p script w) n p t u → IsContinuedBy (EndsBegun e n p script) n p s u
begun_ends e n p script s t u a b =
    then_by (λ more w. HasBegun p more) (λ more w. Ends e n p script w) (EndsBegun e n p script) n p s t u
    (λ xs ys w z begun ends. (ends, λ enough. begun_first p xs ys begun)) a b

pub full_ends : (n : NetProfile) (p : Plan) (script : List ℕ) (s t : Staging) → IsContinued n p s t → IsFull t → IsContinuedBy (λ more w. Ends TooMany n p script w) n p s t
full_ends n p script s t g full =
    weaker_staged Any (λ more w. Ends TooMany n p script w) n p s t (λ initial more x _. sym x.is.events ∙ full) g

pub full_begun : (n : NetProfile) (p : Plan) (script : List ℕ) (s t : Staging) → IsContinued n p s t → IsFull t → IsContinuedBy (EndsBegun TooMany n p script) n p s t
full_begun n p script s t g full =
    weaker_staged Any (EndsBegun TooMany n p script) n p s t (λ initial more x _. (sym x.is.events ∙ full, λ enough. absurd (enough refl))) g

now_ends : (e : Ending) (n : NetProfile) (p : Plan) (initial : List Device) (s : Staging) → EndsNow e p s → (t : IsStaged n p initial s) → Ends e n p s.script t.world
now_ends Complete n p initial s h t = absurd h
now_ends OutOfTime n p initial s h t = subst (λ (k : ℕ). p.minutes * 60000 ≤ k) t.moment h
now_ends TooMany n p initial s h t = absurd h
now_ends TooLong n p initial s h t = h

pub ends_nowhere : (e : Ending) (n : NetProfile) (p : Plan) (s : Staging) → EndsNow e p s → IsContinuedBy (λ more w. Ends e n p s.script w) n p s s
ends_nowhere e n p s h = goes_nowhere_by (λ more w. Ends e n p s.script w) n p s (λ initial t. now_ends e n p initial s h t)

-- after a turn for each event there are no more
pub counted_full : (n : NetProfile) (p : Plan) (t : Staging) (turns : ℕ) → IsUnderWay n p t → turns ≤ t.kept.events → most_events ≤ turns → IsFull t
counted_full n p t turns u many all =
    let a = u.staged.is.events in
    let b = u.staged.is.few_events in
    omega (arith, a, b, many, all)

-- the end that a turn answers is that of too many events
pub many_ends : (e : Ending) (n : NetProfile) (p : Plan) (script : List ℕ) (s t : Staging) → e ≡ TooMany → IsContinued n p s t → IsFull t → IsContinuedBy (λ more w. Ends e n p script w) n p s t
many_ends e n p script s t is g full = subst (λ (x : Ending). IsContinuedBy (λ more w. Ends x n p script w) n p s t) (sym is) (full_ends n p script s t g full)

pub ends_here : (a e : Ending) (n : NetProfile) (p : Plan) (s : Staging) → a ≡ e → EndsNow a p s → IsContinuedBy (λ more w. Ends e n p s.script w) n p s s
ends_here a e n p s is h = ends_nowhere e n p s (subst (λ (x : Ending). EndsNow x p s) is h)

pub many_begun : (e : Ending) (n : NetProfile) (p : Plan) (script : List ℕ) (s t : Staging) → e ≡ TooMany → IsContinued n p s t → IsFull t → IsContinuedBy (EndsBegun e n p script) n p s t
many_begun e n p script s t is g full = subst (λ (x : Ending). IsContinuedBy (EndsBegun x n p script) n p s t) (sym is) (full_begun n p script s t g full)

pub complete_ends : (e : Ending) (n : NetProfile) (p : Plan) (script : List ℕ) (s t : Staging) → Complete ≡ e → IsContinuedBy (λ more w. Ends Complete n p script w) n p s t → IsContinuedBy (λ more w. Ends e n p script w) n p s t
complete_ends e n p script s t is g = subst (λ (x : Ending). IsContinuedBy (λ more w. Ends x n p script w) n p s t) is g
