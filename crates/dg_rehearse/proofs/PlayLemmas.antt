-- A rehearsal goes on by a step.
use Rattle.std.proofs.Common.{◌≡◌, ⊎_elim, inl, ℕ, zero, suc, ◌+◌, ◌-◌, ◌*◌, ◌^◌, ◌≤◌, ◌<◌, min, nat_le, if◌then◌else◌, Bool, true, false, List, [], ◌∷◌, ◌++◌, length, map, refl, sym, ap, subst, ◌∙◌, arith, append-nil, append_assoc, length-append}
use Rattle.std.specs.Prelude.{Option, Some, None, IfSome, IsSomeAnd, Result, Ok, OnOk, slice_get}
use Rattle.std.specs.List.{AllByRecursion, filter}
use Rattle.std.proofs.Math.Nat.{min-eq_left}
use Rattle.std.proofs.lemmas.Bool.{le-leb}
use Rattle.std.proofs.lemmas.List.{map-append}
use Rattle.std.proofs.lemmas.Result.{on_ok_weaker}
use Rattle.dg_base.specs.declared.events.Cut.{Cut}
use Rattle.dg_base.specs.declared.events.Event.{Event}
use Rattle.dg_base.specs.declared.events.Event.TheVariants.{Tick, Hear, Last, Reset, Inject, Order, Frame}
use Rattle.dg_base.specs.declared.events.Step.{Step}
use Rattle.dg_nor.specs.Device.{Device}
use Rattle.dg_netcfg.specs.declared.profile.NetProfile.{NetProfile}
use Rattle.dg_script.specs.Fitting.{FitsEvent, FitsCut}
use Rattle.dg_script.specs.Items.{Item, Applies}
use Rattle.dg_script.specs.Places.{is_linked}
use Rattle.dg_script.specs.Ranges.{EventInRange, CutInRange, StepInRange}
use Rattle.dg_script.specs.Sizes.{most_motes}
use Rattle.dg_script.specs.declared.line.Line.TheVariants.{Cut as CutLine, Happens}
use Rattle.dg_script.specs.declared.report.Report.{Report}
use Rattle.dg_rules.specs.Changes.{is_reported}
use Rattle.dg_rules.specs.Events.{mote_of, dt_of}
use Rattle.dg_rules.specs.Runs.{Played, ItemStep, Plays}
use Rattle.dg_rules.specs.Sizes.{most_events}
use Rattle.dg_rules.specs.Steps.{WorldStep}
use Rattle.dg_rules.specs.World.{World, Sent, frame_at}
use Rattle.dg_world.specs.Alone.{uncut}
use Rattle.dg_world.specs.Applied.{Applied}
use Rattle.dg_world.specs.Boards.{WorldStands}
use Rattle.dg_world.specs.Deployments.{deployed}
use Rattle.dg_world.specs.Worlds.{IsWorld}
use Rattle.dg_world.specs.declared.world.World.{World as KeptWorld}
use Rattle.dg_world.specs.declared.world.WorldFault.{WorldFault}
use Rattle.dg_world.specs.declared.world.WorldFault.TheVariants.{TooMany}
use Rattle.dg_world.proofs.EndureLemmas.{event_within, stands_next}
use Rattle.dg_rehearse.specs.Along.{IsAlong}
use Rattle.dg_rehearse.specs.Rehearsed.{Rehearses, IsRehearsed, IsRehearsedStep, IsStaged, IsUnderWay, IsContinuedBy, IsContinued, Any, Makes, MoreEvents, IsFull, Staging, played_item, rehearsed_items, rehearsed_lines, written, written_lines}
use Rattle.dg_rehearse.specs.Rehearsed.{SendsAtMost, SendsOnly, IsSentBy, SentBy, LastSentBy, GoesAlong}
use Rattle.dg_rehearse.specs.declared.plan.Plan.{Plan}
use Rattle.dg_rehearse.proofs.ScriptLemmas.{fits_event}
use Rattle.dg_rehearse.proofs.StepLemmas.{Next, step_next}
use Rattle.dg_rehearse.proofs.WrittenLemmas.{cut_by, event_written, cut_written}

-- ---- events of a rehearsal are in their ranges

pub fits_of : (motes : ℕ) (event : Event) → IsRehearsed motes event → FitsEvent motes event
fits_of motes (Tick m d w) h = h
fits_of motes (Hear m d w k) h = h
fits_of motes (Last a b d w) h = absurd h
fits_of motes (Reset m d w) h = h
fits_of motes (Inject m i v d w) h = h
fits_of motes (Order m k i v d w) h = h
fits_of motes (Frame m d w bytes) h = absurd h

-- ---- what was played, and one more

plays_next : (xs : List Played) (w u : World) (p : Played) → Plays w xs u → p.before ≡ u → ItemStep p.before p.item p.after p.reports → Plays w (xs ++ p ∷ []) p.after
unfolding Plays
plays_next [] w u p a is step = (is ∙ sym a, step, refl)
plays_next (x ∷ xs) w u p a is step = (a.0, a.1, plays_next xs x.after u p a.2 is step)

items_next : (p : Plan) (xs : List Played) (steps : List Step) (q : Played) (x : Step) → q.item ≡ Applies x true → map played_item xs ≡ rehearsed_items p steps → map played_item (xs ++ q ∷ []) ≡ rehearsed_items p (steps ++ x ∷ [])
items_next p xs steps q x is same =
    map-append played_item xs (q ∷ []) ∙ ap (λ (items : List Item). items ++ q.item ∷ []) same ∙ ap (λ (item : Item). rehearsed_items p steps ++ item ∷ []) is
    ∙ ap (λ (items : List Item). rehearsed_items p [] ++ items) (sym (map-append (λ (y : Step). Applies y true) steps (x ∷ [])))

all_next : {A : Type 0} (P : A → Type 0) (xs : List A) (x : A) → AllByRecursion P xs → P x → AllByRecursion P (xs ++ x ∷ [])
all_next P [] x all p = (p, tt)
all_next P (y ∷ ys) x all p = (all.0, all_next P ys x all.1 p)

abbrev played_step : (w v : World) (x : Step) (all : List Report) → Played
played_step w v x all = record { item = Applies x true; before = w; after = v; reports = filter (is_reported true) all }

rehearses_next : (n : NetProfile) (p : Plan) (steps : List Step) (x : Step) (w v : World) (all : List Report) → IsRehearsedStep n.motes x → WorldStep w x v all → (run : Rehearses n p steps w)
    → (more : Rehearses n p (steps ++ x ∷ []) v) × (more.played ≡ run.played ++ played_step w v x all ∷ [])
rehearses_next n p steps x w v all fits step run =
    let q : Played = played_step w v x all in (
      record {
        fits = all_next (IsRehearsedStep n.motes) steps x run.fits fits;
        played = run.played ++ q ∷ [];
        items = items_next p run.played steps q x refl run.items;
        plays = plays_next run.played _ w q run.plays refl (all, step, refl);
      },
      refl,
    )

-- ---- the world that is kept has the frames

frames_same : (k : KeptWorld) (b c : List Device) (w z : World) → IsWorld k b w → IsWorld k c z → w.sent ≡ z.sent
frames_same k b c w z a d = sym a.shared.sent.frames ∙ d.shared.sent.frames

frames_of : (m : ℕ) (old new : List Sent) → SendsAtMost m old new → (fs : List Sent) × (new ≡ old ++ fs)
frames_of m old new h =
    ⊎_elim (λ e. ([], e ∙ sym (append-nil old))) (λ one. (record { by = m; bytes = one.0 } ∷ [], one.1)) h

-- ---- a rehearsal goes on

pub may_apply : (n : NetProfile) (p : Plan) (s : Staging) (x : Step) → IsUnderWay n p s → IsRehearsed n.motes x.event → IfSome x.cut CutInRange → (w : World) × IsWorld s.kept s.boards w × StepInRange (length w.sites) x
may_apply n p s x u fits cut =
    (u.staged.world, u.staged.is, record { event = subst (λ (k : ℕ). EventInRange k x.event) (sym u.staged.count) (fits_of n.motes x.event fits).0; cut = cut })

early_moment : (moment events : ℕ) → moment ≤ events * (2 ^ 32 - 1) → events ≤ most_events → moment ≤ 2 ^ 64 - 1
early_moment moment events early few = omega (arith, early, few)

pub moment_next : (before dt after events t : ℕ) → t ≡ min (before + dt) (2 ^ 64 - 1) → after ≡ before + dt → after ≤ events * (2 ^ 32 - 1) → events ≤ most_events → t ≡ after
moment_next before dt after events t is sum early few =
    let h = early_moment after events early few in
    let low : before + dt ≤ 2 ^ 64 - 1 = omega (arith, h, sum) in
    is ∙ min-eq_left low ∙ sym sum

-- a step was applied, and its lines were written
makes : (n : NetProfile) (p : Plan) (x : Step) (kept kept2 : KeptWorld) (boards boards2 : List Device) (script script2 : List ℕ) (moment moment2 : ℕ) (r r2 : List Report)
    → IsUnderWay n p (record { kept = kept; boards = boards; script = script; moment = moment })
    → IsRehearsedStep n.motes x
    → GoesAlong n x.event (record { kept = kept; boards = boards; script = script; moment = moment })
    → ((w : World) → IsWorld kept boards w → Applied w x false (deployed kept boards r) (deployed kept2 boards2 r2))
    → ((steps : List Step) → script ≡ written_lines (rehearsed_lines n p steps) → script2 ≡ written_lines (rehearsed_lines n p (steps ++ x ∷ [])))
    → moment2 ≡ min (moment + dt_of x.event) (2 ^ 64 - 1)
    → Makes x n p (record { kept = kept; boards = boards; script = script; moment = moment }) (record { kept = kept2; boards = boards2; script = script2; moment = moment2 })
makes n p x kept kept2 boards boards2 script script2 moment moment2 r r2 u fits along applied wrote later = (
  record {
    goes = λ initial t.
        let a = applied t.world t.is in
        let next : Next t.world x a.world = step_next t.world x a.world a.reports a.step in
        let within : mote_of x.event < length t.world.sites = subst (λ (k : ℕ). mote_of x.event < k) (sym t.count) (event_within n.motes x.event (fits_of n.motes x.event fits.event).0) in
        let fs = frames_of (mote_of x.event) t.world.sent a.world.sent next.sent in
        let run = rehearses_next n p t.steps x t.world a.world a.reports fits a.step t.run in
        let q : Played = played_step t.world a.world x a.reports in (
          record {
            staged = record {
              steps = t.steps ++ x ∷ [];
              world = a.world;
              run = run.0;
              along = subst (λ (ps : List Played). AllByRecursion (IsAlong n) ps) (sym run.1) (all_next (IsAlong n) t.run.played q t.along (along t.world t.is));
              count = next.count ∙ t.count;
              links = next.links ∙ t.links;
              declared = next.declared ∙ t.declared;
              table = next.table t.table;
              moment = moment_next t.world.moment (dt_of x.event) a.world.moment a.world.events moment2 (later ∙ ap (λ (k : ℕ). min (k + dt_of x.event) (2 ^ 64 - 1)) t.moment) next.moment a.stood.early a.stood.few_events;
              is = a.stood;
              stands = stands_next t.world a.world kept2 (mote_of x.event) initial boards boards2 within next.count a.stood a.boards a.calm t.stands;
              spelled = wrote t.steps t.spelled;
            };
            more = x ∷ [];
            steps = refl;
            frames = fs.0;
            sent = fs.1;
          },
          refl,
        );
    events = omega (arith, counted);
  },
  counted,
)
  where
    counted : kept.events + 1 ≤ kept2.events
    counted =
        let w = u.staged.world in
        let a = applied w u.staged.is in
        let next : Next w x a.world = step_next w x a.world a.reports a.step in
        let b = u.staged.is.events in
        let c = a.stood.events in
        let d = next.events in
        omega (arith, b, c, d)

pub event_makes : (n : NetProfile) (p : Plan) (event : Event) (kept kept2 : KeptWorld) (boards boards2 : List Device) (script script2 : List ℕ) (moment moment2 : ℕ) (r r2 : List Report)
    → IsUnderWay n p (record { kept = kept; boards = boards; script = script; moment = moment })
    → IsRehearsed n.motes event
    → GoesAlong n event (record { kept = kept; boards = boards; script = script; moment = moment })
    → ((w : World) → IsWorld kept boards w → Applied w (uncut event) false (deployed kept boards r) (deployed kept2 boards2 r2))
    → script2 ≡ script ++ written (Happens event)
    → moment2 ≡ min (moment + dt_of event) (2 ^ 64 - 1)
    → Makes (uncut event) n p (record { kept = kept; boards = boards; script = script; moment = moment }) (record { kept = kept2; boards = boards2; script = script2; moment = moment2 })
event_makes n p event kept kept2 boards boards2 script script2 moment moment2 r r2 u fits along applied wrote later =
    makes n p (uncut event) kept kept2 boards boards2 script script2 moment moment2 r r2 u (record { event = fits; cut = tt }) along applied
    (λ steps is. event_written n p steps event script script2 is wrote) later

pub cut_makes : (n : NetProfile) (p : Plan) (cut : Cut) (event : Event) (kept kept2 : KeptWorld) (boards boards2 : List Device) (script between script2 : List ℕ) (moment moment2 : ℕ) (r r2 : List Report)
    → IsUnderWay n p (record { kept = kept; boards = boards; script = script; moment = moment })
    → FitsCut cut → IsRehearsed n.motes event
    → GoesAlong n event (record { kept = kept; boards = boards; script = script; moment = moment })
    → ((w : World) → IsWorld kept boards w → Applied w (cut_by cut event) false (deployed kept boards r) (deployed kept2 boards2 r2))
    → between ≡ script ++ written (CutLine cut) → script2 ≡ between ++ written (Happens event)
    → moment2 ≡ min (moment + dt_of event) (2 ^ 64 - 1)
    → Makes (cut_by cut event) n p (record { kept = kept; boards = boards; script = script; moment = moment }) (record { kept = kept2; boards = boards2; script = script2; moment = moment2 })
cut_makes n p cut event kept kept2 boards boards2 script between script2 moment moment2 r r2 u fits_cut fits along applied first second later =
    makes n p (cut_by cut event) kept kept2 boards boards2 script script2 moment moment2 r r2 u (record { event = fits; cut = fits_cut }) along applied
    (λ steps is. cut_written n p steps cut event script between script2 is first second) later

-- what a step sent
pub event_sends : (event : Event) (kept kept2 : KeptWorld) (boards boards2 : List Device) (script script2 : List ℕ) (moment moment2 : ℕ) (x : Step) (r r2 : List Report) → x.event ≡ event
    → ((w : World) → IsWorld kept boards w → Applied w x false (deployed kept boards r) (deployed kept2 boards2 r2))
    → SendsOnly (mote_of event) (record { kept = kept; boards = boards; script = script; moment = moment }) (record { kept = kept2; boards = boards2; script = script2; moment = moment2 })
event_sends event kept kept2 boards boards2 script script2 moment moment2 x r r2 same applied w v is later =
    let a = applied w is in
    let next : Next w x a.world = step_next w x a.world a.reports a.step in
    subst (λ (e : Event). SendsAtMost (mote_of e) w.sent v.sent) same
    (subst (λ (l : List Sent). SendsAtMost (mote_of x.event) w.sent l) (frames_same kept2 boards2 boards2 a.world v a.stood later) next.sent)

-- nothing was applied
pub same_goes_on : (n : NetProfile) (p : Plan) (kept kept2 : KeptWorld) (boards boards2 : List Device) (script : List ℕ) (moment : ℕ) (P : List Step → World → Type 0)
    → IsUnderWay n p (record { kept = kept; boards = boards; script = script; moment = moment })
    → ((w : World) → IsWorld kept boards w → IsWorld kept2 boards2 w)
    → ((w : World) (initial : List Device) → IsWorld kept boards w → WorldStands w initial boards → WorldStands w initial boards2)
    → ((initial : List Device) (t : IsStaged n p initial (record { kept = kept; boards = boards; script = script; moment = moment })) → P [] t.world)
    → IsContinuedBy P n p (record { kept = kept; boards = boards; script = script; moment = moment }) (record { kept = kept2; boards = boards2; script = script; moment = moment })
same_goes_on n p kept kept2 boards boards2 script moment P u is stands holds = record {
  goes = λ initial t. (
    record {
      staged = record {
        steps = t.steps;
        world = t.world;
        run = t.run;
        along = t.along;
        count = t.count;
        links = t.links;
        declared = t.declared;
        table = t.table;
        moment = t.moment;
        is = is t.world t.is;
        stands = stands t.world initial t.is t.stands;
        spelled = t.spelled;
      };
      more = [];
      steps = sym (append-nil t.steps);
      frames = [];
      sent = sym (append-nil t.world.sent);
    },
    holds initial t,
  );
  events =
      let a = u.staged.is.events in
      let b = (is u.staged.world u.staged.is).events in
      omega (arith, a, b);
}

abbrev At : KeptWorld → List Device → List ℕ → ℕ → Staging
At kept boards script moment = record { kept = kept; boards = boards; script = script; moment = moment }

-- a fault that changed nothing
pub told_goes_on : {T E : Type 0} (result : Result T E) (fault : WorldFault) (n : NetProfile) (p : Plan) (kept kept2 : KeptWorld) (boards boards2 : List Device) (script : List ℕ) (moment : ℕ)
    → IsUnderWay n p (At kept boards script moment)
    → (fault ≡ TooMany → ((w : World) → IsWorld kept boards w → IsWorld kept2 boards2 w) × (boards2 ≡ boards)) → OnOk result (fault ≡ TooMany)
    → OnOk result (IsContinued n p (At kept boards script moment) (At kept2 boards2 script moment))
told_goes_on result fault n p kept kept2 boards boards2 script moment u same told =
    on_ok_weaker result
    (λ is. let e = same is in same_goes_on n p kept kept2 boards boards2 script moment Any u e.0 (λ w initial at stands. subst (λ (ds : List Device). WorldStands w initial ds) (sym e.1) stands) (λ initial t. tt))
    told

pub told_sends : {T E : Type 0} (result : Result T E) (fault : WorldFault) (m : ℕ) (kept kept2 : KeptWorld) (boards boards2 : List Device) (script : List ℕ) (moment : ℕ)
    → (fault ≡ TooMany → ((w : World) → IsWorld kept boards w → IsWorld kept2 boards2 w) × (boards2 ≡ boards)) → OnOk result (fault ≡ TooMany)
    → OnOk result (SendsOnly m (At kept boards script moment) (At kept2 boards2 script moment))
told_sends result fault m kept kept2 boards boards2 script moment same told =
    on_ok_weaker result (λ is. let e = same is in λ w v here there. inl (frames_same kept2 boards2 boards2 v w there (e.0 w here))) told

-- ---- answers

pub at_ok : {T E : Type 0} (r : Result T E) (x : T) (G : Type 0) → r ≡ Ok x → OnOk r G → G
at_ok {T} {E} r x G e h = subst (λ (q : Result T E). OnOk q G) e h

-- ---- one after the other

pub goes_nowhere : (n : NetProfile) (p : Plan) (s : Staging) → IsContinuedBy Any n p s s
goes_nowhere n p s = record {
  goes = λ initial t. (record { staged = t; more = []; steps = sym (append-nil t.steps); frames = []; sent = sym (append-nil t.world.sent) }, tt);
  events = omega arith;
}

-- nothing more is played
pub goes_nowhere_by : (P : List Step → World → Type 0) (n : NetProfile) (p : Plan) (s : Staging) → ((initial : List Device) (t : IsStaged n p initial s) → P [] t.world) → IsContinuedBy P n p s s
goes_nowhere_by P n p s h = record {
  goes = λ initial t. (record { staged = t; more = []; steps = sym (append-nil t.steps); frames = []; sent = sym (append-nil t.world.sent) }, h initial t);
  events = omega arith;
}

pub weaker : (P Q : List Step → World → Type 0) (n : NetProfile) (p : Plan) (s t : Staging) → ((more : List Step) (w : World) → P more w → Q more w) → IsContinuedBy P n p s t → IsContinuedBy Q n p s t
weaker P Q n p s t h g = record { goes = λ initial x. let o = g.goes initial x in (o.0, h o.0.more o.0.staged.world o.1); events = g.events }

-- with what the staged world then is
pub weaker_staged : (P Q : List Step → World → Type 0) (n : NetProfile) (p : Plan) (s t : Staging) → ((initial : List Device) (more : List Step) (x : IsStaged n p initial t) → P more x.world → Q more x.world) → IsContinuedBy P n p s t → IsContinuedBy Q n p s t
weaker_staged P Q n p s t h g = record { goes = λ initial x. let o = g.goes initial x in (o.0, h initial o.0.more o.0.staged o.1); events = g.events }

pub any_of : (P : List Step → World → Type 0) (n : NetProfile) (p : Plan) (s t : Staging) → IsContinuedBy P n p s t → IsContinued n p s t
any_of P n p s t g = weaker P Any n p s t (λ more w h. tt) g

pub then_by : (P Q R : List Step → World → Type 0) (n : NetProfile) (p : Plan) (s t u : Staging) → ((xs ys : List Step) (w v : World) → P xs w → Q ys v → R (xs ++ ys) v) → IsContinuedBy P n p s t → IsContinuedBy Q n p t u → IsContinuedBy R n p s u
then_by P Q R n p s t u h f g = record {
  goes = λ initial x.
      let a = f.goes initial x in
      let b = g.goes initial a.0.staged in (
        record {
          staged = b.0.staged;
          more = a.0.more ++ b.0.more;
          steps = b.0.steps ∙ ap (λ (l : List Step). l ++ b.0.more) a.0.steps ∙ append_assoc x.steps a.0.more b.0.more;
          frames = a.0.frames ++ b.0.frames;
          sent = b.0.sent ∙ ap (λ (l : List Sent). l ++ b.0.frames) a.0.sent ∙ append_assoc x.world.sent a.0.frames b.0.frames;
        },
        h a.0.more b.0.more a.0.staged.world b.0.staged.world a.1 b.1,
      );
  events = let a = f.events in let b = g.events in omega (arith, a, b);
}

pub goes_then : (n : NetProfile) (p : Plan) (s t u : Staging) → IsContinued n p s t → IsContinued n p t u → IsContinued n p s u
goes_then n p s t u a b = then_by Any Any Any n p s t u (λ xs ys w v _ _. tt) a b

-- what holds of the last world
pub then_ends : (P : World → Type 0) (n : NetProfile) (p : Plan) (s t u : Staging) → IsContinued n p s t → IsContinuedBy (λ more w. P w) n p t u → IsContinuedBy (λ more w. P w) n p s u
then_ends P n p s t u a b = then_by Any (λ more w. P w) (λ more w. P w) n p s t u (λ xs ys w v _ h. h) a b

pub still_under_way : (n : NetProfile) (p : Plan) (s t : Staging) → IsContinued n p s t → IsUnderWay n p s → IsUnderWay n p t
still_under_way n p s t g u = record { allowed = u.allowed; planned = u.planned; initial = u.initial; staged = (g.goes u.initial u.staged).0.staged }

-- the outcome of two steps, the second of which may be given up
pub goes_to : {T E : Type 0} (r : Result T E) (n : NetProfile) (p : Plan) (s t u : Staging) → IsContinued n p s t → OnOk r (IsContinued n p t u) → OnOk r (IsContinued n p s u)
goes_to r n p s t u a b = on_ok_weaker r (λ g. goes_then n p s t u a g) b

pub more_then : (n : NetProfile) (p : Plan) (s t u : Staging) → MoreEvents s t → IsContinued n p t u → MoreEvents s u
more_then n p s t u a g = let b = g.events in omega (arith, a, b)

pub more_later : (n : NetProfile) (p : Plan) (s t u : Staging) → IsContinued n p s t → MoreEvents t u → MoreEvents s u
more_later n p s t u g b = let a = g.events in omega (arith, a, b)

-- ---- frames

get_left : (P : Sent → Type 0) (xs ys : List Sent) (k : ℕ) → IsSomeAnd (slice_get xs k) P → IsSomeAnd (slice_get (xs ++ ys) k) P
get_left P [] ys k h = absurd h
get_left P (x ∷ xs) ys zero h = h
get_left P (x ∷ xs) ys (suc k) h = get_left P xs ys k h

abbrev numbered_in : List Sent → ℕ → Option Sent
numbered_in sent number = if nat_le 1 number then slice_get sent (number - 1) else None

numbered_left : (P : Sent → Type 0) (xs ys : List Sent) (k : ℕ) → IsSomeAnd (numbered_in xs k) P → IsSomeAnd (numbered_in (xs ++ ys) k) P
numbered_left P xs ys k h = go (nat_le 1 k) h
  where
    go : (b : Bool) → IsSomeAnd (if b then slice_get xs (k - 1) else None) P → IsSomeAnd (if b then slice_get (xs ++ ys) (k - 1) else None) P
    go true h = get_left P xs ys (k - 1) h
    go false h = absurd h

get_last : (P : Sent → Type 0) (xs : List Sent) (f : Sent) → P f → IsSomeAnd (slice_get (xs ++ f ∷ []) (length xs)) P
get_last P [] f h = h
get_last P (x ∷ xs) f h = get_last P xs f h

numbered_at : (P : Sent → Type 0) (l : List Sent) (k n : ℕ) → k ≡ n + 1 → IsSomeAnd (slice_get l n) P → IsSomeAnd (numbered_in l k) P
numbered_at P l k n e h =
    let low : nat_le 1 k ≡ true = le-leb 1 k (omega (arith, e)) in
    let at : n ≡ k - 1 = omega (arith, e) in
    subst (λ (b : Bool). IsSomeAnd (if b then slice_get l (k - 1) else None) P) (sym low) (subst (λ (j : ℕ). IsSomeAnd (slice_get l j) P) at h)

numbered_last : (P : Sent → Type 0) (xs : List Sent) (f : Sent) → P f → IsSomeAnd (numbered_in (xs ++ f ∷ []) (length (xs ++ f ∷ []))) P
numbered_last P xs f h = numbered_at P (xs ++ f ∷ []) (length (xs ++ f ∷ [])) (length xs) (length-append xs (f ∷ [])) (get_last P xs f h)

-- a frame keeps its number
pub still_sent : (n : NetProfile) (p : Plan) (s t : Staging) (m k : ℕ) → IsContinued n p s t → IsUnderWay n p s → SentBy m k s → SentBy m k t
still_sent n p s t m k g u sent v is =
    let o = (g.goes u.initial u.staged).0 in
    let e : u.staged.world.sent ++ o.frames ≡ v.sent = sym o.sent ∙ frames_same t.kept t.boards t.boards o.staged.world v o.staged.is is in
    subst (λ (l : List Sent). IsSomeAnd (numbered_in l k) (λ f. f.by ≡ m)) e (numbered_left (λ f. f.by ≡ m) u.staged.world.sent o.frames k (sent u.staged.world u.staged.is))

pub last_sent : (n : NetProfile) (p : Plan) (s t : Staging) (m before : ℕ) → IsUnderWay n p s → ((w : World) → IsWorld s.kept s.boards w → before ≡ length w.sent) → SendsOnly m s t → LastSentBy m before t
last_sent n p s t m before u count sends v is less =
    let w = u.staged.world in
    let c = count w u.staged.is in
    ⊎_elim
    (λ same. let e : length v.sent ≡ length w.sent = ap length same in absurd (omega (arith, c, e, less)))
    (λ one. subst (λ (l : List Sent). IsSomeAnd (numbered_in l (length l)) (λ f. f.by ≡ m)) (sym one.1) (numbered_last (λ f. f.by ≡ m) w.sent (record { by = m; bytes = one.0 }) refl))
    (sends w v u.staged.is is)

pub sent_now : (m before frame sent : ℕ) (s : Staging) → LastSentBy m before s → ((w : World) → IsWorld s.kept s.boards w → sent ≡ length w.sent) → before < sent → frame ≡ sent → SentBy m frame s
sent_now m before frame sent s last count less same w is =
    let c = count w is in
    let e : length w.sent ≡ frame = omega (arith, c, same) in
    subst (λ (k : ℕ). IsSentBy m k w) e (last w is (omega (arith, c, less)))

-- a frame that a neighbour hears goes along a link
pub hears_along : (n : NetProfile) (s : Staging) (from mote dt word frame : ℕ) → is_linked n.links from mote ≡ true → SentBy from frame s → GoesAlong n (Hear mote dt word frame) s
hears_along n s from mote dt word frame joined sent w is = go (frame_at w frame) (sent w is)
  where
    go : (o : Option Sent) → IsSomeAnd o (λ f. f.by ≡ from) → IsSomeAnd o (λ f. is_linked n.links f.by mote ≡ true)
    go None h = absurd h
    go (Some f) h = subst (λ (k : ℕ). is_linked n.links k mote ≡ true) (sym h) joined

-- ---- lines that are written are in their ranges

pub event_fits : (n : NetProfile) (p : Plan) (s : Staging) (event : Event) → IsUnderWay n p s → IsRehearsed n.motes event → FitsEvent most_motes event
event_fits n p s event u fits =
    let few = u.allowed.motes.1 in
    fits_event n.motes event few (fits_of n.motes event fits)
