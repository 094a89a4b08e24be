-- From what an event did over a fuse to what its board holds.
use Rattle.std.proofs.Common.{◌≡◌, ℕ, List, ◌+◌, ◌-◌, ◌≤◌, Bool, true, false, refl, ap, sym, ◌∙◌, subst, ⊎_elim, arith}
use Rattle.std.specs.Prelude.{◌||◌, ◌&&◌, not, if◌then◌else◌, ◌∷◌, ◌<◌, min, nat_le, Option, Some, None, Result, Ok, Err, IsSomeAnd}
use Rattle.std.proofs.lemmas.Bool.{lt-leb, le-leb, both_ways}
use Rattle.std.proofs.lemmas.Option.{same_Some}
use Rattle.std.specs.Borrow.{GName}
use Rattle.dg_nor.specs.Device.{Device, Beneath, Endures, MadeMore, Worked, WorkedOrStopped, BeneathWorked, BeneathWorkedOrStopped, fired_now, Ran, Halts, Halted, more}
use Rattle.dg_nor.specs.Fuse.{beneath_of, inner_of, fused_device}
use Rattle.dg_nor.specs.declared.fuse.Fused.{Fused}
use Rattle.dg_nor.specs.Trail.{operations, last, MayLeave}
use Rattle.dg_nor.proofs.DeviceLemmas.{left_ran, left_blown}
use Rattle.dg_nor.proofs.MaskLemmas.{Endures_ran, Endures_halts}
use Rattle.dg_nor.proofs.TrailLemmas.{operations-resting}
use Rattle.dg_volume.specs.Store.{Store, IsNear}
use Rattle.dg_volume.specs.Stands.{Stands}
use Rattle.dg_rules.specs.World.{World as RuleWorld, store_at}
use Rattle.dg_rules.specs.Made.{made_by}
use Rattle.dg_rules.specs.Events.{EventEffect, Does, Refuses, Goes, trail_of}
use Rattle.dg_base.specs.declared.events.Cut.{Cut as PowerCut}
use Rattle.dg_script.specs.declared.report.Cause.{Cause}
use Rattle.dg_world.specs.inner.OutcomeEndings.{ReportsEffect, EventDone, EventStopped, OutcomeEnds}
use Rattle.dg_world.specs.inner.CutEnds.{ended, EventIsWhole, EventIsCut, EventPlayed}
use Rattle.dg_world.specs.Counts.{IsSteady}
use Rattle.dg_world.specs.Cuts.{IsStopped}
use Rattle.dg_world.proofs.CountLemmas.{steady_ran, made_goes, made_refused}
use Rattle.dg_node.specs.Hosts.{host}
use Rattle.dg_node.specs.declared.report.ChipReport.{ChipReport}
use Rattle.dg_node.specs.declared.node.Node.{Node}
use Rattle.dg_world.specs.inner.EventOutcomes.{EventOutcome, EventEnded, Halt, Refused, Unreported, Sends, Changes, Starts, Stopped, NotAVolume, NoImage}

-- ---- without a cut

went_whole : (w : RuleWorld) (m : ℕ) (does : Does) (u : Option Node) (a b : Device) (outcome : EventOutcome) → EventDone w m does u a b outcome → EventIsWhole w m does None u b.image outcome
went_whole w m does u a b outcome x = record { effect = x.effect; goes = x.goes; whole = refl; tells = x.tells }

pub uncut : (r : Result EventOutcome Halt) (w : RuleWorld) (m : ℕ) (does : Does) (v u : Option Node) (a b : Device) → OutcomeEnds r w m does (host a v) (host b u) → EventPlayed (ended false r) w m does None (host a v) (host b u)
uncut (Ok (Refused why)) w m does v u a b x = record { ends = (x.0, x.1.same_image, x.2); endures = Endures_ran x.1.ran; count = steady_ran x.1.ran; made = made_refused does why (store_at w m) a b x.0 x.1.ran }
uncut (Ok Unreported) w m does v u a b x = record { ends = went_whole w m does u a b Unreported x; endures = Endures_ran x.ran; count = steady_ran x.ran; made = made_goes does x.effect (store_at w m) a b x.goes x.ran }
uncut (Ok (Sends frame)) w m does v u a b x = record { ends = went_whole w m does u a b (Sends frame) x; endures = Endures_ran x.ran; count = steady_ran x.ran; made = made_goes does x.effect (store_at w m) a b x.goes x.ran }
uncut (Ok (Changes p q)) w m does v u a b x = record { ends = went_whole w m does u a b (Changes p q) x; endures = Endures_ran x.ran; count = steady_ran x.ran; made = made_goes does x.effect (store_at w m) a b x.goes x.ran }
uncut (Ok (Starts p)) w m does v u a b x = record { ends = went_whole w m does u a b (Starts p) x; endures = Endures_ran x.ran; count = steady_ran x.ran; made = made_goes does x.effect (store_at w m) a b x.goes x.ran }
uncut (Err (Stopped before)) w m does v u a b x = record { ends = record { stopped = x.stops.halts.stopped; done = x.stops.done; within = x.stops.halts.within; uncut = tt; leaves = x.stops.leaves }; endures = Endures_halts x.stops.halts; count = tt; made = tt }
uncut (Err NoImage) w m does v u a b x = record { ends = record { effect = x.effect; goes = x.goes; none = x.none; whole = refl; stands = x.stands }; endures = Endures_ran x.ran; count = steady_ran x.ran; made = made_goes does x.effect (store_at w m) a b x.goes x.ran }
uncut (Err NotAVolume) w m does v u a b x = absurd x

-- a halt without a cut is reported unchanged
pub halted : (h : Halt) → ended false (Err h) ≡ Err h
halted (Stopped before) = refl
halted NotAVolume = refl
halted NoImage = refl

-- ---- over a fuse

-- the device over the board, before and after, as a fuse makes it
pub record IsFused (cut : PowerCut) (a b x y : Device) : Type 0 where
  pub counted : 1 ≤ cut.after
  pub whole : x.blown ≡ false
  pub left : x.left ≡ Some (cut.after - 1)
  pub image : x.image ≡ a.image
  pub faults : x.faults ≡ a.faults
  pub beneath : x.beneath ≡ Some (beneath_of a)
  pub image_then : y.image ≡ b.image
  pub faults_then : y.blown ≡ false → y.faults ≡ b.faults
  pub beneath_then : y.beneath ≡ Some (beneath_of b)
  pub stopped : x.stopped ≡ a.stopped
  pub stopped_then : y.blown ≡ false → y.stopped ≡ b.stopped

worked_by : (n : ℕ) (a b : Beneath) (x y : Option Beneath) → x ≡ Some a → y ≡ Some b → BeneathWorked n x y → Worked n a b
worked_by n a b x y ex ey h = subst (λ (o : Option Beneath). IsSomeAnd o (Worked n a)) ey (subst (λ (o : Option Beneath). BeneathWorked n o y) ex h)

interrupted_by : (n : ℕ) (a b : Beneath) (x y : Option Beneath) → x ≡ Some a → y ≡ Some b → BeneathWorkedOrStopped n x y → WorkedOrStopped n a b
interrupted_by n a b x y ex ey h = subst (λ (o : Option Beneath). IsSomeAnd o (WorkedOrStopped n a)) ey (subst (λ (o : Option Beneath). BeneathWorkedOrStopped n o y) ex h)

not_reached : (cut : PowerCut) (n : ℕ) (a b x y : Device) → IsFused cut a b x y → Ran n x y → nat_le cut.after n ≡ false
not_reached cut n a b x y f r =
    let h = left_ran (cut.after - 1) r f.left in
    lt-leb cut.after n (omega (arith, h.0, f.counted))

fused_ran : {n : ℕ} (cut : PowerCut) (a b x y : Device) → IsFused cut a b x y → Ran n x y → Endures (beneath_of a) (beneath_of b)
fused_ran {n} cut a b x y f r = (worked_by n (beneath_of a) (beneath_of b) x.beneath y.beneath f.beneath f.beneath_then r.beneath).endures

-- the cut did not fire, so that all n operations were made
fused_made : {n : ℕ} (cut : PowerCut) (a b x y : Device) → IsFused cut a b x y → Ran n x y → MadeMore (made_by (Some cut) n) a.made b.made
fused_made {n} cut a b x y f r =
    let h = left_ran (cut.after - 1) r f.left in
    subst (λ (k : ℕ). MadeMore k a.made b.made) (let e : n ≡ min cut.after n = omega (arith, h.0, f.counted) in e)
    (worked_by n (beneath_of a) (beneath_of b) x.beneath y.beneath f.beneath f.beneath_then r.beneath).made

-- the same of an event
fused_goes : (cut : PowerCut) (does : Does) (d : EventEffect) (s : Store) (a b x y : Device) → IsFused cut a b x y → does ≡ Goes d → Ran (operations d.trail) x y → MadeMore (made_by (Some cut) (operations (trail_of does s))) a.made b.made
fused_goes cut does d s a b x y f goes r =
    subst (λ (D : Does). MadeMore (made_by (Some cut) (operations (trail_of D s))) a.made b.made) (sym goes) (fused_made cut a b x y f r)

fused_refused : (cut : PowerCut) (does : Does) (why : Cause) (s : Store) (a b x y : Device) → IsFused cut a b x y → does ≡ Refuses why → Ran 0 x y → MadeMore (made_by (Some cut) (operations (trail_of does s))) a.made b.made
fused_refused cut does why s a b x y f refuses r =
    subst (λ (n : ℕ). MadeMore (made_by (Some cut) n) a.made b.made) (sym (ap (λ (D : Does). operations (trail_of D s)) refuses ∙ operations-resting s 0)) (fused_made cut a b x y f r)

fused_count : {n : ℕ} (cut : PowerCut) (a b x y : Device) → IsFused cut a b x y → Ran n x y → IsSteady a b
fused_count cut a b x y f r = record {
  faults = sym (f.faults_then (r.blown ∙ f.whole)) ∙ r.faults ∙ f.faults;
  stopped = sym (f.stopped_then (r.blown ∙ f.whole)) ∙ r.stopped ∙ f.stopped;
}

fused_halts : {n done : ℕ} (cut : PowerCut) (a b x y : Device) → IsFused cut a b x y → Halts n done x y → Endures (beneath_of a) (beneath_of b)
fused_halts {n} {done} cut a b x y f h =
    (interrupted_by (done + fired_now x.blown y.blown) (beneath_of a) (beneath_of b) x.beneath y.beneath f.beneath f.beneath_then h.beneath).endures

-- where a fuse fired, all operations that were left were made
done_fired : (k done : ℕ) (o : Option ℕ) → Some k ≡ more done o → o ≡ Some 0 → done ≡ k
done_fired k done o h zero = let e : k ≡ 0 + done = same_Some k (0 + done) (h ∙ ap (more done) zero) in omega (arith, e)

fired_one : (was now : Bool) → was ≡ false → now ≡ true → fired_now was now ≡ 1
unfolding fired_now
fired_one false true h k = refl
fired_one false false h k = absurd (both_ways false refl k)
fired_one true now h k = absurd (both_ways true h refl)

-- the cut fired: the operations up to the one that it interrupted were made
cut_made : {n done : ℕ} (cut : PowerCut) (a b x y : Device) → IsFused cut a b x y → Halts n done x y → y.blown ≡ true → b.stopped ≡ false → MadeMore (made_by (Some cut) n) a.made b.made
cut_made {n} {done} cut a b x y f h blown awake =
    let all = interrupted_by (done + fired_now x.blown y.blown) (beneath_of a) (beneath_of b) x.beneath y.beneath f.beneath f.beneath_then h.beneath in
    let count : done + fired_now x.blown y.blown ≡ min cut.after n = ⊎_elim
    (λ was. absurd (both_ways x.blown f.whole was))
    (λ out.
    let one = fired_one x.blown y.blown f.whole blown in
    let all_left = done_fired (cut.after - 1) done y.left (sym f.left ∙ h.left) out.1 in
    omega (arith, one, all_left, out.0, f.counted))
    (h.fired blown) in
    subst (λ (k : ℕ). MadeMore k a.made b.made) count (all.made awake)

fused_whole : (cut : PowerCut) (w : RuleWorld) (m : ℕ) (does : Does) (u : Option Node) (a b x y : Device) (outcome : EventOutcome) → IsFused cut a b x y → EventDone w m does u x y outcome → EventIsWhole w m does (Some cut) u b.image outcome
fused_whole cut w m does u a b x y outcome f g = record {
  effect = g.effect;
  goes = g.goes;
  whole = not_reached cut (operations g.effect.trail) a b x y f g.ran;
  tells = subst (ReportsEffect w m g.effect outcome u) f.image_then g.tells;
}

-- a refused event makes no operation, so that no cut fires in it
blown_effect : (cut : PowerCut) (w : RuleWorld) (m : ℕ) (does : Does) (a b x y : Device) (before : Option ChipReport) → IsFused cut a b x y → y.blown ≡ true → EventStopped does (store_at w m) x y before → EventIsCut w m does (Some cut) b.image before
blown_effect cut w m (Refuses why) a b x y before f blown s =
    let h = left_blown (cut.after - 1) s.stops f.whole blown f.left in
    absurd (omega (arith, h.0, operations-resting (store_at w m) 0))
blown_effect cut w m (Goes d) a b x y before f blown s =
    let h = left_blown (cut.after - 1) s.stops f.whole blown f.left in
    record {
      effect = d;
      goes = refl;
      blown = le-leb cut.after (operations d.trail) (omega (arith, h.0));
      leaves = subst (λ c. MayLeave Stands IsNear d.trail (cut.after - 1) c) f.image_then h.1;
      is_report = s.is_report f.whole blown;
    }

-- no more operations are made than are left
made_within : (n k : ℕ) (o : Option ℕ) → Some k ≡ more n o → n ≤ k
made_within n k None h = cc
made_within n k (Some m) h = let e : k ≡ m + n = same_Some k (m + n) h in omega (arith, e)

-- the board itself stopped, whether the cut fired or not
stopped_itself : (cut : PowerCut) (w : RuleWorld) (m : ℕ) (does : Does) (a b x y : Device) (before : Option ChipReport) → b.stopped ≡ true → IsFused cut a b x y → EventStopped does (store_at w m) x y before → IsStopped w m does (Some cut) b
stopped_itself cut w m does a b x y before stopped f s = record {
  stopped = stopped;
  done = s.stops.done;
  within = s.stops.halts.within;
  uncut = made_within s.stops.done (cut.after - 1) y.left (sym f.left ∙ s.stops.halts.left);
  leaves = subst (λ c. MayLeave Stands IsNear (trail_of does (store_at w m)) s.stops.done c) f.image_then s.stops.leaves;
}

-- a device that is awake now was awake before, since a stopped one stays stopped
steady_awake : (a b : Device) → Endures (beneath_of a) (beneath_of b) → b.stopped ≡ false → IsSteady a b
steady_awake a b endures awake = record { faults = endures.calm awake; stopped = awake ∙ sym (awake_before a.stopped endures.stays) }
  where
    awake_before : (was : Bool) → (was ≡ true → b.stopped ≡ true) → was ≡ false
    awake_before false stays = refl
    awake_before true stays = absurd (both_ways b.stopped awake (stays refl))

fused_stopped : (cut : PowerCut) (w : RuleWorld) (m : ℕ) (does : Does) (v u : Option Node) (a b x y : Device) (before : Option ChipReport) (blown stopped : Bool) → y.blown ≡ blown → b.stopped ≡ stopped → IsFused cut a b x y → EventStopped does (store_at w m) x y before
    → EventPlayed (ended (blown && not stopped) (Err (Stopped before))) w m does (Some cut) (host a v) (host b u)
fused_stopped cut w m does v u a b x y before true false fired awake f s =
    let endures = fused_halts cut a b x y f s.stops.halts in
    record { ends = blown_effect cut w m does a b x y before f fired s; endures = endures; count = steady_awake a b endures awake; made = cut_made cut a b x y f s.stops.halts fired awake }
fused_stopped cut w m does v u a b x y before true true fired stopped f s = record { ends = stopped_itself cut w m does a b x y before stopped f s; endures = fused_halts cut a b x y f s.stops.halts; count = tt; made = tt }
fused_stopped cut w m does v u a b x y before false stopped whole is f s =
    record { ends = stopped_itself cut w m does a b x y before (sym (f.stopped_then whole) ∙ s.stops.halts.stopped) f s; endures = fused_halts cut a b x y f s.stops.halts; count = tt; made = tt }

pub fused : (r : Result EventOutcome Halt) (cut : PowerCut) (w : RuleWorld) (m : ℕ) (does : Does) (v u : Option Node) (a b x y : Device) → IsFused cut a b x y → OutcomeEnds r w m does (host x v) (host y u) → EventPlayed (ended (y.blown && not b.stopped) r) w m does (Some cut) (host a v) (host b u)
fused (Ok (Refused why)) cut w m does v u a b x y f t = record { ends = (t.0, sym f.image_then ∙ t.1.same_image ∙ f.image, t.2); endures = fused_ran cut a b x y f t.1.ran; count = fused_count cut a b x y f t.1.ran; made = fused_refused cut does why (store_at w m) a b x y f t.0 t.1.ran }
fused (Ok Unreported) cut w m does v u a b x y f t = record { ends = fused_whole cut w m does u a b x y Unreported f t; endures = fused_ran cut a b x y f t.ran; count = fused_count cut a b x y f t.ran; made = fused_goes cut does t.effect (store_at w m) a b x y f t.goes t.ran }
fused (Ok (Sends frame)) cut w m does v u a b x y f t = record { ends = fused_whole cut w m does u a b x y (Sends frame) f t; endures = fused_ran cut a b x y f t.ran; count = fused_count cut a b x y f t.ran; made = fused_goes cut does t.effect (store_at w m) a b x y f t.goes t.ran }
fused (Ok (Changes p q)) cut w m does v u a b x y f t = record { ends = fused_whole cut w m does u a b x y (Changes p q) f t; endures = fused_ran cut a b x y f t.ran; count = fused_count cut a b x y f t.ran; made = fused_goes cut does t.effect (store_at w m) a b x y f t.goes t.ran }
fused (Ok (Starts p)) cut w m does v u a b x y f t = record { ends = fused_whole cut w m does u a b x y (Starts p) f t; endures = fused_ran cut a b x y f t.ran; count = fused_count cut a b x y f t.ran; made = fused_goes cut does t.effect (store_at w m) a b x y f t.goes t.ran }
fused (Err (Stopped before)) cut w m does v u a b x y f t = fused_stopped cut w m does v u a b x y before y.blown b.stopped refl refl f t
fused (Err NoImage) cut w m does v u a b x y f t =
    record {
      ends = record { effect = t.effect; goes = t.goes; none = t.none; whole = not_reached cut (operations t.effect.trail) a b x y f t.ran; stands = subst (λ c. Stands c (last t.effect.trail)) f.image_then t.stands };
      endures = fused_ran cut a b x y f t.ran;
      count = fused_count cut a b x y f t.ran;
      made = fused_goes cut does t.effect (store_at w m) a b x y f t.goes t.ran;
    }
fused (Err NotAVolume) cut w m does v u a b x y f t = absurd t

-- a fuse over a board
pub is_fused : {N : Type 0} (device : N → Device) (cut : PowerCut) (a : Device) (f g : Fused N) (name : GName) → 1 ≤ cut.after → fused_device device f ≡ record {
  image = a.image;
  stopped = a.stopped;
  faults = a.faults;
  left = Some (cut.after - 1);
  taken = a.taken;
  blown = false;
  made = None;
  references = name ∷ a.references;
  beneath = Some (beneath_of a);
}
    → IsFused cut a (device (inner_of g)) (fused_device device f) (fused_device device g)
is_fused device cut a f g name counted made = record {
  counted = counted;
  whole = ap (λ (d : Device). d.blown) made;
  left = ap (λ (d : Device). d.left) made;
  image = ap (λ (d : Device). d.image) made;
  faults = ap (λ (d : Device). d.faults) made;
  beneath = ap (λ (d : Device). d.beneath) made;
  image_then = refl;
  faults_then = λ whole. ap (λ (blown : Bool). (device (inner_of g)).faults + (if blown then 1 else 0)) whole ∙ omega arith;
  beneath_then = refl;
  stopped = ap (λ (d : Device). d.stopped) made;
  stopped_then = λ whole. ap (λ (blown : Bool). blown || (device (inner_of g)).stopped) whole;
}

pub played_as : (r q : Result EventEnded Halt) (cut other : Option PowerCut) (w : RuleWorld) (m : ℕ) (does : Does) (v u : Option Node) (a b : Device) → r ≡ q → cut ≡ other → EventPlayed q w m does other (host a v) (host b u) → EventPlayed r w m does cut (host a v) (host b u)
played_as r q cut other w m does v u a b e f p =
    let P : Result EventEnded Halt → Option PowerCut → Type 0 = λ x y. EventPlayed x w m does y (host a v) (host b u) in
    subst (λ x. P x cut) (sym e) (subst (λ y. P q y) (sym f) p)
