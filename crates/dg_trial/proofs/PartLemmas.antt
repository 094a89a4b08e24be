-- The results of playing one part, and parts one after another.
use Rattle.std.proofs.Common.{◌≡◌, ℕ, ◌<◌, false, List, [], ◌∷◌, ◌++◌, length, refl, append_assoc, ap, sym, ◌∙◌, subst, arith}
use Rattle.std.specs.Prelude.{Ok, Err}
use Rattle.dg_base.specs.declared.events.Step.{Step}
use Rattle.dg_nor.specs.Device.{Device}
use Rattle.dg_rules.specs.Sizes.{most_events}
use Rattle.dg_rules.specs.World.{World}
use Rattle.dg_rules.specs.Events.{mote_of}
use Rattle.dg_script.specs.Ranges.{StepInRange}
use Rattle.dg_rules.specs.Golden.{WorldKeepsGolden}
use Rattle.dg_rules.specs.Steps.{WorldStep, EndsRun}
use Rattle.dg_script.specs.declared.report.Report.{Report}
use Rattle.dg_world.specs.Worlds.{IsWorld}
use Rattle.dg_world.specs.Applied.{Applied, FlashAt, RunEnded}
use Rattle.dg_world.specs.Deployments.{deployed}
use Rattle.dg_world.specs.declared.world.World.{World as KeptWorld}
use Rattle.dg_trial.specs.Schedule.{SchedulePart, only}
use Rattle.dg_world.specs.Boards.{WorldStands}
use Rattle.dg_trial.specs.Playing.{LeadsTo, StopsInStep, StopsInPart, PartsPlayed, PartsBegun, PartsPlayedAs, PartsPlay, MayPlayParts, MayPlayOver, PartsGoOnLaw}
use Rattle.dg_end.specs.declared.ends.End.{End}
use Rattle.dg_end.specs.declared.ends.End.TheVariants as ends
use Rattle.dg_trial.proofs.RunLemmas.{step_counts, leads_none, leads_one, leads_then, may_front}
use Rattle.dg_world.proofs.EndureLemmas.{board_stops, event_within, sites_same, other_than, stands_next}

-- ---- the boards after a step

flash_next : (u : World) (x : Step) (board : ℕ) (initial old new : List Device) → mote_of x.event < length u.sites → FlashAt u x board old new → WorldStands u initial old → StopsInStep u x initial new
flash_next u x board initial old new within f b =
    record {
      stopped = board_stops (length u.sites) board initial old new f.before f.after (omega (arith, f.at, within)) b.all f.was f.is f.stopped (f.boards.counts board f.before f.after f.was f.is) f.cause;
      at = f.at;
      made = f.done;
      within = f.within;
      uncut = f.uncut;
      leaves = f.leaves;
      stands = λ m d inside other is. b.stands m d inside (sym (f.boards.others m other) ∙ is);
      others = λ m past. f.boards.others m (other_than m board (length u.sites) (omega (arith, f.at, within)) past) ∙ b.others m past;
    }

-- ---- one part

begun_none : (w : World) (parts : List SchedulePart) (P : World → List SchedulePart → Type 0) → P w parts → PartsBegun w parts P
begun_none w parts P there = record { begun = []; left = parts; split = refl; world = w; run = leads_none w; there = there }

pub step_fits : (motes : ℕ) (w : World) (x : Step) → MayPlayParts motes w (only x) → StepInRange (length w.sites) x
step_fits motes w x may = subst (λ (n : ℕ). StepInRange n x) (sym may.count) (may.fits.0 0)

-- what a call that applies a step asks for
pub may_apply : (motes : ℕ) (k : KeptWorld) (boards : List Device) (x : Step) → MayPlayOver motes k boards (only x) → (w : World) × IsWorld k boards w × StepInRange (length w.sites) x
may_apply motes k boards x m = (m.world, m.is, step_fits motes m.world x m.may)

step_within : (motes : ℕ) (k : KeptWorld) (old : List Device) (w : World) (x : Step) → IsWorld k old w → MayPlayOver motes k old (only x) → mote_of x.event < length w.sites
step_within motes k old w x is m =
    subst (λ (n : ℕ). mote_of x.event < n) (sites_same k old m.world w m.is is) (event_within (length m.world.sites) x.event (step_fits motes m.world x m.may).event)

-- it was applied, as the step of a part
pub applied_played : (motes : ℕ) (w : World) (x : Step) (p : SchedulePart) (v v2 : KeptWorld) (initial old new : List Device) (before reports : List Report) → MayPlayOver motes v old (only x) → p (length w.sent) ≡ x → Applied w x false (deployed v old before) (deployed v2 new reports)
    → IsWorld v old w → WorldStands w initial old → PartsPlayed w (p ∷ []) v2 initial new
applied_played motes w x p v v2 initial old new before reports may at a is stands =
    record {
      world = a.world;
      run = leads_one w a.world p a.reports (subst (λ (y : Step). WorldStep w y a.world a.reports) (sym at) a.step);
      kept_now = a.stood;
      boards = stands_next w a.world v2 (mote_of x.event) initial old new (step_within motes v old w x is may) (step_counts w a.world x a.reports a.step).sites a.stood a.boards a.calm stands;
    }

-- there was no memory
pub nothing_played : (w : World) (parts : List SchedulePart) (initial old new : List Device) → new ≡ old → WorldStands w initial old → PartsBegun w parts (λ u left. WorldStands u initial new)
nothing_played w parts initial old new same stands =
    begun_none w parts (λ u left. WorldStands u initial new) (subst (λ (ds : List Device). WorldStands w initial ds) (sym same) stands)

-- a board stopped in it
pub stopped_in : (motes : ℕ) (w : World) (x : Step) (p : SchedulePart) (v : KeptWorld) (board : ℕ) (initial old new : List Device) → MayPlayOver motes v old (only x) → p (length w.sent) ≡ x → IsWorld v old w → FlashAt w x board old new → WorldStands w initial old
    → PartsBegun w (p ∷ []) (λ u left. StopsInPart u left initial new)
stopped_in motes w x p v board initial old new may at is f stands =
    begun_none w (p ∷ []) (λ u left. StopsInPart u left initial new)
    (record { part = p; more = []; next = refl; stops = subst (λ (y : Step). StopsInStep w y initial new) (sym at) (flash_next w x board initial old new (step_within motes v old w x is may) f stands) })

-- a part may be played as the step that it is after this many frames
pub may_only : (motes : ℕ) (k : KeptWorld) (old : List Device) (x : Step) (p : SchedulePart) → (m : MayPlayOver motes k old (p ∷ [])) → p (length m.world.sent) ≡ x → MayPlayOver motes k old (only x)
may_only motes k old x p m at =
    record {
      world = m.world;
      initial = m.initial;
      is = m.is;
      stands = m.stands;
      may = record {
        keeps = m.may.keeps;
        count = m.may.count;
        few = m.may.few;
        sent = m.may.sent;
        fits = (λ sent. subst (λ (y : Step). StepInRange motes y) at (m.may.fits.0 (length m.world.sent)), tt);
      };
    }

-- it is not one too many
pub not_full : (motes : ℕ) (k : KeptWorld) (old : List Device) (x : Step) (m : MayPlayOver motes k old (only x)) → m.world.events ≡ most_events → ⊥
not_full motes k old x m e = let few = m.may.few in omega (arith, few, e)

-- and finds an image
pub not_lacking : ((w v : World) (x : Step) → WorldKeepsGolden w → StepInRange (length w.sites) x → EndsRun w x v → ⊥) → (motes : ℕ) (k : KeptWorld) (old new : List Device) (x : Step) (m : MayPlayOver motes k old (only x)) → RunEnded m.world x old new → ⊥
not_lacking law motes k old new x m e = law m.world e.world x m.may.keeps (step_fits motes m.world x m.may) e.ends

-- ---- parts after others

-- These parts were played, from a kept world and boards to these.
pub record SoFar (parts : List SchedulePart) (first kept : KeptWorld) (old now : List Device) : Type 0 where
  pub played : (w : World) (initial : List Device) → IsWorld first old w → WorldStands w initial old → PartsPlayed w parts kept initial now

pub so_far_none : (first : KeptWorld) (old : List Device) → SoFar [] first first old old
so_far_none first old = record { played = λ w initial is stands. record { world = w; run = leads_none w; kept_now = is; boards = stands } }

played_join : (w : World) (xs ys : List SchedulePart) (k k2 : KeptWorld) (initial mid now : List Device) (a : PartsPlayed w xs k initial mid) → PartsPlayed a.world ys k2 initial now → PartsPlayed w (xs ++ ys) k2 initial now
played_join w xs ys k k2 initial mid now a b =
    record { world = b.world; run = leads_then w a.world b.world xs ys a.run b.run; kept_now = b.kept_now; boards = b.boards }

pub so_far_more : (xs ys : List SchedulePart) (first k k2 : KeptWorld) (old mid now : List Device) → SoFar xs first k old mid → PartsPlay (Ok tt) ys k k2 mid now → SoFar (xs ++ ys) first k2 old now
so_far_more xs ys first k k2 old mid now s played =
    record { played = λ w initial is stands. let a = s.played w initial is stands in played_join w xs ys k k2 initial mid now a (played a.world initial a.kept_now a.boards) }

begun_later : (w u : World) (xs ys more whole : List SchedulePart) (P Q : World → List SchedulePart → Type 0) → LeadsTo w xs u → PartsBegun u ys P → whole ≡ xs ++ (ys ++ more)
    → ((v : World) (left : List SchedulePart) → P v left → Q v (left ++ more)) → PartsBegun w whole Q
begun_later w u xs ys more whole P Q a b is f =
    record {
      begun = xs ++ b.begun;
      left = b.left ++ more;
      split = is ∙ ap (λ (zs : List SchedulePart). xs ++ zs) (ap (λ (zs : List SchedulePart). zs ++ more) b.split ∙ append_assoc b.begun b.left more) ∙ sym (append_assoc xs b.begun (b.left ++ more));
      world = b.world;
      run = leads_then w u b.world xs b.begun a b.run;
      there = f b.world b.left b.there;
    }

stopped_later : (stop : End) (w : World) (xs ys more whole : List SchedulePart) (k k2 : KeptWorld) (initial mid now : List Device) (a : PartsPlayed w xs k initial mid) → PartsPlayedAs (Err stop) a.world ys k2 initial now
    → whole ≡ xs ++ (ys ++ more) → PartsPlayedAs (Err stop) w whole k2 initial now
stopped_later ends.Memory w xs ys more whole k k2 initial mid now a b is =
    begun_later w a.world xs ys more whole (λ v left. WorldStands v initial now) (λ v left. WorldStands v initial now) a.run b is (λ v left h. h)
stopped_later ends.FlashFault w xs ys more whole k k2 initial mid now a b is =
    begun_later w a.world xs ys more whole (λ v left. StopsInPart v left initial now) (λ v left. StopsInPart v left initial now) a.run b is
    (λ v left h. record { part = h.part; more = h.more ++ more; next = ap (λ (zs : List SchedulePart). zs ++ more) h.next; stops = h.stops })
stopped_later end w xs ys more whole k k2 initial mid now a b is = absurd b

pub so_far_stop : (stop : End) (xs ys more whole : List SchedulePart) (first k k2 : KeptWorld) (old mid now : List Device) → SoFar xs first k old mid → PartsPlay (Err stop) ys k k2 mid now → xs ++ (ys ++ more) ≡ whole → PartsPlay (Err stop) whole first k2 old now
so_far_stop stop xs ys more whole first k k2 old mid now s played is w initial at stands =
    let a = s.played w initial at stands in
    stopped_later stop w xs ys more whole k k2 initial mid now a (played a.world initial a.kept_now a.boards) (sym is)

-- the next parts may be played
pub may_next : PartsGoOnLaw → (motes : ℕ) (xs ys more whole : List SchedulePart) (first k : KeptWorld) (old mid : List Device) → MayPlayOver motes first old whole → SoFar xs first k old mid → xs ++ (ys ++ more) ≡ whole → MayPlayOver motes k mid ys
may_next law motes xs ys more whole first k old mid m s is =
    let a = s.played m.world m.initial m.is m.stands in
    record {
      world = a.world;
      initial = m.initial;
      is = a.kept_now;
      stands = a.boards;
      may = may_front motes a.world ys more (law motes m.world a.world xs (ys ++ more) (subst (λ (zs : List SchedulePart). MayPlayParts motes m.world zs) (sym is) m.may) a.run);
    }
