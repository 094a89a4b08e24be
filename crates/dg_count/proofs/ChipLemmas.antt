-- What a counter knows of the operations on the chips of motes.
use Rattle.std.proofs.Common.{◌≡◌, ◌≢◌, ℕ, ◌+◌, ◌<◌, ◌≤◌, Bool, false, List, [], ◌∷◌, ◌++◌, inl, inr, sym, ap, subst, ◌∙◌, arith}
use Rattle.std.specs.Prelude.{◌==◌, if◌then◌else◌, slice_get, Option, Some, None}
use Rattle.std.proofs.lemmas.Bool.{cases_eq}
use Rattle.std.proofs.lemmas.Option.{same_Some, slice_get_within}
use Rattle.dg_nor.specs.Device.{Device, PartsRise, MadeMore}
use Rattle.dg_nor.proofs.DeviceLemmas.{PartsRise-none, MadeMore-none, MadeMore_then}
use Rattle.dg_meter.specs.declared.tally.Tally.{Tally}
use Rattle.dg_base.specs.declared.events.Event.{Event}
use Rattle.dg_rules.specs.Events.{mote_of}
use Rattle.dg_rules.specs.Made.{made_in}
use Rattle.dg_rules.specs.Runs.{Played}
use Rattle.dg_rules.specs.Sizes.{most_motes}
use Rattle.dg_rules.specs.World.{World}
use Rattle.dg_script.specs.Items.{Item}
use Rattle.dg_world.specs.Applied.{Applied}
use Rattle.dg_world.specs.Applying.{step_of}
use Rattle.dg_world.specs.Deployments.{Deployment}
use Rattle.dg_replay.specs.Shown.{IsApplied, IsEnding}
use Rattle.dg_events.specs.Made.{item_operations, operations_at}
use Rattle.dg_events.proofs.MadeLemmas.{operations_more}
use Rattle.dg_count.specs.declared.place.EventPlace.{EventPlace}
use Rattle.dg_count.proofs.GivenLemmas.{get_there}
use Rattle.dg_count.specs.Ended.{event_place}
use Rattle.dg_count.specs.Chips.{counts_by, AreTallies, Placement, ChipsMade, HaveMade, HaveEnded}

made_on : (m n k : ℕ) (a b c : Option (List ℕ)) → m + n ≡ k → MadeMore m a b → MadeMore n b c → MadeMore k a c
made_on m n k a b c is first second = subst (λ (j : ℕ). MadeMore j a c) is (MadeMore_then m n a b c first second)

-- the boards are placed, with these tallies
pub have_placed : (k : Placement) (motes : ℕ) (boards : List Device) → k.ended ≡ None → motes ≤ most_motes → AreTallies k.formatted boards → HaveMade k motes boards []
have_placed k motes boards none few are = (
  none,
  λ m b lt there awake.
      subst (λ (o : Option (List ℕ)). MadeMore 0 (Some (counts_by k.formatted m)) o) (sym (are m b (omega (arith, lt, few)) there)) (PartsRise-none (counts_by k.formatted m)),
)

-- ---- events

if_same : (a b n : ℕ) → a ≡ b → (if a == b then n else 0) ≡ n
if_same a b n is = grind arith

if_other : (a b n : ℕ) → b ≢ a → (if a == b then n else 0) ≡ 0
if_other a b n apart = grind arith

-- one event was applied
pub have_applied : (k : Placement) (motes : ℕ) (events : List Played) {p : Played} {e : Event} {reported : Bool} {after : Deployment} → (is : IsApplied p e reported after)
    → HaveMade k motes is.before.boards events → HaveMade k motes after.boards (events ++ p ∷ [])
have_applied k motes events {p} {e} {reported} {after} is was = (was.0, λ m b lt there awake. made m b lt there awake)
  where
    done : Applied p.before (step_of e is.cut) reported is.before after
    done = is.done.applied p.before is.was

    made : (m : ℕ) (b : Device) → m < motes → slice_get after.boards m ≡ Some b → b.stopped ≡ false
        → MadeMore (operations_at m (events ++ p ∷ [])) (Some (counts_by k.formatted m)) b.made
    made m b lt there awake =
        made_on (operations_at m events) (item_operations m p.item p.before) (operations_at m (events ++ p ∷ []))
        (Some (counts_by k.formatted m)) a.0.made b.made (omega (arith, operations_more m events p))
        (was.1 m a.0 lt a.1 (sym (done.calm m a.0 b a.1 there).stopped ∙ awake)) more
      where
        a : (d : Device) × (slice_get is.before.boards m ≡ Some d)
        a = get_there is.before.boards m (omega (arith, slice_get_within after.boards m b there, done.boards.count))

        these : item_operations m p.item p.before ≡ (if mote_of e == m then made_in p.before (step_of e is.cut) else 0)
        these = ap (λ (i : Item). item_operations m i p.before) is.item

        none_here : m ≢ mote_of e → MadeMore 0 a.0.made b.made
        none_here apart =
            subst (λ (d : Device). MadeMore 0 a.0.made d.made) (same_Some a.0 b (sym a.1 ∙ sym (done.boards.others m apart) ∙ there)) (MadeMore-none a.0.made)

        more : MadeMore (item_operations m p.item p.before) a.0.made b.made
        more = elim (cases_eq m (mote_of e)) [
          | inl same ↦ subst (λ (j : ℕ). MadeMore j a.0.made b.made) (sym (these ∙ if_same (mote_of e) m (made_in p.before (step_of e is.cut)) (sym same)))
              (done.made a.0 b (subst (λ (j : ℕ). slice_get is.before.boards j ≡ Some a.0) same a.1) (subst (λ (j : ℕ). slice_get after.boards j ≡ Some b) same there))
          | inr apart ↦ subst (λ (j : ℕ). MadeMore j a.0.made b.made) (sym (these ∙ if_other (mote_of e) m (made_in p.before (step_of e is.cut)) apart)) (none_here apart)
        ]

-- an event found no image to start
pub have_ended : (k : Placement) (ended : Option EventPlace) (motes : ℕ) (events : List Played) {w : World} {e : Event} {boards : List Device} → ended ≡ Some (event_place e)
    → (x : IsEnding w e boards) → HaveMade k motes x.before events → HaveEnded (record k { ended = ended }) motes boards events w (step_of e x.cut)
have_ended k ended motes events {w} {e} {boards} noted x was = (noted, (x.after, x.ends), λ m b lt there awake. made m b lt there awake)
  where
    made : (m : ℕ) (b : Device) → m < motes → slice_get boards m ≡ Some b → b.stopped ≡ false
        → MadeMore (operations_at m events + (if mote_of e == m then made_in w (step_of e x.cut) else 0)) (Some (counts_by k.formatted m)) b.made
    made m b lt there awake = elim (cases_eq m (mote_of e)) [
      | inl same ↦
          let here = get_there x.before m (omega (arith, slice_get_within boards m b there, x.one.count)) in
          made_on (operations_at m events) (made_in w (step_of e x.cut)) (operations_at m events + (if mote_of e == m then made_in w (step_of e x.cut) else 0))
          (Some (counts_by k.formatted m)) here.0.made b.made (omega (arith, if_same (mote_of e) m (made_in w (step_of e x.cut)) (sym same)))
          (was.1 m here.0 lt here.1 (sym (x.calm m here.0 b here.1 there).stopped ∙ awake))
          (x.made here.0 b (subst (λ (j : ℕ). slice_get x.before j ≡ Some here.0) same here.1) (subst (λ (j : ℕ). slice_get boards j ≡ Some b) same there))
      | inr apart ↦
          subst (λ (j : ℕ). MadeMore j (Some (counts_by k.formatted m)) b.made) (omega (arith, if_other (mote_of e) m (made_in w (step_of e x.cut)) apart))
          (was.1 m b lt (sym (x.one.others m apart) ∙ there) awake)
    ]

-- by the tallies of the boards at the end
pub have_settled : (k : Placement) (settled : List Tally) (motes : ℕ) (boards : List Device) (made : ℕ → ℕ) → motes ≤ most_motes → AreTallies settled boards
    → ChipsMade k motes boards made → (m : ℕ) (b : Device) → m < motes → slice_get boards m ≡ Some b → b.stopped ≡ false
    → PartsRise (made m) (counts_by k.formatted m) (counts_by settled m)
have_settled k settled motes boards made few are was m b lt there awake =
    subst (λ (o : Option (List ℕ)). MadeMore (made m) (Some (counts_by k.formatted m)) o) (are m b (omega (arith, lt, few)) there) (was m b lt there awake)
