-- Where the lines of a script may stand, and the world that is kept there.
use Rattle.std.proofs.Common.{◌≡◌, ℕ, ◌<◌, Bool, true, false, List, refl, sym, ◌∙◌, subst, arith}
use Rattle.std.specs.Prelude.{Option, Some, None, nat_lt, ◌&&◌, not}
use Rattle.std.proofs.lemmas.Bool.Decides.{nat_tests}
use Rattle.dg_nor.specs.Device.{Device}
use Rattle.dg_base.specs.declared.events.Event.{Event}
use Rattle.dg_base.specs.declared.events.Event.TheVariants.{Tick, Hear, Last, Reset, Inject, Order, Frame}
use Rattle.dg_script.specs.Fitting.{StandsAt, verb_of_event}
use Rattle.dg_script.specs.Verbs.{stands, is_later, is_second}
use Rattle.dg_script.specs.declared.place.Place.{Place}
use Rattle.dg_script.specs.declared.line.Line.TheVariants.{Golden, Boards, Link, Narrow, Image, Happens as EventLine, Round, Sweeps}
use Rattle.dg_rules.specs.World.{World}
use Rattle.dg_world.specs.Worlds.{IsWorld}
use Rattle.dg_world.specs.declared.world.World.{World as KeptWorld}
use Rattle.dg_replay.specs.Playing.{Counted, Seated, InWorld}
use Rattle.dg_replay.specs.declared.player.Player.{Player}

pub false_not : {A : Type 0} (b : Bool) → b ≡ true → b ≡ false → A
false_not b holds fails = absurd (let e : true ≡ false = sym holds ∙ fails in cc)

-- a line that is not played does not occur
pub unplayed : {A : Type 0} → false ≡ true → A
unplayed e = absurd (let f : false ≡ true = e in cc)

both_true : (a b : Bool) → (a && b) ≡ true → (a ≡ true) × (b ≡ true)
both_true true b e = (refl, e)
both_true false b e = absurd (let f : false ≡ true = e in cc)

not_true : (b : Bool) → not b ≡ true → b ≡ false
not_true true e = absurd (let f : false ≡ true = e in cc)
not_true false e = refl

pub above : (n m : ℕ) → nat_lt n m ≡ true → n < m
above n m h = grind (arith, nat_tests)

pub later_at : (place : Place) → is_later place ≡ true → (place.ready ≡ true) × (0 < place.motes)
later_at place e = let b = both_true (nat_lt 0 place.motes) place.ready e in (b.1, above 0 place.motes b.0)

pub second_at : (place : Place) → is_second place ≡ true → (place.ready ≡ false) × (0 < place.motes)
second_at place e = let b = both_true (nat_lt 0 place.motes) (not place.ready) e in (not_true place.ready b.1, above 0 place.motes b.0)

event_stands : (event : Event) (place : Place) → stands (verb_of_event event) place ≡ true → is_later place ≡ true
event_stands (Tick mote dt word) place h = h
event_stands (Hear mote dt word frame) place h = h
event_stands (Last from to dt word) place h = h
event_stands (Reset mote dt word) place h = h
event_stands (Inject mote image version dt word) place h = h
event_stands (Order mote number image version dt word) place h = h
event_stands (Frame mote dt word bytes) place h = h

pub golden_at : (place : Place) (name : List ℕ) (used : ℕ) (content : List ℕ) → StandsAt place (Golden name used content) → (place.ready ≡ false) × (0 < place.motes)
golden_at place name used content h = second_at place h.fits

pub boards_at : (place : Place) → StandsAt place Boards → (place.ready ≡ false) × (0 < place.motes)
boards_at place h = second_at place h.fits

pub link_at : (place : Place) (a b : ℕ) → StandsAt place (Link a b) → ((place.ready ≡ true) × (0 < place.motes)) × (place.events ≡ false)
link_at place a b h = let x = both_true (is_later place) (not place.events) h.0.fits in (later_at place x.0, not_true place.events x.1)

pub narrow_at : (place : Place) (m : ℕ) → StandsAt place (Narrow m) → ((place.ready ≡ true) × (0 < place.motes)) × (place.events ≡ false)
narrow_at place m h = let x = both_true (is_later place) (not place.events) h.0.fits in (later_at place x.0, not_true place.events x.1)

pub image_at : (place : Place) (image version : ℕ) (name content : List ℕ) → StandsAt place (Image image version name content) → (place.ready ≡ true) × (0 < place.motes)
image_at place image version name content h = later_at place h.fits

pub event_at : (place : Place) (event : Event) → StandsAt place (EventLine event) → (place.ready ≡ true) × (0 < place.motes)
event_at place event h = later_at place (event_stands event place h.fits)

pub round_at : (place : Place) (a b : ℕ) → StandsAt place (Round a b) → (place.ready ≡ true) × (0 < place.motes)
round_at place a b h = later_at place h.fits

pub sweeps_at : (place : Place) (n : ℕ) → StandsAt place (Sweeps n) → (place.ready ≡ true) × (0 < place.motes)
sweeps_at place n h = later_at place h.fits

-- a world is kept exactly where the boards are used
pub no_world : (p : Player) (w : Option World) (now : List Device) → p.place.ready ≡ false → InWorld p w now → w ≡ None
no_world p None now before kept = refl
no_world p (Some w) now before k = false_not p.place.ready k.2 before

-- a player that keeps the same world, with the same number of motes
pub in_world_as : (p q : Player) (w : Option World) (now : List Device) → q.world ≡ p.world → q.place.motes ≡ p.place.motes → q.place.ready ≡ p.place.ready → InWorld p w now → InWorld q w now
in_world_as p q None now world motes ready k = ready ∙ k
in_world_as p q (Some w) now world motes ready k = (subst (λ (v : KeptWorld). IsWorld v now w) (sym world) k.0, k.1 ∙ sym motes, ready ∙ k.2, subst (λ (n : ℕ). 0 < n) (sym motes) k.3)

pub seated_as : (p q : Place) (boards : ℕ) → q.motes ≡ p.motes → Seated p boards → Seated q boards
seated_as p q boards motes seats = subst (λ (n : ℕ). 0 < n → Counted n boards) (sym motes) seats
