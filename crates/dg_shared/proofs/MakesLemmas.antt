-- Which events make a board known.
use Rattle.std.proofs.Common.{◌≡◌, ℕ, ◌+◌, eqb, Bool, true, false, refl, sym, ap, ◌∙◌, subst, arith}
use Rattle.std.specs.Prelude.{Option, Some, None, ◌↔◌, if◌then◌else◌, ◌==◌}
use Rattle.std.proofs.lemmas.Bool.Decides.{nat_tests}
use Rattle.dg_object.specs.Object.{Row}
use Rattle.dg_rules.specs.World.{World as RuleWorld, store_at, wide_at}
use Rattle.dg_rules.specs.Events.{Does, Refuses, does, mote_of, knows, injects, orders, inject_row}
use Rattle.dg_volume.specs.Changes.{order_refusal}
use Rattle.dg_volume.specs.Table.{row_at}
use Rattle.dg_control.specs.declared.snapshot.Order.{Order}
use Rattle.dg_base.specs.declared.events.Event.TheVariants.{Inject, Order as OrderEvent}
use Rattle.dg_shared.specs.Unseen.{RefusesUnseen}
use Rattle.dg_shared.proofs.UnseenLemmas.{image_unseen, order_by}
use Rattle.dg_script.specs.declared.report.Cause.TheVariants as cause
use Rattle.dg_shared.specs.LookedInto.{IsLookedInto, MakesKnown}
use Rattle.dg_base.specs.declared.events.Event.{Event}

module _ (D : Does) where
  pub looked_into : (RefusesUnseen D → ⊥) → IsLookedInto D
  looked_into seen = record {
    not_reserved = λ is. seen (subst RefusesUnseen (sym is) refl);
    declared = λ is. seen (subst RefusesUnseen (sym is) refl);
  }

-- what an order or an injection does, by whether its mote knows the image
order_by_width : (w : RuleWorld) (mote : ℕ) (o : Order) (now word : ℕ) → Bool → Does
order_by_width w mote o now word b = if b then orders w mote o now word else Refuses cause.Image

inject_by_width : (w : RuleWorld) (mote image version now word : ℕ) → Bool → Does
inject_by_width w mote image version now word b = if b then injects w mote image version now word else Refuses cause.Image

order_makes : (w : RuleWorld) (mote number image version dt word : ℕ) → knows (wide_at w mote) image ≡ true → MakesKnown w (OrderEvent mote number image version dt word)
unfolding does order_by_width
order_makes w mote number image version dt word is =
    let o : Order = record { number = number; image = image; version = version } in
    looked_into _ (λ unseen. order_by (order_refusal (store_at w mote) o) w mote (w.moment + dt) word o (subst (λ (b : Bool). RefusesUnseen (order_by_width w mote o (w.moment + dt) word b)) is unseen))

narrow_orders : (w : RuleWorld) (mote number image version dt word : ℕ) → knows (wide_at w mote) image ≡ false → MakesKnown w (OrderEvent mote number image version dt word) → ⊥
unfolding does order_by_width
narrow_orders w mote number image version dt word is made =
    made.declared (ap (order_by_width w mote (record { number = number; image = image; version = version }) (w.moment + dt) word) is)

pub narrow_injects : (w : RuleWorld) (mote image version dt word : ℕ) → knows (wide_at w mote) image ≡ false → MakesKnown w (Inject mote image version dt word) → ⊥
unfolding does inject_by_width
narrow_injects w mote image version dt word is made = made.declared (ap (inject_by_width w mote image version (w.moment + dt) word) is)

pub golden_makes : (w : RuleWorld) (mote image version dt word : ℕ) → knows (wide_at w mote) image ≡ true → image ≡ 0 → MakesKnown w (Inject mote image version dt word) → ⊥
unfolding does inject_by_width
golden_makes w mote image version dt word known is made =
    made.not_reserved (ap (inject_by_width w mote image version (w.moment + dt) word) known
    ∙ ap (λ (i : ℕ). if i == 0 then Refuses cause.Reserved else inject_row w mote (row_at w.declared image version) (w.moment + dt) word) is)

pub unknown_makes : (w : RuleWorld) (mote image version dt word : ℕ) → knows (wide_at w mote) image ≡ true → eqb image 0 ≡ false → row_at w.declared image version ≡ None → MakesKnown w (Inject mote image version dt word) → ⊥
unfolding does inject_by_width
unknown_makes w mote image version dt word known other none made =
    let P : Bool → Option Row → Does = λ b o. if b then Refuses cause.Reserved else inject_row w mote o (w.moment + dt) word in
    made.declared (ap (inject_by_width w mote image version (w.moment + dt) word) known ∙ ap (λ (b : Bool). P b (row_at w.declared image version)) other ∙ ap (P false) none)

pub known_makes : (w : RuleWorld) (mote image version dt word : ℕ) (row : Row) → knows (wide_at w mote) image ≡ true → eqb image 0 ≡ false → row.image ≡ image → row_at w.declared image version ≡ Some row → MakesKnown w (Inject mote image version dt word)
unfolding does inject_by_width
known_makes w mote image version dt word row known other at some =
    looked_into _ (λ unseen. image_unseen w mote (w.moment + dt) word image (row_at w.declared image version) row other at some
    (subst (λ (b : Bool). RefusesUnseen (inject_by_width w mote image version (w.moment + dt) word b)) known unseen))

-- the mote of an event, by its number in the event
pub mote_in : (e f : Event) (m : ℕ) → e ≡ f → mote_of e ≡ m → mote_of f ≡ m
mote_in e f m is at = ap mote_of (sym is) ∙ at

order_iff : (w : RuleWorld) (mote number image version dt word : ℕ) (b : Bool) → knows (wide_at w mote) image ≡ b → (b ≡ true) ↔ MakesKnown w (OrderEvent mote number image version dt word)
order_iff w mote number image version dt word true is = (λ x. order_makes w mote number image version dt word is, λ x. refl)
order_iff w mote number image version dt word false is = (λ x. absurd cc, λ made. absurd (narrow_orders w mote number image version dt word is made))

pub order_known_then : (w : RuleWorld) (mote number image version dt word m : ℕ) (b : Bool) → mote ≡ m → knows (wide_at w m) image ≡ b → (b ≡ true) ↔ MakesKnown w (OrderEvent mote number image version dt word)
order_known_then w mote number image version dt word m b at is = order_iff w mote number image version dt word b (ap (λ (k : ℕ). knows (wide_at w k) image) at ∙ is)

pub inject_known_then : (w : RuleWorld) (mote image version dt word m : ℕ) (b : Bool) → mote ≡ m → (b ≡ true) ↔ MakesKnown w (Inject m image version dt word) → (b ≡ true) ↔ MakesKnown w (Inject mote image version dt word)
inject_known_then w mote image version dt word m b at iff = subst (λ (k : ℕ). (b ≡ true) ↔ MakesKnown w (Inject k image version dt word)) (sym at) iff

-- a number other than 0
pub not_zero : (n : ℕ) → (n ≡ 0 → ⊥) → (n == 0) ≡ false
not_zero n other = grind (arith, nat_tests, other)
