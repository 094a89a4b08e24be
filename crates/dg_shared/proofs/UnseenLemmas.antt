-- Injections and orders look at the chip.
use Rattle.std.proofs.Common.{◌≡◌, ℕ, Bool, true, false, cond, eqb, ltb, length, subst, sym, ap, ◌∙◌}
use Rattle.std.specs.Prelude.{if◌then◌else◌, ◌==◌, Option, Some, None}
use Rattle.dg_object.specs.Object.{Row}
use Rattle.dg_slot.specs.Kept.{Held}
use Rattle.dg_control.specs.declared.snapshot.Order.{Order}
use Rattle.dg_object.specs.Sizes.{most_bytes}
use Rattle.dg_volume.specs.Store.{Store, held}
use Rattle.dg_volume.specs.Changes.{differs_from_kept, refusal_by, order_refusal}
use Rattle.dg_volume.specs.declared.volume.InjectFault.{InjectFault}
use Rattle.dg_volume.specs.declared.volume.InjectFault.TheVariants as inject
use Rattle.dg_volume.specs.declared.volume.OrderFault.{OrderFault}
use Rattle.dg_volume.specs.declared.volume.OrderFault.TheVariants as order_fault
use Rattle.dg_rules.specs.World.{World as RuleWorld, store_at}
use Rattle.dg_rules.specs.Events.{Refuses, inject_unless, inject_row, order_unless, orders}
use Rattle.dg_script.specs.declared.report.Cause.TheVariants as cause
use Rattle.dg_shared.specs.Unseen.{RefusesUnseen}

not_true : {A : Type 0} → false ≡ true → A
not_true e = cc

module _ (w : RuleWorld) (m now word : ℕ) (row : Row) (s : Store) where
  abbrev Unseen : Option InjectFault → Type 0
  Unseen o = RefusesUnseen (inject_unless o w m row now word)

  by_room : {A : Type 0} (b : Bool) → Unseen (cond b (Some (inject.Worn s.room)) None) → A
  by_room true unseen = not_true unseen
  by_room false unseen = absurd unseen

  by_other : {A : Type 0} (b : Bool) → Unseen (cond b (Some inject.Taken) None) → A
  by_other true unseen = not_true unseen
  by_other false unseen = absurd unseen

  by_image_version : {A : Type 0} (h : Held) (older same : Bool) → Unseen (cond older (Some (inject.Stale h.version)) (cond same (cond (differs_from_kept h row) (Some inject.Taken) None) (cond (ltb s.room 2) (Some (inject.Worn s.room)) None))) → A
  by_image_version h true same unseen = not_true unseen
  by_image_version h false true unseen = by_other (differs_from_kept h row) unseen
  by_image_version h false false unseen = by_room (ltb s.room 2) unseen

  by_kept : {A : Type 0} (o : Option Held) → Unseen (refusal_by o s row) → A
  by_kept None unseen = by_room (ltb s.room 2) unseen
  by_kept (Some h) unseen = by_image_version h (ltb row.version h.version) (eqb h.version row.version) unseen

  by_size : {A : Type 0} (empty large golden : Bool) → golden ≡ false → Unseen (cond empty (Some inject.Empty) (cond large (Some inject.TooLarge) (cond golden (Some inject.Reserved) (refusal_by (held s row.image) s row)))) → A
  by_size true large golden other unseen = not_true unseen
  by_size false true golden other unseen = not_true unseen
  by_size false false true other unseen = not_true (sym other)
  by_size false false false other unseen = by_kept (held s row.image) unseen

-- an image that is not golden, and declared
pub row_unseen : {A : Type 0} (w : RuleWorld) (m now word : ℕ) (row : Row) → eqb row.image 0 ≡ false → RefusesUnseen (inject_row w m (Some row) now word) → A
row_unseen w m now word row other unseen =
    by_size w m now word row (store_at w m) (eqb (length row.bytes) 0) (ltb most_bytes (length row.bytes)) (eqb row.image 0) other unseen

pub image_unseen : {A : Type 0} (w : RuleWorld) (m now word image : ℕ) (known : Option Row) (row : Row) → eqb image 0 ≡ false → row.image ≡ image → known ≡ Some row
    → RefusesUnseen (if image == 0 then Refuses cause.Reserved else inject_row w m known now word) → A
image_unseen w m now word image known row other at some unseen =
    let P : Bool → Option Row → Type 0 = λ x o. RefusesUnseen (if x then Refuses cause.Reserved else inject_row w m o now word) in
    let here : P false (Some row) = subst (P false) some (subst (λ (x : Bool). P x known) other unseen) in
    row_unseen w m now word row (ap (λ (i : ℕ). eqb i 0) at ∙ other) here

pub order_by : {A : Type 0} (o : Option OrderFault) (w : RuleWorld) (m now word : ℕ) (order : Order) → RefusesUnseen (order_unless o w m order now word) → A
order_by None w m now word order unseen = absurd unseen
order_by (Some order_fault.Stopped) w m now word order unseen = not_true unseen
order_by (Some (order_fault.Worn room)) w m now word order unseen = not_true unseen
order_by (Some (order_fault.OldOrder kept)) w m now word order unseen = not_true unseen

-- an order of an image that the mote knows looks at the chip
pub order_seen : {A : Type 0} (w : RuleWorld) (m now word : ℕ) (order : Order) → RefusesUnseen (orders w m order now word) → A
order_seen w m now word order unseen = order_by (order_refusal (store_at w m) order) w m now word order unseen
