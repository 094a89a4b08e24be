-- What a plan is to C: its list over the chip that was handed in.
use Rattle.std.proofs.Common.{◌≡◌, ℕ, ◌+◌, ◌-◌, ◌≤◌, List, [], length, get_or, take, refl, sym, subst, ap, ◌∙◌, arith}
use Rattle.std.proofs.lemmas.List.{length-take-le}
use Rattle.std.specs.Prelude.{Option, Some, None, Result, Ok, Err, IfOk, OnOk}
use Rattle.std.specs.Borrow.{GName}
use Rattle.dg_nor.specs.Device.{Ran, more}
use Rattle.dg_nor.specs.Trail.{Trail, operations, last, MayLeave}
use Rattle.dg_slot.specs.Kept.{Held}
use Rattle.dg_volume.specs.Store.{Store, IsNear}
use Rattle.dg_volume.specs.Told.{told, told_held}
use Rattle.dg_volume.specs.declared.volume.Kept.{Kept}
use Rattle.dg_volume.specs.Stands.{Stands}
use Rattle.dg_volume.specs.Acts.{Stops}
use Rattle.dg_volume.specs.declared.volume.InjectFault.{InjectFault}
use Rattle.dg_volume.specs.declared.volume.InjectFault.TheVariants as inject_fault
use Rattle.dg_volume.specs.declared.volume.OrderFault.{OrderFault}
use Rattle.dg_volume.specs.declared.volume.OrderFault.TheVariants as order_fault
use Rattle.dg_volume.specs.declared.volume.TakeFault.{TakeFault}
use Rattle.dg_volume.specs.declared.volume.TakeFault.TheVariants as take_fault
use Rattle.dg_plan.specs.declared.command.Command.{Command}
use Rattle.dg_plan.specs.declared.plan.Plan.{Plan}
use Rattle.dg_plan.specs.Commands.{carried_out}
use Rattle.dg_plan.specs.Plans.{planned, commands_of, chip_of, lists_of, lent_of, plan_device}
use Rattle.dg_plan.specs.Acts.{IsPlanOf}
use Rattle.deluge_c.specs.Answers.{IsRefusal, take_answer, order_answer, inject_answer}
use Rattle.deluge_c.specs.Plans.{made, AreActOf, BeginActOf}

-- ---- results

pub on_ok : {A E : Type 0} {P : A → Type 0} {Q : Type 0} (r : Result A E) → IfOk r P → ((x : A) → P x → Q) → OnOk r Q
on_ok (Ok x) p f = f x p
on_ok (Err e) p f = tt

pub if_ok : {A E : Type 0} {P Q : A → Type 0} (r : Result A E) → IfOk r P → ((x : A) → P x → Q x) → IfOk r Q
if_ok (Ok x) p f = f x p
if_ok (Err e) p f = tt

pub when_ok : {A E : Type 0} {P Q : Type 0} (r : Result A E) → OnOk r P → (P → Q) → OnOk r Q
when_ok (Ok x) p f = f p
when_ok (Err e) p f = tt

none_some : {A : Type 0} {a : A} → None ≡ Some a → ⊥
none_some e = cc

some_same : {A : Type 0} {a b : A} → Some a ≡ Some b → a ≡ b
some_same e = cc

-- what is found in two ways is the same
pub found_same : {A : Type 0} (a b : A) (x : Option A) → Some a ≡ x → x ≡ Some b → a ≡ b
found_same a b x p q = cc

-- a refusal is not a stop
pub refusal_stops_not : (e : TakeFault) → IsRefusal (take_answer e) → e ≡ take_fault.Stopped → ⊥
refusal_stops_not e refused is = let k : take_answer e ≡ 6 = ap take_answer is in omega (arith, refused, k)

pub order_stops_not : (e : OrderFault) → IsRefusal (order_answer e) → e ≡ order_fault.Stopped → ⊥
order_stops_not e refused is = let k : order_answer e ≡ 6 = ap order_answer is in omega (arith, refused, k)

pub inject_stops_not : (e : InjectFault) → IsRefusal (inject_answer e) → e ≡ inject_fault.Stopped → ⊥
inject_stops_not e refused is = let k : inject_answer e ≡ 6 = ap inject_answer is in omega (arith, refused, k)

-- what is reported of an image that is kept
pub told_some : (o : Option Held) (k : Kept) → told o ≡ Some k → (h : Held) × (o ≡ Some h) × (told_held h ≡ k)
told_some None k e = absurd (none_some e)
told_some (Some h) k e = (h, refl, some_same e)

-- ---- the lists are the caller's

pub commands_named : (p q : Plan) → lists_of q ≡ lists_of p → q.commands.ghost_name ≡ p.commands.ghost_name
commands_named p q e = ap (λ (xs : List GName). get_or xs 0 0) e

pub bytes_named : (p q : Plan) → lists_of q ≡ lists_of p → q.bytes.ghost_name ≡ p.bytes.ghost_name
bytes_named p q e = ap (λ (xs : List GName). get_or xs 1 0) e

room_lent : (p q : Plan) → lent_of q ≡ lent_of p → length q.commands.now ≡ length p.commands.now
room_lent p q e = ap (λ (xs : List ℕ). get_or xs 2 0) e

-- ---- a plan that was empty, and what an act makes of it

some_is : (a b : ℕ) → Some a ≡ Some b → a ≡ b
some_is a b e = cc

fell : (lo ln co cn n : ℕ) → co ≡ 0 → ln ≡ lo → cn ≤ ln → Some (lo - co) ≡ more n (Some (ln - cn)) → n ≡ cn
fell lo ln co cn n none same few left = let h : lo - co ≡ ln - cn + n = some_is _ _ left in omega (arith, none, same, few, h)

module _ (t : Trail Store) (chip : List ℕ) (old new : Plan) (cs : List Command) (bs : List ℕ) (n : ℕ) (c : cs ≡ new.commands.now) (b : bs ≡ new.bytes.now)
    (counted : n ≡ length (commands_of new)) (none : commands_of old ≡ []) (handed : chip_of old ≡ chip) (same : chip_of new ≡ chip_of old) where
  count_is : n ≡ new.count
  count_is = counted ∙ length-take-le new.count new.commands.now new.few

  begun : old.count ≡ 0
  begun = sym (length-take-le old.count old.commands.now old.few) ∙ ap (λ (xs : List Command). length xs) none

  pub made_is : planned new ≡ made chip cs bs n
  made_is =
      ap (λ (x : List ℕ). carried_out new.bytes.now (take new.count new.commands.now) x) (same ∙ handed)
      ∙ ap (λ (k : ℕ). carried_out new.bytes.now (take k new.commands.now) chip) (sym count_is)
      ∙ ap (λ (xs : List Command). carried_out new.bytes.now (take n xs) chip) (sym c)
      ∙ ap (λ (xs : List ℕ). carried_out xs (take n cs) chip) (sym b)

  act_by : n ≡ operations t → Stands (planned new) (last t) → AreActOf t chip cs bs n
  act_by count stands = record { count = count; stands = subst (λ (x : List ℕ). Stands x (last t)) made_is stands }

  pub act_of : IsPlanOf t old new → AreActOf t chip cs bs n
  act_of p = let z : length (commands_of old) ≡ 0 = ap (λ (xs : List Command). length xs) none in let k = p.count in act_by (omega (arith, counted, k, z)) p.stands

  pub act_ran : Ran (operations t) (plan_device old) (plan_device new) → Stands (planned new) (last t) → AreActOf t chip cs bs n
  act_ran ran stands =
      let k = fell (length old.commands.now) (length new.commands.now) old.count new.count (operations t) begun (room_lent old new ran.references) new.few ran.left in
      act_by (count_is ∙ sym k) stands

  pub begin_of : Stops t (plan_device old) (plan_device new) → BeginActOf t chip cs bs n
  begin_of h =
      let k = fell (length old.commands.now) (length new.commands.now) old.count new.count h.done begun (room_lent old new h.halts.references) new.few h.halts.left in
      let done : h.done ≡ n = k ∙ sym count_is in
      record {
        few = subst (λ (x : ℕ). x ≤ operations t) done h.halts.within;
        leaves = subst (λ (x : ℕ). MayLeave Stands IsNear t x (made chip cs bs n)) done (subst (MayLeave Stands IsNear t h.done) made_is h.leaves);
      }
