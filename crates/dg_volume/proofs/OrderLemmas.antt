-- Orders that are kept, and orders that are refused.
use Rattle.std.proofs.Common.{◌≡◌, ℕ, ◌<◌, ◌≤◌, false, List, get_or, Some, None, refl, sym, ap, ◌∙◌, arith}
use Rattle.std.specs.Prelude.{nat_le, ◌==◌}
use Rattle.std.proofs.lemmas.Bool.{le-leb, lt-leb, cond-true, cond-false}
use Rattle.std.proofs.lemmas.Bool.Decides.{nat_tests}
use Rattle.dg_control.specs.declared.snapshot.Order.{Order}
use Rattle.dg_control.specs.declared.snapshot.Snapshot.{Snapshot}
use Rattle.dg_control.specs.declared.snapshot.SlotState.{SlotState}
use Rattle.dg_control.specs.declared.snapshot.SlotState.TheVariants.{Dirty}
use Rattle.dg_control.specs.Mounted.{control_snapshot}
use Rattle.dg_volume.specs.Store.{Store}
use Rattle.dg_volume.specs.Stands.{Stands, Tells}
use Rattle.dg_volume.specs.Changes.{ordered, order_refusal}
use Rattle.dg_volume.specs.declared.volume.Volume.{Volume}
use Rattle.dg_volume.specs.declared.volume.OrderFault.{OrderFault}
use Rattle.dg_volume.specs.declared.volume.OrderFault.TheVariants.{OldOrder, Worn}
use Rattle.dg_volume.proofs.CommitLemmas.{Commits}

-- the snapshot has this order, and is otherwise unchanged
pub record SaysOrder (r p : Snapshot) (o : Order) : Type 0 where
  pub order : r.order ≡ o
  pub waived : r.waived ≡ false
  pub slots : r.slots ≡ p.slots
  pub program : r.program ≡ p.program
  pub gesture : r.gesture ≡ p.gesture

pub order_commits : (c : List ℕ) (v : Volume) (s : Store) (next : Snapshot) (o : Order) → Stands c s → Tells v s → SaysOrder next (control_snapshot v.control) o → Commits c v.control next s (ordered s o)
order_commits c v s next o stands tells says = record {
  says = tells.says;
  room = tells.room;
  contains = stands.contains;
  says_next = record {
    slots = λ i known. ap (λ (xs : List SlotState). get_or xs i Dirty) says.slots ∙ tells.says.slots i known;
    program = says.program ∙ tells.says.program;
    order = says.order;
    waived = says.waived;
    gesture = says.gesture ∙ tells.says.gesture;
  };
  contains_next = record { count = stands.contains.count; kept = stands.contains.kept; golden = record { whole = stands.contains.golden.whole }; app = stands.contains.app };
  spent = refl;
}

pub order_old : (s : Store) (o : Order) (kept : ℕ) (e : OrderFault) → kept ≡ s.order.number → o.number ≤ kept → OldOrder kept ≡ e → order_refusal s o ≡ Some e
order_old s o kept e same low is =
    cond-true (nat_le o.number s.order.number) (Some (OldOrder s.order.number)) _ (le-leb o.number s.order.number (omega (arith, same, low))) ∙ ap (λ (n : ℕ). Some (OldOrder n)) (sym same) ∙ ap Some is

pub order_worn : (s : Store) (o : Order) (room : ℕ) (e : OrderFault) → s.order.number < o.number → room ≡ s.room → room < 1 → Worn room ≡ e → order_refusal s o ≡ Some e
order_worn s o room e high same worn is =
    let none : s.room ≡ 0 = omega (arith, same, worn) in
    cond-false (nat_le o.number s.order.number) (Some (OldOrder s.order.number)) _ (lt-leb o.number s.order.number high)
    ∙ cond-true (s.room == 0) (Some (Worn s.room)) None (grind (arith, nat_tests)) ∙ ap (λ (n : ℕ). Some (Worn n)) (sym same) ∙ ap Some is

pub order_allowed : (s : Store) (o : Order) → s.order.number < o.number → 0 < s.room → order_refusal s o ≡ None
order_allowed s o high some =
    cond-false (nat_le o.number s.order.number) (Some (OldOrder s.order.number)) _ (lt-leb o.number s.order.number high)
    ∙ cond-false (s.room == 0) (Some (Worn s.room)) None (grind (arith, nat_tests))
