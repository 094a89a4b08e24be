use Rattle.std.proofs.Common.{◌≡◌, ◌+◌, ◌*◌, length, take, get_or, ◌++◌, append-nil, append_assoc, refl, sym, ap, ◌∙◌, arith}
use Rattle.dg_control.specs.Sizes.{slots_at, slot_size}
use Rattle.dg_control.specs.Snapshot.{slots_bytes, slot_bytes}
use Rattle.dg_control.specs.declared.snapshot.SlotState.TheVariants.{Dirty}
use Rattle.dg_control.proofs.PlaceLemmas.{put_more, length-slot_bytes, slots_none, slots_next}
use Rattle.dg_control.proofs.place.put_slots.Goals as goal

pub loop-k-init : goal.loop-k-init
loop-k-init c = record { front = sym (append-nil _) ∙ ap (λ x. take slots_at c.args.place.now ++ x) (sym (slots_none c.args.slots.now)); rest = λ n _. refl; long = c.told-place }

pub loop-k-preserved : goal.loop-k-preserved
loop-k-preserved c =
    let k = c.loop-k.k in
    let slots = c.args.slots.now in
    let before = c.loop-k.invariant in
    let slot = get_or slots k Dirty in
    let at = slots_at + slot_size * k in
    record {
      front =
          put_more _ c.put.new.place _ (slot_bytes slot) _ at slot_size (slots_at + slot_size * (k + 1)) c.put.ensures.front c.slot_bytes.ensures (length-slot_bytes slot) (omega arith) before.front
          ∙ append_assoc (take slots_at c.args.place.now) (slots_bytes (take k slots)) (slot_bytes slot)
          ∙ ap (λ x. take slots_at c.args.place.now ++ x) (sym (slots_next slots k (omega (arith, c.requires.long, c.requires.within, c.loop-k-test.true))));
      rest = λ n low. c.put.ensures.rest n (omega (arith, ap length c.slot_bytes.ensures, length-slot_bytes slot)) ∙ before.rest n (omega arith);
      long = c.put.ensures.len;
    }

pub returns-clause-front : goal.returns-clause-front
returns-clause-front c =
    let k = c.loop-k.k in
    let all : c.args.count ≡ k = omega arith in
    ap (λ n. take (slots_at + slot_size * n) c.loop-k.place) all ∙ c.loop-k.invariant.front ∙ ap (λ n. take slots_at c.args.place.now ++ slots_bytes (take n c.args.slots.now)) (sym all)
