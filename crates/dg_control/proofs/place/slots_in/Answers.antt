use Rattle.std.proofs.Common.{◌≡◌, ◌≢◌, ◌<◌, length, get_or, take, sym, ap, ⊎_elim, ◌∙◌, arith, rules, below_more, get_or-set_other, get_or-set_same}
use Rattle.dg_control.specs.Sizes.{images}
use Rattle.std.proofs.Math.ListN.{length-set}
use Rattle.std.proofs.lemmas.List.{same_lists, get_or_default, get_or-take, length-take-le}
use Rattle.std.proofs.lemmas.Bool.{cases_lt}
use Rattle.dg_control.specs.Snapshot.{slot_bytes}
use Rattle.dg_control.specs.declared.snapshot.SlotState.TheVariants.{Dirty}
use Rattle.dg_control.proofs.PlaceLemmas.{slot_in_place, slot_in_range, dirty_behind, dirty_any}
use Rattle.dg_control.proofs.place.slots_in.Goals as goal

pub loop-k-init : goal.loop-k-init
loop-k-init c = record { long = search rules; spelled = λ i h. absurd (omega arith); rest = λ i low. dirty_any images i }

pub loop-k-preserved : goal.loop-k-preserved
loop-k-preserved c =
    let before = c.loop-k.invariant in
    let k = c.loop-k.k in
    let slots = c.loop-k.slots in
    let within : k < length slots = omega (arith, before.long, c.loop-k-test.true) in
    record {
      long = length-set slots k _ ∙ before.long;
      spelled = below_more _ _
          (λ j h s fits e.
          let other : j ≢ k = omega arith in
          get_or-set_other slots k j _ Dirty other ∙ before.spelled j h s fits e)
          (λ s fits e. get_or-set_same slots k _ Dirty within ∙ c.slot_at.ensures s fits e);
      rest = λ i low.
          let other : i ≢ k = omega arith in
          get_or-set_other slots k i _ Dirty other ∙ before.rest i (omega arith);
    }

pub returns-clause-spelled : goal.returns-clause-spelled
returns-clause-spelled c xs long all dirty e =
    let n = c.args.count in
    let end : c.loop-k.k ≡ n = omega arith in
    same_lists c.loop-k.slots xs (c.loop-k.invariant.long ∙ sym long) (λ i d h.
    get_or_default c.loop-k.slots i d Dirty h
    ∙ ⊎_elim
    (λ front.
    c.loop-k.invariant.spelled i (omega arith) (get_or xs i Dirty) (slot_in_range xs i all)
    (slot_in_place c.args.place.now (take n xs) n i (length-take-le n xs (omega (arith, long, c.requires))) front e ∙ ap slot_bytes (get_or-take n xs i Dirty front)))
    (λ behind. c.loop-k.invariant.rest i (omega arith) ∙ sym (dirty_behind xs n i behind dirty))
    (cases_lt i n)
    ∙ sym (get_or_default xs i d Dirty (omega (arith, long, c.loop-k.invariant.long))))
