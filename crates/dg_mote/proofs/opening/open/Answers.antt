use Rattle.std.proofs.Common.{◌≡◌, ℕ, List, Option, Some, Err, IfSome, sym, ap, subst, ◌∙◌}
use Rattle.dg_slot.specs.Kept.{Held}
use Rattle.dg_slot.specs.Jobs.{IsOpen, outline_of_slot}
use Rattle.dg_slot.specs.declared.states.OpenSlot.{OpenSlot}
use Rattle.dg_volume.specs.Stands.{Mounted}
use Rattle.dg_volume.specs.Store.{Store, held}
use Rattle.dg_mote.proofs.AskLemmas.{take_stops_alone, not_both, opened_kept, take_free, opened_taken, taken_stops}
use Rattle.dg_mote.proofs.opening.open.Goals as goal

pub returns-then-keeps_version-clause-opened : goal.returns-then-keeps_version-clause-opened
returns-then-keeps_version-clause-opened g c s m may =
    let a = g.N.Nor.device c.args.nor.now in
    let i = c.args.image in
    let e = sym (c.keeps_version.ensures (held s i) (c.kept.ensures ∙ m.tells.kept i may.known (λ x. x))) ∙ c.if-keeps_version.true in
    let lends = subst (λ (x : Option OpenSlot). IfSome x (λ o. ((outline_of_slot o).image ≡ i) × ((d : List ℕ) (t : Store) (h : Held) → Mounted d c.args.volume.now t → held t i ≡ Some h → IsOpen d o h))) c.unwrap.ensures c.slot.ensures.lends in
    opened_kept s i c.args.entry a c.slot.new.self c.unwrap.result may e (c.slot.ensures.mounted a.image s m) lends.0 (λ h here. lends.1 a.image s h m here)

pub returns-in-Ok-clause-opened : goal.returns-in-Ok-clause-opened
returns-in-Ok-clause-opened g c s m may =
    let a = g.N.Nor.device c.args.nor.now in
    let b = g.N.Nor.device c.take.new.nor in
    let i = c.args.image in
    let e = sym (c.keeps_version.ensures (held s i) (c.kept.ensures ∙ m.tells.kept i may.known (λ x. x))) ∙ c.if-keeps_version.false in
    let open_now = c.in-Ok.ensures.open in
    opened_taken c.acts_end.ensures.take c.acts_end.ensures.begun s i c.args.entry a b c.take.new.self c.in-Ok.slot may e (c.in-Ok.ensures.acted s m) open_now.0 open_now.1

pub returns-in-Err-clause-stopped : goal.returns-in-Err-clause-stopped
returns-in-Err-clause-stopped g c s m may =
    let a = g.N.Nor.device c.args.nor.now in
    let b = g.N.Nor.device c.take.new.nor in
    let i = c.args.image in
    let x = c.in-Err in
    let e = sym (c.keeps_version.ensures (held s i) (c.kept.ensures ∙ m.tells.kept i may.known (λ x. x))) ∙ c.if-keeps_version.false in
    let free = take_free s i c.args.entry may e in
    let stopped = take_stops_alone x.field-0 (λ other. not_both _ _ (c.take.ensures.refused x.field-0 x.is other s m) free) in
    taken_stops s i c.args.entry a b e (c.take.ensures.stopped (x.is ∙ ap Err stopped) s m)
