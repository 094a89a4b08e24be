use Rattle.std.proofs.Common.{◌+◌, get_or, ap, sym, subst, ◌∙◌}
use Rattle.dg_nor.proofs.DeviceLemmas.{OnErr_from}
use Rattle.dg_control.specs.declared.snapshot.SlotState.TheVariants.{Dirty}
use Rattle.dg_control.specs.declared.snapshot.Snapshot.{Snapshot}
use Rattle.dg_control.specs.declared.control.Control.{Control}
use Rattle.dg_control.specs.Mounted.{IsControlOf, control_snapshot, control_room}
use Rattle.dg_volume.specs.Changes.{keeping, spent}
use Rattle.dg_volume.proofs.CommitLemmas.{commit_acted, commit_stops}
use Rattle.dg_volume.proofs.TakeLemmas.{state_is, slot_commits, kept_next}
use Rattle.dg_volume.proofs.volume.Volume.commit_kept.Goals as goal

pub returns-clause-acted : goal.returns-clause-acted
returns-clause-acted g c s h mounted is keeps =
    let says = c.with_slot-next.ensures in
    let now = c.now.ensures in
    let next = c.with_slot-next.result in
    let image = c.args.image in
    let slots = ap (λ (p : Snapshot). p.slots) now in
    let control = c.set_kept.ensures.control in
    let commits = slot_commits (g.N.Nor.device c.args.nor.now).image c.args.self.now s next image h c.requires.not_golden c.requires.known_image mounted.stands mounted.tells
    (record {
      slot = says.slot ∙ state_is c.slot_state.result c.args.kept h is (record { dirty = c.slot_state.ensures.dirty; live = c.slot_state.ensures.live });
      others = λ j other. says.others j other ∙ ap (λ (p : Snapshot). get_or p.slots j Dirty) now;
      program = says.program ∙ ap (λ (p : Snapshot). p.program) now;
      order = says.order ∙ ap (λ (p : Snapshot). p.order) now;
      waived = says.waived ∙ ap (λ (p : Snapshot). p.waived) now;
      gesture = says.gesture ∙ ap (λ (p : Snapshot). p.gesture) now;
    })
    keeps in
    commit_acted c.args.self.now c.set_kept.new.self next s (keeping image h (spent s)) _ _ commits c.keep.ensures.touches
    (subst (λ (v : Control). IsControlOf (g.N.Nor.device c.keep.new.nor).image v) (sym control) c.in_ok-keep.ensures.ok)
    (ap control_snapshot control ∙ c.in_ok-keep.ensures.now)
    (ap (λ (v : Control). control_room v + 1) control ∙ c.in_ok-keep.ensures.room)
    (kept_next c.args.self.now c.set_kept.new.self s image h c.args.kept mounted.stands.contains.count c.requires.known_image (λ j k. mounted.tells.kept j k (λ x. x)) c.set_kept.ensures.kept c.set_kept.ensures.others is)
    c.in_ok-keep.ensures.ran

pub returns-in_err-keep-clause-stopped : goal.returns-in_err-keep-clause-stopped
returns-in_err-keep-clause-stopped g c = OnErr_from c.from_residual.result (λ s h mounted is keeps.
    let says = c.with_slot-next.ensures in
    let now = c.now.ensures in
    let next = c.with_slot-next.result in
    let image = c.args.image in
    let commits = slot_commits (g.N.Nor.device c.args.nor.now).image c.args.self.now s next image h c.requires.not_golden c.requires.known_image mounted.stands mounted.tells
    (record {
      slot = says.slot ∙ state_is c.slot_state.result c.args.kept h is (record { dirty = c.slot_state.ensures.dirty; live = c.slot_state.ensures.live });
      others = λ j other. says.others j other ∙ ap (λ (p : Snapshot). get_or p.slots j Dirty) now;
      program = says.program ∙ ap (λ (p : Snapshot). p.program) now;
      order = says.order ∙ ap (λ (p : Snapshot). p.order) now;
      waived = says.waived ∙ ap (λ (p : Snapshot). p.waived) now;
      gesture = says.gesture ∙ ap (λ (p : Snapshot). p.gesture) now;
    })
    keeps in
    commit_stops c.args.self.now.control next s (keeping image h (spent s)) _ _ commits c.keep.ensures.touches c.in_err-keep.ensures.stopped)
