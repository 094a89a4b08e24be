use Rattle.std.proofs.Common.{Some, sym, ap}
use Rattle.dg_nor.proofs.DeviceLemmas.{OnErr_from}
use Rattle.dg_object.specs.Records.{outline_of}
use Rattle.dg_slot.specs.Kept.{held_begun}
use Rattle.dg_volume.proofs.TakeLemmas.{header_free, begun_stands, open_first, open_then, open_acted, acted_lent}
use Rattle.dg_volume.proofs.volume.Volume.begin.Goals as goal

pub returns-in_err-slot-clause-stopped : goal.returns-in_err-slot-clause-stopped
returns-in_err-slot-clause-stopped g c =
    OnErr_from c.from_residual.result (λ s mounted.
    let p = outline_of c.args.profile.now in
    let here = header_free _ _ c.args.self.now s p.image c.new.result.image c.requires.known_image c.new.ensures c.requires.dirty c.prepare.ensures.touches mounted in
    open_first s p _ _ here.stands c.in_err-slot.ensures.stopped)

pub commit_kept-requires-clause-mounted : goal.commit_kept-requires-clause-mounted
commit_kept-requires-clause-mounted g c =
    let p = outline_of c.args.profile.now in
    (c.requires.mounted.0, header_free _ _ c.args.self.now c.requires.mounted.0 p.image c.new.result.image c.requires.known_image c.new.ensures c.requires.dirty c.prepare.ensures.touches c.requires.mounted.1)

pub returns-in_err-commit_kept-clause-stopped : goal.returns-in_err-commit_kept-clause-stopped
returns-in_err-commit_kept-clause-stopped g c =
    OnErr_from c.from_residual-in_err-commit_kept.result (λ s mounted.
    let p = outline_of c.args.profile.now in
    let here = header_free _ _ c.args.self.now s p.image c.new.result.image c.requires.known_image c.new.ensures c.requires.dirty c.prepare.ensures.touches mounted in
    open_then s p _ _ _ c.args.self.now here c.in_ok-slot.ensures.ran (c.in_err-commit_kept.ensures.stopped s (Some (held_begun p)) here (ap Some (sym c.begun.ensures)) (begun_stands _ c.in_ok-slot.slot p c.in_ok-slot.ensures.same c.in_ok-slot.ensures.opened)))

pub returns-clause-acted : goal.returns-clause-acted
returns-clause-acted g c s mounted =
    let p = outline_of c.args.profile.now in
    let here = header_free _ _ c.args.self.now s p.image c.new.result.image c.requires.known_image c.new.ensures c.requires.dirty c.prepare.ensures.touches mounted in
    acted_lent _ _ _ c.commit_kept.new.self _
    (open_acted s p _ _ _ c.args.self.now c.commit_kept.new.self here c.in_ok-slot.ensures.ran (c.in_ok-commit_kept.ensures.acted s (Some (held_begun p)) here (ap Some (sym c.begun.ensures)) (begun_stands _ c.in_ok-slot.slot p c.in_ok-slot.ensures.same c.in_ok-slot.ensures.opened)))
