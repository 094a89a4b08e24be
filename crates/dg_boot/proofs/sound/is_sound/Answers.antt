use Rattle.std.proofs.Common.{ℕ, List, ap, arith}
use Rattle.dg_slot.specs.Layout.{page_sector}
use Rattle.dg_slot.specs.Pages.{page_in}
use Rattle.dg_nor.proofs.ReadLemmas.{Looked_then}
use Rattle.dg_boot.proofs.SoundLemmas.{sound_more, sound_fails, sound_all}
use Rattle.dg_boot.proofs.sound.is_sound.Goals as goal

pub returns-then-not-branch-clause-sound : goal.returns-then-not-branch-clause-sound
returns-then-not-branch-clause-sound g c =
    let image = (g.N.Nor.device c.args.nor.now).image in
    let i = c.args.image in
    sound_fails c.args.kept.now.crc c.args.kept.now.pages (λ p. page_in image (page_sector i p)) c.loop-p.p _ _ _ (omega arith) c.loop-p-test.true c.in_ok-is_page_sound.ensures.sound c.if-not-branch.true
    (ap (λ (d : List ℕ). page_in d (page_sector i c.loop-p.p)) c.loop-p.invariant.looked.same_image) (ap (λ (d : List ℕ). page_in d (page_sector i 0)) c.loop-p.invariant.looked.same_image)

pub loop-p-preserved : goal.loop-p-preserved
loop-p-preserved g c =
    let image = (g.N.Nor.device c.args.nor.now).image in
    let i = c.args.image in
    let before = c.loop-p.invariant in
    let done = c.in_ok-is_page_sound.ensures in
    record {
      sound = sound_more (λ p. page_in image (page_sector i p)) c.loop-p.p _ _ _ (omega arith) before.sound done.sound c.if-not-branch.false
          (ap (λ (d : List ℕ). page_in d (page_sector i c.loop-p.p)) before.looked.same_image) (ap (λ (d : List ℕ). page_in d (page_sector i 0)) before.looked.same_image);
      looked = Looked_then before.looked done.ends;
    }

pub returns-clause-sound : goal.returns-clause-sound
returns-clause-sound g c =
    let image = (g.N.Nor.device c.args.nor.now).image in
    let i = c.args.image in
    sound_all c.args.kept.now.crc c.args.kept.now.pages c.loop-p.p (λ p. page_in image (page_sector i p)) (omega arith) c.requires.first (omega arith) c.loop-p.invariant.sound
