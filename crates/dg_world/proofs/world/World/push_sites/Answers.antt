use Rattle.std.proofs.Common.{◌<◌, ◌++◌, refl, sym, ◌∙◌, length, arith}
use Rattle.dg_rules.specs.Changes.{site_lines}
use Rattle.dg_rules.specs.World.{site}
use Rattle.dg_world.proofs.BoardLemmas.{used_at}
use Rattle.dg_world.proofs.CountLemmas.{steady_ran, worked_ran}
use Rattle.dg_world.proofs.FormatLemmas.{calm_more}
use Rattle.dg_world.proofs.FinishLemmas.{read_endures, boards_there, sites_more, read_more, same_boards, read_flash, still_world, next_site, is_volume, flash_of, read_at}
use Rattle.dg_world.proofs.ChipReportLemmas.{told_then}
use Rattle.dg_world.proofs.world.World.push_sites.Goals as goal

pub push_site-requires-clause-volume : goal.push_site-requires-clause-volume
push_site-requires-clause-volume g c =
    let i = c.loop-mote.invariant in
    let is = c.requires.world.1 in
    let within : c.loop-mote.mote < length c.args.self.now.motes.items = omega (arith, c.loop-mote-test.true, c.len-mote-end.ensures) in
    let there : c.loop-mote.mote < length c.loop-mote.boards = boards_there g.N.Nor.device c.args.boards.now c.loop-mote.boards c.args.self.now c.requires.world.0 c.loop-mote.mote c.loop-mote.auto.boards is within in
    let used = used_at g.N.Nor.device c.loop-mote.boards c.loop-mote.mote c.index-boards-mote.result c.index-boards-mote.result there in
    is_volume _ _ _ (next_site _ _ _ _ _ _ _ is i.read used.before within refl)

pub returns-in-Err-clause-boards : goal.returns-in-Err-clause-boards
returns-in-Err-clause-boards g c =
    let i = c.loop-mote.invariant in
    let within : c.loop-mote.mote < length c.args.self.now.motes.items = omega (arith, c.loop-mote-test.true, c.len-mote-end.ensures) in
    let there : c.loop-mote.mote < length c.loop-mote.boards = boards_there g.N.Nor.device c.args.boards.now c.loop-mote.boards c.args.self.now c.requires.world.0 c.loop-mote.mote c.loop-mote.auto.boards c.requires.world.1 within in
    let used = used_at g.N.Nor.device c.loop-mote.boards c.loop-mote.mote c.index-boards-mote.result c.push_site.new.nor there in
    let stopped = c.in-Err.ensures.stopped in
    same_boards _ _ _ (read_more _ _ _ _ _ _ i.read used (read_endures _ _ stopped) stopped.same_image)

pub returns-in-Err-clause-stands : goal.returns-in-Err-clause-stands
returns-in-Err-clause-stands g c = λ w is. still_world _ w _ _ (returns-in-Err-clause-boards g c) is

pub returns-in-Err-clause-flash : goal.returns-in-Err-clause-flash
returns-in-Err-clause-flash g c = λ e same.
    let i = c.loop-mote.invariant in
    let within : c.loop-mote.mote < length c.args.self.now.motes.items = omega (arith, c.loop-mote-test.true, c.len-mote-end.ensures) in
    let there : c.loop-mote.mote < length c.loop-mote.boards = boards_there g.N.Nor.device c.args.boards.now c.loop-mote.boards c.args.self.now c.requires.world.0 c.loop-mote.mote c.loop-mote.auto.boards c.requires.world.1 within in
    let used = used_at g.N.Nor.device c.loop-mote.boards c.loop-mote.mote c.index-boards-mote.result c.push_site.new.nor there in
    flash_of _ e _ _ same (read_flash _ _ _ _ _ _ i.read used c.in-Err.ensures.stopped)

pub loop-mote-preserved : goal.loop-mote-preserved
loop-mote-preserved g c =
    let i = c.loop-mote.invariant in
    let within : c.loop-mote.mote < length c.args.self.now.motes.items = omega (arith, c.loop-mote-test.true, c.len-mote-end.ensures) in
    let there : c.loop-mote.mote < length c.loop-mote.boards = boards_there g.N.Nor.device c.args.boards.now c.loop-mote.boards c.args.self.now c.requires.world.0 c.loop-mote.mote c.loop-mote.auto.boards c.requires.world.1 within in
    let used = used_at g.N.Nor.device c.loop-mote.boards c.loop-mote.mote c.index-boards-mote.result c.push_site.new.nor there in
    let at = read_at c.args.self.now.motes.items c.loop-mote.mote c.index-runs.result.now within c.index-runs.ensures in
    let looked = c.in-Ok.ensures.looked in
    record {
      reported = λ w is.
          told_then c.args.out.now.items c.loop-mote.out.items c.push_site.new.out.items _ _ _ (i.reported w is)
          (c.in-Ok.ensures.reported (site w c.loop-mote.mote) (next_site _ w _ _ _ _ _ is i.read used.before within at))
          (sym (sites_more (λ m. site_lines m (site w m)) c.loop-mote.mote));
      begun = (i.begun.0 ++ c.push_site.ensures.begun.0, told_then c.args.out.now.items c.loop-mote.out.items c.push_site.new.out.items _ _ _ i.begun.1 c.push_site.ensures.begun.1 refl);
      read = read_more _ _ _ _ _ _ i.read used (worked_ran looked.ran) looked.same_image;
      calm = calm_more _ _ _ _ _ _ i.read.first used i.calm (steady_ran looked.ran);
      room = c.push_site.ensures.capacity ∙ i.room;
      few = omega (arith, i.few, c.push_site.ensures.few);
      within = omega (arith, within);
    }

pub returns-clause-stands : goal.returns-clause-stands
returns-clause-stands g c = λ w is. still_world _ w _ _ (same_boards _ _ _ c.loop-mote.invariant.read) is

pub returns-in-Err-clause-others : goal.returns-in-Err-clause-others
returns-in-Err-clause-others g c = λ w is m h.
    let i = c.loop-mote.invariant in
    let within : c.loop-mote.mote < length c.args.self.now.motes.items = omega (arith, c.loop-mote-test.true, c.len-mote-end.ensures) in
    let there : c.loop-mote.mote < length c.loop-mote.boards = boards_there g.N.Nor.device c.args.boards.now c.loop-mote.boards c.args.self.now c.requires.world.0 c.loop-mote.mote c.loop-mote.auto.boards c.requires.world.1 within in
    let used = used_at g.N.Nor.device c.loop-mote.boards c.loop-mote.mote c.index-boards-mote.result c.push_site.new.nor there in
    let stopped = c.in-Err.ensures.stopped in
    let more = read_more _ _ _ _ _ _ i.read used (read_endures _ _ stopped) stopped.same_image in
    more.first.others m (omega (arith, h, within, is.motes))
