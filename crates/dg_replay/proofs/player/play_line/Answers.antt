use Rattle.std.proofs.Common.{ℕ, List, [], refl, ap, option_copied, ◌∙◌, sym}
use Rattle.std.proofs.lemmas.List.{length-map}
use Rattle.dg_replay.proofs.PlayLemmas.{golden_at, boards_at, link_at, narrow_at, image_at, event_at, round_at, sweeps_at}
use Rattle.dg_replay.proofs.SilentLemmas.{motes_as, link_played, narrow_played}
use Rattle.dg_replay.proofs.WayLemmas.{waits_played}
use Rattle.dg_replay.proofs.BusyLemmas.{busy_in, image_has, event_has, round_has, sweeps_has, step_asked, round_asked, sweeps_asked}
use Rattle.dg_script.specs.declared.place.Place.{Place}
use Rattle.dg_rounds.specs.Rounds.{times, sweep}
use Rattle.dg_script.specs.Items.{unreported}
use Rattle.dg_replay.proofs.BytesLemmas.{keep_same, quiet_keeps, line_keeps, golden_keeps, event_line_keeps}
use Rattle.dg_replay.proofs.player.play_line.Goals as goal

pub play_golden-requires-clause-unready : goal.play_golden-requires-clause-unready
play_golden-requires-clause-unready g c =
    let e = c.in-Golden in
    (golden_at c.args.player.now.place e.name e.used e.content (rw e.is at c.requires.may.stands)).0

pub play_boards-requires-clause-unready : goal.play_boards-requires-clause-unready
play_boards-requires-clause-unready g c = (boards_at c.args.player.now.place (rw c.in-Boards.is at c.requires.may.stands)).0

pub returns-in-Nothing-clause-played : goal.returns-in-Nothing-clause-played
returns-in-Nothing-clause-played g c = λ basis behind stood. waits_played basis.table c.args.player.now behind.lines behind.world c.args.line.now _ basis.boards _ c.in-Nothing.is c.requires.may.fits stood

pub returns-in-Nothing-2-clause-played : goal.returns-in-Nothing-2-clause-played
returns-in-Nothing-2-clause-played g c = λ basis behind stood. waits_played basis.table c.args.player.now behind.lines behind.world c.args.line.now _ basis.boards _ c.in-Nothing.is c.requires.may.fits stood

pub returns-in-Motes-clause-played : goal.returns-in-Motes-clause-played
returns-in-Motes-clause-played g c = λ basis behind stood.
    let m = c.requires.may in
    let is = c.in-Motes.is in
    rw is (motes_as basis.table c.play_motes.result c.args.player.now _ behind.lines behind.world c.in-Motes.motes _ _ _ basis.boards _ (rw is at m.stands) refl (rw is at m.fits)
    (sym (length-map c.args.boards.now.items g.N.Nor.device)) c.play_motes.ensures.counted c.play_motes.ensures.missing refl (c.play_motes.ensures.begun basis.boards _) (c.play_motes.ensures.unshown basis.boards _) stood)

pub returns-in-Golden-clause-played : goal.returns-in-Golden-clause-played
returns-in-Golden-clause-played g c = λ basis behind stood.
    rw c.in-Golden.is (c.play_golden.ensures.played basis behind _ stood)

pub returns-in-Boards-clause-played : goal.returns-in-Boards-clause-played
returns-in-Boards-clause-played g c = λ basis behind stood.
    rw c.in-Boards.is (c.play_boards.ensures.played basis behind _ stood)

pub returns-in-Image-clause-played : goal.returns-in-Image-clause-played
returns-in-Image-clause-played g c = λ basis behind stood.
    let e = c.in-Image in
    let m = c.requires.may in
    let p = c.args.player.now in
    rw e.is (busy_in basis.table c.play_image.result p _ behind.lines behind.world _ _ _ _ basis.boards _ _ (image_has behind.lines e.image e.version e.name e.content) (rw e.is at m.stands) (rw e.is at m.fits)
    (image_at p.place e.image e.version e.name e.content (rw e.is at m.stands)).0 refl stood (λ u is there. rw (c.take_bytes-name.ensures, c.take_bytes-content.ensures) at (c.play_image.ensures.played _ basis.boards u is there)))

pub returns-in-Link-clause-played : goal.returns-in-Link-clause-played
returns-in-Link-clause-played g c = λ basis behind stood.
    let e = c.in-Link in
    let m = c.requires.may in
    let p = c.args.player.now in
    let at = link_at p.place e.a e.b (rw e.is at m.stands) in
    rw e.is (link_played p _ behind.lines behind.world e.a e.b _ basis.boards _ (rw e.is at m.stands) (rw e.is at m.fits) at.0.0 at.1 refl c.link.ensures.linked stood)

pub returns-in-Narrow-clause-played : goal.returns-in-Narrow-clause-played
returns-in-Narrow-clause-played g c = λ basis behind stood.
    let e = c.in-Narrow in
    let m = c.requires.may in
    let p = c.args.player.now in
    let at = narrow_at p.place e.mote (rw e.is at m.stands) in
    rw e.is (narrow_played p _ behind.lines behind.world e.mote _ basis.boards _ (rw e.is at m.stands) (rw e.is at m.fits) at.0.0 at.1 refl c.narrow.ensures.marked stood)

pub returns-in-Happens-clause-played : goal.returns-in-Happens-clause-played
returns-in-Happens-clause-played g c = λ basis behind stood.
    let e = c.in-Happens in
    let m = c.requires.may in
    let p = c.args.player.now in
    let cut = c.as_ref-cut in
    rw e.is (busy_in basis.table c.play_event.result p _ behind.lines behind.world _ _ _ _ basis.boards _ _ (event_has behind.lines e.event (option_copied cut.result) (cut.ensures.value ∙ ap (λ (x : Place). x.cut) stood.place)) (rw e.is at m.stands) (rw e.is at m.fits)
    (event_at p.place e.event (rw e.is at m.stands)).0 refl stood (λ u is there. c.play_event.ensures.played u basis.boards is there))

pub returns-in-Round-clause-played : goal.returns-in-Round-clause-played
returns-in-Round-clause-played g c = λ basis behind stood.
    let e = c.in-Round in
    let m = c.requires.may in
    let p = c.args.player.now in
    rw e.is (busy_in basis.table c.play_round.result p _ behind.lines behind.world _ _ _ _ basis.boards _ _ (round_has behind.lines e.a e.b) (rw e.is at m.stands) (rw e.is at m.fits)
    (round_at p.place e.a e.b (rw e.is at m.stands)).0 refl stood (λ u is there. c.play_round.ensures.played u basis.boards is there))

pub returns-in-Sweeps-clause-played : goal.returns-in-Sweeps-clause-played
returns-in-Sweeps-clause-played g c = λ basis behind stood.
    let e = c.in-Sweeps in
    let m = c.requires.may in
    let p = c.args.player.now in
    let known = c.as_slice-links.ensures ∙ ap (λ (x : Place). x.links) stood.place in
    rw e.is (busy_in basis.table c.play_sweeps.result p _ behind.lines behind.world _ _ _ _ basis.boards _ _ (sweeps_has behind.lines e.count c.as_slice-links.result.now known) (rw e.is at m.stands) (rw e.is at m.fits)
    (sweeps_at p.place e.count (rw e.is at m.stands)).0 refl stood (λ u is there. c.play_sweeps.ensures.played u basis.boards is there))

pub play_event-requires : goal.play_event-requires
play_event-requires g c =
    let m = c.requires.may in
    let e = c.in-Happens in
    let p = c.args.player.now in
    let cut = c.as_ref-cut in
    step_asked p _ e.event (option_copied cut.result) m.ready (rw e.is at m.stands) (rw e.is at m.fits) (rw e.is at m.played) cut.ensures.value

pub play_round-requires : goal.play_round-requires
play_round-requires g c =
    let m = c.requires.may in
    let e = c.in-Round in
    round_asked c.args.player.now _ e.a e.b m.ready (rw e.is at m.stands) (rw e.is at m.fits)

pub play_sweeps-requires : goal.play_sweeps-requires
play_sweeps-requires g c =
    let m = c.requires.may in
    let e = c.in-Sweeps in
    sweeps_asked c.args.player.now _ e.count c.as_slice-links.result.now m.ready (rw e.is at m.stands) c.as_slice-links.ensures

pub returns-in-Nothing-clause-kept : goal.returns-in-Nothing-clause-kept
returns-in-Nothing-clause-kept g c = quiet_keeps c.args.player.now.place c.args.line.now _ _ (keep_same [] _ _ refl)

pub returns-in-Nothing-2-clause-kept : goal.returns-in-Nothing-2-clause-kept
returns-in-Nothing-2-clause-kept g c = quiet_keeps c.args.player.now.place c.args.line.now _ _ (keep_same [] _ _ refl)

pub returns-in-Motes-clause-kept : goal.returns-in-Motes-clause-kept
returns-in-Motes-clause-kept g c = quiet_keeps c.args.player.now.place c.args.line.now _ _ (keep_same [] _ _ refl)

pub returns-in-Image-clause-kept : goal.returns-in-Image-clause-kept
returns-in-Image-clause-kept g c = quiet_keeps c.args.player.now.place c.args.line.now _ _ (keep_same [] _ _ refl)

pub returns-in-Link-clause-kept : goal.returns-in-Link-clause-kept
returns-in-Link-clause-kept g c = quiet_keeps c.args.player.now.place c.args.line.now _ _ (keep_same [] _ _ refl)

pub returns-in-Narrow-clause-kept : goal.returns-in-Narrow-clause-kept
returns-in-Narrow-clause-kept g c = quiet_keeps c.args.player.now.place c.args.line.now _ _ (keep_same [] _ _ refl)

pub returns-in-Boards-clause-kept : goal.returns-in-Boards-clause-kept
returns-in-Boards-clause-kept g c = quiet_keeps c.args.player.now.place c.args.line.now _ _ c.play_boards.ensures.kept

pub returns-in-Golden-clause-kept : goal.returns-in-Golden-clause-kept
returns-in-Golden-clause-kept g c = golden_keeps c.args.player.now.place c.args.line.now _ _ _ c.in-Golden.is (λ formats. formats)

pub returns-in-Happens-clause-kept : goal.returns-in-Happens-clause-kept
returns-in-Happens-clause-kept g c = event_line_keeps c.args.player.now.place c.args.line.now c.in-Happens.event (record { event = c.in-Happens.event; cut = option_copied c.as_ref-cut.result }) _ _ c.in-Happens.is refl c.play_event.ensures.kept

pub returns-in-Round-clause-kept : goal.returns-in-Round-clause-kept
returns-in-Round-clause-kept g c = line_keeps c.args.player.now.place c.args.line.now _ _ _ _ c.in-Round.is refl c.play_round.ensures.kept

pub returns-in-Sweeps-clause-kept : goal.returns-in-Sweeps-clause-kept
returns-in-Sweeps-clause-kept g c =
    line_keeps c.args.player.now.place c.args.line.now _ _ _ _ c.in-Sweeps.is (ap (λ (ls : List (ℕ × ℕ)). unreported (times c.in-Sweeps.count (sweep ls))) (sym c.as_slice-links.ensures)) c.play_sweeps.ensures.kept
