use Rattle.std.proofs.Common.{◌≡◌, set, refl, sym, ap, subst, ◌∙◌, arith}
use Rattle.std.specs.Prelude.{slice_get, slice_index_or, option_map, length, None}
use Rattle.dg_base.specs.Outside.{Puts, PutsPrefix}
use Rattle.dg_mote.specs.Motes.{sent_in}
use Rattle.dg_world.specs.Worlds.{MayRun}
use Rattle.std.specs.Vec.{with_items}
use Rattle.dg_serve.specs.Standings.{Standing, HandedToSome, handed_by, standing_with}
use Rattle.dg_serve.specs.declared.stop.Stop.TheVariants as stop
use Rattle.dg_serve.proofs.ApplyLemmas.{known_over, err_exit, text_is, setting_of, written_back, memory_ends, stopped_ends, err_as, link_counts, fits_event, is_played, untold_ends, unsent_ends, done_ends}
use Rattle.dg_single.proofs.PlaceLemmas.{put_same}
use Rattle.dg_single.proofs.parts.apply_event.Goals as goal

pub event_line-requires : goal.event_line-requires
event_line-requires g c = fits_event c.args.profile.now.motes c.args.event c.requires.allowed.motes.1 c.requires.asks.4.fits

pub returns-in_err-event_line : goal.returns-in_err-event_line
returns-in_err-event_line g c = record {
  ends = λ boards told reached owns. err_exit c.from_residual.result stop.Memory c.args.profile.now.motes c.args.profile.now.links c.args.event _ _ c.from_residual.ensures.1 (memory_ends c.args.profile.now.motes c.args.profile.now.links c.args.event _ _ refl refl (put_same boards c.args.mote (g.N.Nor.device c.args.board.now) owns.is) refl refl refl);
}

pub play-requires-clause-alone : goal.play-requires-clause-alone
play-requires-clause-alone g c = c.requires.asks.4.alone

pub play-requires-clause-motes : goal.play-requires-clause-motes
play-requires-clause-motes g c = let e = ap length c.as_mut_slice.ensures.value in omega (arith, e, c.requires.asks.4.known, c.requires.asks.4.motes_are)

pub play-requires-clause-may : goal.play-requires-clause-may
play-requires-clause-may g c = subst (λ xs. MayRun (g.N.Nor.device c.args.board.now).image c.args.service.now.timeline.moment (slice_index_or xs c.args.mote None)) (sym c.as_mut_slice.ensures.value) (c.requires.asks.4.may (g.N.Nor.device c.args.board.now) c.requires.asks.3.is)

pub play-requires-clause-moment : goal.play-requires-clause-moment
play-requires-clause-moment g c = c.requires.asks.4.moment

pub returns-in_err-sent : goal.returns-in_err-sent
returns-in_err-sent g c =
    record {
      ends = λ boards told reached owns.
          let x = c.in_err-sent.ensures.played boards owns.is (c.requires.asks.4.at) in
          let p : Standing = standing_with (c.args.service.now, boards) (g.K.Sink, c.args.out.now) (g.L.Link, c.args.link.now) (told, reached) in
          let q : Standing = standing_with (record { motes = with_items c.args.service.now.motes c.play.new.motes; timeline = c.args.service.now.timeline; text = c.event_line.new.text; alloc = c.args.service.now.alloc }, set boards c.args.mote (g.N.Nor.device c.play.new.board)) (g.K.Sink, c.args.out.now) (g.L.Link, c.args.link.now) (told, reached) in
          err_exit c.from_residual-in_err-sent.result c.in_err-sent.field-0.0 c.args.profile.now.motes c.args.profile.now.links c.args.event p q c.from_residual-in_err-sent.ensures.1
          (stopped_ends c.args.profile.now.motes c.args.mote c.args.profile.now.links c.args.event x.0 c.in_err-sent.field-0.0 p q x.1 c.requires.asks.4.alone c.requires.asks.4.at
          (setting_of c.args.profile.now.motes c.args.mote c.args.event c.args.event x.0 p q c.as_mut_slice.result.now c.play.new.motes refl c.as_mut_slice.ensures.value (written_back c.args.service.now c.as_mut_slice.result.now c.play.new.motes c.args.mote (slice_index_or c.play.new.motes c.args.mote None) c.as_mut_slice.ensures.value c.play.ensures.motes) c.play.ensures.motes x.2 refl c.requires.asks.4.known c.requires.asks.4.motes_are c.requires.asks.4.off)
          (known_over c.args.profile.now.motes c.args.profile.now.links c.args.event p c.requires.asks.0 c.requires.asks.1 c.requires.asks.2 (subst (λ m. slice_get c.requires.asks.0 m ≡ slice_get boards m) (sym c.requires.asks.4.at) (c.requires.asks.3.is ∙ sym owns.is)) c.requires.asks.4.some) refl refl refl refl refl);
    }

pub returns-in_err-put : goal.returns-in_err-put
returns-in_err-put g c =
    let text = text_is c.args.event c.as_slice.result.now c.event_line.new.text.items c.as_slice.ensures.value c.in_ok-event_line.ensures in
    record {
      ends = λ boards told reached owns.
          let x = c.in_ok-sent.ensures.played boards owns.is (c.requires.asks.4.at) in
          let p : Standing = standing_with (c.args.service.now, boards) (g.K.Sink, c.args.out.now) (g.L.Link, c.args.link.now) (told, reached) in
          let q : Standing = standing_with (record { motes = with_items c.args.service.now.motes c.play.new.motes; timeline = c.args.service.now.timeline; text = c.event_line.new.text; alloc = c.args.service.now.alloc }, set boards c.args.mote (g.N.Nor.device c.play.new.board)) (g.K.Sink, c.put.new.out) (g.L.Link, c.args.link.now) (told, reached) in
          err_exit c.from_residual-in_err-put.result stop.Write c.args.profile.now.motes c.args.profile.now.links c.args.event p q (err_as c.from_residual-in_err-put.result c.in_err-put.field-0.0 stop.Write c.from_residual-in_err-put.ensures.1 c.in_err-put.ensures.cause)
          (untold_ends c.args.profile.now.motes c.args.profile.now.links c.args.event c.in_ok-sent.sent p q (is_played c.args.profile.now.motes c.args.mote c.args.profile.now.links c.args.event x.0 c.in_ok-sent.sent p q x.1 c.requires.asks.4.alone c.requires.asks.4.at (setting_of c.args.profile.now.motes c.args.mote c.args.event c.args.event x.0 p q c.as_mut_slice.result.now c.play.new.motes refl c.as_mut_slice.ensures.value (written_back c.args.service.now c.as_mut_slice.result.now c.play.new.motes c.args.mote (slice_index_or c.play.new.motes c.args.mote None) c.as_mut_slice.ensures.value c.play.ensures.motes) c.play.ensures.motes x.2 refl c.requires.asks.4.known c.requires.asks.4.motes_are c.requires.asks.4.off) c.agreement_is_kept.ensures.timely c.requires.asks.4.fits.0 (known_over c.args.profile.now.motes c.args.profile.now.links c.args.event p c.requires.asks.0 c.requires.asks.1 c.requires.asks.2 (subst (λ m. slice_get c.requires.asks.0 m ≡ slice_get boards m) (sym c.requires.asks.4.at) (c.requires.asks.3.is ∙ sym owns.is)) c.requires.asks.4.some) refl)
          (subst (λ t. PutsPrefix (g.K.Sink.written c.args.out.now) (g.K.Sink.written c.put.new.out) t) text c.in_err-put.ensures.err) refl refl c.in_err-put.ensures.counts c.in_err-put.ensures.failed refl);
    }

pub hand_on-requires-clause-known : goal.hand_on-requires-clause-known
hand_on-requires-clause-known g c = c.requires.asks.4.known

pub hand_on-requires-clause-addressees : goal.hand_on-requires-clause-addressees
hand_on-requires-clause-addressees g c = c.requires.asks.4.addressees

pub returns-in_err-hand_on : goal.returns-in_err-hand_on
returns-in_err-hand_on g c =
    let text = text_is c.args.event c.as_slice.result.now c.event_line.new.text.items c.as_slice.ensures.value c.in_ok-event_line.ensures in
    let counts = link_counts c.in_err-hand_on.field-0.0 _ _ c.in_err-hand_on.ensures.cause c.in_err-hand_on.ensures.counts in
    record {
      ends = λ boards told reached owns.
          let x = c.in_ok-sent.ensures.played boards owns.is (c.requires.asks.4.at) in
          let p : Standing = standing_with (c.args.service.now, boards) (g.K.Sink, c.args.out.now) (g.L.Link, c.args.link.now) (told, reached) in
          let q : Standing = standing_with (record { motes = with_items c.args.service.now.motes c.play.new.motes; timeline = c.args.service.now.timeline; text = c.event_line.new.text; alloc = c.args.service.now.alloc }, set boards c.args.mote (g.N.Nor.device c.play.new.board)) (g.K.Sink, c.put.new.out) (g.L.Link, c.hand_on.new.link) (told, reached) in
          err_exit c.from_residual-in_err-hand_on.result stop.Link c.args.profile.now.motes c.args.profile.now.links c.args.event p q (err_as c.from_residual-in_err-hand_on.result c.in_err-hand_on.field-0.0 stop.Link c.from_residual-in_err-hand_on.ensures.1 c.in_err-hand_on.ensures.cause)
          (unsent_ends c.args.profile.now.motes c.args.profile.now.links c.args.event c.in_ok-sent.sent p q (is_played c.args.profile.now.motes c.args.mote c.args.profile.now.links c.args.event x.0 c.in_ok-sent.sent p q x.1 c.requires.asks.4.alone c.requires.asks.4.at (setting_of c.args.profile.now.motes c.args.mote c.args.event c.args.event x.0 p q c.as_mut_slice.result.now c.play.new.motes refl c.as_mut_slice.ensures.value (written_back c.args.service.now c.as_mut_slice.result.now c.play.new.motes c.args.mote (slice_index_or c.play.new.motes c.args.mote None) c.as_mut_slice.ensures.value c.play.ensures.motes) c.play.ensures.motes x.2 refl c.requires.asks.4.known c.requires.asks.4.motes_are c.requires.asks.4.off) c.agreement_is_kept.ensures.timely c.requires.asks.4.fits.0 (known_over c.args.profile.now.motes c.args.profile.now.links c.args.event p c.requires.asks.0 c.requires.asks.1 c.requires.asks.2 (subst (λ m. slice_get c.requires.asks.0 m ≡ slice_get boards m) (sym c.requires.asks.4.at) (c.requires.asks.3.is ∙ sym owns.is)) c.requires.asks.4.some) refl)
          (subst (λ t. Puts (g.K.Sink.written c.args.out.now) (g.K.Sink.written c.put.new.out) t) text c.in_ok-put.ensures.ok)
          (subst (λ m. HandedToSome c.args.profile.now.links c.args.profile.now.motes m (sent_in c.in_ok-sent.sent) (g.L.Link.inboxes c.args.link.now) (g.L.Link.inboxes c.hand_on.new.link)) (sym c.requires.asks.4.at) c.in_err-hand_on.ensures.err)
          c.in_ok-put.ensures.unfailed counts.1 counts.0 c.in_err-hand_on.ensures.same_port);
    }

pub returns : goal.returns
returns g c =
    let text = text_is c.args.event c.as_slice.result.now c.event_line.new.text.items c.as_slice.ensures.value c.in_ok-event_line.ensures in
    record {
      ends = λ boards told reached owns.
          let x = c.in_ok-sent.ensures.played boards owns.is (c.requires.asks.4.at) in
          let p : Standing = standing_with (c.args.service.now, boards) (g.K.Sink, c.args.out.now) (g.L.Link, c.args.link.now) (told, reached) in
          let q : Standing = standing_with (record { motes = with_items c.args.service.now.motes c.play.new.motes; timeline = c.args.service.now.timeline; text = c.event_line.new.text; alloc = c.args.service.now.alloc }, set boards c.args.mote (g.N.Nor.device c.play.new.board)) (g.K.Sink, c.put.new.out) (g.L.Link, c.hand_on.new.link) (told, reached) in
          done_ends c.args.profile.now.motes c.args.profile.now.links c.args.event c.in_ok-sent.sent p q (is_played c.args.profile.now.motes c.args.mote c.args.profile.now.links c.args.event x.0 c.in_ok-sent.sent p q x.1 c.requires.asks.4.alone c.requires.asks.4.at (setting_of c.args.profile.now.motes c.args.mote c.args.event c.args.event x.0 p q c.as_mut_slice.result.now c.play.new.motes refl c.as_mut_slice.ensures.value (written_back c.args.service.now c.as_mut_slice.result.now c.play.new.motes c.args.mote (slice_index_or c.play.new.motes c.args.mote None) c.as_mut_slice.ensures.value c.play.ensures.motes) c.play.ensures.motes x.2 refl c.requires.asks.4.known c.requires.asks.4.motes_are c.requires.asks.4.off) c.agreement_is_kept.ensures.timely c.requires.asks.4.fits.0 (known_over c.args.profile.now.motes c.args.profile.now.links c.args.event p c.requires.asks.0 c.requires.asks.1 c.requires.asks.2 (subst (λ m. slice_get c.requires.asks.0 m ≡ slice_get boards m) (sym c.requires.asks.4.at) (c.requires.asks.3.is ∙ sym owns.is)) c.requires.asks.4.some) refl)
          (subst (λ t. Puts (g.K.Sink.written c.args.out.now) (g.K.Sink.written c.put.new.out) t) text c.in_ok-put.ensures.ok)
          (subst (λ m. g.L.Link.inboxes c.hand_on.new.link ≡ option_map (handed_by c.args.profile.now.links c.args.profile.now.motes m (sent_in c.in_ok-sent.sent)) (g.L.Link.inboxes c.args.link.now)) (sym c.requires.asks.4.at) c.in_ok-hand_on.ensures.ok)
          refl c.in_ok-hand_on.ensures.same_motes c.in_ok-hand_on.ensures.counts c.in_ok-put.ensures.unfailed c.in_ok-hand_on.ensures.same_port;
    }
