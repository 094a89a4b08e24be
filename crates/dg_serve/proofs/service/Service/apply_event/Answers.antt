use Rattle.std.proofs.Common.{◌≡◌, map, get_or, set, refl, sym, ap, subst, ◌∙◌, arith}
use Rattle.std.proofs.lemmas.List.{length-map}
use Rattle.std.specs.Prelude.{slice_index_or, option_map, length, None, Ok, Err}
use Rattle.dg_base.specs.Outside.{Puts, PutsPrefix}
use Rattle.dg_mote.specs.Motes.{sent_in}
use Rattle.dg_world.specs.Worlds.{MayRun}
use Rattle.std.specs.Vec.{with_items}
use Rattle.dg_serve.specs.Standings.{Standing, HandedToSome, handed_by, standing_with, stop_by}
use Rattle.dg_serve.specs.declared.stop.Stop.TheVariants as stop
use Rattle.dg_serve.proofs.ApplyLemmas.{known_at, err_exit, text_is, setting_of, written_back, memory_ends, stopped_ends, err_as, link_counts, fits_event, is_played, untold_ends, unsent_ends, done_ends}
use Rattle.dg_serve.proofs.PlayedLemmas.{played_at, may_run, put_at}
use Rattle.dg_serve.proofs.service.Service.apply_event.Goals as goal

pub event_line-requires : goal.event_line-requires
event_line-requires g c = fits_event c.args.profile.now.motes c.args.event c.requires.allowed.motes.1 c.requires.asks.2.fits

pub returns-in_err-event_line : goal.returns-in_err-event_line
returns-in_err-event_line g c = record {
  ends = λ told reached. err_exit c.from_residual.result stop.Memory c.args.profile.now.motes c.args.profile.now.links c.args.event _ _ c.from_residual.ensures.1 (memory_ends c.args.profile.now.motes c.args.profile.now.links c.args.event _ _ refl refl refl refl refl refl);
}

pub play_alone-requires-clause-alone : goal.play_alone-requires-clause-alone
play_alone-requires-clause-alone g c = c.requires.asks.2.alone

pub play_alone-requires-clause-mote : goal.play_alone-requires-clause-mote
play_alone-requires-clause-mote g c =
    may_run g.N.Nor.device c.args.self.now.timeline.moment c.from-index.result c.args.mote c.as_mut_slice-motes.result.now c.args.boards.now (get_or c.as_mut_slice-motes.result.now c.from-index.result c.index-motes-index.result) (get_or c.args.boards.now c.from-index.result c.index-boards-index.result) (let e = ap length c.as_mut_slice-motes.ensures.value in omega (arith, e, c.from-index.ensures, c.requires.asks.2.known, c.requires.asks.2.motes_are)) (let n = length-map c.args.boards.now g.N.Nor.device in omega (arith, n, c.from-index.ensures, c.requires.asks.2.known, c.requires.asks.2.boards)) (ap (λ x. get_or c.as_mut_slice-motes.result.now c.from-index.result x) c.index-motes-index.is) (ap (λ x. get_or c.args.boards.now c.from-index.result x) c.index-boards-index.is) c.from-index.ensures (λ a was. subst (λ xs. MayRun a.image c.args.self.now.timeline.moment (slice_index_or xs c.args.mote None)) (sym c.as_mut_slice-motes.ensures.value) (c.requires.asks.2.may a was))

pub play_alone-requires-clause-moment : goal.play_alone-requires-clause-moment
play_alone-requires-clause-moment g c = c.requires.asks.2.moment

pub bounds-motes-index : goal.bounds-motes-index
bounds-motes-index g c = (let e = ap length c.as_mut_slice-motes.ensures.value in omega (arith, e, c.from-index.ensures, c.requires.asks.2.known, c.requires.asks.2.motes_are))

pub bounds-boards-index : goal.bounds-boards-index
bounds-boards-index g c = (let n = length-map c.args.boards.now g.N.Nor.device in omega (arith, n, c.from-index.ensures, c.requires.asks.2.known, c.requires.asks.2.boards))

pub returns-in_err-sent : goal.returns-in_err-sent
returns-in_err-sent g c =
    let played = played_at g.N.Nor.device (Err c.in_err-sent.field-0.0) c.args.event c.args.self.now.timeline.moment c.from-index.result c.as_mut_slice-motes.result.now c.args.boards.now (get_or c.as_mut_slice-motes.result.now c.from-index.result c.index-motes-index.result) c.play_alone.new.runs (get_or c.args.boards.now c.from-index.result c.index-boards-index.result) c.play_alone.new.board (let e = ap length c.as_mut_slice-motes.ensures.value in omega (arith, e, c.from-index.ensures, c.requires.asks.2.known, c.requires.asks.2.motes_are)) (let n = length-map c.args.boards.now g.N.Nor.device in omega (arith, n, c.from-index.ensures, c.requires.asks.2.known, c.requires.asks.2.boards)) (ap (λ x. get_or c.as_mut_slice-motes.result.now c.from-index.result x) c.index-motes-index.is) (ap (λ x. get_or c.args.boards.now c.from-index.result x) c.index-boards-index.is) (c.requires.asks.2.at ∙ sym c.from-index.ensures) c.in_err-sent.ensures.plays c.in_err-sent.ensures.powers c.args.mote c.from-index.ensures in
    record {
      ends = λ told reached.
          let p : Standing = standing_with (c.args.self.now, map g.N.Nor.device c.args.boards.now) (g.K.Sink, c.args.out.now) (g.L.Link, c.args.link.now) (told, reached) in
          let q : Standing = standing_with (record { motes = with_items c.args.self.now.motes (set c.as_mut_slice-motes.result.now c.from-index.result c.play_alone.new.runs); timeline = c.args.self.now.timeline; text = c.event_line.new.text; alloc = c.args.self.now.alloc }, map g.N.Nor.device (set c.args.boards.now c.from-index.result c.play_alone.new.board)) (g.K.Sink, c.args.out.now) (g.L.Link, c.args.link.now) (told, reached) in
          err_exit c.from_residual-in_err-sent.result (stop_by c.in_err-sent.field-0.0) c.args.profile.now.motes c.args.profile.now.links c.args.event p q c.from_residual-in_err-sent.ensures.1
          (stopped_ends c.args.profile.now.motes c.args.mote c.args.profile.now.links c.args.event (Err c.in_err-sent.field-0.0) (stop_by c.in_err-sent.field-0.0) p q refl c.requires.asks.2.alone c.requires.asks.2.at
          (setting_of c.args.profile.now.motes c.args.mote c.args.event c.args.event (Err c.in_err-sent.field-0.0) p q c.as_mut_slice-motes.result.now (set c.as_mut_slice-motes.result.now c.from-index.result c.play_alone.new.runs) refl c.as_mut_slice-motes.ensures.value (written_back c.args.self.now c.as_mut_slice-motes.result.now (set c.as_mut_slice-motes.result.now c.from-index.result c.play_alone.new.runs) c.args.mote (slice_index_or (set c.as_mut_slice-motes.result.now c.from-index.result c.play_alone.new.runs) c.args.mote None) c.as_mut_slice-motes.ensures.value (put_at c.from-index.result c.args.mote c.as_mut_slice-motes.result.now c.play_alone.new.runs (let e = ap length c.as_mut_slice-motes.ensures.value in omega (arith, e, c.from-index.ensures, c.requires.asks.2.known, c.requires.asks.2.motes_are)) c.from-index.ensures)) (put_at c.from-index.result c.args.mote c.as_mut_slice-motes.result.now c.play_alone.new.runs (let e = ap length c.as_mut_slice-motes.ensures.value in omega (arith, e, c.from-index.ensures, c.requires.asks.2.known, c.requires.asks.2.motes_are)) c.from-index.ensures) played refl c.requires.asks.2.known c.requires.asks.2.motes_are c.requires.asks.2.off)
          (known_at c.args.profile.now.motes c.args.profile.now.links c.args.event p c.requires.asks.0 c.requires.asks.1 c.requires.asks.2.some) refl refl refl refl refl);
    }

pub returns-in_err-put : goal.returns-in_err-put
returns-in_err-put g c =
    let played = played_at g.N.Nor.device (Ok c.in_ok-sent.sent) c.args.event c.args.self.now.timeline.moment c.from-index.result c.as_mut_slice-motes.result.now c.args.boards.now (get_or c.as_mut_slice-motes.result.now c.from-index.result c.index-motes-index.result) c.play_alone.new.runs (get_or c.args.boards.now c.from-index.result c.index-boards-index.result) c.play_alone.new.board (let e = ap length c.as_mut_slice-motes.ensures.value in omega (arith, e, c.from-index.ensures, c.requires.asks.2.known, c.requires.asks.2.motes_are)) (let n = length-map c.args.boards.now g.N.Nor.device in omega (arith, n, c.from-index.ensures, c.requires.asks.2.known, c.requires.asks.2.boards)) (ap (λ x. get_or c.as_mut_slice-motes.result.now c.from-index.result x) c.index-motes-index.is) (ap (λ x. get_or c.args.boards.now c.from-index.result x) c.index-boards-index.is) (c.requires.asks.2.at ∙ sym c.from-index.ensures) c.in_ok-sent.ensures.plays c.in_ok-sent.ensures.powers c.args.mote c.from-index.ensures in
    let text = text_is c.args.event c.as_slice.result.now c.event_line.new.text.items c.as_slice.ensures.value c.in_ok-event_line.ensures in
    record {
      ends = λ told reached.
          let p : Standing = standing_with (c.args.self.now, map g.N.Nor.device c.args.boards.now) (g.K.Sink, c.args.out.now) (g.L.Link, c.args.link.now) (told, reached) in
          let q : Standing = standing_with (record { motes = with_items c.args.self.now.motes (set c.as_mut_slice-motes.result.now c.from-index.result c.play_alone.new.runs); timeline = c.args.self.now.timeline; text = c.event_line.new.text; alloc = c.args.self.now.alloc }, map g.N.Nor.device (set c.args.boards.now c.from-index.result c.play_alone.new.board)) (g.K.Sink, c.put.new.out) (g.L.Link, c.args.link.now) (told, reached) in
          err_exit c.from_residual-in_err-put.result stop.Write c.args.profile.now.motes c.args.profile.now.links c.args.event p q (err_as c.from_residual-in_err-put.result c.in_err-put.field-0.0 stop.Write c.from_residual-in_err-put.ensures.1 c.in_err-put.ensures.cause)
          (untold_ends c.args.profile.now.motes c.args.profile.now.links c.args.event c.in_ok-sent.sent p q (is_played c.args.profile.now.motes c.args.mote c.args.profile.now.links c.args.event (Ok c.in_ok-sent.sent) c.in_ok-sent.sent p q refl c.requires.asks.2.alone c.requires.asks.2.at (setting_of c.args.profile.now.motes c.args.mote c.args.event c.args.event (Ok c.in_ok-sent.sent) p q c.as_mut_slice-motes.result.now (set c.as_mut_slice-motes.result.now c.from-index.result c.play_alone.new.runs) refl c.as_mut_slice-motes.ensures.value (written_back c.args.self.now c.as_mut_slice-motes.result.now (set c.as_mut_slice-motes.result.now c.from-index.result c.play_alone.new.runs) c.args.mote (slice_index_or (set c.as_mut_slice-motes.result.now c.from-index.result c.play_alone.new.runs) c.args.mote None) c.as_mut_slice-motes.ensures.value (put_at c.from-index.result c.args.mote c.as_mut_slice-motes.result.now c.play_alone.new.runs (let e = ap length c.as_mut_slice-motes.ensures.value in omega (arith, e, c.from-index.ensures, c.requires.asks.2.known, c.requires.asks.2.motes_are)) c.from-index.ensures)) (put_at c.from-index.result c.args.mote c.as_mut_slice-motes.result.now c.play_alone.new.runs (let e = ap length c.as_mut_slice-motes.ensures.value in omega (arith, e, c.from-index.ensures, c.requires.asks.2.known, c.requires.asks.2.motes_are)) c.from-index.ensures) played refl c.requires.asks.2.known c.requires.asks.2.motes_are c.requires.asks.2.off) c.agreement_is_kept.ensures.timely c.requires.asks.2.fits.0 (known_at c.args.profile.now.motes c.args.profile.now.links c.args.event p c.requires.asks.0 c.requires.asks.1 c.requires.asks.2.some) refl)
          (subst (λ t. PutsPrefix (g.K.Sink.written c.args.out.now) (g.K.Sink.written c.put.new.out) t) text c.in_err-put.ensures.err) refl refl c.in_err-put.ensures.counts c.in_err-put.ensures.failed refl);
    }

pub hand_on-requires-clause-known : goal.hand_on-requires-clause-known
hand_on-requires-clause-known g c = c.requires.asks.2.known

pub hand_on-requires-clause-addressees : goal.hand_on-requires-clause-addressees
hand_on-requires-clause-addressees g c = c.requires.asks.2.addressees

pub returns-in_err-hand_on : goal.returns-in_err-hand_on
returns-in_err-hand_on g c =
    let played = played_at g.N.Nor.device (Ok c.in_ok-sent.sent) c.args.event c.args.self.now.timeline.moment c.from-index.result c.as_mut_slice-motes.result.now c.args.boards.now (get_or c.as_mut_slice-motes.result.now c.from-index.result c.index-motes-index.result) c.play_alone.new.runs (get_or c.args.boards.now c.from-index.result c.index-boards-index.result) c.play_alone.new.board (let e = ap length c.as_mut_slice-motes.ensures.value in omega (arith, e, c.from-index.ensures, c.requires.asks.2.known, c.requires.asks.2.motes_are)) (let n = length-map c.args.boards.now g.N.Nor.device in omega (arith, n, c.from-index.ensures, c.requires.asks.2.known, c.requires.asks.2.boards)) (ap (λ x. get_or c.as_mut_slice-motes.result.now c.from-index.result x) c.index-motes-index.is) (ap (λ x. get_or c.args.boards.now c.from-index.result x) c.index-boards-index.is) (c.requires.asks.2.at ∙ sym c.from-index.ensures) c.in_ok-sent.ensures.plays c.in_ok-sent.ensures.powers c.args.mote c.from-index.ensures in
    let text = text_is c.args.event c.as_slice.result.now c.event_line.new.text.items c.as_slice.ensures.value c.in_ok-event_line.ensures in
    let counts = link_counts c.in_err-hand_on.field-0.0 _ _ c.in_err-hand_on.ensures.cause c.in_err-hand_on.ensures.counts in
    record {
      ends = λ told reached.
          let p : Standing = standing_with (c.args.self.now, map g.N.Nor.device c.args.boards.now) (g.K.Sink, c.args.out.now) (g.L.Link, c.args.link.now) (told, reached) in
          let q : Standing = standing_with (record { motes = with_items c.args.self.now.motes (set c.as_mut_slice-motes.result.now c.from-index.result c.play_alone.new.runs); timeline = c.args.self.now.timeline; text = c.event_line.new.text; alloc = c.args.self.now.alloc }, map g.N.Nor.device (set c.args.boards.now c.from-index.result c.play_alone.new.board)) (g.K.Sink, c.put.new.out) (g.L.Link, c.hand_on.new.link) (told, reached) in
          err_exit c.from_residual-in_err-hand_on.result stop.Link c.args.profile.now.motes c.args.profile.now.links c.args.event p q (err_as c.from_residual-in_err-hand_on.result c.in_err-hand_on.field-0.0 stop.Link c.from_residual-in_err-hand_on.ensures.1 c.in_err-hand_on.ensures.cause)
          (unsent_ends c.args.profile.now.motes c.args.profile.now.links c.args.event c.in_ok-sent.sent p q (is_played c.args.profile.now.motes c.args.mote c.args.profile.now.links c.args.event (Ok c.in_ok-sent.sent) c.in_ok-sent.sent p q refl c.requires.asks.2.alone c.requires.asks.2.at (setting_of c.args.profile.now.motes c.args.mote c.args.event c.args.event (Ok c.in_ok-sent.sent) p q c.as_mut_slice-motes.result.now (set c.as_mut_slice-motes.result.now c.from-index.result c.play_alone.new.runs) refl c.as_mut_slice-motes.ensures.value (written_back c.args.self.now c.as_mut_slice-motes.result.now (set c.as_mut_slice-motes.result.now c.from-index.result c.play_alone.new.runs) c.args.mote (slice_index_or (set c.as_mut_slice-motes.result.now c.from-index.result c.play_alone.new.runs) c.args.mote None) c.as_mut_slice-motes.ensures.value (put_at c.from-index.result c.args.mote c.as_mut_slice-motes.result.now c.play_alone.new.runs (let e = ap length c.as_mut_slice-motes.ensures.value in omega (arith, e, c.from-index.ensures, c.requires.asks.2.known, c.requires.asks.2.motes_are)) c.from-index.ensures)) (put_at c.from-index.result c.args.mote c.as_mut_slice-motes.result.now c.play_alone.new.runs (let e = ap length c.as_mut_slice-motes.ensures.value in omega (arith, e, c.from-index.ensures, c.requires.asks.2.known, c.requires.asks.2.motes_are)) c.from-index.ensures) played refl c.requires.asks.2.known c.requires.asks.2.motes_are c.requires.asks.2.off) c.agreement_is_kept.ensures.timely c.requires.asks.2.fits.0 (known_at c.args.profile.now.motes c.args.profile.now.links c.args.event p c.requires.asks.0 c.requires.asks.1 c.requires.asks.2.some) refl)
          (subst (λ t. Puts (g.K.Sink.written c.args.out.now) (g.K.Sink.written c.put.new.out) t) text c.in_ok-put.ensures.ok)
          (subst (λ m. HandedToSome c.args.profile.now.links c.args.profile.now.motes m (sent_in c.in_ok-sent.sent) (g.L.Link.inboxes c.args.link.now) (g.L.Link.inboxes c.hand_on.new.link)) (sym c.requires.asks.2.at) c.in_err-hand_on.ensures.err)
          c.in_ok-put.ensures.unfailed counts.1 counts.0 c.in_err-hand_on.ensures.same_port);
    }

pub returns : goal.returns
returns g c =
    let played = played_at g.N.Nor.device (Ok c.in_ok-sent.sent) c.args.event c.args.self.now.timeline.moment c.from-index.result c.as_mut_slice-motes.result.now c.args.boards.now (get_or c.as_mut_slice-motes.result.now c.from-index.result c.index-motes-index.result) c.play_alone.new.runs (get_or c.args.boards.now c.from-index.result c.index-boards-index.result) c.play_alone.new.board (let e = ap length c.as_mut_slice-motes.ensures.value in omega (arith, e, c.from-index.ensures, c.requires.asks.2.known, c.requires.asks.2.motes_are)) (let n = length-map c.args.boards.now g.N.Nor.device in omega (arith, n, c.from-index.ensures, c.requires.asks.2.known, c.requires.asks.2.boards)) (ap (λ x. get_or c.as_mut_slice-motes.result.now c.from-index.result x) c.index-motes-index.is) (ap (λ x. get_or c.args.boards.now c.from-index.result x) c.index-boards-index.is) (c.requires.asks.2.at ∙ sym c.from-index.ensures) c.in_ok-sent.ensures.plays c.in_ok-sent.ensures.powers c.args.mote c.from-index.ensures in
    let text = text_is c.args.event c.as_slice.result.now c.event_line.new.text.items c.as_slice.ensures.value c.in_ok-event_line.ensures in
    record {
      ends = λ told reached.
          let p : Standing = standing_with (c.args.self.now, map g.N.Nor.device c.args.boards.now) (g.K.Sink, c.args.out.now) (g.L.Link, c.args.link.now) (told, reached) in
          let q : Standing = standing_with (record { motes = with_items c.args.self.now.motes (set c.as_mut_slice-motes.result.now c.from-index.result c.play_alone.new.runs); timeline = c.args.self.now.timeline; text = c.event_line.new.text; alloc = c.args.self.now.alloc }, map g.N.Nor.device (set c.args.boards.now c.from-index.result c.play_alone.new.board)) (g.K.Sink, c.put.new.out) (g.L.Link, c.hand_on.new.link) (told, reached) in
          done_ends c.args.profile.now.motes c.args.profile.now.links c.args.event c.in_ok-sent.sent p q (is_played c.args.profile.now.motes c.args.mote c.args.profile.now.links c.args.event (Ok c.in_ok-sent.sent) c.in_ok-sent.sent p q refl c.requires.asks.2.alone c.requires.asks.2.at (setting_of c.args.profile.now.motes c.args.mote c.args.event c.args.event (Ok c.in_ok-sent.sent) p q c.as_mut_slice-motes.result.now (set c.as_mut_slice-motes.result.now c.from-index.result c.play_alone.new.runs) refl c.as_mut_slice-motes.ensures.value (written_back c.args.self.now c.as_mut_slice-motes.result.now (set c.as_mut_slice-motes.result.now c.from-index.result c.play_alone.new.runs) c.args.mote (slice_index_or (set c.as_mut_slice-motes.result.now c.from-index.result c.play_alone.new.runs) c.args.mote None) c.as_mut_slice-motes.ensures.value (put_at c.from-index.result c.args.mote c.as_mut_slice-motes.result.now c.play_alone.new.runs (let e = ap length c.as_mut_slice-motes.ensures.value in omega (arith, e, c.from-index.ensures, c.requires.asks.2.known, c.requires.asks.2.motes_are)) c.from-index.ensures)) (put_at c.from-index.result c.args.mote c.as_mut_slice-motes.result.now c.play_alone.new.runs (let e = ap length c.as_mut_slice-motes.ensures.value in omega (arith, e, c.from-index.ensures, c.requires.asks.2.known, c.requires.asks.2.motes_are)) c.from-index.ensures) played refl c.requires.asks.2.known c.requires.asks.2.motes_are c.requires.asks.2.off) c.agreement_is_kept.ensures.timely c.requires.asks.2.fits.0 (known_at c.args.profile.now.motes c.args.profile.now.links c.args.event p c.requires.asks.0 c.requires.asks.1 c.requires.asks.2.some) refl)
          (subst (λ t. Puts (g.K.Sink.written c.args.out.now) (g.K.Sink.written c.put.new.out) t) text c.in_ok-put.ensures.ok)
          (subst (λ m. g.L.Link.inboxes c.hand_on.new.link ≡ option_map (handed_by c.args.profile.now.links c.args.profile.now.motes m (sent_in c.in_ok-sent.sent)) (g.L.Link.inboxes c.args.link.now)) (sym c.requires.asks.2.at) c.in_ok-hand_on.ensures.ok)
          refl c.in_ok-hand_on.ensures.same_motes c.in_ok-hand_on.ensures.counts c.in_ok-put.ensures.unfailed c.in_ok-hand_on.ensures.same_port;
    }
