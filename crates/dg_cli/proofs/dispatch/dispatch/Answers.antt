use Rattle.std.proofs.Common.{refl, map}
use Rattle.dg_outside.specs.Outside.{input_of, output_of, link_state, outside}
use Rattle.dg_cli.proofs.DispatchLemmas.{said_done, format_said, inject_said, receive_said, check_said}
use Rattle.dg_cli.proofs.VerbLemmas.{no_link_first, no_link_input, no_link_trial, no_link_wrap}
use Rattle.dg_cli.proofs.DripLemmas.{no_link_of_nodes}
use Rattle.dg_cli.proofs.dispatch.dispatch.Goals as goal

pub returns-in-Replay-clause-done : goal.returns-in-Replay-clause-done
returns-in-Replay-clause-done g c = said_done c.args.command.now _ c.in-Replay.is _ _ _ (c.replay.ensures.done (outside (input_of (g.S.Source, c.args.input.now)) (output_of (g.K.Sink, c.args.out.now)) (link_state (g.L.Link, c.args.link.now)) (g.C.Clock.told c.args.clock.now) (map g.N.Nor.device c.args.boards.now.items)))

pub returns-in-Replay-clause-link_fault : goal.returns-in-Replay-clause-link_fault
returns-in-Replay-clause-link_fault g c = λ e. absurd ((c.replay.ensures.done (outside (input_of (g.S.Source, c.args.input.now)) (output_of (g.K.Sink, c.args.out.now)) (link_state (g.L.Link, c.args.link.now)) (g.C.Clock.told c.args.clock.now) (map g.N.Nor.device c.args.boards.now.items))).never.2 e)

pub returns-in-Serve-clause-done : goal.returns-in-Serve-clause-done
returns-in-Serve-clause-done g c =
    let rules = c.services_keep_the_rules.ensures in
    said_done c.args.command.now _ c.in-Serve.is _ _ _ (record {
      served = c.serve_network.ensures.served;
      keeps = λ profile allowed x table stores fits shaped. rules.kept _ profile _ _ _ _ allowed x table stores fits shaped;
      replayed = λ profile allowed x table stores fits. rules.replayed _ profile _ _ _ _ allowed x table stores fits;
    })

pub returns-in-Serve-clause-link_fault : goal.returns-in-Serve-clause-link_fault
returns-in-Serve-clause-link_fault g c = c.serve_network.ensures.link_fault

pub returns-in-Format-clause-done : goal.returns-in-Format-clause-done
returns-in-Format-clause-done g c =
    said_done c.args.command.now _ c.in-Format.is _ _ _ (format_said _ _ c.in-Format.used c.in-Format.form _ _ _ c.as_bytes.ensures.value (c.format.ensures.does (outside (input_of (g.S.Source, c.args.input.now)) (output_of (g.K.Sink, c.args.out.now)) (link_state (g.L.Link, c.args.link.now)) (g.C.Clock.told c.args.clock.now) (map g.N.Nor.device c.args.boards.now.items))))

pub returns-in-Format-clause-link_fault : goal.returns-in-Format-clause-link_fault
returns-in-Format-clause-link_fault g c = λ e. absurd (no_link_input _ _ _ _ (c.format.ensures.does (outside (input_of (g.S.Source, c.args.input.now)) (output_of (g.K.Sink, c.args.out.now)) (link_state (g.L.Link, c.args.link.now)) (g.C.Clock.told c.args.clock.now) (map g.N.Nor.device c.args.boards.now.items))) e)

pub returns-in-Format-clause-reads : goal.returns-in-Format-clause-reads
returns-in-Format-clause-reads g c = (c.format.ensures.does (outside (input_of (g.S.Source, c.args.input.now)) (output_of (g.K.Sink, c.args.out.now)) (link_state (g.L.Link, c.args.link.now)) (g.C.Clock.told c.args.clock.now) (map g.N.Nor.device c.args.boards.now.items))).counts.read_counts

pub returns-in-Format-clause-writes : goal.returns-in-Format-clause-writes
returns-in-Format-clause-writes g c = (c.format.ensures.does (outside (input_of (g.S.Source, c.args.input.now)) (output_of (g.K.Sink, c.args.out.now)) (link_state (g.L.Link, c.args.link.now)) (g.C.Clock.told c.args.clock.now) (map g.N.Nor.device c.args.boards.now.items))).counts.write_counts

pub returns-in-Inject-clause-done : goal.returns-in-Inject-clause-done
returns-in-Inject-clause-done g c =
    said_done c.args.command.now _ c.in-Inject.is _ _ _ (inject_said c.in-Inject.image c.in-Inject.version _ _ _ _ _ c.as_bytes-in-Inject.ensures.value (c.inject.ensures.does (outside (input_of (g.S.Source, c.args.input.now)) (output_of (g.K.Sink, c.args.out.now)) (link_state (g.L.Link, c.args.link.now)) (g.C.Clock.told c.args.clock.now) (map g.N.Nor.device c.args.boards.now.items))))

pub returns-in-Inject-clause-link_fault : goal.returns-in-Inject-clause-link_fault
returns-in-Inject-clause-link_fault g c = λ e. absurd (no_link_input _ _ _ _ (c.inject.ensures.does (outside (input_of (g.S.Source, c.args.input.now)) (output_of (g.K.Sink, c.args.out.now)) (link_state (g.L.Link, c.args.link.now)) (g.C.Clock.told c.args.clock.now) (map g.N.Nor.device c.args.boards.now.items))).done e)

pub returns-in-Inject-clause-reads : goal.returns-in-Inject-clause-reads
returns-in-Inject-clause-reads g c = (c.inject.ensures.does (outside (input_of (g.S.Source, c.args.input.now)) (output_of (g.K.Sink, c.args.out.now)) (link_state (g.L.Link, c.args.link.now)) (g.C.Clock.told c.args.clock.now) (map g.N.Nor.device c.args.boards.now.items))).done.counts.read_counts

pub returns-in-Inject-clause-writes : goal.returns-in-Inject-clause-writes
returns-in-Inject-clause-writes g c = (c.inject.ensures.does (outside (input_of (g.S.Source, c.args.input.now)) (output_of (g.K.Sink, c.args.out.now)) (link_state (g.L.Link, c.args.link.now)) (g.C.Clock.told c.args.clock.now) (map g.N.Nor.device c.args.boards.now.items))).done.counts.write_counts

pub returns-in-Order-clause-done : goal.returns-in-Order-clause-done
returns-in-Order-clause-done g c =
    said_done c.args.command.now _ c.in-Order.is _ _ _ (c.order.ensures.does (outside (input_of (g.S.Source, c.args.input.now)) (output_of (g.K.Sink, c.args.out.now)) (link_state (g.L.Link, c.args.link.now)) (g.C.Clock.told c.args.clock.now) (map g.N.Nor.device c.args.boards.now.items)))

pub returns-in-Order-clause-link_fault : goal.returns-in-Order-clause-link_fault
returns-in-Order-clause-link_fault g c = λ e. absurd (no_link_first _ _ _ _ (c.order.ensures.does (outside (input_of (g.S.Source, c.args.input.now)) (output_of (g.K.Sink, c.args.out.now)) (link_state (g.L.Link, c.args.link.now)) (g.C.Clock.told c.args.clock.now) (map g.N.Nor.device c.args.boards.now.items))).done e)

pub returns-in-Order-clause-writes : goal.returns-in-Order-clause-writes
returns-in-Order-clause-writes g c = (c.order.ensures.does (outside (input_of (g.S.Source, c.args.input.now)) (output_of (g.K.Sink, c.args.out.now)) (link_state (g.L.Link, c.args.link.now)) (g.C.Clock.told c.args.clock.now) (map g.N.Nor.device c.args.boards.now.items))).done.counts.write_counts

pub returns-in-Boot-clause-done : goal.returns-in-Boot-clause-done
returns-in-Boot-clause-done g c =
    said_done c.args.command.now _ c.in-Boot.is _ _ _ (c.boot.ensures.does (outside (input_of (g.S.Source, c.args.input.now)) (output_of (g.K.Sink, c.args.out.now)) (link_state (g.L.Link, c.args.link.now)) (g.C.Clock.told c.args.clock.now) (map g.N.Nor.device c.args.boards.now.items)))

pub returns-in-Boot-clause-link_fault : goal.returns-in-Boot-clause-link_fault
returns-in-Boot-clause-link_fault g c = λ e. absurd (no_link_first _ _ _ _ (c.boot.ensures.does (outside (input_of (g.S.Source, c.args.input.now)) (output_of (g.K.Sink, c.args.out.now)) (link_state (g.L.Link, c.args.link.now)) (g.C.Clock.told c.args.clock.now) (map g.N.Nor.device c.args.boards.now.items))).done e)

pub returns-in-Boot-clause-writes : goal.returns-in-Boot-clause-writes
returns-in-Boot-clause-writes g c = (c.boot.ensures.does (outside (input_of (g.S.Source, c.args.input.now)) (output_of (g.K.Sink, c.args.out.now)) (link_state (g.L.Link, c.args.link.now)) (g.C.Clock.told c.args.clock.now) (map g.N.Nor.device c.args.boards.now.items))).done.counts.write_counts

pub returns-in-Ping-clause-done : goal.returns-in-Ping-clause-done
returns-in-Ping-clause-done g c =
    said_done c.args.command.now _ c.in-Ping.is _ _ _ (c.ping.ensures.does (outside (input_of (g.S.Source, c.args.input.now)) (output_of (g.K.Sink, c.args.out.now)) (link_state (g.L.Link, c.args.link.now)) (g.C.Clock.told c.args.clock.now) (map g.N.Nor.device c.args.boards.now.items)))

pub returns-in-Ping-clause-link_fault : goal.returns-in-Ping-clause-link_fault
returns-in-Ping-clause-link_fault g c = λ e. absurd (no_link_first _ _ _ _ (c.ping.ensures.does (outside (input_of (g.S.Source, c.args.input.now)) (output_of (g.K.Sink, c.args.out.now)) (link_state (g.L.Link, c.args.link.now)) (g.C.Clock.told c.args.clock.now) (map g.N.Nor.device c.args.boards.now.items))) e)

pub returns-in-Ping-clause-writes : goal.returns-in-Ping-clause-writes
returns-in-Ping-clause-writes g c = (c.ping.ensures.does (outside (input_of (g.S.Source, c.args.input.now)) (output_of (g.K.Sink, c.args.out.now)) (link_state (g.L.Link, c.args.link.now)) (g.C.Clock.told c.args.clock.now) (map g.N.Nor.device c.args.boards.now.items))).counts.write_counts

pub returns-in-Dump-clause-done : goal.returns-in-Dump-clause-done
returns-in-Dump-clause-done g c =
    said_done c.args.command.now _ c.in-Dump.is _ _ _ (c.dump.ensures.does (outside (input_of (g.S.Source, c.args.input.now)) (output_of (g.K.Sink, c.args.out.now)) (link_state (g.L.Link, c.args.link.now)) (g.C.Clock.told c.args.clock.now) (map g.N.Nor.device c.args.boards.now.items)))

pub returns-in-Dump-clause-link_fault : goal.returns-in-Dump-clause-link_fault
returns-in-Dump-clause-link_fault g c = λ e. absurd (no_link_first _ _ _ _ (c.dump.ensures.does (outside (input_of (g.S.Source, c.args.input.now)) (output_of (g.K.Sink, c.args.out.now)) (link_state (g.L.Link, c.args.link.now)) (g.C.Clock.told c.args.clock.now) (map g.N.Nor.device c.args.boards.now.items))) e)

pub returns-in-Dump-clause-writes : goal.returns-in-Dump-clause-writes
returns-in-Dump-clause-writes g c = (c.dump.ensures.does (outside (input_of (g.S.Source, c.args.input.now)) (output_of (g.K.Sink, c.args.out.now)) (link_state (g.L.Link, c.args.link.now)) (g.C.Clock.told c.args.clock.now) (map g.N.Nor.device c.args.boards.now.items))).counts.write_counts

pub returns-in-Migrate-clause-done : goal.returns-in-Migrate-clause-done
returns-in-Migrate-clause-done g c =
    said_done c.args.command.now _ c.in-Migrate.is _ _ _ (c.migrate.ensures.does (outside (input_of (g.S.Source, c.args.input.now)) (output_of (g.K.Sink, c.args.out.now)) (link_state (g.L.Link, c.args.link.now)) (g.C.Clock.told c.args.clock.now) (map g.N.Nor.device c.args.boards.now.items)))

pub returns-in-Migrate-clause-link_fault : goal.returns-in-Migrate-clause-link_fault
returns-in-Migrate-clause-link_fault g c = λ e. absurd (c.migrate.ensures.link e)

pub returns-in-Migrate-clause-writes : goal.returns-in-Migrate-clause-writes
returns-in-Migrate-clause-writes g c = (c.migrate.ensures.does (outside (input_of (g.S.Source, c.args.input.now)) (output_of (g.K.Sink, c.args.out.now)) (link_state (g.L.Link, c.args.link.now)) (g.C.Clock.told c.args.clock.now) (map g.N.Nor.device c.args.boards.now.items))).done.counts.write_counts

pub returns-in-Trial-clause-done : goal.returns-in-Trial-clause-done
returns-in-Trial-clause-done g c =
    said_done c.args.command.now _ c.in-Trial.is _ _ _ (c.trial.ensures.ends (outside (input_of (g.S.Source, c.args.input.now)) (output_of (g.K.Sink, c.args.out.now)) (link_state (g.L.Link, c.args.link.now)) (g.C.Clock.told c.args.clock.now) (map g.N.Nor.device c.args.boards.now.items)))

pub returns-in-Trial-clause-link_fault : goal.returns-in-Trial-clause-link_fault
returns-in-Trial-clause-link_fault g c = λ e. absurd (no_link_trial c.in-Trial.motes c.in-Trial.pages c.in-Trial.seed _ _ _ (c.trial.ensures.ends (outside (input_of (g.S.Source, c.args.input.now)) (output_of (g.K.Sink, c.args.out.now)) (link_state (g.L.Link, c.args.link.now)) (g.C.Clock.told c.args.clock.now) (map g.N.Nor.device c.args.boards.now.items))) e)

pub returns-in-Wrap-clause-done : goal.returns-in-Wrap-clause-done
returns-in-Wrap-clause-done g c =
    said_done c.args.command.now _ c.in-Wrap.is _ _ _ (c.wrap.ensures.does (outside (input_of (g.S.Source, c.args.input.now)) (output_of (g.K.Sink, c.args.out.now)) (link_state (g.L.Link, c.args.link.now)) (g.C.Clock.told c.args.clock.now) (map g.N.Nor.device c.args.boards.now.items)))

pub returns-in-Wrap-clause-link_fault : goal.returns-in-Wrap-clause-link_fault
returns-in-Wrap-clause-link_fault g c = λ e. absurd (no_link_wrap _ _ _ (c.wrap.ensures.does (outside (input_of (g.S.Source, c.args.input.now)) (output_of (g.K.Sink, c.args.out.now)) (link_state (g.L.Link, c.args.link.now)) (g.C.Clock.told c.args.clock.now) (map g.N.Nor.device c.args.boards.now.items))) e)

pub returns-in-Wrap-clause-reads : goal.returns-in-Wrap-clause-reads
returns-in-Wrap-clause-reads g c = (c.wrap.ensures.does (outside (input_of (g.S.Source, c.args.input.now)) (output_of (g.K.Sink, c.args.out.now)) (link_state (g.L.Link, c.args.link.now)) (g.C.Clock.told c.args.clock.now) (map g.N.Nor.device c.args.boards.now.items))).counts.read_counts

pub returns-in-Wrap-clause-writes : goal.returns-in-Wrap-clause-writes
returns-in-Wrap-clause-writes g c = (c.wrap.ensures.does (outside (input_of (g.S.Source, c.args.input.now)) (output_of (g.K.Sink, c.args.out.now)) (link_state (g.L.Link, c.args.link.now)) (g.C.Clock.told c.args.clock.now) (map g.N.Nor.device c.args.boards.now.items))).counts.write_counts

pub returns-in-Check-clause-done : goal.returns-in-Check-clause-done
returns-in-Check-clause-done g c =
    said_done c.args.command.now _ c.in-Check.is _ _ _ (check_said c.in-Check.image _ _ _ _ _ c.as_bytes-in-Check.ensures.value (c.check.ensures.does (outside (input_of (g.S.Source, c.args.input.now)) (output_of (g.K.Sink, c.args.out.now)) (link_state (g.L.Link, c.args.link.now)) (g.C.Clock.told c.args.clock.now) (map g.N.Nor.device c.args.boards.now.items))))

pub returns-in-Check-clause-link_fault : goal.returns-in-Check-clause-link_fault
returns-in-Check-clause-link_fault g c = λ e. absurd (no_link_first _ _ _ _ (c.check.ensures.does (outside (input_of (g.S.Source, c.args.input.now)) (output_of (g.K.Sink, c.args.out.now)) (link_state (g.L.Link, c.args.link.now)) (g.C.Clock.told c.args.clock.now) (map g.N.Nor.device c.args.boards.now.items))).done e)

pub returns-in-Check-clause-writes : goal.returns-in-Check-clause-writes
returns-in-Check-clause-writes g c = (c.check.ensures.does (outside (input_of (g.S.Source, c.args.input.now)) (output_of (g.K.Sink, c.args.out.now)) (link_state (g.L.Link, c.args.link.now)) (g.C.Clock.told c.args.clock.now) (map g.N.Nor.device c.args.boards.now.items))).done.counts.write_counts

pub returns-in-Receive-clause-done : goal.returns-in-Receive-clause-done
returns-in-Receive-clause-done g c =
    said_done c.args.command.now _ c.in-Receive.is _ _ _ (receive_said c.in-Receive.image c.in-Receive.version _ _ _ _ _ _ _ c.as_bytes-named.ensures.value c.as_bytes-digits.ensures.value (c.receive.ensures.does (outside (input_of (g.S.Source, c.args.input.now)) (output_of (g.K.Sink, c.args.out.now)) (link_state (g.L.Link, c.args.link.now)) (g.C.Clock.told c.args.clock.now) (map g.N.Nor.device c.args.boards.now.items))))

pub returns-in-Receive-clause-link_fault : goal.returns-in-Receive-clause-link_fault
returns-in-Receive-clause-link_fault g c = λ e. absurd (no_link_input _ _ _ _ (c.receive.ensures.does (outside (input_of (g.S.Source, c.args.input.now)) (output_of (g.K.Sink, c.args.out.now)) (link_state (g.L.Link, c.args.link.now)) (g.C.Clock.told c.args.clock.now) (map g.N.Nor.device c.args.boards.now.items))).done e)

pub returns-in-Receive-clause-reads : goal.returns-in-Receive-clause-reads
returns-in-Receive-clause-reads g c = (c.receive.ensures.does (outside (input_of (g.S.Source, c.args.input.now)) (output_of (g.K.Sink, c.args.out.now)) (link_state (g.L.Link, c.args.link.now)) (g.C.Clock.told c.args.clock.now) (map g.N.Nor.device c.args.boards.now.items))).done.counts.read_counts

pub returns-in-Receive-clause-writes : goal.returns-in-Receive-clause-writes
returns-in-Receive-clause-writes g c = (c.receive.ensures.does (outside (input_of (g.S.Source, c.args.input.now)) (output_of (g.K.Sink, c.args.out.now)) (link_state (g.L.Link, c.args.link.now)) (g.C.Clock.told c.args.clock.now) (map g.N.Nor.device c.args.boards.now.items))).done.counts.write_counts

pub returns-in-Drip-clause-done : goal.returns-in-Drip-clause-done
returns-in-Drip-clause-done g c =
    let rest = (outside (input_of (g.S.Source, c.args.input.now)) (output_of (g.K.Sink, c.args.out.now)) (link_state (g.L.Link, c.args.link.now)) (g.C.Clock.told c.args.clock.now) (map g.N.Nor.device c.args.boards.now.items)) in
    let replayed = c.drip.ensures.replayed rest in
    let spread = c.drip.ensures.spread rest in
    said_done c.args.command.now _ c.in-Drip.is _ _ _ (record {
      replayed = replayed;
      ends = c.drip.ensures.ends rest;
      boards = refl;
      greatest = spread.greatest replayed;
      rises = spread.rises replayed;
      made = spread.made replayed;
      rounds = spread.rounds replayed;
      sweeps = spread.sweeps replayed;
    })

pub returns-in-Drip-clause-link_fault : goal.returns-in-Drip-clause-link_fault
returns-in-Drip-clause-link_fault g c = λ e. absurd (no_link_of_nodes _ _ _ (c.drip.ensures.replayed (outside (input_of (g.S.Source, c.args.input.now)) (output_of (g.K.Sink, c.args.out.now)) (link_state (g.L.Link, c.args.link.now)) (g.C.Clock.told c.args.clock.now) (map g.N.Nor.device c.args.boards.now.items))) e)

pub returns-in-Base-clause-done : goal.returns-in-Base-clause-done
returns-in-Base-clause-done g c = said_done c.args.command.now _ c.in-Base.is _ _ _ (c.base.ensures.done (outside (input_of (g.S.Source, c.args.input.now)) (output_of (g.K.Sink, c.args.out.now)) (link_state (g.L.Link, c.args.link.now)) (g.C.Clock.told c.args.clock.now) (map g.N.Nor.device c.args.boards.now.items)))

pub returns-in-Base-clause-link_fault : goal.returns-in-Base-clause-link_fault
returns-in-Base-clause-link_fault g c = λ e. absurd (c.base.ensures.link e)
