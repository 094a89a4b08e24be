use Rattle.std.proofs.Common.{◌&&◌, None, get_or, ap, sym, ◌∙◌}
use Rattle.dg_quiet.specs.Times.{request_window, packet_window}
use Rattle.dg_quiet.specs.Noted.{is_past, may_ask}
use Rattle.dg_quiet.proofs.NotedLaws.{get-moments_of, may_ask-is}
use Rattle.dg_quiet.proofs.Windows.may_ask.Goals as goal

pub returns-clause-value : goal.returns-clause-value
returns-clause-value c =
    c.are_over.ensures
    ∙ (λ i.
    is_past (get_or c.self.inside.requests (c.window_of-k.ensures i) None) request_window c.args.now
    && is_past (get_or c.self.inside.packets (c.window_of-k.ensures i) None) packet_window c.args.now)
    ∙ (λ i.
    is_past (sym (get-moments_of c.self.inside.requests c.args.image c.requires.low) i) request_window c.args.now
    && is_past (sym (get-moments_of c.self.inside.packets c.args.image c.requires.low) i) packet_window c.args.now)
    ∙ ap (λ n. may_ask n c.args.now c.args.image) c.self.view_is

pub returns-clause-over : goal.returns-clause-over
returns-clause-over c = rw (returns-clause-value c) (may_ask-is c.args.self.now c.args.now c.args.image)
