use Rattle.std.proofs.Common.{Some, ap, ◌∙◌, arith}
use Rattle.std.proofs.Math.ListN.{set as put}
use Rattle.dg_quiet.specs.Noted.{with_packet, moments_of}
use Rattle.dg_quiet.proofs.NotedLaws.{moments_of-put}
use Rattle.dg_quiet.proofs.Windows.note_packet.Goals as goal

pub returns : goal.returns
returns c =
    let noted = ap (λ k. moments_of (put c.self.inside.packets k (Some c.args.now))) c.window_of-k.ensures
    ∙ moments_of-put c.self.inside.packets c.args.image c.args.now c.requires.low (omega (arith, c.requires.high, c.self.invariant.1)) in
    (λ i. record { packets = noted i; requests = moments_of c.self.inside.requests })
    ∙ ap (λ n. with_packet n c.args.now c.args.image) c.self.view_is
