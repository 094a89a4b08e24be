use Rattle.std.proofs.Common.{Bool, ap, ◌∙◌, option_map}
use Rattle.dg_rules.specs.World.{Sent, frame_at}
use Rattle.dg_events.specs.RefusedFrames.{fault_brought}
use Rattle.dg_count.proofs.FaultLemmas.{one_brought}
use Rattle.dg_count.proofs.frame_counting.count_wide.Goals as goal

pub returns : goal.returns
returns c past p shown has =
    c.hear.ensures past p
    (one_brought c.args.number c.args.mote c.wide_fault.result c.requires.hears c.requires.mote c.requires.number
    (λ boards w is. ap (λ (wide : Bool). fault_brought wide (option_map (λ (s : Sent). s.bytes) (frame_at w c.args.number))) (c.requires.wide boards w is)
    ∙ c.wide_fault.ensures boards w is) shown) has
