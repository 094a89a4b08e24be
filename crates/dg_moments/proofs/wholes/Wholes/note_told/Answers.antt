use Rattle.std.proofs.Common.{◌<◌, length, arith}
use Rattle.std.specs.Prelude.{map}
use Rattle.dg_meter.specs.Meters.{metered_device}
use Rattle.dg_moments.proofs.TellingLemmas.{wholes_stay, wholes_told, told_of, device_there, length_devices}
use Rattle.dg_moments.proofs.wholes.Wholes.note_told.Goals as goal

pub returns-then-motes-mote-clause-brings : goal.returns-then-motes-mote-clause-brings
returns-then-motes-mote-clause-brings g c initial stores past p same is at tells has =
    wholes_stay c.args.self.now c.args.mote (map (metered_device g.N.Nor.device) c.args.boards.now) initial stores past p tells
    (λ lt. absurd (omega (arith, lt, same, c.if-motes-mote.true))) has

pub returns-then-boards-index-clause-brings : goal.returns-then-boards-index-clause-brings
returns-then-boards-index-clause-brings g c initial stores past p same is at tells has =
    wholes_stay c.args.self.now c.args.mote (map (metered_device g.N.Nor.device) c.args.boards.now) initial stores past p tells
    (λ lt. absurd (omega (arith, lt, same, tells.enough, length_devices (metered_device g.N.Nor.device) c.args.boards.now, c.if-boards-index.true, c.from-index.ensures))) has

pub returns-clause-brings : goal.returns-clause-brings
returns-clause-brings g c initial stores past p same is at tells has =
    let within : c.args.mote < length c.args.boards.now = omega (arith, c.if-boards-index.false, c.from-index.ensures) in
    let lt : c.args.mote < length stores = omega (arith, c.if-motes-mote.false, same) in
    let device = metered_device g.N.Nor.device in
    wholes_told c.args.self.now c.note_lines.new.self initial stores past p c.note_lines.ensures.stays
    (c.note_lines.ensures.brings stores past p same is at
    (told_of c.args.mote (map device c.args.boards.now) (device c.index-boards-index.result) stores past p tells lt
    (device_there device c.args.boards.now c.args.mote c.from-index.result c.index-boards-index.result c.from-index.ensures within c.index-boards-index.is))) has
