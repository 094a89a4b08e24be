use Rattle.std.proofs.Common.{◌<◌, rules, ⊎_elim, arith}
use Rattle.std.proofs.lemmas.Bool.{cases_lt}
use Rattle.dg_object.specs.Sizes.{page_size}
use Rattle.dg_breaks.proofs.ByteLemmas.{program_at, program_whole}
use Rattle.dg_breaks.proofs.bytes.program_byte.Goals as goal

pub returns-in_default-clause-breaks : goal.returns-in_default-clause-breaks
returns-in_default-clause-breaks g c = absurd (c.requires (search rules))

pub returns-clause-breaks : goal.returns-clause-breaks
returns-clause-breaks g c =
    let image = (g.N.Nor.device c.args.nor.now).image in
    let fit = c.descriptor_bytes.ensures.fit in
    let within = fit.within in
    let low : c.descriptor_bytes.result < page_size = ⊎_elim (λ h. h)
    (λ full. absurd (program_whole _ image c.in-Set.image c.in-Set.version c.args.program c.in-Set.is c.in_ok-read_in.ensures.bytes c.requires (c.descriptor_bytes.ensures.whole (omega (arith, within, full)))))
    (cases_lt c.descriptor_bytes.result page_size) in
    program_at _ image c.in-Set.image c.in-Set.version c.descriptor_bytes.result c.args.program c.in-Set.is c.in_ok-read_in.ensures.bytes fit low
