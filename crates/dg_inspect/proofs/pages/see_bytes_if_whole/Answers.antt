use Rattle.dg_object.specs.Records.{details_of}
use Rattle.dg_inspect.proofs.PageLemmas.{whole_bytes, part_bytes}
use Rattle.dg_inspect.proofs.pages.see_bytes_if_whole.Goals as goal

pub returns-then-done-descriptor-clause-bytes : goal.returns-then-done-descriptor-clause-bytes
returns-then-done-descriptor-clause-bytes g c =
    part_bytes (g.N.Nor.device c.args.nor.now).image c.args.first c.args.done (details_of c.args.descriptor.now) c.requires.some c.requires.described c.if-done-descriptor.true

pub returns-clause-bytes : goal.returns-clause-bytes
returns-clause-bytes g c =
    whole_bytes (g.N.Nor.device c.args.nor.now).image c.args.first c.args.done (details_of c.args.descriptor.now) c.in_ok-seen.seen c.requires.some c.requires.described c.if-done-descriptor.false c.in_ok-seen.ensures.crc c.in_ok-seen.ensures.sha256
