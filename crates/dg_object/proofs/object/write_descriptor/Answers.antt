use Rattle.std.proofs.Common.{◌≡◌, ◌+◌, ◌-◌, ◌*◌, ◌++◌, length, ap, ◌∙◌, arith}
use Rattle.std.specs.Int.{to_be_bytes, w16}
use Rattle.dg_words.specs.Lists.{padded}
use Rattle.dg_object.specs.Sizes.{page_size}
use Rattle.dg_object.specs.Object.{head_of, crcs_to}
use Rattle.dg_object.proofs.PageLemmas.{length-descriptor, crcs_more}
use Rattle.dg_object.proofs.object.write_descriptor.Goals as goal

pub loop-p-preserved : goal.loop-p-preserved
loop-p-preserved c =
    let head = head_of c.args.image c.pages_of-pages.result c.args.version (length c.args.bytes.now) c.args.name.now in
    let crcs = crcs_to c.args.bytes.now (c.loop-p.p - 1) in
    let place : length (head ++ crcs) ≡ 28 + 2 * (c.from.result - 1) =
    rw c.from.ensures (length-descriptor c.args.image c.pages_of-pages.result c.args.version (length c.args.bytes.now) (c.loop-p.p - 1) c.args.name.now c.args.bytes.now c.requires.named) in
    c.put_half.ensures (head ++ crcs) place c.loop-p.invariant
    ∙ ap (padded page_size 255) (crcs_more c.args.bytes.now head (to_be_bytes w16 c.data_page_crc-crc.result) c.loop-p.p (omega arith) (ap (to_be_bytes w16) c.data_page_crc-crc.ensures))
