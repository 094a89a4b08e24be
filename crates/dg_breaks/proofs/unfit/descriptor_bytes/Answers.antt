use Rattle.std.proofs.Common.{◌≡◌, rules, arith}
use Rattle.dg_object.specs.Sizes.{head_size}
use Rattle.dg_breaks.proofs.ByteLemmas.{page_head_fit, page_fit, page_whole}
use Rattle.dg_breaks.proofs.unfit.descriptor_bytes.Goals as goal

pub returns-then-spelled-lt-HEAD_SIZE-clause-fit : goal.returns-then-spelled-lt-HEAD_SIZE-clause-fit
returns-then-spelled-lt-HEAD_SIZE-clause-fit c = page_head_fit c.args.page.now _ c.args.image c.args.version c.args.pages c.head_bytes-spelled.result (search rules) c.head_bytes-spelled.ensures.fit (omega arith)

pub returns-clause-fit : goal.returns-clause-fit
returns-clause-fit c =
    let fit = c.head_bytes-spelled.ensures.fit in
    let within = fit.within in
    let whole : c.head_bytes-spelled.result ≡ head_size = omega (arith, within) in
    page_fit c.args.page.now _ c.args.image c.args.version c.args.pages c.head_bytes-spelled.result _ c.filled_bytes.result (search rules) fit whole (search rules) (omega (arith, c.filled_bytes.ensures.within)) c.filled_bytes.ensures.before (λ low. c.filled_bytes.ensures.here (omega (arith, low)))

pub returns-clause-whole : goal.returns-clause-whole
returns-clause-whole c = λ full.
    let fit = c.head_bytes-spelled.ensures.fit in
    let within = fit.within in
    let whole : c.head_bytes-spelled.result ≡ head_size = omega (arith, within) in
    page_whole c.args.page.now _ c.args.image c.args.version c.args.pages _ c.filled_bytes.result (search rules) (c.head_bytes-spelled.ensures.whole whole) (omega arith) (search rules) c.filled_bytes.ensures.before full
