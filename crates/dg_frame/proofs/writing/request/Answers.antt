use Rattle.std.proofs.Common.{rules, ◌≡◌, ◌++◌, ap, ◌∙◌}
use Rattle.std.specs.Int.{to_be_bytes, w16}
use Rattle.dg_base.specs.Crc.{crc_of}
use Rattle.dg_frame.specs.Spelling.{unchecked, frame_of}
use Rattle.dg_frame.specs.declared.Message.TheVariants as message
use Rattle.dg_frame.proofs.writing.request.Goals as goal

pub returns-clause-items : goal.returns-clause-items
unfolding frame_of
returns-clause-items c =
    let body : c.put_set.new.frame.items ≡ unchecked (message.Request c.args.source c.args.to c.args.image c.args.version c.args.page c.args.want.now) = search rules in
    c.end.ensures ∙ ap (λ bytes. bytes ++ to_be_bytes w16 (crc_of bytes)) body
