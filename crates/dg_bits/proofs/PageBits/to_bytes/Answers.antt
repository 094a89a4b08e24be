use Rattle.std.proofs.Common.{◌+◌, ◌*◌, ◌/◌, take, ap, ◌∙◌, arith}
use Rattle.dg_bits.specs.ByteForm.{numbers_of, byte_form}
use Rattle.dg_bits.proofs.ByteFormLaws.{byte_form-packed, numbers_of-byte_form, AllBelow-packed, AllBelow-wider}
use Rattle.dg_bits.proofs.PageBits.to_bytes.Goals as goal

pub returns-clause-within : goal.returns-clause-within
returns-clause-within g c = AllBelow-packed g.row.N c.self.inside.bytes c.args.self.now c.self.view_is c.self.invariant.within

pub returns-clause-written : goal.returns-clause-written
returns-clause-written g c =
    c.copy_from_slice.ensures.after
    ∙ ap (λ n. take n c.self.inside.bytes) c.requires
    ∙ byte_form-packed g.row.N ((g.row.N + 7) / 8) c.self.inside.bytes c.self.invariant (omega (arith, c.self.invariant.not_over))
    ∙ ap (byte_form ((g.row.N + 7) / 8)) c.self.view_is

pub returns-clause-reads_back : goal.returns-clause-reads_back
returns-clause-reads_back g c =
    ap numbers_of (returns-clause-written g c)
    ∙ numbers_of-byte_form ((g.row.N + 7) / 8) c.args.self.now (AllBelow-wider g.row.N (8 * ((g.row.N + 7) / 8)) c.args.self.now (omega arith) (returns-clause-within g c))
