use Rattle.std.proofs.Common.{◌+◌, ◌*◌, ap, sym, ◌∙◌, arith}
use Rattle.std.specs.FinSet as set
use Rattle.dg_bits.specs.ByteForm.{numbers_of}
use Rattle.dg_bits.proofs.SetLaws.{up_to, up_to-none, up_to-all}
use Rattle.dg_bits.proofs.ByteFormLaws.{counts_byte, AllBelow-packed, AllBelow-wider}
use Rattle.dg_bits.proofs.PageBits.count.Goals as goal

pub loop-k-init : goal.loop-k-init
loop-k-init g c =
    record {
      counted = sym (ap set.len (up_to-none (numbers_of c.self.inside.bytes)) ∙ set.len-empty _);
      few = omega arith;
    }

pub loop-k-preserved : goal.loop-k-preserved
loop-k-preserved g c =
    record {
      counted = (λ i. c.loop-k.invariant.counted i + c.bits_set-members.ensures.bits i) ∙ sym (counts_byte c.self.inside.bytes c.loop-k.k);
      few = omega (arith, c.loop-k.invariant.few, c.bits_set-members.ensures.few);
    }

pub returns-clause-value : goal.returns-clause-value
returns-clause-value g c =
    let all = AllBelow-packed g.row.N c.self.inside.bytes c.args.self.now c.self.view_is c.self.invariant.within in
    c.loop-k.invariant.counted
    ∙ ap (λ s. set.len (up_to s (8 * c.loop-k.k))) c.self.view_is
    ∙ ap set.len (up_to-all c.args.self.now (8 * c.loop-k.k) (AllBelow-wider g.row.N (8 * c.loop-k.k) c.args.self.now (omega arith) all))

pub returns-clause-within : goal.returns-clause-within
returns-clause-within g c = AllBelow-packed g.row.N c.self.inside.bytes c.args.self.now c.self.view_is c.self.invariant.within
