use Rattle.std.proofs.Common.{◌+◌, ◌*◌, ◌∙◌, true, get_or, sym, arith, rules}
use Rattle.std.proofs.lemmas.List.{length-set}
use Rattle.dg_base.specs.Hexadecimal.{hex_bytes}
use Rattle.dg_base.proofs.HexLemmas.{ahead_of-nil, read_on, read_all}
use Rattle.dg_command.proofs.RootLemmas.{root_length, root_digit, one_value}
use Rattle.dg_command.proofs.roots.root_bytes.Goals as goal

pub loop-at-init : goal.loop-at-init
loop-at-init c = record { read = (ahead_of-nil (hex_bytes c.args.root.now), tt); digits = root_length c.args.root.now c.requires; bytes = search rules }

pub hex_value-requires : goal.hex_value-requires
hex_value-requires c = root_digit c.args.root.now (2 * c.loop-at.at) c.requires (omega arith)

pub hex_value-requires-in-loop-at : goal.hex_value-requires-in-loop-at
hex_value-requires-in-loop-at c = root_digit c.args.root.now (2 * c.loop-at.at + 1) c.requires (omega arith)

pub loop-at-preserved : goal.loop-at-preserved
loop-at-preserved c =
    let i = c.loop-at.invariant in
    let root = c.args.root.now in
    let k = c.loop-at.at in
    let high = root_digit root (2 * k) c.requires (omega arith) in
    let low = root_digit root (2 * k + 1) c.requires (omega arith) in
    record {
      read = read_on root c.loop-at.bytes k c.hex_value.result c.hex_value-in-loop-at.result true true true (omega (arith, i.digits)) (omega (arith, i.bytes))
          (sym high) (one_value (get_or root (2 * k) 0) c.hex_value.result c.hex_value.ensures.value)
          (sym low) (one_value (get_or root (2 * k + 1) 0) c.hex_value-in-loop-at.result c.hex_value-in-loop-at.ensures.value) i.read;
      digits = i.digits;
      bytes = length-set c.loop-at.bytes k (c.hex_value.result * 16 + c.hex_value-in-loop-at.result) ∙ i.bytes;
    }

pub returns : goal.returns
returns c =
    let i = c.loop-at.invariant in
    read_all c.args.root.now c.loop-at.bytes c.loop-at.at true (omega (arith, i.bytes, c.loop-at-test.false)) (omega (arith, i.digits, i.bytes)) i.read
