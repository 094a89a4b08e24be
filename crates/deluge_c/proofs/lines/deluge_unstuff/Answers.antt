use Rattle.std.proofs.Common.{◌≡◌, [], refl}
use Rattle.dg_serial.specs.Line.{items, flag_split}
use Rattle.deluge_c.proofs.lines.deluge_unstuff.Goals as goal

none_items : items [] ≡ []
unfolding items flag_split
none_items = refl

pub loop-byte-init : goal.loop-byte-init
loop-byte-init c = record { behind = c.new-reading.ensures.stream; none = none_items }
