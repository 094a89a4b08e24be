use Rattle.std.proofs.Common.{◌≡◌, ◌-◌, ◌++◌, length}
use Rattle.dg_words.specs.Lists.{padded}
use Rattle.dg_object.specs.Sizes.{page_size}
use Rattle.dg_object.specs.Object.{head_of, crcs_to}
use Rattle.dg_object.proofs.object.write_descriptor.Given as goal

abbrev pub invariant-loop-p : goal.invariant-loop-p
invariant-loop-p l = l.into ≡ padded page_size 255 (head_of l.image l.pages l.version (length l.bytes) l.name ++ crcs_to l.bytes (l.p - 1))
