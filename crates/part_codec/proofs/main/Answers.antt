use Rattle.std.proofs.Common.{ℕ, ◌≤◌, List, length, refl, sym, subst, ◌∙◌, arith}
use Rattle.dg_frame.specs.Grammar.{in_range}
use Rattle.dg_frame.specs.Spelling.{frame_of}
use Rattle.part_codec.proofs.main.Goals as goal

pub write-frame-requires : goal.write-frame-requires
unfolding in_range
write-frame-requires c = refl

pub stuff-requires-clause-some : goal.stuff-requires-clause-some
unfolding frame_of
stuff-requires-clause-some c =
    subst (λ (bytes : List ℕ). 1 ≤ length bytes) (sym (c.as_slice.ensures.value ∙ c.write-frame.ensures.spelled)) (omega arith)
