use Rattle.std.proofs.Common.{refl, sym, subst, arith}
use Rattle.dg_moments.specs.Looking.{ReadsBoards}
use Rattle.dg_count.proofs.counter.Counter.new.Goals as goal

pub returns : goal.returns
returns c = record {
  seen = λ initial now reads. (
    subst (λ g. ReadsBoards g.items initial) (sym c.new-4.ensures.given) reads,
    record {
      counted = c.new.ensures;
      timed = c.new-2.ensures;
      framed = c.new-3.ensures;
      noted = c.new-4.ensures.wholes;
      told = record {
        others = c.have_lines_tell_what_became_whole.ensures.others;
        untold = c.have_lines_tell_what_became_whole.ensures.untold;
      };
      motes = refl;
      few = omega arith;
    },
    (refl, λ m b lt there awake. absurd (omega (arith, lt))),
  );
}
