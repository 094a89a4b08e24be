use Rattle.std.proofs.Common.{arith}
use Rattle.std.proofs.lemmas.List.{length-map}
use Rattle.dg_cli.proofs.ChainLemmas.{checked, root_told}
use Rattle.dg_cli.proofs.chain.check.Goals as goal

pub returns : goal.returns
returns g c = record {
  does = λ rest.
      checked c.args.image _ _ _ _ _ (root_told c.args.root.now c.root_bytes-root.result c.root_bytes-root.ensures) (record {
        done = c.check.ensures.does rest;
        named = c.check.ensures.named;
        own = λ x s h payload is first here some whole same.
            c.check.ensures.own x s h payload is first here (omega (arith, length-map c.args.boards.now.items g.N.Nor.device, some)) whole same;
      });
}
