use Rattle.dg_cli.proofs.ChainLemmas.{received, root_told}
use Rattle.dg_cli.proofs.chain.receive.Goals as goal

pub returns : goal.returns
returns g c = record {
  does = λ rest.
      received c.args.image c.args.version c.args.name.now _ _ _ _ _ (root_told c.args.root.now c.root_bytes-root.result c.root_bytes-root.ensures) (c.receive.ensures.does rest);
}
