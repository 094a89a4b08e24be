use Rattle.std.proofs.Common.{List, ℕ, ◌∙◌, ap}
use Rattle.dg_xmss.specs.Functions.{xor, f, prf}
use Rattle.dg_xmss.specs.Addresses.{ots_address}
use Rattle.dg_xmss.specs.Wots.{chain_step}
use Rattle.dg_xmss.proofs.prf.Prf.step.Goals as goal

pub returns : goal.returns
unfolding chain_step
returns c =
    c.f.ensures
    ∙ ap (λ (k : List ℕ). f k c.lay_over.new.mask) c.at-key.ensures
    ∙ ap (f (prf c.args.self.now.seed.now (ots_address c.args.leaf c.args.chain c.args.hash 0))) (c.lay_over.ensures ∙ ap (xor c.args.node.now) c.at-mask.ensures)
