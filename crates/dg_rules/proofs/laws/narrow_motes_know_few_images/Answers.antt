use Rattle.dg_rules.proofs.WidthLemmas.{refuses_injection, refuses_order}
use Rattle.dg_rules.proofs.laws.narrow_motes_know_few_images.Goals as goal

pub returns : goal.returns
returns c = record {
  injects = λ w m image version dt word narrow high. refuses_injection w m image version dt word narrow high;
  orders = λ w m number image version dt word narrow high. refuses_order w m number image version dt word narrow high;
}
