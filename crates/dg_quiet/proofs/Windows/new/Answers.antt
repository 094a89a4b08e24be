use Rattle.dg_quiet.specs.Sizes.{windowed_images}
use Rattle.dg_quiet.proofs.NotedLaws.{moments_of-none}
use Rattle.dg_quiet.proofs.Windows.new.Goals as goal

pub returns : goal.returns
returns c = λ i. record { requests = moments_of-none windowed_images i; packets = moments_of-none windowed_images i }
