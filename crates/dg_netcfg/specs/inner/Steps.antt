-- The steps of reading a profile, for private contracts and proofs.
use Rattle.std.specs.Prelude.{ℕ, if◌then◌else◌, ℤ, List, Option, Some}
use Rattle.std.specs.Prelude.{None, option_and_then, Result, Ok}
use Rattle.toml.specs.Data.{Items, Members}
use Rattle.dg_netcfg.specs.Document.{number_in_range}
use Rattle.dg_netcfg.specs.declared.profile.NetProfile.{NetProfile}
use Rattle.dg_netcfg.specs.declared.profile.ProfileFault.{ProfileFault}
use Rattle.dg_netcfg.specs.declared.profile.ProfileFault.TheVariants.{NotToml, Key, Id, Link, Port}
use Rattle.dg_netcfg.specs.Sizes.{most_motes, least_port, greatest_port}
use Rattle.dg_netcfg.specs.Profile.{profile_fields, has_repeat, links_of, needed}

abbrev pub once : Option (List (ℕ × ℕ)) → Option (List (ℕ × ℕ))
once all = option_and_then (λ links. if has_repeat links then None else Some links) all

abbrev pub with_port : ℕ → List (ℕ × ℕ) → Option ℕ → Result NetProfile ProfileFault
with_port motes links found = needed Port found (λ port. Ok (record { motes = motes; port = port; links = links }))

abbrev pub with_links : ℕ → ℤ → Option (List (ℕ × ℕ)) → Result NetProfile ProfileFault
with_links motes port found = needed Link found (λ links. with_port motes links (number_in_range least_port greatest_port port))

abbrev pub with_motes : ℤ → Items → Option ℕ → Result NetProfile ProfileFault
with_motes port entries found = needed Id found (λ motes. with_links motes port (links_of motes entries))

abbrev pub with_fields : Option (ℤ × ℤ × Items) → Result NetProfile ProfileFault
with_fields found = needed Key found (λ f. with_motes f.1 f.2 (number_in_range 1 most_motes f.0))

abbrev pub with_document : Option Members → Result NetProfile ProfileFault
with_document found = needed NotToml found (λ document. with_fields (profile_fields document))
