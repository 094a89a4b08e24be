use Rattle.std.proofs.Common.{◌≤◌, ◌<◌, length, subst}
use Rattle.toml.specs.View.{view}
use Rattle.dg_netcfg.proofs.ProfileLemmas.{link_of-short, link_of-long}
use Rattle.dg_netcfg.proofs.links.profile_link.Goals as goal

pub returns-in_default : goal.returns-in_default
returns-in_default c =
    link_of-short c.args.motes (view c.args.entry.now) c.in_ok-as_array.field-0.now.items c.in_ok-as_array.ensures (subst (λ vs. length vs < 2) c.as_slice.ensures.value c.in_default.len_below)

pub returns-in_default-2 : goal.returns-in_default-2
returns-in_default-2 c =
    link_of-long c.args.motes (view c.args.entry.now) c.in_ok-as_array.field-0.now.items c.in_ok-as_array.ensures (subst (λ vs. 3 ≤ length vs) c.as_slice.ensures.value c.in_default.len_at_least)
