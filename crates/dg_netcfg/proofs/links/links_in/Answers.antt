use Rattle.std.proofs.Common.{ap, sym, ◌∙◌}
use Rattle.toml.specs.View.{view}
use Rattle.dg_netcfg.specs.Profile.{profile_link}
use Rattle.dg_netcfg.proofs.ProfileLemmas.{all_of-whole, all_of-missing}
use Rattle.dg_netcfg.proofs.links.links_in.Goals as goal

pub returns-in_default : goal.returns-in_default
returns-in_default c =
    let none = ap (λ v. profile_link c.args.motes (view v)) (sym c.entry-item.is) ∙ sym c.profile_link.ensures ∙ c.in_default.is in
    all_of-missing (profile_link c.args.motes) c.args.entries.now c.loop-entry.entry-index c.entry-item.result c.loop-entry-test.true none

pub returns : goal.returns
returns c = all_of-whole (profile_link c.args.motes) c.args.entries.now c.loop-entry.entry-index c.loop-entry.links.items c.loop-entry.invariant c.loop-entry-test.false
