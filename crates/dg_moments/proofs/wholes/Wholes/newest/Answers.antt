use Rattle.std.proofs.Common.{sym, ap, ◌∙◌, cond, Bool}
use Rattle.std.specs.Prelude.{None}
use Rattle.dg_moments.specs.Wholes.{all_in}
use Rattle.dg_moments.proofs.NewestLemmas.{newest_in, newest_is}
use Rattle.dg_moments.proofs.wholes.Wholes.newest.Goals as goal

pub returns-in_default : goal.returns-in_default
returns-in_default c kept moments all loaded knows =
    sym (ap (newest_in c.args.self.now c.args.motes c.args.image) c.in_default.is)
    ∙ newest_is c.args.self.now c.args.motes c.args.image kept moments all c.newest_version.result loaded knows c.newest_version.ensures

pub returns-then-not-have_all : goal.returns-then-not-have_all
returns-then-not-have_all c kept moments all loaded knows =
    sym (ap (λ (b : Bool). cond b (all_in c.args.self.now.last c.args.image c.in-Some.version) None) (sym c.have_all.ensures ∙ c.if-not-have_all.true))
    ∙ sym (ap (newest_in c.args.self.now c.args.motes c.args.image) c.in-Some.is)
    ∙ newest_is c.args.self.now c.args.motes c.args.image kept moments all c.newest_version.result loaded knows c.newest_version.ensures

pub returns : goal.returns
returns c kept moments all loaded knows =
    c.copied.ensures ∙ c.get.ensures.value
    ∙ sym (ap (λ (b : Bool). cond b (all_in c.args.self.now.last c.args.image c.in-Some.version) None) (sym c.have_all.ensures ∙ c.if-not-have_all.false))
    ∙ sym (ap (newest_in c.args.self.now c.args.motes c.args.image) c.in-Some.is)
    ∙ newest_is c.args.self.now c.args.motes c.args.image kept moments all c.newest_version.result loaded knows c.newest_version.ensures
