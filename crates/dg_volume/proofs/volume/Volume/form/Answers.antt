use Rattle.std.proofs.Common.{sym, subst}
use Rattle.dg_control.specs.Store.{HasForm}
use Rattle.dg_volume.proofs.volume.Volume.form.Goals as goal

pub returns-clause-told : goal.returns-clause-told
returns-clause-told c chip mounted = subst (HasForm chip) (sym c.form.ensures) (c.a_chip_has_one_form.ensures.told chip c.args.self.now.control mounted.1.control)

pub returns-clause-known : goal.returns-clause-known
returns-clause-known c chip mounted =
    c.a_chip_has_one_form.ensures.two chip c.form.result (subst (HasForm chip) (sym c.form.ensures) (c.a_chip_has_one_form.ensures.told chip c.args.self.now.control mounted.1.control))
